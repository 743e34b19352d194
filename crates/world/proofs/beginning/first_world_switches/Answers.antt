use Rattle.std.proofs.Common.{[], ◌++◌, ◌<◌, ◌∙◌, ◌∷◌, ◌≡◌, ap, arith, length, map, subst, sym, ℕ}
use Rattle.base.proofs.Exports.{map-range_with_len_more, range_with_len}
use Rattle.failover.specs.Exports.{first_adverts}
use Rattle.switch_core.specs.Exports.{HasSwitchAdvertUpTo, SwitchValue, new_switch}
use Rattle.switch_core.proofs.SwitchLaws.{own_first}
use Rattle.net_file.specs.Exports.{links_of}
use Rattle.switch_table.specs.Exports.{tables_of}
use Rattle.update_machine.specs.Exports.{Tables}
use Rattle.refinement.specs.Exports.{refined_switch_begun}
use Rattle.refinement.proofs.RefinedTakenLegs.{first_near, first_tables}
use Rattle.world.proofs.beginning.first_world_switches.Goals as goal

pub begin-requires-clause-own : goal.begin-requires-clause-own
begin-requires-clause-own c =
    let below : c.loop-number.number < 64 =
    omega (arith, ap length c.items-count.ensures, c.requires.net.few_switches) in
    subst (λ base. HasSwitchAdvertUpTo base c.loop-number.number 1 1) (sym c.begin-base.ensures)
    (own_first c.args.near.now (length c.items-count.result.now) c.loop-number.number below)

pub begin-requires-clause-version : goal.begin-requires-clause-version
begin-requires-clause-version c = cc (first_tables c.args.net.now c.args.controller.now
    c.requires.first.0 _ c.loop-number.number c.requires.first.1 c.in_ok-tables.ensures.tables)

pub loop-number-preserved : goal.loop-number-preserved
loop-number-preserved c = λ plan is. let number = c.loop-number.number in
    let net = c.args.net.now in
    let each : ℕ → SwitchValue = refined_switch_begun net plan.hosted in
    let told : c.begin-base.result ≡ first_adverts (map (links_of net.links)
    (range_with_len 0 (length net.switches))) (length net.switches) =
    c.begin-base.ensures ∙ ap (first_adverts c.args.near.now) (ap length c.items-count.ensures)
    ∙ first_near net c.args.near.now c.requires.net c.requires.near in
    let one : c.in_ok-begin.field-0 ≡ each number = c.in_ok-begin.ensures
    ∙ ap (λ (tables : Tables). new_switch number net.cache tables c.begin-base.result)
    (first_tables net c.args.controller.now plan _ number is c.in_ok-tables.ensures.tables)
    ∙ ap (new_switch number net.cache (tables_of plan.hosted 1 number)) told in
    c.in_ok-push.ensures.items
    ∙ ap (λ all. all ++ c.in_ok-begin.field-0 ∷ []) (c.loop-number.invariant plan is)
    ∙ ap (λ s. map each (range_with_len 0 number) ++ s ∷ []) one
    ∙ sym (map-range_with_len_more each 0 number number (omega arith))
