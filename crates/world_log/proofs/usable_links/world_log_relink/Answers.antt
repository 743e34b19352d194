use Rattle.std.proofs.Common.{◌++◌, ◌<◌, ◌∙◌, ◌≡◌, ap, arith, get_or, get_or-set_other, get_or-set_same, inl, inr, length, length-set, refl, set, subst, sym}
use Rattle.base.proofs.Exports.{cases_lt, get_or_default}
use Rattle.switch_core.specs.Exports.{SwitchValue}
use Rattle.world_log.specs.Exports.{logged_adverts_on_change, log_switch_relinked}
use Rattle.world_log.proofs.LogRelinking.{all_below, all_more, all_none, all_of_them}
use Rattle.world_log.proofs.usable_links.world_log_relink.Goals as goal

pub loop-s-init : goal.loop-s-init
loop-s-init c = (
  refl,
  λ s d below. absurd (omega (arith, below)),
  λ s d past. refl,
  c.new-messages.ensures.items ∙ sym (all_none (length c.args.switches.now.items)
      c.args.had.now c.args.now.now c.args.switches.now.items),
)

pub loop-s-preserved : goal.loop-s-preserved
loop-s-preserved c =
    let old = c.args.switches.now.items in
    let so = c.loop-s.switches.items in
    let n = c.loop-s.s in
    let had = c.args.had.now in
    let now = c.args.now.now in
    let inv = c.loop-s.invariant in
    let one : SwitchValue = c.relink_world_log_switch.new.switch in
    let own : SwitchValue = c.index_mut.result.now in
    let within : n < length so = omega (arith, c.loop-s-test.true, inv.0) in
    let at : own ≡ get_or old n own = c.index_mut.ensures.value ∙ inv.2 n own (omega arith) in
    let is : one ≡ log_switch_relinked (get_or had n 0) (get_or now n 0) own =
    c.relink_world_log_switch.ensures.switch in (
      length-set so n one ∙ inv.0,
      λ s d below. elim (cases_lt s n) [
        | inl less ↦ get_or-set_other so n s one d (omega (arith, less)) ∙ inv.1 s d less
        | inr more ↦ let same : n ≡ s = omega (arith, below, more) in
            subst (λ k. get_or (set so n one) k d
            ≡ log_switch_relinked (get_or had k 0) (get_or now k 0) (get_or old k d)) same
            (get_or-set_same so n one d within
            ∙ is ∙ ap (log_switch_relinked (get_or had n 0) (get_or now n 0)) (c.index_mut.ensures.value
            ∙ get_or_default so n own d within ∙ inv.2 n d (omega arith)))
      ],
      λ s d past. get_or-set_other so n s one d (omega (arith, past))
          ∙ inv.2 s d (omega (arith, past)),
      c.in_ok-relink_world_log_switch.ensures.told ∙ ap (λ count. c.loop-s.messages.items
          ++ logged_adverts_on_change count (get_or had n 0) (get_or now n 0) own) (omega arith)
          ∙ ap (λ js. js ++ logged_adverts_on_change (length old) (get_or had n 0) (get_or now n 0) own)
          inv.3 ∙ ap (λ w. all_below (length old) had now old n
          ++ logged_adverts_on_change (length old) (get_or had n 0) (get_or now n 0) w) at
          ∙ sym (all_more (length old) had now old n own (omega (arith, within, inv.0))),
    )

pub returns-clause-told : goal.returns-clause-told
returns-clause-told c = let old = c.args.switches.now.items in
    c.loop-s.invariant.3
    ∙ ap (all_below (length old) c.args.had.now c.args.now.now old) (omega arith)
    ∙ all_of_them c.args.had.now c.args.now.now old
