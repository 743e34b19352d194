use Rattle.std.proofs.Common.{◌&&◌, ◌++◌, ◌==◌, ◌∙◌, ◌≡◌, ap, arith, ne_eqb, not, sym, true}
use Rattle.switch_core.specs.Exports.{near_changed, switch_next_advert}
use Rattle.world_log.proofs.LogRelinking.{told_all, told_below}
use Rattle.world_log.specs.Exports.{log_links_change}
use Rattle.world_log.proofs.usable_links.relink_world_log_switch.Goals as goal

pub returns-clause-told : goal.returns-clause-told
returns-clause-told c =
    let old = c.args.switch.now in
    let near = c.args.near in
    let changed : log_links_change c.args.had near old ≡ true =
    ap (λ b. b && not (c.args.had == near)) (sym c.if-not-is_up.ensures)
    ∙ ap not (ne_eqb c.args.had near c.if-had-near.false) in
    c.loop-other.invariant
    ∙ ap (λ w. c.args.messages.now.items
    ++ told_below w c.near_changed-own.result c.args.had near c.loop-other.other)
    c.near_changed-own.ensures.after
    ∙ ap (λ own. c.args.messages.now.items
    ++ told_below (near_changed old near) own c.args.had near c.loop-other.other)
    c.near_changed-own.ensures.advert
    ∙ ap (λ n. c.args.messages.now.items
    ++ told_below (near_changed old near) (switch_next_advert old near) c.args.had near n) (omega arith)
    ∙ ap (λ more. c.args.messages.now.items ++ more)
    (told_all old c.args.count c.args.had near changed)
