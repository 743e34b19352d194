use Rattle.std.proofs.Common.{◌∙◌, ◌≡◌, arith, sym}
use Rattle.world_log.proofs.LogRelinking.{again_all, again_none}
use Rattle.world_log.proofs.again.world_log_adverts_again.Goals as goal

pub returns-then-not-is_up : goal.returns-then-not-is_up
returns-then-not-is_up c = c.new-messages.ensures.items ∙ again_none c.args.s c.args.count
    c.args.near c.args.switch.now (sym c.is_up.ensures ∙ c.if-not-is_up.true)

pub returns : goal.returns
returns c = let all : c.loop-other.other ≡ c.args.count = omega arith in
    cc (again_all c.args.s c.args.count c.args.near c.args.switch.now
    (sym c.is_up.ensures ∙ c.if-not-is_up.false))
