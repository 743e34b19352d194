use Rattle.std.proofs.Common.{◌++◌, ◌≡◌}
use Rattle.controller.specs.Exports.{controller_news_body, controller_posts_to, controller_switches_in_mask}
use Rattle.controller.proofs.settling.send_to_switches.Given as goal

-- those of the switches so far that the mask names are told
abbrev pub invariant-loop-s : goal.invariant-loop-s
invariant-loop-s l = l.acts.items ≡ l.initial.acts.items ++ controller_posts_to l.marks
    (controller_news_body l.news l.version) (controller_switches_in_mask l.mask l.s)
