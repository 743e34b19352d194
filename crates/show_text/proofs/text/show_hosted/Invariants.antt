use Rattle.std.proofs.Common.{◌++◌, ◌≡◌, flat_map, take}
use Rattle.show_text.specs.Text.{shown_hosted_lines}
use Rattle.show_text.proofs.text.show_hosted.Given as goal

abbrev pub invariant-loop-part : goal.invariant-loop-part
invariant-loop-part l = l.text.items ≡ l.initial.text.items ++ flat_map
    (shown_hosted_lines l.net) (take l.part-index l.hosted)
