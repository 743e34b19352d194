use Rattle.std.proofs.Common.{◌≡◌, take}
use Rattle.ctrl_msg.proofs.same.are_same_control_message_values.Given as goal

abbrev pub invariant-loop-place : goal.invariant-loop-place
invariant-loop-place g l = take l.place l.one ≡ take l.place l.other
