use Rattle.std.proofs.Common.{◌≡◌, take}
use Rattle.trace_audit.proofs.words.after.Given as goal

abbrev pub invariant-loop-place : goal.invariant-loop-place
invariant-loop-place l = take l.place l.text ≡ take l.place l.word
