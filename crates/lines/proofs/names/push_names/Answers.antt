use Rattle.std.proofs.Common.{arith}
use Rattle.std.proofs.lemmas.Grind.{common_steps}
use Rattle.lines.proofs.LinesCallerLemmas.{pushed_append}
use Rattle.lines.proofs.names.push_names.Goals as goal

pub loop-s-preserved : goal.loop-s-preserved
loop-s-preserved c = grind (arith, common_steps, pushed_append)
