use Rattle.std.proofs.Common.{◌∙◌, ap, is_some}
use Rattle.command_line.proofs.command.read_command.Goals as goal

pub read_argument_line-requires : goal.read_argument_line-requires
read_argument_line-requires c = let some = c.in-Some.ensures.some in ap is_some some.0 ∙ some.1
