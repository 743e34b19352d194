use Rattle.difane_cli.proofs.ProgramOneSwitch.{one_partition}
use Rattle.difane_cli.proofs.laws.program_one_switch_laws.Goals as goal

pub returns : goal.returns
returns c = one_partition c.rule_list_laws.ensures c.tree_laws.ensures
