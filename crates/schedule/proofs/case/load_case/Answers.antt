use Rattle.schedule.proofs.LoadCaseDraws.{case_playable}
use Rattle.schedule.proofs.case.load_case.Goals as goal

pub returns-clause-playable : goal.returns-clause-playable
returns-clause-playable c = rw c.in_ok-case.ensures.case (case_playable c.args.n c.requires.1)
