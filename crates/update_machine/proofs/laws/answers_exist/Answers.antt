use Rattle.update_machine.proofs.JournalAnswerExistence.{answer_goes_on, answered_where, steps_answered}
use Rattle.update_machine.proofs.laws.answers_exist.Goals as goal

pub returns : goal.returns
returns c = record { exactly = answered_where; single = steps_answered; goes_on = answer_goes_on }
