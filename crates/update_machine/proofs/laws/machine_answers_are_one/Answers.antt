use Rattle.update_machine.proofs.JournalFirstSteps.{one_answer, one_by_steps}
use Rattle.update_machine.proofs.JournalSomePlay.{answers_so_far, begins_itself}
use Rattle.update_machine.proofs.laws.machine_answers_are_one.Goals as goal

pub returns : goal.returns
returns c = record {
  one = one_answer;
  so_far = one_by_steps;
  whole = answers_so_far;
  begins = begins_itself;
}
