use Rattle.version_update.proofs.VersionOneSettling.{one_result, one_answer, settled_stay, least_of_numbers}
use Rattle.version_update.proofs.VersionTestMasks.{named}
use Rattle.version_update.proofs.laws.version_mark_settling_laws.Goals as goal

pub returns : goal.returns
returns c = record {
  one_result = one_result;
  one_answer = one_answer;
  idle = settled_stay;
  named = named;
  least = least_of_numbers;
}
