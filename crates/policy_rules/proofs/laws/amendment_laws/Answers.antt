use Rattle.policy_rules.proofs.AmendmentCases.{IsPolicy-applied, can_apply, rows-applied}
use Rattle.policy_rules.proofs.AmendmentTouchedHeaders.{first_match-amended, scan-apart, scan-untouched}
use Rattle.policy_rules.proofs.laws.amendment_laws.Goals as goal

pub returns : goal.returns
returns c = record {
  policy = IsPolicy-applied;
  few = λ rows after change is. (can_apply rows after change is).few;
  rows = rows-applied;
  decides = first_match-amended;
  same = scan-untouched;
  apart = scan-apart;
}
