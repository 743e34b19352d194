-- The first matches of the two policies, and what is none.
use Rattle.std.proofs.Common.{[], ◌∙◌, ◌∷◌, ◌≡◌, ◌≤◌, Some, arith, refl, sym}
use Rattle.std.proofs.lemmas.List.Elements.{All-contains, All-from_recursion, All-head}
use Rattle.policy_rules.specs.Exports.{IsFirstPolicyMatch}
use Rattle.update_machine.specs.Exports.{Action, Drop, Hit, Out, Row}
use Rattle.wrong_journals.specs.Exports.{wrong_journal_allowed, wrong_journal_denied, wrong_journal_everywhere, wrong_journals_policy, wrong_journal_row, wrong_journals_second_policy, wrong_journal_server_room}

abbrev pub by_100 : Action → Hit
by_100 action = record { rule = Some 100; action = action }

abbrev pub by_200 : Hit
by_200 = record { rule = Some 200; action = Drop }

-- ---- what is a first match

pub first_of_allowed : IsFirstPolicyMatch wrong_journals_policy wrong_journal_allowed (by_100 (Out 2))
first_of_allowed = (
  wrong_journal_row 100 wrong_journal_everywhere (Out 2),
  record {
    member = (0, omega arith, refl);
    highest = All-from_recursion (λ (other : Row). other.priority ≤ 100)
        (wrong_journal_row 100 wrong_journal_everywhere (Out 2) ∷ []) (omega arith, tt);
  },
  refl,
  refl,
)

pub first_of_denied : IsFirstPolicyMatch wrong_journals_policy wrong_journal_denied by_200
first_of_denied = (
  wrong_journal_row 200 wrong_journal_server_room Drop,
  record {
    member = (0, omega arith, refl);
    highest = All-from_recursion (λ (other : Row). other.priority ≤ 200) wrong_journals_policy
        (omega arith, (omega arith, tt));
  },
  refl,
  refl,
)

pub second_of_allowed : IsFirstPolicyMatch wrong_journals_second_policy wrong_journal_allowed (by_100 Drop)
second_of_allowed = (
  wrong_journal_row 100 wrong_journal_everywhere Drop,
  record {
    member = (0, omega arith, refl);
    highest = All-from_recursion (λ (other : Row). other.priority ≤ 100) wrong_journals_second_policy
        (omega arith, tt);
  },
  refl,
  refl,
)

-- ---- what is none

-- the row 100 isn't the highest that matches
pub no_first_of_denied : IsFirstPolicyMatch wrong_journals_policy wrong_journal_denied (by_100 (Out 2)) → ⊥
no_first_of_denied first =
    let above : 200 ≤ first.0.priority =
    All-head (λ (other : Row). other.priority ≤ first.0.priority)
    (wrong_journal_row 200 wrong_journal_server_room Drop) (wrong_journal_row 100 wrong_journal_everywhere (Out 2) ∷ []) first.1.highest in
    let own : first.0.priority ≡ 100 = first.2 in omega (arith, above, own)

-- the only row of the second policy drops
pub no_second_of_allowed : IsFirstPolicyMatch wrong_journals_second_policy wrong_journal_allowed (by_100 (Out 2)) → ⊥
no_second_of_allowed first =
    let drops : first.0.action ≡ Drop =
    All-contains (λ (row : Row). row.action ≡ Drop) wrong_journals_second_policy first.0
    (All-from_recursion (λ (row : Row). row.action ≡ Drop) wrong_journals_second_policy (refl, tt))
    first.1.member in
    let both : Drop ≡ Out 2 = sym drops ∙ first.3 in cc
