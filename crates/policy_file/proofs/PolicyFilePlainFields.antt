-- The printed forms of fields need no quotes.
use Rattle.std.proofs.Common.{[], ◌∷◌, ◌≡◌, List, arith, decimal, false, get_or, refl, true, ℕ}
use Rattle.base.proofs.Exports.{AllPass, list_any, list_any-append, list_any_none, nat_tests, ⊤}
use Rattle.csv.specs.Writing.{default_writer, needs_byte}
use Rattle.five_tuple.specs.Exports.{PlainTupleTextLaws, is_plain_tuple_char}
use Rattle.policy_rules.specs.Exports.{PolicyEditAddsOnly, HasSmallPolicyActionPort, IsSoundPolicyEdit, IsSoundPolicyRow, policy_action_text}
use Rattle.policy_rules.specs.declared.policy.Action.{Action}
use Rattle.policy_rules.specs.declared.policy.Action.TheVariants.{Drop, Out}
use Rattle.policy_rules.specs.declared.policy.Row.{Row}
use Rattle.policy_rules.specs.declared.amendment.Edit.{Edit}
use Rattle.policy_rules.specs.declared.amendment.Edit.TheVariants.{Remove, Add}
use Rattle.policy_file.specs.Exports.{policy_file_edit_fields, policy_file_row_fields}

abbrev pub IsPlain : List ℕ → Type 0
IsPlain text = list_any (needs_byte default_writer) text ≡ false

abbrev pub ArePlain : List (List ℕ) → Type 0
ArePlain [] = ⊤
ArePlain (field ∷ fields) = IsPlain field × ArePlain fields

-- fields of which a line is one record: two or more, without quotes
abbrev pub IsPlainRecord : List (List ℕ) → Type 0
IsPlainRecord (x ∷ y ∷ fields) = ArePlain (x ∷ y ∷ fields)
IsPlainRecord _ = ⊥

plain_char : (c : ℕ) → is_plain_tuple_char c ≡ true → needs_byte default_writer c ≡ false
plain_char c plain = grind (arith, nat_tests)

plain_text : (text : List ℕ) → AllPass is_plain_tuple_char text → IsPlain text
plain_text text plain = list_any_none (needs_byte default_writer) text
    (λ k d within. plain_char (get_or text k d) (plain k d within))

plain_action : PlainTupleTextLaws → (a : Action) → HasSmallPolicyActionPort a → IsPlain (policy_action_text a)
plain_action laws Drop small = refl
plain_action laws (Out port) small = rw list_any-append
    (plain_text (decimal port) (laws.number port (omega arith)))

pub plain_row : PlainTupleTextLaws → (row : Row) → IsSoundPolicyRow row → HasSmallPolicyActionPort row.action
    → ArePlain (policy_file_row_fields row)
plain_row laws row sound small = (
  plain_text (decimal row.priority) (laws.number row.priority (omega (arith, sound.priority))),
  (
    plain_text _ (laws.prefix row.src sound.src),
    (
      plain_text _ (laws.prefix row.dst sound.dst),
      (
        plain_text _ (laws.range row.sport sound.sport),
        (
          plain_text _ (laws.range row.dport sound.dport),
          (
            plain_text _ (laws.proto row.proto sound.proto),
            (plain_action laws row.action small, tt),
          ),
        ),
      ),
    ),
  ),
)

pub plain_edit : PlainTupleTextLaws → (edit : Edit) → IsSoundPolicyEdit edit
    → PolicyEditAddsOnly (λ row. HasSmallPolicyActionPort row.action) edit → IsPlainRecord (policy_file_edit_fields edit)
plain_edit laws (Remove priority) sound small =
    (refl, (plain_text (decimal priority) (laws.number priority (omega (arith, sound))), tt))
plain_edit laws (Add row) sound small = (refl, plain_row laws row sound small)
