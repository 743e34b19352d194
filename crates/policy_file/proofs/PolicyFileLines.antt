-- The lines of a text are its records, and state what was printed.
use Rattle.std.proofs.Common.{[], ◌++◌, ◌+◌, ◌<◌, ◌^◌, ◌∙◌, ◌∷◌, ◌≡◌, ◌≤◌, All, List, None, Ok, Some, add-one, ap, append-nil, arith, cond, decimal, false, get_or, length, length-append, map, refl, suc, sym, take, take_all, true, zero, ℕ}
use Rattle.base.proofs.Exports.{AllByRecursion, flat_map-append, join_with_byte, length-map, recursion_from_All, take_more}
use Rattle.csv.specs.Machine.{next_record}
use Rattle.csv.specs.Reading.{default_config, records, records_from, records_next, strip_bom}
use Rattle.csv.specs.Writing.{default_writer, field_text, fields_text, is_blank, row_text}
use Rattle.csv.specs.declared.parser.State.TheVariants as st
use Rattle.csv.proofs.RoundTrip.{read-write-many}
use Rattle.csv_records.specs.Texts.{is_csv_heading}
use Rattle.five_tuple.specs.Exports.{PlainTupleTextLaws, tuple_number_up_to, address_prefix_of, address_prefix_text, proto_of, proto_text, port_range_of, port_range_text}
use Rattle.policy_rules.specs.Exports.{PolicyEditAddsOnly, HasSmallPolicyActionPort, IsPolicyAmendment, IsPolicy, IsSoundPolicyEdit, IsSoundPolicyRow, policy_action_of, policy_action_text}
use Rattle.policy_rules.specs.declared.amendment.Edit.{Edit}
use Rattle.policy_rules.specs.declared.amendment.Edit.TheVariants.{Remove, Add}
use Rattle.policy_rules.specs.declared.file.PolicyFile.TheVariants.{Whole, Change}
use Rattle.policy_rules.specs.declared.policy.Row.{Row}
use Rattle.policy_file.specs.Exports.{IsPolicyReadUpTo, PolicyFileRowFormat, PolicyFileRecordsStateEach, policy_file_change_heading, csv_change_of, policy_file_change_rows, policy_file_change_text, policy_file_edit_fields, csv_policy_edit_read, policy_file_fields_line, is_policy_file_change_text, policy_file_read_as, policy_file_of, policy_file_heading, policy_file_policy_of, policy_file_rows, policy_file_text, policy_file_row_fields, csv_policy_row_read, policy_file_rows_text, policy_file_rows_under_heading}
use Rattle.policy_file.proofs.PolicyFilePlainFields.{ArePlain, IsPlain, IsPlainRecord, plain_edit, plain_row}
use Rattle.policy_file.proofs.PolicyFileRows.{NoneRepeats, all_fresh_edits, all_fresh_rows, all_read}
use Rattle.csv_records.proofs.CsvRecordsCallerLemmas.{over}

plain_field : (field : List ℕ) → IsPlain field → field_text default_writer field ≡ field
plain_field field plain = rw plain refl

plain_body : (field : List ℕ) (fields : List (List ℕ)) → ArePlain (field ∷ fields)
    → field_text default_writer field ++ fields_text default_writer fields ≡ join_with_byte 44
    (field ∷ fields)
unfolding fields_text
plain_body field [] plain = rw (plain_field field plain.0) (append-nil field)
plain_body field (next ∷ fields) plain = rw (plain_field field plain.0)
    (ap (λ rest. field ++ 44 ∷ rest) (plain_body next fields plain.1))

plain_line : (x y : List ℕ) (fields : List (List ℕ)) → ArePlain (x ∷ y ∷ fields)
    → row_text default_writer (x ∷ y ∷ fields) ≡ policy_file_fields_line (x ∷ y ∷ fields)
unfolding is_blank
plain_line x y fields plain = ap (λ body. body ++ 10 ∷ []) (plain_body x (y ∷ fields) plain)

-- the line of fields without quotes is one record
one_record : (fields : List (List ℕ)) (tail : List ℕ) → IsPlainRecord fields
    → next_record default_config st.StartRecord [] [] (policy_file_fields_line fields ++ tail) ≡ Some
    (fields, st.StartRecord, tail)
one_record (x ∷ y ∷ fields) tail plain = ap (λ text. next_record default_config st.StartRecord [] []
    (text ++ tail)) (sym (plain_line x y fields plain)) ∙ read-write-many x y fields tail
one_record [] tail plain = absurd plain
one_record (x ∷ []) tail plain = absurd plain

-- ---- rows of any kind, by the printed forms of their fields

module _ {X : Type 0} (fields : X → List (List ℕ)) where
  -- one line more
  pub rows_text-more : (rows : List X) (i : ℕ) (d : X) → i < length rows
      → policy_file_rows_text fields (take (i + 1) rows)
      ≡ policy_file_rows_text fields (take i rows) ++ policy_file_fields_line (fields (get_or rows i d))
  rows_text-more rows i d within = ap (policy_file_rows_text fields) (take_more rows i d within)
      ∙ flat_map-append (λ row. policy_file_fields_line (fields row)) (take i rows) (get_or rows i d ∷ [])
      ∙ ap (λ last. policy_file_rows_text fields (take i rows) ++ last) (append-nil _)

  abbrev pub ArePlainRows : List X → Type 0
  ArePlainRows rows = AllByRecursion (λ row. IsPlainRecord (fields row)) rows

  records_of_lines : (rows : List X) (n : ℕ) → length rows ≤ n → ArePlainRows rows
      → records_from default_config n st.StartRecord (policy_file_rows_text fields rows) ≡ map fields rows
  unfolding records_from
  records_of_lines [] n room plain = over default_config n
  records_of_lines (row ∷ rows) zero room plain = absurd (omega arith)
  records_of_lines (row ∷ rows) (suc n) room plain =
      ap (records_next (records_from default_config n))
      (one_record (fields row) (policy_file_rows_text fields rows) plain.0)
      ∙ ap (λ rest. fields row ∷ rest) (records_of_lines rows n (omega arith) plain.1)

  lines_are_long : (rows : List X) → length rows ≤ length (policy_file_rows_text fields rows)
  lines_are_long [] = omega arith
  lines_are_long (row ∷ rows) = let rest = lines_are_long rows in
      omega (
        arith,
        length-append (policy_file_fields_line (fields row)) (policy_file_rows_text fields rows),
        length-append (join_with_byte 44 (fields row)) (10 ∷ []),
      )

  pub records_of_text : (heading : List (List ℕ)) (rows : List X) → IsPlainRecord heading
      → ArePlainRows rows → records default_config (policy_file_fields_line heading ++ policy_file_rows_text fields rows)
      ≡ heading ∷ map fields rows
  unfolding records_from
  records_of_text heading rows clean plain =
      let text = policy_file_fields_line heading ++ policy_file_rows_text fields rows in
      let long = lines_are_long rows in
      rw (add-one (length text)) (
      ap (records_next (records_from default_config (length text)))
      (one_record heading (policy_file_rows_text fields rows) clean)
      ∙ ap (λ rest. heading ∷ rest)
      (records_of_lines rows (length text)
      (omega (arith, length-append (policy_file_fields_line heading) (policy_file_rows_text fields rows))) plain)
      )

  abbrev pub StateRows : PolicyFileRowFormat X → List X → Type 0
  StateRows format rows = AllByRecursion (λ row. format.read (fields row) ≡ Ok row) rows

  states_back : (format : PolicyFileRowFormat X) (rows : List X) → StateRows format rows
      → PolicyFileRecordsStateEach format (map fields rows) rows
  states_back format [] back = refl
  states_back format (row ∷ rows) back = cc (back.0, states_back format rows back.1)

  -- the records that rows were printed as state them
  pub rows_back : (format : PolicyFileRowFormat X) (rows : List X) → NoneRepeats format rows (length rows)
      → length rows ≤ 2000 → StateRows format rows → is_csv_heading format.heading format.heading ≡ true
      → policy_file_rows_under_heading format (format.heading ∷ map fields rows) ≡ Ok rows
  rows_back format rows fresh few back heads =
      let long : length (map fields rows) ≡ length rows = length-map rows fields in
      let read : IsPolicyReadUpTo format (map fields rows) rows None = record {
        stated = rw (take_all (length rows) (map fields rows) (omega arith))
            (states_back format rows back);
        few = few;
        within = omega arith;
        ends = long;
      } in
      rw heads (all_read format (map fields rows) rows read fresh)

-- ---- policies

-- a row's printed fields state the row
pub row_back : (row : Row) → tuple_number_up_to 4294967295 (decimal row.priority) ≡ Some row.priority
    → address_prefix_of (address_prefix_text row.src) ≡ Some row.src → address_prefix_of (address_prefix_text row.dst) ≡ Some
    row.dst
    → port_range_of (port_range_text row.sport) ≡ Some row.sport → port_range_of (port_range_text row.dport) ≡ Some
    row.dport → proto_of (proto_text row.proto) ≡ Some row.proto
    → policy_action_of (policy_action_text row.action) ≡ Some row.action
    → csv_policy_row_read (policy_file_row_fields row) ≡ Ok row
row_back row priority src dst sport dport proto action =
    rw (priority, src, dst, sport, dport, proto, action) refl

abbrev pub AreStatedRows : Type 0
AreStatedRows = (row : Row) → IsSoundPolicyRow row → HasSmallPolicyActionPort row.action
    → csv_policy_row_read (policy_file_row_fields row) ≡ Ok row

abbrev HaveSmallPorts : List Row → Type 0
HaveSmallPorts rows = All (λ (row : Row). HasSmallPolicyActionPort row.action) rows

policy_records : PlainTupleTextLaws → (rows : List Row) → IsPolicy rows → HaveSmallPorts rows
    → records default_config (policy_file_text rows) ≡ policy_file_heading ∷ map policy_file_row_fields rows
policy_records laws rows policy small = records_of_text policy_file_row_fields policy_file_heading rows
    (refl, (refl, (refl, (refl, (refl, (refl, (refl, tt)))))))
    (recursion_from_All (λ (row : Row). IsPlainRecord (policy_file_row_fields row)) rows
    (λ k d h. plain_row laws _ (policy.sound k d h) (small k d h)))

pub policy_back : PlainTupleTextLaws → AreStatedRows → (rows : List Row) → IsPolicy rows
    → length rows ≤ 2000 → HaveSmallPorts rows → policy_file_policy_of (policy_file_text rows) ≡ Ok rows
unfolding policy_file_policy_of strip_bom
policy_back laws stated rows policy few small = rw (policy_records laws rows policy small)
    (rows_back policy_file_row_fields policy_file_rows rows (all_fresh_rows rows policy.distinct) few
    (recursion_from_All (λ (row : Row). csv_policy_row_read (policy_file_row_fields row) ≡ Ok row) rows
    (λ k d h. stated _ (policy.sound k d h) (small k d h))) refl)

no_change : PlainTupleTextLaws → (rows : List Row) → IsPolicy rows → HaveSmallPorts rows
    → is_policy_file_change_text (policy_file_text rows) ≡ false
unfolding is_policy_file_change_text strip_bom
no_change laws rows policy small = rw (policy_records laws rows policy small) refl

pub whole_back : PlainTupleTextLaws → AreStatedRows → (rows : List Row) → IsPolicy rows
    → length rows ≤ 2000 → HaveSmallPorts rows → policy_file_of (policy_file_text rows) ≡ Ok (Whole rows)
unfolding policy_file_of
whole_back laws stated rows policy few small = let text = policy_file_text rows in
    ap (λ change. cond change (policy_file_read_as Change (csv_change_of text)) (policy_file_read_as Whole (policy_file_policy_of text)))
    (no_change laws rows policy small)
    ∙ ap (policy_file_read_as Whole) (policy_back laws stated rows policy few small)

-- ---- changes

abbrev AreRead : Type 0
AreRead = (priority : ℕ) → priority < 2 ^ 32
    → tuple_number_up_to 4294967295 (decimal priority) ≡ Some priority

abbrev AddSmallPorts : List Edit → Type 0
AddSmallPorts edits = All (PolicyEditAddsOnly (λ (row : Row). HasSmallPolicyActionPort row.action)) edits

-- an edit's printed fields state the edit
edit_back : AreRead → AreStatedRows → (edit : Edit) → IsSoundPolicyEdit edit
    → PolicyEditAddsOnly (λ (row : Row). HasSmallPolicyActionPort row.action) edit
    → csv_policy_edit_read (policy_file_edit_fields edit) ≡ Ok edit
edit_back read stated (Remove priority) sound small = rw (read priority sound) refl
edit_back read stated (Add row) sound small = ap (policy_file_read_as Add) (stated row sound small)

change_records : PlainTupleTextLaws → (edits : List Edit) → IsPolicyAmendment edits → AddSmallPorts edits
    → records default_config (policy_file_change_text edits) ≡ policy_file_change_heading ∷ map policy_file_edit_fields edits
change_records laws edits change small = records_of_text policy_file_edit_fields policy_file_change_heading edits
    (refl, (refl, (refl, (refl, (refl, (refl, (refl, (refl, tt))))))))
    (recursion_from_All (λ edit. IsPlainRecord (policy_file_edit_fields edit)) edits
    (λ k d h. plain_edit laws _ (change.sound k d h) (small k d h)))

pub change_back : PlainTupleTextLaws → AreRead → AreStatedRows → (edits : List Edit) → IsPolicyAmendment edits
    → length edits ≤ 2000 → AddSmallPorts edits → csv_change_of (policy_file_change_text edits) ≡ Ok edits
unfolding csv_change_of strip_bom
change_back laws read stated edits change few small = rw (change_records laws edits change small)
    (rows_back policy_file_edit_fields policy_file_change_rows edits (all_fresh_edits edits change.distinct) few
    (recursion_from_All (λ edit. csv_policy_edit_read (policy_file_edit_fields edit) ≡ Ok edit) edits
    (λ k d h. edit_back read stated _ (change.sound k d h) (small k d h))) refl)

is_change : PlainTupleTextLaws → (edits : List Edit) → IsPolicyAmendment edits → AddSmallPorts edits
    → is_policy_file_change_text (policy_file_change_text edits) ≡ true
unfolding is_policy_file_change_text strip_bom
is_change laws edits change small = rw (change_records laws edits change small) refl

pub change_file_back : PlainTupleTextLaws → AreRead → AreStatedRows → (edits : List Edit)
    → IsPolicyAmendment edits → length edits ≤ 2000 → AddSmallPorts edits
    → policy_file_of (policy_file_change_text edits) ≡ Ok (Change edits)
unfolding policy_file_of
change_file_back laws read stated edits change few small = let text = policy_file_change_text edits in
    ap (λ is. cond is (policy_file_read_as Change (csv_change_of text)) (policy_file_read_as Whole (policy_file_policy_of text)))
    (is_change laws edits change small)
    ∙ ap (policy_file_read_as Change) (change_back laws read stated edits change few small)
