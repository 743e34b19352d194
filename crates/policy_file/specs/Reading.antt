-- The policy that a text states, as CSV records: a heading, and a record for each row.
use Rattle.std.specs.Prelude.{[], if◌then◌else◌, ◌+◌, ◌<◌, ◌==◌, ◌∷◌, ◌≡◌, ◌≤◌, Bool, Err, List, MatchOption, None, Ok, Option, Result, Some, codes, filter_map, length, map, option_map, slice_index_or, suc, take, zero, ℕ}
use Rattle.base.specs.Exports.{option_map_or, option_or, result_ok}
use Rattle.csv_records.specs.Texts.{is_csv_heading, csv_records_of}
use Rattle.five_tuple.specs.Exports.{tuple_number_up_to, address_prefix_of, proto_of, port_range_of}
use Rattle.policy_rules.specs.Exports.{policy_action_of, policy_has_priority}
use Rattle.policy_rules.specs.declared.policy.Row.{Row}
use Rattle.base.specs.declared.row.InRow.{InRow}
use Rattle.policy_file.specs.declared.error.PolicyRefusal.{PolicyRefusal}
use Rattle.policy_file.specs.declared.error.PolicyRefusal.TheVariants as why

-- the number of each refusal, as it is printed and documented
abbrev pub policy_file_refusal_code : PolicyRefusal → ℕ
policy_file_refusal_code why.Header = 1
policy_file_refusal_code why.Width = 2
policy_file_refusal_code why.Priority = 3
policy_file_refusal_code why.Src = 4
policy_file_refusal_code why.Dst = 5
policy_file_refusal_code why.Sport = 6
policy_file_refusal_code why.Dport = 7
policy_file_refusal_code why.Proto = 8
policy_file_refusal_code why.Action = 9
policy_file_refusal_code why.SamePriority = 10
policy_file_refusal_code why.TooManyRows = 11
policy_file_refusal_code why.Op = 22

abbrev pub policy_file_heading : List (List ℕ)
policy_file_heading =
    codes "priority" ∷ codes "src" ∷ codes "dst" ∷ codes "sport" ∷ codes "dport" ∷ codes "proto"
    ∷ codes "action" ∷ []

-- what `next` makes of a field's value, or the refusal if the field has none
abbrev pub with_policy_file_field : {X Y : Type 0} → Option X → PolicyRefusal → (X → Result Y PolicyRefusal)
    → Result Y PolicyRefusal
with_policy_file_field (Some value) refusal next = next value
with_policy_file_field None refusal next = Err refusal

-- the row that the fields state, or the refusal of the first field that can't be read
abbrev pub csv_policy_row_read : List (List ℕ) → Result Row PolicyRefusal
csv_policy_row_read (priority ∷ src ∷ dst ∷ sport ∷ dport ∷ proto ∷ action ∷ []) =
    with_policy_file_field (tuple_number_up_to 4294967295 priority) why.Priority
    (λ priority. with_policy_file_field (address_prefix_of src) why.Src
    (λ src. with_policy_file_field (address_prefix_of dst) why.Dst (λ dst. with_policy_file_field (port_range_of sport) why.Sport
    (λ sport. with_policy_file_field (port_range_of dport) why.Dport (λ dport. with_policy_file_field (proto_of proto) why.Proto
    (λ proto. with_policy_file_field (policy_action_of action) why.Action (λ action. Ok (record {
      priority = priority;
      src = src;
      dst = dst;
      sport = sport;
      dport = dport;
      proto = proto;
      action = action;
    }))))))))
csv_policy_row_read _ = Err why.Width

-- ---- the rows of a file, of any kind

-- how a file states its rows: its heading, what a record states, and which row repeats another
pub record PolicyFileRowFormat (X : Type 0) : Type 0 where
  pub heading : List (List ℕ)
  pub read : List (List ℕ) → Result X PolicyRefusal
  pub repeats : List X → X → Bool

-- the rows that records state
abbrev pub csv_policy_rows_stated : {X : Type 0} → PolicyFileRowFormat X → List (List (List ℕ)) → List X
csv_policy_rows_stated format records = filter_map (λ fields. result_ok (format.read fields)) records

-- why a record is refused after earlier rows: it states no row, or one that repeats an earlier one
abbrev pub policy_file_row_refusal_after : {X : Type 0} → PolicyFileRowFormat X → List X → Result X PolicyRefusal
    → Option PolicyRefusal
policy_file_row_refusal_after format earlier (Err refusal) = Some refusal
policy_file_row_refusal_after format earlier (Ok row) =
    if format.repeats earlier row then Some why.SamePriority else None

-- why the record at this place is refused, if it is: a file has at most 2,000 rows
abbrev pub policy_file_row_refusal_at : {X : Type 0} → PolicyFileRowFormat X → List (List (List ℕ)) → ℕ → Option PolicyRefusal
policy_file_row_refusal_at format records place =
    if place == 2000 then Some why.TooManyRows
    else policy_file_row_refusal_after format (csv_policy_rows_stated format (take place records))
    (format.read (slice_index_or records place []))

-- the value of the least of the numbers below n that has one
abbrev pub policy_file_first_row_refused : {X : Type 0} → (ℕ → Option X) → ℕ → Option X
policy_file_first_row_refused at zero = None
policy_file_first_row_refused at (suc n) = option_or (policy_file_first_row_refused at n) (at n)

-- why the record at this place is refused, if it is, with its row, counted from 1
abbrev pub policy_file_row_refused_at : {X : Type 0} → PolicyFileRowFormat X → List (List (List ℕ)) → ℕ
    → Option (InRow PolicyRefusal)
policy_file_row_refused_at format records place =
    option_map (λ refusal. record { refusal = refusal; row = place + 1 })
    (policy_file_row_refusal_at format records place)

-- the first refusal among the records
abbrev pub policy_file_first_refusal : {X : Type 0} → PolicyFileRowFormat X → List (List (List ℕ))
    → Option (InRow PolicyRefusal)
policy_file_first_refusal format records = policy_file_first_row_refused (policy_file_row_refused_at format records) (length records)

-- the rows that the records state, one each, or the first refusal among them
abbrev pub policy_file_stated_rows : {X : Type 0} → PolicyFileRowFormat X → List (List (List ℕ))
    → Result (List X) (InRow PolicyRefusal)
policy_file_stated_rows format records =
    option_map_or Err (policy_file_first_refusal format records) (Ok (csv_policy_rows_stated format records))

abbrev pub no_policy_file_heading : {X : Type 0} → Result (List X) (InRow PolicyRefusal)
no_policy_file_heading = Err (record { refusal = why.Header; row = 0 })

-- the rows under the heading
abbrev pub policy_file_rows_under_heading : {X : Type 0} → PolicyFileRowFormat X → List (List (List ℕ))
    → Result (List X) (InRow PolicyRefusal)
policy_file_rows_under_heading format [] = no_policy_file_heading
policy_file_rows_under_heading format (first ∷ records) =
    if is_csv_heading format.heading first then policy_file_stated_rows format records else no_policy_file_heading

-- the rows that a text states
abbrev pub csv_policy_rows_in : {X : Type 0} → PolicyFileRowFormat X → List ℕ → Result (List X) (InRow PolicyRefusal)
csv_policy_rows_in format bytes = policy_file_rows_under_heading format (csv_records_of bytes)

-- ---- policies

-- no two rows of a policy have the same priority
abbrev pub policy_file_rows : PolicyFileRowFormat Row
policy_file_rows = record {
  heading = policy_file_heading;
  read = csv_policy_row_read;
  repeats = λ earlier row. policy_has_priority earlier row.priority;
}

-- the policy that a text states
unfoldable pub policy_file_policy_of : List ℕ → Result (List Row) (InRow PolicyRefusal)
policy_file_policy_of bytes = csv_policy_rows_in policy_file_rows bytes

-- ---- rows that were read from records

-- the records state these rows, one each
abbrev pub PolicyFileRecordsStateEach : {X : Type 0} → PolicyFileRowFormat X → List (List (List ℕ)) → List X → Type 0
PolicyFileRecordsStateEach format records rows = map format.read records ≡ map (λ row. Ok row) rows

-- the first records state these rows; then the records end, or the next is refused for this
pub record IsPolicyReadUpTo {X : Type 0} (format : PolicyFileRowFormat X) (records : List (List (List ℕ)))
    (rows : List X) (end : Option PolicyRefusal) : Type 0 where
  pub stated : PolicyFileRecordsStateEach format (take (length rows) records) rows
  pub few : length rows ≤ 2000
  pub within : length rows ≤ length records
  pub ends : MatchOption end (length records ≡ length rows)
      (λ refusal. (length rows < length records)
      × (policy_file_row_refusal_at format records (length rows) ≡ Some refusal))

-- under the text's heading there are records that state these rows and end like this
pub record IsPolicyReadFrom {X : Type 0} (format : PolicyFileRowFormat X) (bytes : List ℕ) (rows : List X)
    (end : Option PolicyRefusal) : Type 0 where
  pub records : List (List (List ℕ))
  pub under : csv_policy_rows_in format bytes ≡ policy_file_stated_rows format records
  pub read : IsPolicyReadUpTo format records rows end
