-- The fields of a record, one by one.
use Rattle.std.proofs.Common.{[], ◌&&◌, ◌∙◌, ◌∷◌, ◌≡◌, ◌≢◌, Err, List, None, Some, ap, arith, bytes_eq, codes, drop, false, length, refl, ℕ}
use Rattle.base.proofs.Exports.{and-true}
use Rattle.csv.specs.Records.{field_at}
use Rattle.csv_records.specs.Texts.{csv_field_or_empty, is_csv_heading}
use Rattle.net_file.specs.declared.net.Net.{Net}
use Rattle.schedule.specs.Kinds.{schedule_kind_of}
use Rattle.schedule.specs.Rows.{schedule_event_of, schedule_row_event_with, schedule_heading}
use Rattle.schedule.specs.declared.error.ScheduleRefusal.TheVariants as why
use Rattle.schedule.specs.declared.kind.Kind.{Kind}
use Rattle.schedule.specs.declared.kind.Kind.TheVariants as kind

-- ---- the heading

pub is_heading-two : (fields : List (List ℕ)) → length fields ≡ 2
    → is_csv_heading schedule_heading fields ≡ (bytes_eq (csv_field_or_empty fields 0) (codes "event")
    && bytes_eq (csv_field_or_empty fields 1) (codes "arguments"))
unfolding field_at
is_heading-two (a ∷ b ∷ []) two = ap (λ last. bytes_eq a (codes "event") && last)
    (and-true (bytes_eq b (codes "arguments")))
is_heading-two _ two = absurd (omega arith)

pub is_heading-other : (fields : List (List ℕ)) → length fields ≢ 2
    → is_csv_heading schedule_heading fields ≡ false
is_heading-other [] other = refl
is_heading-other (a ∷ []) other = grind arith
is_heading-other (a ∷ b ∷ []) other = absurd (other refl)
is_heading-other (a ∷ b ∷ c ∷ more) other = grind arith

-- ---- the kind

no_keyword : schedule_kind_of [] ≡ None
unfolding schedule_kind_of
no_keyword = refl

pub schedule_event_of-no_kind : (net : Net) (files : ℕ) (fields : List (List ℕ))
    → schedule_kind_of (csv_field_or_empty fields 0) ≡ None → schedule_event_of net files fields ≡ Err why.Kind
unfolding field_at
schedule_event_of-no_kind net files [] none = refl
schedule_event_of-no_kind net files (keyword ∷ fields) none = rw none refl

-- ---- the width

pub schedule_event_of-known : (net : Net) (files : ℕ) (fields : List (List ℕ)) (k : Kind)
    → schedule_kind_of (csv_field_or_empty fields 0) ≡ Some k
    → schedule_event_of net files fields ≡ schedule_row_event_with net files k (drop 1 fields)
unfolding field_at
schedule_event_of-known net files [] k is = cc (no_keyword, is)
schedule_event_of-known net files (keyword ∷ fields) k is = rw is refl

none_behind : (fields : List (List ℕ)) → length fields ≡ 1 → drop 1 fields ≡ []
none_behind (keyword ∷ []) one = refl
none_behind _ one = absurd (omega arith)

one_behind : (fields : List (List ℕ)) → length fields ≡ 2 → drop 1 fields ≡ csv_field_or_empty fields 1
    ∷ []
unfolding field_at
one_behind (keyword ∷ a ∷ []) two = refl
one_behind _ two = absurd (omega arith)

two_behind : (fields : List (List ℕ))
    → length fields ≡ 3 → drop 1 fields ≡ csv_field_or_empty fields 1 ∷ csv_field_or_empty fields 2 ∷ []
unfolding field_at
two_behind (keyword ∷ a ∷ b ∷ []) three = refl
two_behind _ three = absurd (omega arith)

pub six_behind : (fields : List (List ℕ)) → length fields ≡ 7 → drop 1 fields
    ≡ csv_field_or_empty fields 1 ∷ csv_field_or_empty fields 2 ∷ csv_field_or_empty fields 3
    ∷ csv_field_or_empty fields 4 ∷ csv_field_or_empty fields 5 ∷ csv_field_or_empty fields 6 ∷ []
unfolding field_at
six_behind (keyword ∷ a ∷ b ∷ c ∷ d ∷ e ∷ f ∷ []) seven = refl
six_behind _ seven = absurd (omega arith)

pub schedule_event_of-one : (net : Net) (files : ℕ) (fields : List (List ℕ)) (k : Kind)
    → schedule_kind_of (csv_field_or_empty fields 0) ≡ Some k → length fields ≡ 1
    → schedule_event_of net files fields ≡ schedule_row_event_with net files k []
schedule_event_of-one net files fields k is one = schedule_event_of-known net files fields k is
    ∙ ap (schedule_row_event_with net files k) (none_behind fields one)

pub schedule_event_of-two : (net : Net) (files : ℕ) (fields : List (List ℕ)) (k : Kind)
    → schedule_kind_of (csv_field_or_empty fields 0) ≡ Some k → length fields ≡ 2
    → schedule_event_of net files fields ≡ schedule_row_event_with net files k (csv_field_or_empty fields 1 ∷ [])
schedule_event_of-two net files fields k is two = schedule_event_of-known net files fields k is
    ∙ ap (schedule_row_event_with net files k) (one_behind fields two)

pub schedule_event_of-three : (net : Net) (files : ℕ) (fields : List (List ℕ)) (k : Kind)
    → schedule_kind_of (csv_field_or_empty fields 0) ≡ Some k → length fields ≡ 3 → schedule_event_of net files fields
    ≡ schedule_row_event_with net files k (csv_field_or_empty fields 1 ∷ csv_field_or_empty fields 2 ∷ [])
schedule_event_of-three net files fields k is three = schedule_event_of-known net files fields k is
    ∙ ap (schedule_row_event_with net files k) (two_behind fields three)

-- no kind has another width
other_width : (net : Net) (files : ℕ) (k : Kind) (fields : List (List ℕ)) → length fields ≢ 0
    → length fields ≢ 1 → length fields ≢ 2 → length fields ≢ 6 → schedule_row_event_with net files k fields
    ≡ Err why.Width
other_width net files k [] none one two six = absurd (none refl)
other_width net files k (a ∷ []) none one two six = absurd (one refl)
other_width net files k (a ∷ b ∷ []) none one two six = absurd (two refl)
other_width net files k (a ∷ b ∷ c ∷ d ∷ e ∷ f ∷ []) none one two six = absurd (six refl)
other_width net files kind.Packet (a ∷ b ∷ c ∷ []) none one two six = refl
other_width net files kind.Packet (a ∷ b ∷ c ∷ d ∷ []) none one two six = refl
other_width net files kind.Packet (a ∷ b ∷ c ∷ d ∷ e ∷ []) none one two six = refl
other_width net files kind.Packet (a ∷ b ∷ c ∷ d ∷ e ∷ f ∷ g ∷ more) none one two six = refl
other_width _ _ _ _ none one two six = refl

pub schedule_event_of-other : (net : Net) (files : ℕ) (fields : List (List ℕ)) (k : Kind)
    → schedule_kind_of (csv_field_or_empty fields 0) ≡ Some k → length fields ≢ 1 → length fields ≢ 2
    → length fields ≢ 3 → length fields ≢ 7 → schedule_event_of net files fields ≡ Err why.Width
unfolding field_at
schedule_event_of-other net files [] k is one two three seven = cc (no_keyword, is)
schedule_event_of-other net files (keyword ∷ fields) k is one two three seven =
    schedule_event_of-known net files (keyword ∷ fields) k is
    ∙ other_width net files k fields (λ e. one (omega arith)) (λ e. two (omega arith))
    (λ e. three (omega arith)) (λ e. seven (omega arith))

pub ruleset heading = (is_heading-two, is_heading-other)

pub ruleset counted = (
  schedule_event_of-no_kind,
  schedule_event_of-known,
  schedule_event_of-one,
  schedule_event_of-two,
  schedule_event_of-three,
  schedule_event_of-other,
)
