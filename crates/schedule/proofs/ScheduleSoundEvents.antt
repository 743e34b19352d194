-- The events of a text are such as the network can be asked for, and few.
use Rattle.std.proofs.Common.{[], ◌+◌, ◌∷◌, ◌≡◌, ◌≤◌, Bool, Err, List, None, Ok, Option, Result, Some, arith, bytes_eq, cond, false, length, nat_le, nat_lt, ok_or, option_map, refl, slice_get, subst, suc, true, ℕ}
use Rattle.base.proofs.Exports.{All-from_recursion, AllByRecursion, cons_option, nat_tests, option_map_or, position-Some, result_err, result_ok, some_of_ok_or}
use Rattle.csv_records.specs.Texts.{is_csv_heading}
use Rattle.five_tuple.specs.Exports.{IsHeader, header_of, tuple_number_up_to, tuple_fields_of}
use Rattle.five_tuple.specs.declared.header.Fields.{Fields}
use Rattle.five_tuple.specs.declared.header.Header.{Header}
use Rattle.net_file.specs.Exports.{are_linked_in_net, require_net_value, net_switch_number_named, with_toml_value}
use Rattle.net_file.specs.declared.net.LinkRow.{LinkRow}
use Rattle.net_file.specs.declared.net.Net.{Net}
use Rattle.net_file.specs.declared.net.SwitchRow.{SwitchRow}
use Rattle.net_file.proofs.NetFileSoundness.{require_ok, with_value_ok}
use Rattle.steps.specs.Exports.{StepLinkExists, StepSwitchExists, IsEventOfSteps, IsStep}
use Rattle.steps.specs.declared.step.Event.{Event}
use Rattle.steps.specs.declared.step.Event.TheVariants.{One, Flush, Drain}
use Rattle.steps.specs.declared.step.Step.{Step}
use Rattle.steps.specs.declared.step.Step.TheVariants as step
use Rattle.schedule.specs.Kinds.{schedule_kind_of}
use Rattle.schedule.specs.Reading.{AreSoundScheduleEvents, schedule_events_in, schedule_events_of, schedule_events_under_heading, no_schedule_heading, refused_schedule_row, schedule_refusals_from}
use Rattle.base.specs.declared.row.InRow.{InRow}
use Rattle.schedule.specs.Rows.{schedule_event_of, schedule_row_event_with, schedule_row_file_in, schedule_header_read, schedule_link_in, schedule_row_number_read, schedule_heading, schedule_switch_in}
use Rattle.schedule.specs.declared.error.ScheduleRefusal.{ScheduleRefusal}
use Rattle.schedule.specs.declared.error.ScheduleRefusal.TheVariants as why
use Rattle.schedule.specs.declared.kind.Kind.{Kind}
use Rattle.schedule.specs.declared.kind.Kind.TheVariants as kind
use Rattle.schedule.proofs.ScheduleHeaderFields.{header_bound, number_bound}

-- ---- fields

no_switch : SwitchRow
no_switch = record { name = []; ports = 0; room = 0 }

switch_sound : (net : Net) (name : List ℕ) (switch : ℕ) → schedule_switch_in net name ≡ Ok switch
    → StepSwitchExists net switch
switch_sound net name switch is =
    (position-Some (λ (row : SwitchRow). bytes_eq row.name name) net.switches switch no_switch
    (some_of_ok_or (net_switch_number_named net.switches name) why.Switch switch is)).0

number_sound : (text : List ℕ) (n : ℕ) → schedule_row_number_read text ≡ Ok n → n ≤ 999999999
number_sound text n is = number_bound 999999999 text n
    (some_of_ok_or (tuple_number_up_to 999999999 text) why.Number n is)

file_sound : (files : ℕ) (text : List ℕ) (file : ℕ) → schedule_row_file_in files text ≡ Ok file → (1 ≤ file)
    × (file ≤ files)
file_sound files text file is =
    let (n, reads, rest) = with_value_ok (ok_or (tuple_number_up_to files text) why.File)
    (λ n. require_net_value (nat_le 1 n) why.File (Ok n)) file is in
    let (least, last) = require_ok (nat_le 1 n) why.File (Ok n) file rest in
    let same : n ≡ file = cc last in
    let some : 1 ≤ n = grind (arith, nat_tests) in (
      omega (arith, same, some),
      omega (
        arith,
        same,
        number_bound files text n (some_of_ok_or (tuple_number_up_to files text) why.File n reads),
      ),
    )

link_sound : (net : Net) (one two : List ℕ) (link : LinkRow) → schedule_link_in net one two ≡ Ok link
    → StepLinkExists net link.one link.two
link_sound net one two link is =
    let (s, _, rest) = with_value_ok (schedule_switch_in net one) (λ s. with_toml_value (schedule_switch_in net two)
    (λ x. require_net_value (are_linked_in_net net.links s x) why.NoLink (Ok (record { one = s; two = x })))) link
    is in
    let (x, _, last) = with_value_ok (schedule_switch_in net two)
    (λ x. require_net_value (are_linked_in_net net.links s x) why.NoLink (Ok (record { one = s; two = x }))) link
    rest in
    let (linked, same) = require_ok (are_linked_in_net net.links s x) why.NoLink
    (Ok (record { one = s; two = x })) link last in
    let second : x ≡ link.two = cc same in
    subst (λ t. StepLinkExists net link.one t) second (subst (λ t. StepLinkExists net t x) (cc same) linked)

header_sound : (src dst sport dport proto : List ℕ) (header : Header)
    → schedule_header_read src dst sport dport proto ≡ Ok header → IsHeader header
header_sound src dst sport dport proto header is =
    packed (tuple_fields_of src dst sport dport proto) (header_bound src dst sport dport proto)
    header is
  where
    packed : (read : Option Fields)
        → ((fields : Fields) → read ≡ Some fields → IsHeader (header_of fields)) → (header : Header)
        → ok_or (option_map header_of read) why.Address ≡ Ok header → IsHeader header
    packed (Some fields) sound header is =
        let same : header_of fields ≡ header = cc is in subst IsHeader same (sound fields refl)
    packed None sound header is = cc is

-- ---- rows

module _ (net : Net) (files : ℕ) where
  abbrev IsSound : (Event → Type 0) → Result Event ScheduleRefusal → Type 0
  IsSound Holds read = (event : Event) → read ≡ Ok event → Holds event

  abbrev Sound : Result Event ScheduleRefusal → Type 0
  Sound = IsSound (IsEventOfSteps net files)

  gives : (event : Event) → IsEventOfSteps net files event → Sound (Ok event)
  gives event sound other is =
      let same : event ≡ other = cc is in subst (IsEventOfSteps net files) same sound

  follows : {X : Type 0} (read : Result X ScheduleRefusal) (next : X → Result Event ScheduleRefusal)
      → ((x : X) → read ≡ Ok x → Sound (next x)) → Sound (with_toml_value read next)
  follows (Ok x) next sound event is = sound x refl event is
  follows (Err e) next sound event is = cc is

  one_number : (text : List ℕ) (make : ℕ → Step)
      → ((n : ℕ) → n ≤ 999999999 → IsStep net files (make n))
      → Sound (with_toml_value (schedule_row_number_read text) (λ n. Ok (One (make n))))
  one_number text make sound = follows (schedule_row_number_read text) (λ n. Ok (One (make n)))
      (λ n is. gives (One (make n)) (sound n (number_sound text n is)))

  one_switch : (name : List ℕ) (make : ℕ → Step)
      → ((s : ℕ) → StepSwitchExists net s → IsStep net files (make s))
      → Sound (with_toml_value (schedule_switch_in net name) (λ s. Ok (One (make s))))
  one_switch name make sound = follows (schedule_switch_in net name) (λ s. Ok (One (make s)))
      (λ s is. gives (One (make s)) (sound s (switch_sound net name s is)))

  one_link : (one two : List ℕ) (make : LinkRow → Step)
      → ((link : LinkRow) → StepLinkExists net link.one link.two → IsStep net files (make link))
      → Sound (with_toml_value (schedule_link_in net one two) (λ link. Ok (One (make link))))
  one_link one two make sound = follows (schedule_link_in net one two) (λ link. Ok (One (make link)))
      (λ link is. gives (One (make link)) (sound link (link_sound net one two link is)))

  with_sound : (k : Kind) (fields : List (List ℕ)) → Sound (schedule_row_event_with net files k fields)
  with_sound kind.Packet (switch ∷ src ∷ dst ∷ sport ∷ dport ∷ proto ∷ []) =
      follows (schedule_switch_in net switch) (λ s. with_toml_value (schedule_header_read src dst sport dport proto)
      (λ header. Ok (One (step.Packet s header))))
      (λ s is. follows (schedule_header_read src dst sport dport proto)
      (λ header. Ok (One (step.Packet s header))) (λ header has. gives (One (step.Packet s header))
      (switch_sound net switch s is, header_sound src dst sport dport proto header has)))
  with_sound kind.Hop (packet ∷ []) = one_number packet (λ n. step.Hop n) (λ n h. h)
  with_sound kind.Lose (packet ∷ []) = one_number packet (λ n. step.Lose n) (λ n h. h)
  with_sound kind.Deliver (message ∷ []) = one_number message (λ n. step.Deliver n) (λ n h. h)
  with_sound kind.Forget (message ∷ []) = one_number message (λ n. step.Forget n) (λ n h. h)
  with_sound kind.Expire (switch ∷ place ∷ []) = follows (schedule_switch_in net switch)
      (λ s. with_toml_value (schedule_row_number_read place) (λ n. Ok (One (step.Expire s n))))
      (λ s is. one_number place (λ n. step.Expire s n) (λ n h. (switch_sound net switch s is, h)))
  with_sound kind.Update (file ∷ []) = follows (schedule_row_file_in files file) (λ n. Ok (One (step.Update n)))
      (λ n is. gives (One (step.Update n)) (file_sound files file n is))
  with_sound kind.LinkDown (one ∷ two ∷ []) =
      one_link one two (λ link. step.LinkDown link.one link.two) (λ link h. h)
  with_sound kind.LinkUp (one ∷ two ∷ []) =
      one_link one two (λ link. step.LinkUp link.one link.two) (λ link h. h)
  with_sound kind.Crash (switch ∷ []) = one_switch switch (λ s. step.Crash s) (λ s h. h)
  with_sound kind.Restart (switch ∷ []) = one_switch switch (λ s. step.Restart s) (λ s h. h)
  with_sound kind.Confirm (switch ∷ []) = one_switch switch (λ s. step.Confirm s) (λ s h. h)
  with_sound kind.Resend (switch ∷ []) = one_switch switch (λ s. step.Resend s) (λ s h. h)
  with_sound kind.Flush [] = gives Flush tt
  with_sound kind.Drain [] = gives Drain tt
  with_sound _ _ = λ event is. cc is

  row_sound : (fields : List (List ℕ)) → Sound (schedule_event_of net files fields)
  row_sound [] = λ event is. cc is
  row_sound (keyword ∷ fields) = follows (ok_or (schedule_kind_of keyword) why.Kind)
      (λ k. schedule_row_event_with net files k fields) (λ k is. with_sound k fields)

  -- ---- all rows

  rows_sound : (records : List (List (List ℕ))) → AllByRecursion (IsEventOfSteps net files)
      (schedule_events_in net files records)
  rows_sound [] = tt
  rows_sound (fields ∷ records) = kept (schedule_event_of net files fields) (row_sound fields)
      (schedule_events_in net files records) (rows_sound records)
    where
      kept : (read : Result Event ScheduleRefusal) → Sound read → (events : List Event)
          → AllByRecursion (IsEventOfSteps net files) events → AllByRecursion (IsEventOfSteps net files)
          (cons_option (result_ok read) events)
      kept (Ok event) sound events rest = (sound event refl, rest)
      kept (Err refusal) sound events rest = rest

  as_many : (records : List (List (List ℕ))) → length (schedule_events_in net files records) ≤ length records
  as_many [] = omega arith
  as_many (fields ∷ records) = kept (schedule_event_of net files fields) (schedule_events_in net files records)
      (as_many records)
    where
      kept : (read : Result Event ScheduleRefusal) (events : List Event)
          → length events ≤ length records → length (cons_option (result_ok read) events) ≤ suc
          (length records)
      kept (Ok event) events rest = omega arith
      kept (Err refusal) events rest = omega arith

  few_rows : (first : ℕ) (records : List (List (List ℕ))) → schedule_refusals_from net files first records
      ≡ [] → first ≤ 100001 → first + length records ≤ 100001
  few_rows first [] none small = omega arith
  few_rows first (fields ∷ records) none small =
      let (fine, rest) = no_more (refused_schedule_row net files (first, fields))
      (schedule_refusals_from net files (first + 1) records) none in
      let within = passed (nat_lt 100000 first) (result_err (schedule_event_of net files fields)) fine in
      let below : first ≤ 100000 = grind (arith, nat_tests) in
      let more = few_rows (first + 1) records rest (omega arith) in omega (arith, more)
    where
      no_more : {X : Type 0} (one : Option X) (more : List X) → cons_option one more ≡ []
          → (one ≡ None) × (more ≡ [])
      no_more (Some x) more none = cc none
      no_more None more none = (refl, none)

      passed : (b : Bool) (other : Option ScheduleRefusal)
          → option_map {U = InRow ScheduleRefusal} (λ refusal. record { refusal = refusal; row = first })
          (cond b (Some why.TooManyRows) other) ≡ None → b ≡ false
      passed true other none = cc none
      passed false other none = refl

  first_of : (refusals : List (InRow ScheduleRefusal)) (events read : List Event)
      → option_map_or Err (slice_get refusals 0) (Ok events) ≡ Ok read → (refusals ≡ [])
      × (events ≡ read)
  first_of [] events read is = (refl, cc is)
  first_of (refusal ∷ refusals) events read is = cc is

  all_sound : (records : List (List (List ℕ))) (events : List Event) → schedule_events_of net files records
      ≡ Ok events → AreSoundScheduleEvents net files events
  all_sound records events is =
      let (none, same) = first_of (schedule_refusals_from net files 1 records) (schedule_events_in net files records)
      events is in
      let few = few_rows 1 records none (omega arith) in
      let most : length (schedule_events_in net files records) ≤ 100000 = omega (arith, as_many) in
      subst (AreSoundScheduleEvents net files) same
      (record {
        steps = All-from_recursion (IsEventOfSteps net files) (schedule_events_in net files records)
            (rows_sound records);
        few = most;
      })

  pub text_sound : (records : List (List (List ℕ))) (events : List Event)
      → schedule_events_under_heading net files records ≡ Ok events → AreSoundScheduleEvents net files events
  text_sound [] events is = cc is
  text_sound (first ∷ records) events is = under (is_csv_heading schedule_heading first) is where
    under : (b : Bool) → cond b (schedule_events_of net files records) no_schedule_heading ≡ Ok events
        → AreSoundScheduleEvents net files events
    under true is = all_sound records events is
    under false is = cc is
