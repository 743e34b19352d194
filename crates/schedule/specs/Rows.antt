-- The event that a row states, for a network and this many policy files: a keyword for its kind,
-- and the fields of that kind.
use Rattle.std.specs.Prelude.{[], ◌∷◌, Err, List, Ok, Result, codes, nat_le, ok_or, option_map, ℕ}
use Rattle.five_tuple.specs.Exports.{header_of, tuple_number_up_to, tuple_fields_of}
use Rattle.five_tuple.specs.declared.header.Header.{Header}
use Rattle.net_file.specs.Exports.{are_linked_in_net, require_net_value, net_switch_number_named, with_toml_value}
use Rattle.net_file.specs.declared.net.LinkRow.{LinkRow}
use Rattle.net_file.specs.declared.net.Net.{Net}
use Rattle.steps.specs.Exports.{max_step_number}
use Rattle.steps.specs.declared.step.Event.{Event}
use Rattle.steps.specs.declared.step.Event.TheVariants.{One, Flush, Drain}
use Rattle.steps.specs.declared.step.Step.TheVariants as step
use Rattle.schedule.specs.Kinds.{schedule_kind_of}
use Rattle.schedule.specs.declared.error.ScheduleRefusal.{ScheduleRefusal}
use Rattle.schedule.specs.declared.error.ScheduleRefusal.TheVariants as why
use Rattle.schedule.specs.declared.kind.Kind.{Kind}
use Rattle.schedule.specs.declared.kind.Kind.TheVariants as kind

abbrev pub schedule_heading : List (List ℕ)
schedule_heading = codes "event" ∷ codes "arguments" ∷ []

-- ---- fields

-- the switch of this name
abbrev pub schedule_switch_in : Net → List ℕ → Result ℕ ScheduleRefusal
schedule_switch_in net name = ok_or (net_switch_number_named net.switches name) why.Switch

-- the number of a packet, a message or a cache place, at most 999,999,999
abbrev pub schedule_row_number_read : List ℕ → Result ℕ ScheduleRefusal
schedule_row_number_read text = ok_or (tuple_number_up_to max_step_number text) why.Number

-- the number of a policy file, from 1
abbrev pub schedule_row_file_in : ℕ → List ℕ → Result ℕ ScheduleRefusal
schedule_row_file_in files text =
    with_toml_value (ok_or (tuple_number_up_to files text) why.File) (λ file.
    require_net_value (nat_le 1 file) why.File (Ok file))

-- the link between the switches of these names
abbrev pub schedule_link_in : Net → List ℕ → List ℕ → Result LinkRow ScheduleRefusal
schedule_link_in net one two =
    with_toml_value (schedule_switch_in net one) (λ one.
    with_toml_value (schedule_switch_in net two) (λ two.
    require_net_value (are_linked_in_net net.links one two) why.NoLink (Ok (record { one = one; two = two }))))

-- two addresses, two ports and a protocol, none of them `any`
abbrev pub schedule_header_read : List ℕ → List ℕ → List ℕ → List ℕ → List ℕ → Result Header ScheduleRefusal
schedule_header_read src dst sport dport proto =
    ok_or (option_map header_of (tuple_fields_of src dst sport dport proto)) why.Address

-- ---- rows

-- the event of a kind and of the fields after it
abbrev pub schedule_row_event_with : Net → ℕ → Kind → List (List ℕ) → Result Event ScheduleRefusal
schedule_row_event_with net files kind.Packet (switch ∷ src ∷ dst ∷ sport ∷ dport ∷ proto ∷ []) =
    with_toml_value (schedule_switch_in net switch) (λ switch. with_toml_value (schedule_header_read src dst sport dport proto)
    (λ header. Ok (One (step.Packet switch header))))
schedule_row_event_with net files kind.Hop (packet ∷ []) =
    with_toml_value (schedule_row_number_read packet) (λ packet. Ok (One (step.Hop packet)))
schedule_row_event_with net files kind.Lose (packet ∷ []) =
    with_toml_value (schedule_row_number_read packet) (λ packet. Ok (One (step.Lose packet)))
schedule_row_event_with net files kind.Deliver (message ∷ []) =
    with_toml_value (schedule_row_number_read message) (λ message. Ok (One (step.Deliver message)))
schedule_row_event_with net files kind.Forget (message ∷ []) =
    with_toml_value (schedule_row_number_read message) (λ message. Ok (One (step.Forget message)))
schedule_row_event_with net files kind.Expire (switch ∷ place ∷ []) =
    with_toml_value (schedule_switch_in net switch) (λ switch.
    with_toml_value (schedule_row_number_read place) (λ place. Ok (One (step.Expire switch place))))
schedule_row_event_with net files kind.Update (file ∷ []) =
    with_toml_value (schedule_row_file_in files file) (λ file. Ok (One (step.Update file)))
schedule_row_event_with net files kind.LinkDown (one ∷ two ∷ []) =
    with_toml_value (schedule_link_in net one two) (λ link. Ok (One (step.LinkDown link.one link.two)))
schedule_row_event_with net files kind.LinkUp (one ∷ two ∷ []) =
    with_toml_value (schedule_link_in net one two) (λ link. Ok (One (step.LinkUp link.one link.two)))
schedule_row_event_with net files kind.Crash (switch ∷ []) =
    with_toml_value (schedule_switch_in net switch) (λ switch. Ok (One (step.Crash switch)))
schedule_row_event_with net files kind.Restart (switch ∷ []) =
    with_toml_value (schedule_switch_in net switch) (λ switch. Ok (One (step.Restart switch)))
schedule_row_event_with net files kind.Confirm (switch ∷ []) =
    with_toml_value (schedule_switch_in net switch) (λ switch. Ok (One (step.Confirm switch)))
schedule_row_event_with net files kind.Resend (switch ∷ []) =
    with_toml_value (schedule_switch_in net switch) (λ switch. Ok (One (step.Resend switch)))
schedule_row_event_with net files kind.Flush [] = Ok Flush
schedule_row_event_with net files kind.Drain [] = Ok Drain
schedule_row_event_with net files kind fields = Err why.Width

-- the event that a record states, or why it states none: first the kind, then the width, then the
-- fields from left to right
abbrev pub schedule_event_of : Net → ℕ → List (List ℕ) → Result Event ScheduleRefusal
schedule_event_of net files [] = Err why.Kind
schedule_event_of net files (keyword ∷ fields) =
    with_toml_value (ok_or (schedule_kind_of keyword) why.Kind) (λ kind. schedule_row_event_with net files kind fields)
