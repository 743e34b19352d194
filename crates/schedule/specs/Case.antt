-- The load case of a number: a ring of eight switches with two more links, two policies, and a
-- schedule of packets with an update and a failed link in its middle. The policies and the packets
-- are drawn from a linear congruential generator, whose state starts at the number.
use Rattle.std.specs.Prelude.{[], if◌then◌else◌, ◌%◌, ◌*◌, ◌++◌, ◌+◌, ◌/◌, ◌==◌, ◌^◌, ◌||◌, ◌∷◌, ◌≤◌, All, IsTrue, List, is_some, length, map, suc, zero, ℕ, ⊤}
use Rattle.base.specs.Exports.{range_with_len}
use Rattle.five_tuple.specs.Exports.{address_block_round, header_of}
use Rattle.five_tuple.specs.declared.header.Header.{Header}
use Rattle.five_tuple.specs.declared.matching.Proto.TheVariants.{Is}
use Rattle.schedule.specs.declared.case.Case.{Case}
use Rattle.net_file.specs.Exports.{IsNet, net_port_owner}
use Rattle.net_file.specs.declared.net.LinkRow.{LinkRow}
use Rattle.net_file.specs.declared.net.Net.{Net}
use Rattle.net_file.specs.declared.net.SwitchRow.{SwitchRow}
use Rattle.policy_rules.specs.declared.policy.Action.{Action}
use Rattle.policy_rules.specs.declared.policy.Action.TheVariants.{Drop, Out}
use Rattle.policy_rules.specs.declared.policy.Row.{Row}
use Rattle.steps.specs.Exports.{IsEventOfSteps, max_events}
use Rattle.steps.specs.declared.step.Event.{Event}
use Rattle.steps.specs.declared.step.Event.TheVariants.{Drain, Flush, One}
use Rattle.steps.specs.declared.step.Step.{Step}
use Rattle.steps.specs.declared.step.Step.TheVariants as step

-- ---- draws

-- the state of the generator after one draw
unfoldable pub load_case_next_drawn : ℕ → ℕ
load_case_next_drawn x = (x * 1103515245 + 12345) % 2147483648

-- the state after this many draws
abbrev pub load_case_draw_state_after : ℕ → ℕ → ℕ
load_case_draw_state_after zero x = x
load_case_draw_state_after (suc n) x = load_case_draw_state_after n (load_case_next_drawn x)

-- the number below m of the draw that led to this state
abbrev pub load_case_draw_below : ℕ → ℕ → ℕ
load_case_draw_below m x = x / 65536 % m

-- ---- the network

-- n1 and n5 are the authorities
abbrev pub load_case_room_of : ℕ → ℕ
load_case_room_of i = if i == 1 || i == 5 then 8192 else 0

-- the switch `ni` has the port i
abbrev pub load_case_switch_row : ℕ → SwitchRow
load_case_switch_row i = record { name = 110 ∷ (48 + i) ∷ []; ports = 2 ^ i; room = load_case_room_of i }

abbrev pub load_case_link_row : ℕ → ℕ → LinkRow
load_case_link_row one two = record { one = one; two = two }

-- a ring, and n0-n4 and n2-n6 across it
abbrev pub load_case_links : List LinkRow
load_case_links = load_case_link_row 0 1 ∷ load_case_link_row 1 2 ∷ load_case_link_row 2 3 ∷ load_case_link_row 3 4 ∷ load_case_link_row 4 5 ∷ load_case_link_row 5 6
    ∷ load_case_link_row 6 7 ∷ load_case_link_row 0 7 ∷ load_case_link_row 0 4 ∷ load_case_link_row 2 6 ∷ []

abbrev pub load_case_net : Net
load_case_net = record {
  switches = map load_case_switch_row (range_with_len 0 8);
  links = load_case_links;
  leaf_rules = 32;
  backups = 1;
  cache = 16;
}

-- ---- the policies

abbrev pub load_case_address_of_bytes : ℕ → ℕ → ℕ → ℕ → ℕ
load_case_address_of_bytes a b c d = a * 2 ^ 24 + b * 2 ^ 16 + c * 2 ^ 8 + d

-- one draw decides whether a row drops; if it doesn't, a second one draws its port
abbrev pub load_case_drop_draw : ℕ → ℕ
load_case_drop_draw x = load_case_draw_below 4 (load_case_next_drawn x)

abbrev pub load_case_action_at : ℕ → Action
load_case_action_at x = if load_case_drop_draw x == 0 then Drop else Out (load_case_draw_below 8 (load_case_draw_state_after 2 x))

abbrev pub load_case_action_ends : ℕ → ℕ
load_case_action_ends x = if load_case_drop_draw x == 0 then load_case_next_drawn x else load_case_draw_state_after 2 x

-- the row of this priority, that is drawn from the state x
abbrev pub load_case_row_at : ℕ → ℕ → Row
load_case_row_at priority x = record {
  priority = priority;
  src = address_block_round (load_case_address_of_bytes 10 (load_case_draw_below 4 (load_case_draw_state_after 1 x))
      (load_case_draw_below 256 (load_case_draw_state_after 2 x)) 0) 24;
  dst = address_block_round (load_case_address_of_bytes 10 (load_case_draw_below 4 (load_case_draw_state_after 3 x)) 0 0) 16;
  sport = record { low = 0; high = 65535 };
  dport = record {
    low = load_case_draw_below 1024 (load_case_draw_state_after 4 x);
    high = load_case_draw_below 1024 (load_case_draw_state_after 4 x);
  };
  proto = Is 6;
  action = load_case_action_at (load_case_draw_state_after 4 x);
}

abbrev pub load_case_row_ends : ℕ → ℕ
load_case_row_ends x = load_case_action_ends (load_case_draw_state_after 4 x)

-- this many rows, whose priorities are their places from 1, and the state after them
abbrev pub load_case_rows_drawn : ℕ → ℕ → List Row × ℕ
load_case_rows_drawn zero x = ([], x)
load_case_rows_drawn (suc k) x =
    let before = load_case_rows_drawn k x in
    (before.0 ++ load_case_row_at (k + 1) before.1 ∷ [], load_case_row_ends before.1)

-- ---- the schedule

abbrev pub load_case_address_at : ℕ → ℕ
load_case_address_at x = load_case_address_of_bytes 10 (load_case_draw_below 4 (load_case_draw_state_after 1 x))
    (load_case_draw_below 256 (load_case_draw_state_after 2 x)) (load_case_draw_below 256 (load_case_draw_state_after 3 x))

-- the header that is drawn from the state x
abbrev pub load_case_header_drawn : ℕ → Header
load_case_header_drawn x = header_of (record {
  src = load_case_address_at x;
  dst = load_case_address_at (load_case_draw_state_after 3 x);
  sport = 1024 + load_case_draw_below 30000 (load_case_draw_state_after 7 x);
  dport = load_case_draw_below 1024 (load_case_draw_state_after 8 x);
  proto = 6;
})

-- the switch is drawn before the header
abbrev pub load_case_packet_drawn : ℕ → Step
load_case_packet_drawn x = step.Packet (load_case_draw_below 8 (load_case_next_drawn x)) (load_case_header_drawn (load_case_next_drawn x))

-- a packet enters at a switch and is drained, and then what was sent is delivered
abbrev pub load_case_group_at : ℕ → List Event
load_case_group_at x = One (load_case_packet_drawn x) ∷ Drain ∷ Flush ∷ []

-- this many groups, and the state after them
abbrev pub load_case_groups_from : ℕ → ℕ → List Event × ℕ
load_case_groups_from zero x = ([], x)
load_case_groups_from (suc k) x =
    let before = load_case_groups_from k x in
    (before.0 ++ load_case_group_at before.1, load_case_draw_state_after 9 before.1)

-- the second policy becomes the newest, and then the link n0-n1 fails
abbrev pub load_case_change_events : List Event
load_case_change_events = One (step.Update 2) ∷ Flush ∷ One (step.LinkDown 0 1) ∷ Flush ∷ []

-- ---- the case

pub record LoadCase : Type 0 where
  pub net : Net
  pub policies : List (List Row)
  pub events : List Event

-- two policies of n rows, and 4 n packets, with the changes after the first half of them
abbrev pub load_case : ℕ → LoadCase
load_case n =
    let first = load_case_rows_drawn n n in
    let second = load_case_rows_drawn n first.1 in
    let early = load_case_groups_from (2 * n) second.1 in
    let late = load_case_groups_from (2 * n) early.1 in
    record {
      net = load_case_net;
      policies = first.0 ∷ second.0 ∷ [];
      events = early.0 ++ load_case_change_events ++ late.0;
    }

-- the case that was made
abbrev pub load_case_seen : Case → LoadCase
load_case_seen made =
    record { net = made.net; policies = made.policies.items; events = made.events.items }

-- the action names a port that a switch has, if it names one
abbrev pub NamesLoadCasePort : Net → Action → Type 0
NamesLoadCasePort net Drop = ⊤
NamesLoadCasePort net (Out port) = IsTrue (is_some (net_port_owner net.switches port))

-- the network is sound, the policies name only its ports, and the events may happen on it
pub record IsPlayableLoadCase (load : LoadCase) : Type 0 where
  pub net : IsNet load.net
  pub ports : All (All (λ row. NamesLoadCasePort load.net row.action)) load.policies
  pub may : All (IsEventOfSteps load.net (length load.policies)) load.events
  pub few : length load.events ≤ max_events
