-- What the results of a switch for a packet do to the journal and the packet.
use Rattle.std.specs.Prelude.{[], ◌++◌, ◌∷◌, ◌≡◌, Err, List, None, Ok, OnErr, OnOk, Option, Result, Some, map, option_map, ℕ}
use Rattle.message_bag.specs.Exports.{Post, new_bag_post}
use Rattle.update_machine.specs.Exports.{Action, Body, Cause, Exit as ExitLeg, Item, Leg, Message, machine_sent_items_from, machine_takes_route}
use Rattle.ctrl_msg.specs.declared.message.Place.TheVariants as receiver
use Rattle.policy_rules.specs.declared.policy.Action.TheVariants as action
use Rattle.journal.specs.declared.item.Item.TheVariants as item
use Rattle.switch_core.specs.Exports.{SwitchAnswer, SwitchArrival, switch_packet_to_look_up}
use Rattle.switch_core.specs.Answers as answer
use Rattle.switch_core.specs.declared.deciding.Decision.{Decision}
use Rattle.switch_core.specs.declared.tunnel_calls.Next.{Next}
use Rattle.switch_core.specs.declared.tunnel_calls.Next.TheVariants as next
use Rattle.switch_core.specs.declared.tunnel_calls.Packet.{Packet}
use Rattle.tunnel.specs.Exports.{TunnelValue}
use Rattle.travelling.specs.Travelling.{TravellingFlight, TravellingStanding, TravellingWithOne}
use Rattle.world_log.specs.declared.log.Log.{Log}

-- the new journal is the old one and the first of these items
pub record IsLogPart (old items new : List Item) : Type 0 where
  pub written : List Item
  pub rest : List Item
  pub split : items ≡ written ++ rest
  pub grown : new ≡ old ++ written

-- a log after a call: it wrote these items and posted these frames, and of the packets on their
-- way only this one changed, to this; if memory ran out, a part of the items is written
pub record LogAfter {T E : Type 0} (result : Result T E) (items : List Item) (posts : List Post)
    (packet : ℕ) (this : Option TravellingFlight) (old new : Log) : Type 0 where
  pub written : OnOk result (new.journal ≡ old.journal ++ items)
  pub posted : OnOk result (new.bag ≡ old.bag ++ posts)
  pub travels : OnOk result (TravellingWithOne old.travelling packet this new.travelling)
  pub part : OnErr result (IsLogPart old.journal items new.journal)

-- the packet that is there, as the switch gets it
abbrev pub log_packet_standing : TravellingStanding → Packet
log_packet_standing at = switch_packet_to_look_up at.packet at.header at.ingress at.down

-- ---- on a leg

-- the packet takes the route from its switch, or is stuck there
abbrev pub log_set_item : TravellingStanding → Leg → Result TunnelValue Cause → Item
log_set_item at leg (Ok tunnel) = machine_takes_route at.packet tunnel.leg tunnel.route
log_set_item at leg (Err cause) = item.Stuck at.packet at.switch cause leg at.down

-- the packet then, if it had this version and this rule
abbrev pub log_set_flight : ℕ → Option ℕ → Result TunnelValue Cause → Option TravellingFlight
log_set_flight version rule (Ok tunnel) =
    Some (record { tunnel = tunnel; version = version; rule = rule })
log_set_flight version rule (Err cause) = None

-- ---- once it is decided

-- the leg to the port of an action
abbrev pub log_exit_leg : Action → Leg
log_exit_leg action.Drop = ExitLeg 0
log_exit_leg (action.Out port) = ExitLeg port

abbrev pub log_left_item : TravellingStanding → ℕ → Option ℕ → ℕ → Item
log_left_item at version rule port = item.Left at.packet port (record {
  packet = at.packet;
  header = at.header;
  version = version;
  rule = rule;
})

abbrev pub log_end_item : TravellingStanding → Decision → Next → Item
log_end_item at decision next.Dropped = item.Dropped at.packet
log_end_item at decision (next.Out port) = log_left_item at decision.version decision.rule port
log_end_item at decision (next.Exit tunnel) = machine_takes_route at.packet tunnel.leg tunnel.route
log_end_item at decision (next.Stuck cause) =
    item.Stuck at.packet at.switch cause (log_exit_leg decision.action) at.down

-- its decision, what is sent then, and what becomes of it
abbrev pub log_decided_items : TravellingStanding → Decision → List Item → Next → List Item
log_decided_items at decision sends onward =
    item.Decided at.packet decision.version decision.rule decision.action decision.how
    ∷ sends ++ log_end_item at decision onward ∷ []

-- the packet travels on if another switch has its port
abbrev pub log_decided_flight : Decision → Next → Option TravellingFlight
log_decided_flight decision (next.Exit tunnel) =
    Some (record { tunnel = tunnel; version = decision.version; rule = decision.rule })
log_decided_flight decision _ = None

-- ---- by the result of a lookup

-- one message or none, as a list
abbrev pub log_message_list : Option Message → List Message
log_message_list None = []
log_message_list (Some message) = message ∷ []

-- a cache rule is sent to the switch where the packet entered
abbrev pub log_cache_message : ℕ → Option Body → Option Message
log_cache_message ingress cache =
    option_map (λ body. record { to = receiver.Switch ingress; body = body }) cache

-- the message of the result, if there is one
abbrev pub log_answer_message : TravellingStanding → SwitchAnswer → Option Message
log_answer_message at (answer.Decided decision cache onward) = log_cache_message at.ingress cache
log_answer_message at _ = None

-- the items, if the next message has this number
abbrev pub log_answer_items : ℕ → TravellingStanding → SwitchAnswer → List Item
log_answer_items number at (answer.Decided decision cache onward) =
    log_decided_items at decision (machine_sent_items_from number (log_message_list (log_cache_message at.ingress cache)))
    onward
log_answer_items number at (answer.Seek tunnel) = machine_takes_route at.packet tunnel.leg tunnel.route ∷ []
log_answer_items number at (answer.Stuck cause leg) =
    item.Stuck at.packet at.switch cause leg at.down ∷ []

-- what it posts
abbrev pub log_answer_posts : TravellingStanding → SwitchAnswer → List Post
log_answer_posts at what = map new_bag_post (log_message_list (log_answer_message at what))

-- the packet then, if it had this version and this rule
abbrev pub log_answer_flight : ℕ → Option ℕ → SwitchAnswer → Option TravellingFlight
log_answer_flight version rule (answer.Decided decision cache onward) = log_decided_flight decision onward
log_answer_flight version rule (answer.Seek tunnel) =
    Some (record { tunnel = tunnel; version = version; rule = rule })
log_answer_flight version rule (answer.Stuck cause leg) = None

-- ---- when it enters

abbrev pub log_entered_items : ℕ → TravellingStanding → Option SwitchAnswer → List Item
log_entered_items number at None = item.Closed at.packet at.switch ∷ []
log_entered_items number at (Some what) =
    item.Entered at.packet at.switch at.header ∷ log_answer_items number at what

abbrev pub log_entered_posts : TravellingStanding → Option SwitchAnswer → List Post
log_entered_posts at None = []
log_entered_posts at (Some what) = log_answer_posts at what

abbrev pub log_entered_flight : Option SwitchAnswer → Option TravellingFlight
log_entered_flight None = None
log_entered_flight (Some what) = log_answer_flight 0 None what

-- ---- at the end of its route

-- if the packet had this version and this rule
abbrev pub log_arrived_items : ℕ → TravellingStanding → ℕ → Option ℕ → SwitchArrival → List Item
log_arrived_items number at version rule (answer.Out port) = log_left_item at version rule port ∷ []
log_arrived_items number at version rule (answer.Answered what) = log_answer_items number at what

abbrev pub log_arrived_posts : TravellingStanding → SwitchArrival → List Post
log_arrived_posts at (answer.Out port) = []
log_arrived_posts at (answer.Answered what) = log_answer_posts at what

abbrev pub log_arrived_flight : ℕ → Option ℕ → SwitchArrival → Option TravellingFlight
log_arrived_flight version rule (answer.Out port) = None
log_arrived_flight version rule (answer.Answered what) = log_answer_flight version rule what
