-- What the facts of a packet are behind some items, and what is known of it as it travels.
use Rattle.std.proofs.Common.{[], ◌++◌, ◌+◌, ◌==◌, ◌∙◌, ◌∷◌, ◌≡◌, List, None, Option, Some, ap, append-nil, append_assoc, arith, cond, eq-eqb, false, if◌then◌else◌, map, option_map, refl, subst, sym, true, unwrap_or, ℕ}
use Rattle.base.proofs.Exports.{⊤, sum_by-cons}
use Rattle.message_bag.specs.Exports.{Post, new_bag_post}
use Rattle.update_machine.specs.Exports.{Action, Exit, Item, Leg, Message, NoMachineItemConcerns, Ports, Seek, Setting, machine_item_concerns_policies, machine_count_of, is_machine_packet_entry, journal_retired_mark, machine_sent_items_from, journal_hop_stays_on_way, machine_takes_route, machine_targets_in, journal_leg_targets}
use Rattle.switch_core.specs.Exports.{SwitchAnswer, SwitchArrival, SwitchValue, switch_site_around, switch_call_counted, switch_hop_answer, switch_found_link_down, switch_received}
use Rattle.switch_core.specs.Answers as answer
use Rattle.switch_core.specs.declared.deciding.Decision.{Decision}
use Rattle.switch_core.specs.declared.tunnel_calls.HopEnd.{HopEnd}
use Rattle.switch_core.specs.declared.tunnel_calls.Next.{Next}
use Rattle.tunnel.specs.Exports.{TunnelValue, next as journal_next_switch, tunnel_begun}
use Rattle.refinement.specs.Exports.{AreRefinedInStep, IsRefinedInStep, refined_flight_in, refined_flight_of}
use Rattle.world_log.specs.Exports.{log_answer_items, log_answer_posts, log_arrival_items, log_arrival_posts, log_arrived_items, log_arrived_posts, log_cache_message, log_decided_flight, log_decided_items, log_end_item, log_ended_items, log_ended_posts, log_entered_items, log_entered_posts, log_hop_posts, log_hop_written, log_hopped_flight, log_message_list, log_turned_items}
use Rattle.travelling.specs.Travelling.{TravellingFlight, TravellingStanding, traveller_standing_at}
use Rattle.refinement.proofs.RefinedPostedFrames.{SendFrom, posts_in}
use Rattle.five_tuple.specs.Exports.{header_of}
use Rattle.update_machine.proofs.Exports.{policies_keep}
use Rattle.packet_laws.specs.Exports.{PacketFacts, packet_facts_after, is_item_of_entered_packet, packet_facts_of}
use Rattle.packet_laws.proofs.Exports.{facts_grow}

-- ---- the items that a switch's answer to a packet writes: they begin no step and bring no other
-- packet in, and what they send.

-- they bring no packet in
no_packet : (one : Item) → IsRefinedInStep one → is_machine_packet_entry one ≡ false
no_packet (Item.Entered packet switch header) is = absurd is
no_packet (Item.Closed packet switch) is = absurd is
no_packet _ is = refl

pub later_packets : (items : List Item) → AreRefinedInStep items → machine_count_of is_machine_packet_entry items ≡ 0
later_packets [] later = refl
later_packets (first ∷ items) later =
    let sum = sum_by-cons (λ x. cond (is_machine_packet_entry x) 1 0) first items in
    let none : ◌≡◌ {A = ℕ} (cond (is_machine_packet_entry first) 1 0) 0 =
    ap (λ b. cond b 1 0) (no_packet first later.0) in
    omega (arith, sum, none, later_packets items later.1)

pub route_later : (i : ℕ) (leg : Leg) (route : List ℕ) → IsRefinedInStep (machine_takes_route i leg route)
route_later i (Seek version partition) route = tt
route_later i (Exit port) route = tt

pub end_later : (at : TravellingStanding) (decision : Decision) (onward : Next)
    → IsRefinedInStep (log_end_item at decision onward)
end_later at decision Next.Dropped = tt
end_later at decision (Next.Out port) = tt
end_later at decision (Next.Exit tunnel) = route_later at.packet tunnel.leg tunnel.route
end_later at decision (Next.Stuck cause) = tt

pub decided_later : (number : ℕ) (at : TravellingStanding) (decision : Decision) (message : Option Message)
    (onward : Next)
    → AreRefinedInStep (log_decided_items at decision (machine_sent_items_from number (log_message_list message)) onward)
unfolding machine_sent_items_from
decided_later number at decision None onward = (tt, (end_later at decision onward, tt))
decided_later number at decision (Some message) onward =
    (tt, (tt, (end_later at decision onward, tt)))

pub answer_later : (number : ℕ) (at : TravellingStanding) (what : SwitchAnswer)
    → AreRefinedInStep (log_answer_items number at what)
answer_later number at (answer.Decided decision cache onward) =
    decided_later number at decision (log_cache_message at.ingress cache) onward
answer_later number at (answer.Seek tunnel) = (route_later at.packet tunnel.leg tunnel.route, tt)
answer_later number at (answer.Stuck cause leg) = (tt, tt)

pub arrived_later : (number : ℕ) (at : TravellingStanding) (t : TravellingFlight) (what : SwitchArrival)
    → AreRefinedInStep (log_arrived_items number at t.version t.rule what)
arrived_later number at t (answer.Out port) = (tt, tt)
arrived_later number at t (answer.Answered what) = answer_later number at what

-- ---- none moves the packet on

route_still : (i : ℕ) (leg : Leg) (route : List ℕ)
    → journal_hop_stays_on_way (machine_takes_route i leg route ∷ []) ≡ false
route_still i (Seek version partition) route = refl
route_still i (Exit port) route = refl

end_still : (at : TravellingStanding) (decision : Decision) (onward : Next)
    → journal_hop_stays_on_way (log_end_item at decision onward ∷ []) ≡ false
end_still at decision Next.Dropped = refl
end_still at decision (Next.Out port) = refl
end_still at decision (Next.Exit tunnel) = route_still at.packet tunnel.leg tunnel.route
end_still at decision (Next.Stuck cause) = refl

decided_still : (number : ℕ) (at : TravellingStanding) (decision : Decision) (message : Option Message)
    (onward : Next) → journal_hop_stays_on_way
    (log_decided_items at decision (machine_sent_items_from number (log_message_list message)) onward) ≡ false
unfolding machine_sent_items_from
decided_still number at decision None onward = end_still at decision onward
decided_still number at decision (Some message) onward = end_still at decision onward

pub arrived_still : (number : ℕ) (at : TravellingStanding) (t : TravellingFlight) (what : SwitchArrival)
    → journal_hop_stays_on_way (log_arrived_items number at t.version t.rule what) ≡ false
arrived_still number at t (answer.Out port) = refl
arrived_still number at t (answer.Answered (answer.Decided decision cache onward)) =
    decided_still number at decision (log_cache_message at.ingress cache) onward
arrived_still number at t (answer.Answered (answer.Seek tunnel)) =
    route_still at.packet tunnel.leg tunnel.route
arrived_still number at t (answer.Answered (answer.Stuck cause leg)) = refl

-- ---- what is sent

-- nothing, whatever the number of the next message is
abbrev pub SendNone : ℕ → List Item → Type 0
SendNone number items = SendFrom number items × (posts_in items ≡ [])

route_sends : (number i : ℕ) (leg : Leg) (route : List ℕ)
    → SendNone number (machine_takes_route i leg route ∷ [])
route_sends number i (Seek version partition) route = (tt, refl)
route_sends number i (Exit port) route = (tt, refl)

end_sends : (number : ℕ) (at : TravellingStanding) (decision : Decision) (onward : Next)
    → SendNone number (log_end_item at decision onward ∷ [])
end_sends number at decision Next.Dropped = (tt, refl)
end_sends number at decision (Next.Out port) = (tt, refl)
end_sends number at decision (Next.Exit tunnel) =
    route_sends number at.packet tunnel.leg tunnel.route
end_sends number at decision (Next.Stuck cause) = (tt, refl)

decided_sends : (number : ℕ) (at : TravellingStanding) (decision : Decision) (message : Option Message)
    (onward : Next) → (let items : List Item = log_decided_items at decision
    (machine_sent_items_from number (log_message_list message)) onward in
    SendFrom number items × (posts_in items ≡ map new_bag_post (log_message_list message)))
unfolding machine_sent_items_from
decided_sends number at decision None onward = end_sends number at decision onward
decided_sends number at decision (Some message) onward =
    let rest = end_sends (number + 1) at decision onward in
    ((refl, rest.0), ap (λ posts. new_bag_post message ∷ posts) rest.1)

-- the message of the answer, under this number
abbrev pub SendPosts : ℕ → List Item → List Post → Type 0
SendPosts number items posts = SendFrom number items × (posts_in items ≡ posts)

answer_sends : (number : ℕ) (at : TravellingStanding) (what : SwitchAnswer)
    → SendPosts number (log_answer_items number at what) (log_answer_posts at what)
answer_sends number at (answer.Decided decision cache onward) =
    decided_sends number at decision (log_cache_message at.ingress cache) onward
answer_sends number at (answer.Seek tunnel) = route_sends number at.packet tunnel.leg tunnel.route
answer_sends number at (answer.Stuck cause leg) = (tt, refl)

pub entered_sends : (number : ℕ) (at : TravellingStanding) (what : Option SwitchAnswer)
    → SendPosts number (log_entered_items number at what) (log_entered_posts at what)
entered_sends number at None = (tt, refl)
entered_sends number at (Some what) = answer_sends number at what

arrived_sends : (number : ℕ) (at : TravellingStanding) (t : TravellingFlight) (what : SwitchArrival)
    → SendPosts number (log_arrived_items number at t.version t.rule what) (log_arrived_posts at what)
arrived_sends number at t (answer.Out port) = (tt, refl)
arrived_sends number at t (answer.Answered what) = answer_sends number at what

turned_sends : (number i here : ℕ) (found : Option ℕ) (end : HopEnd) (route : List ℕ)
    (rest : List Item) (posts : List Post) → SendPosts number rest posts
    → SendPosts number (log_turned_items i here found end route ++ rest) posts
turned_sends number i here None end route rest posts sends = sends
turned_sends number i here (Some other) HopEnd.Arrive route rest posts sends = sends
turned_sends number i here (Some other) (HopEnd.Move next) route rest posts sends = sends
turned_sends number i here (Some other) (HopEnd.Stuck cause) route rest posts sends = sends

ended_sends : (number : ℕ) (switch : SwitchValue) (near : ℕ) (ports : Ports) (t : TravellingFlight)
    (end : HopEnd) → SendPosts number (log_ended_items number switch near ports t end)
    (log_ended_posts switch near ports t end)
unfolding log_arrival_items log_arrival_posts
ended_sends number switch near ports t HopEnd.Arrive = arrived_sends number
    (traveller_standing_at switch.number t) t (switch_received switch (switch_site_around near ports) t.tunnel)
ended_sends number switch near ports t (HopEnd.Move other) = (tt, refl)
ended_sends number switch near ports t (HopEnd.Stuck cause) = (tt, refl)

pub hop_sends : (number : ℕ) (switch : SwitchValue) (near : ℕ) (ports : Ports) (t : TravellingFlight)
    → SendFrom number (log_hop_written number switch near ports t)
    × (posts_in (log_hop_written number switch near ports t) ≡ log_hop_posts switch near ports t)
hop_sends number switch near ports t = turned_sends number t.tunnel.packet switch.number
    (switch_found_link_down near (journal_next_switch t.tunnel)) (switch_hop_answer switch near t.tunnel).end
    (switch_hop_answer switch near t.tunnel).tunnel.route _ _ (ended_sends number (switch_call_counted switch)
    near ports (log_hopped_flight switch near t) (switch_hop_answer switch near t.tunnel).end)

-- ---- refined packet facts

-- the facts of a packet behind these items
abbrev pub facts_along : ℕ → List Item → List Item → PacketFacts → PacketFacts
facts_along i before [] facts = facts
facts_along i before (item ∷ items) facts = facts_along i (before ++ item ∷ []) items
    (if is_item_of_entered_packet i item then packet_facts_after (journal_retired_mark before) item facts else facts)

pub facts_all : (i : ℕ) (before items : List Item)
    → packet_facts_of (before ++ items) i ≡ facts_along i before items (packet_facts_of before i)
facts_all i before [] = ap (λ js. packet_facts_of js i) (append-nil before)
facts_all i before (item ∷ items) =
    ap (λ js. packet_facts_of js i) (sym (append_assoc before (item ∷ []) items))
    ∙ facts_all i (before ++ item ∷ []) items
    ∙ ap (facts_along i (before ++ item ∷ []) items) (facts_grow i before item)

-- ---- targets

-- the targets of legs
abbrev pub Targets : Type 0
Targets = Leg → List ℕ

-- no policy, no other targets
pub same_targets : (setting : Setting) (before items : List Item)
    → NoMachineItemConcerns machine_item_concerns_policies before items → (leg : Leg)
    → journal_leg_targets setting (before ++ items) leg ≡ journal_leg_targets setting before leg
same_targets setting before items none (Seek version partition) =
    ap (λ plan. machine_targets_in plan partition) ((policies_keep before items none).plan setting version)
same_targets setting before items none (Exit port) = refl

-- ---- what is known of a packet

-- what is known of a packet with these facts
abbrev pub flight_by : Targets → ℕ → PacketFacts → Option TravellingFlight
flight_by targets i facts = if facts.travels then Some (record {
  tunnel = record {
    packet = i;
    header = unwrap_or facts.header
        (header_of (record { src = 0; dst = 0; sport = 0; dport = 0; proto = 0 }));
    ingress = unwrap_or facts.ingress 0;
    leg = unwrap_or facts.leg (Exit 0);
    targets = targets (unwrap_or facts.leg (Exit 0));
    route = facts.route;
    place = facts.hops;
    down = facts.found;
  };
  version = unwrap_or (option_map (λ decision. decision.version) facts.decision) 0;
  rule = unwrap_or (option_map (λ decision. decision.rule) facts.decision) None;
}) else None

pub flight_now : (setting : Setting) (journal : List Item) (i : ℕ) → refined_flight_in setting journal i
    ≡ flight_by (journal_leg_targets setting journal) i (packet_facts_of journal i)
unfolding refined_flight_in refined_flight_of packet_facts_of
flight_now setting journal i = refl

-- by the targets of its own leg alone
pub by_targets : (one other : Targets) (i : ℕ) (facts : PacketFacts)
    → one (unwrap_or facts.leg (Exit 0)) ≡ other (unwrap_or facts.leg (Exit 0))
    → flight_by one i facts ≡ flight_by other i facts
by_targets one other i facts same = rw same refl

-- behind items by which no policy comes
pub flight_along : (setting : Setting) (before items : List Item) (i : ℕ)
    → NoMachineItemConcerns machine_item_concerns_policies before items → refined_flight_in setting (before ++ items) i
    ≡ flight_by (journal_leg_targets setting before) i (facts_along i before items (packet_facts_of before i))
flight_along setting before items i none = flight_now setting (before ++ items) i
    ∙ ap (flight_by (journal_leg_targets setting (before ++ items)) i) (facts_all i before items)
    ∙ by_targets (journal_leg_targets setting (before ++ items)) (journal_leg_targets setting before) i
    (facts_along i before items (packet_facts_of before i)) (same_targets setting before items none _)

-- ---- what a switch's answer to one packet says of all others: nothing

-- none of the items names the packet
abbrev pub NoneName : ℕ → List Item → Type 0
NoneName i [] = ⊤
NoneName i (first ∷ items) = (is_item_of_entered_packet i first ≡ false) × NoneName i items

pub unnamed : (i : ℕ) (before items : List Item) (facts : PacketFacts) → NoneName i items
    → facts_along i before items facts ≡ facts
unnamed i before [] facts none = refl
unnamed i before (first ∷ items) facts none =
    rw none.0 (unnamed i (before ++ first ∷ []) items facts none.1)

-- so only what follows them changes the facts
pub unnamed_first : (i : ℕ) (before first items : List Item) (facts : PacketFacts)
    → NoneName i first
    → facts_along i before (first ++ items) facts ≡ facts_along i (before ++ first) items facts
unnamed_first i before [] items facts none = cc (append-nil before)
unnamed_first i before (one ∷ first) items facts none = ap (λ b. facts_along i (before ++ one ∷ [])
    (first ++ items) (if b then packet_facts_after (journal_retired_mark before) one facts else facts)) none.0
    ∙ unnamed_first i (before ++ one ∷ []) first items facts none.1
    ∙ ap (λ js. facts_along i js items facts) (append_assoc before (one ∷ []) first)

pub none_more : (i : ℕ) (first items : List Item) → NoneName i first → NoneName i items
    → NoneName i (first ++ items)
none_more i [] items none more = more
none_more i (one ∷ first) items none more = (none.0, none_more i first items none.1 more)

-- messages name no packet
pub sends_unnamed : (i number : ℕ) (message : Option Message)
    → NoneName i (machine_sent_items_from number (log_message_list message))
unfolding machine_sent_items_from
sends_unnamed i number None = tt
sends_unnamed i number (Some message) = (refl, tt)

route_other : (q i : ℕ) (leg : Leg) (route : List ℕ) → (i == q) ≡ false
    → is_item_of_entered_packet q (machine_takes_route i leg route) ≡ false
route_other q i (Seek version partition) route other = other
route_other q i (Exit port) route other = other

end_other : (q : ℕ) (at : TravellingStanding) (decision : Decision) (onward : Next)
    → (at.packet == q) ≡ false → is_item_of_entered_packet q (log_end_item at decision onward) ≡ false
end_other q at decision Next.Dropped other = other
end_other q at decision (Next.Out port) other = other
end_other q at decision (Next.Exit tunnel) other =
    route_other q at.packet tunnel.leg tunnel.route other
end_other q at decision (Next.Stuck cause) other = other

answer_other : (q number : ℕ) (at : TravellingStanding) (what : SwitchAnswer) → (at.packet == q) ≡ false
    → NoneName q (log_answer_items number at what)
answer_other q number at (answer.Decided decision cache onward) other = (
  other,
  none_more q (machine_sent_items_from number (log_message_list (log_cache_message at.ingress cache)))
      (log_end_item at decision onward ∷ []) (sends_unnamed q number (log_cache_message at.ingress cache))
      (end_other q at decision onward other, tt),
)
answer_other q number at (answer.Seek tunnel) other =
    (route_other q at.packet tunnel.leg tunnel.route other, tt)
answer_other q number at (answer.Stuck cause leg) other = (other, tt)

pub entered_other : (q number : ℕ) (at : TravellingStanding) (what : Option SwitchAnswer) → (at.packet == q) ≡ false
    → NoneName q (log_entered_items number at what)
entered_other q number at None other = (refl, tt)
entered_other q number at (Some what) other = (other, answer_other q number at what other)

pub arrived_other : (q number : ℕ) (at : TravellingStanding) (flight : TravellingFlight) (what : SwitchArrival)
    → (at.packet == q) ≡ false → NoneName q (log_arrived_items number at flight.version flight.rule
    what)
arrived_other q number at flight (answer.Out port) other = (other, tt)
arrived_other q number at flight (answer.Answered what) other = answer_other q number at what other

-- ---- what a switch's answer says of its own packet: the packet in flight that goes on

-- the packet's facts as its switch decides it
pub record IsSeen (at : TravellingStanding) (ingress : ℕ) (facts : PacketFacts) : Type 0 where
  pub on : facts.travels ≡ true
  pub header : facts.header ≡ Some at.header
  pub came : facts.ingress ≡ Some ingress
  pub found : facts.found ≡ at.down

-- and then
abbrev decided_facts : Decision → PacketFacts → PacketFacts
decided_facts decision facts = record facts {
  decision = Some (record {
    version = decision.version;
    rule = decision.rule;
    action = decision.action;
  });
}

-- a tunnel to the port of the decision, at the beginning of its route
pub record IsExit (targets : Targets) (at : TravellingStanding) (ingress port : ℕ) (tunnel : TunnelValue)
    : Type 0 where
  pub route : List ℕ
  pub is : tunnel ≡ tunnel_begun at.packet at.header ingress (Exit port)
      (targets (Exit port)) route at.down

-- what goes on goes by the port of the decision
abbrev pub GoesOnward : Targets → TravellingStanding → ℕ → Decision → Next → Type 0
GoesOnward targets at ingress decision (Next.Exit tunnel) =
    (port : ℕ) × (decision.action ≡ Action.Out port) × IsExit targets at ingress port tunnel
GoesOnward targets at ingress decision _ = ⊤

-- what becomes of it once its decision is known
by_port : (targets : Targets) (before : List Item) (at : TravellingStanding) (ingress : ℕ)
    (decision : Decision) (route : List ℕ) (port : ℕ) (facts : PacketFacts)
    → IsSeen at ingress facts → decision.action ≡ Action.Out port → (let tunnel : TunnelValue =
    tunnel_begun at.packet at.header ingress (Exit port) (targets (Exit port)) route at.down in
    log_decided_flight decision (Next.Exit tunnel)
    ≡ flight_by targets at.packet (facts_along at.packet before
    (log_end_item at decision (Next.Exit tunnel) ∷ []) (decided_facts decision facts)))
by_port targets before at ingress decision route port facts seen acts =
    rw ((eq-eqb _ _ refl), acts, seen.on, seen.header, seen.came, seen.found) refl

end_goes : (targets : Targets) (before : List Item) (at : TravellingStanding) (ingress : ℕ)
    (decision : Decision) (onward : Next) (facts : PacketFacts) → IsSeen at ingress facts
    → GoesOnward targets at ingress decision onward
    → log_decided_flight decision onward ≡ flight_by targets at.packet
    (facts_along at.packet before (log_end_item at decision onward ∷ []) (decided_facts decision facts))
end_goes targets before at ingress decision Next.Dropped facts seen goes = rw (eq-eqb _ _ refl) refl
end_goes targets before at ingress decision (Next.Out port) facts seen goes =
    rw (eq-eqb _ _ refl) refl
end_goes targets before at ingress decision (Next.Stuck cause) facts seen goes =
    rw (eq-eqb _ _ refl) refl
end_goes targets before at ingress decision (Next.Exit tunnel) facts seen goes =
    let P : TunnelValue → Type 0 = λ t. log_decided_flight decision (Next.Exit t)
    ≡ flight_by targets at.packet (facts_along at.packet before
    (log_end_item at decision (Next.Exit t) ∷ []) (decided_facts decision facts)) in
    subst P (sym goes.2.is)
    (by_port targets before at ingress decision goes.2.route goes.0 facts seen goes.1)

-- what is sent meanwhile names no packet
pub decided_goes : (targets : Targets) (before sends : List Item) (at : TravellingStanding) (ingress : ℕ)
    (decision : Decision) (onward : Next) (facts : PacketFacts) → NoneName at.packet sends
    → IsSeen at ingress facts → GoesOnward targets at ingress decision onward
    → log_decided_flight decision onward ≡ flight_by targets at.packet
    (facts_along at.packet before (log_decided_items at decision sends onward) facts)
decided_goes targets before sends at ingress decision onward facts none seen goes =
    let decided : Item = Item.Decided at.packet decision.version decision.rule decision.action
    decision.how in
    let end : List Item = log_end_item at decision onward ∷ [] in
    let said = ap (λ b. facts_along at.packet (before ++ decided ∷ []) (sends ++ end) (if b
    then decided_facts decision facts else facts)) (eq-eqb _ _ refl) ∙ unnamed_first at.packet
    (before ++ decided ∷ []) sends end (decided_facts decision facts) none in
    end_goes targets (before ++ decided ∷ [] ++ sends) at ingress decision onward facts seen goes
    ∙ sym (ap (flight_by targets at.packet) said)
