-- One more step keeps the tie of a world to its journal.
use Rattle.std.proofs.Common.{[], ◌++◌, ◌+◌, ◌<◌, ◌==◌, ◌∙◌, ◌∷◌, ◌≡◌, ◌≢◌, Bool, IsFalse, List, Option, ap, append-nil, arith, cond, eq-eqb, eqb-true, false, filter, get_or, get_or-set_other, get_or-set_same, inl, length, refl, set, subst, sym, true, unwrap_or, ℕ}
use Rattle.base.proofs.Exports.{All-push}
use Rattle.update_machine.specs.Exports.{Exit, JournalItemsHaveCauses, IsJournalReached, IsMachineSetting, Item, Leg, LinkRow, NoMachineItemConcerns, Seek, Setting, Step, MachineStepOfRow, journal_after_steps, machine_item_concerns_calls, machine_item_concerns_controller, machine_item_concerns_known, machine_item_concerns_links, machine_count_of, is_machine_packet_entry, journal_next_message, journal_next_packet, piece, journal_leg_targets}
use Rattle.steps.specs.Exports.{IsStep}
use Rattle.update_machine.proofs.Exports.{count_of_append, links_keep, near_stays, plan_stays}
use Rattle.control_laws.specs.Exports.{HasControlItemCause, ControlServingHoldVersions, ControlServingIsKnown, ControlStampsSayTouched, control_asks_controller}
use Rattle.control_laws.proofs.Exports.{bodies_named, bounded, caused_known, caused_numbered, serving_hold, serving_known, stamps_touched, tables_planned, versions_planned}
use Rattle.refinement.specs.Exports.{RefineUpLinks, RefineUsableLinks, IsRefinedBagOf, IsRefinedController, RefinedNetworkState, RefineJournal, RefinementTablesAreKnown, refined_flight_in, is_refined_up_link, refined_switch_of}
use Rattle.packet_laws.specs.Exports.{AllPacketFactsKept, IsPacketOnLeg, IsPacketOnWay, IsPacketServed, PacketFacts, packet_facts_of}
use Rattle.packet_laws.proofs.Exports.{Before, IsSettled, all_kept, reached_settled, switches_of_all, travels_in}
use Rattle.refinement.proofs.RefinedPacketFacts.{NoneName, by_targets, facts_all, flight_by, flight_now, unnamed}
use Rattle.refinement.proofs.RefinedControllerResends.{items_leave, steps_leave}
use Rattle.net_file.specs.Exports.{links_of}
use Rattle.switch_core.specs.Exports.{SwitchValue}
use Rattle.refinement.proofs.RefinedSwitchLinks.{kept_is}
use Rattle.travelling.specs.Travelling.{TravellingFlights, flight}
use Rattle.refinement.proofs.RefinedPostedFrames.{SendFrom, are_apart, bag_sends, posts_in}
use Rattle.message_bag.specs.Exports.{Post}

-- ---- what the laws say of a journal of steps of the network, and one more step of it

-- ---- the laws

-- what they say of packets, versions, tables, switches and messages
pub record Known (setting : Setting) (journal : List Item) : Type 0 where
  pub is : IsMachineSetting setting
  pub settled : IsSettled setting journal
  pub caused : JournalItemsHaveCauses (HasControlItemCause setting) [] journal
  pub tables : RefinementTablesAreKnown setting journal
  pub serving : ControlServingIsKnown journal
  pub holds : ControlServingHoldVersions setting journal
  pub kept : AllPacketFactsKept setting journal
  pub touched : ControlStampsSayTouched setting journal

pub reached_known : (setting : Setting) (journal : List Item) → IsMachineSetting setting
    → IsJournalReached setting journal → Known setting journal
reached_known setting journal is reached =
    let settled : IsSettled setting journal = reached_settled setting journal is reached in
    let caused = switches_of_all setting [] journal settled.causes in record {
      is = is;
      settled = settled;
      caused = caused;
      tables = record {
        sound = is;
        versions = versions_planned setting journal caused;
        tables = tables_planned setting journal caused;
        names = bodies_named.reached setting journal reached is.net;
      };
      serving = serving_known journal (caused_known setting journal caused);
      holds = serving_hold setting journal caused;
      kept = all_kept setting journal is settled.causes;
      touched = stamps_touched setting journal caused;
    }

-- ---- one more step

after_more : (setting : Setting) (before : List Item) (steps : List MachineStepOfRow) (last : MachineStepOfRow)
    → journal_after_steps setting before (steps ++ last ∷ []) ≡ journal_after_steps setting before steps
    ++ piece setting (journal_after_steps setting before steps) last.row last.step
after_more setting before [] last = refl
after_more setting before (next ∷ steps) last =
    after_more setting (before ++ piece setting before next.row next.step) steps last

pub reached_more : (setting : Setting) (journal : List Item) (row : ℕ) (step : Step)
    → IsJournalReached setting journal → IsStep setting.net (length setting.files) step
    → IsJournalReached setting (journal ++ piece setting journal row step)
reached_more setting journal row step reached own = record {
  steps = reached.steps ++ record { row = row; step = step } ∷ [];
  own = All-push (λ next. IsStep setting.net (length setting.files) next.step) reached.steps
      (record { row = row; step = step }) reached.own own;
  written = ap (λ js. js ++ piece setting js row step) reached.written
      ∙ sym (after_more setting [] reached.steps (record { row = row; step = step }));
}

-- ---- packets on their way

-- the laws as they are told of journals within a step
pub before_of : (setting : Setting) (journal : List Item) → Known setting journal
    → Before setting journal
before_of setting journal knows =
    record { is = knows.is; have = knows.settled.causes; kept = knows.kept }

-- a packet that travels is on its way, where it is served
pub record Travels (setting : Setting) (journal : List Item) (i : ℕ) : Type 0 where
  pub way : IsPacketOnWay setting journal (packet_facts_of journal i)
  pub served : IsPacketServed journal i

pub travels_known : (setting : Setting) (journal : List Item) (i : ℕ) → Known setting journal
    → (packet_facts_of journal i).travels ≡ true → Travels setting journal i
unfolding packet_facts_of
travels_known setting journal i knows on = record {
  way = (knows.kept.packets i).on_way (travels_in journal i on)
      (inl (knows.settled.rests.moving i on));
  served = knows.settled.rests.served i on;
}

-- ---- the targets of a leg

leg_targets : (setting : Setting) (journal items : List Item) (facts : PacketFacts) (leg : Leg)
    → Known setting journal → (on : IsPacketOnWay setting journal facts)
    → IsPacketOnLeg setting journal facts on.under_way.header leg
    → journal_leg_targets setting (journal ++ items) leg ≡ journal_leg_targets setting journal leg
leg_targets setting journal items facts (Seek version partition) knows on leg =
    cc (plan_stays setting journal items version (caused_numbered setting journal knows.caused)
    (omega (arith, leg.current, (bounded setting journal knows.caused).there)))
leg_targets setting journal items facts (Exit port) knows on leg = refl

-- whatever items come that name no packet, also new versions: packets stay on their way
pub flight_stays : (setting : Setting) (journal items : List Item) (i : ℕ) → Known setting journal
    → NoneName i items → refined_flight_in setting (journal ++ items) i ≡ refined_flight_in setting journal i
flight_stays setting journal items i knows none = flight_now setting (journal ++ items) i
    ∙ ap (flight_by (journal_leg_targets setting (journal ++ items)) i)
    (facts_all i journal items ∙ unnamed i journal items (packet_facts_of journal i) none)
    ∙ by_travels (packet_facts_of journal i).travels refl ∙ sym (flight_now setting journal i)
  where
    by_travels : (b : Bool) → (packet_facts_of journal i).travels ≡ b
        → flight_by (journal_leg_targets setting (journal ++ items)) i (packet_facts_of journal i)
        ≡ flight_by (journal_leg_targets setting journal) i (packet_facts_of journal i)
    by_travels false off = rw off refl
    by_travels true on =
        let way : IsPacketOnWay setting journal (packet_facts_of journal i) =
        (travels_known setting journal i knows on).way in
        by_targets (journal_leg_targets setting (journal ++ items)) (journal_leg_targets setting journal) i
        (packet_facts_of journal i)
        (rw way.takes
        (leg_targets setting journal items (packet_facts_of journal i) way.leg knows way way.on_leg))

-- ---- step refines

-- where one switch became what it is now, and another one stays if it isn't that one
pub one_changes : (setting : Setting) (journal after : List Item) (switches : List SwitchValue)
    (s q : ℕ) (changed d : SwitchValue) (b : Bool) → (s == q) ≡ b → s < length switches
    → changed ≡ refined_switch_of setting after s
    → ((s == q) ≡ false → refined_switch_of setting after q ≡ refined_switch_of setting journal q)
    → get_or switches q d ≡ refined_switch_of setting journal q
    → get_or (set switches s changed) q d ≡ refined_switch_of setting after q
one_changes setting journal after switches s q changed d true is there own others its =
    subst (λ k. get_or (set switches s changed) k d ≡ refined_switch_of setting after k) (eqb-true s q is)
    (get_or-set_same switches s changed d there ∙ own)
one_changes setting journal after switches s q changed d false is there own others its =
    let other : q ≢ s = λ e. let yes : (s == q) ≡ true = eq-eqb s q (sym e) in cc in
    get_or-set_other switches s q changed d other ∙ its ∙ sym (others is)

-- ---- what a step leaves

-- the journal behind a step
abbrev pub stepped : List Item → ℕ → Step → List Item → List Item
stepped journal row step items = journal ++ Item.Row row step ∷ items

module _ {setting : Setting} {journal : List Item} {state : RefinedNetworkState}
    (refines : RefineJournal setting journal state) where
  -- the controller, where the step isn't for it
  pub controller_stays : (row : ℕ) (step : Step) (items : List Item)
      → piece setting journal row step ≡ Item.Row row step ∷ items
      → IsFalse (control_asks_controller journal step)
      → IsRefinedController setting (stepped journal row step items) state.controller
  controller_stays row step items is not_told = rw is at (steps_leave setting journal row step
      state.controller (reached_known setting journal refines.sound refines.reached).caused not_told
      refines.controller)

-- links that are up as before are the same
pub same_links : (now before : List Item) (links : List LinkRow)
    → ((link : LinkRow) → is_refined_up_link now link ≡ is_refined_up_link before link)
    → filter (is_refined_up_link now) links ≡ filter (is_refined_up_link before) links
same_links now before [] same = refl
same_links now before (link ∷ links) same = cc (same link, same_links now before links same)

pub up_stays : (setting : Setting) (journal items : List Item) (links : List ℕ)
    → NoMachineItemConcerns machine_item_concerns_links journal items → RefineUpLinks setting journal links
    → RefineUpLinks setting (journal ++ items) links
up_stays setting journal items links none up = λ s below. up s below
    ∙ ap (λ rows. links_of rows s) (sym (same_links (journal ++ items) journal setting.net.links
    (λ link. (links_keep setting journal items none).up link.one link.two)))

-- and the links and the switches, where it does nothing to them
module _ {setting : Setting} {journal : List Item} {state : RefinedNetworkState}
    (refines : RefineJournal setting journal state) (items : List Item) where
  pub links_stay : NoMachineItemConcerns machine_item_concerns_links journal items
      → RefineUsableLinks setting (journal ++ items) state.near
  links_stay none = λ s below. refines.usable s below
      ∙ sym (near_stays setting s journal items none)

  pub up_stay : NoMachineItemConcerns machine_item_concerns_links journal items
      → RefineUpLinks setting (journal ++ items) state.links
  up_stay none = up_stays setting journal items state.links none refines.up

  pub switches_stay : ((s : ℕ) → NoMachineItemConcerns (machine_item_concerns_known s) journal items)
      → ((s : ℕ) → NoMachineItemConcerns (machine_item_concerns_calls s) journal items)
      → (s : ℕ) (d : SwitchValue) → s < length state.switches
      → get_or state.switches s d ≡ refined_switch_of setting (journal ++ items) s
  switches_stay none calls s d there =
      refines.each s d there ∙ sym (kept_is setting s journal items (none s) (calls s))

-- what a step writes, and the switches, the packets on their way and the control plane after it
pub record IsTaken (setting : Setting) (journal : List Item) (row : ℕ) (step : Step)
    (items : List Item) (state later : RefinedNetworkState) : Type 0 where
  pub may : IsStep setting.net (length setting.files) step
  pub piece_is : piece setting journal row step ≡ Item.Row row step ∷ items
  pub as_many : length later.switches ≡ length state.switches
  pub each : (s : ℕ) (d : SwitchValue) → s < length state.switches
      → get_or later.switches s d ≡ refined_switch_of setting (stepped journal row step items) s
  pub travels : (i : ℕ) → flight later.travelling i
      ≡ refined_flight_in setting (stepped journal row step items) i
  pub counted : later.packets ≡ state.packets + machine_count_of is_machine_packet_entry (Item.Row row step ∷ items)
  pub controller : IsRefinedController setting (stepped journal row step items) later.controller
  pub bag : IsRefinedBagOf (stepped journal row step items) later.posts
  pub up : RefineUpLinks setting (stepped journal row step items) later.links
  pub usable : RefineUsableLinks setting (stepped journal row step items) later.near

-- what a step of packets writes, and what it makes of the switches and of the packets on their way
pub record Steps (setting : Setting) (journal : List Item) (row : ℕ) (step : Step)
    (items : List Item) (switches others : List SwitchValue) (after : TravellingFlights) : Type 0 where
  pub may : IsStep setting.net (length setting.files) step
  pub piece_is : piece setting journal row step ≡ Item.Row row step ∷ items
  pub not_told : IsFalse (control_asks_controller journal step)
  -- the messages that it sends have the next numbers
  pub sends : SendFrom (journal_next_message journal) items
  pub as_many : length others ≡ length switches
  pub each : (s : ℕ) (d : SwitchValue) → s < length switches
      → get_or others s d ≡ refined_switch_of setting (stepped journal row step items) s
  pub travels : (i : ℕ) → flight after i ≡ refined_flight_in setting (stepped journal row step items) i

reached_on : (setting : Setting) (journal : List Item) (row : ℕ) (step : Step) (items : List Item)
    → IsJournalReached setting journal → IsStep setting.net (length setting.files) step
    → piece setting journal row step ≡ Item.Row row step ∷ items
    → IsJournalReached setting (journal ++ Item.Row row step ∷ items)
reached_on setting journal row step items reached may is =
    let P : List Item → Type 0 = λ more. IsJournalReached setting (journal ++ more) in
    subst P is (reached_more setting journal row step reached may)

next_on : (journal items : List Item) (count next : ℕ) → journal_next_packet journal ≡ count + 1
    → next ≡ count + machine_count_of is_machine_packet_entry items → journal_next_packet (journal ++ items) ≡ next + 1
unfolding journal_next_packet
next_on journal items count next is more = rw count_of_append (omega arith)

module _ {setting : Setting} {journal : List Item} {state : RefinedNetworkState}
    (refines : RefineJournal setting journal state) where
  pub refines_taken : (later : RefinedNetworkState) (row : ℕ) (step : Step) (items : List Item)
      → IsTaken setting journal row step items state later
      → RefineJournal setting (journal ++ Item.Row row step ∷ items) later
  refines_taken later row step items taken = record {
    sound = refines.sound;
    reached = reached_on setting journal row step items refines.reached taken.may taken.piece_is;
    many = taken.as_many ∙ refines.many;
    each = λ s d there. taken.each s d (omega (arith, there, taken.as_many));
    packet = taken.travels;
    counted = next_on journal (Item.Row row step ∷ items) state.packets later.packets
        refines.counted taken.counted;
    controller = taken.controller;
    bag = taken.bag;
    up = taken.up;
    usable = taken.usable;
  }

-- what the tie says of one packet, of one switch and of the next message's number
module _ {setting : Setting} {journal : List Item} {state : RefinedNetworkState}
    (refines : RefineJournal setting journal state) where
  pub packets_are : (i : ℕ) → flight state.travelling i ≡ refined_flight_in setting journal i
  packets_are = refines.packet

  pub switches_are : (s : ℕ) (d : SwitchValue) → s < length state.switches
      → get_or state.switches s d ≡ refined_switch_of setting journal s
  switches_are = refines.each

  pub numbered : journal_next_message journal ≡ length state.posts + 1
  numbered = refines.bag.many

-- ---- a step of packets

module _ {setting : Setting} {journal : List Item} {state : RefinedNetworkState}
    (refines : RefineJournal setting journal state) where
  pub refines_more : (others : List SwitchValue) (after : TravellingFlights) (next row : ℕ) (step : Step)
      (items : List Item) → Steps setting journal row step items state.switches others after
      → next ≡ state.packets + machine_count_of is_machine_packet_entry (Item.Row row step ∷ items)
      → RefineJournal setting (journal ++ Item.Row row step ∷ items) (record state {
        switches = others;
        travelling = after;
        packets = next;
        posts = state.posts ++ posts_in items;
      })
  refines_more others after next row step items steps counted =
      refines_taken refines (record state {
        switches = others;
        travelling = after;
        packets = next;
        posts = state.posts ++ posts_in items;
      }) row step items (record {
        may = steps.may;
        piece_is = steps.piece_is;
        as_many = steps.as_many;
        each = steps.each;
        travels = steps.travels;
        counted = counted;
        controller = controller_stays refines row step items steps.piece_is steps.not_told;
        up = up_stay refines (Item.Row row step ∷ items) (
          refl,
          (are_apart (journal_next_message journal) (journal ++ Item.Row row step ∷ []) items
              steps.sends).links,
        );
        usable = links_stay refines (Item.Row row step ∷ items) (
          refl,
          (are_apart (journal_next_message journal) (journal ++ Item.Row row step ∷ []) items
              steps.sends).links,
        );
        bag = bag_sends (journal_next_message journal) journal (Item.Row row step ∷ items) state.posts
            steps.sends refl refines.bag;
      })

  -- a step that sends nothing
  pub refines_silent : (others : List SwitchValue) (after : TravellingFlights) (next row : ℕ) (step : Step)
      (items : List Item) → Steps setting journal row step items state.switches others after
      → next ≡ state.packets + machine_count_of is_machine_packet_entry (Item.Row row step ∷ items) → posts_in items ≡ []
      → RefineJournal setting (journal ++ Item.Row row step ∷ items)
      (record state { switches = others; travelling = after; packets = next })
  refines_silent others after next row step items steps counted none =
      rw (ap (λ more. state.posts ++ more) none ∙ append-nil state.posts) at
      (refines_more others after next row step items steps counted)

-- ---- a step that writes one item, by which no packet moves and no switch answers a call

-- the journal behind the step
abbrev pub grown : List Item → ℕ → Step → Item → List Item
grown journal row step one = journal ++ Item.Row row step ∷ one ∷ []

-- the step wrote this one item, and behind it the parts refine the journal
abbrev pub WroteOne : Setting → List Item → ℕ → Step → Item → RefinedNetworkState → Type 0
WroteOne setting journal row step one state =
    (piece setting journal row step ≡ Item.Row row step ∷ one ∷ [])
    × RefineJournal setting (grown journal row step one) state

-- what the step writes, and what the switches and the messages are behind it
pub record WritesOne (setting : Setting) (journal : List Item) (row : ℕ) (step : Step) (one : Item)
    (switches others : List SwitchValue) (posts : List Post) : Type 0 where
  pub may : IsStep setting.net (length setting.files) step
  pub piece_is : piece setting journal row step ≡ Item.Row row step ∷ one ∷ []
  -- the controller isn't told of it
  pub not_told : NoMachineItemConcerns machine_item_concerns_controller journal (Item.Row row step ∷ one ∷ [])
  -- nor does it name a packet, or do anything to links
  pub apart : (i : ℕ) → NoneName i (Item.Row row step ∷ one ∷ [])
  pub no_links : NoMachineItemConcerns machine_item_concerns_links journal (Item.Row row step ∷ one ∷ [])
  pub as_before : machine_count_of is_machine_packet_entry (Item.Row row step ∷ one ∷ []) ≡ 0
  pub as_many : length others ≡ length switches
  pub each : (s : ℕ) (d : SwitchValue) → s < length switches
      → get_or others s d ≡ refined_switch_of setting (grown journal row step one) s
  pub bag : IsRefinedBagOf (grown journal row step one) posts

module _ {setting : Setting} {journal : List Item} {state : RefinedNetworkState}
    (refines : RefineJournal setting journal state) where
  pub refines_one : (posts : List Post) (others : List SwitchValue) (row : ℕ) (step : Step)
      (one : Item) → WritesOne setting journal row step one state.switches others posts
      → RefineJournal setting (grown journal row step one)
      (record state { switches = others; posts = posts })
  refines_one posts others row step one writes =
      let items : List Item = Item.Row row step ∷ one ∷ [] in
      refines_taken refines (record state { switches = others; posts = posts }) row step
      (one ∷ []) (record {
        may = writes.may;
        piece_is = writes.piece_is;
        as_many = writes.as_many;
        each = writes.each;
        travels = λ i. refines.packet i ∙ sym (flight_stays setting journal items i
            (reached_known setting journal refines.sound refines.reached) (writes.apart i));
        counted = omega (arith, writes.as_before);
        controller = items_leave setting journal items state.controller
            (reached_known setting journal refines.sound refines.reached).caused writes.not_told
            refines.controller;
        bag = writes.bag;
        up = up_stay refines items writes.no_links;
        usable = links_stay refines items writes.no_links;
      })
