-- A packet that entered after a quiet journal, item by item as long as only packets move.
use Rattle.std.proofs.Common.{[], if◌then◌else◌, ◌++◌, ◌<◌, ◌==◌, ◌∙◌, ◌∷◌, ◌≡◌, ◌⊎◌, All, Bool, IsFalse, IsTrue, List, None, Some, ap, arith, eq-eqb, eqb-true, false, find, inl, inr, ne_eqb, option_map, refl, subst, sym, true, unwrap_or, ℕ}
use Rattle.base.proofs.Exports.{Contains-append_left, Contains-push, option_or, some_same}
use Rattle.base.specs.Exports.{has}
use Rattle.update_machine.specs.Exports.{Action, Cause, Crash, Decision, Exit, Header, IsMachineSetting, Item, Leaving, Leg, Lose, Seek, Setting, Step, journal_decision_of, machine_item_gives_decision, machine_item_gives_header, machine_item_gives_standing, machine_item_gives_step, machine_item_gives_travelling, journal_packet_header, journal_next_packet, journal_plan_at, journal_present_step, journal_retired_mark, journal_route_from, journal_standing_of, journal_leg_targets, travels_in_journal, journal_version_count}
use Rattle.net_file.specs.Exports.{IsNet}
use Rattle.policy_rules.specs.Exports.{HostedPolicyPartition, is_in_policy_partition}
use Rattle.update_machine.proofs.Exports.{folded_append, last_given_append}
use Rattle.convergence_laws.proofs.Exports.{AreKept, Behind, Both, StaysSo, moves, reach_more, stays_on}
use Rattle.convergence_laws.specs.Exports.{AreConvergenceUnusableLinks, HasConverged, IsNetworkUpdated, ConvergenceReaches}
use Rattle.packet_laws.specs.Exports.{AllPacketFactsKept, PacketFurtherCause, HasPacketItemCause, PacketSeeksRightly, PacketStrongCause, changes_packet_entry_mark, packet_entry_mark}
use Rattle.packet_laws.proofs.Exports.{Before, IsWayItem, Past, here_known, known_before, knows, packet_more, standing_more, stands_known, travels_more}
use Rattle.forwarding_laws.specs.Exports.{ForwardedEndsBy, ForwardingFindsNoTarget, IsForwardingStuckApart}
use Rattle.forwarding_laws.proofs.RecoverySecondRounds.{MarksStay, Passes, apart_from, marks_stay, passes_walks}

-- ---- what one more item says about it

-- an item that doesn't decide it
pub undecided_by : (before : List Item) (next : Item) (i : ℕ) → machine_item_gives_decision i next ≡ None
    → journal_decision_of (before ++ next ∷ []) i ≡ journal_decision_of before i
unfolding journal_decision_of
undecided_by before next i decides =
    cc (last_given_append (machine_item_gives_decision i) before (next ∷ []), decides)

pub step_more : (before : List Item) (next : Item)
    → journal_present_step (before ++ next ∷ []) ≡ option_or (machine_item_gives_step next) (journal_present_step before)
unfolding journal_present_step
step_more before next = last_given_append machine_item_gives_step before (next ∷ [])

pub mark_more : (before : List Item) (next : Item) (i : ℕ)
    → packet_entry_mark (before ++ next ∷ []) i ≡ changes_packet_entry_mark i before (packet_entry_mark before i) next
unfolding packet_entry_mark
mark_more before next i = folded_append (changes_packet_entry_mark i) 0 before (next ∷ [])

-- ---- what is true of it

-- the packet was decided and ended by that
pub record IsEnded (setting : Setting) (journal : List Item) (s i : ℕ) (now : List Item) : Type 0 where
  pub decision : Decision
  pub decided : journal_decision_of now i ≡ Some decision
  pub ends : ForwardedEndsBy setting journal now i s decision.action

pub record HasEnded (setting : Setting) (journal : List Item) (s i : ℕ) (header : Header)
    (now : List Item) : Type 0 where
  pub ended : IsFalse (travels_in_journal now i)
  pub how : IsEnded setting journal s i now ⊎ ForwardingFindsNoTarget setting journal now i s header

abbrev pub Fate : Setting → List Item → ℕ → ℕ → Header → List Item → Type 0
Fate setting journal s i header now =
    IsTrue (travels_in_journal now i) ⊎ HasEnded setting journal s i header now

pub record Follows (setting : Setting) (journal : List Item) (s i : ℕ) (header : Header)
    (now : List Item) : Type 0 where
  pub stays : StaysSo setting journal now i
  pub marks : MarksStay setting journal now
  pub step : (step : Step) → journal_present_step now ≡ Some step → IsTrue (moves step)
  pub number : i < journal_next_packet now
  pub entered : journal_packet_header now i ≡ Some header
  pub mark : packet_entry_mark now i ≡ journal_retired_mark journal
  pub at : (t : ℕ) → journal_standing_of now i ≡ Some t → ConvergenceReaches setting journal s t
  pub version : (decision : Decision) → journal_decision_of now i ≡ Some decision
      → decision.version ≡ journal_version_count journal
  pub fate : Fate setting journal s i header now

-- an item of packets, with its causes behind a journal of which all is known
abbrev pub IsFollowed : Setting → List Item → Item → Type 0
IsFollowed setting = Both (Passes setting)
    (Both (Behind (Past (IsWayItem setting)) (AllPacketFactsKept setting)) (PacketStrongCause setting))

-- ---- another packet enters

comes_other : (packet i next : ℕ) → packet ≡ next → i < next → (packet == i) ≡ false
comes_other packet i next number below = ne_eqb packet i (λ same. omega (arith, same, number, below))

module _ (setting : Setting) (journal : List Item) (s i : ℕ) (header : Header)
    (before : List Item) (follows : Follows setting journal s i header before) where
  header_on : (next : Item) → HasPacketItemCause setting before next
      → journal_packet_header (before ++ next ∷ []) i ≡ Some header
  unfolding journal_packet_header
  header_on next way = last_given_append (machine_item_gives_header i) before (next ∷ []) ∙ by next way where
    by : (next : Item) → HasPacketItemCause setting before next
        → option_or (machine_item_gives_header i next) (journal_packet_header before i) ≡ Some header
    by (Item.Entered packet t other) way = cc
        (comes_other packet i (journal_next_packet before) way.0.number follows.number, follows.entered)
    by next way = follows.entered

  mark_on : (next : Item) → HasPacketItemCause setting before next
      → packet_entry_mark (before ++ next ∷ []) i ≡ journal_retired_mark journal
  mark_on next way = mark_more before next i ∙ by next way where
    by : (next : Item) → HasPacketItemCause setting before next
        → changes_packet_entry_mark i before (packet_entry_mark before i) next ≡ journal_retired_mark journal
    by (Item.Entered packet t other) way =
        cc (comes_other packet i (journal_next_packet before) way.0.number follows.number, follows.mark)
    by next way = follows.mark

  step_on : (next : Item) → Passes setting before next → (step : Step)
      → journal_present_step (before ++ next ∷ []) ≡ Some step → IsTrue (moves step)
  step_on next passes step present = by next passes (sym (step_more before next) ∙ present) where
    by : (next : Item) → Passes setting before next
        → option_or (machine_item_gives_step next) (journal_present_step before) ≡ Some step → IsTrue (moves step)
    by (Item.Row row taken) passes is = subst (λ x. IsTrue (moves x)) (cc is) passes
    by next passes is = follows.step step is

  -- ---- where it is

  at_on : Before setting before → (next : Item) → HasPacketItemCause setting before next → (t : ℕ)
      → journal_standing_of (before ++ next ∷ []) i ≡ Some t → ConvergenceReaches setting journal s t
  at_on known next way t stands = by next way (sym (standing_more before next i) ∙ stands) where
    by : (next : Item) → HasPacketItemCause setting before next
        → option_or (machine_item_gives_standing i next) (journal_standing_of before i) ≡ Some t
        → ConvergenceReaches setting journal s t
    by (Item.Entered packet u other) way is = follows.at t
        (sym (ap (λ b. option_or (if b then Some u else None) (journal_standing_of before i))
        (comes_other packet i (journal_next_packet before) way.0.number follows.number)) ∙ is)
    by (Item.Hopped packet u) way is = by_name (packet == i) refl is where
      by_name : (b : Bool) → (packet == i) ≡ b
          → option_or (if b then Some u else None) (journal_standing_of before i) ≡ Some t
          → ConvergenceReaches setting journal s t
      by_name false other is = follows.at t is
      by_name true same is =
          let from = subst (λ k. journal_standing_of before k ≡ Some way.switch) (eqb-true packet i same)
          (stands_known setting before packet way.switch (knows setting before packet known)
          way.at) in
          subst (ConvergenceReaches setting journal s) (cc is)
          (reach_more setting journal s way.switch u (follows.at way.switch from)
          (ap (λ mask. has mask u) (sym (follows.stays.links way.switch)) ∙ way.usable))
    by next way is = follows.at t is

  -- ---- its version

  newest : IsNetworkUpdated setting journal → (version : ℕ) → PacketSeeksRightly before i version
      → version ≡ journal_version_count journal
  newest updated version rightly = omega (
    arith,
    rightly.not_retired,
    rightly.current,
    follows.mark,
    follows.marks.current,
    updated.current,
    updated.retired,
  )

  version_on : IsNetworkUpdated setting journal → (next : Item) → PacketFurtherCause setting before next
      → (decision : Decision) → journal_decision_of (before ++ next ∷ []) i ≡ Some decision
      → decision.version ≡ journal_version_count journal
  unfolding journal_decision_of
  version_on updated next further decision decided =
      by next further (sym (last_given_append (machine_item_gives_decision i) before (next ∷ [])) ∙ decided)
    where
      by : (next : Item) → PacketFurtherCause setting before next
          → option_or (machine_item_gives_decision i next) (journal_decision_of before i) ≡ Some decision
          → decision.version ≡ journal_version_count journal
      by (Item.Decided packet version rule act how) further is = by_name (packet == i) refl is where
        new : Decision
        new = record { version = version; rule = rule; action = act }

        by_name : (b : Bool) → (packet == i) ≡ b
            → option_or (if b then Some new else None) (journal_decision_of before i) ≡ Some decision
            → decision.version ≡ journal_version_count journal
        by_name false other is = follows.version decision is
        by_name true same is = let made : new ≡ decision = cc is in
            sym (ap (λ (d : Decision). d.version) made)
            ∙ newest updated version (rw (eqb-true packet i same) at further.0)
      by next further is = follows.version decision is

  -- ---- how it ends

  -- what an item leaves that doesn't decide or end it
  fate_on : (next : Item) → travels_in_journal (before ++ next ∷ []) i ≡ travels_in_journal before i
      → journal_decision_of (before ++ next ∷ []) i ≡ journal_decision_of before i
      → Fate setting journal s i header (before ++ next ∷ [])
  fate_on next same_travels same_decision = by follows.fate where
    after : List Item
    after = before ++ next ∷ []

    ends_on : (act : Action) → ForwardedEndsBy setting journal before i s act
        → ForwardedEndsBy setting journal after i s act
    ends_on Action.Drop there = Contains-append_left before (next ∷ []) (Item.Dropped i) there
    ends_on (Action.Out port) (inl leaves) = inl (record {
      leaving = leaves.leaving;
      left = Contains-append_left before (next ∷ []) (Item.Left i port leaves.leaving) leaves.left;
      home = leaves.home;
      has_port = leaves.has_port;
      reached = leaves.reached;
    })
    ends_on (Action.Out port) (inr stuck) = inr (record {
      switch = stuck.switch;
      cause = stuck.cause;
      down = stuck.down;
      stuck = Contains-append_left before (next ∷ [])
          (Item.Stuck i stuck.switch stuck.cause (Exit port) stuck.down) stuck.stuck;
      apart = stuck.apart;
    })

    how_on : IsEnded setting journal s i before ⊎ ForwardingFindsNoTarget setting journal before i s header
        → IsEnded setting journal s i after ⊎ ForwardingFindsNoTarget setting journal after i s header
    how_on (inl ended) = inl (record {
      decision = ended.decision;
      decided = same_decision ∙ ended.decided;
      ends = ends_on ended.decision.action ended.ends;
    })
    how_on (inr finds) = inr (record {
      undecided = same_decision ∙ finds.undecided;
      partition = finds.partition;
      own = finds.own;
      stuck = record {
        switch = finds.stuck.switch;
        cause = finds.stuck.cause;
        down = finds.stuck.down;
        stuck = Contains-append_left before (next ∷ []) _ finds.stuck.stuck;
        apart = finds.stuck.apart;
      };
    })

    by : Fate setting journal s i header before → Fate setting journal s i header after
    by (inl on) = inl (same_travels ∙ on)
    by (inr ended) = inr (record { ended = same_travels ∙ ended.ended; how = how_on ended.how })

  -- the decision and the travelling of the packet, as most items leave them
  pass_on : (next : Item) → machine_item_gives_travelling i next ≡ None → machine_item_gives_decision i next ≡ None
      → Fate setting journal s i header (before ++ next ∷ [])
  pass_on next travelling decides = fate_on next
      (travels_more before next i ∙ ap (λ o. unwrap_or o (travels_in_journal before i)) travelling)
      (undecided_by before next i decides)

  -- the packet doesn't travel behind an item that ends it, which decides nothing
  ended_by : (next : Item) → machine_item_gives_travelling i next ≡ Some false → machine_item_gives_decision i next ≡ None
      → IsFalse (travels_in_journal (before ++ next ∷ []) i)
      × (journal_decision_of (before ++ next ∷ []) i ≡ journal_decision_of before i)
  ended_by next ends decides = (
    travels_more before next i ∙ ap (λ o. unwrap_or o (travels_in_journal before i)) ends,
    undecided_by before next i decides,
  )

  own : (i == i) ≡ true
  own = eq-eqb i i refl

  dropped : HasPacketItemCause setting before (Item.Dropped i)
      → Fate setting journal s i header (before ++ Item.Dropped i ∷ [])
  dropped way = let now = ended_by (Item.Dropped i) (rw own refl) refl in
      inr (record {
        ended = now.0;
        how = inl (record {
          decision = way.decision;
          decided = now.1 ∙ way.decided;
          ends = rw way.action (Contains-push before (Item.Dropped i));
        });
      })

  left : (port : ℕ) (leaving : Leaving) → PacketFurtherCause setting before (Item.Left i port leaving)
      → Fate setting journal s i header (before ++ Item.Left i port leaving ∷ [])
  left port leaving leaves = let now = ended_by (Item.Left i port leaving) (rw own refl) refl in
      inr (record {
        ended = now.0;
        how = inl (record {
          decision = record {
            version = leaving.version;
            rule = leaving.rule;
            action = Action.Out port;
          };
          decided = now.1 ∙ leaves.decided;
          ends = inl (record {
            leaving = leaving;
            left = Contains-push before (Item.Left i port leaving);
            home = leaves.switch;
            has_port = leaves.has_port;
            reached = follows.at leaves.switch leaves.stands;
          });
        });
      })

  -- a packet is lost only by rows of its own or of a crash
  not_lost : HasPacketItemCause setting before (Item.Lost i) → ⊥
  not_lost way = elim way.how [
    | inl row ↦ let moved : moves (Lose i) ≡ true = follows.step (Lose i) row in cc
    | inr crash ↦ let moved = follows.step (Crash crash.switch) crash.crashes in
        cc
  ]

  -- what is stuck reaches no target
  stuck_apart : IsNet setting.net → HasConverged setting journal → Before setting before → (t : ℕ)
      (cause : Cause) (leg : Leg) (down : List ℕ)
      → PacketStrongCause setting before (Item.Stuck i t cause leg down)
      → All (λ target. ConvergenceReaches setting journal s target → ⊥) (journal_leg_targets setting journal leg)
  stuck_apart net converged known t cause leg down strong =
      let here = here_known setting before i t (knows setting before i known) strong.0.at in
      let targets : List ℕ = journal_leg_targets setting journal leg in
      apart_from setting journal net s t targets (follows.at t strong.1.stuck.stands)
      (converged.stuck t targets down (omega (arith, here.at, here.under.now))
      (subst (AreConvergenceUnusableLinks setting journal) (sym strong.1.found) follows.stays.found)
      (sym (follows.stays.routes t targets down) ∙ ap (λ all. journal_route_from setting before t all down)
      (sym (follows.stays.targets leg)) ∙ strong.1.no_route))

  stuck : IsNet setting.net → HasConverged setting journal → IsNetworkUpdated setting journal
      → Before setting before → (t : ℕ) (cause : Cause) (leg : Leg) (down : List ℕ)
      → PacketStrongCause setting before (Item.Stuck i t cause leg down)
      → Fate setting journal s i header (before ++ Item.Stuck i t cause leg down ∷ [])
  stuck net converged updated known t cause leg down strong =
      let now = ended_by (Item.Stuck i t cause leg down) (rw own refl) refl in
      inr (record {
        ended = now.0;
        how = by_leg leg strong now.1 (stuck_apart net converged known t cause leg down strong);
      })
    where
      by_leg : (leg : Leg) → PacketStrongCause setting before (Item.Stuck i t cause leg down)
          → (let after = before ++ Item.Stuck i t cause leg down ∷ [] in
          journal_decision_of after i ≡ journal_decision_of before i
          → All (λ target. ConvergenceReaches setting journal s target → ⊥) (journal_leg_targets setting journal leg)
          → IsEnded setting journal s i after ⊎ ForwardingFindsNoTarget setting journal after i s header)
      by_leg (Exit port) strong same apart =
          let decision : Decision = strong.1.stuck.own_leg.0 in
          let next : Item = Item.Stuck i t cause (Exit port) down in
          inl (record {
            decision = decision;
            decided = same ∙ strong.1.stuck.own_leg.1;
            ends = subst (ForwardedEndsBy setting journal (before ++ next ∷ []) i s)
                (sym strong.1.stuck.own_leg.2) (inr (record {
                  switch = t;
                  cause = cause;
                  down = down;
                  stuck = Contains-push before next;
                  apart = apart;
                }));
          })
      by_leg (Seek version partition) strong same apart =
          let next : Item = Item.Stuck i t cause (Seek version partition) down in
          let current : version ≡ journal_version_count journal = newest updated version strong.1.rightly in
          let found = strong.1.stuck.own_leg in
          inr (record {
            undecided = same ∙ strong.1.rightly.undecided;
            partition = partition;
            own = ap (λ v. option_map (λ (p : HostedPolicyPartition). p.0.number)
                (find (λ (p : HostedPolicyPartition). is_in_policy_partition header p.0) (journal_plan_at setting journal v))) (sym current)
                ∙ ap (λ plan. option_map (λ (p : HostedPolicyPartition). p.0.number)
                (find (λ (p : HostedPolicyPartition). is_in_policy_partition header p.0) plan)) (sym (follows.marks.plan version))
                ∙ ap (λ h. option_map (λ (p : HostedPolicyPartition). p.0.number)
                (find (λ (p : HostedPolicyPartition). is_in_policy_partition h p.0) (journal_plan_at setting before version)))
                (sym (some_same (journal_packet_header before i) found.0 header found.1 follows.entered))
                ∙ found.2;
            stuck = subst (λ v. IsForwardingStuckApart setting journal (before ++ next ∷ []) i s
                (Seek v partition)) current (record {
                  switch = t;
                  cause = cause;
                  down = down;
                  stuck = Contains-push before next;
                  apart = apart;
                });
          })

  -- what follows after an item of some packet, if it does for another packet and for this one
  of_packet : (next : ℕ → Item) (packet : ℕ)
      → ((packet == i) ≡ false → Fate setting journal s i header (before ++ next packet ∷ []))
      → (packet ≡ i → Fate setting journal s i header (before ++ next i ∷ []))
      → Fate setting journal s i header (before ++ next packet ∷ [])
  of_packet next packet other own = by (packet == i) refl where
    by : (b : Bool) → (packet == i) ≡ b
        → Fate setting journal s i header (before ++ next packet ∷ [])
    by false apart = other apart
    by true same = let is : packet ≡ i = eqb-true packet i same in
        subst (λ k. Fate setting journal s i header (before ++ next k ∷ [])) (sym is) (own is)

  fate_next : IsNet setting.net → HasConverged setting journal → IsNetworkUpdated setting journal
      → Before setting before → (next : Item) → PacketStrongCause setting before next
      → Fate setting journal s i header (before ++ next ∷ [])
  fate_next net converged updated known (Item.Entered packet t other) strong =
      let apart = comes_other packet i (journal_next_packet before) strong.0.0.number follows.number in
      pass_on (Item.Entered packet t other) (rw apart refl) refl
  fate_next net converged updated known (Item.Dropped packet) strong =
      of_packet Item.Dropped packet (λ apart. pass_on (Item.Dropped packet) (rw apart refl) refl)
      (λ is. dropped (subst (λ k. HasPacketItemCause setting before (Item.Dropped k)) is strong.0))
  fate_next net converged updated known (Item.Left packet port leaving) strong =
      of_packet (λ k. Item.Left k port leaving) packet
      (λ apart. pass_on (Item.Left packet port leaving) (rw apart refl) refl)
      (λ is. left port leaving (rw is at strong.1))
  fate_next net converged updated known (Item.Lost packet) strong =
      of_packet Item.Lost packet (λ apart. pass_on (Item.Lost packet) (rw apart refl) refl)
      (λ is. absurd (not_lost (subst (λ k. HasPacketItemCause setting before (Item.Lost k)) is strong.0)))
  fate_next net converged updated known (Item.Stuck packet t cause leg down) strong =
      of_packet (λ k. Item.Stuck k t cause leg down) packet
      (λ apart. pass_on (Item.Stuck packet t cause leg down) (rw apart refl) refl)
      (λ is. stuck net converged updated known t cause leg down (rw is at strong))
  fate_next net converged updated known (Item.Decided packet version rule act how) strong =
      of_packet (λ k. Item.Decided k version rule act how) packet
      (λ apart. pass_on (Item.Decided packet version rule act how) refl (rw apart refl))
      (λ is. inl (travels_more before (Item.Decided i version rule act how) i
      ∙ subst (λ k. IsTrue (travels_in_journal before k)) is strong.0.at.travelling))
  fate_next net converged updated known next strong = pass_on next refl refl

-- each item of packets keeps it
pub follows_on : (setting : Setting) (journal : List Item) (s i : ℕ) (header : Header)
    → IsMachineSetting setting → HasConverged setting journal → IsNetworkUpdated setting journal
    → AreKept (IsFollowed setting) (Follows setting journal s i header)
follows_on setting journal s i header is converged updated before next cause follows =
    let known = known_before setting is before next cause.second.first in
    let strong : PacketStrongCause setting before next = cause.second.second in record {
      stays = stays_on setting journal is.net i before next
          (passes_walks setting before next cause.first) follows.stays;
      marks = marks_stay setting journal before next cause.first follows.marks;
      step = step_on setting journal s i header before follows next cause.first;
      number = omega (arith, follows.number, packet_more before next);
      entered = header_on setting journal s i header before follows next strong.0;
      mark = mark_on setting journal s i header before follows next strong.0;
      at = at_on setting journal s i header before follows known next strong.0;
      version = version_on setting journal s i header before follows updated next strong.1;
      fate = fate_next setting journal s i header before follows is.net converged updated known next
          strong;
    }
