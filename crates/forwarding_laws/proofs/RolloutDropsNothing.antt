-- In a journal of rows that crash no switch and fail no link nothing fails, and a packet is stuck
-- only where the network's links lead to no target.
use Rattle.std.proofs.Common.{[], ◌&&◌, ◌++◌, ◌<◌, ◌==◌, ◌||◌, ◌∙◌, ◌∷◌, ◌≡◌, ◌≢◌, ◌⊎◌, All, Bool, Contains, IsFalse, IsTrue, List, None, Ok, Option, Some, ap, arith, eq-eqb, false, get_or, if◌then◌else◌, inl, inr, length, map, ne_eqb, not, option_to_list, refl, subst, sym, true, unwrap_or, ℕ}
use Rattle.base.proofs.Exports.{⊤, All-cons, All-nil, cases_eq, get_or-map, length-map, list_any, list_any-append, option_map_or}
use Rattle.net_file.specs.Exports.{IsNet, are_linked_in_net, net_port_owner}
use Rattle.update_machine.specs.Exports.{AreMachineLegTargets, JournalBeginsAnswer, Cause, JournalClaim, Crash, Event, Exit, HasMachineCause, MachineVersionHasPlan, JournalItemsHaveCauses, IsMachineSettingPlanOf, IsMachineSetting, IsMachinePacketStuckRightly, Item, MachineWalkLeads, Leg, LinkDown, Net, One, Row, Seek, Setting, Step, MachineStepOfRow, journal_after_steps, journal_can_use, journal_claim_of, machine_item_finds_down, machine_item_gives_step, machine_hosted_or_none, is_journal_link_end, is_journal_link_open, is_up, piece, journal_plan_at, machine_policy_at, journal_present_step}
use Rattle.net_file.proofs.NetFileRowPlaces.{links, ports}
use Rattle.partition.specs.Plan.{HostedPolicyPartition, IsPartitionPlan}
use Rattle.steps.specs.Exports.{StepSwitchExists}
use Rattle.control_laws.specs.Exports.{AreControlNetworkEvents, ControlLawHoldsReached}
use Rattle.control_laws.proofs.Exports.{AreKept, Behind, Both, HasBothCauses, behind_both, have_both, have_weaker, piece_has, up_more, with_fact}
use Rattle.packet_laws.specs.Exports.{AllPacketFactsKept, IsPacketBlockedOn, PacketTakesLeg, packet_stage_of, packet_facts_of}
use Rattle.packet_laws.proofs.Exports.{IsHere, IsNoRow, IsWayItem, Knows, Past, decision_out, exiting_of, here_known, kept_before, known_before, knows, leg_in, no_rows, port_named, reached, version_planned}
use Rattle.convergence_laws.proofs.Exports.{in_at}
use Rattle.forwarding_laws.specs.Exports.{AreForwardingTargetsCutOff, ForwardingDropsNothing, RolloutFailsNothing, IsConnectedForwardingNetwork, IsForwardingStuckCutOff, NoneIsStuck, NothingFailsInRollout, rollout_step_fails_something}
use Rattle.forwarding_laws.proofs.RolloutDrains.{stands_in}
use Rattle.update_machine.proofs.Exports.{AreOf, HasNexts, IsEventOf, first_steps_are, have_append, have_take, last_given_append, start_laws}
use Rattle.forwarding_laws.proofs.RolloutUnfailingItems.{ClaimsAll, IsUnfailing, all_up, all_usable, are_claimed}

-- ---- the leg of a packet has targets, which are switches of the network: so in a connected
-- network the links lead to one.

-- there are some, and all are switches of the network
pub record AreSwitches (net : Net) (targets : List ℕ) : Type 0 where
  pub some : 0 < length targets
  pub there : All (λ s. s < length net.switches) targets

-- ---- the targets of a partition

targets_planned : (rows : List Row) (net : Net) (plan : List HostedPolicyPartition) (hosted : HostedPolicyPartition)
    → IsPartitionPlan rows net plan → Contains plan hosted → AreSwitches net hosted.1
targets_planned rows net plan hosted is found =
    let first = λ (other : HostedPolicyPartition). other.0 in
    let second = λ (other : HostedPolicyPartition). other.1 in
    let k = found.0 in
    let sizes = length-map (map first plan) (λ part. length part.rules) ∙ length-map plan first in
    let due = is.placement.hosted k (omega (arith, found.1, sizes)) in
    let own : get_or (map second plan) k [] ≡ hosted.1 =
    (get_or-map second plan k hosted [] found.1) ∙ ap (λ (other : HostedPolicyPartition). other.1) found.2 in
    record {
      some = omega (arith, due.number, ap length own);
      there = rw found.2 at (is.targets k hosted found.1);
    }

-- a plan of a version is sound
plan_sound : (setting : Setting) (journal : List Item) (version : ℕ) (plan : List HostedPolicyPartition)
    → IsMachineSetting setting → IsMachineSettingPlanOf setting journal version plan
    → (rows : List Row) × IsPartitionPlan rows setting.net plan
unfolding machine_policy_at journal_plan_at
plan_sound setting journal version plan is of =
    let own : machine_policy_at setting journal version ≡ of.0 = ap (λ o. unwrap_or o []) of.1 in
    let same = ap (λ o. option_map_or (λ rows. machine_hosted_or_none (setting.plan rows)) o []) of.1
    ∙ ap machine_hosted_or_none of.2 in
    let has : MachineVersionHasPlan setting journal version = record {
      policy = of.1 ∙ ap Some (sym own);
      plan = ap setting.plan own ∙ of.2 ∙ ap Ok (sym same);
    } in (
      machine_policy_at setting journal version,
      rw same at (version_planned setting journal version is has).parts,
    )

-- ---- the switch of a port

exit_there : (setting : Setting) (before : List Item) (i s port : ℕ)
    → Knows setting before i (packet_stage_of before i) → (here : IsHere setting before i s)
    → PacketTakesLeg setting before i s (Exit port) ⊎ IsPacketBlockedOn before i (Exit port)
    → (home : ℕ) × (net_port_owner setting.net.switches port ≡ Some home)
exit_there setting before i s port knows here (inl takes) =
    let judged = knows.kept.judged here.travelling takes.judged here.under.header
    here.under.entered in
    let own = ap (λ o. option_map_or (λ d. d.action) o judged.decision.action)
    (sym (decision_out before i (Some judged.decision) judged.decided) ∙ takes.decided) in
    (_, port_named setting port judged.decision.action (own ∙ takes.action) judged.named)
exit_there setting before i s port knows here (inr blocked) =
    let on = exiting_of setting before (packet_facts_of before i) port
    (knows.kept.on_way here.travelling (inr blocked.blocked))
    (leg_in before i (Some (Exit port)) blocked.takes) in
    (on.owner, on.has_port)

home_there : (net : Net) (port home : ℕ) (targets : List ℕ) → net_port_owner net.switches port ≡ Some home
    → option_to_list (net_port_owner net.switches port) ≡ targets → AreSwitches net targets
home_there net port home targets owns are =
    subst (AreSwitches net) (sym (ap option_to_list owns) ∙ are) (record {
      some = omega arith;
      there = All-cons (λ s. s < length net.switches) home [] (ports.below net.switches port home owns)
          (All-nil (λ s. s < length net.switches));
    })

targets_there : (setting : Setting) (before : List Item) (i s : ℕ) (leg : Leg)
    (targets : List ℕ) → Knows setting before i (packet_stage_of before i) → IsHere setting before i s
    → PacketTakesLeg setting before i s leg ⊎ IsPacketBlockedOn before i leg
    → AreMachineLegTargets setting before i leg targets → AreSwitches setting.net targets
targets_there setting before i s (Seek version partition) targets knows here on own =
    let sound = plan_sound setting before version own.3 knows.is own.4 in
    subst (AreSwitches setting.net) own.9
    (targets_planned sound.0 setting.net own.3 own.5 sound.1 own.6)
targets_there setting before i s (Exit port) targets knows here on own =
    let home = exit_there setting before i s port knows here on in
    home_there setting.net port home.0 targets home.1 own.3

-- ---- a packet that is stuck

-- all that is known of an item of a packet on its way
abbrev pub IsKeptItem : Setting → List Item → Item → Type 0
IsKeptItem setting = Behind (Past (IsWayItem setting)) (AllPacketFactsKept setting)

pub are_kept_items : (setting : Setting) (events : List Event) (journal : List Item)
    → IsMachineSetting setting → AreControlNetworkEvents setting events → JournalBeginsAnswer setting events journal
    → JournalItemsHaveCauses (IsKeptItem setting) [] journal
are_kept_items setting events journal is own begins = kept_before setting journal is
    ((reached (λ setting journal. JournalItemsHaveCauses (IsWayItem setting) [] journal)
    (λ setting journal is have. have)).begun setting events journal own begins is)

-- it is at a switch of the network, and its leg has targets, which are switches of the network too
pub record IsStuckAmong (net : Net) (switch : ℕ) (targets : List ℕ) : Type 0 where
  pub there : StepSwitchExists net switch
  pub among : AreSwitches net targets

pub stuck_among : (setting : Setting) → IsMachineSetting setting → (before : List Item)
    (packet switch : ℕ) (cause : Cause) (leg : Leg) (down targets : List ℕ)
    → IsKeptItem setting before (Item.Stuck packet switch cause leg down)
    → AreMachineLegTargets setting before packet leg targets → IsStuckAmong setting.net switch targets
stuck_among setting is before packet switch cause leg down targets kept own =
    let known : Knows setting before packet (packet_stage_of before packet) = knows setting before packet
    (known_before setting is before (Item.Stuck packet switch cause leg down) kept) in
    let finds = kept.caused.caused.way in
    let here = here_known setting before packet switch known finds.at in record {
      there = omega (arith, here.at, here.under.now);
      among = targets_there setting before packet switch leg targets known here finds.on own;
    }

-- ---- connected networks

leads_to_one : (net : Net) (switch : ℕ) (targets : List ℕ) → IsConnectedForwardingNetwork net
    → IsStuckAmong net switch targets → AreForwardingTargetsCutOff net switch targets → ⊥
leads_to_one net switch [] connected stuck cut_off = absurd (omega (arith, stuck.among.some))
leads_to_one net switch (target ∷ targets) connected stuck cut_off =
    let way = connected switch target stuck.there (stuck.among.there 0 target (omega arith)) in
    cut_off 0 target (omega arith) way.0 way.1

abbrev IsNotStuck : List Item → Item → Type 0
IsNotStuck before (Item.Stuck packet switch cause leg down) = ⊥
IsNotStuck before _ = ⊤

not_stuck : (setting : Setting) → IsMachineSetting setting → IsConnectedForwardingNetwork setting.net
    → (before : List Item) (next : Item)
    → Both (ForwardingDropsNothing setting) (IsKeptItem setting) before next → IsNotStuck before next
not_stuck setting is connected before (Item.Stuck packet switch cause leg down) both =
    let stuck : IsForwardingStuckCutOff setting before packet switch leg = both.first in
    leads_to_one setting.net switch stuck.targets connected
    (stuck_among setting is before packet switch cause leg down stuck.targets both.second
    stuck.own_leg)
    stuck.cut_off
not_stuck setting is connected before next both = tt

pub none_is_stuck : ((setting : Setting) (events : List Event) (journal : List Item)
    → IsMachineSetting setting → AreControlNetworkEvents setting events → NothingFailsInRollout events
    → JournalBeginsAnswer setting events journal → JournalItemsHaveCauses (ForwardingDropsNothing setting) [] journal)
    → (setting : Setting) (events : List Event) (journal : List Item)
    → IsMachineSetting setting → AreControlNetworkEvents setting events → NothingFailsInRollout events
    → IsConnectedForwardingNetwork setting.net → JournalBeginsAnswer setting events journal → NoneIsStuck journal
none_is_stuck drops setting events journal is own nothing connected begins packet switch cause leg
    down found = (stands_in IsNotStuck [] journal (Item.Stuck packet switch cause leg down) none
    (in_at journal found.0 (Item.Stuck packet switch cause leg down) found.1 found.2)).own
  where
    none : JournalItemsHaveCauses IsNotStuck [] journal
    none = have_weaker (Both (ForwardingDropsNothing setting) (IsKeptItem setting)) IsNotStuck
        (not_stuck setting is connected) [] journal (have_both (ForwardingDropsNothing setting)
        (IsKeptItem setting) [] journal (drops setting events journal is own nothing begins)
        (are_kept_items setting events journal is own begins))

-- ---- dropped nothing

-- ---- rows

abbrev IsSafeRow : List Item → Item → Type 0
IsSafeRow before (Item.Row row step) = IsFalse (rollout_step_fails_something step)
IsSafeRow before _ = ⊤

no_row_safe : (before : List Item) (next : Item) → IsNoRow next → IsSafeRow before next
no_row_safe before (Item.Row row step) none = absurd none
no_row_safe before _ none = tt

abbrev IsSafe : Step → Type 0
IsSafe step = IsFalse (rollout_step_fails_something step)

steps_safe : (setting : Setting) (before : List Item) (steps : List MachineStepOfRow) → AreOf IsSafe steps
    → JournalItemsHaveCauses IsSafeRow [] before → JournalItemsHaveCauses IsSafeRow [] (journal_after_steps setting before steps)
steps_safe setting before [] safe have = have
steps_safe setting before (next ∷ steps) safe have = steps_safe setting
    (before ++ piece setting before next.row next.step) steps safe.1
    (have_append IsSafeRow [] before (piece setting before next.row next.step) have
    (piece_has IsSafeRow setting before next.row next.step safe.0 (have_weaker (λ js after. IsNoRow
    after) IsSafeRow no_row_safe _ _ (no_rows setting before next.row next.step))))

event_safe : (event : Event) → RolloutFailsNothing event → IsEventOf IsSafe event
event_safe (One step) safe = safe
event_safe _ safe = tt

nexts_safe : HasNexts IsSafe
nexts_safe = record { delivery = λ number. refl; hop = λ packet. refl }

rows_safe : (setting : Setting) (events : List Event) (journal : List Item) → NothingFailsInRollout events
    → JournalBeginsAnswer setting events journal → JournalItemsHaveCauses IsSafeRow [] journal
rows_safe setting events journal nothing begins = rw begins.written
    (have_take IsSafeRow [] begins.whole begins.length
    (rw begins.answers.written (steps_safe setting [] begins.answers.steps
    (first_steps_are IsSafe nexts_safe setting 1 events [] begins.answers.steps (λ k d within.
    event_safe (get_or events k d) (nothing k d within)) begins.answers.allowed) tt)))

-- ---- items

-- all that is known of an item
abbrev IsCaused : Setting → List Item → Item → Type 0
IsCaused setting = Both (HasMachineCause setting) (Both (HasBothCauses setting) IsSafeRow)

-- of a journal in which nothing failed
record IsSound (setting : Setting) (journal : List Item) : Type 0 where
  step : (step : Step) → journal_present_step journal ≡ Some step → IsFalse (rollout_step_fails_something step)
  up : (s : ℕ) → IsTrue (is_up journal s)
  have : JournalItemsHaveCauses (Both (HasBothCauses setting) IsUnfailing) [] journal
  found : (i one two : ℕ) → list_any (machine_item_finds_down i one two) journal ≡ false

next_step : (before : List Item) (next : Item) → IsSafeRow before next
    → ((step : Step) → journal_present_step before ≡ Some step → IsFalse (rollout_step_fails_something step)) → (step : Step)
    → journal_present_step (before ++ next ∷ []) ≡ Some step → IsFalse (rollout_step_fails_something step)
unfolding journal_present_step
next_step before (Item.Row row now) safe old step is =
    let same : Some now ≡ Some step =
    sym (last_given_append machine_item_gives_step before (Item.Row row now ∷ [])) ∙ is in
    let is_now : now ≡ step = cc in subst (λ x. IsFalse (rollout_step_fails_something x)) is_now safe
next_step before next safe old step is =
    old step (sym (last_given_append machine_item_gives_step before (next ∷ [])) ∙ is)

module _ (setting : Setting) (net : IsNet setting.net) where
  next_unfailing : (before : List Item) (next : Item) → IsCaused setting before next
      → IsSound setting before → IsUnfailing before next
  next_unfailing before (Item.Down s) caused sound =
      let clash : true ≡ false = sound.step (Crash s) caused.first in absurd cc
  next_unfailing before (Item.Booted s boot) caused sound =
      let clash : true ≡ false = sym (sound.up s) ∙ caused.second.first.first.down in absurd cc
  next_unfailing before (Item.LinkIs one two false) caused sound = elim caused.first [
    | inl is ↦ let clash : true ≡ false = sound.step (LinkDown one two) is in absurd cc
    | inr is ↦ let clash : true ≡ false = sound.step (LinkDown two one) is in absurd cc
  ]
  next_unfailing before next caused sound = tt

  safe_of : (journal : List Item) → IsSound setting journal → JournalItemsHaveCauses IsUnfailing [] journal
  safe_of journal sound = have_weaker (Both (HasBothCauses setting) IsUnfailing) IsUnfailing
      (λ before next both. both.second) [] journal sound.have

  next_up : (before : List Item) (next : Item) (s : ℕ) → IsUnfailing before next
      → IsTrue (is_up before s) → IsTrue (is_up (before ++ next ∷ []) s)
  next_up before (Item.Down t) s safe up = absurd safe
  next_up before (Item.Booted t boot) s safe up = absurd safe
  next_up before next s safe up = rw (up_more before next s) up

  -- no packet finds a link down
  next_found : (before : List Item) (next : Item) (i one two : ℕ) → IsCaused setting before next
      → IsSound setting before → machine_item_finds_down i one two next ≡ false
  next_found before (Item.FoundDown packet x y) i one two caused sound = let down = caused.first in
      absurd (cc (sym down.linked ∙ sym (all_usable setting before (safe_of before sound) x y)
      ∙ down.unusable))
  next_found before next i one two caused sound = refl

  sound_kept : AreKept (IsCaused setting) (IsSound setting)
  sound_kept before next caused sound =
      let safe = next_unfailing before next caused sound in record {
        step = next_step before next caused.second.second sound.step;
        up = λ s. next_up before next s safe (sound.up s);
        have = have_append (Both (HasBothCauses setting) IsUnfailing) [] before (next ∷ [])
            sound.have (record { first = caused.second.first; second = safe }, tt);
        found = λ i one two. list_any-append (machine_item_finds_down i one two) before (next ∷ [])
            ∙ ap (λ b. b || (machine_item_finds_down i one two next || false)) (sound.found i one two)
            ∙ ap (λ b. b || false) (next_found before next i one two caused sound);
      }

  sound_at_first : IsSound setting []
  sound_at_first = record {
    step = λ step is. let none : None ≡ Some step = sym start_laws.step ∙ is in absurd cc;
    up = start_laws.up;
    have = tt;
    found = λ i one two. refl;
  }

  -- ---- links that switches know

  ends_known : (before : List Item) → IsSound setting before → (s one two : ℕ) → two < 64
      → is_journal_link_end setting before s one two ≡ are_linked_in_net setting.net.links one two
  ends_known before sound s one two small = by_place (cases_eq one s) where
    by_claim : (o : Option JournalClaim) → journal_claim_of setting before s one ≡ o → ClaimsAll setting.net one o
        → option_map_or (λ claim. claim.links two) (journal_claim_of setting before s one) false
        ≡ are_linked_in_net setting.net.links one two
    by_claim None e all = absurd all
    by_claim (Some claim) e all = cc (e, all two small)

    by_place : (one ≡ s) ⊎ (one ≢ s)
        → is_journal_link_end setting before s one two ≡ are_linked_in_net setting.net.links one two
    by_place (inl same) =
        cc (eq-eqb one s same, all_usable setting before (safe_of before sound) s two, same)
    by_place (inr apart) = ap (λ b. if b then journal_can_use setting before s two
        else option_map_or (λ claim. claim.links two) (journal_claim_of setting before s one) false)
        (ne_eqb one s apart) ∙ by_claim (journal_claim_of setting before s one) refl
        ((are_claimed setting before sound.have).claims s one)

  -- each link of the network is open to each packet
  link_open : (before : List Item) → IsSound setting before → (packet s one two : ℕ)
      → IsTrue (are_linked_in_net setting.net.links one two)
      → IsTrue (is_journal_link_open setting before packet s one two)
  link_open before sound packet s one two linked =
      all_four (one == two) _ _ _ apart (ends_known before sound s one two two_small ∙ linked)
      (ends_known before sound s two one one_small ∙ back) (sound.found packet one two)
    where
      back : are_linked_in_net setting.net.links two one ≡ true
      back = links.both_ways setting.net.links two one ∙ linked

      two_small : two < 64
      two_small = omega (arith, links.below setting.net one two net linked, net.few_switches)

      one_small : one < 64
      one_small = omega (arith, links.below setting.net two one net back, net.few_switches)

      apart : (one == two) ≡ false
      apart = ne_eqb one two (λ same.
          let clash = sym linked ∙ ap (are_linked_in_net setting.net.links one) (sym same)
          ∙ links.not_itself setting.net one net in
          absurd cc)

      all_four : (a b c d : Bool) → a ≡ false → b ≡ true → c ≡ true → d ≡ false
          → ((not a && b && c) && not d) ≡ true
      all_four a b c d p q r t = rw (p, q, r, t) refl

  leads_open : (before : List Item) → IsSound setting before → (packet s at : ℕ)
      (path : List ℕ) (target : ℕ) → MachineWalkLeads (are_linked_in_net setting.net.links) at path target
      → MachineWalkLeads (is_journal_link_open setting before packet s) at path target
  leads_open before sound packet s at [] target leads = leads
  leads_open before sound packet s at (next ∷ path) target leads = (
    link_open before sound packet s at next leads.0,
    leads_open before sound packet s next path target leads.1,
  )

  not_empty : (targets : List ℕ) → 0 < length targets → targets ≢ []
  not_empty [] some = absurd (omega (arith, some))
  not_empty (target ∷ targets) some = λ none. absurd cc

  -- all that is known of an item
  abbrev IsKnown : List Item → Item → Type 0
  IsKnown = Both (Behind (IsCaused setting) (IsSound setting)) (IsKeptItem setting)

  drops_nothing : IsMachineSetting setting → (before : List Item) (next : Item) → IsKnown before next
      → ForwardingDropsNothing setting before next
  drops_nothing is before (Item.Stuck packet switch cause leg down) known =
      let stuck : IsMachinePacketStuckRightly setting before packet switch leg = known.first.caused.first in
      record {
        stands = stuck.stands;
        targets = stuck.targets;
        own_leg = stuck.own_leg;
        has_targets = not_empty stuck.targets (stuck_among setting is before packet switch cause leg
            down stuck.targets known.second stuck.own_leg).among.some;
        cut_off = λ k d within path leads. stuck.no_path k d within path (leads_open before
            known.first.known packet switch switch path (get_or stuck.targets k d) leads);
      }
  drops_nothing is before (Item.Lost packet) known = elim known.first.caused.first [
    | inl own ↦ own
    | inr crashed ↦ absurd (cc (known.first.known.step (Crash crashed.switch) crashed.crashes))
  ]
  drops_nothing is before (Item.FoundDown packet one two) known =
      let down = known.first.caused.first in
      absurd (cc (sym down.linked ∙ sym (all_usable setting before
      (safe_of before known.first.known) one two) ∙ down.unusable))
  drops_nothing is before (Item.Closed packet switch) known =
      absurd (cc (sym ((all_up before (safe_of before known.first.known)).serving switch)
      ∙ known.second.caused.caused.way.1))
  drops_nothing is before next known = tt

pub rollouts : ControlLawHoldsReached (λ setting journal. IsMachineSetting setting → JournalItemsHaveCauses (HasMachineCause setting) [] journal)
    → (setting : Setting) (events : List Event) (journal : List Item)
    → IsMachineSetting setting → AreControlNetworkEvents setting events → NothingFailsInRollout events
    → JournalBeginsAnswer setting events journal → JournalItemsHaveCauses (ForwardingDropsNothing setting) [] journal
rollouts ends setting events journal is own nothing begins =
    have_weaker (Both (Behind (IsCaused setting) (IsSound setting)) (IsKeptItem setting))
    (ForwardingDropsNothing setting) (drops_nothing setting is.net is) [] journal
    (have_both (Behind (IsCaused setting) (IsSound setting)) (IsKeptItem setting) [] journal
    (with_fact (IsCaused setting) (IsSound setting) (sound_kept setting is.net) [] journal caused
    (sound_at_first setting is.net)) (are_kept_items setting events journal is own begins))
  where
    both : JournalItemsHaveCauses (HasBothCauses setting) [] journal
    both = (behind_both (λ setting journal. JournalItemsHaveCauses (HasBothCauses setting) [] journal)
        (λ setting journal have. have)).begun setting events journal begins

    caused : JournalItemsHaveCauses (IsCaused setting) [] journal
    caused = have_both (HasMachineCause setting) (Both (HasBothCauses setting) IsSafeRow) [] journal
        (ends.begun setting events journal own begins is) (have_both (HasBothCauses setting)
        IsSafeRow [] journal both (rows_safe setting events journal nothing begins))
