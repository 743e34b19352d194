-- By which rules a switch decides, and what it sends to caches.
use Rattle.std.proofs.Common.{[], ◌==◌, ◌↔◌, ◌∙◌, ◌∷◌, ◌≡◌, ◌≢◌, All, Bool, IsSome, IsTrue, List, MatchOption, None, Option, Some, ap, cond, eq-eqb, eqb-true, false, filter, find, inr, is_some, map, option_map, refl, subst, sym, true, ℕ, rules}
use Rattle.base.proofs.Exports.{All-cons, All-contains, All-head, All-tail, find-there, option_map_or, ⊤}
use Rattle.five_tuple.specs.Exports.{IsHeader, header_number_of}
use Rattle.five_tuple.specs.declared.header.Header.{Header}
use Rattle.policy_rules.specs.Exports.{AreSoundPolicyPartitions, HostedPolicyPartition, first_policy_rule, policy_hit_of_rule, is_in_policy_partition, scan}
use Rattle.policy_rules.specs.declared.packet.Leg.{Leg}
use Rattle.policy_rules.specs.declared.packet.Leg.TheVariants.{Seek as SeekLeg, Exit as ExitLeg}
use Rattle.policy_rules.specs.declared.policy.Row.{Row}
use Rattle.policy_rules.specs.declared.rules.Partition.{Partition}
use Rattle.tunnel.specs.Exports.{TunnelValue}
use Rattle.switch_table.specs.Exports.{switch_table_authority_of, first_cache_entry, switch_table_part_has_target, switch_table_part_of, switch_table_redirect_of, switch_table_lookup, tables_of}
use Rattle.switch_table.specs.declared.cache.CacheEntry.{CacheEntry}
use Rattle.switch_table.specs.declared.search.Found.{Found}
use Rattle.switch_table.specs.declared.search.Found.TheVariants.{Cached, Authority, Redirect}
use Rattle.switch_table.specs.declared.tables.Tables.{Tables}
use Rattle.ctrl_msg.specs.declared.message.Body.{Body}
use Rattle.switch_core.specs.Exports.{SwitchAnswer, Decided, IsSwitchReadyAsAuthority, IsSwitchOwnRuleDecision, IsSwitchAnswerByPartition, IsSwitchDecision, IsSwitchReady, IsRightSwitchAnswer, Seek, SwitchSite, Stuck, SwitchValue, switch_admitted, arrive_answer, switch_arrived_with, switch_decision_by_entry, switch_decision_by_rule, switch_stuck_cause, enter_answer, switch_entered_with, switch_entered_by_answer, switch_held_tables, switch_looked_up, switch_lookup_by_stamp, switch_next_of, switch_own_partition, switch_packet_of, switch_route_known, switch_rule_to_cache, switch_setting_out, switch_stamp_tables}
use Rattle.switch_core.specs.declared.tunnel_calls.Arrived.TheVariants as arrival
use Rattle.switch_core.specs.declared.deciding.Decision.{Decision}
use Rattle.switch_core.specs.declared.tunnel_calls.Entered.TheVariants as entry
use Rattle.switch_core.specs.declared.tunnel_calls.Next.{Next}
use Rattle.switch_core.specs.declared.tunnel_calls.Packet.{Packet}
use Rattle.switch_core.proofs.SwitchLookupAnswers.{lookup_is, stamp_held, stamp_version}
use Rattle.switch_core.proofs.SwitchArrivals.{arrive_anew, arrive_held, arrive_out, entry_by}

-- ---- where decisions come from

-- what a lookup finds in the cache is the first entry of the stamp's version
cache_hit : (s : SwitchValue) (header : Header) (entry : CacheEntry) → IsSwitchReady s header →
    switch_lookup_by_stamp s header ≡ Cached entry →
    first_cache_entry s.stamp (header_number_of header) s.cache.entries ≡ Some entry
cache_hit s header entry ready is = let tables = switch_stamp_tables s in
    ap (λ (v : ℕ). first_cache_entry v (header_number_of header) s.cache.entries)
    (sym (stamp_version s ready.stamped))
    ∙ by_entry_of (first_cache_entry tables.version (header_number_of header) s.cache.entries) is
  where
    by_part : (part : Option Partition) →
        option_map_or (switch_table_authority_of header) part (switch_table_redirect_of header (switch_stamp_tables s).parts)
        ≡ Cached entry → ⊥
    by_part None is = cc
    by_part (Some part) is = cc

    by_entry_of : (found : Option CacheEntry) →
        option_map_or Cached found (switch_table_lookup (switch_stamp_tables s) header) ≡ Cached entry →
        found ≡ Some entry
    by_entry_of (Some other) is = (let same : other ≡ entry = cc in ap Some same)
    by_entry_of None is = absurd (by_part (find (is_in_policy_partition header) (switch_stamp_tables s).auth) is)

-- where an answer decides, its decision comes from where it should
abbrev IsSourced : SwitchValue → SwitchSite → Packet → SwitchAnswer → Type 0
IsSourced s site packet (Decided decision cache way) = IsSwitchDecision s site packet decision cache way
IsSourced s site packet _ = ⊤

by_cache : (s : SwitchValue) (site : SwitchSite) (packet : Packet) (cached : CacheEntry) →
    first_cache_entry s.stamp (header_number_of packet.header) s.cache.entries ≡ Some cached →
    IsSwitchDecision s site packet (switch_decision_by_entry cached) None (switch_next_of s site packet cached.action)
by_cache s site packet cached first = search rules

by_own : (s : SwitchValue) (site : SwitchSite) (packet : Packet) (version partition : ℕ)
    (tables : Tables) (answer : SwitchAnswer) → switch_held_tables s version ≡ Some tables →
    IsSwitchAnswerByPartition s site packet version tables partition answer → IsSourced s site packet answer
by_own s site packet version partition tables answer held by =
    subst (IsSourced s site packet) (sym by.answered) (record {
      source = inr own;
      onward = refl;
      sent = is_sent (packet.ingress == s.number) refl;
      carried = λ body is. (own, is_carried body (packet.ingress == s.number) is);
    })
  where
    decision : Decision
    decision = switch_decision_by_rule s.number version by.own.part.number by.own.rule

    own : IsSwitchOwnRuleDecision s packet.header decision
    own = record { tables = tables; held = held; own = by.own; decided = refl }

    rule : Body
    rule = switch_rule_to_cache version by.own

    is_sent : (test : Bool) → (packet.ingress == s.number) ≡ test →
        IsSome (cond test None (Some rule)) ↔ ((true ≡ true) × (packet.ingress ≢ s.number))
    is_sent true is = (
      λ some. absurd (cc),
      λ both. absurd (both.1 (eqb-true packet.ingress s.number is)),
    )
    is_sent false is = (
      λ some. (refl, λ same. (let test = eq-eqb packet.ingress s.number same in cc)),
      λ both. refl,
    )

    is_carried : (body : Body) (test : Bool) → cond test None (Some rule) ≡ Some body → body ≡ rule
    is_carried body true is = absurd (cc)
    is_carried body false is = cc

by_lookup : (s : SwitchValue) (site : SwitchSite) (packet : Packet) (answer : SwitchAnswer) →
    IsSwitchReady s packet.header → IsRightSwitchAnswer s site packet answer → IsSourced s site packet answer
by_lookup s site packet answer ready law = by_found (switch_lookup_by_stamp s packet.header) refl where
  by_way : (leg : Leg) (targets : List ℕ) (route : Option (List ℕ)) →
      MatchOption route (answer ≡ Stuck (switch_stuck_cause s site.near packet.down leg targets) leg)
      (λ route. answer ≡ Seek (switch_setting_out packet leg targets route)) →
      IsSourced s site packet answer
  by_way leg targets None is = subst (IsSourced s site packet) (sym is) tt
  by_way leg targets (Some route) is = subst (IsSourced s site packet) (sym is) tt

  by_found : (found : Found) → switch_lookup_by_stamp s packet.header ≡ found →
      IsSourced s site packet answer
  by_found (Cached cached) is = subst (IsSourced s site packet) (sym (law.cached cached is))
      (by_cache s site packet cached (cache_hit s packet.header cached ready is))
  by_found (Authority partition place) is = by_own s site packet s.stamp partition
      (switch_stamp_tables s) answer (stamp_held s ready.stamped) (law.authority partition place is).0
  by_found (Redirect partition targets) is = by_way (SeekLeg s.stamp partition) targets
      (switch_route_known s site.near packet targets) (law.redirect partition targets is)

-- the answer of which a call tells a decision
told_entry : (answer : SwitchAnswer) (decision : Decision) (way : Next) →
    switch_entered_with answer ≡ entry.Decided decision way →
    (cache : Option Body) × (answer ≡ Decided decision cache way)
told_entry answer decision way is = search rules

told_arrival : (answer : SwitchAnswer) (decision : Decision) (cache : Option Body) (way : Next)
    → switch_arrived_with answer ≡ arrival.Decided decision cache way → answer ≡ Decided decision cache way
told_arrival answer decision cache way is = search rules

pub decided_on_entry : (s : SwitchValue) (site : SwitchSite) (packet : Packet) (decision : Decision)
    (way : Next) → IsSwitchReady s packet.header → enter_answer s site packet ≡ entry.Decided decision way
    → (cache : Option Body) × (switch_admitted s site packet ≡ Some (Decided decision cache way))
    × IsSwitchDecision s site packet decision cache way
decided_on_entry s site packet decision way ready is =
    let looked = entry_by s site packet true ready.serving in
    let told = told_entry (switch_looked_up s site packet) decision way (sym (ap switch_entered_by_answer looked) ∙ is) in (
      told.0,
      looked ∙ ap Some told.1,
      rw told.1 at (by_lookup s site packet _ ready (lookup_is s site packet ready)),
    )

pub decided_on_arrival : (s : SwitchValue) (site : SwitchSite) (t : TunnelValue) (decision : Decision)
    (cache : Option Body) (way : Next) → IsSwitchReadyAsAuthority s t →
    arrive_answer s site t ≡ arrival.Decided decision cache way →
    IsSwitchDecision s site (switch_packet_of t) decision cache way
decided_on_arrival s site t decision cache way arriving is = by_leg t.leg refl where
  packet : Packet
  packet = switch_packet_of t

  by_answer : (answer : SwitchAnswer) → arrive_answer s site t ≡ switch_arrived_with answer →
      IsSourced s site packet answer → IsSwitchDecision s site packet decision cache way
  by_answer answer came sourced = subst (IsSourced s site packet)
      (told_arrival answer decision cache way (sym came ∙ is)) sourced

  by_tables : (version partition : ℕ) (held : Option Tables) → t.leg ≡ SeekLeg version partition
      → switch_held_tables s version ≡ held → IsSwitchDecision s site packet decision cache way
  by_tables version partition (Some tables) leg held =
      let by = arrive_held s site t version partition tables arriving leg held in
      by_answer by.0 by.1 (by_own s site packet version partition tables by.0 held by.2)
  by_tables version partition None leg held =
      let by = arrive_anew s site t version partition arriving leg
      (ap (λ (o : Option Tables). is_some o) held) in
      by_answer by.0 by.1 (by_lookup s site packet by.0 arriving.ready by.2)

  by_leg : (leg : Leg) → t.leg ≡ leg → IsSwitchDecision s site packet decision cache way
  by_leg (ExitLeg port) leg = let out = sym (arrive_out s site t port leg) ∙ is in absurd (cc)
  by_leg (SeekLeg version partition) leg =
      by_tables version partition (switch_held_tables s version) leg refl

-- ---- tables of a plan

of_plan : (P : Partition → Type 0) (kept : HostedPolicyPartition → Bool) (plan : List HostedPolicyPartition) →
    All P (map switch_table_part_of plan) → All P (map switch_table_part_of (filter kept plan))
of_plan P kept [] all = all
of_plan P kept (hosted ∷ plan) all =
    by_test (kept hosted) (of_plan P kept plan (All-tail P _ (map switch_table_part_of plan) all))
  where
    by_test : (test : Bool) → All P (map switch_table_part_of (filter kept plan)) →
        All P (map switch_table_part_of (cond test (hosted ∷ filter kept plan) (filter kept plan)))
    by_test true rest = All-cons P (switch_table_part_of hosted) (map switch_table_part_of (filter kept plan))
        (All-head P (switch_table_part_of hosted) (map switch_table_part_of plan) all) rest
    by_test false rest = rest

pub decides_as_policy : (s : SwitchValue) (header : Header) (decision : Decision) (rows : List Row)
    (plan : List HostedPolicyPartition) → AreSoundPolicyPartitions rows (map switch_table_part_of plan) → IsHeader header
    → switch_held_tables s decision.version ≡ Some (tables_of plan decision.version s.number)
    → IsSwitchOwnRuleDecision s header decision
    → scan rows header ≡ record { rule = decision.rule; action = decision.action }
decides_as_policy s header decision rows plan sound is planned by =
    let part = by.own.part in
    let kept = switch_table_part_has_target s.number in
    let auth = map switch_table_part_of (filter kept plan) in
    let tables : by.tables ≡ tables_of plan decision.version s.number =
    let both : Some by.tables ≡ Some (tables_of plan decision.version s.number) =
    sym by.held ∙ planned in
    cc in
    let Decides : Partition → Type 0 = λ part. IsTrue (is_in_policy_partition header part) →
    option_map policy_hit_of_rule (first_policy_rule part.rules header) ≡ Some (scan rows header) in
    let own = ap (λ (t : Tables). switch_own_partition t part.number) (sym tables) ∙ by.own.own in
    let there = (find-there (λ (p : Partition). p.number == part.number) auth part own).0 in
    let decides : Decides part =
    All-contains Decides auth part (of_plan Decides kept plan (sound.decides header is)) there in
    let first = ap (option_map policy_hit_of_rule) (sym by.own.first) ∙ decides by.own.hit.region in
    let hit : scan rows header ≡ policy_hit_of_rule by.own.rule = cc in
    hit ∙ ap (λ (d : Decision). record { rule = d.rule; action = d.action }) (sym by.decided)
