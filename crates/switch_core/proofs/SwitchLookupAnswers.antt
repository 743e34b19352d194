-- What a switch answers to a packet by a lookup, and by a rule of its own.
use Rattle.std.proofs.Common.{◌==◌, ◌∙◌, ◌≡◌, Err, IsSomeAnd, IsTrue, List, MatchOption, None, Ok, Option, Some, ap, eq-eqb, eqb-true, refl, slice_get, subst, sym, unwrap_or, ℕ, rules}
use Rattle.base.proofs.Exports.{All-contains, MatchOption-weaker, find-position, find-there, position-Some, slice_get-get_or}
use Rattle.five_tuple.specs.Exports.{header_number_of}
use Rattle.five_tuple.specs.declared.header.Header.{Header}
use Rattle.policy_rules.specs.Exports.{is_held_by_policy_rule}
use Rattle.policy_rules.specs.declared.packet.Leg.{Leg}
use Rattle.policy_rules.specs.declared.packet.Leg.TheVariants.{Seek as SeekLeg}
use Rattle.policy_rules.specs.declared.rules.Partition.{Partition}
use Rattle.switch_table.specs.Exports.{AreSoundSwitchTables}
use Rattle.switch_table.specs.declared.cache.CacheEntry.{CacheEntry}
use Rattle.switch_table.specs.declared.search.Found.{Found}
use Rattle.switch_table.specs.declared.search.Found.TheVariants.{Cached, Authority, Redirect}
use Rattle.switch_table.specs.declared.tables.Tables.{Tables}
use Rattle.switch_core.specs.Exports.{SwitchAnswer, Decided, IsSwitchAnswerByPartition, IsSwitchFirstHit, IsSwitchFindingFirstHit, IsSwitchReady, IsRightSwitchAnswer, IsSoundSwitch, IsSwitchAnswerUncached, Seek, SwitchSite, Stuck, SwitchValue, switch_admitted, switch_answer_by_found, switch_decision_by_entry, switch_stuck_cause, switch_answer_by_rule, switch_held_tables, holds_version, switch_incoming_packet, switch_looked_up, switch_lookup_by_stamp, switch_next_of, no_switch_core_partition, no_switch_rule, switch_own_partition, switch_core_partition_numbered, switch_route_known, switch_cache_rule_sent, switch_core_rule_in, switch_seek_by, switch_set_out, switch_setting_out, switch_stamp_tables}
use Rattle.switch_core.specs.declared.tunnel_calls.Packet.{Packet}
use Rattle.switch_core.proofs.SwitchOwnLookups.{lookup_is_found}

-- ---- the tables of a version

pub version_held : (s : SwitchValue) (version : ℕ) (tables : Tables) →
    switch_held_tables s version ≡ Some tables → tables.version ≡ version
version_held s version tables is = search (rules, eqb-true, find-there)

pub sound_held : (s : SwitchValue) (version : ℕ) (tables : Tables) → IsSoundSwitch s →
    switch_held_tables s version ≡ Some tables → AreSoundSwitchTables tables
sound_held s version tables switch is = All-contains AreSoundSwitchTables s.tables tables switch.sound
    (find-there (λ (t : Tables). t.version == version) s.tables tables is).0

pub stamp_held : (s : SwitchValue) → IsTrue (holds_version s s.stamp) →
    switch_held_tables s s.stamp ≡ Some (switch_stamp_tables s)
stamp_held s holds = search rules

pub stamp_sound : (s : SwitchValue) → IsSoundSwitch s → IsTrue (holds_version s s.stamp) →
    AreSoundSwitchTables (switch_stamp_tables s)
stamp_sound s switch holds = sound_held s s.stamp (switch_stamp_tables s) switch (stamp_held s holds)

pub stamp_version : (s : SwitchValue) → IsTrue (holds_version s s.stamp) →
    (switch_stamp_tables s).version ≡ s.stamp
stamp_version s holds = version_held s s.stamp (switch_stamp_tables s) (stamp_held s holds)

-- ---- a rule of its own decides

own_number : (tables : Tables) (number : ℕ) (part : Partition) →
    switch_own_partition tables number ≡ Some part → part.number ≡ number
own_number tables number part is = search (rules, eqb-true, find-there)

-- the partition of a number decides, by its first hit
abbrev pub IsHitIn : SwitchValue → SwitchSite → Packet → ℕ → Tables → ℕ → ℕ → SwitchAnswer → Type 0
IsHitIn s site packet version tables number place answer =
    (by : IsSwitchAnswerByPartition s site packet version tables number answer) × (by.own.place ≡ place)

hit_of : (s : SwitchValue) (site : SwitchSite) (packet : Packet) (version : ℕ) (tables : Tables)
    (number place : ℕ) (part : Partition) → switch_own_partition tables number ≡ Some part
    → IsSwitchFirstHit packet.header part place → IsHitIn s site packet version tables number place
    (switch_answer_by_rule s site packet version part place)
unfolding switch_answer_by_rule switch_cache_rule_sent
hit_of s site packet version tables number place part is hit =
    let test = is_held_by_policy_rule (header_number_of packet.header) in
    let within = (position-Some test part.rules place no_switch_rule hit.first).0 in
    let there : slice_get part.rules place ≡ Some (switch_core_rule_in part place) =
    slice_get-get_or part.rules place no_switch_rule within in (
      record {
        own = record {
          part = part;
          place = place;
          rule = switch_core_rule_in part place;
          own = ap (switch_own_partition tables) (own_number tables number part is) ∙ is;
          hit = hit;
          at_place = there;
          first = cc (find-position test part.rules, hit.first, there);
        };
        numbered = own_number tables number part is;
        answered = refl;
      },
      refl,
    )

pub hit_in : (s : SwitchValue) (site : SwitchSite) (packet : Packet) (version : ℕ) (tables : Tables)
    (number place : ℕ) → IsSomeAnd (switch_own_partition tables number)
    (λ part. IsSwitchFirstHit packet.header part place) → IsHitIn s site packet version tables number
    place (switch_answer_by_rule s site packet version (switch_core_partition_numbered tables number) place)
hit_in s site packet version tables number place = by_part (switch_own_partition tables number) refl where
  by_part : (part : Option Partition) → switch_own_partition tables number ≡ part →
      IsSomeAnd part (λ part. IsSwitchFirstHit packet.header part place) →
      IsHitIn s site packet version tables number place
      (switch_answer_by_rule s site packet version (unwrap_or part no_switch_core_partition) place)
  by_part (Some part) is hit = hit_of s site packet version tables number place part is hit
  by_part None is hit = absurd hit

-- ---- a packet sets out

pub sets_out : (s : SwitchValue) (near : ℕ) (packet : Packet) (leg : Leg) (targets : List ℕ) →
    MatchOption (switch_route_known s near packet targets)
    (switch_set_out s near packet leg targets ≡ Err (switch_stuck_cause s near packet.down leg targets))
    (λ route. switch_set_out s near packet leg targets ≡ Ok (switch_setting_out packet leg targets route))
unfolding switch_set_out
sets_out s near packet leg targets = search rules

-- ---- a lookup

looked_up_by : (s : SwitchValue) (site : SwitchSite) (packet : Packet) (found : Found) → switch_lookup_by_stamp s
    packet.header ≡ found → switch_looked_up s site packet ≡ switch_answer_by_found s site packet (switch_stamp_tables s) found
unfolding switch_looked_up
looked_up_by s site packet found is = ap (switch_answer_by_found s site packet (switch_stamp_tables s)) is

lookup_cached : (s : SwitchValue) (site : SwitchSite) (packet : Packet) (cached : CacheEntry) →
    switch_lookup_by_stamp s packet.header ≡ Cached cached →
    switch_looked_up s site packet ≡ Decided (switch_decision_by_entry cached) None (switch_next_of s site packet cached.action)
unfolding switch_answer_by_found
lookup_cached s site packet cached is = looked_up_by s site packet (Cached cached) is

lookup_authority : (s : SwitchValue) (site : SwitchSite) (packet : Packet) (partition place : ℕ) →
    IsSwitchReady s packet.header → switch_lookup_by_stamp s packet.header ≡ Authority partition place →
    IsHitIn s site packet s.stamp (switch_stamp_tables s) partition place (switch_looked_up s site packet)
unfolding switch_answer_by_found
lookup_authority s site packet partition place ready found =
    let tables = switch_stamp_tables s in
    let sound = stamp_sound s ready.switch ready.stamped in
    let is_found : IsSwitchFindingFirstHit tables packet.header (switch_lookup_by_stamp s packet.header) =
    lookup_is_found s.cache.entries tables packet.header sound ready.is_header in
    let hit = hit_in s site packet tables.version tables partition place (rw found at is_found) in
    subst (IsHitIn s site packet s.stamp tables partition place)
    (sym (looked_up_by s site packet (Authority partition place) found))
    (subst (λ (v : ℕ). IsHitIn s site packet v tables partition place (switch_answer_by_found s site packet
    tables (Authority partition place))) (stamp_version s ready.stamped) hit)

lookup_redirect : (s : SwitchValue) (site : SwitchSite) (packet : Packet) (partition : ℕ)
    (targets : List ℕ) → IsSwitchReady s packet.header →
    switch_lookup_by_stamp s packet.header ≡ Redirect partition targets →
    (let leg = SeekLeg s.stamp partition in
    MatchOption (switch_route_known s site.near packet targets)
    (switch_looked_up s site packet ≡ Stuck (switch_stuck_cause s site.near packet.down leg targets) leg)
    (λ route. switch_looked_up s site packet ≡ Seek (switch_setting_out packet leg targets route)))
unfolding switch_answer_by_found
lookup_redirect s site packet partition targets ready found =
    let leg = SeekLeg s.stamp partition in
    let by_leg = λ (v : ℕ). switch_seek_by (SeekLeg v partition)
    (switch_set_out s site.near packet (SeekLeg v partition) targets) in
    let is = looked_up_by s site packet (Redirect partition targets) found
    ∙ ap by_leg (stamp_version s ready.stamped) in
    MatchOption-weaker (switch_route_known s site.near packet targets)
    (λ none. is ∙ ap (switch_seek_by leg) none)
    (λ way some. is ∙ ap (switch_seek_by leg) some)
    (sets_out s site.near packet leg targets)

pub lookup_is : (s : SwitchValue) (site : SwitchSite) (packet : Packet) → IsSwitchReady s packet.header →
    IsRightSwitchAnswer s site packet (switch_looked_up s site packet)
lookup_is s site packet ready = record {
  cached = lookup_cached s site packet;
  authority = λ partition place. lookup_authority s site packet partition place ready;
  redirect = λ partition targets. lookup_redirect s site packet partition targets ready;
}

-- ---- nothing goes to a cache as a packet enters

pub lookup_uncached : (s : SwitchValue) (site : SwitchSite) (packet : Packet) →
    packet.ingress ≡ s.number → IsSwitchAnswerUncached (Some (switch_looked_up s site packet))
unfolding switch_looked_up switch_answer_by_found switch_answer_by_rule switch_cache_rule_sent
lookup_uncached s site packet here = search (rules, eq-eqb)

pub entry_uncached : (s : SwitchValue) (site : SwitchSite) (number : ℕ) (header : Header) →
    IsSwitchAnswerUncached (switch_admitted s site (switch_incoming_packet s number header))
unfolding switch_admitted
entry_uncached s site number header = search (rules, lookup_uncached)
