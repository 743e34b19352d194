-- What a lookup in sound tables finds, and a partition of its own by the number.
use Rattle.std.proofs.Common.{[], ◌-◌, ◌==◌, ◌∙◌, ◌∷◌, ◌≡◌, ◌≢◌, AllPairs, Bool, Contains, IsSome, IsSomeAnd, IsTrue, List, None, Option, Some, ap, arith, cond, eqb-true, false, find, get_or, inl, inr, option_and_then, position, refl, subst, suc, sym, true, ℕ, rules}
use Rattle.base.proofs.Exports.{All-contains, cases_lt, find-position, find-there, nat_tests, option_map_or, same_Some}
use Rattle.five_tuple.specs.Exports.{IsHeader, header_number_of}
use Rattle.five_tuple.specs.declared.header.Header.{Header}
use Rattle.policy_rules.specs.Exports.{LastPolicyRuleCovers, first_policy_rule, is_held_by_policy_rule, is_in_policy_partition}
use Rattle.policy_rules.specs.declared.rules.Partition.{Partition}
use Rattle.switch_table.proofs.SwitchTableLemmas.{decides_all}
use Rattle.switch_table.specs.Exports.{AreSoundSwitchTables, switch_table_authority_of, first_cache_entry, switch_table_lookup_of, switch_table_redirect_of, switch_table_lookup}
use Rattle.switch_table.specs.declared.cache.CacheEntry.{CacheEntry}
use Rattle.switch_table.specs.declared.tables.Tables.{Tables}
use Rattle.switch_table.specs.declared.search.Found.TheVariants.{Cached}
use Rattle.switch_core.specs.Exports.{IsSwitchFirstHit, IsSwitchFindingFirstHit, switch_own_partition, switch_core_partition_numbered, switch_own_rule_place}

-- ---- a switch's own partitions

-- a partition is the first of its number
find_numbered : (parts : List Partition) (part : Partition) →
    AllPairs (λ a b. a.number ≢ b.number) parts → Contains parts part →
    find (λ other. other.number == part.number) parts ≡ Some part
find_numbered [] part distinct there = absurd (omega (arith, there.1))
find_numbered (first ∷ parts) part distinct there =
    by_case (first.number == part.number) refl (find_numbered parts part)
  where
    same : first.number ≡ part.number → first ≡ part
    same number = elim (cases_lt 0 there.0) [
      | inl later ↦ absurd (distinct 0 there.0 part later there.1
          (number ∙ ap (λ (p : Partition). p.number) (sym there.2)))
      | inr at ↦ let zero : there.0 ≡ 0 = omega arith in
          ap (λ k. get_or (first ∷ parts) k part) (sym zero) ∙ there.2
    ]

    later : first.number ≢ part.number → Contains parts part
    later other = elim (cases_lt 0 there.0) [
      | inl after ↦ let is : there.0 ≡ suc (there.0 - 1) = omega arith in (
        there.0 - 1,
        omega (arith, there.1),
        ap (λ k. get_or (first ∷ parts) k part) (sym is) ∙ there.2,
      )
      | inr at ↦ let zero : there.0 ≡ 0 = omega arith in
          absurd (other (ap (λ (p : Partition). p.number)
          (ap (λ k. get_or (first ∷ parts) k part) (sym zero) ∙ there.2)))
    ]

    by_case : (b : Bool) → (first.number == part.number) ≡ b →
        (AllPairs (λ a b. a.number ≢ b.number) parts → Contains parts part →
        find (λ other. other.number == part.number) parts ≡ Some part) →
        cond b (Some first) (find (λ other. other.number == part.number) parts) ≡ Some part
    by_case true is rest = ap Some (same (eqb-true _ _ is))
    by_case false is rest =
        rest (λ i j d less within. distinct (suc i) (suc j) d (omega arith) (omega arith))
        (later (λ number. grind (arith, nat_tests)))

-- where some rule holds the header, the first place is that of the first such rule
first_hit : (header : Header) (part : Partition) → IsTrue (is_in_policy_partition header part) →
    IsSome (first_policy_rule part.rules header) → IsSwitchFirstHit header part (switch_own_rule_place header part)
first_hit header part held some = search (rules, find-position)

-- a partition of one's own has a first hit for each header of its region
pub own_hit : (tables : Tables) (number : ℕ) (part : Partition) (header : Header) →
    AreSoundSwitchTables tables → IsHeader header → switch_own_partition tables number ≡ Some part →
    IsTrue (is_in_policy_partition header part) → IsSwitchFirstHit header part (switch_own_rule_place header part)
own_hit tables number part header sound is found held =
    let there = (find-there (λ (p : Partition). p.number == number) tables.auth part found).0 in
    first_hit header part held
    (decides_all part (All-contains LastPolicyRuleCovers tables.auth part sound.covers there) header is held)

-- what a lookup in sound tables finds
pub lookup_is_found : (entries : List CacheEntry) (tables : Tables) (header : Header) →
    AreSoundSwitchTables tables → IsHeader header →
    IsSwitchFindingFirstHit tables header (switch_table_lookup_of entries tables header)
lookup_is_found entries tables header sound is =
    by_entry (first_cache_entry tables.version (header_number_of header) entries)
  where
    by_part : (part : Option Partition) → find (is_in_policy_partition header) tables.auth ≡ part → IsSwitchFindingFirstHit tables
        header (option_map_or (switch_table_authority_of header) part (switch_table_redirect_of header tables.parts))
    by_part None none = tt
    by_part (Some part) found =
        let there = find-there (is_in_policy_partition header) tables.auth part found in
        let own = find_numbered tables.auth part sound.distinct there.0 in
        subst (λ (o : Option Partition). IsSomeAnd o
        (λ p. IsSwitchFirstHit header p (switch_own_rule_place header part))) (sym own)
        (own_hit tables part.number part header sound is own there.1)

    by_entry : (entry : Option CacheEntry) →
        IsSwitchFindingFirstHit tables header (option_map_or Cached entry (switch_table_lookup tables header))
    by_entry (Some entry) = tt
    by_entry None = by_part (find (is_in_policy_partition header) tables.auth) refl

-- what a search in the own partition of a number finds for a header of its region
pub record IsOwnFirst (tables : Tables) (number : ℕ) (header : Header) (found : Option ℕ)
    : Type 0 where
  pub place : found ≡ Some (switch_own_rule_place header (switch_core_partition_numbered tables number))
  pub first : IsSwitchFirstHit header (switch_core_partition_numbered tables number)
      (switch_own_rule_place header (switch_core_partition_numbered tables number))

pub own_first : (tables : Tables) (number : ℕ) (header : Header) (found : Option ℕ) →
    AreSoundSwitchTables tables → IsHeader header →
    IsSomeAnd (switch_own_partition tables number) (λ part. IsTrue (is_in_policy_partition header part)) →
    found ≡ option_and_then (λ part. position (is_held_by_policy_rule (header_number_of header)) part.rules)
    (switch_own_partition tables number) → IsOwnFirst tables number header found
own_first tables number header found sound is own searched = search (rules, own_hit)

pub same_place : (place : ℕ) (found : Option ℕ) (first : ℕ) → found ≡ Some place →
    found ≡ Some first → place ≡ first
same_place place found first p q = same_Some place first (sym p ∙ q)
