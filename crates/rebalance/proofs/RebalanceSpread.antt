-- The spread as partitions in turn, where the load is the traffic.
use Rattle.std.proofs.Common.{◌+◌, ◌<◌, ◌∙◌, ◌≡◌, ◌≤◌, List, ap, arith, cond, eqb, get_or, inl, inr, length, refl, subst, sum_by, sym, ℕ}
use Rattle.base.proofs.Exports.{list_any, range_with_len}
use Rattle.placement.specs.Placement.{PlacementHasTargets, PlacementTurnRule, is_placement_target, placement_turn_rule_by_size, placement_targets_at}
use Rattle.placement.proofs.PlacementCallerLemmas.{first_distinct, first_there, hosted_fits, hosted_or_refused, same_hosted, same_refused, sum-filter}
use Rattle.rebalance.specs.Loads.{RebalanceFits, peak}
use Rattle.rebalance.specs.Spread.{AreRebalancePartitionsWeighed, RebalanceSpreadFindsFewer, RebalanceKeepsPlacement, IsRebalanceProposal, IsRebalanceSpread, RebalanceSpreadLaws, rebalance_spreading}
use Rattle.rebalance.proofs.RebalanceLoads.{bound-le}

-- ---- where there is room

hosted-fit : (t : PlacementTurnRule) (P : List (List ℕ)) → length t.sizes ≡ length t.keys → PlacementHasTargets t P
    → RebalanceFits t.sizes t.rooms t.backups P
hosted-fit t P each hosted =
    let due = λ (p : ℕ) (within : p < length t.sizes). hosted.hosted p (omega arith) in record {
      number = hosted.number ∙ sym each;
      targets = λ p within. (due p within).number;
      different = λ p within. first_distinct _ _ t.rooms (get_or t.sizes p 0) (1 + t.backups)
          (placement_targets_at P p) (due p within);
      there = λ p within. first_there _ _ t.rooms (get_or t.sizes p 0) (1 + t.backups)
          (placement_targets_at P p) (due p within);
      within = λ s. let among : List ℕ → ℕ =
          sum_by (λ p. cond (list_any (eqb s) (placement_targets_at P p)) (get_or t.sizes p 0) 0) in
          omega (
            arith,
            sum-filter (λ p. get_or t.sizes p 0) (λ p. is_placement_target P p s)
                (range_with_len 0 (length t.sizes)),
            ap (λ n. among (range_with_len 0 n)) each,
            hosted_fits t P hosted s,
          );
    }

-- ---- what is proposed

-- a spread that isn't lower is none, since there is no other one
pub kept_by_peak : (sizes weights rooms : List ℕ) (backups : ℕ) (old P : List (List ℕ))
    → IsRebalanceSpread sizes weights rooms backups P → peak weights old ≤ peak weights P
    → RebalanceKeepsPlacement sizes weights rooms backups old old
kept_by_peak sizes weights rooms backups old P spread most = record {
  same = refl;
  none = λ other is. let same : P ≡ other = same_hosted (rebalance_spreading sizes weights rooms backups) P
      other spread is in subst (λ Q. peak weights old ≤ peak weights Q) same most;
}

-- where a partition is refused there is none
pub kept_by_lack : (sizes weights rooms : List ℕ) (backups p : ℕ) (old : List (List ℕ))
    → RebalanceSpreadFindsFewer sizes weights rooms backups p → RebalanceKeepsPlacement sizes weights rooms backups old old
kept_by_lack sizes weights rooms backups p old fewer = record {
  same = refl;
  none = λ other is.
      absurd (hosted_or_refused (rebalance_spreading sizes weights rooms backups) p other is fewer);
}

-- ---- the laws

proposed-fits : (sizes weights rooms : List ℕ) (backups : ℕ) (old new : List (List ℕ))
    → ((P : List (List ℕ)) → IsRebalanceSpread sizes weights rooms backups P → RebalanceFits sizes rooms backups P)
    → RebalanceFits sizes rooms backups old → IsRebalanceProposal sizes weights rooms backups old new
    → RebalanceFits sizes rooms backups new
proposed-fits sizes weights rooms backups old new all fits proposal = elim proposal [
  | inl lower ↦ all new lower.spread
  | inr kept ↦ subst (RebalanceFits sizes rooms backups) (sym kept.same) fits
]

proposed-le : (sizes weights rooms : List ℕ) (backups : ℕ) (old new : List (List ℕ))
    → IsRebalanceProposal sizes weights rooms backups old new → peak weights new ≤ peak weights old
proposed-le sizes weights rooms backups old new proposal = elim proposal [
  | inl lower ↦ omega (arith, lower.lower)
  | inr kept ↦ omega (arith, ap (peak weights) kept.same)
]

pub spread_laws_hold : (sizes weights rooms : List ℕ) (backups : ℕ)
    → AreRebalancePartitionsWeighed sizes weights rooms → RebalanceSpreadLaws sizes weights rooms backups
spread_laws_hold sizes weights rooms backups weighed =
    let t = rebalance_spreading sizes weights rooms backups in
    let fits = λ (P : List (List ℕ)). hosted-fit t P weighed.each in record {
      fits = fits;
      placed = λ P. hosted-fit (placement_turn_rule_by_size sizes rooms backups) P refl;
      one = same_hosted t;
      refused = λ P p. hosted_or_refused t p P;
      first = same_refused t;
      bounded = λ P fit. bound-le 64 sizes weights rooms backups P
          (record { each = weighed.each; some = weighed.some; few = weighed.few; fits = fit });
      proposed = λ old new fit proposal. proposed-fits sizes weights rooms backups old new fits fit
          proposal;
      never_higher = proposed-le sizes weights rooms backups;
    }
