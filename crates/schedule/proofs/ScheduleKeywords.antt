-- Kinds and their keywords.
use Rattle.std.proofs.Common.{◌≡◌, List, Some, bytes_eq, refl, sym, ℕ}
use Rattle.base.proofs.Exports.{bytes_eq-Decides, found_passes}
use Rattle.schedule.specs.Kinds.{schedule_kind_of, schedule_keyword_of}
use Rattle.schedule.specs.declared.kind.Kind.{Kind}
use Rattle.schedule.specs.declared.kind.Kind.TheVariants as kind
use Rattle.schedule.specs.declared.kind.TheConstants.{KINDS}

pub kind_back : (k : Kind) → schedule_kind_of (schedule_keyword_of k) ≡ Some k
unfolding schedule_kind_of
kind_back kind.Packet = refl
kind_back _ = refl

pub keyword_back : (keyword : List ℕ) (k : Kind) → schedule_kind_of keyword ≡ Some k → keyword ≡ schedule_keyword_of k
unfolding schedule_kind_of
keyword_back keyword k is = sym ((bytes_eq-Decides (schedule_keyword_of k) keyword).0
    (found_passes (λ (other : Kind). bytes_eq (schedule_keyword_of other) keyword) KINDS k is))
