-- First frames that lie one after the other: more bytes behind them change none.
use Rattle.std.proofs.Common.{[], ◌++◌, ◌∙◌, ◌∷◌, ◌≡◌, All, IfSome, List, None, Ok, Option, Some, ap, arith, drop, get_or, length, length-append, length-drop, map, refl, slice_get, take, take_all, ℕ}
use Rattle.base.proofs.Exports.{All-head, All-push, All-tail, drop-append-le, drop-append_seam, get_or_from_slice_get, map_push, take-append-le}
use Rattle.message_bag.specs.Exports.{HasPosted, IsBagSpanWithin, bag_first_frame_in}
use Rattle.message_bag.specs.declared.firsts.Span.{Span}

one_stays : (bytes more : List ℕ) (span : Span) → IsBagSpanWithin bytes span → bag_first_frame_in (bytes ++ more) span ≡ bag_first_frame_in bytes span
one_stays bytes more span within =
    ap (λ part. (part, span.tables))
    (ap (take span.len) (drop-append-le span.start bytes more (omega arith))
    ∙ take-append-le span.len (drop span.start bytes) more (omega (arith, length-drop span.start bytes)))

pub all_stay : (bytes more : List ℕ) (spans : List Span) → All (IsBagSpanWithin bytes) spans
    → map (bag_first_frame_in (bytes ++ more)) spans ≡ map (bag_first_frame_in bytes) spans
all_stay bytes more [] within = refl
all_stay bytes more (span ∷ spans) within =
    rw (one_stays bytes more span (All-head (IsBagSpanWithin bytes) span spans within))
    (ap (λ others. bag_first_frame_in bytes span ∷ others) (all_stay bytes more spans (All-tail (IsBagSpanWithin bytes) span spans within)))

pub still_within : (bytes more : List ℕ) (spans : List Span) → All (IsBagSpanWithin bytes) spans
    → All (IsBagSpanWithin (bytes ++ more)) spans
still_within bytes more spans within = λ k d lt. omega (arith, length-append bytes more, within k d lt)

-- the span of what was appended
pub last_is : (bytes frame : List ℕ) (tables : Option ℕ)
    → bag_first_frame_in (bytes ++ frame) (record { start = length bytes; len = length frame; tables = tables }) ≡ (frame, tables)
last_is bytes frame tables =
    ap (λ part. (part, tables)) (ap (take (length frame)) (drop-append_seam bytes frame) ∙ take_all (length frame) frame (omega arith))

pub pushed : (bytes frame after : List ℕ) (spans longer : List Span) (span : Span) → All (IsBagSpanWithin bytes) spans
    → after ≡ bytes ++ frame → longer ≡ spans ++ span ∷ [] → span.start ≡ length bytes → span.len ≡ length frame
    → map (bag_first_frame_in after) longer ≡ map (bag_first_frame_in bytes) spans ++ (frame, span.tables) ∷ []
pushed bytes frame after spans longer span within grown more at len =
    let is : bag_first_frame_in (bytes ++ frame) span ≡ (frame, span.tables) =
    rw (at, len) (last_is bytes frame span.tables) in
    rw (grown, more, map_push, all_stay bytes frame spans within) (ap (λ first. map (bag_first_frame_in bytes) spans ++ first ∷ []) is)

pub pushed_within : (bytes frame after : List ℕ) (spans longer : List Span) (span : Span) → All (IsBagSpanWithin bytes) spans
    → after ≡ bytes ++ frame → longer ≡ spans ++ span ∷ [] → span.start ≡ length bytes → span.len ≡ length frame
    → All (IsBagSpanWithin after) longer
pushed_within bytes frame after spans longer span within grown more at len =
    rw (grown, more) (All-push (IsBagSpanWithin (bytes ++ frame)) spans span (still_within bytes frame spans within)
    (omega (arith, length-append bytes frame)))

-- the item at a place, once more behind all
pub added_again : {X : Type 0} (E : Type 0) (xs ys : List X) (x : X) (place n : ℕ) → x ≡ get_or xs place x
    → ys ≡ xs ++ x ∷ [] → n ≡ length ys → IfSome (slice_get xs place) (λ y. HasPosted {E = E} (Ok n) y xs ys)
added_again E xs ys x place n at longer many = by_one (slice_get xs place) refl where
  by_one : (o : Option _) → slice_get xs place ≡ o → IfSome o (λ y. HasPosted {E = E} (Ok n) y xs ys)
  by_one None e = tt
  by_one (Some y) e = record {
    number = omega (arith, many, ap length longer, length-append xs (x ∷ []));
    posted = longer ∙ ap (λ z. xs ++ z ∷ []) (at ∙ get_or_from_slice_get xs place y x e);
    unchanged = tt;
  }
