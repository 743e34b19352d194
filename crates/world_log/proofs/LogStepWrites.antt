-- What a step writes behind its row, and parts of it.
use Rattle.std.proofs.Common.{[], ◌++◌, ◌∙◌, ◌∷◌, ◌≡◌, Err, List, Ok, OnErr, OnOk, Result, ap, append-nil, append_assoc, refl, sym}
use Rattle.base.proofs.Exports.{both_written, on_ok_weaker}
use Rattle.update_machine.specs.Exports.{Item}
use Rattle.world_log.specs.Exports.{IsLogPart}

-- nothing was written
pub part_none : (old items new : List Item) → new ≡ old → IsLogPart old items new
part_none old items new is =
    record { written = []; rest = items; split = refl; grown = is ∙ sym (append-nil old) }

-- the first item was written
pub part_first : (old new rest : List Item) (first : Item) → new ≡ old ++ first ∷ []
    → IsLogPart old (first ∷ rest) new
part_first old new rest first is =
    record { written = first ∷ []; rest = rest; split = refl; grown = is }

-- a part of the first items is a part of all of them
pub part_of_first : (old first rest new : List Item) → IsLogPart old first new
    → IsLogPart old (first ++ rest) new
part_of_first old first rest new part = record {
  written = part.written;
  rest = part.rest ++ rest;
  split = ap (λ items. items ++ rest) part.split ∙ append_assoc part.written part.rest rest;
  grown = part.grown;
}

-- the first items were written, and then a part of the rest
pub part_of_rest : (old begun first rest new : List Item) → begun ≡ old ++ first
    → IsLogPart begun rest new → IsLogPart old (first ++ rest) new
part_of_rest old begun first rest new first_is part = record {
  written = first ++ part.written;
  rest = part.rest;
  split = ap (λ items. first ++ items) part.split ∙ sym (append_assoc first part.written part.rest);
  grown = part.grown ∙ ap (λ js. js ++ part.written) first_is ∙ append_assoc old first part.written;
}

-- ---- the row, and then the rest

pub grown_more : (journal begun new items : List Item) (first : Item)
    → begun ≡ journal ++ first ∷ [] → new ≡ begun ++ items → new ≡ journal ++ first ∷ items
grown_more journal begun new items first = both_written journal begun new (first ∷ []) items

pub step_written : {T E : Type 0} (r : Result T E) (journal begun new items all : List Item)
    (first : Item) → all ≡ first ∷ items → begun ≡ journal ++ first ∷ []
    → OnOk r (new ≡ begun ++ items) → OnOk r (new ≡ journal ++ all)
step_written r journal begun new items all first all_is row_is written =
    on_ok_weaker r (λ grown. grown_more journal begun new items first row_is grown
    ∙ ap (λ more. journal ++ more) (sym all_is)) written

pub step_part : {T E : Type 0} (r : Result T E) (journal begun new items all : List Item)
    (first : Item) → all ≡ first ∷ items → begun ≡ journal ++ first ∷ []
    → OnErr r (IsLogPart begun items new) → OnErr r (IsLogPart journal all new)
step_part (Ok x) journal begun new items all first all_is row_is part = tt
step_part (Err e) journal begun new items all first all_is row_is part = rw all_is
    (part_of_rest journal begun (first ∷ []) items new row_is part)
