-- A `Value`'s items as a list.
use Rattle.std.proofs.Common.{[], ◌+◌, ◌<◌, ◌∷◌, ◌≡◌, ◌≤◌, List, ap, drop, get_or, length, map, refl, ℕ}
use Rattle.base.proofs.Exports.{drop_all, drop_more}
use Rattle.toml.specs.View.{items_view, view}
use Rattle.toml.specs.declared.value.Value.{Value}
use Rattle.net_file.specs.Exports.{toml_items_list}

pub items_list_view : (vs : List Value) → toml_items_list (items_view vs) ≡ map view vs
items_list_view [] = refl
items_list_view (v ∷ vs) = ap (λ ds. view v ∷ ds) (items_list_view vs)

-- the values from one on, and past the last
pub values_more : (vs : List Value) (i : ℕ) (v : Value) → i < length vs → v ≡ get_or vs i v
    → map view (drop i vs) ≡ view v ∷ map view (drop (i + 1) vs)
values_more vs i v within is = cc (drop_more vs i v within, is)

pub values_end : (vs : List Value) (i : ℕ) → length vs ≤ i → map view (drop i vs) ≡ []
values_end vs i past = ap (map view) (drop_all i vs past)
