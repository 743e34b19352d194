-- What a sink has gained after one more write of a piece.
use Rattle.std.proofs.Common.{◌++◌, ◌+◌, ◌∙◌, ◌≡◌, ◌≤◌, List, Option, ap, arith, drop, length, length-take, sym, take, take-add, take-take, ℕ}
use Rattle.shelf.specs.Exports.{gained-gained, sink_with_gained}

-- the first bytes, and then the first of a piece that begins behind them
pub gained_more : (before : Option (List ℕ)) (bytes : List ℕ) (written rest most taken : ℕ)
    → taken ≤ length (take most (take rest (drop written bytes)))
    → sink_with_gained (sink_with_gained before (take written bytes))
    (take taken (take most (take rest (drop written bytes))))
    ≡ sink_with_gained before (take (written + taken) bytes)
gained_more before bytes written rest most taken within =
    let others = drop written bytes in
    let of_piece : taken ≤ most = omega (arith, within, length-take most (take rest others)) in
    let of_rest : taken ≤ rest =
    omega (arith, within, length-take most (take rest others), length-take rest others) in
    let same = take-take taken most (take rest others) of_piece
    ∙ take-take taken rest others of_rest in
    gained-gained before (take written bytes) _
    ∙ ap (sink_with_gained before) (ap (λ (x : List ℕ). take written bytes ++ x) same
    ∙ sym (take-add written taken bytes))
