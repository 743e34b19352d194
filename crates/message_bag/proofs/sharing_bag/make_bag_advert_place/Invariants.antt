use Rattle.std.proofs.Common.{◌+◌, ◌-◌, ◌≡◌, None, get_or, length, ℕ}
use Rattle.message_bag.proofs.sharing_bag.make_bag_advert_place.Given as goal

abbrev pub invariant-loop-adverts : goal.invariant-loop-adverts
invariant-loop-adverts l =
    (k : ℕ) → get_or l.adverts.items k None ≡ get_or l.initial.adverts.items k None

abbrev pub decreases-loop-adverts : goal.decreases-loop-adverts
decreases-loop-adverts l = l.place + 1 - length l.adverts.items
