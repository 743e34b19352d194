-- A cache rule, computed: an authority decides a packet, and then its ingress the next one, until
-- the rule expires.
use Rattle.std.proofs.Common.{[], ◌∷◌, ◌≡◌, Some, refl}
use Rattle.update_machine.specs.Exports.{Body, How, Item, Out, Step}
use Rattle.update_machine.proofs.JournalExampleNetworks.{at, cached, denied, leaving, left_by, one, other, shielded, to}

-- two switches, whose authority is b; three packets to 10.2.0.1, 10.3.9.9 and 10.1.5.5
pub cache_rows : left_by shielded (at 1 (Step.Packet 0 one) ∷ at 2 (Step.Hop 1) ∷ at 2 (Step.Hop 1)
    ∷ at 3 (Step.Deliver 1) ∷ at 4 (Step.Packet 0 other) ∷ at 5 (Step.Packet 0 denied)
    ∷ at 6 (Step.Expire 0 0) ∷ at 7 (Step.Packet 0 other) ∷ []) ≡ Item.Row 1 (Step.Packet 0 one)
    ∷ Item.Entered 1 0 one ∷ Item.Seeking 1 1 0 (0 ∷ 1 ∷ []) ∷ Item.Row 2 (Step.Hop 1)
    ∷ Item.Hopped 1 1 ∷ Item.Row 2 (Step.Hop 1) ∷ Item.Decided 1 1 (Some 100) (Out 2)
    (How.Authority 1 0) ∷ Item.Sent 1 (to 0 (Body.CacheRule 1 cached (Some 100) (Out 2)))
    ∷ Item.Left 1 2 (leaving 1 one 1 (Some 100)) ∷ Item.Row 3 (Step.Deliver 1) ∷ Item.Delivered 1
    ∷ Item.Row 4 (Step.Packet 0 other) ∷ Item.Entered 2 0 other ∷ Item.Decided 2 1 (Some 100)
    (Out 2) (How.Cached 1) ∷ Item.Exiting 2 (0 ∷ 1 ∷ []) ∷ Item.Row 5 (Step.Packet 0 denied)
    ∷ Item.Entered 3 0 denied ∷ Item.Seeking 3 1 0 (0 ∷ 1 ∷ []) ∷ Item.Row 6 (Step.Expire 0 0)
    ∷ Item.Expired 0 0 1 ∷ Item.Row 7 (Step.Packet 0 other) ∷ Item.Entered 4 0 other
    ∷ Item.Seeking 4 1 0 (0 ∷ 1 ∷ []) ∷ []
unfolding left_by
cache_rows = refl
