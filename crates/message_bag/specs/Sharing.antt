-- Adverts that were posted, which a bag shares when they are posted again.
use Rattle.std.specs.Prelude.{◌≡◌, List, None, Option, Some, get_or, ℕ}
use Rattle.message_bag.specs.Numbered.{bag_item_numbered}
use Rattle.message_bag.specs.Posts.{bag_posted_frames}
use Rattle.message_bag.specs.declared.sharing_bag.PostedAdvert.{PostedAdvert}

-- if there is an advert, the bag has its frames under its number
abbrev pub IsAdvertPostedInBag : List (List (List ℕ)) → Option PostedAdvert → Type 0
IsAdvertPostedInBag bag None = Unit {0}
IsAdvertPostedInBag bag (Some last) = bag_item_numbered bag last.number ≡ Some (bag_posted_frames last.message)

abbrev pub AreAdvertsPostedInBag : List (List (List ℕ)) → List (Option PostedAdvert) → Type 0
AreAdvertsPostedInBag bag adverts = (place : ℕ) → IsAdvertPostedInBag bag (get_or adverts place None)
