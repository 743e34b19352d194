-- The least message that waits in the bag is the least that the journal says to wait.
use Rattle.std.proofs.Common.{◌&&◌, ◌+◌, ◌-◌, ◌<◌, ◌∙◌, ◌≡◌, ◌≤◌, Bool, List, None, Option, Some, ap, arith, cond, false, find, inl, inr, is_some, length, not, option_map, refl, subst, suc, sym, true, zero, ℕ}
use Rattle.base.proofs.Exports.{cases_lt, length-map, option_map_or, range_with_len, slice_get_past}
use Rattle.policy_rules.proofs.PolicyRulesCallerLemmas.{find_same}
use Rattle.message_bag.specs.Deliveries as statuses
use Rattle.message_bag.specs.Posts as bag
use Rattle.message_bag.proofs.BagNumberedPosts.{numbered_map}
use Rattle.message_bag.specs.declared.deliveries.MessageState.{MessageState}
use Rattle.update_machine.specs.Exports.{Item, Message, machine_count_of, is_deliverable, is_forgotten_in_journal, is_machine_sending_item, is_waiting, journal_message_of, journal_next_message, next_waiting, was_delivered_in_journal}
use Rattle.world.specs.Exports.{IsLeastInWorldFrom, WorldRefinesJournal, WorldValue}
use Rattle.refinement.specs.Exports.{IsRefinedBagOf, refined_post_at}

-- a post waits as the journal says of its message
post_waits : (sent : Option Message) (delivered forgotten : Bool) → option_map_or statuses.bag_post_waits
    (option_map (λ (post : bag.Post). post.1) (option_map (λ message. (
      bag.bag_posted_frames message,
      record { delivered = delivered; forgotten = forgotten },
    ))
    sent)) false
    ≡ ((is_some sent && not forgotten) && not delivered)
post_waits None delivered forgotten = refl
post_waits (Some message) true true = refl
post_waits (Some message) true false = refl
post_waits (Some message) false true = refl
post_waits (Some message) false false = refl

waits_same : (journal : List Item) (posts : List bag.Post) → IsRefinedBagOf journal posts → (n : ℕ)
    → statuses.is_waiting (bag.bag_post_statuses posts) n ≡ is_waiting journal n
unfolding refined_post_at is_deliverable
waits_same journal posts of n = ap (λ o. option_map_or statuses.bag_post_waits o false)
    (numbered_map (λ (post : bag.Post). post.1) posts n
    ∙ ap (option_map (λ (post : bag.Post). post.1)) (of.each n))
    ∙ post_waits (journal_message_of journal n) (was_delivered_in_journal journal n) (is_forgotten_in_journal journal n)

least_waits : (journal : List Item) (posts : List bag.Post) → IsRefinedBagOf journal posts
    → bag.next_waiting_bag_post posts 1 ≡ next_waiting journal
unfolding next_waiting journal_next_message
least_waits journal posts of = let all : List MessageState = bag.bag_post_statuses posts in
    ap (λ count. find (statuses.is_waiting all) (range_with_len 1 count))
    (omega (arith, of.many, length-map posts (λ (post : bag.Post). post.1)))
    ∙ find_same (statuses.is_waiting all) (is_waiting journal) (waits_same journal posts of)
    (range_with_len 1 (machine_count_of is_machine_sending_item journal))

-- ---- from any number on

-- what fails at the first number and at this one behind it fails at either
next_fails : (test : ℕ → Bool) (from i : ℕ) → test from ≡ false → from ≤ i
    → (from + 1 ≤ i → test i ≡ false) → test i ≡ false
next_fails test from i fails above rest = elim (cases_lt from i) [
  | inl past ↦ rest (omega (arith, past))
  | inr here ↦ let same : from ≡ i = omega (arith, here, above) in
      subst (λ k. test k ≡ false) same fails
]

-- what a search finds is the least
by_test : (test : ℕ → Bool) (from : ℕ) (rest : Option ℕ) (b : Bool) → test from ≡ b
    → IsLeastInWorldFrom test (from + 1) rest → IsLeastInWorldFrom test from (cond b (Some from) rest)
by_test test from rest true is least = (omega arith, is, λ i above below. absurd (omega arith))
by_test test from None false is least = λ i above. next_fails test from i is above
    (λ behind. least i behind)
by_test test from (Some i) false is least = (
  omega (arith, least.0),
  least.1,
  λ k above below. next_fails test from k is above (λ behind. least.2 k behind below),
)

found_is_least : (test : ℕ → Bool) (from count : ℕ) → ((i : ℕ) → from + count ≤ i → test i ≡ false)
    → IsLeastInWorldFrom test from (find test (range_with_len from count))
found_is_least test from zero over = λ i above. over i (omega (arith, above))
found_is_least test from (suc count) over =
    by_test test from (find test (range_with_len (from + 1) count)) (test from) refl
    (found_is_least test (from + 1) count (λ i behind. over i (omega (arith, behind))))

-- no post behind the last waits
none_behind : (all : List MessageState) (i : ℕ) → length all < i → statuses.is_waiting all i ≡ false
none_behind all zero behind = refl
none_behind all (suc place) behind = cc (slice_get_past all place (omega (arith, behind)))

least_from : (journal : List Item) (posts : List bag.Post) → IsRefinedBagOf journal posts → (from : ℕ)
    → IsLeastInWorldFrom (is_waiting journal) from (bag.next_waiting_bag_post posts from)
least_from journal posts of from = let all : List MessageState = bag.bag_post_statuses posts in
    subst (λ next. IsLeastInWorldFrom (is_waiting journal) from next)
    (sym (find_same (statuses.is_waiting all) (is_waiting journal) (waits_same journal posts of)
    (range_with_len from (length all + 1 - from))))
    (found_is_least (is_waiting journal) from (length all + 1 - from)
    (λ i behind. sym (waits_same journal posts of i) ∙ none_behind all i (omega (arith, behind))))

pub least_from_in : (world : WorldValue) → WorldRefinesJournal world → (from : ℕ)
    → IsLeastInWorldFrom (is_waiting world.journal) from (bag.next_waiting_bag_post world.bag from)
least_from_in world refines from = least_from world.journal world.bag refines.bag from

pub least_waits_in : (world : WorldValue) → WorldRefinesJournal world
    → bag.next_waiting_bag_post world.bag 1 ≡ next_waiting world.journal
least_waits_in world refines = least_waits world.journal world.bag refines.bag
