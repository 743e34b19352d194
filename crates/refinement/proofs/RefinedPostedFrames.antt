-- The bag of a world has the frames of the messages that its journal says.
use Rattle.std.proofs.Common.{[], if◌then◌else◌, ◌++◌, ◌+◌, ◌<◌, ◌==◌, ◌||◌, ◌∙◌, ◌∷◌, ◌≡◌, ◌≤◌, Bool, IsFalse, List, None, Option, Some, ap, append-nil, append_assoc, arith, eq-eqb, eqb-true, false, is_some, length, length-append, ne_eqb, option_and_then, option_map, refl, slice_get, subst, suc, sym, true, zero, ℕ}
use Rattle.base.proofs.Exports.{option_or, slice_get_within, ⊤}
use Rattle.message_bag.specs.Exports.{Post, bag_frames_posted, is_bag_post_deliverable, bag_item_numbered, new_bag_post, bag_posted_frames, bag_frames_remembered, bag_with_changed, bag_posts_with_delivered, bag_posts_with_forgotten}
use Rattle.message_bag.proofs.BagNumberedPosts.{length_changed, numbered_changed, numbered_pushed}
use Rattle.update_machine.specs.Exports.{Item, Message, MachineMessageKeeps, NoMachineItemConcerns, machine_item_concerns_known, machine_item_concerns_links, machine_item_concerns_message, machine_item_concerns_messages, machine_item_concerns_policies, machine_count_of, machine_item_gives_message, is_machine_delivery_item, is_journal_forgetting, is_forgotten_in_journal, is_machine_sending_item, journal_last_given, journal_message_of, journal_next_message, was_delivered_in_journal}
use Rattle.update_machine.proofs.Exports.{count_of_append, each_silent, fewer, last_given_append, message_keeps, messages_keep, next_sent, start_laws}
use Rattle.control_laws.proofs.Exports.{some_more}
use Rattle.refinement.specs.Exports.{IsRefinedBagOf, refined_post_at}

-- ---- items that concern no message

-- facts that stay give the same post
same_post : (n : ℕ) (before after : List Item) → MachineMessageKeeps n before after
    → refined_post_at after n ≡ refined_post_at before n
unfolding refined_post_at
same_post n before after keeps = rw (keeps.message, keeps.delivered, keeps.forgotten) refl

pub bag_on : (before items : List Item) (posts : List Post)
    → NoMachineItemConcerns machine_item_concerns_messages before items → IsRefinedBagOf before posts
    → IsRefinedBagOf (before ++ items) posts
bag_on before items posts apart is =
    let keeps : (n : ℕ) → MachineMessageKeeps n before (before ++ items) =
    λ n. message_keeps n before items
    (fewer (machine_item_concerns_message n) machine_item_concerns_messages (each_silent n) before items apart) in record {
      many = (messages_keep before items apart).next ∙ is.many;
      each = λ n. is.each n ∙ sym (same_post n before (before ++ items) (keeps n));
      undelivered = λ n past. (keeps n).delivered ∙ is.undelivered n past;
      remembered = λ n past. (keeps n).forgotten ∙ is.remembered n past;
    }

-- ---- one item

-- behind the item the posts are these
abbrev BagGoesOn : List Item → List Post → Item → List Post → Type 0
BagGoesOn before posts item after = IsRefinedBagOf before posts → IsRefinedBagOf (before ++ item ∷ []) after

number_on : (n : ℕ) (before : List Item) (item : Item) → IsFalse (machine_item_concerns_message n before item)
    → MachineMessageKeeps n before (before ++ item ∷ [])
number_on n before item apart = message_keeps n before (item ∷ []) (apart, tt)

-- a message of another number
other_number : (n k : ℕ) → (n == k) ≡ false → (k == n) ≡ false
other_number n k apart = ne_eqb k n (λ same. let yes : (n == k) ≡ true = eq-eqb n k (sym same) in
    cc)

-- ---- a message is sent

sent_facts : (before : List Item) (n : ℕ) (message : Message)
    → journal_message_of (before ++ Item.Sent n message ∷ []) n ≡ Some message
unfolding journal_message_of
sent_facts before n message =
    cc (last_given_append (machine_item_gives_message n) before (Item.Sent n message ∷ []), eq-eqb n n refl)

sent_post : (n : ℕ) (before : List Item) (posts : List Post) (message : Message) (b : Bool)
    → (n == length posts + 1) ≡ b → IsRefinedBagOf before posts
    → (if b then Some (new_bag_post message) else bag_item_numbered posts n)
    ≡ refined_post_at (before ++ Item.Sent (length posts + 1) message ∷ []) n
unfolding refined_post_at was_delivered_in_journal is_forgotten_in_journal
sent_post n before posts message true is bag = let k : ℕ = length posts + 1 in
    rw (
      (eqb-true n k is),
      sent_facts before k message,
      some_more (is_machine_delivery_item k) before (Item.Sent k message),
      some_more (is_journal_forgetting k) before (Item.Sent k message),
      bag.undelivered k (omega arith),
      bag.remembered k (omega arith),
    ) refl
sent_post n before posts message false is bag = bag.each n
    ∙ sym (same_post n before (before ++ Item.Sent (length posts + 1) message ∷ []) (number_on n
    before (Item.Sent (length posts + 1) message) (other_number n (length posts + 1) is)))

pub bag_sent : (before : List Item) (posts : List Post) (message : Message)
    → BagGoesOn before posts (Item.Sent (length posts + 1) message) (posts ++ new_bag_post message ∷ [])
bag_sent before posts message bag =
    let k : ℕ = length posts + 1 in
    let sent : Item = Item.Sent k message in
    let more = length-append posts (new_bag_post message ∷ []) in
    let keeps : (n : ℕ) → length (posts ++ new_bag_post message ∷ []) < n
    → MachineMessageKeeps n before (before ++ sent ∷ []) =
    λ n past. number_on n before sent (ne_eqb k n (λ same. absurd (omega arith))) in record {
      many = omega (arith, next_sent before k message, bag.many, more);
      each = λ n. numbered_pushed posts (new_bag_post message) n
          ∙ sent_post n before posts message (n == k) refl bag;
      undelivered = λ n past. (keeps n past).delivered ∙ bag.undelivered n (omega arith);
      remembered = λ n past. (keeps n past).forgotten ∙ bag.remembered n (omega arith);
    }

-- ---- a message is delivered or forgotten

-- what was posted has a number up to their count
pub within_posts : (posts : List Post) (n : ℕ) (fs : List (List ℕ))
    → bag_frames_posted posts n ≡ Some fs → n ≤ length posts
within_posts posts zero fs is = omega arith
within_posts posts (suc place) fs is = by_post (slice_get posts place) refl is where
  by_post : (o : Option Post) → slice_get posts place ≡ o
      → option_and_then bag_frames_remembered o ≡ Some fs → suc place ≤ length posts
  by_post None e none = absurd cc
  by_post (Some post) e some = omega (arith, slice_get_within posts place post e)

pub some_within : (posts : List Post) (n : ℕ) → is_bag_post_deliverable posts n ≡ true
    → n ≤ length posts
some_within posts n there = by_frames (bag_frames_posted posts n) refl there where
  by_frames : (o : Option (List (List ℕ))) → bag_frames_posted posts n ≡ o → is_some o ≡ true
      → n ≤ length posts
  by_frames None e none = absurd cc
  by_frames (Some fs) e some = within_posts posts n fs e

-- the post of one number changes as the item changes its facts
abbrev ChangesOne : (Post → Post) → ℕ → List Item → Item → Type 0
ChangesOne change k before item =
    ((n : ℕ) → (k == n) ≡ false → IsFalse (machine_item_concerns_message n before item))
    × (refined_post_at (before ++ item ∷ []) k ≡ option_map change (refined_post_at before k))

changed_post : (change : Post → Post) (k n : ℕ) (before : List Item) (posts : List Post)
    (item : Item) (b : Bool) → (n == k) ≡ b → ChangesOne change k before item → IsRefinedBagOf before posts
    → (if b then option_map change (bag_item_numbered posts n) else bag_item_numbered posts n)
    ≡ refined_post_at (before ++ item ∷ []) n
changed_post change k n before posts item true is changes bag =
    let P : ℕ → Type 0 = λ m. option_map change (bag_item_numbered posts m)
    ≡ refined_post_at (before ++ item ∷ []) m in
    subst P (sym (eqb-true n k is)) (ap (option_map change) (bag.each k) ∙ sym changes.1)
changed_post change k n before posts item false is changes bag = bag.each n ∙ sym (same_post n
    before (before ++ item ∷ []) (number_on n before item (changes.0 n (other_number n k is))))

bag_changed : (change : Post → Post) (k : ℕ) (before : List Item) (posts : List Post)
    (item : Item) → ChangesOne change k before item → k ≤ length posts
    → journal_next_message (before ++ item ∷ []) ≡ journal_next_message before
    → BagGoesOn before posts item (bag_with_changed change posts k)
bag_changed change k before posts item changes posted_it as_many bag =
    let same = length_changed change posts k in
    let keeps : (n : ℕ) → length (bag_with_changed change posts k) < n
    → MachineMessageKeeps n before (before ++ item ∷ []) = λ n past. number_on n before item (changes.0 n
    (ne_eqb k n (λ own. absurd (omega (arith, same, past, own, posted_it))))) in record {
      many = as_many ∙ bag.many ∙ ap (λ count. count + 1) (sym same);
      each = λ n. numbered_changed change posts k n
          ∙ changed_post change k n before posts item (n == k) refl changes bag;
      undelivered = λ n past. (keeps n past).delivered ∙ bag.undelivered n (omega arith);
      remembered = λ n past. (keeps n past).forgotten ∙ bag.remembered n (omega arith);
    }

-- an item that sends no message raises flags of one
bag_flagged : (change : Post → Post) (k : ℕ) (before : List Item) (posts : List Post) (item : Item)
    → ((n : ℕ) → (k == n) ≡ false → IsFalse (machine_item_concerns_message n before item))
    → machine_item_gives_message k item ≡ None → is_machine_sending_item item ≡ false → ((m : Message) → (
      bag_posted_frames m,
      record {
        delivered = is_machine_delivery_item k item || was_delivered_in_journal before k;
        forgotten = is_journal_forgetting k item || is_forgotten_in_journal before k;
      },
    ) ≡ change (
      bag_posted_frames m,
      record { delivered = was_delivered_in_journal before k; forgotten = is_forgotten_in_journal before k },
    ))
    → k ≤ length posts → BagGoesOn before posts item (bag_with_changed change posts k)
unfolding refined_post_at journal_message_of was_delivered_in_journal is_forgotten_in_journal journal_next_message
bag_flagged change k before posts item apart untold unsent flags posted_it bag =
    let none : machine_count_of is_machine_sending_item (item ∷ []) ≡ 0 = rw unsent refl in
    bag_changed change k before posts item (
      apart,
      rw (
        last_given_append (machine_item_gives_message k) before (item ∷ []),
        untold,
        some_more (is_machine_delivery_item k) before item,
        some_more (is_journal_forgetting k) before item,
      ) (by_told (journal_message_of before k)),
    ) posted_it (omega (arith, none, count_of_append is_machine_sending_item before (item ∷ []))) bag
  where
    by_told : (o : Option Message) → option_map (λ (m : Message). (
      bag_posted_frames m,
      record {
        delivered = is_machine_delivery_item k item || was_delivered_in_journal before k;
        forgotten = is_journal_forgetting k item || is_forgotten_in_journal before k;
      },
    )) o ≡ option_map change (option_map (λ (m : Message). (
      bag_posted_frames m,
      record { delivered = was_delivered_in_journal before k; forgotten = is_forgotten_in_journal before k },
    )) o)
    by_told None = refl
    by_told (Some m) = ap Some (flags m)

pub bag_delivered : (before : List Item) (posts : List Post) (k : ℕ) → k ≤ length posts
    → BagGoesOn before posts (Item.Delivered k) (bag_posts_with_delivered posts k)
bag_delivered before posts k =
    bag_flagged _ k before posts _ (λ n apart. apart) refl refl (λ m. rw (eq-eqb k k refl) refl)

pub bag_forgotten : (before : List Item) (posts : List Post) (k : ℕ) → k ≤ length posts
    → BagGoesOn before posts (Item.Forgotten k) (bag_posts_with_forgotten posts k)
bag_forgotten before posts k =
    bag_flagged _ k before posts _ (λ n apart. apart) refl refl (λ m. rw (eq-eqb k k refl) refl)

-- ---- items of packets

-- the items concern no switch, no link and no policy, and the messages that they send are numbered
-- from this number
abbrev pub SendFrom : ℕ → List Item → Type 0
SendFrom number [] = ⊤
SendFrom number (Item.Sent n message ∷ items) = (n ≡ number) × SendFrom (number + 1) items
SendFrom number (Item.Delivered n ∷ items) = ⊥
SendFrom number (Item.Forgotten n ∷ items) = ⊥
SendFrom number (Item.Expired switch place message ∷ items) = ⊥
SendFrom number (Item.Down switch ∷ items) = ⊥
SendFrom number (Item.Booted switch boot ∷ items) = ⊥
SendFrom number (Item.Opened switch version ∷ items) = ⊥
SendFrom number (Item.LinkIs one two up ∷ items) = ⊥
SendFrom number (Item.Submitted file version ∷ items) = ⊥
SendFrom number (_ ∷ items) = SendFrom number items

-- what they post
abbrev pub posts_in : List Item → List Post
posts_in [] = []
posts_in (Item.Sent n message ∷ items) = new_bag_post message ∷ posts_in items
posts_in (_ ∷ items) = posts_in items

-- they concern no switch, no link and no policy
pub record AreApart (before items : List Item) : Type 0 where
  pub known : (s : ℕ) → NoMachineItemConcerns (machine_item_concerns_known s) before items
  pub links : NoMachineItemConcerns machine_item_concerns_links before items
  pub policies : NoMachineItemConcerns machine_item_concerns_policies before items

-- with one more such item in front
apart_next : (before items : List Item) (item : Item)
    → ((s : ℕ) → IsFalse (machine_item_concerns_known s before item)) → IsFalse (machine_item_concerns_links before item)
    → IsFalse (machine_item_concerns_policies before item) → AreApart (before ++ item ∷ []) items
    → AreApart before (item ∷ items)
apart_next before items item known links policies rest = record {
  known = λ s. (known s, rest.known s);
  links = (links, rest.links);
  policies = (policies, rest.policies);
}

pub are_apart : (number : ℕ) (before items : List Item) → SendFrom number items
    → AreApart before items
are_apart number before [] of = record { known = λ s. tt; links = tt; policies = tt }
are_apart number before (Item.Sent n message ∷ items) of =
    apart_next before items (Item.Sent n message) (λ s. refl) refl refl
    (are_apart (number + 1) (before ++ Item.Sent n message ∷ []) items of.1)
are_apart number before (Item.Delivered n ∷ items) of = absurd of
are_apart number before (Item.Forgotten n ∷ items) of = absurd of
are_apart number before (Item.Expired switch place message ∷ items) of = absurd of
are_apart number before (Item.Down switch ∷ items) of = absurd of
are_apart number before (Item.Booted switch boot ∷ items) of = absurd of
are_apart number before (Item.Opened switch version ∷ items) of = absurd of
are_apart number before (Item.LinkIs one two up ∷ items) of = absurd of
are_apart number before (Item.Submitted file version ∷ items) of = absurd of
are_apart number before (x ∷ items) of = apart_next before items x (λ s. refl) refl refl
    (are_apart number (before ++ x ∷ []) items of)

-- behind an item that concerns no message
bag_next : (before items : List Item) (item : Item) (posts more : List Post)
    → IsFalse (machine_item_concerns_messages before item) → (number : ℕ)
    → (number ≡ journal_next_message (before ++ item ∷ []) → IsRefinedBagOf (before ++ item ∷ []) posts
    → IsRefinedBagOf ((before ++ item ∷ []) ++ items) (posts ++ more)) → number ≡ journal_next_message before
    → IsRefinedBagOf before posts → IsRefinedBagOf (before ++ item ∷ items) (posts ++ more)
bag_next before items item posts more apart number rest is bag =
    subst (λ js. IsRefinedBagOf js (posts ++ more)) (append_assoc before (item ∷ []) items)
    (rest (is ∙ sym (messages_keep before (item ∷ []) (apart, tt)).next)
    (bag_on before (item ∷ []) posts (apart, tt) bag))

pub bag_sends : (number : ℕ) (before items : List Item) (posts : List Post)
    → SendFrom number items → number ≡ journal_next_message before → IsRefinedBagOf before posts
    → IsRefinedBagOf (before ++ items) (posts ++ posts_in items)
bag_sends number before [] posts of is bag = rw (append-nil before) (rw (append-nil posts) bag)
bag_sends number before (Item.Sent n message ∷ items) posts of is bag =
    let sent : Item = Item.Sent n message in
    let rest = bag_sends (number + 1) (before ++ sent ∷ []) items
    (posts ++ new_bag_post message ∷ []) of.1 (ap (λ k. k + 1) is ∙ sym (next_sent before n message))
    (subst (λ k. IsRefinedBagOf (before ++ Item.Sent k message ∷ []) (posts ++ new_bag_post message ∷ []))
    (sym (of.0 ∙ is ∙ bag.many)) (bag_sent before posts message bag)) in
    subst (λ js. IsRefinedBagOf js (posts ++ new_bag_post message ∷ posts_in items))
    (append_assoc before (sent ∷ []) items)
    (rw (append_assoc posts (new_bag_post message ∷ []) (posts_in items)) at rest)
bag_sends number before (Item.Delivered n ∷ items) posts of is bag = absurd of
bag_sends number before (Item.Forgotten n ∷ items) posts of is bag = absurd of
bag_sends number before (Item.Expired switch place message ∷ items) posts of is bag = absurd of
bag_sends number before (Item.Down switch ∷ items) posts of is bag = absurd of
bag_sends number before (Item.Booted switch boot ∷ items) posts of is bag = absurd of
bag_sends number before (Item.Opened switch version ∷ items) posts of is bag = absurd of
bag_sends number before (Item.LinkIs one two up ∷ items) posts of is bag = absurd of
bag_sends number before (Item.Submitted file version ∷ items) posts of is bag = absurd of
bag_sends number before (x ∷ items) posts of is bag = bag_next before items x posts (posts_in items)
    refl number (λ next more. bag_sends number (before ++ x ∷ []) items posts of next more) is bag

-- ---- the start

none_posted : (n : ℕ) → bag_item_numbered {X = Post} [] n ≡ None
none_posted zero = refl
none_posted (suc place) = refl

none_sent : (n : ℕ) → refined_post_at [] n ≡ None
unfolding refined_post_at
none_sent n = rw (start_laws.message n).message refl

pub bag_begun : IsRefinedBagOf [] []
bag_begun = record {
  many = start_laws.messages;
  each = λ n. none_posted n ∙ sym (none_sent n);
  undelivered = λ n past. (start_laws.message n).delivered;
  remembered = λ n past. (start_laws.message n).forgotten;
}
