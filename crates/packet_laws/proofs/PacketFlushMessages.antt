-- A flush delivers messages of rising numbers.
use Rattle.std.proofs.Common.{[], ◌&&◌, ◌++◌, ◌+◌, ◌<◌, ◌==◌, ◌||◌, ◌∙◌, ◌∷◌, ◌≡◌, ◌≢◌, ◌≤◌, Bool, IsFalse, IsTrue, List, Some, add-zero, ap, append_assoc, arith, cond, count_by, eq-eqb, eqb-true, false, find, if◌then◌else◌, inl, inr, length, lt-ltb, nat_lt, not, refl, subst, suc, sym, true, zero, ℕ, rules}
use Rattle.base.proofs.Exports.{Any-from_list_any, and_parts, and_right, cases_eq, cases_lt, count_by-le-length, list_any, nat_tests, range_with_len, sum_by-cons}
use Rattle.failover.specs.Exports.{IsFailoverDownLinkSet, link_set_has, is_failover_link_of, with_failover_link}
use Rattle.failover.proofs.FailoverLinkSets.{link_set_has-turned, link_set_has-with_link, with_link_is_link_set}
use Rattle.net_file.specs.Exports.{IsNetLink, IsNet, are_linked_in_net, net_link_joins}
use Rattle.update_machine.specs.Exports.{Deliver, JournalItemsHaveCauses, Item, LinkRow, Net, Setting, MachineTakesNextNumber, machine_item_concerns_message, machine_count_of, machine_deliver_items, machine_delivery_items, is_deliverable, is_machine_delivery_item, is_journal_forgetting, is_forgotten_in_journal, is_machine_sending_item, is_waiting, journal_next_message, next_waiting, piece, was_delivered_in_journal}
use Rattle.update_machine.proofs.Exports.{count_of_append, message_keeps, next_rises, piece_next}
use Rattle.control_laws.proofs.Exports.{AreKept, fact_on}

-- ---- the links of the network that a packet has not found down: each one that it finds is one
-- less

-- the link isn't in the set
abbrev pub is_unfound : List ℕ → LinkRow → Bool
is_unfound found link = not (link_set_has found link.one link.two)

-- how many of the links aren't
abbrev pub unfound : List LinkRow → List ℕ → ℕ
unfound links found = count_by (is_unfound found) links

-- ---- one more

-- the set holds one more link, which it didn't hold
record IsOneMore (before after : List ℕ) (one two : ℕ) : Type 0 where
  added : (x y : ℕ) → link_set_has after x y ≡ (link_set_has before x y || is_failover_link_of one two x y)
  new : (x y : ℕ) → is_failover_link_of one two x y ≡ true → link_set_has before x y ≡ false

part : (b c : Bool) → cond (not (b || c)) 1 0 ≤ cond (not b) 1 0
part b c = search rules

one_link : (before after : List ℕ) (one two : ℕ) (link : LinkRow) → IsOneMore before after one two
    → cond (is_unfound after link) 1 0 ≤ cond (is_unfound before link) 1 0
one_link before after one two link more = search rules

stays : (before after : List ℕ) (one two : ℕ) → IsOneMore before after one two
    → (links : List LinkRow) → unfound links after ≤ unfound links before
stays before after one two more [] = omega arith
stays before after one two more (link ∷ links) = omega (
  arith,
  sum_by-cons (λ l. cond (is_unfound after l) 1 0) link links,
  sum_by-cons (λ l. cond (is_unfound before l) 1 0) link links,
  one_link before after one two link more,
  stays before after one two more links,
)

this_link : (before after : List ℕ) (one two : ℕ) (link : LinkRow)
    → IsOneMore before after one two → is_failover_link_of one two link.one link.two ≡ true
    → cond (is_unfound after link) 1 0 + 1 ≤ cond (is_unfound before link) 1 0
this_link before after one two link more is = search rules

falls : (before after : List ℕ) (one two : ℕ) → IsOneMore before after one two
    → (links : List LinkRow) → IsTrue (are_linked_in_net links one two)
    → unfound links after + 1 ≤ unfound links before
falls before after one two more [] linked = absurd cc
falls before after one two more (link ∷ links) linked =
    by_test (net_link_joins one two link) refl (falls before after one two more links) linked
  where
    by_test : (b : Bool) → net_link_joins one two link ≡ b
        → (IsTrue (are_linked_in_net links one two) → unfound links after + 1 ≤ unfound links before)
        → IsTrue (b || list_any (net_link_joins one two) links)
        → unfound (link ∷ links) after + 1 ≤ unfound (link ∷ links) before
    by_test true e rest any = omega (
      arith,
      sum_by-cons (λ l. cond (is_unfound after l) 1 0) link links,
      sum_by-cons (λ l. cond (is_unfound before l) 1 0) link links,
      this_link before after one two link more e,
      stays before after one two more links,
    )
    by_test false e rest any = omega (
      arith,
      sum_by-cons (λ l. cond (is_unfound after l) 1 0) link links,
      sum_by-cons (λ l. cond (is_unfound before l) 1 0) link links,
      one_link before after one two link more,
      rest any,
    )

-- ---- links of a network

record AreEnds (one two : ℕ) : Type 0 where
  one_fits : one < 64
  two_fits : two < 64
  apart : one ≢ two

joined_ends : (count one two : ℕ) (link : LinkRow) → count ≤ 64 → IsNetLink count link
    → net_link_joins one two link ≡ true → AreEnds one two
joined_ends count one two link few is joined = search (rules, nat_tests)

ends : (net : Net) (one two : ℕ) → IsNet net → IsTrue (are_linked_in_net net.links one two)
    → AreEnds one two
ends net one two is linked = search (rules, Any-from_list_any, joined_ends)

same_ends : (found : List ℕ) (one two x y : ℕ) → link_set_has found one two ≡ false
    → is_failover_link_of one two x y ≡ true → link_set_has found x y ≡ false
same_ends found one two x y none is = search (rules, eqb-true, link_set_has-turned)

-- what one more link of the network leaves of a set
pub record FindsOne (net : Net) (found : List ℕ) (one two : ℕ) : Type 0 where
  pub set : IsFailoverDownLinkSet (with_failover_link found one two)
  pub fewer : unfound net.links (with_failover_link found one two) + 1 ≤ unfound net.links found

pub finds_one : (net : Net) (found : List ℕ) (one two : ℕ) → IsNet net → IsFailoverDownLinkSet found
    → IsTrue (are_linked_in_net net.links one two) → IsFalse (link_set_has found one two)
    → FindsOne net found one two
finds_one net found one two is set linked none =
    let at : AreEnds one two = ends net one two is linked in record {
      set = with_link_is_link_set found one two set at.apart at.one_fits at.two_fits;
      fewer = falls found (with_failover_link found one two) one two (record {
        added = λ x y. link_set_has-with_link found one two x y set at.one_fits at.two_fits;
        new = λ x y same. same_ends found one two x y none same;
      }) net.links linked;
    }

pub few_unfound : (net : Net) (found : List ℕ) → unfound net.links found ≤ length net.links
few_unfound net found = count_by-le-length (is_unfound found) net.links

-- ---- what one more item makes of a count

-- one more, where it counts
abbrev pub one_more : Bool → ℕ → ℕ
one_more b n = if b then n + 1 else n

counted : (b : Bool) (n : ℕ) → n + (0 + (if b then 1 else 0)) ≡ one_more b n
counted b n = search (rules, add-zero)

pub count_more : (test : Item → Bool) (before : List Item) (item : Item)
    → machine_count_of test (before ++ item ∷ []) ≡ one_more (test item) (machine_count_of test before)
count_more test before item = search (rules, count_of_append)

-- ---- waiting messages

-- ---- the least number

-- the first of these numbers that satisfies the test
pub record IsLeast (test : ℕ → Bool) (from count n : ℕ) : Type 0 where
  pub above : from ≤ n
  pub below : n < from + count
  pub holds : test n ≡ true
  pub before : (k : ℕ) → from ≤ k → k < n → test k ≡ false

pub least : (test : ℕ → Bool) (from count n : ℕ) → find test (range_with_len from count) ≡ Some n
    → IsLeast test from count n
least test from zero n is = absurd cc
least test from (suc count) n is = search (rules, cases_eq, least test (from + 1) count n)

pub record IsNext (journal : List Item) (n : ℕ) : Type 0 where
  pub first : 1 ≤ n
  pub sent : n < journal_next_message journal
  pub waits : is_waiting journal n ≡ true
  pub least : (k : ℕ) → 1 ≤ k → k < n → is_waiting journal k ≡ false

pub next_is : (journal : List Item) (n : ℕ) → next_waiting journal ≡ Some n → IsNext journal n
unfolding next_waiting journal_next_message
next_is journal n is = let at = least (is_waiting journal) 1 (machine_count_of is_machine_sending_item journal) n is in
    record { first = at.above; sent = omega (arith, at.below); waits = at.holds; least = at.before }

-- ---- messages that wait no longer

-- the messages below the bound were sent, and none of them waits
record AreOver (bound : ℕ) (journal : List Item) : Type 0 where
  sent : bound ≤ journal_next_message journal
  over : (k : ℕ) → 1 ≤ k → k < bound → is_waiting journal k ≡ false

counted_now : (test : Item → Bool) (before : List Item) (next : Item) → test next ≡ true
    → nat_lt 0 (machine_count_of test (before ++ next ∷ [])) ≡ true
counted_now test before next is = search (rules, count_more, lt-ltb)

forgotten_now : (before : List Item) (number k : ℕ) → (number == k) ≡ true
    → is_forgotten_in_journal (before ++ Item.Forgotten number ∷ []) k ≡ true
unfolding is_forgotten_in_journal
forgotten_now before number k e = counted_now (is_journal_forgetting k) before (Item.Forgotten number) e

delivered_now : (before : List Item) (number k : ℕ) → (number == k) ≡ true
    → was_delivered_in_journal (before ++ Item.Delivered number ∷ []) k ≡ true
unfolding was_delivered_in_journal
delivered_now before number k e = counted_now (is_machine_delivery_item k) before (Item.Delivered number) e

inner_not : (b c : Bool) → ((b && not true) && c) ≡ false
inner_not b c = search rules

-- what an item leaves of a message that it concerns
over_by : (bound k : ℕ) (before : List Item) (next : Item) → MachineTakesNextNumber before next
    → AreOver bound before → k < bound → machine_item_concerns_message k before next ≡ true
    → is_waiting (before ++ next ∷ []) k ≡ false
unfolding is_deliverable
over_by bound k before next takes are below e =
    search (rules, eqb-true, forgotten_now, inner_not, delivered_now)

over_kept : (bound : ℕ) → AreKept MachineTakesNextNumber (AreOver bound)
over_kept bound before next takes are = record {
  sent = omega (arith, are.sent, next_rises before next);
  over = λ k first below. by_concern k first below (machine_item_concerns_message k before next) refl;
} where
  by_concern : (k : ℕ) → 1 ≤ k → k < bound → (b : Bool) → machine_item_concerns_message k before next ≡ b
      → is_waiting (before ++ next ∷ []) k ≡ false
  by_concern k first below true e = over_by bound k before next takes are below e
  by_concern k first below false e = let keeps = message_keeps k before (next ∷ []) (e, tt) in
      rw (keeps.deliverable, keeps.delivered) (are.over k first below)

-- ---- a delivery

-- what a delivery writes behind its row and itself
abbrev rest_of : Setting → List Item → ℕ → ℕ → List Item
rest_of setting journal row n = machine_delivery_items setting journal n
    ((journal ++ Item.Row row (Deliver n) ∷ []) ++ Item.Delivered n ∷ [])

deliver_is : (setting : Setting) (before journal : List Item) (n : ℕ) → is_deliverable before n
    ≡ true → machine_deliver_items setting before n journal
    ≡ Item.Delivered n ∷ machine_delivery_items setting before n (journal ++ Item.Delivered n ∷ [])
unfolding machine_deliver_items
deliver_is setting before journal n may = rw (may, machine_deliver_items) refl

delivery_is : (setting : Setting) (journal : List Item) (row n : ℕ) → is_deliverable journal n
    ≡ true → piece setting journal row (Deliver n)
    ≡ Item.Row row (Deliver n) ∷ Item.Delivered n ∷ rest_of setting journal row n
unfolding piece
delivery_is setting journal row n may = search (rules, deliver_is)

-- behind the delivery of the next message, it doesn't wait, nor does one before it
over_now : (setting : Setting) (journal : List Item) (row n : ℕ) → IsNext journal n
    → AreOver (n + 1) ((journal ++ Item.Row row (Deliver n) ∷ []) ++ Item.Delivered n ∷ [])
over_now setting journal row n next =
    let at : List Item = journal ++ Item.Row row (Deliver n) ∷ [] in
    let before : AreOver n (at ++ Item.Delivered n ∷ []) = over_kept n at (Item.Delivered n) tt
    (over_kept n journal (Item.Row row (Deliver n)) tt (record {
      sent = omega (arith, next.sent);
      over = next.least;
    })) in record {
      sent = omega (arith, next.sent, next_rises);
      over = λ k first below. elim (cases_eq k n) [
        | inl own ↦ rw own (rw (delivered_now at n n (eq-eqb n n refl)) (and_right _ false refl))
        | inr apart ↦ before.over k first (omega (arith, below, apart))
      ];
    }

over_behind : (setting : Setting) (journal : List Item) (row n : ℕ) → IsNext journal n
    → AreOver (n + 1) (journal ++ piece setting journal row (Deliver n))
over_behind setting journal row n next =
    let row_item : Item = Item.Row row (Deliver n) in
    let rest : List Item = rest_of setting journal row n in
    let is = delivery_is setting journal row n (and_parts _ _ next.waits).0 in
    let whole = append_assoc (journal ++ row_item ∷ []) (Item.Delivered n ∷ []) rest
    ∙ append_assoc journal (row_item ∷ []) (Item.Delivered n ∷ rest)
    ∙ ap (λ items. journal ++ items) (sym is) in
    subst (AreOver (n + 1)) whole
    (fact_on MachineTakesNextNumber (AreOver (n + 1)) (over_kept (n + 1)) _ rest
    (subst (JournalItemsHaveCauses MachineTakesNextNumber journal) is (piece_next setting journal row (Deliver n))).1.1
    (over_now setting journal row n next))

pub numbers_rise : (setting : Setting) (journal : List Item) (row n m : ℕ) → next_waiting journal
    ≡ Some n → next_waiting (journal ++ piece setting journal row (Deliver n)) ≡ Some m → n < m
numbers_rise setting journal row n m first later =
    let after : List Item = journal ++ piece setting journal row (Deliver n) in
    let next : IsNext after m = next_is after m later in
    elim (cases_lt n m) [
      | inl rises ↦ rises
      | inr falls ↦ let over : is_waiting after m ≡ false =
          (over_behind _ _ row n (next_is _ n first)).over m next.first (omega (arith, falls)) in
          absurd (cc (sym next.waits ∙ over))
    ]
