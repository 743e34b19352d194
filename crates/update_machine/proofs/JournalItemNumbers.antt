-- Items that take the next numbers leave no gap.
use Rattle.std.proofs.Common.{[], ◌++◌, ◌+◌, ◌∙◌, ◌∷◌, ◌≡◌, Bool, List, add-zero, ap, append-nil, append_assoc, arith, false, refl, subst, suc, sym, true, zero, ℕ}
use Rattle.base.proofs.Exports.{range_with_len}
use Rattle.update_machine.specs.Exports.{AreJournalNumbersWithoutGap, JournalBeginsAnswer, Event, JournalItemsHaveCauses, Item, Setting, MachineTakesNextNumber, JournalVersionsAreNumbered, journal_all_given, machine_count_of, is_machine_packet_entry, is_machine_sending_item, machine_item_message_number, journal_next_message, journal_next_packet, machine_packet_number}
use Rattle.update_machine.proofs.JournalBlockNumbers.{all_given_append, begun_has, count_of_append, piece_next}
use Rattle.update_machine.proofs.JournalVersionPolicies.{numbered_at_first, other_more, submitted_more}

range_more : (a n : ℕ) → range_with_len a (n + 1) ≡ range_with_len a n ++ (a + n) ∷ []
range_more a zero = ap (λ x. x ∷ []) (sym (add-zero a))
range_more a (suc n) = let longer : suc n + 1 ≡ suc (n + 1) = omega arith in
    ap (range_with_len a) longer ∙ ap (λ xs. a ∷ xs) (range_more (a + 1) n)
    ∙ ap (λ x. a ∷ (range_with_len (a + 1) n ++ x ∷ [])) (omega arith)

-- the numbers that a journal's items give are 1, 2 and so on, as many as there are items that count
abbrev Numbered : (Item → List ℕ) → (Item → Bool) → List Item → Type 0
Numbered gives counts journal = journal_all_given gives journal ≡ range_with_len 1 (machine_count_of counts journal)

-- an item that gives no number doesn't count
not_counted : (gives : Item → List ℕ) (counts : Item → Bool) (journal : List Item) (item : Item)
    → gives item ≡ [] → counts item ≡ false →
    Numbered gives counts journal → Numbered gives counts (journal ++ item ∷ [])
not_counted gives counts journal item none apart known =
    let given : journal_all_given gives (item ∷ []) ≡ [] = ap (λ xs. xs ++ []) none in
    all_given_append gives journal (item ∷ []) ∙ ap (λ xs. journal_all_given gives journal ++ xs) given
    ∙ append-nil (journal_all_given gives journal)
    ∙ known ∙ ap (range_with_len 1) (sym (count_of_append counts journal (item ∷ []) ∙ ap
    (λ k. machine_count_of counts journal + k) (rw apart refl) ∙ add-zero (machine_count_of counts journal)))

-- an item that counts gives the next number
counted : (gives : Item → List ℕ) (counts : Item → Bool) (journal : List Item) (item : Item) (n : ℕ)
    → gives item ≡ n ∷ [] → counts item ≡ true → n ≡ machine_count_of counts journal + 1
    → Numbered gives counts journal → Numbered gives counts (journal ++ item ∷ [])
counted gives counts journal item n one counting next known =
    let given : journal_all_given gives (item ∷ []) ≡ n ∷ [] = ap (λ xs. xs ++ []) one in
    let count : machine_count_of counts (item ∷ []) ≡ 1 = rw counting refl in
    all_given_append gives journal (item ∷ []) ∙ ap (λ xs. journal_all_given gives journal ++ xs) given
    ∙ ap (λ x. journal_all_given gives journal ++ x ∷ []) (omega (arith, next))
    ∙ ap (λ xs. xs ++ (1 + machine_count_of counts journal) ∷ []) known
    ∙ sym (range_more 1 (machine_count_of counts journal)) ∙ ap (range_with_len 1) (sym
    (count_of_append counts journal (item ∷ []) ∙ ap (λ k. machine_count_of counts journal + k) count))

packet_more : (journal : List Item) (item : Item) → MachineTakesNextNumber journal item
    → Numbered machine_packet_number is_machine_packet_entry journal → Numbered machine_packet_number is_machine_packet_entry
    (journal ++ item ∷ [])
unfolding journal_next_packet
packet_more journal (Item.Entered packet switch header) next known = counted machine_packet_number is_machine_packet_entry
    journal (Item.Entered packet switch header) packet refl refl next known
packet_more journal (Item.Closed packet switch) next known = counted machine_packet_number is_machine_packet_entry journal
    (Item.Closed packet switch) packet refl refl next known
packet_more journal other next known = not_counted machine_packet_number is_machine_packet_entry journal other refl refl
    known

message_more : (journal : List Item) (item : Item) → MachineTakesNextNumber journal item
    → Numbered machine_item_message_number is_machine_sending_item journal → Numbered machine_item_message_number is_machine_sending_item
    (journal ++ item ∷ [])
unfolding journal_next_message
message_more journal (Item.Sent number message) next known = counted machine_item_message_number is_machine_sending_item
    journal (Item.Sent number message) number refl refl next known
message_more journal other next known = not_counted machine_item_message_number is_machine_sending_item journal other refl
    refl known

version_more : (journal : List Item) (item : Item) → MachineTakesNextNumber journal item
    → JournalVersionsAreNumbered journal → JournalVersionsAreNumbered (journal ++ item ∷ [])
version_more journal (Item.Submitted file version) next known =
    submitted_more journal file version next known
version_more journal other next known = other_more journal other refl known

numbered_on : (journal items : List Item) → JournalItemsHaveCauses MachineTakesNextNumber journal items → AreJournalNumbersWithoutGap journal
    → AreJournalNumbersWithoutGap (journal ++ items)
numbered_on journal [] causes known = subst AreJournalNumbersWithoutGap (sym (append-nil journal)) known
numbered_on journal (item ∷ items) causes known =
    let more : AreJournalNumbersWithoutGap (journal ++ item ∷ []) = record {
      packets = packet_more journal item causes.0 known.packets;
      messages = message_more journal item causes.0 known.messages;
      versions = version_more journal item causes.0 known.versions;
    } in
    subst AreJournalNumbersWithoutGap (append_assoc journal (item ∷ []) items)
    (numbered_on (journal ++ item ∷ []) items causes.1 more)

-- so it is in each beginning of an answer
pub begun_is_numbered : (setting : Setting) (events : List Event) (journal : List Item)
    → JournalBeginsAnswer setting events journal → AreJournalNumbersWithoutGap journal
begun_is_numbered setting events journal begins =
    numbered_on [] journal (begun_has MachineTakesNextNumber setting (piece_next setting) events journal begins)
    (record { packets = refl; messages = refl; versions = numbered_at_first })
