-- First tier. Four ways in which a journal says something: what an item said last, how many items
-- satisfy a test, what they give one after another, and what becomes of a value when each changes
-- it. An item that refers back, as a delivery to its message, is read on the journal before it.
use Rattle.std.specs.Prelude.{[], ◌++◌, ◌∷◌, Bool, List, None, Option, count_by, flat_map, ℕ}
use Rattle.base.specs.Exports.{option_or}
use Rattle.journal.specs.declared.item.Item.{Item}

-- what the last item that says something says
abbrev pub journal_last_given : {X : Type 0} → (Item → Option X) → List Item → Option X
journal_last_given tells [] = None
journal_last_given tells (item ∷ items) = option_or (journal_last_given tells items) (tells item)

-- how many items satisfy the test
abbrev pub machine_count_of : (Item → Bool) → List Item → ℕ
machine_count_of test journal = count_by test journal

-- what the items give, in order
abbrev pub journal_all_given : {X : Type 0} → (Item → List X) → List Item → List X
journal_all_given gives journal = flat_map gives journal

-- what becomes of a value when each of these items changes it, after this journal
abbrev pub folded_journal_from : {X : Type 0} → (List Item → X → Item → X) → List Item → X → List Item → X
folded_journal_from changes before value [] = value
folded_journal_from changes before value (item ∷ items) =
    folded_journal_from changes (before ++ item ∷ []) (changes before value item) items

-- what becomes of a value when each item of a journal changes it
abbrev pub journal_folded_value : {X : Type 0} → (List Item → X → Item → X) → X → List Item → X
journal_folded_value changes start journal = folded_journal_from changes [] start journal
