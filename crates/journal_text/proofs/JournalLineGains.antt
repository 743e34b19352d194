-- What a sink gained by the lines of a journal.
use Rattle.base.proofs.Exports.{flat_map-append, take-append-le, take_more, ⊤}
use Rattle.std.proofs.Common.{[], ◌++◌, ◌+◌, ◌<◌, ◌==◌, ◌∙◌, ◌∷◌, ◌≡◌, ◌≢◌, ◌≤◌, Bool, Err, IsErrOf, IsTrue, List, None, Option, Result, Some, ap, append-nil, append_assoc, arith, drop, false, get_or, length, length-append, refl, subst, sym, take, take-append-drop, take_all, ℕ}
use Rattle.journal.specs.declared.item.Item.{Item}
use Rattle.journal_text.specs.Lines.{journal_item_line, journal_text}
use Rattle.lines.specs.Pushes.{line_with}
use Rattle.net_file.specs.declared.net.Net.{Net}
use Rattle.shelf.specs.Exports.{SinkGainedPart, IsSinkAfterWrite, IsSinkBlockGathered, SinkFaultsRose, SinkState, sink_with_gained}
use Rattle.shelf.proofs.SinkGains.{nothing_gained}
use Rattle.shelf.specs.declared.output.SinkError.{SinkError}
use Rattle.shelf.specs.declared.output.SinkError.TheVariants.{Failed, NoMemory}

abbrev line_of : Net → Item → List ℕ
line_of net item = journal_item_line net item ++ 10 ∷ []

-- up to an item and with it
pub lines_more : (net : Net) (items : List Item) (i : ℕ) (item : Item) → i < length items
    → item ≡ get_or items i item
    → journal_text net (take (i + 1) items) ≡ journal_text net (take i items) ++ line_of net item
lines_more net items i item within is = ap (journal_text net)
    (take_more items i item within ∙ ap (λ x. take i items ++ x ∷ []) (sym is))
    ∙ flat_map-append (line_of net) (take i items) (item ∷ [])
    ∙ ap (λ line. journal_text net (take i items) ++ line) (append-nil (line_of net item))

-- a part of the text up to an item is a part of the whole
pub part_upto : (net : Net) (items : List Item) (i : ℕ) → (before now : Option (List ℕ))
    → SinkGainedPart before (journal_text net (take i items)) now
    → SinkGainedPart before (journal_text net items) now
part_upto net items i before now part =
    let front = journal_text net (take i items) in
    let rest = journal_text net (drop i items) in
    let n = part.0 in
    let shorter = part.1 in
    rw (← (sym (flat_map-append (line_of net) (take i items) (drop i items))
    ∙ ap (journal_text net) (take-append-drop i items))) (
      n,
      omega (arith, shorter, length-append front rest),
      part.2 ∙ ap (sink_with_gained before) (sym (take-append-le n front rest (omega (arith, shorter)))),
    )

-- of a text that is written in blocks, a line holds what is yet to be gathered
pub record IsHeld (text : List ℕ) (before now : Option (List ℕ)) (waiting line : List ℕ)
    : Type 0 where
  pub front : List ℕ
  pub gathered : IsSinkBlockGathered front before now waiting
  pub whole : text ≡ front ++ line

-- nothing of an empty text is held
pub held_first : (before : Option (List ℕ)) (waiting line : List ℕ) → waiting ≡ [] → line ≡ []
    → IsHeld [] before before waiting line
held_first before waiting line none empty = record {
  front = [];
  gathered = record { written = 0; within = omega arith; gained = nothing_gained before; waits = none };
  whole = sym empty;
}

-- one more line is held
pub held_more : (text piece : List ℕ) (before now : Option (List ℕ)) (waiting line : List ℕ)
    → IsHeld text before now waiting line → IsHeld (text ++ piece) before now waiting (line ++ piece)
held_more text piece before now waiting line is = record {
  front = is.front;
  gathered = is.gathered;
  whole = ap (λ t. t ++ piece) is.whole ∙ append_assoc is.front line piece;
}

-- what a line held was gathered, so that it holds nothing
pub held_nothing : (text : List ℕ) (before now later : Option (List ℕ))
    (waiting line all piece : List ℕ) → (is : IsHeld text before now waiting line) → piece ≡ line
    → IsSinkBlockGathered (is.front ++ piece) before later all
    → IsHeld text before later all []
held_nothing text before now later waiting line all piece is same gathered = record {
  front = text;
  gathered = rw (ap (λ l. is.front ++ l) same ∙ sym is.whole) at gathered;
  whole = sym (append-nil text);
}

abbrev fails : SinkError → Result (⊤) SinkError
fails error = Err error

-- an error as the lines up to an item were to be gathered, and no fault was counted before
pub gathers_no_more : (net : Net) {items journal : List Item} (i : ℕ) (takes_memory : Bool)
    (first old new : SinkState) (error : SinkError) {waiting line piece : List ℕ}
    → items ≡ journal → IsHeld (journal_text net (take i items)) first.bytes old.bytes waiting line
    → old.faults ≡ first.faults → piece ≡ line → ((text : List ℕ) (before : Option (List ℕ))
    → IsSinkBlockGathered text before old.bytes waiting → SinkGainedPart before (text ++ piece) new.bytes)
    → old.faults ≤ new.faults → (fails error ≢ Err Failed → new.faults ≡ old.faults)
    → (IsErrOf (fails error) Failed → SinkFaultsRose old.faults new.faults)
    → (IsErrOf (fails error) NoMemory → IsTrue takes_memory)
    → IsSinkAfterWrite (journal_text net journal) takes_memory first new (fails error)
gathers_no_more net {items} i takes_memory first old new error all is none same part faults calm
    failed no_memory = rw (← all) (
    record {
      whole = tt;
      part = part_upto net items i first.bytes new.bytes
          (subst (λ (text : List ℕ). SinkGainedPart first.bytes text new.bytes)
          (ap (λ l. is.front ++ l) same ∙ sym is.whole) (part is.front first.bytes is.gathered));
      faults = omega (arith, none, faults);
      calm = λ not. calm not ∙ none;
      failed = λ f. omega (arith, none, failed f);
      no_memory = no_memory;
    }
    )

-- a text that is held whole behind a line
pub held_whole : (line text : List ℕ) → length line + length text ≤ 2048
    → line_with line text ≡ line ++ text
unfolding line_with
held_whole line text fits = take_all 2048 (line ++ text) (omega (arith, fits, length-append line text))

-- a text that is empty has no lines
no_items : (net : Net) (items : List Item) → journal_text net items ≡ [] → items ≡ []
no_items net [] none = refl
no_items net (item ∷ items) none = absurd (some (journal_item_line net item) none) where
  some : (line : List ℕ) → (line ++ 10 ∷ []) ++ journal_text net items ≡ [] → ⊥
  some [] e = cc e
  some (c ∷ cs) e = cc e

pub some_items : (net : Net) {items journal : List Item} {none : Bool} → items ≡ journal
    → none ≡ (length items == 0) → none ≡ false → journal_text net journal ≡ [] → ⊥
some_items net {items} same is not_none nothing =
    cc (sym (ap (λ (list : List Item). length list == 0)
    (no_items net items (ap (journal_text net) same ∙ nothing))) ∙ sym is ∙ not_none)
