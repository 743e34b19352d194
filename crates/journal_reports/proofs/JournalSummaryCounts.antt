-- What is counted of one more item.
use Rattle.std.proofs.Common.{[], ◌++◌, ◌+◌, ◌∙◌, ◌∷◌, ◌≡◌, Bool, List, None, Option, Some, ap, arith, false, refl, true, unwrap_or, ℕ}
use Rattle.std.specs.Option.{option_or}
use Rattle.update_machine.specs.Exports.{Item, machine_count_of, journal_current_mark, machine_item_gives_current, machine_item_gives_retired, is_machine_packet_entry, journal_last_given, journal_retired_mark}
use Rattle.update_machine.proofs.Exports.{count_of_append, last_given_append}
use Rattle.journal_reports.specs.Exports.{summary_counts_after_item, summary_counts_cached, summary_counts_closed, summary_counts_dropped, summary_counts_entered, summary_counts_left, summary_counts_lost, summary_counts_sent, summary_counts_stuck, summary_item_counts, summary_one_more}

count_more : (test : Item → Bool) (before : List Item) (item : Item)
    → machine_count_of test (before ++ item ∷ []) ≡ summary_one_more (test item) (machine_count_of test before)
count_more test before item = count_of_append test before (item ∷ []) ∙ go (test item) refl where
  go : (b : Bool) → test item ≡ b
      → machine_count_of test before + machine_count_of test (item ∷ []) ≡ summary_one_more b (machine_count_of test before)
  go true e = rw e (omega arith)
  go false e = rw e (omega arith)

told_more : (tells : Item → Option ℕ) (before : List Item) (item : Item) (other : ℕ)
    → unwrap_or (journal_last_given tells (before ++ item ∷ [])) other
    ≡ unwrap_or (tells item) (unwrap_or (journal_last_given tells before) other)
told_more tells before item other = ap (λ o. unwrap_or o other)
    (last_given_append tells before (item ∷ [])) ∙ go (tells item) (journal_last_given tells before)
  where
    go : (told earlier : Option ℕ) → unwrap_or (option_or (option_or None told) earlier) other
        ≡ unwrap_or told (unwrap_or earlier other)
    go None earlier = refl
    go (Some x) earlier = refl

pub counts_more : (before : List Item) (item : Item)
    → summary_item_counts (before ++ item ∷ []) ≡ summary_counts_after_item (summary_item_counts before) item
unfolding journal_current_mark journal_retired_mark
counts_more before item = rw (
  count_more is_machine_packet_entry before item,
  count_more summary_counts_closed before item,
  count_more summary_counts_left before item,
  count_more summary_counts_dropped before item,
  count_more summary_counts_lost before item,
  count_more summary_counts_stuck before item,
  count_more summary_counts_entered before item,
  count_more summary_counts_cached before item,
  count_more summary_counts_sent before item,
  told_more machine_item_gives_current before item 1,
  told_more machine_item_gives_retired before item 0,
) refl

pub counts_start : summary_item_counts [] ≡ record {
  packets = 0;
  closed = 0;
  delivered = 0;
  dropped = 0;
  lost = 0;
  stuck = 0;
  travelling = 0;
  cached = 0;
  messages = 0;
  current = 1;
  retired = 0;
}
unfolding journal_current_mark journal_retired_mark
counts_start = refl
