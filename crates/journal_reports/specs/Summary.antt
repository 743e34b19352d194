-- What became of the packets of a play, what was sent in it, and which versions it ended with.
use Rattle.std.specs.Prelude.{[], if◌then◌else◌, ◌++◌, ◌+◌, ◌-◌, ◌<◌, ◌^◌, ◌∷◌, Bool, List, None, Option, Some, codes, decimal, false, true, unwrap_or, ℕ}
use Rattle.update_machine.specs.Exports.{How, Item, machine_count_of, journal_current_mark, machine_item_gives_current, machine_item_gives_retired, is_machine_packet_entry, journal_retired_mark}
use Rattle.journal.specs.declared.item.Item.TheVariants as item
use Rattle.policy_rules.specs.declared.packet.How.TheVariants as how
use Rattle.journal_reports.specs.declared.summary.Summary.{Summary}

-- ---- which items are counted

abbrev pub summary_counts_entered : Item → Bool
summary_counts_entered (item.Entered packet switch header) = true
summary_counts_entered _ = false

abbrev pub summary_counts_closed : Item → Bool
summary_counts_closed (item.Closed packet switch) = true
summary_counts_closed _ = false

abbrev pub summary_counts_left : Item → Bool
summary_counts_left (item.Left packet port leaving) = true
summary_counts_left _ = false

abbrev pub summary_counts_dropped : Item → Bool
summary_counts_dropped (item.Dropped packet) = true
summary_counts_dropped _ = false

abbrev pub summary_counts_lost : Item → Bool
summary_counts_lost (item.Lost packet) = true
summary_counts_lost _ = false

abbrev pub summary_counts_stuck : Item → Bool
summary_counts_stuck (item.Stuck packet switch cause leg down) = true
summary_counts_stuck _ = false

abbrev pub is_how_cached_in_summary : How → Bool
is_how_cached_in_summary (how.Cached message) = true
is_how_cached_in_summary _ = false

-- a decision by a cached rule
abbrev pub summary_counts_cached : Item → Bool
summary_counts_cached (item.Decided packet version rule action how) = is_how_cached_in_summary how
summary_counts_cached _ = false

abbrev pub summary_counts_sent : Item → Bool
summary_counts_sent (item.Sent number message) = true
summary_counts_sent _ = false

-- ---- the summary

-- the number of items of each kind, and the marks at the end; all that entered count as travelling
abbrev pub summary_item_counts : List Item → Summary
summary_item_counts journal = record {
  packets = machine_count_of is_machine_packet_entry journal;
  closed = machine_count_of summary_counts_closed journal;
  delivered = machine_count_of summary_counts_left journal;
  dropped = machine_count_of summary_counts_dropped journal;
  lost = machine_count_of summary_counts_lost journal;
  stuck = machine_count_of summary_counts_stuck journal;
  travelling = machine_count_of summary_counts_entered journal;
  cached = machine_count_of summary_counts_cached journal;
  messages = machine_count_of summary_counts_sent journal;
  current = journal_current_mark journal;
  retired = journal_retired_mark journal;
}

-- a packet that entered and neither left, nor was dropped or lost, nor is stuck, still travels
abbrev pub summary_with_travelling : Summary → Summary
summary_with_travelling s = record s { travelling = s.travelling - (s.delivered + s.dropped + s.lost + s.stuck) }

abbrev pub summary_of : List Item → Summary
summary_of journal = summary_with_travelling (summary_item_counts journal)

-- ---- one more item

abbrev pub summary_one_more : Bool → ℕ → ℕ
summary_one_more counts n = if counts then n + 1 else n

abbrev pub summary_counts_after_item : Summary → Item → Summary
summary_counts_after_item s item = record {
  packets = summary_one_more (is_machine_packet_entry item) s.packets;
  closed = summary_one_more (summary_counts_closed item) s.closed;
  delivered = summary_one_more (summary_counts_left item) s.delivered;
  dropped = summary_one_more (summary_counts_dropped item) s.dropped;
  lost = summary_one_more (summary_counts_lost item) s.lost;
  stuck = summary_one_more (summary_counts_stuck item) s.stuck;
  travelling = summary_one_more (summary_counts_entered item) s.travelling;
  cached = summary_one_more (summary_counts_cached item) s.cached;
  messages = summary_one_more (summary_counts_sent item) s.messages;
  current = unwrap_or (machine_item_gives_current item) s.current;
  retired = unwrap_or (machine_item_gives_retired item) s.retired;
}

-- each count may still rise by one
pub record SummaryCountsHaveRoom (s : Summary) : Type 0 where
  pub packets : s.packets + 1 < 2 ^ 64
  pub closed : s.closed + 1 < 2 ^ 64
  pub delivered : s.delivered + 1 < 2 ^ 64
  pub dropped : s.dropped + 1 < 2 ^ 64
  pub lost : s.lost + 1 < 2 ^ 64
  pub stuck : s.stuck + 1 < 2 ^ 64
  pub travelling : s.travelling + 1 < 2 ^ 64
  pub cached : s.cached + 1 < 2 ^ 64
  pub messages : s.messages + 1 < 2 ^ 64

-- ---- its text

-- a title, a blank, a number and a line feed
abbrev pub summary_count_line : List ℕ → ℕ → List ℕ
summary_count_line title count = title ++ 32 ∷ decimal count ++ 10 ∷ []

abbrev pub summary_text : Summary → List ℕ
summary_text s =
    summary_count_line (codes "packets") s.packets
    ++ summary_count_line (codes "closed") s.closed
    ++ summary_count_line (codes "delivered") s.delivered
    ++ summary_count_line (codes "dropped") s.dropped
    ++ summary_count_line (codes "lost") s.lost
    ++ summary_count_line (codes "stuck") s.stuck
    ++ summary_count_line (codes "travelling") s.travelling
    ++ summary_count_line (codes "cached") s.cached
    ++ summary_count_line (codes "messages") s.messages
    ++ summary_count_line (codes "current") s.current
    ++ summary_count_line (codes "retired") s.retired

-- the eleven counts of the journal; a play that stopped full has none
abbrev pub summary_counts_text : List Item → Option ℕ → List ℕ
summary_counts_text journal None = summary_text (summary_of journal)
summary_counts_text journal (Some row) = []
