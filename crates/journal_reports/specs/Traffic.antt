-- What is read about each switch and its messages, from the end of a journal backwards.
use Rattle.std.specs.Prelude.{◌&&◌, ◌<◌, ◌↔◌, ◌≡◌, ◌⊎◌, Bool, IsTrue, List, get_or, length, not, true, ℕ, ⊤}
use Rattle.std.specs.List.{list_any}
use Rattle.update_machine.specs.Exports.{IsJournalMessageReplaced, Item, Message, machine_item_begins_boot, machine_message_matters}
use Rattle.journal.specs.declared.item.Item.TheVariants as item
use Rattle.journal_reports.specs.declared.traffic.Traffic.{Traffic}
use Rattle.journal_reports.specs.Judging.{ReportedMessageSaysAsMuch, report_concerned_switch, report_has_mark, is_named_in_report, matters_in_report_status, report_switch_status_in}
use Rattle.journal_reports.specs.Buckets.{IsKeptInReportBucket}

-- the row has the switch's status at the end of the journal, and whether its last items, `after`,
-- begin no boot of the switch. For a message that matters it keeps one that says as much exactly if
-- these items send and deliver one that replaces it
pub record IsReportTraffic (journal after : List Item) (s : ℕ) (row : Traffic) : Type 0 where
  pub status : row.status ≡ report_switch_status_in journal s
  pub in_boot : row.is_in_boot ≡ not (list_any (machine_item_begins_boot s) after)
  pub count : length row.buckets.items ≡ 64
  pub kept : (message : Message) → IsTrue (machine_message_matters journal s message after)
      → IsKeptInReportBucket row.buckets.items message ↔ IsJournalMessageReplaced message after

-- the rows are those of the switches, by their numbers
abbrev pub AreReportTrafficRows : List Item → List Item → List Traffic → Type 0
AreReportTrafficRows journal after rows = (s : ℕ) (d : Traffic) → s < length rows
    → IsReportTraffic journal after s (get_or rows s d)

-- the message matters, was delivered, and says as much as the other one
pub record IsReportTrafficAdded (row : Traffic) (delivered : Bool) (message other : Message) : Type 0 where
  pub matters : IsTrue (matters_in_report_status row.status row.is_in_boot message)
  pub is_delivered : IsTrue delivered
  pub says : ReportedMessageSaysAsMuch message other

-- the item sends such a message, which the row then keeps
abbrev pub ReportTrafficAdds : List Bool → Traffic → Item → Message → Type 0
ReportTrafficAdds marks row (item.Sent number message) other = IsReportTrafficAdded row (report_has_mark marks number) message other
ReportTrafficAdds marks row _ other = ⊥

-- a message that the item sends doesn't matter, or was delivered, or one that says as much is kept
abbrev pub IsReportTrafficMet : List Bool → Traffic → Item → Type 0
IsReportTrafficMet marks row (item.Sent number message) =
    IsTrue (matters_in_report_status row.status row.is_in_boot message)
    → IsTrue (report_has_mark marks number) ⊎ IsKeptInReportBucket row.buckets.items message
IsReportTrafficMet marks row _ = ⊤

-- a switch's row after the item before those that were read, and the result for that item
pub record IsReportTrafficAfter (marks : List Bool) (item : Item) (before after : Traffic) (answer : Bool)
    : Type 0 where
  pub status : after.status ≡ before.status
  pub in_boot : after.is_in_boot
      ≡ (before.is_in_boot && not (machine_item_begins_boot before.status.switch item))
  pub count : length after.buckets.items ≡ length before.buckets.items
  pub kept : length before.buckets.items ≡ 64 → (other : Message)
      → IsKeptInReportBucket after.buckets.items other
      ↔ (IsKeptInReportBucket before.buckets.items other ⊎ ReportTrafficAdds marks before item other)
  pub met : IsTrue answer ↔ IsReportTrafficMet marks before item

-- the item concerns one of the switches
pub record ReportTrafficConcernsOne (rows : List Traffic) (item : Item) : Type 0 where
  pub switch : ℕ
  pub there : switch < length rows
  pub concerned : is_named_in_report switch (report_concerned_switch item) ≡ true
