-- Items as their types have them, and the law of how long their lines are.
use Rattle.std.specs.Prelude.{[], ◌++◌, ◌∷◌, ◌≤◌, List, length, ℕ, ⊤}
use Rattle.ctrl_msg.specs.declared.message.Body.{Body}
use Rattle.ctrl_msg.specs.declared.message.Body.TheVariants.{Install, OpenAt, Stamp, Collect, CacheRule, Advertise, Hello, Installed, Stamped}
use Rattle.five_tuple.specs.Exports.{IsHeader}
use Rattle.net_file.specs.Exports.{IsNet}
use Rattle.net_file.specs.declared.net.Net.{Net}
use Rattle.policy_rules.specs.declared.packet.How.{How}
use Rattle.policy_rules.specs.declared.packet.How.TheVariants.{Cached, Authority}
use Rattle.journal.specs.declared.item.Item.{Item}
use Rattle.journal.specs.declared.item.Item.TheVariants as item
use Rattle.journal_text.specs.Lines.{journal_item_line}
use Rattle.lines.specs.Sizes.{IsPrintedLineAction, IsNumberInPrintedLine, IsPrintedLineRule}
use Rattle.steps.specs.declared.step.Step.{Step}
use Rattle.steps.specs.declared.step.Step.TheVariants.{Packet, Hop, Lose, Deliver, Forget, Expire, Update}

-- ---- what an item's type has: numbers of 32 bits, and routes that visit no switch twice

abbrev pub IsJournalTextRoute : List ℕ → Type 0
IsJournalTextRoute route = length route ≤ 64

abbrev pub IsJournalTextHow : How → Type 0
IsJournalTextHow (Cached message) = IsNumberInPrintedLine message
IsJournalTextHow (Authority switch partition) = IsNumberInPrintedLine partition

-- switches are printed by their names, so nothing is required of their numbers
abbrev pub IsJournalTextStep : Step → Type 0
IsJournalTextStep (Packet switch header) = IsHeader header
IsJournalTextStep (Hop packet) = IsNumberInPrintedLine packet
IsJournalTextStep (Lose packet) = IsNumberInPrintedLine packet
IsJournalTextStep (Deliver message) = IsNumberInPrintedLine message
IsJournalTextStep (Forget message) = IsNumberInPrintedLine message
IsJournalTextStep (Expire switch place) = IsNumberInPrintedLine place
IsJournalTextStep (Update file) = IsNumberInPrintedLine file
IsJournalTextStep _ = ⊤

abbrev pub IsJournalTextBody : Body → Type 0
IsJournalTextBody (Install boot tables) = IsNumberInPrintedLine boot × IsNumberInPrintedLine tables.version
IsJournalTextBody (OpenAt boot version) = IsNumberInPrintedLine boot × IsNumberInPrintedLine version
IsJournalTextBody (Stamp boot version touched) = IsNumberInPrintedLine boot × IsNumberInPrintedLine version
IsJournalTextBody (Collect boot version) = IsNumberInPrintedLine boot × IsNumberInPrintedLine version
IsJournalTextBody (CacheRule version word rule action) = IsNumberInPrintedLine version × IsPrintedLineRule rule × IsPrintedLineAction action
IsJournalTextBody (Advertise advert) = IsNumberInPrintedLine advert.boot × IsNumberInPrintedLine advert.seq
IsJournalTextBody (Hello switch boot) = IsNumberInPrintedLine boot
IsJournalTextBody (Installed switch boot version) = IsNumberInPrintedLine boot × IsNumberInPrintedLine version
IsJournalTextBody (Stamped switch boot version) = IsNumberInPrintedLine boot × IsNumberInPrintedLine version

abbrev pub IsJournalTextItem : Item → Type 0
IsJournalTextItem (item.Row row step) = IsNumberInPrintedLine row × IsJournalTextStep step
IsJournalTextItem (item.Entered packet switch header) = IsNumberInPrintedLine packet
IsJournalTextItem (item.Closed packet switch) = IsNumberInPrintedLine packet
IsJournalTextItem (item.Seeking packet version partition route) =
    IsNumberInPrintedLine packet × IsNumberInPrintedLine version × IsNumberInPrintedLine partition × IsJournalTextRoute route
IsJournalTextItem (item.Exiting packet route) = IsNumberInPrintedLine packet × IsJournalTextRoute route
IsJournalTextItem (item.Hopped packet switch) = IsNumberInPrintedLine packet
IsJournalTextItem (item.FoundDown packet one two) = IsNumberInPrintedLine packet
IsJournalTextItem (item.Rerouted packet route) = IsNumberInPrintedLine packet × IsJournalTextRoute route
IsJournalTextItem (item.Decided packet version rule action how) =
    IsNumberInPrintedLine packet × IsNumberInPrintedLine version × IsPrintedLineRule rule × IsPrintedLineAction action × IsJournalTextHow how
IsJournalTextItem (item.Left packet port leaving) = IsNumberInPrintedLine packet × IsNumberInPrintedLine port
IsJournalTextItem (item.Dropped packet) = IsNumberInPrintedLine packet
IsJournalTextItem (item.Lost packet) = IsNumberInPrintedLine packet
IsJournalTextItem (item.Stuck packet switch cause leg down) = IsNumberInPrintedLine packet
IsJournalTextItem (item.Sent number message) = IsNumberInPrintedLine number × IsJournalTextBody message.body
IsJournalTextItem (item.Delivered number) = IsNumberInPrintedLine number
IsJournalTextItem (item.Forgotten number) = IsNumberInPrintedLine number
IsJournalTextItem (item.Expired switch place message) = IsNumberInPrintedLine place × IsNumberInPrintedLine message
IsJournalTextItem (item.Submitted file version) = IsNumberInPrintedLine file × IsNumberInPrintedLine version
IsJournalTextItem (item.Refused file code) = IsNumberInPrintedLine file × IsNumberInPrintedLine code
IsJournalTextItem (item.Current version) = IsNumberInPrintedLine version
IsJournalTextItem (item.Retired version) = IsNumberInPrintedLine version
IsJournalTextItem (item.Booted switch boot) = IsNumberInPrintedLine boot
IsJournalTextItem (item.Opened switch version) = IsNumberInPrintedLine version
IsJournalTextItem _ = ⊤

-- ---- the law

-- with its line feed, an item's line fits in 2,048 bytes
abbrev pub JournalLinesFit : Type 0
JournalLinesFit = (net : Net) (item : Item) → IsNet net → IsJournalTextItem item
    → length (journal_item_line net item ++ 10 ∷ []) ≤ 2048
