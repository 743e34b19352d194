-- Each line of a journal's text is good, behind those before it: the machine takes what the journal
-- says, and each packet's row is followed by its entry.
use Rattle.std.proofs.Common.{[], ◌++◌, ◌+◌, ◌-◌, ◌<◌, ◌==◌, ◌∙◌, ◌∷◌, ◌≡◌, ◌≤◌, All, Bool, List, None, Option, Some, ap, append_assoc, arith, cond, eqb-true, false, length, length-append, map, refl, slice_get, subst, sym, true, ℕ}
use Rattle.base.proofs.Exports.{All-head, All-tail, result_ok, slice_get_within, sum_by-cons, ⊤}
use Rattle.update_machine.specs.Exports.{HasMachineCause, JournalItemsHaveCauses, Header, Item, Machine, Net, Packet, PolicyFile, Row, MachineRuns, Setting, Step, MachineTakes, machine_count_of, is_machine_packet_entry, is_journal_submission, machine_policy_made_by, journal_next_packet}
use Rattle.net_file.specs.Exports.{IsNet, NetPortLaws}
use Rattle.journal.specs.declared.item.Item.TheVariants as item
use Rattle.journal_text.specs.Lines.{journal_item_line}
use Rattle.packet_laws.specs.Exports.{EachPacketRowEnters, IsPacketEntryOf, PacketLawStepRow, gives_packet_law_step_row, packet_law_step_rows_in}
use Rattle.steps.specs.Exports.{StepSwitchExists, max_events, max_step_number}
use Rattle.update_machine.proofs.Exports.{count_of_append}
use Rattle.update_machine.specs.Machine as machine
use Rattle.trace_audit.specs.Exports.{AuditStateFollows, ReadsAllAuditLines, TraceLine, TraceState, Whole}
use Rattle.trace_texts.proofs.TraceTextItems.{IsReadable, TextLaws, line_told, told_item}

-- what is pending behind an item
abbrev row_pending : Step → Option Header
row_pending (Packet switch header) = Some header
row_pending _ = None

abbrev pending_after : Option Header → Item → Option Header
pending_after pending (item.Row row step) = row_pending step
pending_after pending (item.Entered packet switch header) = None
pending_after pending _ = pending

abbrev at : Machine → Option Header → TraceState
at now pending = record { machine = now; pending = pending }

-- a packet enters with the header that is pending
abbrev IsNext : Option Header → Item → Type 0
IsNext pending (item.Entered packet switch header) = pending ≡ Some header
IsNext pending _ = ⊤

row_follows : (files : List PolicyFile) (old new : Machine) (pending : Option Header) (row : ℕ)
    (step : Step) → new ≡ old
    → AuditStateFollows files (at old pending) (told_item (item.Row row step)) (at new (row_pending step))
row_follows files old new pending row (Packet switch header) e = cc e
row_follows files old new pending row step e = ap (λ m. at m None) e

-- what the machine does is what the line tells; there are at most 64 versions then
item_follows : (setting : Setting) (old new : Machine) (pending : Option Header) (first : Item)
    → MachineTakes setting old first new → IsNext pending first → length new.policies ≤ 64
    → AuditStateFollows setting.files (at old pending) (told_item first) (at new (pending_after pending first))
item_follows setting old new pending (item.Row row step) takes next few =
    row_follows setting.files old new pending row step takes
item_follows setting old new pending (item.Entered packet switch header) takes next few =
    (header, next, takes, refl)
item_follows setting old new pending (item.Submitted file version) takes next few =
    let more : length new.policies ≡ length old.policies + 1 =
    ap (λ (m : Machine). length m.policies) takes.after
    ∙ length-append old.policies (takes.policy ∷ []) in
    (takes, omega (arith, takes.newest, more, few), refl)
item_follows setting old new pending (item.Retired version) takes next few = (takes, refl)
item_follows setting old new pending (item.Decided packet version rule action how) takes next few =
    (record { rule = rule; action = action }, record { of_rule = refl; of_action = refl }, takes, refl)
item_follows setting old new pending (item.Dropped packet) takes next few = (takes, refl)
item_follows setting old new pending (item.Left packet port leaving) takes next few = (takes, refl)
item_follows setting old new pending (item.Lost packet) takes next few = (takes, refl)
item_follows setting old new pending (item.Stuck packet switch cause leg down) takes next few =
    (takes, refl)
item_follows setting old new pending first takes next few = ap (λ m. at m pending) takes

-- ---- what is known before an item

-- a packet that is known has a number that is small enough
abbrev AreSmall : Machine → Type 0
AreSmall now = (i : ℕ) (packet : machine.Packet) → now.packets i ≡ Some packet → i ≤ max_step_number

abbrev EntersSmall : Item → Type 0
EntersSmall (item.Entered packet switch header) = packet ≤ max_step_number
EntersSmall _ = ⊤

put_small : (old new : Machine) (i : ℕ) (packet : machine.Packet)
    → new ≡ machine.machine_with_packet old i packet → i ≤ max_step_number → AreSmall old → AreSmall new
put_small old new i packet after most small j other is =
    by (j == i) refl (sym (ap (λ (m : Machine). m.packets j) after) ∙ is)
  where
    by : (same : Bool) → (j == i) ≡ same
        → cond same (Some packet) (old.packets j) ≡ Some other → j ≤ max_step_number
    by true e f = omega (arith, eqb-true j i e, most)
    by false e f = small j other f

same_small : (old new : Machine) → new.packets ≡ old.packets → AreSmall old → AreSmall new
same_small old new same small j other is =
    small j other (sym (ap (λ (packets : ℕ → Option machine.Packet). packets j) same) ∙ is)

takes_small : (setting : Setting) (old new : Machine) (first : Item) → MachineTakes setting old first new
    → EntersSmall first → AreSmall old → AreSmall new
takes_small setting old new (item.Entered packet switch header) takes most small =
    put_small old new packet _ takes.after most small
takes_small setting old new (item.Submitted file version) takes most small =
    same_small old new (ap (λ (m : Machine). m.packets) takes.after) small
takes_small setting old new (item.Retired version) takes most small =
    same_small old new (ap (λ (m : Machine). m.packets) takes.after) small
takes_small setting old new (item.Decided packet version rule action how) takes most small =
    put_small old new packet _ takes.after (small packet takes.packet takes.entered) small
takes_small setting old new (item.Dropped packet) takes most small =
    put_small old new packet _ takes.after (small packet takes.packet takes.entered) small
takes_small setting old new (item.Left packet port leaving) takes most small =
    put_small old new packet _ takes.after (small packet takes.packet takes.entered) small
takes_small setting old new (item.Lost packet) takes most small =
    put_small old new packet _ takes.after (small packet takes.packet takes.entered) small
takes_small setting old new (item.Stuck packet switch cause leg down) takes most small =
    put_small old new packet _ takes.after (small packet takes.packet takes.entered) small
takes_small setting old new first takes most small =
    same_small old new (ap (λ (m : Machine). m.packets) takes) small

-- the versions that there are, and those that are still to be submitted
abbrev versions_with : Machine → List Item → ℕ
versions_with now items = length now.policies + machine_count_of is_journal_submission items

-- a version more behind a submission, and as many as before behind anything else
module _ (setting : Setting) (old new : Machine) where
  as_many : {after : Machine} → new ≡ after → length new.policies ≡ length after.policies + 0
  as_many {after} e = omega (arith, ap (λ (m : Machine). length m.policies) e)

  grows : (first : Item) → MachineTakes setting old first new
      → length new.policies ≡ length old.policies + cond (is_journal_submission first) 1 0
  grows (item.Submitted file version) takes =
      cc (takes.after, length-append old.policies (takes.policy ∷ []))
  grows (item.Entered packet switch header) takes = as_many takes.after
  grows (item.Retired version) takes = as_many takes.after
  grows (item.Decided packet version rule action how) takes = as_many takes.after
  grows (item.Dropped packet) takes = as_many takes.after
  grows (item.Left packet port leaving) takes = as_many takes.after
  grows (item.Lost packet) takes = as_many takes.after
  grows (item.Stuck packet switch cause leg down) takes = as_many takes.after
  grows first takes = as_many takes

  takes_many : (first : Item) (items : List Item) → MachineTakes setting old first new
      → versions_with new items ≡ versions_with old (first ∷ items)
  takes_many first items takes = omega (arith, grows, sum_by-cons)

-- the row of a step of the network
abbrev pub IsOwnRow : Net → PacketLawStepRow → Type 0
IsOwnRow net asked = IsReadable net (item.Row asked.row asked.step)

pub record Known (setting : Setting) (before : List Item) (now : Machine) (items : List Item)
    : Type 0 where
  pub versions : versions_with now items ≤ 64
  pub small : AreSmall now
  pub few : machine_count_of is_machine_packet_entry before + length (packet_law_step_rows_in items) ≤ max_events
  pub rows : All (IsOwnRow setting.net) (packet_law_step_rows_in items)
  pub causes : JournalItemsHaveCauses (HasMachineCause setting) before items

rows_behind : (net : Net) (rows more : List PacketLawStepRow) → All (IsOwnRow net) (rows ++ more)
    → All (IsOwnRow net) more
rows_behind net [] more all = all
rows_behind net (row ∷ rows) more all =
    rows_behind net rows more (All-tail (IsOwnRow net) row (rows ++ more) all)

known_next : (setting : Setting) (before : List Item) (old new : Machine) (first : Item)
    (items : List Item) → Known setting before old (first ∷ items) → MachineTakes setting old first new
    → EntersSmall first
    → machine_count_of is_machine_packet_entry (before ++ first ∷ []) + length (packet_law_step_rows_in items) ≤ max_events
    → Known setting (before ++ first ∷ []) new items
known_next setting before old new first items known takes most few = record {
  versions = omega (arith, takes_many setting old new first items takes, known.versions);
  small = takes_small setting old new first takes most known.small;
  few = few;
  rows = rows_behind setting.net (gives_packet_law_step_row first) (packet_law_step_rows_in items) known.rows;
  causes = known.causes.1;
}

-- how many packets there are behind one more item
one_more : (before : List Item) (first : Item) (packet : Bool) → is_machine_packet_entry first ≡ packet
    → machine_count_of is_machine_packet_entry (before ++ first ∷ []) ≡ machine_count_of is_machine_packet_entry before + cond packet 1 0
one_more before first packet is = count_of_append is_machine_packet_entry before (first ∷ [])
    ∙ ap (λ n. machine_count_of is_machine_packet_entry before + n) (sum_by-cons (λ x. cond (is_machine_packet_entry x) 1 0) first []
    ∙ omega (arith, ap {B = ℕ} (λ (b : Bool). cond b 1 0) is))

few_next : (before : List Item) (first : Item) (items : List Item) → is_machine_packet_entry first ≡ false
    → machine_count_of is_machine_packet_entry before + length (packet_law_step_rows_in (first ∷ items)) ≤ max_events
    → machine_count_of is_machine_packet_entry (before ++ first ∷ []) + length (packet_law_step_rows_in items) ≤ max_events
few_next before first items none few = omega (
  arith,
  one_more before first false none,
  few,
  length-append (gives_packet_law_step_row first) (packet_law_step_rows_in items),
)

-- ---- what is read of an item

-- the entry of a packet is of a switch of the network
abbrev IsEntryReadable : Net → Item → Type 0
IsEntryReadable net (item.Row row step) = IsReadable net (item.Row row step)
IsEntryReadable net (item.Entered packet switch header) =
    IsReadable net (item.Entered packet switch header)
IsEntryReadable net _ = ⊤

file_there : (files : List PolicyFile) (file : ℕ) (newest : Option (List Row)) (zero : Bool)
    (given : Option PolicyFile) (rows : List Row) → (file == 0) ≡ zero
    → cond zero None (slice_get files (file - 1)) ≡ given
    → result_ok (machine_policy_made_by given newest) ≡ Some rows → file ≤ length files
file_there files file newest true given rows e f g = omega (arith, eqb-true file 0 e)
file_there files file newest false None rows e f g = absurd cc
file_there files file newest false (Some given) rows e f g = omega (arith, slice_get_within)

-- what is an entry behind a packet's row with this header
record IsEntry (net : Net) (header : Header) (entry : Item) : Type 0 where
  next : IsNext (Some header) entry
  small : EntersSmall entry
  packet : is_machine_packet_entry entry ≡ true
  no_row : gives_packet_law_step_row entry ≡ []
  readable : IsEntryReadable net entry

module _ (laws : TextLaws) (ports : NetPortLaws) (setting : Setting) (sound : IsNet setting.net)
    (numbered : length setting.files ≤ max_step_number) where
  readable : (before : List Item) (old new : Machine) (first : Item) → MachineTakes setting old first new
      → HasMachineCause setting before first → AreSmall old → length old.policies ≤ 64
      → IsEntryReadable setting.net first → IsReadable setting.net first
  readable before old new (item.Row row step) takes cause small few is = is
  readable before old new (item.Entered packet switch header) takes cause small few is = is
  readable before old new (item.Submitted file version) takes cause small few is =
      let newest : version ≡ length old.policies + 1 = takes.newest in (
        omega (
          arith,
          numbered,
          file_there setting.files file _ (file == 0) _ takes.policy refl refl takes.there,
        ),
        omega (arith, newest, few),
      )
  readable before old new (item.Retired version) takes cause small few is =
      let below : version < length old.policies = takes.below_newest in omega (arith, below, few)
  readable before old new (item.Decided packet version rule action how) takes cause small few is = (
    small packet takes.packet takes.entered,
    omega (arith, few, slice_get_within old.policies (version - 1) takes.policy takes.submitted),
  )
  readable before old new (item.Left packet port leaving) takes cause small few is = (
    small packet takes.packet takes.entered,
    omega (arith, ports.small setting.net port cause.switch sound cause.has_port),
  )
  readable before old new (item.Dropped packet) takes cause small few is =
      small packet takes.packet takes.entered
  readable before old new (item.Lost packet) takes cause small few is =
      small packet takes.packet takes.entered
  readable before old new (item.Stuck packet switch why leg down) takes cause small few is =
      small packet takes.packet takes.entered
  readable before old new first takes cause small few is = tt

  abbrev line : Item → TraceLine
  line first = Whole (journal_item_line setting.net first)

  -- the line of the next item is good
  line_reads : (before : List Item) (old new : Machine) (pending : Option Header) (first : Item)
      (items : List Item) (rest : List TraceLine) (last : TraceState)
      → Known setting before old (first ∷ items) → MachineTakes setting old first new
      → IsNext pending first → IsEntryReadable setting.net first
      → ReadsAllAuditLines setting.files (at new (pending_after pending first)) rest last
      → ReadsAllAuditLines setting.files (at old pending) (line first ∷ rest) last
  line_reads before old new pending first items rest last known takes next entry reads = (
    at new (pending_after pending first),
    (
      told_item first,
      line_told laws setting.net sound first (readable before old new first takes known.causes.0
          known.small (omega (arith, known.versions)) entry),
      item_follows setting old new pending first takes next
          (omega (arith, known.versions, takes_many setting old new first items takes)),
    ),
    reads,
  )

  -- ---- a packet's row and its entry

  entry_is : (serving : Bool) (i s : ℕ) (header : Header) (entry : Item)
      → IsPacketEntryOf serving i s header entry → i ≤ max_step_number → StepSwitchExists setting.net s
      → IsEntry setting.net header entry
  entry_is serving i s header (item.Entered packet switch came) is most there =
      let number : packet ≡ i = is.0 in record {
        next = ap Some (sym is.2);
        small = omega (arith, number, most);
        packet = refl;
        no_row = refl;
        readable = (omega (arith, number, most), subst (StepSwitchExists setting.net) (sym is.1) there);
      }
  entry_is serving i s header (item.Closed packet switch) is most there =
      record { next = tt; small = tt; packet = refl; no_row = refl; readable = tt }
  entry_is serving i s header entry is most there = absurd is

  next_small : (before : List Item) (n : ℕ) → machine_count_of is_machine_packet_entry before + n ≤ max_events
      → journal_next_packet before ≤ max_step_number
  unfolding journal_next_packet
  next_small before n few = omega (arith, few)

  -- ---- all items, and lines that tell nothing behind them

  pub reads_from : (ends : List TraceLine) → ((state : TraceState) → ReadsAllAuditLines setting.files state ends state)
      → (before : List Item) (old : Machine) (pending : Option Header) (items : List Item)
      (new : Machine) → Known setting before old items → EachPacketRowEnters before items
      → MachineRuns setting old items new
      → (last : TraceState) × ReadsAllAuditLines setting.files (at old pending) (map line items ++ ends) last
  reads_from ends closed before old pending [] new known enters runs =
      (at old pending, closed (at old pending))
  reads_from ends closed before old pending (item.Row row (Packet s header) ∷ []) new known enters
      runs = absurd enters
  reads_from ends closed before old pending (item.Row row (Packet s header) ∷ entry ∷ items) new
      known enters runs =
      let asked = item.Row row (Packet s header) in
      let own : IsReadable setting.net asked = All-head (IsOwnRow setting.net)
      (record { row = row; step = Packet s header }) (packet_law_step_rows_in (entry ∷ items)) known.rows in
      let few : machine_count_of is_machine_packet_entry before + length (packet_law_step_rows_in (asked ∷ entry ∷ items)) ≤ max_events =
      known.few in
      let is : IsEntry setting.net header entry = entry_is _ (journal_next_packet before) s header entry
      enters.0 (next_small before (length (packet_law_step_rows_in (asked ∷ entry ∷ items))) few) own.2 in
      let one = known_next setting before old runs.0 asked (entry ∷ items) known runs.1 tt
      (few_next before asked (entry ∷ items) refl few) in
      let both = known_next setting (before ++ asked ∷ []) runs.0 runs.2.0 entry items one runs.2.1
      is.small (omega (
        arith,
        few,
        one_more before asked false refl,
        one_more (before ++ asked ∷ []) entry true is.packet,
        ap (λ (rows : List PacketLawStepRow). length rows) is.no_row,
        length-append (gives_packet_law_step_row entry) (packet_law_step_rows_in items),
      )) in
      let rest = reads_from ends closed ((before ++ asked ∷ []) ++ entry ∷ []) runs.2.0
      (pending_after (Some header) entry) items new both (subst (λ js. EachPacketRowEnters js items)
      (sym (append_assoc before (asked ∷ []) (entry ∷ []))) enters.1) runs.2.2 in (
        rest.0,
        line_reads before old runs.0 pending asked (entry ∷ items)
            (line entry ∷ (map line items ++ ends)) rest.0 known runs.1 tt own
            (line_reads (before ++ asked ∷ []) runs.0 runs.2.0 (Some header) entry items
            (map line items ++ ends) rest.0 one runs.2.1 is.next is.readable rest.1),
      )
  reads_from ends closed before old pending (item.Entered packet switch header ∷ items) new known
      enters runs = absurd enters
  reads_from ends closed before old pending (item.Closed packet switch ∷ items) new known enters
      runs = absurd enters
  reads_from ends closed before old pending (first ∷ items) new known enters runs =
      let rest = reads_from ends closed (before ++ first ∷ []) runs.0 (pending_after pending first)
      items new (known_next setting before old runs.0 first items known runs.1 tt
      (few_next before first items refl known.few)) enters runs.2 in (
        rest.0,
        line_reads before old runs.0 pending first items (map line items ++ ends) rest.0 known
            runs.1 tt tt rest.1,
      )
