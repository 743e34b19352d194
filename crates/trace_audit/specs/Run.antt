-- The moves that the lines of a trace state, as items of a journal.
use Rattle.std.specs.Prelude.{[], ◌++◌, ◌∷◌, ◌≡◌, List, ℕ}
use Rattle.update_machine.specs.Exports.{Cause, Dropped, Header, Hit, How, IsMachineRun, Item, Leaving, LeftBy, Leg, Lost, PolicyFile, Setting, Stuck}
use Rattle.journal.specs.declared.item.Item.TheVariants as item
use Rattle.trace_audit.specs.Decided.{IsTraceWaiting, all_trace_told}
use Rattle.trace_audit.specs.Reading.{IsAuditDecisionPrinted, TraceLine}
use Rattle.trace_audit.specs.Told.{AuditTold}
use Rattle.trace_audit.specs.Told as told

-- the items of a line after these: the one that it states if it is a move, otherwise none. A packet
-- enters with the header of its row. Fields that the machine doesn't read may be anything.
abbrev pub AreTraceLineItems : List AuditTold → AuditTold → List Item → Type 0
AreTraceLineItems before (told.Entered packet) items = (switch : ℕ) × (header : Header)
    × IsTraceWaiting before header × (items ≡ item.Entered packet switch header ∷ [])
AreTraceLineItems before (told.Submitted file version) items = items ≡ item.Submitted file version ∷ []
AreTraceLineItems before (told.Retired version) items = items ≡ item.Retired version ∷ []
AreTraceLineItems before (told.Decided packet version rule action) items = (hit : Hit) × (how : How)
    × IsAuditDecisionPrinted rule action hit
    × (items ≡ item.Decided packet version hit.rule hit.action how ∷ [])
AreTraceLineItems before (told.Ended packet Dropped) items = items ≡ item.Dropped packet ∷ []
AreTraceLineItems before (told.Ended packet (LeftBy port)) items = (leaving : Leaving)
    × (items ≡ item.Left packet port leaving ∷ [])
AreTraceLineItems before (told.Ended packet Lost) items = items ≡ item.Lost packet ∷ []
AreTraceLineItems before (told.Ended packet Stuck) items = (switch : ℕ) × (cause : Cause) × (leg : Leg)
    × (down : List ℕ) × (items ≡ item.Stuck packet switch cause leg down ∷ [])
AreTraceLineItems before (told.Row header) items = items ≡ []
AreTraceLineItems before told.Nothing items = items ≡ []

-- the items of all lines after these, in order
abbrev pub AreTraceItems : List AuditTold → List AuditTold → List Item → Type 0
AreTraceItems before [] items = items ≡ []
AreTraceItems before (first ∷ more) items = (front rest : List Item) × (items ≡ front ++ rest)
    × AreTraceLineItems before first front × AreTraceItems (before ++ first ∷ []) more rest

-- the moves that the lines state are a run of the machine that has these files of policies and
-- changes, on whatever network
pub record AreAuditedTraceRun (files : List PolicyFile) (lines : List TraceLine) : Type 0 where
  pub moves : List Item
  pub told : AreTraceItems [] (all_trace_told lines) moves
  pub run : (setting : Setting) → setting.files ≡ files → IsMachineRun setting moves
