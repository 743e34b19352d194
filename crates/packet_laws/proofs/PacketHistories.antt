-- What held on the way, by the laws that say it one by one.
use Rattle.std.proofs.Common.{[], ◌++◌, ◌∙◌, ◌∷◌, ◌≡◌, ◌≤◌, List, Option, ap, append-nil, append_assoc, drop, length, refl, subst, suc, sym, take, zero, ℕ, rules}
use Rattle.update_machine.specs.Exports.{AreMachineMarksSettled, JournalBeginsAnswer, Event, HasMachineCause, JournalItemsHaveCauses, IsMachinePlay, IsMachineRun, IsMachineSetting, Item, Setting, MachineStepOfRow, journal_after_steps, most_journal_versions, piece, machine_step_items}
use Rattle.packet_laws.specs.Exports.{BeginPacketLawStep, EndsPacketLawStep, PacketLawsHeldThroughout, PacketLawHoldsBetween, PacketLawsHoldSoFar, ArePacketsKeptBehind, PacketLawsKeepVersionsWhole, PacketsTravel, PacketStrongCause, packet_detour_count, packet_exit_count, packet_route_hops, packet_hops_taken, most_packet_hops, most_packet_routes, most_packet_route_switches, packet_routes_taken, packet_search_count, packet_steps_played}
use Rattle.packet_laws.proofs.PacketsSpared.{IsNoRow}
use Rattle.packet_laws.proofs.PacketsAtRest.{no_rows, play_begins}
use Rattle.control_laws.specs.Exports.{AreControlNetworkEvents, ControlLawHoldsAtEnds, ControlLawHoldsReached}
use Rattle.packet_laws.proofs.PacketPlayExistence.{OfReached}

-- ---- where a step begins behind some items of what steps wrote, or nothing is left, these items
-- are what the first of the steps wrote.

-- what the steps write after the journal
abbrev written : Setting → List Item → List MachineStepOfRow → List Item
written setting before [] = []
written setting before (next ∷ steps) = piece setting before next.row next.step
    ++ written setting (before ++ piece setting before next.row next.step) steps

after_is : (setting : Setting) (before : List Item) (steps : List MachineStepOfRow)
    → journal_after_steps setting before steps ≡ before ++ written setting before steps
after_is setting before [] = sym (append-nil before)
after_is setting before (next ∷ steps) =
    let own : List Item = piece setting before next.row next.step in
    after_is setting (before ++ own) steps
    ∙ append_assoc before own (written setting (before ++ own) steps)

-- ---- one step

no_row_begins : (next : Item) (items : List Item) → IsNoRow next → BeginPacketLawStep (next ∷ items) → ⊥
no_row_begins next items none begins = search rules

-- a step begins, or nothing is left, behind all items of the one list, and some of the other
record Past (own rest : List Item) (n : ℕ) : Type 0 where
  count : ℕ
  taken : take n (own ++ rest) ≡ own ++ take count rest
  begins : BeginPacketLawStep (drop count rest)

past : (before own rest : List Item) (n : ℕ) → JournalItemsHaveCauses (λ js next. IsNoRow next) before own
    → BeginPacketLawStep (drop n (own ++ rest)) → Past own rest n
past before [] rest n none begins = record { count = n; taken = refl; begins = begins }
past before (first ∷ own) rest zero none begins = absurd (no_row_begins first _ none.0 begins)
past before (first ∷ own) rest (suc n) none begins =
    let more : Past own rest n = past (before ++ first ∷ []) own rest n none.1 begins in record {
      count = more.count;
      taken = ap (λ (items : List Item). first ∷ items) more.taken;
      begins = more.begins;
    }

-- ---- all steps

-- the first n items are what so many steps wrote
record Firsts (setting : Setting) (before : List Item) (steps : List MachineStepOfRow) (n : ℕ)
    : Type 0 where
  count : ℕ
  are : before ++ take n (written setting before steps)
      ≡ journal_after_steps setting before (take count steps)

firsts : (setting : Setting) (before : List Item) (steps : List MachineStepOfRow) (n : ℕ)
    → BeginPacketLawStep (drop n (written setting before steps)) → Firsts setting before steps n
unfolding piece
firsts setting before [] zero begins = record { count = 0; are = append-nil before }
firsts setting before [] (suc n) begins = record { count = 0; are = append-nil before }
firsts setting before (next ∷ steps) zero begins = record { count = 0; are = append-nil before }
firsts setting before (next ∷ steps) (suc n) begins =
    let here : List Item = before ++ Item.Row next.row next.step ∷ [] in
    let own : List Item = machine_step_items setting before next.step here in
    let whole : List Item = piece setting before next.row next.step in
    let rest : List Item = written setting (before ++ whole) steps in
    let behind = past here own rest n (no_rows setting before next.row next.step) begins in
    let more = firsts setting (before ++ whole) steps behind.count behind.begins in record {
      count = suc more.count;
      are = cc (behind.taken, append_assoc before whole (take behind.count rest), more.are);
    }

pub ends_at : (setting : Setting) (steps : List MachineStepOfRow) (n : ℕ)
    → EndsPacketLawStep (journal_after_steps setting [] steps) n → (count : ℕ)
    × (take n (journal_after_steps setting [] steps) ≡ journal_after_steps setting [] (take count steps))
ends_at setting steps n ends =
    let is = after_is setting [] steps in
    let found : Firsts setting [] steps n =
    firsts setting [] steps n (subst (λ (js : List Item). BeginPacketLawStep (drop n js)) is ends) in
    (found.count, ap (take n) is ∙ found.are)

-- ---- packet histories

-- the laws of journals that may end within a step
pub record Laws : Type 0 where
  pub run : OfReached (λ setting journal. IsMachineRun setting journal)
  pub causes : OfReached (λ setting journal. JournalItemsHaveCauses (HasMachineCause setting) [] journal)
  pub strong : OfReached (λ setting journal. JournalItemsHaveCauses (PacketStrongCause setting) [] journal)
  pub versions : OfReached PacketLawsKeepVersionsWhole
  pub searches : OfReached (λ setting journal. (i : ℕ) → packet_search_count journal i ≤ most_journal_versions)
  pub exits : OfReached (λ setting journal. (i : ℕ) → packet_exit_count journal i ≤ 1)
  pub detours : OfReached (λ setting journal.
      (i : ℕ) → packet_detour_count journal i ≤ length setting.net.links)
  pub routes : OfReached (λ setting journal. (i : ℕ) → packet_routes_taken journal i ≤ most_packet_routes)
  pub on_route : OfReached (λ setting journal. (i : ℕ) → packet_route_hops journal i ≤ most_packet_route_switches)
  pub hops : OfReached (λ setting journal. (i : ℕ) → packet_hops_taken journal i ≤ most_packet_hops)

-- whatever gives each of the laws gives all
all_so_far : Laws → (setting : Setting) (journal : List Item) → IsMachineSetting setting
    → ((Holds : Setting → List Item → Type 0) → ControlLawHoldsReached Holds → Holds setting journal)
    → PacketLawsHoldSoFar setting journal
all_so_far laws setting journal is give = search rules

pub holds_so_far : Laws → OfReached PacketLawsHoldSoFar
holds_so_far laws = record {
  reached = λ setting journal at is. all_so_far laws setting journal is
      (λ Holds law. law.reached setting journal at);
  within = λ setting journal rest at is. all_so_far laws setting journal is
      (λ Holds law. law.within setting journal rest at);
  answered = λ setting events journal own answers is. all_so_far laws setting journal is
      (λ Holds law. law.answered setting events journal own answers);
  begun = λ setting events journal own begins is. all_so_far laws setting journal is
      (λ Holds law. law.begun setting events journal own begins);
}

-- ---- after steps

abbrev pub OfSteps : (Setting → List Item → Type 0) → Type 0
OfSteps Holds = PacketLawHoldsBetween (λ setting journal. IsMachineSetting setting → Holds setting journal)

pub kept_behind : OfSteps PacketsTravel → ControlLawHoldsAtEnds AreMachineMarksSettled → OfSteps ArePacketsKeptBehind
kept_behind travel settle = record {
  reached = λ setting journal at is. record {
    packets = travel.reached setting journal at is;
    settled = subst (AreMachineMarksSettled setting) (sym at.written) (settle.stepped setting at.steps);
  };
  answered = λ setting events journal own answers is. record {
    packets = travel.answered setting events journal own answers is;
    settled = settle.answered setting events journal answers;
  };
  so_far = λ setting events journal own answers is. record {
    packets = travel.so_far setting events journal own answers is;
    settled = settle.so_far setting events journal answers;
  };
  played = λ setting events journal full own play n is. record {
    packets = travel.played setting events journal full own play n is;
    settled = settle.stepped setting (take n (packet_steps_played setting events journal full play));
  };
}

-- ---- plays

-- the first items of what begins an answer begin it too
fewer_begin : (setting : Setting) (events : List Event) (journal : List Item) (n : ℕ)
    → JournalBeginsAnswer setting events journal → JournalBeginsAnswer setting events (take n journal)
fewer_begin setting events journal n begins =
    let less = fewer n begins.length begins.whole in record {
      whole = begins.whole;
      answers = begins.answers;
      length = less.0;
      written = ap (take n) begins.written ∙ less.1;
    }
  where
    fewer : (n m : ℕ) (items : List Item) → (l : ℕ) × (take n (take m items) ≡ take l items)
    fewer zero m items = (0, refl)
    fewer (suc n) zero items = (0, refl)
    fewer (suc n) (suc m) [] = (0, refl)
    fewer (suc n) (suc m) (first ∷ items) =
        let less = fewer n m items in (suc less.0, ap (λ (js : List Item). first ∷ js) less.1)

written_of : (setting : Setting) (events : List Event) (journal : List Item) (full : Option ℕ)
    → (play : IsMachinePlay setting events journal full)
    → journal ≡ journal_after_steps setting [] (packet_steps_played setting events journal full play)
written_of setting events journal full play = search rules

pub held_on_the_way : OfReached PacketLawsHoldSoFar → OfSteps ArePacketsKeptBehind
    → (setting : Setting) (events : List Event) (journal : List Item) (full : Option ℕ)
    → IsMachineSetting setting → AreControlNetworkEvents setting events → IsMachinePlay setting events journal full
    → PacketLawsHeldThroughout setting journal
held_on_the_way so_far behind setting events journal full is own play =
    let steps : List MachineStepOfRow = packet_steps_played setting events journal full play in
    let written = written_of setting events journal full play in record {
      so_far = λ n. so_far.begun setting events (take n journal) own
          (fewer_begin setting events journal n (play_begins setting events journal full play)) is;
      kept = λ n ends.
          let found = ends_at setting steps n (subst (λ (js : List Item). EndsPacketLawStep js n) written ends) in
          subst (ArePacketsKeptBehind setting) (sym (ap (take n) written ∙ found.1))
          (behind.played setting events journal full own play found.0 is);
    }
