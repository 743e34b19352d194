-- What a kind of step owes to the frame that all of them share: its row follows the journal, and it
-- writes the rest.
use Rattle.std.proofs.Common.{[], ◌++◌, ◌+◌, ◌∙◌, ◌∷◌, ◌≡◌, IsErr, List, OnErr, OnOk, Result, Some, ap, arith, refl, rules, subst, sym, ℕ}
use Rattle.base.proofs.Exports.{both_ok, on_err, on_err_weaker, on_ok_failed, on_ok_weaker}
use Rattle.message_bag.specs.Exports.{Post}
use Rattle.controller.specs.Exports.{controller_newest_policy}
use Rattle.update_machine.specs.Exports.{Item, Setting, Step, piece, machine_step_items}
use Rattle.journal.specs.declared.item.Item.TheVariants as item
use Rattle.world.specs.Exports.{WorldBeginsStep, WorldFilesValue, WorldStepGoes, WorldStepHasBegun, WorldFilesHoldNewest, IsWorldReadyForStep, WorldPartsKeepNet, WorldPartsRefineJournal, WorldPlaysStep, world_packets_coming_in, world_setting_in, world_state_in}
use Rattle.refinement.specs.Exports.{RefinedNetworkState, RefineJournal}
use Rattle.world_log.specs.Exports.{IsLogPart}
use Rattle.world.specs.declared.parts.WorldParts.{WorldParts}
use Rattle.refinement.proofs.RefinedSteps.{grown}
use Rattle.world_log.proofs.LogStepWrites.{grown_more, part_none, step_part, step_written}

-- nothing was done to the files and the ports
pub record KeepFiles (old new : WorldParts) : Type 0 where
  pub files : new.files ≡ old.files
  pub ports : new.ports ≡ old.ports

pub files_stay : {old new : WorldParts} → new.files ≡ old.files → new.ports ≡ old.ports
    → KeepFiles old new
files_stay files ports = record { files = files; ports = ports }

-- so the network stays, and the files
pub net_stays : {old new : WorldParts} → new.files ≡ old.files → new.ports ≡ old.ports → WorldPartsKeepNet old new
net_stays files ports = record {
  same_net = ap (λ (f : WorldFilesValue). f.net) files;
  same_files = ap (λ (f : WorldFilesValue). f.files) files;
  same_ports = ports;
}

-- they do, and changes are still applied to the newest policy
pub record Follows (old new : WorldParts) : Type 0 where
  pub net : WorldPartsKeepNet old new
  pub newest : WorldFilesHoldNewest new

-- as where the newest policy is the one from before
pub follows : {before : List Item} {row : ℕ} {step : Step} {old new : WorldParts}
    → WorldBeginsStep before row step old → new.files ≡ old.files → new.ports ≡ old.ports
    → controller_newest_policy new.controller ≡ controller_newest_policy old.controller → Follows old new
follows begins files ports newest = record {
  net = net_stays files ports;
  newest = newest ∙ begins.ready.newest ∙ ap (λ (f : WorldFilesValue). Some f.newest) (sym files);
}

-- the network and the files stayed
as_kept : (old new : WorldParts) → WorldPartsKeepNet old new
    → RefineJournal (world_setting_in old) new.log.journal (world_state_in new) → WorldPartsRefineJournal new
as_kept old new keeps refines = rw (keeps.same_net, keeps.same_files) refines

-- the controller stayed, and which links are up and usable
pub record KeepControl (old new : WorldParts) : Type 0 where
  pub same_controller : new.controller ≡ old.controller
  pub same_links : new.links ≡ old.links
  pub same_near : new.near ≡ old.near

pub plane_stays : {old new : WorldParts} → new.controller ≡ old.controller → new.links ≡ old.links
    → new.near ≡ old.near → KeepControl old new
plane_stays controller links near = record {
  same_controller = controller;
  same_links = links;
  same_near = near;
}

-- so only switches, packets on their way and messages changed
abbrev pub with_posts : WorldParts → WorldParts → List Post → RefinedNetworkState
with_posts old new posts = record (world_state_in old) {
  switches = new.switches.items;
  travelling = new.log.travelling;
  packets = new.packets;
  posts = posts;
}

pub by_posts : (old new : WorldParts) (journal : List Item) → KeepControl old new
    → RefineJournal (world_setting_in old) journal (with_posts old new new.log.bag)
    → RefineJournal (world_setting_in old) journal (world_state_in new)
by_posts old new journal keeps refines =
    rw (keeps.same_controller, keeps.same_links, keeps.same_near) refines

-- no packet enters
pub none_in : (n : ℕ) → n ≡ n + 0
none_in n = omega arith

piece_split : (setting : Setting) (before : List Item) (row : ℕ) (step : Step)
    → piece setting before row step
    ≡ item.Row row step ∷ [] ++ machine_step_items setting before step (before ++ item.Row row step ∷ [])
unfolding piece
piece_split setting before row step = refl

-- the step writes these items behind its row
module _ {T E : Type 0} {r : Result T E} {before : List Item} {row : ℕ} {step : Step}
    {old new : WorldParts} (begins : WorldBeginsStep before row step old) (keeps : Follows old new) where
  pub goes : (items : List Item) → piece (world_setting_in old) before row step
      ≡ item.Row row step ∷ items → OnOk r (new.packets ≡ old.packets + world_packets_coming_in step)
      → OnOk r (new.log.journal ≡ old.log.journal ++ items)
      → OnErr r (IsLogPart old.log.journal items new.log.journal)
      → OnOk r (RefineJournal (world_setting_in old) (before ++ item.Row row step ∷ items) (world_state_in new))
      → WorldStepGoes r before row step old new
  goes items is counted written part refines = record {
    net = keeps.net;
    newest = on_ok_weaker r (λ grown. keeps.newest) written;
    counted = counted;
    written = step_written r before old.log.journal new.log.journal items
        (piece (world_setting_in old) before row step) (item.Row row step) is begins.rowed written;
    refines = both_ok r (λ grown kept. as_kept old new keeps.net (rw (grown_more before
        old.log.journal new.log.journal items (item.Row row step) begins.rowed grown) kept)) written
        refines;
    part = step_part r before old.log.journal new.log.journal items
        (piece (world_setting_in old) before row step) (item.Row row step) is begins.rowed part;
  }

module _ {T E : Type 0} {r : Result T E} {before : List Item} {row : ℕ} {step : Step}
    {old new : WorldParts} (begins : WorldBeginsStep before row step old) (keeps : KeepFiles old new) where
  -- and of the control plane it changes messages alone
  pub goes_quiet : (items : List Item) → KeepControl old new
      → piece (world_setting_in old) before row step ≡ item.Row row step ∷ items
      → OnOk r (new.packets ≡ old.packets + world_packets_coming_in step)
      → OnOk r (new.log.journal ≡ old.log.journal ++ items)
      → OnErr r (IsLogPart old.log.journal items new.log.journal)
      → OnOk r (RefineJournal (world_setting_in old) (before ++ item.Row row step ∷ items)
      (with_posts old new new.log.bag)) → WorldStepGoes r before row step old new
  goes_quiet items control is counted written part refines =
      goes begins (follows begins keeps.files keeps.ports
      (ap controller_newest_policy control.same_controller)) items is counted written part
      (on_ok_weaker r (by_posts old new (before ++ item.Row row step ∷ items) control) refines)

  -- it writes one item, and no packet enters
  pub goes_one : (one : Item) (posts : List Post) → KeepControl old new → new.log.bag ≡ posts
      → new.packets ≡ old.packets + world_packets_coming_in step
      → (piece (world_setting_in old) before row step ≡ item.Row row step ∷ one ∷ [])
      × RefineJournal (world_setting_in old) (grown before row step one) (with_posts old new posts)
      → OnOk r (new.log.journal ≡ old.log.journal ++ one ∷ [])
      → OnErr r (new.log.journal ≡ old.log.journal) → WorldStepGoes r before row step old new
  goes_one one posts control same counted is pushed unchanged = goes_quiet (one ∷ []) control is.0
      (on_ok_weaker r (λ grown. counted) pushed) pushed (on_err_weaker r
      (λ same. part_none old.log.journal (one ∷ []) new.log.journal same) unchanged)
      (on_ok_weaker r (λ grown. rw same is.1) pushed)

module _ {T E : Type 0} {r : Result T E} {before : List Item} {row : ℕ} {step : Step}
    {old new : WorldParts} (keeps : WorldPartsKeepNet old new) where
  -- it gives up when memory runs out, and a part of its items is written
  pub part_goes : IsErr r → IsLogPart before (piece (world_setting_in old) before row step) new.log.journal
      → WorldStepGoes r before row step old new
  part_goes failed part = record {
    net = keeps;
    newest = on_ok_failed _ r failed;
    counted = on_ok_failed _ r failed;
    written = on_ok_failed _ r failed;
    refines = on_ok_failed _ r failed;
    part = on_err r part;
  }

module _ {T E : Type 0} {r : Result T E} {before : List Item} {row : ℕ} {step : Step}
    {old new : WorldParts} (begins : WorldBeginsStep before row step old) (keeps : WorldPartsKeepNet old new) where
  -- behind its row
  pub nothing_goes : IsErr r → new.log.journal ≡ old.log.journal → WorldStepGoes r before row step old new
  nothing_goes failed same = part_goes keeps failed (record {
    written = item.Row row step ∷ [];
    rest = machine_step_items (world_setting_in old) before step (before ++ item.Row row step ∷ []);
    split = piece_split (world_setting_in old) before row step;
    grown = same ∙ begins.rowed;
  })

-- only the journal is another
abbrev pub with_journal : WorldParts → List Item → WorldParts
with_journal parts journal = record parts { log = record parts.log { journal = journal } }

-- nothing happens: of all parts the journal alone changes, which says so
pub goes_nothing : {T E : Type 0} {r : Result T E} {before : List Item} {row : ℕ} {step : Step}
    {old : WorldParts} {journal : List Item} → WorldBeginsStep before row step old → world_packets_coming_in step ≡ 0
    → (piece (world_setting_in old) before row step ≡ item.Row row step ∷ item.Nothing ∷ [])
    × RefineJournal (world_setting_in old) (grown before row step item.Nothing) (world_state_in old)
    → OnOk r (journal ≡ old.log.journal ++ item.Nothing ∷ []) → OnErr r (journal ≡ old.log.journal)
    → WorldStepGoes r before row step old (with_journal old journal)
goes_nothing {old} begins none is pushed unchanged = goes_one begins (files_stay refl refl)
    item.Nothing old.log.bag (plane_stays refl refl refl) refl (omega arith) is pushed unchanged

-- ---- the row is written, and then the rest

ready_behind : (before : List Item) (step : Step) (parts : WorldParts) (journal : List Item)
    → IsWorldReadyForStep before step parts → IsWorldReadyForStep before step (with_journal parts journal)
ready_behind before step parts journal ready = search rules

module _ (row : ℕ) (step kind : Step) (old : WorldParts) (rowed : List Item)
    (ready : IsWorldReadyForStep old.log.journal step old)
    (is : rowed ≡ old.log.journal ++ item.Row row step ∷ []) (kind_is : step ≡ kind) where
  begins_kind : WorldBeginsStep old.log.journal row kind (with_journal old rowed)
  begins_kind = subst (λ (k : Step). WorldBeginsStep old.log.journal row k (with_journal old rowed))
      kind_is (record { ready = ready_behind old.log.journal step old rowed ready; rowed = is })

  -- the method of its kind may take it
  pub begun : WorldStepHasBegun kind (with_journal old rowed)
  begun = record { before = old.log.journal; row = row; begins = begins_kind }

  -- and plays it
  pub played : {T E : Type 0} (r : Result T E) (new : WorldParts)
      → WorldPlaysStep kind r (with_journal old rowed) new → WorldStepGoes r old.log.journal row step old new
  played r new plays = let its = plays old.log.journal row begins_kind in
      subst (λ (k : Step). WorldStepGoes r old.log.journal row k old new) (sym kind_is) (search rules)
