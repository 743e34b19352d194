-- Whether a step may begin after the journal, by the count of the messages that were sent.
use Rattle.std.proofs.Common.{◌<◌, ◌≡◌, ◌≤◌, Err, IsErrAnd, IsErrOf, List, Ok, Result, arith, length}
use Rattle.update_machine.specs.Exports.{Failure, MachineJournalHasRoom, IsMachineJournalFull, Item, NoMemory, Setting}
use Rattle.update_machine.specs.declared.full.TheConstants.{FULL_AT}
use Rattle.world.specs.Exports.{no_world_step}
use Rattle.world.specs.declared.error.Full.{Full}
use Rattle.refinement.specs.Exports.{RefinedNetworkState, RefineJournal}

module _ {setting : Setting} {journal : List Item} {state : RefinedNetworkState}
    (refines : RefineJournal setting journal state) where
  pub is_full : FULL_AT ≤ length state.posts → IsMachineJournalFull journal
  is_full many = omega (arith, refines.bag.many, many)

  pub has_room : length state.posts < FULL_AT → MachineJournalHasRoom journal
  has_room few = omega (arith, refines.bag.many, few)

-- out of memory is another error
pub not_full : {T : Type 0} (r : Result T (Failure Full)) → IsErrAnd r (λ e. e ≡ NoMemory)
    → IsErrOf r no_world_step → ⊥
not_full (Ok x) none full = absurd cc
not_full (Err e) none full = absurd cc
