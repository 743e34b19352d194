-- Runs of the machine, computed.
use Rattle.std.proofs.Common.{◌≡◌, arith, refl}
use Rattle.update_machine.specs.Exports.{Drop, Dropped, IsMachineRun, LeftBy, Lost, Machine, Stuck}
use Rattle.wrong_journals.specs.Exports.{wrong_journal_allowed, right_journal_decided, wrong_journal_denied, right_journal_dropped, wrong_journal_entered_unasked, right_journal_left, wrong_journal_lost_by_nothing, right_journal_lost, wrong_journal_office, wrong_journals_policy, wrong_journals_second_policy, wrong_journal_stuck_beside_route, right_journal_stuck, right_journal_updated}
use Rattle.wrong_journals.proofs.WrongJournalMatches.{by_100, by_200, first_of_denied, second_of_allowed}
use Rattle.wrong_journals.proofs.WrongJournalMoves.{comer, decided, decides, ends, enters, let_out, lets_out}
use Rattle.wrong_journals.proofs.WrongJournalMachine.{is_run_by}

-- a move, and those behind it
by : {move moves : Type 0} → move → moves → move × moves
by first behind = (first, behind)

-- an item that isn't a move, and those behind it
still : {moves : Type 0} {old : Machine} → moves → (old ≡ old) × moves
still behind = (refl, behind)

pub dropped_rightly_is_run : IsMachineRun wrong_journal_office right_journal_dropped
dropped_rightly_is_run = is_run_by wrong_journal_office right_journal_dropped (still (by (enters _ wrong_journal_denied refl)
    (by (decides _ wrong_journal_denied 0 1 wrong_journals_policy by_200 refl (omega arith) refl first_of_denied)
    (by (ends _ (decided wrong_journal_denied 0 by_200) Dropped refl refl refl) tt))))

pub left_rightly_is_run : IsMachineRun wrong_journal_office right_journal_left
left_rightly_is_run =
    is_run_by wrong_journal_office right_journal_left (still (by (enters _ wrong_journal_allowed refl) (by (lets_out _ refl refl)
    (still (still (still (by (ends _ let_out (LeftBy 2) refl refl refl) tt)))))))

pub updated_rightly_is_run : IsMachineRun wrong_journal_office right_journal_updated
updated_rightly_is_run = is_run_by wrong_journal_office right_journal_updated
    (still (by (record { policy = wrong_journals_second_policy; there = refl; newest = refl; after = refl })
    (by (record { rises = omega arith; below_newest = omega arith; after = refl })
    (still (by (enters _ wrong_journal_allowed refl) (by (decides _ wrong_journal_allowed 1 2 wrong_journals_second_policy (by_100 Drop) refl
    (omega arith) refl second_of_allowed)
    (by (ends _ (decided wrong_journal_allowed 1 (by_100 Drop)) Dropped refl refl refl) tt)))))))

pub decided_rightly_is_run : IsMachineRun wrong_journal_office right_journal_decided
decided_rightly_is_run = is_run_by wrong_journal_office right_journal_decided
    (still (by (record { policy = wrong_journals_second_policy; there = refl; newest = refl; after = refl })
    (still (by (enters _ wrong_journal_allowed refl) (by (lets_out _ refl refl) tt)))))

pub lost_rightly_is_run : IsMachineRun wrong_journal_office right_journal_lost
lost_rightly_is_run = is_run_by wrong_journal_office right_journal_lost (still (by (enters _ wrong_journal_allowed refl)
    (still (by (ends _ (comer wrong_journal_allowed 0) Lost refl refl tt) tt))))

pub stuck_rightly_is_run : IsMachineRun wrong_journal_office right_journal_stuck
stuck_rightly_is_run =
    is_run_by wrong_journal_office right_journal_stuck (still (still (still (by (enters _ wrong_journal_allowed refl)
    (by (lets_out _ refl refl) (by (ends _ let_out Stuck refl refl tt) tt))))))

pub lost_by_nothing_is_run : IsMachineRun wrong_journal_office wrong_journal_lost_by_nothing
lost_by_nothing_is_run = is_run_by wrong_journal_office wrong_journal_lost_by_nothing
    (still (by (enters _ wrong_journal_allowed refl) (by (ends _ (comer wrong_journal_allowed 0) Lost refl refl tt) tt)))

pub stuck_beside_a_way_is_run : IsMachineRun wrong_journal_office wrong_journal_stuck_beside_route
stuck_beside_a_way_is_run = is_run_by wrong_journal_office wrong_journal_stuck_beside_route (still (by (enters _ wrong_journal_allowed refl)
    (by (lets_out _ refl refl) (by (ends _ let_out Stuck refl refl tt) tt))))

pub entered_unasked_is_run : IsMachineRun wrong_journal_office wrong_journal_entered_unasked
entered_unasked_is_run = is_run_by wrong_journal_office wrong_journal_entered_unasked (by (enters _ wrong_journal_allowed refl) tt)
