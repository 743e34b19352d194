-- Ten wrong journals.
use Rattle.std.specs.Prelude.{[], ◌++◌, ◌∷◌, List, Some}
use Rattle.failover.specs.Exports.{no_failover_links}
use Rattle.update_machine.specs.Exports.{Drop, Exit, Item, NoRoute, Out, Packet, Update}
use Rattle.journal.specs.declared.item.Item.TheVariants as item
use Rattle.wrong_journals.specs.Office.{wrong_journal_allowed, wrong_journal_denied, wrong_journal_gets, wrong_journals_in_at_a, wrong_journals_behind_update}

-- ---- decisions

-- a packet that row 200 drops is let out by row 100
abbrev pub wrong_journal_another_row : List Item
wrong_journal_another_row = wrong_journals_in_at_a wrong_journal_denied ++ wrong_journal_gets 1 (Out 2) ∷ []

-- a packet is decided by version 1, which was retired before it entered
abbrev pub wrong_journal_retired_version : List Item
wrong_journal_retired_version =
    item.Row 1 (Update 2) ∷ item.Submitted 2 2 ∷ item.Retired 1 ∷ item.Row 2 (Packet 0 wrong_journal_allowed)
    ∷ item.Entered 1 0 wrong_journal_allowed ∷ wrong_journal_gets 1 (Out 2) ∷ []

-- a packet is decided by version 2, which was never submitted
abbrev pub wrong_journal_unknown_version : List Item
wrong_journal_unknown_version = wrong_journals_in_at_a wrong_journal_allowed ++ wrong_journal_gets 2 Drop ∷ []

-- a packet is decided by version 1, and then by version 2
abbrev pub wrong_journal_decided_twice : List Item
wrong_journal_decided_twice = wrong_journals_behind_update ++ wrong_journal_gets 1 (Out 2) ∷ wrong_journal_gets 2 Drop ∷ []

-- a packet gets the rule of version 2, but the action that version 1 has there
abbrev pub wrong_journal_half_and_half : List Item
wrong_journal_half_and_half = wrong_journals_behind_update ++ wrong_journal_gets 2 (Out 2) ∷ []

-- ---- ends

-- a packet that is decided to leave by port 2 leaves by port 1
abbrev pub wrong_journal_other_port : List Item
wrong_journal_other_port =
    wrong_journals_in_at_a wrong_journal_allowed ++ wrong_journal_gets 1 (Out 2)
    ∷ item.Left 1 1 (record { packet = 1; header = wrong_journal_allowed; version = 1; rule = Some 100 }) ∷ []

-- a packet is dropped that no version decided
abbrev pub wrong_journal_dropped_undecided : List Item
wrong_journal_dropped_undecided = wrong_journals_in_at_a wrong_journal_allowed ++ item.Dropped 1 ∷ []

-- a packet is lost, without a row that loses it and without a crash
abbrev pub wrong_journal_lost_by_nothing : List Item
wrong_journal_lost_by_nothing = wrong_journals_in_at_a wrong_journal_allowed ++ item.Lost 1 ∷ []

-- a packet that is decided to leave by port 2 of b is stuck at a, which knows the link to b
abbrev pub wrong_journal_stuck_beside_route : List Item
wrong_journal_stuck_beside_route =
    wrong_journals_in_at_a wrong_journal_allowed ++ wrong_journal_gets 1 (Out 2) ∷ item.Stuck 1 0 NoRoute (Exit 2) no_failover_links ∷ []

-- ---- entries

-- a packet enters that no row of the schedule has
abbrev pub wrong_journal_entered_unasked : List Item
wrong_journal_entered_unasked = item.Entered 1 0 wrong_journal_allowed ∷ []
