-- Right journals: each wrong one differs from the beginning of one of these in one item.
use Rattle.std.specs.Prelude.{[], ◌++◌, ◌∷◌, List, Some, false}
use Rattle.failover.specs.Exports.{no_failover_links}
use Rattle.update_machine.specs.Exports.{Authority, Drop, Exit, Hop, Item, LinkDown, Lose, NoRoute, Out, Packet, Update}
use Rattle.journal.specs.declared.item.Item.TheVariants as item
use Rattle.wrong_journals.specs.Office.{wrong_journal_allowed, wrong_journal_denied, wrong_journal_gets, wrong_journals_in_at_a, wrong_journals_behind_update}

-- the packet that row 200 matches is dropped by it
abbrev pub right_journal_dropped : List Item
right_journal_dropped =
    wrong_journals_in_at_a wrong_journal_denied ++ item.Decided 1 1 (Some 200) Drop (Authority 0 0) ∷ item.Dropped 1 ∷ []

-- a packet that is decided to leave by port 2 moves to b, and leaves there
abbrev pub right_journal_left : List Item
right_journal_left =
    wrong_journals_in_at_a wrong_journal_allowed ++ wrong_journal_gets 1 (Out 2) ∷ item.Exiting 1 (0 ∷ 1 ∷ []) ∷ item.Row 2 (Hop 1)
    ∷ item.Hopped 1 1
    ∷ item.Left 1 2 (record { packet = 1; header = wrong_journal_allowed; version = 1; rule = Some 100 }) ∷ []

-- a packet that enters after version 1 was retired is dropped by version 2
abbrev pub right_journal_updated : List Item
right_journal_updated =
    item.Row 1 (Update 2) ∷ item.Submitted 2 2 ∷ item.Retired 1 ∷ item.Row 2 (Packet 0 wrong_journal_allowed)
    ∷ item.Entered 1 0 wrong_journal_allowed ∷ wrong_journal_gets 2 Drop ∷ item.Dropped 1 ∷ []

-- a packet that enters before version 1 is retired may be decided by it
abbrev pub right_journal_decided : List Item
right_journal_decided = wrong_journals_behind_update ++ wrong_journal_gets 1 (Out 2) ∷ []

-- a packet is lost by its row
abbrev pub right_journal_lost : List Item
right_journal_lost = wrong_journals_in_at_a wrong_journal_allowed ++ item.Row 2 (Lose 1) ∷ item.Lost 1 ∷ []

-- a packet is stuck at a, whose link to b is down
abbrev pub right_journal_stuck : List Item
right_journal_stuck =
    item.Row 1 (LinkDown 0 1) ∷ item.LinkIs 0 1 false ∷ item.Row 2 (Packet 0 wrong_journal_allowed)
    ∷ item.Entered 1 0 wrong_journal_allowed ∷ wrong_journal_gets 1 (Out 2)
    ∷ item.Stuck 1 0 NoRoute (Exit 2) no_failover_links ∷ []
