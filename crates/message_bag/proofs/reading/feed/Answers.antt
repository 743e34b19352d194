use Rattle.message_bag.proofs.reading.feed.Goals as goal

pub unreachable-requires : goal.unreachable-requires
unreachable-requires c =
    c.requires (rw c.in-Err-Refused.field-0-is at c.in-Err-Refused.ensures.refused)
