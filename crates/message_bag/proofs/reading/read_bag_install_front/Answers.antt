use Rattle.message_bag.proofs.reading.read_bag_install_front.Goals as goal

pub unreachable-requires : goal.unreachable-requires
unreachable-requires c =
    (rw c.in-Err-Refused.field-0-is at c.in-Err-Refused.ensures.malformed) c.requires.0 c.requires.1 c.requires.2
