use Rattle.std.proofs.Common.{refl}
use Rattle.message_bag.proofs.BagInstallationFrames.{cloned_say, not_alone, out_says}
use Rattle.message_bag.proofs.reading.tables_in_bag_frames.Goals as goal

pub unreachable-requires-in-None-tables_of : goal.unreachable-requires-in-None-tables_of
unreachable-requires-in-None-tables_of c =
    not_alone c.args.frames.now c.in-Some.first.now c.in_ok-message-in-Some.message c.requires
    c.in-Some.ensures.frame c.in_ok-message-in-Some.ensures (c.in-None-tables_of.ensures.none refl)

pub returns : goal.returns
returns c = cloned_say _ c.clone.result c.in-Some-tables_of.tables.now c.args.frames.now
    c.clone.ensures.cases (out_says c.args.frames.now c.in-Some.first.now
    c.in_ok-message-in-Some.message c.in-Some-tables_of.field-0-0 c.in-Some-tables_of.tables.now
    c.in-Some.ensures.frame c.in_ok-message-in-Some.ensures c.in-Some-tables_of.ensures.some)
