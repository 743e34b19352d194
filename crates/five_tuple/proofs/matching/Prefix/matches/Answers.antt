use Rattle.std.proofs.Common.{◌-◌}
use Rattle.five_tuple.proofs.HeaderBitFields.{same_high_bits}
use Rattle.five_tuple.proofs.matching.Prefix.matches.Goals as goal

pub returns-else-self-eq0 : goal.returns-else-self-eq0
returns-else-self-eq0 c = rw (← c.self.view_is)
    (same_high_bits c.args.address c.self.inside.address (32 - c.self.inside.len))
