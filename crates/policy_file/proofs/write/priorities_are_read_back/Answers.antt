use Rattle.std.proofs.Common.{arith}
use Rattle.policy_file.proofs.write.priorities_are_read_back.Goals as goal

pub returns : goal.returns
returns c = λ priority sound. c.tuple_fields_read_back.ensures.number 4294967295 priority
    (omega (arith, sound)) (omega (arith, sound))
