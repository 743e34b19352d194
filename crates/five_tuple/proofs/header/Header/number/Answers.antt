use Rattle.std.proofs.Common.{arith}
use Rattle.five_tuple.proofs.HeaderBitFields.{or_of_fields, header_numbered-number_of}
use Rattle.five_tuple.proofs.header.Header.number.Goals as goal

pub returns-clause-number : goal.returns-clause-number
returns-clause-number c =
    rw (or_of_fields c.from.result c.from-2.result c.from-3.result c.from-4.result c.from-5.result
    (omega arith) (omega arith) (omega arith) (omega arith) (omega arith)) (omega arith)

pub returns-clause-bound : goal.returns-clause-bound
returns-clause-bound c =
    rw (or_of_fields c.from.result c.from-2.result c.from-3.result c.from-4.result c.from-5.result
    (omega arith) (omega arith) (omega arith) (omega arith) (omega arith)) (omega arith)

pub returns-clause-back : goal.returns-clause-back
returns-clause-back c = header_numbered-number_of c.args.self.now _ (omega arith) (omega arith)
    (omega arith) (omega arith) (omega arith) (returns-clause-number c)
