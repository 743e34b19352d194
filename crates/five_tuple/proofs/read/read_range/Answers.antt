use Rattle.std.proofs.Common.{rules}
use Rattle.five_tuple.specs.Exports.{port_range_of}
use Rattle.five_tuple.proofs.HeaderPartReadings.{range_reads}
use Rattle.five_tuple.proofs.read.read_range.Goals as goal

pub returns-in-Some-clause-value : goal.returns-in-Some-clause-value
unfolding port_range_of
returns-in-Some-clause-value c =
    let e = range_reads c.args.text.now c.in-Some.low.now c.in-Some.high.now c.in-Some.ensures in
    search rules
