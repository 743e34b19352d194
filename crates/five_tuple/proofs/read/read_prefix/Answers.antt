use Rattle.std.proofs.Common.{rules}
use Rattle.five_tuple.specs.Exports.{address_prefix_of}
use Rattle.five_tuple.proofs.HeaderPartReadings.{block_reads}
use Rattle.five_tuple.proofs.read.read_prefix.Goals as goal

pub returns-in_err-len-in-Some-clause-value : goal.returns-in_err-len-in-Some-clause-value
unfolding address_prefix_of
returns-in_err-len-in-Some-clause-value c =
    let e = block_reads c.args.text.now c.in-Some.block.now c.in-Some.len.now c.in-Some.ensures in
    search rules

pub returns-in_ok-len-in-Some-clause-value : goal.returns-in_ok-len-in-Some-clause-value
unfolding address_prefix_of
returns-in_ok-len-in-Some-clause-value c =
    let e = block_reads c.args.text.now c.in-Some.block.now c.in-Some.len.now c.in-Some.ensures in
    search rules
