use Rattle.std.proofs.Common.{◌≡◌, arith, codes}
use Rattle.std.proofs.lemmas.Result.{IfOk-weaker}
use Rattle.five_tuple.specs.declared.matching.Proto.TheVariants.{Any, Is}
use Rattle.five_tuple.specs.Exports.{proto_text}
use Rattle.five_tuple.proofs.HeaderTextRoundTrip.{proto_back}
use Rattle.five_tuple.proofs.write.write_proto.Goals as goal

pub returns-in-Any-clause-read_back : goal.returns-in-Any-clause-read_back
unfolding proto_text
returns-in-Any-clause-read_back c = IfOk-weaker c.from_slice.result (λ v. v.items ≡ codes "any") _
    (λ v is. rw (is, c.in-Any.is) (proto_back Any tt)) c.from_slice.ensures.items

pub returns-in_ok-to_string-in-Is-clause-read_back : goal.returns-in_ok-to_string-in-Is-clause-read_back
unfolding proto_text
returns-in_ok-to_string-in-Is-clause-read_back c =
    rw (c.into_bytes.ensures.value, c.in_ok-to_string-in-Is.ensures.ok, c.in-Is.is)
    (proto_back (Is c.in-Is.number) (omega arith))
