use Rattle.five_tuple.proofs.HeaderTextsPlain.{plain_number, plain_address, plain_prefix, plain_range, plain_proto_number, plain_proto}
use Rattle.five_tuple.proofs.write.tuple_fields_print_plain.Goals as goal

pub returns : goal.returns
returns c = record {
  number = plain_number;
  address = plain_address;
  prefix = plain_prefix;
  range = plain_range;
  proto_number = plain_proto_number;
  proto = plain_proto;
}
