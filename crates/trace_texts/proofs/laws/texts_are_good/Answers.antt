use Rattle.trace_texts.proofs.TraceTextAnswers.{answered_entered, texts_good}
use Rattle.trace_texts.proofs.laws.texts_are_good.Goals as goal

pub returns : goal.returns
returns c = texts_good (record {
  texts = record {
    names = c.switch_name_laws.ensures;
    number = c.tuple_fields_read_back.ensures.number;
    address = c.tuple_fields_read_back.ensures.address;
    proto_number = c.tuple_fields_read_back.ensures.proto_number;
  };
  ports = c.net_port_laws.ensures;
  planned = c.versions_are_planned.ensures;
  entered = answered_entered c.answered_rows_are_entered.ensures c.packet_rows_are_entered.ensures;
  runs = c.answers_are_runs.ensures;
  causes = c.ends_have_causes.ensures;
})
