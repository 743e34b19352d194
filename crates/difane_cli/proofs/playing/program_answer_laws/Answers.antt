use Rattle.difane_cli.proofs.playing.program_answer_laws.Goals as goal

pub returns : goal.returns
returns c = record {
  entered = c.packet_rows_are_entered.ensures;
  quiet = c.quiet_forwarding_comes_to_rest.ensures;
  works = c.plays_keep_working.ensures;
  texts = c.texts_are_good.ensures;
  flows = c.flow_laws.ensures;
}
