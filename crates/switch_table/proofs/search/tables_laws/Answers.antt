use Rattle.switch_table.proofs.SwitchTableLemmas.{auth_decides, tables_are_sound, tables_lead, tables_planned}
use Rattle.switch_table.proofs.search.tables_laws.Goals as goal

pub returns : goal.returns
returns c = record {
  decided = auth_decides;
  sound = tables_are_sound;
  leads = tables_lead;
  planned = tables_planned;
}
