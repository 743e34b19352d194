use Rattle.switch_core.proofs.SwitchLaws.{stuck_without_route, no_authority_left, own_first, heard_keeps, not_obeyed}
use Rattle.switch_core.proofs.SwitchHeardState.{held_once_installed, held_once_collected, stamp_once_raised, stamp_once_told, database_once_informed}
use Rattle.switch_core.proofs.laws.switch_laws.Goals as goal

pub returns : goal.returns
returns c = record {
  first = own_first;
  stuck = stuck_without_route;
  no_authority = no_authority_left;
  after_message = heard_keeps;
  not_obeyed = not_obeyed;
  after_install = held_once_installed;
  after_collect = held_once_collected;
  after_rise = stamp_once_raised;
  after_stamp = stamp_once_told;
  after_advert = database_once_informed;
}
