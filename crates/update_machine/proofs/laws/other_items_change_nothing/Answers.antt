use Rattle.update_machine.proofs.JournalSilentController.{controller_keeps}
use Rattle.update_machine.proofs.JournalSilentLinks.{known_keeps, links_keep, lookup_stays, message_keeps, messages_keep, packets_keep, policies_keep, step_stays, waited_stays}
use Rattle.update_machine.proofs.JournalSilentSteps.{calls_stay, packet_keeps, switch_keeps}
use Rattle.update_machine.proofs.laws.other_items_change_nothing.Goals as goal

pub returns : goal.returns
returns c = record {
  switch = switch_keeps;
  lookup = lookup_stays;
  calls = calls_stay;
  waiting = waited_stays;
  links = links_keep;
  known = known_keeps;
  packet = packet_keeps;
  packets = packets_keep;
  message = message_keeps;
  messages = messages_keep;
  policies = policies_keep;
  controller = controller_keeps;
  step = step_stays;
}
