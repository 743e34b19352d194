use Rattle.std.proofs.Common.{refl}
use Rattle.update_machine.proofs.JournalSomePlay.{full_by_count, one_play, play_exists, stop_begins, stop_so_far}
use Rattle.update_machine.proofs.laws.plays_are_one.Goals as goal

pub returns : goal.returns
returns c = record {
  one = one_play;
  some = play_exists;
  so_far = stop_so_far;
  begins = stop_begins;
  full = full_by_count;
  constant = refl;
}
