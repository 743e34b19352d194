use Rattle.switch_core.proofs.SwitchHops.{down_is, hop_arrives, hop_ends, hop_moves, hop_same, hop_stands, hop_stays, hop_stuck, hop_turns, hop_usable}
use Rattle.switch_core.proofs.SwitchOnlyAnswers.{one_hop}
use Rattle.switch_core.proofs.laws.switch_core_hop_laws.Goals as goal

pub returns : goal.returns
returns c = record {
  is = λ s near t. record {
    found = down_is near t;
    arrives = hop_arrives s near t;
    moves = hop_moves s near t;
    stuck = hop_stuck s near t;
    turns = hop_turns s near t;
    stands = hop_stands s near t;
    usable = hop_usable s near t;
    stays = hop_stays s near t;
    ends = hop_ends s near t;
    same_packet = hop_same s near t;
  };
  only = one_hop;
}
