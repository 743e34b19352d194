use Rattle.five_tuple.proofs.PortCoverBlocks.{is_cover_of, greedy, only}
use Rattle.five_tuple.proofs.port_blocks.tuple_port_cover_laws.Goals as goal

pub returns : goal.returns
returns c = record { cover = is_cover_of; greedy = greedy; only = only }
