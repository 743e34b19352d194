use Rattle.std.proofs.Common.{◌∙◌, inl, inr, sym}
use Rattle.base.proofs.Exports.{cases_lt}
use Rattle.net_file.proofs.NetFileRowPlaces.{no_owner}
use Rattle.net_file.proofs.net.Net.ports.Goals as goal

pub returns : goal.returns
returns c = λ port. elim (cases_lt port 64) [
  | inl small ↦ rw (← c.items.ensures) (c.net_port_owners.ensures.owners port small)
  | inr past ↦ c.net_port_owners.ensures.past port past
      ∙ sym (no_owner c.args.self.now.switches port c.requires.switches past)
]
