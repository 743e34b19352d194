use Rattle.message_bag.proofs.BagRepeatedMessages.{repeated, repeated_kept}
use Rattle.message_bag.proofs.bag.Bag.repeat.Goals as goal

pub invariant_of-self : goal.invariant_of-self
invariant_of-self c =
    repeated_kept c.self.inside.tables.items c.self.inside.firsts c.repeat.new.self c.args.self.now _
    c.self.view_is c.args.number c.requires.there c.repeat.ensures c.self.invariant

pub returns : goal.returns
returns c = record {
  posted = repeated c.self.inside.tables.items c.self.inside.firsts c.repeat.new.self c.args.self.now
      _ c.self.view_is c.args.number c.repeat.ensures;
}
