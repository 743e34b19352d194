use Rattle.wire.proofs.assembler.Assembler.feed.Goals as goal

pub returns-clause-refused : goal.returns-clause-refused
returns-clause-refused c = rw c.self.view_is at c.feed.ensures.refused

pub returns-clause-taken : goal.returns-clause-taken
returns-clause-taken c = rw c.self.view_is at c.feed.ensures.taken
