use Rattle.world.proofs.files.compiled_world_file.Goals as goal

pub returns-in-Whole : goal.returns-in-Whole
returns-in-Whole c = rw c.in-Whole.is (rw c.all.ensures at c.compiled_world_policy.ensures)

pub returns-in-Change : goal.returns-in-Change
returns-in-Change c = rw c.in-Change.is c.compiled_world_amendment.ensures
