use Rattle.std.proofs.Common.{◌<◌, ◌∙◌, ◌≡◌, None, Some, ap, arith, get_or, length, subst, sym}
use Rattle.base.proofs.Exports.{get_or_default}
use Rattle.world.specs.Exports.{WorldFilesValue, IsWorldFileCompiled, world_file_made_at}
use Rattle.world.proofs.WorldKeptFiles.{kept_with, made_at_place}
use Rattle.world.proofs.files.Files.compiled.Goals as goal
use Rattle.world.proofs.files.Files.compiled.Goals.{In_ok-compiled}

pub returns-in-Some-clause-compiled : goal.returns-in-Some-clause-compiled
returns-in-Some-clause-compiled c =
    let kept = c.self.inside.compiled.items in
    let place = c.args.place in
    let as_many : length c.self.inside.files.items ≡ length c.args.self.now.files =
    ap (λ (f : WorldFilesValue). length f.files) c.self.view_is in
    let at : get_or kept place None ≡ Some c.in-Some.compiled =
    get_or_default kept place None c.index.result.now
    (omega (arith, c.requires, c.self.invariant.many, as_many)) ∙ sym c.index.ensures ∙ c.in-Some.is in
    subst (λ (f : WorldFilesValue). IsWorldFileCompiled f.net (world_file_made_at f.files f.newest place)
    c.in_ok-clone.field-0) c.self.view_is
    (subst (IsWorldFileCompiled c.self.inside.net (world_file_made_at c.self.inside.files.items c.self.inside.newest.policy
    place)) (sym c.in_ok-clone.ensures.cases) (c.self.invariant.each place c.in-Some.compiled at))

-- the place is that of a file
within : (c : In_ok-compiled) → c.args.place < length c.self.inside.files.items
within c = omega (arith, c.requires, ap (λ (f : WorldFilesValue). length f.files) c.self.view_is)

-- and what was compiled was made of that
made : (c : In_ok-compiled) → IsWorldFileCompiled c.self.inside.net (world_file_made_at c.self.inside.files.items
    c.self.inside.newest.policy c.args.place) c.in_ok-compiled.compiled
made c = made_at_place c.self.inside.net c.self.inside.files.items c.self.inside.newest.policy
    c.policy-newest.result.now c.args.place c.index-file.result.now c.in_ok-compiled.compiled
    (within c) c.index-file.ensures c.policy-newest.ensures c.in_ok-compiled.ensures

pub invariant_of-self : goal.invariant_of-self
invariant_of-self c =
    let at = (goal.at.invariant_of-self c).In_ok-compiled in
    let of_place = world_file_made_at c.self.inside.files.items c.self.inside.newest.policy c.args.place in
    kept_with c.self.inside.net c.self.inside.files.items c.self.inside.newest.policy
    c.self.inside.compiled.items c.args.place c.in_ok-kept.kept c.self.invariant (within at)
    (subst (IsWorldFileCompiled c.self.inside.net of_place) (sym c.in_ok-kept.ensures.cases) (made at))

pub returns-clause-compiled : goal.returns-clause-compiled
returns-clause-compiled c = subst (λ (f : WorldFilesValue). IsWorldFileCompiled f.net
    (world_file_made_at f.files f.newest c.args.place) c.in_ok-compiled.compiled) c.self.view_is
    (made (goal.at.returns-clause-compiled c).In_ok-compiled)
