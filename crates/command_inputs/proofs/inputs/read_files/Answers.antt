use Rattle.std.proofs.Common.{[], ◌++◌, ◌+◌, ◌==◌, ◌∙◌, ◌∷◌, ◌≡◌, ◌≤◌, All, Bool, Err, Global, IsSome, IsTrue, List, Ok, Vec, ap, arith, drop, get_or, length, length-append, subst, sym, ℕ}
use Rattle.base.proofs.Exports.{All-push, ForSome, length-map}
use Rattle.policy_file.specs.Exports.{policy_file_length, action_names_only_ports}
use Rattle.policy_rules.specs.Exports.{PolicyFileRowsAre, IsSoundPolicyFile}
use Rattle.update_machine.specs.Exports.{PolicyFile}
use Rattle.command_line.specs.Exports.{argument_names_seen}
use Rattle.world.specs.Exports.{world_first_file_policy}
use Rattle.command_inputs.specs.Exports.{CommandInputReadEnds, CommandStatusNamesOneOf, read_file, command_status_of}
use Rattle.command_inputs.specs.declared.status.Stop.TheVariants as stop
use Rattle.command_inputs.proofs.InputCalmReads.{stops_behind, stops_with}
use Rattle.command_inputs.proofs.InputFileReads.{HasRead, at_next, first_behind, is_none, name_there, one_read, reads_at, stops_at}
use Rattle.command_inputs.proofs.InputRefusedNames.{among_there}
use Rattle.command_inputs.proofs.inputs.read_files.Goals as goal

-- a vector counts its elements
counted : (read : Vec PolicyFile Global) → (read.len == 0) ≡ is_none read.items
counted read = ap (λ n. n == 0) read.ok.0

pub returns-in_err-file-clause-read : goal.returns-in_err-file-clause-read
returns-in_err-file-clause-read g c =
    let names = c.args.names.now in
    let old = g.F.Shelf.state c.args.shelf.now in
    let middle = g.F.Shelf.state c.loop-name.shelf in
    let now = g.F.Shelf.state c.read_file.new.shelf in
    let stop = c.in_err-file.field-0.0 in
    let so_far = at_next c.args.ports names c.loop-name.name-index _ _ _ c.loop-name.invariant.read
    c.loop-name-test.true in
    stops_at _ _ _ _ _ (λ (read : Vec PolicyFile Global). read.items) old middle now stop
    c.from_residual.result c.from_residual.ensures.1 so_far
    (subst (λ (is_first : Bool). CommandInputReadEnds middle.files (λ files. read_file is_first c.args.ports
    files (get_or (argument_names_seen names) c.loop-name.name-index [])) (λ (file : PolicyFile). file)
    middle now (Err stop)) (c.is_empty.ensures ∙ counted c.loop-name.read)
    (subst (λ (name : List ℕ). CommandInputReadEnds middle.files (λ files. read_file c.is_empty.result
    c.args.ports files name) (λ (file : PolicyFile). file) middle now (Err stop))
    (name_there names c.loop-name.name-index _ c.loop-name-test.true) c.in_err-file.ensures.read))

pub returns-in_err-file-clause-shelf : goal.returns-in_err-file-clause-shelf
returns-in_err-file-clause-shelf g c =
    let names = c.args.names.now in
    let i = c.loop-name.name-index in
    let name = get_or (argument_names_seen names) i [] in
    let stop = c.in_err-file.field-0.0 in
    let file = c.in_err-file.ensures.shelf in
    let so_far = at_next c.args.ports names i _ _ _ c.loop-name.invariant.read
    c.loop-name-test.true in
    stops_behind (name ∷ []) _ _ _ _ _ stop c.from_residual.result c.from_residual.ensures.1
    (among_there (argument_names_seen names) i []
    (omega (arith, length-map names (λ n. n.now), c.loop-name-test.true)))
    (reads_at _ _ _ _ _ _ _ _ so_far file.after) so_far.after c.loop-name.invariant.calm file.after
    file.calm
    (subst (λ (name : List ℕ). CommandStatusNamesOneOf (name ∷ []) (command_status_of stop))
    (name_there names i _ c.loop-name-test.true) file.stops)

pub returns-in_err-push-clause-shelf : goal.returns-in_err-push-clause-shelf
returns-in_err-push-clause-shelf g c = let file = c.in_ok-file.ensures.shelf in
    stops_with [] _ _ _ _ stop.NoMemory c.from_residual-in_err-push.result
    c.from_residual-in_err-push.ensures.1 (λ name is. absurd is)
    (reads_at _ _ _ _ _ _ _ _ (at_next c.args.ports c.args.names.now c.loop-name.name-index _ _ _
    c.loop-name.invariant.read c.loop-name-test.true) file.after)
    (λ may. file.calm ∙ c.loop-name.invariant.calm) tt

pub loop-name-preserved : goal.loop-name-preserved
loop-name-preserved g c =
    let names = c.args.names.now in
    let so_far = at_next c.args.ports names c.loop-name.name-index _ _ _ c.loop-name.invariant.read
    c.loop-name-test.true in
    let known = (g.F.Shelf.state c.loop-name.shelf).files in
    let before = c.loop-name.read.items in
    let file = c.in_ok-file.file in
    let pushed : c.push.new.self.items ≡ before ++ file ∷ [] = c.in_ok-push.ensures.items in
    let HasOwn : PolicyFile → Type 0 = PolicyFileRowsAre (λ row. IsTrue (action_names_only_ports c.args.ports row.action)) in
    let IsShort : PolicyFile → Type 0 = λ (file : PolicyFile). policy_file_length file ≤ 2000 in
    let name = get_or (argument_names_seen names) c.loop-name.name-index [] in
    let is_first : c.is_empty.result ≡ is_none before =
    c.is_empty.ensures ∙ counted c.loop-name.read in
    let read : ForSome known
    (λ files. read_file (is_none before) c.args.ports files name ≡ Ok file) =
    subst (λ (b : Bool). ForSome known (λ files. read_file b c.args.ports files name ≡ Ok file))
    is_first (subst (λ (name : List ℕ). ForSome known
    (λ files. read_file c.is_empty.result c.args.ports files name ≡ Ok file))
    (name_there names c.loop-name.name-index _ c.loop-name-test.true) c.in_ok-file.ensures.read) in
    record {
      read = subst (λ (own : List PolicyFile). HasRead c.args.ports (argument_names_seen names)
          (drop (c.loop-name.name-index + 1) (argument_names_seen names)) own
          (g.F.Shelf.state c.args.shelf.now) (g.F.Shelf.state c.read_file.new.shelf)) (sym pushed)
          (one_read _ _ _ _ before file _ _ _ so_far read c.in_ok-file.ensures.shelf.after);
      many = omega (
        arith,
        ap length pushed,
        length-append before (file ∷ []),
        c.loop-name.invariant.many,
      );
      first = λ some. subst (λ (own : List PolicyFile). IsSome (world_first_file_policy own)) (sym pushed)
          (first_behind before file c.loop-name.name-index c.is_empty.result
          c.loop-name.invariant.many is_first c.loop-name.invariant.first
          c.in_ok-file.ensures.whole);
      own_ports = subst (All HasOwn) (sym pushed) (All-push HasOwn before file
          c.loop-name.invariant.own_ports c.in_ok-file.ensures.own_ports);
      sound = subst (All IsSoundPolicyFile) (sym pushed)
          (All-push IsSoundPolicyFile before file c.loop-name.invariant.sound c.in_ok-file.ensures.sound);
      few = subst (All IsShort) (sym pushed)
          (All-push IsShort before file c.loop-name.invariant.few c.in_ok-file.ensures.few);
      calm = c.in_ok-file.ensures.shelf.calm ∙ c.loop-name.invariant.calm;
    }
