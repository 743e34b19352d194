use Rattle.std.proofs.Common.{◌∙◌, ◌≡◌, Bool, Global, List, Option, Some, String, Vec, ap, map, option_map, rules, string_bytes, subst, sym}
use Rattle.update_machine.specs.Exports.{Item}
use Rattle.meters.specs.Exports.{SeenMeter}
use Rattle.shelf.specs.Exports.{ShelfFiles, SinkState}
use Rattle.command_line.specs.Exports.{argument_command_seen, command_of_arguments}
use Rattle.difane_cli.specs.Exports.{ProgramOutcome, ProgramMemoryRanOut}
use Rattle.command_line.specs.Commands as grammar
use Rattle.difane_cli.specs.declared.ended.Ended.{Ended}
use Rattle.command_inputs.specs.declared.status.Status.{Status}
use Rattle.command_line.specs.declared.command.Command.{Command}
use Rattle.difane_cli.proofs.top_call.run.Goals as goal

-- the command that was read is that of the arguments
command_is : (command : Command) (found : Option Command) (args owned : List (String Global))
    → found ≡ Some command → option_map argument_command_seen found ≡ command_of_arguments (map string_bytes args)
    → args ≡ owned → Some (argument_command_seen command) ≡ command_of_arguments (map string_bytes owned)
command_is command found args owned is read same = sym (ap (option_map argument_command_seen) is)
    ∙ read ∙ ap (λ (all : List (String Global)). command_of_arguments (map string_bytes all)) same

-- where work ran out of memory, a call that ends so did
ran_out_so : (asked command : Option grammar.Command) (worked ended : List Item)
    (takes_memory : Bool) (before now : SinkState) → asked ≡ command → ended ≡ worked
    → ProgramMemoryRanOut asked takes_memory worked before now → ProgramMemoryRanOut command takes_memory ended before now
ran_out_so asked command worked ended takes_memory before now own same out =
    subst (λ (c : Option grammar.Command). ProgramMemoryRanOut c takes_memory ended before now) own
    (subst (λ (items : List Item). ProgramMemoryRanOut asked takes_memory items before now) (sym same) out)

-- what work came to, a call that ends so comes to
ended_so : {M : Type 0} (seen : M → SeenMeter) (files : Option ShelfFiles)
    (asked command : Option grammar.Command) (takes_memory : Bool) (taken : List SeenMeter)
    (before now : SinkState) (worked ended : Ended M)
    → asked ≡ command → ended.status ≡ worked.status → ended.journal ≡ worked.journal
    → ended.meters ≡ worked.meters → ProgramOutcome asked files takes_memory worked.status worked.journal
    taken (map seen worked.meters.items) before now → ProgramOutcome command files takes_memory
    ended.status ended.journal taken (map seen ended.meters.items) before now
ended_so {M} seen files asked command takes_memory taken before now worked ended own is same stayed outcome =
    let meters = ended.meters in
    subst (λ (c : Option grammar.Command). ProgramOutcome c files takes_memory ended.status ended.journal
    taken (map seen meters.items) before now) own
    (subst (λ (s : Status). ProgramOutcome asked files takes_memory s ended.journal taken
    (map seen meters.items) before now) (sym is) (subst (λ (items : List Item). ProgramOutcome asked files
    takes_memory worked.status items taken (map seen meters.items) before now) (sym same)
    (subst (λ (given : List M). ProgramOutcome asked files takes_memory worked.status worked.journal taken
    (map seen given) before now) (sym (ap (λ (all : Vec M Global). all.items) stayed)) outcome)))

pub returns-clause-outcome : goal.returns-clause-outcome
returns-clause-outcome g c =
    let asked = argument_command_seen c.in-Ok-Some.command in
    let files = (g.F.Shelf.state c.args.shelf.now).files in
    let found : c.in-Ok-Some.field-0 ≡ Some c.in-Ok-Some.command = search rules in
    ended_so _ files (Some asked) _ _ _ _ _ c.work-ended.result c.end-in-Ok.result
    (command_is c.in-Ok-Some.command c.in-Ok-Some.field-0 _ _ found c.in-Ok-Some.ensures.value
    c.deref.ensures.value)
    c.end-in-Ok.ensures.status c.end-in-Ok.ensures.journal c.end-in-Ok.ensures.meters
    (c.work-ended.ensures.outcome asked files c.in-Ok.ensures.asked c.in-Ok.ensures.read)

pub returns-clause-no_memory : goal.returns-clause-no_memory
returns-clause-no_memory g c = λ is. let asked = argument_command_seen c.in-Ok-Some.command in
    let found : c.in-Ok-Some.field-0 ≡ Some c.in-Ok-Some.command = search rules in
    ran_out_so (Some asked) _ _ _ _ _ _
    (command_is c.in-Ok-Some.command c.in-Ok-Some.field-0 _ _ found c.in-Ok-Some.ensures.value
    c.deref.ensures.value)
    c.end-in-Ok.ensures.journal
    (c.work-ended.ensures.no_memory asked c.in-Ok.ensures.asked
    (sym c.end-in-Ok.ensures.status ∙ is))
