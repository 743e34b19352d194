use Rattle.std.proofs.Common.{◌∙◌, Some, ap, map, string_bytes, sym, true≢false}
use Rattle.base.proofs.Exports.{IfOk-weaker}
use Rattle.clap.proofs.WalkLemmas.{IfOk-both}
use Rattle.clap.specs.Matches.{found_of}
use Rattle.command_line.specs.Exports.{argument_options_of_kind}
use Rattle.command_line.proofs.CommandLines.{finds_line, line_walked, takes_line}
use Rattle.command_line.proofs.ClapParses.{flag_there, line_is, names_there}
use Rattle.command_line.proofs.read.read_argument_line.Goals as goal

pub clap_line_in-requires : goal.clap_line_in-requires
clap_line_in-requires c =
    let k = c.args.kind in
    let all = map string_bytes c.args.args.now in
    let walked = line_walked k _ c.requires in
    let found = finds_line k _ all c.in_ok-command.ensures walked _ c.in-Ok.ensures.matches in
    record {
      names = names_there (argument_options_of_kind k) (found_of c.in-Ok.matches) walked.line found;
      quiet = (
        walked.line.quiet,
        flag_there (argument_options_of_kind k) (found_of c.in-Ok.matches) walked.line found,
      );
    }

pub unreachable-requires : goal.unreachable-requires
unreachable-requires c =
    let walked = line_walked c.args.kind _ c.requires in
    let memory = c.in-Err.ensures.passes (takes_line c.args.kind _
    (map string_bytes c.args.args.now) c.in_ok-command.ensures walked) in
    let is = rw (c.kind.ensures, memory) at c.eq.ensures in true≢false (sym is ∙ c.if-eq.false)

pub returns-in-Ok : goal.returns-in-Ok
returns-in-Ok c =
    let k = c.args.kind in
    let all = map string_bytes c.args.args.now in
    let walked = line_walked k _ c.requires in
    let found = finds_line k _ all c.in_ok-command.ensures walked _ c.in-Ok.ensures.matches in
    let e = c.clap_line_in.ensures in
    let is = line_is (argument_options_of_kind k) (found_of c.in-Ok.matches) walked.line found in
    IfOk-weaker c.clap_line_in.result _ _
    (λ read h. walked.is ∙ ap Some (is _ _ _ h.0 h.1.0 h.1.1))
    (IfOk-both _ _ _ e.names (IfOk-both _ _ _ e.net e.quiet))
