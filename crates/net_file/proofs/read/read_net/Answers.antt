use Rattle.std.proofs.Common.{ok_or}
use Rattle.base.proofs.Exports.{IfOk-weaker, err_from_is_err_and}
use Rattle.toml.specs.View.{table_view}
use Rattle.net_file.specs.Exports.{IsNet, toml_document_of, net_of, net_read}
use Rattle.base.specs.Exports.{refusal_in_row}
use Rattle.net_file.specs.declared.error.NetRefusal.TheVariants.{Toml}
use Rattle.net_file.proofs.NetFileSoundness.{net_of_document, sound_net}
use Rattle.net_file.proofs.NetFileRowRefusals.{refused_with}
use Rattle.net_file.proofs.read.read_net.Goals as goal

pub returns-in_err-read_document-clause-refused : goal.returns-in_err-read_document-clause-refused
unfolding net_of
returns-in_err-read_document-clause-refused c =
    let p = err_from_is_err_and c.from_residual.result c.from_residual.ensures.1 in
    rw (p.1, p.2) (refused_with (refusal_in_row 0 (ok_or (toml_document_of c.args.bytes.now) Toml)) net_read
    c.in_err-read_document.field-0.0 c.in_err-read_document.ensures.refused)

pub returns-clause-net : goal.returns-clause-net
returns-clause-net c = rw (net_of_document _ _ c.in_ok-read_document.ensures.document)
    c.read_net_document.ensures.net

pub returns-clause-refused : goal.returns-clause-refused
returns-clause-refused c = rw (net_of_document _ _ c.in_ok-read_document.ensures.document)
    c.read_net_document.ensures.refused

pub returns-clause-sound : goal.returns-clause-sound
returns-clause-sound c = IfOk-weaker c.read_net_document.result _ IsNet
    (λ net e. sound_net (table_view c.in_ok-read_document.field-0) net e) c.read_net_document.ensures.net
