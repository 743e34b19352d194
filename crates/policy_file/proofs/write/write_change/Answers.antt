use Rattle.std.proofs.Common.{◌∙◌, ap}
use Rattle.policy_file.specs.Exports.{policy_file_change_text, policy_file_of}
use Rattle.policy_file.proofs.write.write_change.Goals as goal

pub returns-clause-read_back : goal.returns-clause-read_back
returns-clause-read_back c = λ few small.
    ap policy_file_of (c.in_ok-policy_csv_text_of.ensures ∙ ap policy_file_change_text c.edits.ensures.edits)
    ∙ c.change_texts_are_read_back.ensures.file c.args.change.now c.edits.ensures.amendment few small
