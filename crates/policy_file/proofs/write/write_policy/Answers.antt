use Rattle.std.proofs.Common.{◌∙◌, ap}
use Rattle.policy_file.specs.Exports.{policy_file_policy_of, policy_file_text}
use Rattle.policy_file.proofs.write.write_policy.Goals as goal

pub returns-clause-read_back : goal.returns-clause-read_back
returns-clause-read_back c = λ few small.
    ap policy_file_policy_of (c.in_ok-policy_csv_text_of.ensures ∙ ap policy_file_text c.rows.ensures.rows)
    ∙ c.policy_texts_are_read_back.ensures.policy c.args.policy.now c.rows.ensures.policy few small
