use Rattle.std.proofs.Common.{◌∙◌, ap, sym}
use Rattle.csv.specs.Records.{fields_of}
use Rattle.policy_file.specs.Exports.{policy_file_has_change_heading, is_policy_file_change_text}
use Rattle.policy_file.proofs.PolicyFileRows.{first_heads, none_heads}
use Rattle.policy_file.proofs.file.is_change.Goals as goal

pub returns-then-not-branch : goal.returns-then-not-branch
unfolding is_policy_file_change_text
returns-then-not-branch c = sym (ap policy_file_has_change_heading (sym c.new-records.ensures)
    ∙ none_heads c.new-records.result c.read_next.new.self (fields_of c.read_next.new.fields)
    c.in_ok-read_next.field-0 c.if-not-branch.true c.in_ok-read_next.ensures.takes)

pub returns : goal.returns
unfolding is_policy_file_change_text
returns c = c.is_change_heading.ensures ∙ sym (ap policy_file_has_change_heading (sym c.new-records.ensures)
    ∙ first_heads c.new-records.result c.read_next.new.self (fields_of c.read_next.new.fields)
    c.in_ok-read_next.field-0 c.if-not-branch.false c.in_ok-read_next.ensures.takes)
