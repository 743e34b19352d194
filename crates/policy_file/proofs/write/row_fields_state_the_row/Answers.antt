use Rattle.policy_file.proofs.PolicyFileLines.{row_back}
use Rattle.policy_file.proofs.write.row_fields_state_the_row.Goals as goal

pub returns : goal.returns
returns c = λ row sound small. let forms = c.tuple_fields_read_back.ensures in
    row_back row (c.priorities_are_read_back.ensures row.priority sound.priority)
    (forms.prefix row.src sound.src) (forms.prefix row.dst sound.dst)
    (forms.range row.sport sound.sport) (forms.range row.dport sound.dport)
    (forms.proto row.proto sound.proto) (c.printed_rule_actions_read_back.ensures row.action small)
