use Rattle.policy_file.proofs.PolicyFileLines.{policy_back, whole_back}
use Rattle.policy_file.proofs.write.policy_texts_are_read_back.Goals as goal

pub returns-clause-policy : goal.returns-clause-policy
returns-clause-policy c =
    policy_back c.tuple_fields_print_plain.ensures c.row_fields_state_the_row.ensures

pub returns-clause-file : goal.returns-clause-file
returns-clause-file c =
    whole_back c.tuple_fields_print_plain.ensures c.row_fields_state_the_row.ensures
