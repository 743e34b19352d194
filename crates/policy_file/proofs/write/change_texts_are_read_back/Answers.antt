use Rattle.policy_file.proofs.PolicyFileLines.{change_back, change_file_back}
use Rattle.policy_file.proofs.write.change_texts_are_read_back.Goals as goal

pub returns-clause-change : goal.returns-clause-change
returns-clause-change c = change_back c.tuple_fields_print_plain.ensures
    c.priorities_are_read_back.ensures c.row_fields_state_the_row.ensures

pub returns-clause-file : goal.returns-clause-file
returns-clause-file c = change_file_back c.tuple_fields_print_plain.ensures
    c.priorities_are_read_back.ensures c.row_fields_state_the_row.ensures
