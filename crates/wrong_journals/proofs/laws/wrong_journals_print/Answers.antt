use Rattle.std.proofs.Common.{rules}
use Rattle.std.specs.Fmt.{digits}
use Rattle.five_tuple.specs.Exports.{address_text, header_fields_text, proto_number_text}
use Rattle.journal_text.specs.Lines.{journal_cached_rule_text, journal_two_numbers_text}
use Rattle.wrong_journals.proofs.laws.wrong_journals_print.Goals as goal

pub returns : goal.returns
unfolding digits journal_two_numbers_text journal_cached_rule_text header_fields_text address_text proto_number_text
returns c = search rules
