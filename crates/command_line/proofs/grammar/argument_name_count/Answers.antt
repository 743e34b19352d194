use Rattle.std.proofs.Common.{[], ◌∙◌, ◌∷◌, ◌≡◌, Global, List, String, map, refl, rules, string_bytes, sym, tests}
use Rattle.base.proofs.Exports.{YieldsList-from_slice, YieldsList-from_take_while, count_from_yields_List, length-prefix_len, prefix_len}
use Rattle.command_line.specs.Exports.{is_name_argument}
use Rattle.command_line.proofs.grammar.argument_name_count.Goals as goal

-- so many arguments in front are names
names_in_front : (args : List (String Global)) → prefix_len is_name_argument (map string_bytes args)
    ≡ prefix_len (λ arg. is_name_argument (string_bytes arg)) args
names_in_front [] = refl
names_in_front (arg ∷ args) = rw (names_in_front args) refl

pub returns-clause-value : goal.returns-clause-value
returns-clause-value c = let args = c.args.args.now in
    count_from_yields_List c.take_while.result _ c.count.ensures.ran
    (YieldsList-from_take_while _ (λ arg. is_name_argument (string_bytes arg))
    (YieldsList-from_slice args cc) c.take_while.ensures.closure c.take_while.ensures.done
    (λ x b q k. search (rules, tests)))
    ∙ length-prefix_len (λ arg. is_name_argument (string_bytes arg)) args
    ∙ sym (names_in_front args)
