-- The commands of the grammar, by their lines.
use Rattle.std.proofs.Common.{[], ◌<◌, ◌==◌, ◌^◌, ◌||◌, ◌∙◌, ◌∷◌, ◌≡◌, ◌≤◌, Bool, List, None, Option, Some, ap, arith, cond, drop, eqb-true, false, is_some, leb-true, length, nat_le, option_and_then, refl, sym, true, true≢false, ℕ}
use Rattle.base.proofs.Exports.{not-true, passes_from_is_some}
use Rattle.clap.specs.Matches.{found_of}
use Rattle.clap.specs.Simple.{App, HasMatchesOf}
use Rattle.clap.specs.Takes.{takes}
use Rattle.clap.specs.Walk.{rows_of}
use Rattle.clap.specs.declared.parser.matches.ArgMatches.{ArgMatches}
use Rattle.clap.proofs.WalkLemmas.{both}
use Rattle.command_line.specs.Exports.{Command, StatedArgumentLine, audit_command_from_arguments, audit_by_argument_grammar, command_by_arguments, argument_command_of_kind, argument_command_kind_name, argument_app_of_command, argument_line_of, load_from_argument, load_number_argument, load_of_arguments, net_and, none, argument_options_of_kind, play_from_arguments, argument_grammar_print_of}
use Rattle.command_line.proofs.ClapParses.{Found, IsWithin, WalksTo, matches_found, reads, taken}
use Rattle.command_line.specs.declared.grammar.CommandKind.{CommandKind}
use Rattle.command_line.specs.declared.grammar.CommandKind.TheVariants as kind
use Rattle.command_line.specs.declared.report.Report.{Report}
use Rattle.command_line.specs.declared.report.Report.TheVariants as report

-- a name, and not too many
abbrev pub HaveNames : List (List ℕ) → Type 0
HaveNames names = (0 < length names) × (length names < 2 ^ 16)

play_names : (told : Report) (line : StatedArgumentLine) (names : List (List ℕ))
    → is_some (play_from_arguments told line names) ≡ true → HaveNames names
play_names told line [] e = absurd (true≢false (sym e))
play_names told line (s ∷ ps) e =
    let may = both (nat_le 1 (length ps)) _ (passes_from_is_some _ _ e) in
    let most : length ps ≤ 64 = leb-true (length ps) 64 may.1 in (omega arith, omega (arith, most))

-- a command without the flag
unflagged : (quiet : Bool) (o : Option Command) → is_some (cond quiet None o) ≡ true
    → (quiet ≡ false) × (is_some o ≡ true)
unflagged true o e = absurd (true≢false (sym e))
unflagged false o e = (refl, e)

print_names : (count : ℕ) (line : StatedArgumentLine) → 0 < count → count < 3
    → is_some (argument_grammar_print_of count line) ≡ true → HaveNames line.names
print_names count line some few e =
    let is = eqb-true _ _ (both (length line.names == count) _ (passes_from_is_some _ _ e)).0 in
    (omega (arith, is, some), omega (arith, is, few))

load_names : (line : StatedArgumentLine) → is_some (load_of_arguments line) ≡ true → HaveNames line.names
load_names line e = go (is_some line.net || line.quiet) line.names e where
  go : (b : Bool) (names : List (List ℕ))
      → is_some (cond b None (load_from_argument (load_number_argument names))) ≡ true → HaveNames names
  go true names e = absurd (true≢false (sym e))
  go false [] e = absurd (true≢false (sym e))
  go false (n ∷ []) e = (omega arith, omega arith)
  go false (n ∷ m ∷ ns) e = absurd (true≢false (sym e))

audit_names : (line : StatedArgumentLine) → is_some (audit_by_argument_grammar line) ≡ true → HaveNames line.names
audit_names line e = go (is_some line.net || line.quiet) line.names e where
  go : (b : Bool) (names : List (List ℕ)) → is_some (cond b None (audit_command_from_arguments names)) ≡ true
      → HaveNames names
  go true names e = absurd (true≢false (sym e))
  go false [] e = absurd (true≢false (sym e))
  go false (s ∷ ps) e = let may = both (nat_le 1 (length ps)) _ (passes_from_is_some _ _ e) in
      (omega arith, omega (arith, leb-true (length ps) 64 may.1))

-- each line of a command has names
line_names : (k : CommandKind) (line : StatedArgumentLine) → is_some (command_by_arguments (argument_command_kind_name k) line) ≡ true
    → HaveNames line.names
line_names kind.Replay line e = play_names (report.Lines line.quiet) line line.names e
line_names kind.Flows line e = play_names report.Flows line line.names (unflagged line.quiet _ e).1
line_names kind.Rebalance line e =
    play_names report.Placement line line.names (unflagged line.quiet _ e).1
line_names kind.Compile line e = print_names 1 line (omega arith) (omega arith) e
line_names kind.Show line e = print_names 2 line (omega arith) (omega arith) e
line_names kind.Load line e = load_names line e
line_names kind.Audit line e = audit_names line e

-- ---- options

neither : (net quiet : Bool) (o : Option Command) → is_some (cond (net || quiet) None o) ≡ true
    → (net ≡ false) × (quiet ≡ false)
neither true quiet o e = absurd (true≢false (sym e))
neither false true o e = absurd (true≢false (sym e))
neither false false o e = (refl, refl)

print_within : (count : ℕ) (line : StatedArgumentLine) → is_some (argument_grammar_print_of count line) ≡ true
    → IsWithin (net_and false) line.net line.quiet
print_within count line e =
    let none : line.quiet ≡ false =
    not-true line.quiet (both (length line.names == count) _ (passes_from_is_some _ _ e)).1 in
    record { has_net = λ some. refl; has_flag = λ some. sym none ∙ some }

bare_within : (line : StatedArgumentLine) (o : Option Command)
    → is_some (cond (is_some line.net || line.quiet) None o) ≡ true
    → IsWithin none line.net line.quiet
bare_within line o e = let bare = neither (is_some line.net) line.quiet o e in
    record { has_net = λ some. sym bare.0 ∙ some; has_flag = λ some. sym bare.1 ∙ some }

-- each line of a command has options of its own alone
line_within : (k : CommandKind) (line : StatedArgumentLine) → is_some (command_by_arguments (argument_command_kind_name k) line) ≡ true
    → IsWithin (argument_options_of_kind k) line.net line.quiet
line_within kind.Replay line e = record { has_net = λ some. refl; has_flag = λ some. refl }
line_within kind.Flows line e = let none = (unflagged line.quiet _ e).0 in
    record { has_net = λ some. refl; has_flag = λ some. sym none ∙ some }
line_within kind.Rebalance line e = let none = (unflagged line.quiet _ e).0 in
    record { has_net = λ some. refl; has_flag = λ some. sym none ∙ some }
line_within kind.Compile line e = print_within 1 line e
line_within kind.Show line e = print_within 2 line e
line_within kind.Load line e = bare_within line (load_from_argument (load_number_argument line.names)) e
line_within kind.Audit line e = bare_within line (audit_command_from_arguments line.names) e

-- the line of arguments that are a command of this kind, and the walk of that command over them
pub record Walked (k : CommandKind) (args : List (List ℕ)) : Type 0 where
  pub line : StatedArgumentLine
  pub is : argument_line_of args ≡ Some line
  pub walks : WalksTo (argument_command_kind_name k) (argument_options_of_kind k) args line

pub line_walked : (k : CommandKind) (args : List (List ℕ)) → is_some (argument_command_of_kind k args) ≡ true
    → Walked k args
line_walked k args e = go (argument_line_of args) refl e where
  go : (o : Option StatedArgumentLine) → argument_line_of args ≡ o
      → is_some (option_and_then (command_by_arguments (argument_command_kind_name k)) o) ≡ true → Walked k args
  go None is e = absurd (true≢false (sym e))
  go (Some line) is e = let names = line_names k line e in record {
    line = line;
    is = is;
    walks = reads (argument_command_kind_name k) (argument_options_of_kind k) args line is names.0 names.1 (line_within k line e);
  }

-- that command takes the arguments, and what it matches is the line
module _ (k : CommandKind) (app : App) (all : List (List ℕ)) (is : app ≡ argument_app_of_command k)
    (w : Walked k (drop 1 all)) where
  pub takes_line : takes app all ≡ true
  takes_line = ap (λ a. takes a all) is ∙ taken (argument_command_kind_name k) (argument_options_of_kind k) all w.line w.walks

  pub finds_line : (m : ArgMatches) → HasMatchesOf app all m
      → Found (argument_options_of_kind k) (rows_of (found_of m)) w.line
  finds_line m has = matches_found (argument_command_kind_name k) (argument_options_of_kind k) app all m w.line is has w.walks
