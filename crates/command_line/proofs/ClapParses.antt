-- The crate `clap` takes the arguments of a line, and gives what they are to the grammar.
use Rattle.std.proofs.Common.{[], ◌&&◌, ◌++◌, ◌<◌, ◌==◌, ◌||◌, ◌∙◌, ◌∷◌, ◌≡◌, Bool, List, None, Option, Some, ap, append-nil, arith, codes, cond, drop, eqb-true, false, fold, is_some, length, not, option_map, refl, slice_index, subst, suc, sym, take, true, true≢false, unwrap_or, zero, ℕ}
use Rattle.base.proofs.Exports.{length-prefix_len, list_all, not-true, option_or, prefix_len}
use Rattle.clap.specs.Simple.{App, HasMatchesOf, Shape, argument_words, built, is_simple, matches_of, names_of}
use Rattle.clap.specs.Matches.{first_value, found_of, matched_of, one_text, raw_values}
use Rattle.clap.specs.declared.parser.matches.ArgMatches.{ArgMatches}
use Rattle.clap.specs.declared.parser.matches.Found as matches
use Rattle.clap.specs.declared.parser.matches.MatchedArg.{MatchedArg}
use Rattle.clap.specs.Takes.{level_passes, takes}
use Rattle.clap.specs.Values.{bool_text}
use Rattle.clap.specs.Walk.{Row, Walk, all_of, finished, first_of, nothing_held, one_of, rows_after, rows_of, used, with_default}
use Rattle.clap.proofs.OnLiterals.{clap_on_literals}
use Rattle.clap.proofs.TakesLemmas.{leaf_takes}
use Rattle.clap.proofs.WalkLemmas.{both, first_value-rows, one_text-rows, raw_values-rows}
use Rattle.command_line.specs.Exports.{ArgumentOptionCut, IsArgumentFlagRead, IsNetArgumentRead, CommandLineOptions, StatedArgumentLine, argument_app_with, cut_argument_options, argument_options_end_together, is_name_argument, argument_line_of, net_and, none}
use Rattle.command_line.proofs.ArgumentShapes.{IsCut, cut_is, given_in, names_good, spelled}
use Rattle.command_line.proofs.ClapWalks.{At, Goes, IsFew, MayStand, apart, goes_far, may_give, name_first, named, names_rule, names_walk, net_rule, options_walk, quiet_rule, rows_at, rules, settles, shape, shape_is, takes_flag, takes_net, use_all, valued, walk_at}

-- what is found in the matches
pub record Found (o : CommandLineOptions) (rows : List Row) (line : StatedArgumentLine) : Type 0 where
  pub names : all_of (codes "names") rows ≡ Some line.names
  pub net : IsNetArgumentRead o (first_of (codes "net") rows) line.net
  pub quiet : IsArgumentFlagRead o (one_of (codes "quiet") rows) line.quiet

-- what was given is what the options have
pub record IsWithin (o : CommandLineOptions) (net : Option (List ℕ)) (quiet : Bool) : Type 0 where
  pub has_net : is_some net ≡ true → takes_net o ≡ true
  pub has_flag : quiet ≡ true → takes_flag o ≡ true

within : (o : CommandLineOptions) (first form : Bool) (net : Option (List ℕ)) (quiet : Bool)
    → IsWithin o net quiet → list_all (may_give o) (given_in first form net quiet) ≡ true
within o first form None false w = refl
within o first form None true w = rw (w.has_flag refl) refl
within o first true (Some v) false w = rw (w.has_net refl) refl
within o first false (Some v) false w = rw (w.has_net refl) refl
within o true true (Some v) true w = rw (w.has_net refl, w.has_flag refl) refl
within o true false (Some v) true w = rw (w.has_net refl, w.has_flag refl) refl
within o false true (Some v) true w = rw (w.has_net refl, w.has_flag refl) refl
within o false false (Some v) true w = rw (w.has_net refl, w.has_flag refl) refl

within_front : (o : CommandLineOptions) (net more : Option (List ℕ)) (quiet again : Bool)
    → IsWithin o (option_or net more) (quiet || again) → IsWithin o net quiet
within_front o None more false again w = let not : false ≡ true → ⊥ = λ e. true≢false (sym e) in
    record { has_net = λ e. absurd (not e); has_flag = λ e. absurd (not e) }
within_front o None more true again w =
    record { has_net = λ e. absurd (true≢false (sym e)); has_flag = λ e. w.has_flag refl }
within_front o (Some v) more false again w =
    record { has_net = λ e. w.has_net refl; has_flag = λ e. absurd (true≢false (sym e)) }
within_front o (Some v) more true again w =
    record { has_net = λ e. w.has_net refl; has_flag = λ e. w.has_flag refl }

within_back : (o : CommandLineOptions) (net more : Option (List ℕ)) (quiet again : Bool)
    → IsWithin o (option_or net more) (quiet || again) → IsWithin o more again
within_back o None more false again w = record { has_net = w.has_net; has_flag = w.has_flag }
within_back o None more true again w =
    record { has_net = w.has_net; has_flag = λ e. w.has_flag refl }
within_back o (Some v) more false again w =
    record { has_net = λ e. w.has_net refl; has_flag = w.has_flag }
within_back o (Some v) more true again w =
    record { has_net = λ e. w.has_net refl; has_flag = λ e. w.has_flag refl }

-- ---- the matches of options round names

-- a network's option in its two forms is one use
pub uses : Bool → Option (List ℕ) → Bool → List Row → List Row
uses first None false rows = rows
uses first None true rows = used quiet_rule [] rows
uses first (Some net) false rows = used net_rule (net ∷ []) rows
uses true (Some net) true rows = used quiet_rule [] (used net_rule (net ∷ []) rows)
uses false (Some net) true rows = used net_rule (net ∷ []) (used quiet_rule [] rows)

uses_are : (first form : Bool) (net : Option (List ℕ)) (quiet : Bool) (rows : List Row)
    → use_all (given_in first form net quiet) rows ≡ uses first net quiet rows
unfolding uses
uses_are first form None false rows = refl
uses_are first form None true rows = refl
uses_are first true (Some net) false rows = refl
uses_are first false (Some net) false rows = refl
uses_are true true (Some net) true rows = refl
uses_are true false (Some net) true rows = refl
uses_are false true (Some net) true rows = refl
uses_are false false (Some net) true rows = refl

-- the rows at the end of the arguments
pub rows_of_line : CommandLineOptions → List Row → List Row
rows_of_line o rows = fold with_default rows (rules o)

-- what is found, by the options of the command: both, the network's alone, or none
module _ (n : List ℕ) (ns : List (List ℕ)) where
  found_both : (first second : Bool) (net : Option (List ℕ)) (quiet : Bool) (more : Option (List ℕ))
      (again : Bool) → (is_some net && is_some more) ≡ false → (quiet && again) ≡ false
      → Found (net_and true) (rows_of_line (net_and true)
      (uses second more again (used names_rule (n ∷ ns) (uses first net quiet []))))
      (record { names = n ∷ ns; net = option_or net more; quiet = quiet || again })
  unfolding uses rows_of_line
  found_both f s None false None false a b = record { names = refl; net = refl; quiet = refl }
  found_both f s None false None true a b = record { names = refl; net = refl; quiet = refl }
  found_both f s None false (Some v) false a b = record { names = refl; net = refl; quiet = refl }
  found_both f true None false (Some v) true a b = record { names = refl; net = refl; quiet = refl }
  found_both f false None false (Some v) true a b =
      record { names = refl; net = refl; quiet = refl }
  found_both f s None true None false a b = record { names = refl; net = refl; quiet = refl }
  found_both f s None true (Some v) false a b = record { names = refl; net = refl; quiet = refl }
  found_both f s (Some v) false None false a b = record { names = refl; net = refl; quiet = refl }
  found_both f s (Some v) false None true a b = record { names = refl; net = refl; quiet = refl }
  found_both true s (Some v) true None false a b = record { names = refl; net = refl; quiet = refl }
  found_both false s (Some v) true None false a b =
      record { names = refl; net = refl; quiet = refl }
  found_both f s None true None true a b = absurd (true≢false b)
  found_both f s None true (Some v) true a b = absurd (true≢false b)
  found_both f s (Some v) quiet (Some w) again a b = absurd (true≢false a)
  found_both f s (Some v) true None true a b = absurd (true≢false b)

  found_net : (first second : Bool) (net more : Option (List ℕ))
      → (is_some net && is_some more) ≡ false → Found (net_and false) (rows_of_line (net_and false)
      (uses second more false (used names_rule (n ∷ ns) (uses first net false []))))
      (record { names = n ∷ ns; net = option_or net more; quiet = false })
  unfolding uses rows_of_line
  found_net f s None None a = record { names = refl; net = refl; quiet = refl }
  found_net f s None (Some v) a = record { names = refl; net = refl; quiet = refl }
  found_net f s (Some v) None a = record { names = refl; net = refl; quiet = refl }
  found_net f s (Some v) (Some w) a = absurd (true≢false a)

  found : (o : CommandLineOptions) (first second : Bool) (net : Option (List ℕ))
      (quiet : Bool) (more : Option (List ℕ)) (again : Bool) → (is_some net && is_some more) ≡ false
      → (quiet && again) ≡ false → IsWithin o net quiet → IsWithin o more again → Found o
      (rows_of_line o (uses second more again (used names_rule (n ∷ ns) (uses first net quiet []))))
      (record { names = n ∷ ns; net = option_or net more; quiet = quiet || again })
  unfolding uses rows_of_line
  found (net_and true) f s net quiet more again a b w v = found_both f s net quiet more again a b
  found (net_and false) f s net false more false a b w v = found_net f s net more a
  found (net_and false) f s net true more again a b w v =
      absurd (true≢false (sym (w.has_flag refl)))
  found (net_and false) f s net false more true a b w v =
      absurd (true≢false (sym (v.has_flag refl)))
  found none f s None false None false a b w v = record { names = refl; net = refl; quiet = refl }
  found none f s (Some x) quiet more again a b w v = absurd (true≢false (sym (w.has_net refl)))
  found none f s None quiet (Some x) again a b w v = absurd (true≢false (sym (v.has_net refl)))
  found none f s None true None again a b w v = absurd (true≢false (sym (w.has_flag refl)))
  found none f s None false None true a b w v = absurd (true≢false (sym (v.has_flag refl)))

-- ---- the arguments of a line

joined_by : (k : ℕ) (xs : List (List ℕ)) → xs ≡ take k xs ++ drop k xs
joined_by zero xs = refl
joined_by (suc k) [] = refl
joined_by (suc k) (x ∷ xs) = ap (λ ys. x ∷ ys) (joined_by k xs)

no_args : (xs : List (List ℕ)) → (length xs == 0) ≡ true → xs ≡ []
no_args [] e = refl
no_args (x ∷ xs) e = absurd (omega (arith, eqb-true _ _ e))

-- options, names and options, none of them twice
pub record HasParts (args : List (List ℕ)) (line : StatedArgumentLine) : Type 0 where
  pub front : ArgumentOptionCut
  pub back : ArgumentOptionCut
  pub front_cut : IsCut args front
  pub back_cut : IsCut (drop (length line.names) front.args) back
  pub names : front.args ≡ line.names ++ drop (length line.names) front.args
  pub good : list_all is_name_argument line.names ≡ true
  pub ends : back.args ≡ []
  pub net : line.net ≡ option_or front.net back.net
  pub quiet : line.quiet ≡ (front.quiet || back.quiet)
  pub one_net : (is_some front.net && is_some back.net) ≡ false
  pub one_flag : (front.quiet && back.quiet) ≡ false

parts_of : (args : List (List ℕ)) (line : StatedArgumentLine) → argument_line_of args ≡ Some line
    → HasParts args line
parts_of args line e = go (argument_options_end_together front back) refl e where
  front : ArgumentOptionCut
  front = cut_argument_options args

  count : ℕ
  count = prefix_len is_name_argument front.args

  back : ArgumentOptionCut
  back = cut_argument_options (drop count front.args)

  names : List (List ℕ)
  names = take count front.args

  go : (b : Bool) → argument_options_end_together front back ≡ b → cond b (Some (record {
    names = names;
    net = option_or front.net back.net;
    quiet = front.quiet || back.quiet;
  })) None ≡ Some line → HasParts args line
  go false s e = absurd (true≢false (ap is_some (sym e)))
  go true s e =
      let line_is : record {
        names = names;
        net = option_or front.net back.net;
        quiet = front.quiet || back.quiet;
      } ≡ line = ap (λ o. unwrap_or o line) e in
      let q = both (not (is_some front.net && is_some back.net)
      && not (front.quiet && back.quiet)) _ s in
      let p = both (not (is_some front.net && is_some back.net)) _ q.0 in
      let size : length names ≡ count = length-prefix_len is_name_argument front.args in
      subst (HasParts args) line_is (record {
        front = front;
        back = back;
        front_cut = cut_is args;
        back_cut = rw size (cut_is (drop count front.args));
        names = joined_by count front.args ∙ ap (λ k. names ++ drop k front.args) (sym size);
        good = names_good front.args;
        ends = no_args back.args q.1;
        net = refl;
        quiet = refl;
        one_net = not-true _ p.0;
        one_flag = not-true _ p.1;
      })

-- the walk over them, to its end
pub record WalksTo (name : List ℕ) (o : CommandLineOptions) (args : List (List ℕ))
    (line : StatedArgumentLine) : Type 0 where
  pub at : At
  pub left : List Row
  pub goes : Goes name o (walk_at apart []) args (walk_at at left)
  pub stands : MayStand o at
  pub found : Found o (rows_of_line o (rows_at at left)) line

module _ (name : List ℕ) (o : CommandLineOptions) (args : List (List ℕ))
    (n : List ℕ) (ns : List (List ℕ)) (net : Option (List ℕ)) (quiet : Bool) where
  walks : HasParts args (record { names = n ∷ ns; net = net; quiet = quiet })
      → IsFew (n ∷ ns) → IsWithin o net quiet
      → WalksTo name o args (record { names = n ∷ ns; net = net; quiet = quiet })
  walks parts few allowed =
      let given : IsWithin o (option_or parts.front.net parts.back.net)
      (parts.front.quiet || parts.back.quiet) =
      subst (IsWithin o (option_or parts.front.net parts.back.net)) parts.quiet
      (subst (λ x. IsWithin o x quiet) parts.net allowed) in
      let fore =
      within_front o parts.front.net parts.back.net parts.front.quiet parts.back.quiet given in
      let aft =
      within_back o parts.front.net parts.back.net parts.front.quiet parts.back.quiet given in
      let front =
      given_in parts.front_cut.first parts.front_cut.form parts.front.net parts.front.quiet in
      let back =
      given_in parts.back_cut.first parts.back_cut.form parts.back.net parts.back.quiet in
      let may_front =
      within o parts.front_cut.first parts.front_cut.form parts.front.net parts.front.quiet fore in
      let one = options_walk name o front apart [] parts.front_cut.good may_front tt in
      let rows = rows_at one.at one.left in
      let two = options_walk name o back (named n ns) rows parts.back_cut.good
      (within o parts.back_cut.first parts.back_cut.form parts.back.net parts.back.quiet aft) few in
      let good = both (is_name_argument n) _ parts.good in
      let first = name_first name o one.at one.left n good.0 one.stands (one.apart tt) in
      let more = names_walk name o n [] ns rows good.1 in
      let all_names = goes_far name o _ _ _ (n ∷ []) ns first more in
      let behind = goes_far name o _ _ _ (n ∷ ns) (spelled back) all_names two.goes in
      let rest : drop (length (n ∷ ns)) parts.front.args ≡ spelled back =
      parts.back_cut.args ∙ ap (λ ws. spelled back ++ ws) parts.ends ∙ append-nil (spelled back) in
      let is : args ≡ spelled front ++ (n ∷ ns ++ spelled back) = parts.front_cut.args
      ∙ ap (λ ws. spelled front ++ ws) (parts.names ∙ ap (λ ws. (n ∷ ns) ++ ws) rest) in
      let used_rows : rows_at two.at two.left
      ≡ uses parts.back_cut.first parts.back.net parts.back.quiet
      (used names_rule (n ∷ ns) (uses parts.front_cut.first parts.front.net parts.front.quiet [])) =
      two.rows ∙ ap (λ r. use_all back (used names_rule (n ∷ ns) r))
      (one.rows ∙ uses_are _ _ _ _ []) ∙ uses_are _ _ _ _ _ in record {
        at = two.at;
        left = two.left;
        goes = subst (λ ws. Goes name o (walk_at apart []) ws (walk_at two.at two.left)) (sym is)
            (goes_far name o _ _ _ (spelled front) (n ∷ ns ++ spelled back) one.goes behind);
        stands = two.stands;
        found = rw (used_rows, parts.net, parts.quiet) (found n ns o parts.front_cut.first
            parts.back_cut.first parts.front.net parts.front.quiet parts.back.net parts.back.quiet
            parts.one_net parts.one_flag fore aft);
      }

-- ---- the parse

module _ (name : List ℕ) where
  simple : (o : CommandLineOptions) → is_simple (argument_app_with name o) ≡ true
  unfolding clap_on_literals
  simple none = refl
  simple (net_and true) = refl
  simple (net_and false) = refl

  passes : (o : CommandLineOptions) (args : List (List ℕ)) (line : StatedArgumentLine) → WalksTo name o args line
      → level_passes (shape name o) [] nothing_held args false ≡ true
  passes none args line w = rw (w.goes.passes, w.goes.walk, settles none w.at w.left w.stands) refl
  passes (net_and true) args line w =
      rw (w.goes.passes, w.goes.walk, settles (net_and true) w.at w.left w.stands) refl
  passes (net_and false) args line w =
      rw (w.goes.passes, w.goes.walk, settles (net_and false) w.at w.left w.stands) refl

  pub taken : (o : CommandLineOptions) (all : List (List ℕ)) (line : StatedArgumentLine) → WalksTo name o (drop 1 all) line
      → takes (argument_app_with name o) all ≡ true
  taken none all line w = rw (simple none) (leaf_takes (built (argument_app_with name none)) nothing_held
      (drop 1 all) refl (passes none (drop 1 all) line w))
  taken (net_and true) all line w = rw (simple (net_and true))
      (leaf_takes (built (argument_app_with name (net_and true))) nothing_held (drop 1 all) refl
      (passes (net_and true) (drop 1 all) line w))
  taken (net_and false) all line w = rw (simple (net_and false))
      (leaf_takes (built (argument_app_with name (net_and false))) nothing_held (drop 1 all) refl
      (passes (net_and false) (drop 1 all) line w))

  settled_at : (o : CommandLineOptions) (a : At) (rows : List Row) → MayStand o a
      → finished (rules o) (walk_at a rows).held ≡ rows_of_line o (rows_at a rows)
  unfolding rows_of_line
  settled_at o apart rows may = refl
  settled_at none (valued net) rows may = absurd (true≢false (sym may))
  settled_at (net_and flag) (valued net) rows may = refl
  settled_at o (named m ms) rows may = refl

  -- no option is a subcommand
  no_names : (o : CommandLineOptions) → names_of (built (argument_app_with name o)) ≡ []
  no_names none = refl
  no_names (net_and true) = refl
  no_names (net_and false) = refl

  -- the first argument is the program's name
  no_program : (o : CommandLineOptions) (all : List (List ℕ))
      → argument_words (argument_app_with name o) all ≡ drop 1 all
  no_program none all = refl
  no_program (net_and true) all = refl
  no_program (net_and false) all = refl

  pub matched : (o : CommandLineOptions) (all : List (List ℕ)) (line : StatedArgumentLine)
      → WalksTo name o (drop 1 all) line → Found o (matches_of (argument_app_with name o) all) line
  matched o all line w = subst (λ rows. Found o rows line) (sym rows_are) w.found where
    rows_are : matches_of (argument_app_with name o) all ≡ rows_of_line o (rows_at w.at w.left)
    rows_are =
        ap (rows_after (built (argument_app_with name o)).top.rules (names_of (built (argument_app_with name o))))
        (no_program o all)
        ∙ ap (λ (s : Shape). rows_after s.rules (names_of (built (argument_app_with name o))) (drop 1 all))
        (shape_is name o) ∙ ap (λ names. rows_after (rules o) names (drop 1 all)) (no_names o)
        ∙ ap (λ (v : Walk). finished (rules o) v.held) w.goes.walk
        ∙ settled_at o w.at w.left w.stands

  -- each line with names is read
  pub reads : (o : CommandLineOptions) (args : List (List ℕ)) (line : StatedArgumentLine) → argument_line_of args ≡ Some line
      → 0 < length line.names → IsFew line.names → IsWithin o line.net line.quiet
      → WalksTo name o args line
  reads o args line e some few allowed =
      go line.names line.net line.quiet (parts_of args line e) some few allowed
    where
      go : (names : List (List ℕ)) (net : Option (List ℕ)) (quiet : Bool)
          → HasParts args (record { names = names; net = net; quiet = quiet })
          → 0 < length names → IsFew names → IsWithin o net quiet
          → WalksTo name o args (record { names = names; net = net; quiet = quiet })
      go [] net quiet parts some few allowed = absurd (omega arith)
      go (n ∷ ns) net quiet parts some few allowed =
          walks name o args n ns net quiet parts few allowed

-- ---- what was matched

pub matches_found : (name : List ℕ) (o : CommandLineOptions) (app : App) (all : List (List ℕ))
    (m : ArgMatches) (line : StatedArgumentLine) → app ≡ argument_app_with name o → HasMatchesOf app all m
    → WalksTo name o (drop 1 all) line → Found o (rows_of (found_of m)) line
matches_found name o app all m line is has w =
    let rows : rows_of (found_of m) ≡ matches_of app all =
    (has (ap is_simple is ∙ simple name o)).0 in
    subst (λ r. Found o r line) (sym (rows ∙ ap (λ a. matches_of a all) is))
    (matched name o all line w)

one_net : (o : CommandLineOptions) (found net again : Option (List ℕ)) → IsNetArgumentRead o found net
    → IsNetArgumentRead o found again → net ≡ again
one_net none there net again a b = a ∙ sym b
one_net (net_and flag) there net again a b = a ∙ sym b

by_text : (a b : Bool) → bool_text a ≡ bool_text b → a ≡ b
by_text true true e = refl
by_text false false e = refl
by_text true false e =
    let bad : 116 ≡ 102 = ap (λ text. slice_index text 0) e in absurd (omega (arith, bad))
by_text false true e =
    let bad : 102 ≡ 116 = ap (λ text. slice_index text 0) e in absurd (omega (arith, bad))

one_flag : (o : CommandLineOptions) (found : Option (List ℕ)) (quiet again : Bool) → IsArgumentFlagRead o found quiet
    → IsArgumentFlagRead o found again → quiet ≡ again
one_flag none there quiet again a b = a ∙ sym b
one_flag (net_and false) there quiet again a b = a ∙ sym b
one_flag (net_and true) there quiet again a b =
    by_text quiet again (ap (λ o. unwrap_or o []) (sym a ∙ b))

module _ (o : CommandLineOptions) (f : matches.Found) (line : StatedArgumentLine) (found : Found o (rows_of f) line) where
  pub names_there : is_some (matched_of f (codes "names")) ≡ true
  names_there =
      go (matched_of f (codes "names")) (raw_values-rows f (codes "names") ∙ found.names)
    where
      go : (o : Option MatchedArg) → option_map raw_values o ≡ Some line.names → is_some o ≡ true
      go None e = ap is_some e
      go (Some x) e = refl

  net_there : IsNetArgumentRead o (first_value f (codes "net")) line.net
  net_there = subst (λ x. IsNetArgumentRead o x line.net) (sym (first_value-rows f (codes "net"))) found.net

  pub flag_there : IsArgumentFlagRead o (one_text f (codes "quiet")) line.quiet
  flag_there =
      subst (λ x. IsArgumentFlagRead o x line.quiet) (sym (one_text-rows f (codes "quiet"))) found.quiet

  -- a line that holds what was matched is the line
  pub line_is : (names : List (List ℕ)) (net : Option (List ℕ)) (quiet : Bool)
      → option_map raw_values (matched_of f (codes "names")) ≡ Some names
      → IsNetArgumentRead o (first_value f (codes "net")) net
      → IsArgumentFlagRead o (one_text f (codes "quiet")) quiet
      → line ≡ record { names = names; net = net; quiet = quiet }
  line_is names net quiet given_names given_net given_quiet =
      let same_names : line.names ≡ names = ap (λ o. unwrap_or o [])
      (sym found.names ∙ sym (raw_values-rows f (codes "names")) ∙ given_names) in
      let same_net : line.net ≡ net = one_net o _ line.net net net_there given_net in
      let same_quiet : line.quiet ≡ quiet = one_flag o _ line.quiet quiet flag_there given_quiet in
      λ i. record { names = same_names i; net = same_net i; quiet = same_quiet i }
