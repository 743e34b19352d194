-- What the crate `clap` makes of the arguments of a line, one after another.
use Rattle.std.proofs.Common.{[], ◌&&◌, ◌++◌, ◌<◌, ◌==◌, ◌^◌, ◌||◌, ◌∙◌, ◌∷◌, ◌≡◌, Bool, List, None, Option, Some, ap, append-nil, append_assoc, arith, bytes_eq, false, le-leb, length, nat_le, nat_lt, not, refl, subst, sym, true, true≢false, ℕ}
use Rattle.base.proofs.Exports.{codes, fold, list_all, ⊤}
use Rattle.clap.specs.Lexer.{long_of, short_of, usize_max}
use Rattle.clap.specs.Simple.{Shape, built, help_rule, new_shape}
use Rattle.clap.specs.Takes.{settle_passes, turn_passes, use_passes, values_pass, walk_passes}
use Rattle.clap.specs.Walk.{Row, Rule, Waiting, Walk, has_row, idle, positional, used, walked}
use Rattle.clap.specs.Walk as clap
use Rattle.clap.specs.declared.builder.value_parser.ValueParser.TheVariants as vp
use Rattle.clap.proofs.WalkLemmas.{both}
use Rattle.command_line.specs.Exports.{CommandLineOptions, argument_app_with, is_name_argument, argument_names_rule, net_and, argument_net_rule, none, quiet_argument}
use Rattle.command_line.proofs.ArgumentShapes.{Given, is_good, joined, pair, quiet, spell, spelled}

-- the arguments as they are built
abbrev pub names_rule : Rule
names_rule = record argument_names_rule { index = Some 1; parser = Some vp.String }

abbrev pub net_rule : Rule
net_rule = record argument_net_rule {
  range = Some (record { start_inclusive = 1; end_inclusive = 1 });
  parser = Some vp.String;
}

abbrev pub quiet_rule : Rule
quiet_rule = record quiet_argument {
  range = Some (record { start_inclusive = 0; end_inclusive = 0 });
  defaults = codes "false" ∷ [];
  missing = codes "true" ∷ [];
  parser = Some vp.Bool;
}

abbrev pub help_built : Rule
help_built = record help_rule {
  range = Some (record { start_inclusive = 0; end_inclusive = 0 });
  parser = Some vp.String;
}

abbrev pub flag_rules : Bool → List Rule
flag_rules true = quiet_rule ∷ help_built ∷ []
flag_rules false = help_built ∷ []

abbrev pub option_rules : CommandLineOptions → List Rule
option_rules none = help_built ∷ []
option_rules (net_and flag) = net_rule ∷ flag_rules flag

abbrev pub rules : CommandLineOptions → List Rule
rules options = names_rule ∷ option_rules options

abbrev pub shape : List ℕ → CommandLineOptions → Shape
shape name options = record (new_shape name) {
  rules = rules options;
  args_override_self = true;
  is_built = true;
  disable_help_subcommand = true;
}

pub shape_is : (name : List ℕ) (o : CommandLineOptions) → (built (argument_app_with name o)).top ≡ shape name o
shape_is name none = refl
shape_is name (net_and true) = refl
shape_is name (net_and false) = refl

abbrev pub takes_net : CommandLineOptions → Bool
takes_net none = false
takes_net (net_and flag) = true

abbrev pub takes_flag : CommandLineOptions → Bool
takes_flag none = false
takes_flag (net_and flag) = flag

-- ---- where a walk is between two arguments of a line

-- behind a flag or an option of one argument, or nothing; behind an option of two; behind names
pub data At : Type 0 where
  apart : At
  valued : List ℕ → At
  named : List ℕ → List (List ℕ) → At

abbrev pub pending_at : At → Option (List ℕ × List (List ℕ))
pending_at apart = None
pending_at (valued net) = Some (codes "net", net ∷ [])
pending_at (named n ns) = Some (codes "names", n ∷ ns)

abbrev pub waiting_at : At → Waiting
waiting_at (named n ns) = positional
waiting_at _ = idle

abbrev pub walk_at : At → List Row → Walk
walk_at a rows = record {
  held = record { rows = rows; pending = pending_at a; skip = 0 };
  waiting = waiting_at a;
  position = 1;
  is_trailing = false;
  stopped = None;
}

-- the rows, once what is pending is used
abbrev pub rows_at : At → List Row → List Row
rows_at apart rows = rows
rows_at (valued net) rows = used net_rule (net ∷ []) rows
rows_at (named n ns) rows = used names_rule (n ∷ ns) rows

abbrev pub use_given : Given → List Row → List Row
use_given (joined net) rows = used net_rule (net ∷ []) rows
use_given (pair net) rows = used net_rule (net ∷ []) rows
use_given quiet rows = used quiet_rule [] rows

abbrev pub use_all : List Given → List Row → List Row
use_all [] rows = rows
use_all (g ∷ gs) rows = use_all gs (use_given g rows)

-- how many names there may be
abbrev pub IsFew : List (List ℕ) → Type 0
IsFew names = length names < 2 ^ 16

-- where a walk may stand by these options, and which of them may stand in the arguments
abbrev pub MayStand : CommandLineOptions → At → Type 0
MayStand o apart = ⊤
MayStand o (valued net) = takes_net o ≡ true
MayStand o (named n ns) = IsFew (n ∷ ns)

abbrev pub may_give : CommandLineOptions → Given → Bool
may_give o (joined net) = takes_net o
may_give o (pair net) = takes_net o
may_give o quiet = takes_flag o

-- behind no names there are no names pending
abbrev IsApart : At → Type 0
IsApart (named n ns) = ⊥
IsApart _ = ⊤

-- ---- a name

record IsPlainArg (arg : List ℕ) : Type 0 where
  pub dashes : bytes_eq arg (45 ∷ 45 ∷ []) ≡ false
  pub long : long_of arg ≡ None
  pub short : short_of arg ≡ None

plain_arg : (arg : List ℕ) → is_name_argument arg ≡ true → IsPlainArg arg
plain_arg [] e = absurd (true≢false (sym e))
plain_arg (x ∷ xs) e = go (x == 45) refl e where
  go : (b : Bool) → (x == 45) ≡ b → (nat_lt 0 (length (x ∷ xs)) && not b) ≡ true
      → IsPlainArg (x ∷ xs)
  go true s e = absurd (true≢false (sym (both (nat_lt 0 (length (x ∷ xs))) false e).1))
  go false s e = record { dashes = rw s refl; long = rw s refl; short = rw s refl }

all_pass : (vs : List (List ℕ)) → values_pass names_rule vs ≡ true
all_pass [] = refl
all_pass (v ∷ vs) = all_pass vs

names_pass : (n : List ℕ) (ns : List (List ℕ)) (rows : List Row) → IsFew (n ∷ ns)
    → use_passes true names_rule (n ∷ ns) rows ≡ true
names_pass n ns rows few =
    let most : nat_le (length (n ∷ ns)) usize_max ≡ true =
    le-leb (length (n ∷ ns)) usize_max (omega arith) in
    rw ((le-leb 1 (length (n ∷ ns)) (omega arith)), most) (all_pass ns)

-- a second use would replace the first, so what was used is not asked
again_passes : (id : List ℕ) (rows : List Row) → (not (has_row id rows) || true) ≡ true
again_passes id rows = go (not (has_row id rows)) where
  go : (b : Bool) → (b || true) ≡ true
  go true = refl
  go false = refl

pub settles : (o : CommandLineOptions) (a : At) (rows : List Row) → MayStand o a
    → settle_passes (rules o) true (walk_at a rows).held ≡ true
settles o apart rows may = refl
settles none (valued net) rows may = absurd (true≢false (sym may))
settles (net_and flag) (valued net) rows may = rw (again_passes (codes "net") rows) refl
settles o (named n ns) rows may = names_pass n ns rows may

-- ---- an option

abbrev pub after : Given → At
after (pair net) = valued net
after _ = apart

-- the rows behind an option, where the value of one of two arguments is still pending
abbrev pub rows_then : Given → List Row → List Row
rows_then (joined net) rows = used net_rule (net ∷ []) rows
rows_then (pair net) rows = rows
rows_then quiet rows = used quiet_rule [] rows

-- `--net` waits for its value
abbrev walk_asking : List Row → Walk
walk_asking rows = record (walk_at apart rows) {
  held = record { rows = rows; pending = Some (codes "net", []); skip = 0 };
  waiting = clap.option (codes "net");
}

asks : (flag : Bool) (a : At) (rows : List Row)
    → walked (rules (net_and flag)) [] (walk_at a rows) (codes "--net")
    ≡ walk_asking (rows_at a rows)
unfolding walked
asks flag apart rows = refl
asks flag (valued net) rows = refl
asks flag (named n ns) rows = refl

joins : (flag : Bool) (net : List ℕ) (a : At) (rows : List Row)
    → walked (rules (net_and flag)) [] (walk_at a rows) (codes "--net=" ++ net)
    ≡ walk_at apart (used net_rule (net ∷ []) (rows_at a rows))
unfolding walked
joins flag net apart rows = refl
joins flag net (valued v) rows = refl
joins flag net (named n ns) rows = refl

flags : (a : At) (rows : List Row)
    → walked (rules (net_and true)) [] (walk_at a rows) (codes "--quiet")
    ≡ walk_at apart (used quiet_rule [] (rows_at a rows))
unfolding walked
flags apart rows = refl
flags (valued v) rows = refl
flags (named n ns) rows = refl

rows_given : (g : Given) (rows : List Row) → rows_at (after g) (rows_then g rows) ≡ use_given g rows
rows_given (joined net) rows = refl
rows_given (pair net) rows = refl
rows_given quiet rows = refl

stands_after : (o : CommandLineOptions) (g : Given) → may_give o g ≡ true → MayStand o (after g)
stands_after o (joined net) may = tt
stands_after o (pair net) may = may
stands_after o quiet may = tt

apart_after : (g : Given) → IsApart (after g)
apart_after (joined net) = tt
apart_after (pair net) = tt
apart_after quiet = tt

-- ---- the walk of a command of this name with these options

-- the walk takes these arguments, and is there then
pub record Goes (name : List ℕ) (o : CommandLineOptions) (from : Walk) (args : List (List ℕ))
    (to : Walk) : Type 0 where
  pub walk : fold (walked (rules o) []) from args ≡ to
  pub passes : walk_passes (shape name o) [] from args ≡ true

-- options: where the walk is after them
pub record Passed (name : List ℕ) (o : CommandLineOptions) (from : At) (gs : List Given)
    (old : List Row) : Type 0 where
  pub at : At
  pub left : List Row
  pub goes : Goes name o (walk_at from old) (spelled gs) (walk_at at left)
  pub rows : rows_at at left ≡ use_all gs (rows_at from old)
  pub stands : MayStand o at
  pub apart : IsApart from → IsApart at

module _ (name : List ℕ) where
  goes_nowhere : (o : CommandLineOptions) (w : Walk) → Goes name o w [] w
  unfolding walk_passes
  goes_nowhere o w = record { walk = refl; passes = refl }

  goes_on : (o : CommandLineOptions) (w v u : Walk) (arg : List ℕ) (args : List (List ℕ))
      → walked (rules o) [] w arg ≡ v → turn_passes (shape name o) [] w arg ≡ true
      → Goes name o v args u → Goes name o w (arg ∷ args) u
  unfolding walk_passes
  goes_on o w v u arg args step turn more = record {
    walk = ap (λ x. fold (walked (rules o) []) x args) step ∙ more.walk;
    passes = rw (turn, step) more.passes;
  }

  pub goes_far : (o : CommandLineOptions) (w v u : Walk) (xs ys : List (List ℕ)) → Goes name o w xs v
      → Goes name o v ys u → Goes name o w (xs ++ ys) u
  unfolding walk_passes
  goes_far o w v u [] ys front back = subst (λ x. Goes name o x ys u) (sym front.walk) back
  goes_far o w v u (x ∷ xs) ys front back =
      let p = both (turn_passes (shape name o) [] w x) _ front.passes in
      goes_on o w (walked (rules o) [] w x) u x (xs ++ ys) refl p.0
      (goes_far o (walked (rules o) [] w x) v u xs ys
      (record { walk = front.walk; passes = p.1 }) back)

  -- a name behind options
  pub name_first : (o : CommandLineOptions) (a : At) (rows : List Row) (n : List ℕ) → is_name_argument n ≡ true
      → MayStand o a → IsApart a
      → Goes name o (walk_at a rows) (n ∷ []) (walk_at (named n []) (rows_at a rows))
  unfolding walked
  name_first o apart rows n good may behind = let arg = plain_arg n good in
      goes_on o _ _ _ n [] (rw (arg.dashes, arg.long, arg.short) refl)
      (rw (arg.dashes, arg.long, arg.short) refl) (goes_nowhere o _)
  name_first none (valued net) rows n good may behind = absurd (true≢false (sym may))
  name_first (net_and flag) (valued net) rows n good may behind = let arg = plain_arg n good in
      goes_on (net_and flag) _ _ _ n [] (rw (arg.dashes, arg.long, arg.short) refl)
      (rw (arg.dashes, arg.long, arg.short, again_passes (codes "net") rows) refl)
      (goes_nowhere (net_and flag) _)
  name_first o (named m ms) rows n good may behind = absurd behind

  -- more names behind one
  pub names_walk : (o : CommandLineOptions) (n : List ℕ) (ns ms : List (List ℕ)) (rows : List Row)
      → list_all is_name_argument ms ≡ true
      → Goes name o (walk_at (named n ns) rows) ms (walk_at (named n (ns ++ ms)) rows)
  unfolding walked
  names_walk o n ns [] rows good = rw (append-nil ns) (goes_nowhere o (walk_at (named n ns) rows))
  names_walk o n ns (m ∷ ms) rows good =
      let p = both (is_name_argument m) _ good in
      let arg = plain_arg m p.0 in
      goes_on o (walk_at (named n ns) rows) (walk_at (named n (ns ++ m ∷ [])) rows) _ m ms
      (rw (arg.dashes, arg.long, arg.short) refl)
      (rw (arg.dashes, arg.long, arg.short) refl)
      (subst (λ xs. Goes name o (walk_at (named n (ns ++ m ∷ [])) rows) ms (walk_at (named n xs)
      rows)) (append_assoc ns (m ∷ []) ms) (names_walk o n (ns ++ m ∷ []) ms rows p.1))

  may_ask : (flag : Bool) (a : At) (rows : List Row) → MayStand (net_and flag) a
      → turn_passes (shape name (net_and flag)) [] (walk_at a rows) (codes "--net") ≡ true
  may_ask flag apart rows few = refl
  may_ask flag (valued net) rows few = rw (again_passes (codes "net") rows) refl
  may_ask flag (named n ns) rows few = rw (names_pass n ns rows few) refl

  told : (flag : Bool) (net : List ℕ) (rows : List Row) → is_name_argument net ≡ true
      → Goes name (net_and flag) (walk_asking rows) (net ∷ []) (walk_at (valued net) rows)
  unfolding walked
  told flag net rows good = let arg = plain_arg net good in
      goes_on (net_and flag) _ _ _ net [] (rw (arg.dashes, arg.long, arg.short) refl)
      (rw (arg.dashes, arg.long, arg.short) refl) (goes_nowhere (net_and flag) _)

  may_join : (flag : Bool) (net : List ℕ) (a : At) (rows : List Row) → MayStand (net_and flag) a
      → turn_passes (shape name (net_and flag)) [] (walk_at a rows) (codes "--net=" ++ net) ≡ true
  may_join flag net apart rows few = rw (again_passes (codes "net") rows) refl
  may_join flag net (valued v) rows few = rw (again_passes (codes "net") rows, again_passes) refl
  may_join flag net (named n ns) rows few = rw (names_pass n ns rows few, again_passes) refl

  may_flag : (a : At) (rows : List Row) → MayStand (net_and true) a
      → turn_passes (shape name (net_and true)) [] (walk_at a rows) (codes "--quiet") ≡ true
  may_flag apart rows few = rw (again_passes (codes "quiet") rows) refl
  may_flag (valued v) rows few = rw (again_passes (codes "net") rows, again_passes) refl
  may_flag (named n ns) rows few = rw (names_pass n ns rows few, again_passes) refl

  given_walks : (o : CommandLineOptions) (g : Given) (a : At) (rows : List Row) → is_good g ≡ true
      → may_give o g ≡ true → MayStand o a
      → Goes name o (walk_at a rows) (spell g) (walk_at (after g) (rows_then g (rows_at a rows)))
  given_walks none (joined net) a rows good may few = absurd (true≢false (sym may))
  given_walks none (pair net) a rows good may few = absurd (true≢false (sym may))
  given_walks none quiet a rows good may few = absurd (true≢false (sym may))
  given_walks (net_and flag) (joined net) a rows good may few = goes_on (net_and flag) _ _ _ _ []
      (joins flag net a rows) (may_join flag net a rows few) (goes_nowhere (net_and flag) _)
  given_walks (net_and flag) (pair net) a rows good may few = goes_on (net_and flag) _ _ _ _
      (net ∷ []) (asks flag a rows) (may_ask flag a rows few) (told flag net (rows_at a rows) good)
  given_walks (net_and true) quiet a rows good may few = goes_on (net_and true) _ _ _ _ []
      (flags a rows) (may_flag a rows few) (goes_nowhere (net_and true) _)
  given_walks (net_and false) quiet a rows good may few = absurd (true≢false (sym may))

  pub options_walk : (o : CommandLineOptions) (gs : List Given) (a : At) (rows : List Row)
      → list_all is_good gs ≡ true → list_all (may_give o) gs ≡ true → MayStand o a
      → Passed name o a gs rows
  options_walk o [] a rows good may stands = record {
    at = a;
    left = rows;
    goes = goes_nowhere o (walk_at a rows);
    rows = refl;
    stands = stands;
    apart = λ e. e;
  }
  options_walk o (g ∷ gs) a rows good may stands =
      let p = both (is_good g) _ good in
      let q = both (may_give o g) _ may in
      let then = rows_then g (rows_at a rows) in
      let more = options_walk o gs (after g) then p.1 q.1 (stands_after o g q.0) in record {
        at = more.at;
        left = more.left;
        goes = goes_far o _ _ _ (spell g) (spelled gs) (given_walks o g a rows p.0 q.0 stands)
            more.goes;
        rows = more.rows ∙ ap (use_all gs) (rows_given g (rows_at a rows));
        stands = more.stands;
        apart = λ e. more.apart (apart_after g);
      }
