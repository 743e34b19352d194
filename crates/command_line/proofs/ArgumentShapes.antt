-- The arguments of a line: which options are before its names and after them.
use Rattle.std.proofs.Common.{[], ◌&&◌, ◌++◌, ◌+◌, ◌∙◌, ◌∷◌, ◌≡◌, Bool, List, None, Option, Some, ap, append-nil, append_assoc, ap₂, arith, bytes_eq, codes, cond, drop, eqb, eqb-true, false, is_some, length, refl, subst, suc, sym, take, true, true≢false, unwrap_or, ℕ}
use Rattle.base.proofs.Exports.{bytes_eq-Decides, list_all, option_map_or, pointwise, prefix_len, starts_with}
use Rattle.clap.proofs.WalkLemmas.{both}
use Rattle.command_line.specs.Exports.{ArgumentOptionCut, cut_net_option_argument, cut_argument_options, cut_argument_option_pair, cut_quiet_argument, is_name_argument, joined_net_argument, net_argument_then_quiet, quiet_argument_then_net}

-- an option, as it is written
pub data Given : Type 0 where
  joined : List ℕ → Given
  pair : List ℕ → Given
  quiet : Given

abbrev pub spell : Given → List (List ℕ)
spell (joined net) = (codes "--net=" ++ net) ∷ []
spell (pair net) = codes "--net" ∷ net ∷ []
spell quiet = codes "--quiet" ∷ []

abbrev pub spelled : List Given → List (List ℕ)
spelled [] = []
spelled (g ∷ gs) = spell g ++ spelled gs

abbrev pub is_good : Given → Bool
is_good (joined net) = true
is_good (pair net) = is_name_argument net
is_good quiet = true

-- options that give this network and this flag, in one of their orders
abbrev pub net_given : Bool → List ℕ → Given
net_given true net = joined net
net_given false net = pair net

abbrev pub given_in : Bool → Bool → Option (List ℕ) → Bool → List Given
given_in first form None false = []
given_in first form None true = quiet ∷ []
given_in first form (Some net) false = net_given form net ∷ []
given_in true form (Some net) true = net_given form net ∷ quiet ∷ []
given_in false form (Some net) true = quiet ∷ net_given form net ∷ []

-- the arguments that were cut are options, and then the rest
pub record IsCut (all : List (List ℕ)) (cut : ArgumentOptionCut) : Type 0 where
  pub first : Bool
  pub form : Bool
  pub args : all ≡ spelled (given_in first form cut.net cut.quiet) ++ cut.args
  pub good : list_all is_good (given_in first form cut.net cut.quiet) ≡ true

prefix_is : (needle xs : List ℕ) → pointwise eqb needle (take (length needle) xs) ≡ true
    → xs ≡ needle ++ drop (length needle) xs
prefix_is [] xs e = refl
prefix_is (n ∷ ns) [] e = absurd (true≢false (sym e))
prefix_is (n ∷ ns) (x ∷ xs) e = let p = both (eqb n x) _ e in
    ap₂ (λ y ys. y ∷ ys) (sym (eqb-true n x p.0)) (prefix_is ns xs p.1)

cut_or : Option (List ℕ × List (List ℕ)) → List ℕ × List (List ℕ)
cut_or None = ([], [])
cut_or (Some p) = p

-- a network's option that was cut, and its form
pub record IsNetCut (all : List (List ℕ)) (net : List ℕ) (rest : List (List ℕ)) : Type 0 where
  pub form : Bool
  pub args : all ≡ spell (net_given form net) ++ rest
  pub good : is_good (net_given form net) ≡ true

joined_is : (arg net : List ℕ) → joined_net_argument arg ≡ Some net → arg ≡ codes "--net=" ++ net
joined_is arg net e = go (starts_with eqb arg (codes "--net=")) refl e where
  go : (b : Bool) → starts_with eqb arg (codes "--net=") ≡ b
      → cond (b && is_name_argument (drop 6 arg)) (Some (drop 6 arg)) None ≡ Some net
      → arg ≡ codes "--net=" ++ net
  go false s e = absurd (true≢false (ap is_some (sym e)))
  go true s e = named (is_name_argument (drop 6 arg)) e where
    named : (b : Bool) → cond b (Some (drop 6 arg)) None ≡ Some net
        → arg ≡ codes "--net=" ++ net
    named false e = absurd (true≢false (ap is_some (sym e)))
    named true e = prefix_is (codes "--net=") arg s
        ∙ ap (λ text. codes "--net=" ++ text) (ap (λ o. unwrap_or o []) e)

pair_is : (option : List ℕ) (args : List (List ℕ)) (net : List ℕ) (rest : List (List ℕ))
    → cut_argument_option_pair option args ≡ Some (net, rest) → IsNetCut (option ∷ args) net rest
unfolding cut_or
pair_is option [] net rest e = absurd (true≢false (ap is_some (sym e)))
pair_is option (value ∷ args) net rest e = go (bytes_eq option (codes "--net")) refl e where
  go : (b : Bool) → bytes_eq option (codes "--net") ≡ b
      → cond {A = Option (List ℕ × List (List ℕ))} (b && is_name_argument value) (Some (value, args)) None
      ≡ Some (net, rest)
      → IsNetCut (option ∷ value ∷ args) net rest
  go false s e = absurd (true≢false (ap is_some (sym e)))
  go true s e = named (is_name_argument value) refl e where
    named : (b : Bool) → is_name_argument value ≡ b → cond {A = Option (List ℕ × List (List ℕ))} b
        (Some (value, args)) None ≡ Some (net, rest) → IsNetCut (option ∷ value ∷ args) net rest
    named false n e = absurd (true≢false (ap is_some (sym e)))
    named true n e = record {
      form = false;
      args = ap (λ o. o ∷ value ∷ args) ((bytes_eq-Decides option (codes "--net")).0 s)
          ∙ ap₂ (λ v ws. codes "--net" ∷ v ∷ ws) (ap (λ o. (cut_or o).0) e)
          (ap (λ o. (cut_or o).1) e);
      good = ap (λ o. is_name_argument (cut_or o).0) (sym e) ∙ n;
    }

net_cut : (args : List (List ℕ)) (net : List ℕ) (rest : List (List ℕ))
    → cut_net_option_argument args ≡ Some (net, rest) → IsNetCut args net rest
unfolding cut_or
net_cut [] net rest e = absurd (true≢false (ap is_some (sym e)))
net_cut (option ∷ args) net rest e = go (joined_net_argument option) refl e where
  go : (o : Option (List ℕ)) → joined_net_argument option ≡ o
      → option_map_or (λ n. Some (n, args)) o (cut_argument_option_pair option args) ≡ Some (net, rest)
      → IsNetCut (option ∷ args) net rest
  go None s e = pair_is option args net rest e
  go (Some value) s e = record {
    form = true;
    args = ap₂ (λ v ws. v ∷ ws) (joined_is option value s
        ∙ ap (λ o. codes "--net=" ++ (cut_or o).0) e)
        (ap (λ o. (cut_or o).1) e);
    good = refl;
  }

quiet_cut : (args rest : List (List ℕ)) → cut_quiet_argument args ≡ Some rest
    → args ≡ codes "--quiet" ∷ rest
quiet_cut [] rest e = absurd (true≢false (ap is_some (sym e)))
quiet_cut (option ∷ args) rest e = go (bytes_eq option (codes "--quiet")) refl e where
  go : (b : Bool) → bytes_eq option (codes "--quiet") ≡ b
      → cond b (Some args) None ≡ Some rest → option ∷ args ≡ codes "--quiet" ∷ rest
  go false s e = absurd (true≢false (ap is_some (sym e)))
  go true s e = ap₂ (λ o ws. o ∷ ws) ((bytes_eq-Decides option (codes "--quiet")).0 s)
      (ap (λ o. unwrap_or o []) e)

form_good : (form : Bool) (net : List ℕ) (more : Bool) → is_good (net_given form net) ≡ true
    → more ≡ true → (is_good (net_given form net) && more) ≡ true
form_good form net more e m = rw (e, m) refl

pub quiet_and_net_is : (args : List (List ℕ))
    → IsCut (codes "--quiet" ∷ args) (quiet_argument_then_net args)
quiet_and_net_is args = go (cut_net_option_argument args) refl where
  go : (o : Option (List ℕ × List (List ℕ))) → cut_net_option_argument args ≡ o
      → IsCut (codes "--quiet" ∷ args) (elim o [
        | None ↦ record { net = None; quiet = true; args = args }
        | Some found ↦ record { net = Some found.0; quiet = true; args = found.1 }
      ])
  go None e = record { first = true; form = true; args = refl; good = refl }
  go (Some found) e = let net = net_cut args found.0 found.1 e in record {
    first = false;
    form = net.form;
    args = ap (λ ws. codes "--quiet" ∷ ws) (net.args
        ∙ ap (λ ws. ws ++ found.1) (sym (append-nil (spell (net_given net.form found.0)))));
    good = form_good net.form found.0 true net.good refl;
  }

pub net_and_quiet_is : (form : Bool) (net : List ℕ) (args : List (List ℕ))
    → is_good (net_given form net) ≡ true
    → IsCut (spell (net_given form net) ++ args) (net_argument_then_quiet net args)
net_and_quiet_is form net args good = go (cut_quiet_argument args) refl where
  spelling : List (List ℕ)
  spelling = spell (net_given form net)

  go : (o : Option (List (List ℕ))) → cut_quiet_argument args ≡ o
      → IsCut (spell (net_given form net) ++ args) (elim o [
        | None ↦ record { net = Some net; quiet = false; args = args }
        | Some rest ↦ record { net = Some net; quiet = true; args = rest }
      ])
  go None e = record {
    first = true;
    form = form;
    args = ap (λ ws. ws ++ args) (sym (append-nil (spell (net_given form net))));
    good = form_good form net true good refl;
  }
  go (Some rest) e = record {
    first = true;
    form = form;
    args = ap (λ ws. spell (net_given form net) ++ ws) (quiet_cut args rest e)
        ∙ sym (append_assoc (spell (net_given form net)) (codes "--quiet" ∷ []) rest);
    good = form_good form net true good refl;
  }

pub cut_is : (args : List (List ℕ)) → IsCut args (cut_argument_options args)
cut_is args = go (cut_quiet_argument args) refl where
  after_net : (o : Option (List ℕ × List (List ℕ))) → cut_net_option_argument args ≡ o → IsCut args (elim o [
    | None ↦ record { net = None; quiet = false; args = args }
    | Some found ↦ net_argument_then_quiet found.0 found.1
  ])
  after_net None e = record { first = true; form = true; args = refl; good = refl }
  after_net (Some found) e = let net = net_cut args found.0 found.1 e in
      subst (λ ws. IsCut ws (net_argument_then_quiet found.0 found.1)) (sym net.args)
      (net_and_quiet_is net.form found.0 found.1 net.good)

  go : (o : Option (List (List ℕ))) → cut_quiet_argument args ≡ o → IsCut args (elim o [
    | Some rest ↦ quiet_argument_then_net rest
    | None ↦ elim (cut_net_option_argument args) [
      | None ↦ record { net = None; quiet = false; args = args }
      | Some found ↦ net_argument_then_quiet found.0 found.1
    ]
  ])
  go None e = after_net (cut_net_option_argument args) refl
  go (Some rest) e = rw (quiet_cut args rest e) (quiet_and_net_is rest)

-- ---- names

pub names_good : (args : List (List ℕ))
    → list_all is_name_argument (take (prefix_len is_name_argument args) args) ≡ true
names_good [] = refl
names_good (arg ∷ args) = go (is_name_argument arg) refl (names_good args) where
  go : (b : Bool) → is_name_argument arg ≡ b
      → list_all is_name_argument (take (prefix_len is_name_argument args) args) ≡ true
      → list_all is_name_argument (take (cond b (1 + prefix_len is_name_argument args) 0) (arg ∷ args)) ≡ true
  go false e rest = refl
  go true e rest =
      let one : 1 + prefix_len is_name_argument args ≡ suc (prefix_len is_name_argument args) = omega arith in
      rw (one, e) rest
