-- Ports one by one, with the mask of those before.
use Rattle.std.proofs.Common.{[], ◌&&◌, ◌++◌, ◌^◌, ◌||◌, ◌∙◌, ◌∷◌, ◌≡◌, Bool, List, None, Ok, Some, ap, arith, bit_or, codes, false, filter_map, is_some, map, nat_eq, not, refl, sym, true, ℕ}
use Rattle.base.proofs.Exports.{list_all, list_all-map, list_any, list_any-append, nat_tests, or-false}
use Rattle.toml.specs.Data.{Data, Members, as_integer, get_member}
use Rattle.toml.specs.View.{view}
use Rattle.toml.specs.declared.value.Value.{Value}
use Rattle.net_file.specs.Exports.{IsNetPortMask, are_distinct_net_ports, are_new_net_ports, toml_array_in, net_switch_has_port, net_switches_have_port, toml_port_read, net_switch_ports_at, require_net_value}
use Rattle.net_file.specs.declared.net.SwitchRow.{SwitchRow}
use Rattle.net_file.specs.declared.error.NetRefusal.TheVariants as refusal
use Rattle.net_file.proofs.NetFilePortMasks.{in_mask, in_mask_with}

-- no port is in the mask, nor among the ports before it
abbrev pub are_fresh : ℕ → List ℕ → Bool
are_fresh mask [] = true
are_fresh mask (port ∷ ports) = not (in_mask mask port) && are_fresh (bit_or mask (2 ^ port)) ports

or_swap : (a b c d : Bool) → ((a || b) || (c || d)) ≡ ((a || c) || (b || d))
or_swap true b c d = refl
or_swap false true true d = refl
or_swap false true false d = refl
or_swap false false c d = refl

eqb_turn : (a b : ℕ) → nat_eq a b ≡ nat_eq b a
eqb_turn a b = grind (arith, nat_tests)

any_with : (mask p : ℕ) (ports : List ℕ) → list_any (in_mask (bit_or mask (2 ^ p))) ports
    ≡ (list_any (in_mask mask) ports || list_any (nat_eq p) ports)
any_with mask p [] = refl
any_with mask p (q ∷ ports) = rw (in_mask_with mask p q, any_with mask p ports, eqb_turn q p)
    (or_swap (in_mask mask q) (nat_eq p q) (list_any (in_mask mask) ports)
    (list_any (nat_eq p) ports))

one_more : (taken distinct seen again : Bool) → (not taken && (distinct && not (seen || again)))
    ≡ ((not again && distinct) && not (taken || seen))
one_more true true seen true = refl
one_more true true seen false = refl
one_more true false seen true = refl
one_more true false seen false = refl
one_more false true true true = refl
one_more false true true false = refl
one_more false true false true = refl
one_more false true false false = refl
one_more false false seen true = refl
one_more false false seen false = refl

pub are_fresh_is : (mask : ℕ) (ports : List ℕ)
    → are_fresh mask ports ≡ (are_distinct_net_ports ports && not (list_any (in_mask mask) ports))
are_fresh_is mask [] = refl
are_fresh_is mask (p ∷ ports) = rw (are_fresh_is (bit_or mask (2 ^ p)) ports, any_with mask p ports)
    (one_more (in_mask mask p) (are_distinct_net_ports ports) (list_any (in_mask mask) ports)
    (list_any (nat_eq p) ports))

pub any_same : (s t : ℕ → Bool) (ports : List ℕ) → ((k : ℕ) → s k ≡ t k)
    → list_any s ports ≡ list_any t ports
any_same s t [] same = refl
any_same s t (p ∷ ports) same = rw (same p, any_same s t ports same) refl

-- the ports of an array are new where they are fresh behind the mask of the earlier switches
pub are_new_is : (taken : ℕ) (earlier : List SwitchRow) (ports : List ℕ)
    → IsNetPortMask taken (net_switches_have_port earlier) → are_new_net_ports earlier ports ≡ are_fresh taken ports
are_new_is taken earlier ports mask =
    sym (are_fresh_is taken ports ∙ ap (λ b. are_distinct_net_ports ports && not b)
    (any_same (in_mask taken) (net_switches_have_port earlier) ports mask))

pub fresh_next : (mask p : ℕ) (ports : List ℕ) → in_mask mask p ≡ false → are_fresh mask (p ∷ ports)
    ≡ are_fresh (bit_or mask (2 ^ p)) ports
fresh_next mask p ports e = rw e refl

pub fresh_stop : (mask p : ℕ) (ports : List ℕ) → in_mask mask p ≡ true → are_fresh mask (p ∷ ports)
    ≡ false
fresh_stop mask p ports e = rw e refl

or_assoc : (a b c : Bool) → (a || (b || c)) ≡ ((a || b) || c)
or_assoc true b c = refl
or_assoc false b c = refl

pub any_next : (mask p : ℕ) (ports : List ℕ) (k : ℕ)
    → (in_mask mask k || list_any (nat_eq k) (p ∷ ports))
    ≡ (in_mask (bit_or mask (2 ^ p)) k || list_any (nat_eq k) ports)
any_next mask p ports k = or_assoc (in_mask mask k) (nat_eq k p) (list_any (nat_eq k) ports)
    ∙ ap (λ b. b || list_any (nat_eq k) ports) (sym (in_mask_with mask p k))

-- the ports of the values from one on
pub ports_more : (ds more : List Data) (d : Data) (p : ℕ) → ds ≡ d ∷ more → Some p ≡ toml_port_read d
    → filter_map toml_port_read ds ≡ p ∷ filter_map toml_port_read more
ports_more ds more d p split is = rw (split, ← is) refl

pub ports_less : (ds more : List Data) (d : Data) → ds ≡ d ∷ more → None ≡ toml_port_read d
    → filter_map toml_port_read ds ≡ filter_map toml_port_read more
ports_less ds more d split is = rw (split, ← is) refl

pub have_port_push : (rows : List SwitchRow) (row : SwitchRow) (k : ℕ)
    → net_switches_have_port (rows ++ row ∷ []) k ≡ (net_switches_have_port rows k || net_switch_has_port k row)
have_port_push rows row k = list_any-append (net_switch_has_port k) rows (row ∷ [])
    ∙ ap (λ b. net_switches_have_port rows k || b) (or-false (net_switch_has_port k row))

-- what the checks of the array `ports` say of its values
pub ports_tested : (table : Members) (d : Data) (vs : List Value) (integers ports : Bool)
    → Some d ≡ get_member (codes "ports") table → toml_array_in d ≡ Ok (map view vs)
    → integers ≡ list_all (λ v. is_some (as_integer (view v))) vs
    → ports ≡ list_all (λ v. is_some (toml_port_read (view v))) vs
    → net_switch_ports_at table ≡ require_net_value integers refusal.WrongType
    (require_net_value ports refusal.Range (Ok (filter_map toml_port_read (map view vs))))
ports_tested table d vs integers ports there values are_integers are_ports = rw (
  ← there,
  values,
  list_all-map (λ port. is_some (as_integer port)) view vs,
  list_all-map (λ port. is_some (toml_port_read port)) view vs,
  are_integers,
  are_ports,
) refl
