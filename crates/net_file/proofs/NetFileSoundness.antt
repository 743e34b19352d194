-- What a text states is a network.
use Rattle.std.proofs.Common.{[], if◌then◌else◌, ◌&&◌, ◌++◌, ◌+◌, ◌<◌, ◌==◌, ◌∙◌, ◌∷◌, ◌≡◌, ◌≤◌, All, AllPairs, Bool, Err, List, None, Ok, Option, Result, Some, ap, arith, bytes_eq, codes, eqb-true, false, inl, inr, is_ok, leb-true, length, length-append, ltb-true, nat_eq, nat_le, nat_lt, negsuc, not, ok_or, pos, refl, subst, sym, true, ℕ, ℤ}
use Rattle.base.proofs.Exports.{All-push, all_pairs_push, and_parts, both_ways, cases_lt, eqb-false, false_from_ne_true, false≢true, list_any, list_any_at, mask_of_lt, none_passes, not-true, ok_value, option_map_or, or_cases, or_parts, position-Some}
use Rattle.toml.specs.Data.{Data, Members, get_member, as_integer, as_str, as_table}
use Rattle.net_file.specs.declared.error.NetRefusal.{NetRefusal}
use Rattle.net_file.specs.declared.error.NetRefusal.TheVariants as refusal
use Rattle.net_file.specs.declared.net.SwitchRow.{SwitchRow}
use Rattle.net_file.specs.declared.net.LinkRow.{LinkRow}
use Rattle.net_file.specs.declared.net.Net.{Net}
use Rattle.net_file.specs.Exports.{AreNetSwitchesApart, AreOtherNetLinks, IsNetLink, IsNet, IsNetSwitchRow, are_distinct_net_ports, are_linked_in_net, are_new_net_ports, toml_array_in, net_value_at_key, toml_document_of, net_link_end_read, toml_ends_in, net_switch_has_port, have_net_switch_name, net_switches_have_port, is_net_name, net_link_joins, net_link_array, net_link_of, net_link_with, toml_name_in, net_of, net_read, net_number_or_default, toml_integer_stated, toml_number_within, net_value_of_type, toml_ports_in, require_net_value, net_rows_read, net_switch_array, net_switch_number_named, net_switch_read, net_switch_with, with_toml_value}
use Rattle.base.specs.Exports.{refusal_in_row, small_number_mask}
use Rattle.net_file.proofs.NetFilePortMasks.{in_mask, in_mask_of, in_mask_past}

-- ---- what led to a value

not_ok : {X E P : Type 0} (e : E) (y : X) → ◌≡◌ {A = Result X E} (Err e) (Ok y) → P
not_ok e y h = absurd (false≢true (ap is_ok h))

pub with_value_ok : {X Y E : Type 0} (r : Result X E) (next : X → Result Y E) (y : Y)
    → with_toml_value r next ≡ Ok y → (x : X) × (r ≡ Ok x) × (next x ≡ Ok y)
with_value_ok (Ok x) next y e = (x, refl, e)
with_value_ok (Err refusal) next y e = not_ok refusal y e

pub require_ok : {Y E : Type 0} (b : Bool) (refusal : E) (next : Result Y E) (y : Y)
    → require_net_value b refusal next ≡ Ok y → (b ≡ true) × (next ≡ Ok y)
require_ok true refusal next y e = (refl, e)
require_ok false refusal next y e = not_ok refusal y e

in_row_ok : {X : Type 0} (row : ℕ) (r : Result X NetRefusal) (x : X) → refusal_in_row row r ≡ Ok x
    → r ≡ Ok x
in_row_ok row (Ok y) x e = ap Ok (ok_value y x e)
in_row_ok row (Err refusal) x e = not_ok (record { refusal = refusal; row = row }) x e

-- ---- numbers and names

abbrev kept_if : Bool → ℕ → Result ℕ NetRefusal
kept_if b m = option_map_or Ok (if b then Some m else None) (Err refusal.Range)

in_range : (low high m n : ℕ) (b : Bool) → (nat_le low m && nat_le m high) ≡ b → kept_if b m ≡ Ok n
    → (low ≤ n) × (n ≤ high)
in_range low high m n true is e =
    let (from, to) = and_parts (nat_le low m) (nat_le m high) is in
    let same = ok_value m n e in
    (rw (← same) (leb-true low m from), rw (← same) (leb-true m high to))
in_range low high m n false is e = not_ok refusal.Range n e

within_range : (low high : ℕ) (z : ℤ) (n : ℕ) → toml_number_within low high z ≡ Ok n → (low ≤ n)
    × (n ≤ high)
within_range low high (pos m) n e = in_range low high m n (nat_le low m && nat_le m high) refl e
within_range low high (negsuc m) n e = not_ok refusal.Range n e

number_range : (low high : ℕ) (d : Data) (n : ℕ) → toml_integer_stated low high d ≡ Ok n → (low ≤ n)
    × (n ≤ high)
number_range low high d n e =
    let (z, is, rest) = with_value_ok (net_value_of_type (as_integer d)) (toml_number_within low high) n e in
    within_range low high z n rest

setting_range : (table : Members) (key : List ℕ) (low high default n : ℕ) → low ≤ default
    → default ≤ high → net_number_or_default table key low high default ≡ Ok n → (low ≤ n) × (n ≤ high)
setting_range table key low high default n from to e = at (get_member key table) e where
  at : (o : Option Data) → option_map_or (toml_integer_stated low high) o (Ok default) ≡ Ok n → (low ≤ n)
      × (n ≤ high)
  at None e = let same = ok_value default n e in (rw (← same) from, rw (← same) to)
  at (Some d) e = number_range low high d n e

name_is : (keys : Members) (key name : List ℕ) → net_value_at_key toml_name_in (Err refusal.MissingKey) keys key
    ≡ Ok name → is_net_name name ≡ true
name_is keys key name e = at (get_member key keys) e where
  at : (o : Option Data) → option_map_or toml_name_in o (Err refusal.MissingKey) ≡ Ok name
      → is_net_name name ≡ true
  at None e = not_ok refusal.MissingKey name e
  at (Some d) e =
      let (text, is, rest) = with_value_ok (net_value_of_type (as_str d))
      (λ text. require_net_value (is_net_name text) refusal.Range (Ok text)) name e in
      let (valid, same) = require_ok (is_net_name text) refusal.Range (Ok text) name rest in
      rw (← ok_value text name same) valid

-- ---- rows

-- what each step keeps is true of the rows in the end
rows_kept : {X : Type 0} (P : List X → Type 0)
    (base : ℕ) (read : List X → Data → Result X NetRefusal)
    → ((earlier : List X) (d : Data) (row : X) → P earlier → read earlier d ≡ Ok row
    → P (earlier ++ row ∷ [])) → (earlier : List X) (ds : List Data) (rows : List X) → P earlier
    → net_rows_read base read earlier ds ≡ Ok rows → P rows
rows_kept P base read step earlier [] rows start e = subst P (ok_value earlier rows e) start
rows_kept {X} P base read step earlier (d ∷ ds) rows start e = elim (read earlier d) as
    (λ (r : Result X NetRefusal). read earlier d ≡ r
    → with_toml_value (refusal_in_row (base + (length earlier + 1)) r)
    (λ row. net_rows_read base read (earlier ++ row ∷ []) ds) ≡ Ok rows → P rows) [
      | Ok row ↦ λ is h. rows_kept P base read step (earlier ++ row ∷ []) ds rows
          (step earlier d row start is) h
      | Err refusal ↦ λ is h. not_ok
          (record { refusal = refusal; row = base + (length earlier + 1) }) rows h
    ] refl e

-- each value states one row
rows_count : {X : Type 0} (base : ℕ) (read : List X → Data → Result X NetRefusal) (earlier : List X)
    (ds : List Data) (rows : List X) → net_rows_read base read earlier ds ≡ Ok rows
    → length rows ≡ length earlier + length ds
rows_count base read earlier [] rows e = rw (← ok_value earlier rows e) (omega arith)
rows_count {X} base read earlier (d ∷ ds) rows e = elim (read earlier d) as
    (λ (r : Result X NetRefusal). with_toml_value (refusal_in_row (base + (length earlier + 1)) r)
    (λ row. net_rows_read base read (earlier ++ row ∷ []) ds) ≡ Ok rows
    → length rows ≡ length earlier + length (d ∷ ds)) [
      | Ok row ↦ λ h. omega (
        arith,
        rows_count base read (earlier ++ row ∷ []) ds rows h,
        length-append earlier (row ∷ []),
      )
      | Err refusal ↦ λ h. not_ok (record { refusal = refusal; row = base + (length earlier + 1) })
          rows h
    ] e

-- ---- switches

-- a switch that shares nothing with the earlier ones
pub record IsNew (earlier : List SwitchRow) (row : SwitchRow) : Type 0 where
  pub switch : IsNetSwitchRow row
  pub name : have_net_switch_name earlier row.name ≡ false
  pub ports : (port : ℕ) → net_switch_has_port port row ≡ true → net_switches_have_port earlier port ≡ false

member_fails : (test : ℕ → Bool) (xs : List ℕ) (x : ℕ) → list_any test xs ≡ false
    → list_any (nat_eq x) xs ≡ true → test x ≡ false
member_fails test [] x none there = absurd (false≢true there)
member_fails test (y ∷ xs) x none there =
    let (first, more) = or_parts (test y) (list_any test xs) none in
    elim (or_cases (nat_eq x y) (list_any (nat_eq x) xs) there) [
      | inl same ↦ rw (eqb-true x y same) first
      | inr later ↦ member_fails test xs x more later
    ]

new_ports : (earlier : List SwitchRow) (ports : List ℕ) (port : ℕ) → are_new_net_ports earlier ports ≡ true
    → in_mask (small_number_mask (λ port. list_any (nat_eq port) ports)) port ≡ true
    → net_switches_have_port earlier port ≡ false
new_ports earlier ports port new has =
    let (distinct, none) = and_parts (are_distinct_net_ports ports) (not (list_any (net_switches_have_port earlier) ports))
    new in
    elim (cases_lt port 64) [
      | inl small ↦ member_fails (net_switches_have_port earlier) ports port (not-true _ none)
          (sym (in_mask_of (λ port. list_any (nat_eq port) ports) port small) ∙ has)
      | inr past ↦ absurd (both_ways _
          (in_mask_past _ port (mask_of_lt (λ port. list_any (nat_eq port) ports)) past) has)
    ]

switch_with_new : (earlier : List SwitchRow) (keys : Members) (row : SwitchRow)
    → net_switch_with earlier keys ≡ Ok row → IsNew earlier row
switch_with_new earlier keys row e =
    let (name, named, e1) = with_value_ok
    (net_value_at_key toml_name_in (Err refusal.MissingKey) keys (codes "name")) _ row e in
    let (ports, read, e2) = with_value_ok (net_value_at_key toml_ports_in (Ok []) keys (codes "ports")) _ row e1 in
    let (room, sized, e3) = with_value_ok (net_number_or_default keys (codes "authority") 0 8192 0) _
    row e2 in
    let (other, e4) = require_ok (not (have_net_switch_name earlier name)) refusal.DuplicateName _ row e3 in
    let (new, e5) = require_ok (are_new_net_ports earlier ports) refusal.DuplicatePort _ row e4 in
    subst (IsNew earlier) (ok_value _ row e5) (record {
      switch = record {
        name = name_is keys (codes "name") name named;
        ports = mask_of_lt (λ port. list_any (nat_eq port) ports);
        room = (setting_range keys (codes "authority") 0 8192 0 room (omega arith) (omega arith)
            sized).1;
      };
      name = not-true _ other;
      ports = λ port has. new_ports earlier ports port new has;
    })

switch_new : (earlier : List SwitchRow) (d : Data) (row : SwitchRow) → net_switch_read earlier d ≡ Ok row
    → IsNew earlier row
switch_new earlier d row e =
    let (keys, is, rest) = with_value_ok (net_value_of_type (as_table d)) (net_switch_with earlier) row e in
    switch_with_new earlier keys row rest

abbrev AreSwitches : List SwitchRow → Type 0
AreSwitches rows = All IsNetSwitchRow rows × AllPairs AreNetSwitchesApart rows

switches_push : (earlier : List SwitchRow) (d : Data) (row : SwitchRow) → AreSwitches earlier
    → net_switch_read earlier d ≡ Ok row → AreSwitches (earlier ++ row ∷ [])
switches_push earlier d row sound e = let new = switch_new earlier d row e in (
  All-push IsNetSwitchRow earlier row sound.0 new.switch,
  all_pairs_push AreNetSwitchesApart earlier row sound.1 (λ k x within. record {
    names = none_passes (λ other. bytes_eq other.name row.name) earlier k x within new.name;
    ports = λ port has. false_from_ne_true _ (λ shared. both_ways _ (new.ports port shared)
        (list_any_at (net_switch_has_port port) earlier k x within has));
  }),
)

-- ---- links

abbrev AreLinks : ℕ → List LinkRow → Type 0
AreLinks count links = All (IsNetLink count) links × AllPairs AreOtherNetLinks links

no_switch : SwitchRow
no_switch = record { name = []; ports = 0; room = 0 }

end_below : (switches : List SwitchRow) (name : List ℕ) (n : ℕ) → net_link_end_read switches name ≡ Ok n
    → n < length switches
end_below switches name n e = at (net_switch_number_named switches name) refl e where
  at : (o : Option ℕ) → net_switch_number_named switches name ≡ o → ok_or o refusal.UnknownName ≡ Ok n
      → n < length switches
  at None is h = not_ok refusal.UnknownName n h
  at (Some k) is h = rw (← ok_value k n h)
      (position-Some (λ (row : SwitchRow). bytes_eq row.name name) switches k no_switch is).0

-- a link that joins no switches that an earlier one joins
record IsNewLink (count : ℕ) (earlier : List LinkRow) (link : LinkRow) : Type 0 where
  pub sound : IsNetLink count link
  pub other : are_linked_in_net earlier link.one link.two ≡ false

link_new : (switches : List SwitchRow) (earlier : List LinkRow) (d : Data) (link : LinkRow)
    → net_link_of switches earlier d ≡ Ok link → IsNewLink (length switches) earlier link
link_new switches earlier d link e =
    let (keys, is, e0) = with_value_ok (net_value_of_type (as_table d)) (net_link_with switches earlier) link e in
    let (ends, read, e1) = with_value_ok
    (net_value_at_key toml_ends_in (Err refusal.MissingKey) keys (codes "ends")) _ link e0 in
    let (one, first, e2) = with_value_ok (net_link_end_read switches ends.0) _ link e1 in
    let (two, second, e3) = with_value_ok (net_link_end_read switches ends.1) _ link e2 in
    let (apart, e4) = require_ok (not (one == two)) refusal.SelfLink _ link e3 in
    let (other, e5) = require_ok (not (are_linked_in_net earlier one two)) refusal.DuplicateLink _ link
    e4 in
    subst (IsNewLink (length switches) earlier) (ok_value _ link e5) (record {
      sound = record {
        one = end_below switches ends.0 one first;
        two = end_below switches ends.1 two second;
        apart = eqb-false one two (not-true _ apart);
      };
      other = not-true _ other;
    })

links_push : (switches : List SwitchRow) (earlier : List LinkRow) (d : Data) (link : LinkRow)
    → AreLinks (length switches) earlier → net_link_of switches earlier d ≡ Ok link
    → AreLinks (length switches) (earlier ++ link ∷ [])
links_push switches earlier d link sound e = let new = link_new switches earlier d link e in (
  All-push (IsNetLink (length switches)) earlier link sound.0 new.sound,
  all_pairs_push AreOtherNetLinks earlier link sound.1
      (λ k x within. none_passes (net_link_joins link.one link.two) earlier k x within new.other),
)

-- ---- documents

switch_array_size : (table : Members) (ds : List Data) → net_switch_array table ≡ Ok ds
    → (1 ≤ length ds) × (length ds ≤ 64)
switch_array_size table ds e =
    let (read, is, e1) = with_value_ok
    (net_value_at_key toml_array_in (Err refusal.MissingKey) table (codes "switch")) _ ds e in
    let (few, e2) = require_ok (nat_le (length read) 64) refusal.TooMany _ ds e1 in
    let (some, e3) = require_ok (nat_lt 0 (length read)) refusal.Range _ ds e2 in
    rw (← ok_value read ds e3) (ltb-true 0 (length read) some, leb-true (length read) 64 few)

link_array_size : (table : Members) (ds : List Data) → net_link_array table ≡ Ok ds → length ds ≤ 256
link_array_size table ds e =
    let (read, is, e1) = with_value_ok (net_value_at_key toml_array_in (Ok []) table (codes "link")) _ ds e in
    let (few, e2) = require_ok (nat_le (length read) 256) refusal.TooMany _ ds e1 in
    rw (← ok_value read ds e2) (leb-true (length read) 256 few)

pub sound_net : (table : Members) (net : Net) → net_read table ≡ Ok net → IsNet net
sound_net table net e =
    let (leaf_rules, a, e1) =
    with_value_ok (refusal_in_row 0 (net_number_or_default table (codes "leaf_rules") 1 8192 64)) _ net e in
    let (backups, b, e2) = with_value_ok (refusal_in_row 0
    (net_number_or_default table (codes "backups") 0 3 0)) _ net
    e1 in
    let (cache, c, e3) = with_value_ok (refusal_in_row 0
    (net_number_or_default table (codes "cache") 0 65536 256)) _
    net e2 in
    let (switch_values, d, e4) = with_value_ok (refusal_in_row 0 (net_switch_array table)) _ net e3 in
    let (switches, f, e5) = with_value_ok (net_rows_read 0 net_switch_read [] switch_values) _ net e4 in
    let (link_values, g, e6) = with_value_ok (refusal_in_row 0 (net_link_array table)) _ net e5 in
    let (links, h, e7) = with_value_ok (net_rows_read 100 (net_link_of switches) [] link_values) _ net e6 in
    let rules = setting_range table (codes "leaf_rules") 1 8192 64 leaf_rules (omega arith)
    (omega arith) (in_row_ok 0 _ leaf_rules a) in
    let size = switch_array_size table switch_values (in_row_ok 0 _ switch_values d) in
    let count = rows_count 0 net_switch_read [] switch_values switches f in
    let sound = rows_kept AreSwitches 0 net_switch_read switches_push [] switch_values switches none_yet
    f in
    let sound_links = rows_kept (AreLinks (length switches)) 100 (net_link_of switches)
    (links_push switches) [] link_values links no_links_yet h in
    subst IsNet (ok_value _ net e7) (record {
      some_switch = omega (arith, size, count);
      few_switches = omega (arith, size, count);
      switches = sound.0;
      apart = sound.1;
      few_links = omega (
        arith,
        link_array_size table link_values (in_row_ok 0 _ link_values g),
        rows_count 100 (net_link_of switches) [] link_values links h,
      );
      links = sound_links.0;
      others = sound_links.1;
      some_rules = rules.0;
      leaf_rules = rules.1;
      backups = (setting_range table (codes "backups") 0 3 0 backups (omega arith) (omega arith)
          (in_row_ok 0 _ backups b)).1;
      cache = (setting_range table (codes "cache") 0 65536 256 cache (omega arith) (omega arith)
          (in_row_ok 0 _ cache c)).1;
    })
  where
    none_yet : AreSwitches []
    none_yet = (λ k x within. absurd (omega arith), λ i j x order within. absurd (omega arith))

    no_links_yet : {count : ℕ} → AreLinks count []
    no_links_yet = (λ k x within. absurd (omega arith), λ i j x order within. absurd (omega arith))

-- a text with a document states what the document does
pub net_of_document : (bytes : List ℕ) (table : Members) → toml_document_of bytes ≡ Some table
    → net_of bytes ≡ net_read table
unfolding net_of
net_of_document bytes table e = rw e refl

pub stated : (bytes : List ℕ) (net : Net) → net_of bytes ≡ Ok net → IsNet net
unfolding net_of
stated bytes net e =
    let (table, is, rest) = with_value_ok (refusal_in_row 0 (ok_or (toml_document_of bytes) refusal.Toml)) net_read
    net e in
    sound_net table net rest
