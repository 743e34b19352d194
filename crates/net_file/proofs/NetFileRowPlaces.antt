-- The place of the first row that passes a test, and the laws of numbers, owners and links.
use Rattle.std.proofs.Common.{[], ◌&&◌, ◌<◌, ◌==◌, ◌∙◌, ◌∷◌, ◌≡◌, ◌≤◌, All, List, None, Option, Some, ap, arith, bytes_eq, codes, eqb-true, false, get_or, inl, inr, is_some, leb-true, length, nat_le, not, refl, slice_get, subst, suc, sym, true, zero, ℕ}
use Rattle.base.proofs.Exports.{Any-from_list_any, and_parts, both_ways, bytes_eq-Decides, cases_lt, false_from_ne_true, false≢true, get_or_from_slice_get, is_ascii_alphabetic, list_any_none, mask_of_lt, not-true, or_cases, or_comm, position-Some, position_at, position_none, position_row, slice_get_within, some_position}
use Rattle.net_file.specs.declared.net.SwitchRow.{SwitchRow}
use Rattle.net_file.specs.declared.net.LinkRow.{LinkRow}
use Rattle.net_file.specs.declared.net.Net.{Net}
use Rattle.net_file.specs.Exports.{AreNetSwitchesApart, IsNetLink, IsNet, IsPlainNetByte, IsNetSwitchRow, NetNameLaws, NetLinkLaws, NetPortLaws, are_linked_in_net, are_net_name_bytes, net_switch_has_port, net_switches_have_port, is_net_label, is_net_name, is_net_name_byte, net_link_joins, net_port_owner, port_mask}
use Rattle.net_file.proofs.NetFilePortMasks.{in_mask, in_mask_of, in_mask_past}

-- ---- places

no_switch : SwitchRow
no_switch = record { name = []; ports = 0; room = 0 }

no_port : (port : ℕ) (row : SwitchRow) → IsNetSwitchRow row → 64 ≤ port → net_switch_has_port port row ≡ false
no_port port row sound past = in_mask_past row.ports port sound.ports past

pub no_owner : (switches : List SwitchRow) (port : ℕ) → All IsNetSwitchRow switches → 64 ≤ port
    → net_port_owner switches port ≡ None
no_owner switches port sound past = position_none (net_switch_has_port port) switches
    (list_any_none (net_switch_has_port port) switches (λ k d within. no_port port _ (sound k d within) past))

-- ---- names

plain_byte : (byte : ℕ) → is_net_name_byte byte ≡ true → IsPlainNetByte byte
plain_byte byte h = record {
  no_comma = λ e. absurd (false≢true (rw e at h));
  no_blank = λ e. absurd (false≢true (rw e at h));
  no_line_feed = λ e. absurd (false≢true (rw e at h));
}

plain_letter : (byte : ℕ) → is_ascii_alphabetic byte ≡ true → IsPlainNetByte byte
plain_letter byte h = record {
  no_comma = λ e. absurd (false≢true (rw e at h));
  no_blank = λ e. absurd (false≢true (rw e at h));
  no_line_feed = λ e. absurd (false≢true (rw e at h));
}

plain_bytes : (bytes : List ℕ) → are_net_name_bytes bytes ≡ true → All IsPlainNetByte bytes
plain_bytes [] h k d within = absurd (omega arith)
plain_bytes (b ∷ bytes) h zero d within =
    plain_byte b (and_parts (is_net_name_byte b) (are_net_name_bytes bytes) h).0
plain_bytes (b ∷ bytes) h (suc k) d within = plain_bytes bytes
    (and_parts (is_net_name_byte b) (are_net_name_bytes bytes) h).1 k d (omega arith)

plain_label : (name : List ℕ) → is_net_label name ≡ true → All IsPlainNetByte name
plain_label [] h = absurd (false≢true h)
plain_label (b ∷ more) h = at where
  parts : (is_ascii_alphabetic b && are_net_name_bytes more ≡ true) × (nat_le (length more) 15 ≡ true)
  parts = and_parts (is_ascii_alphabetic b && are_net_name_bytes more) (nat_le (length more) 15) h

  letters : (is_ascii_alphabetic b ≡ true) × (are_net_name_bytes more ≡ true)
  letters = and_parts (is_ascii_alphabetic b) (are_net_name_bytes more) parts.0

  at : All IsPlainNetByte (b ∷ more)
  at zero d within = plain_letter b letters.0
  at (suc k) d within = plain_bytes more letters.1 k d (omega arith)

label_size : (name : List ℕ) → is_net_label name ≡ true → (1 ≤ length name) × (length name ≤ 16)
label_size [] h = absurd (false≢true h)
label_size (b ∷ more) h =
    let few = leb-true (length more) 15
    (and_parts (is_ascii_alphabetic b && are_net_name_bytes more) (nat_le (length more) 15) h).1 in
    (omega arith, omega (arith, few))

same_bytes : (bytes : List ℕ) → bytes_eq bytes bytes ≡ true
same_bytes bytes = (bytes_eq-Decides bytes bytes).1 refl

name_parts : (name : List ℕ) → is_net_name name ≡ true → (is_net_label name ≡ true)
    × (bytes_eq name (codes "controller") ≡ false)
name_parts name h =
    let (label, other) = and_parts (is_net_label name) (not (bytes_eq name (codes "controller"))) h in
    (label, not-true _ other)

earlier_apart : (net : Net) (s k : ℕ) (row : SwitchRow) → IsNet net
    → slice_get net.switches s ≡ Some row → k < s → AreNetSwitchesApart (get_or net.switches k row) row
earlier_apart net s k row sound there before = subst (AreNetSwitchesApart (get_or net.switches k row))
    (get_or_from_slice_get net.switches s row row there)
    (sound.apart k s row before (slice_get_within net.switches s row there))

pub names : NetNameLaws
names = record {
  plain = λ name h. plain_label name (name_parts name h).0;
  size = λ name h. label_size name (name_parts name h).0;
  not_controller = λ name h same. both_ways _ (name_parts name h).1
      ((bytes_eq-Decides name (codes "controller")).1 same);
  number = λ net s row sound there.
      position_at (λ (other : SwitchRow). bytes_eq other.name row.name) net.switches s row there
      (same_bytes row.name) (λ k before. (earlier_apart net s k row sound there before).names);
  named = λ switches name s e. let (row, there, same) =
      position_row (λ (row : SwitchRow). bytes_eq row.name name) switches s no_switch e in
      (row, there, (bytes_eq-Decides row.name name).0 same);
  below = λ switches name s e.
      (position-Some (λ (row : SwitchRow). bytes_eq row.name name) switches s no_switch e).0;
  some = λ switches name. some_position (λ (row : SwitchRow). bytes_eq row.name name) switches;
}

-- ---- ports

port_small : (net : Net) (port s : ℕ) → IsNet net → net_port_owner net.switches port ≡ Some s → port < 64
port_small net port s sound e = elim (cases_lt port 64) [
  | inl small ↦ small
  | inr past ↦ absurd (none_is_some (sym (no_owner net.switches port sound.switches past) ∙ e))
] where
  none_is_some : ◌≡◌ {A = Option ℕ} None (Some s) → ⊥
  none_is_some h = false≢true (ap is_some h)

port_bits : (net : Net) (port : ℕ) → IsNet net → in_mask (port_mask net.switches) port ≡ is_some
    (net_port_owner net.switches port)
port_bits net port sound = elim (cases_lt port 64) [
  | inl small ↦ in_mask_of (net_switches_have_port net.switches) port small
      ∙ sym (some_position (net_switch_has_port port) net.switches)
  | inr past ↦ in_mask_past _ port (mask_of_lt (net_switches_have_port net.switches)) past
      ∙ sym (ap is_some (no_owner net.switches port sound.switches past))
]

pub ports : NetPortLaws
ports = record {
  owner = λ net port s row sound there has. position_at (net_switch_has_port port) net.switches s row there has
      (λ k before. false_from_ne_true _ (λ shared. both_ways _
      ((earlier_apart net s k row sound there before).ports port shared) has));
  has = λ switches port s e. position_row (net_switch_has_port port) switches s no_switch e;
  below = λ switches port s e. (position-Some (net_switch_has_port port) switches s no_switch e).0;
  small = port_small;
  mask = port_bits;
}

-- ---- links

pub linked_turn : (links : List LinkRow) (s x : ℕ) → are_linked_in_net links s x ≡ are_linked_in_net links x s
linked_turn [] s x = refl
linked_turn (link ∷ links) s x = rw (
  or_comm (link.one == s && link.two == x) (link.one == x && link.two == s),
  linked_turn links s x,
) refl

not_joined : (count s : ℕ) (link : LinkRow) → IsNetLink count link → net_link_joins s s link ≡ false
not_joined count s link sound = false_from_ne_true _ (λ both.
    elim (or_cases (link.one == s && link.two == s) (link.one == s && link.two == s) both)
    [ inl here ↦ apart here | inr here ↦ apart here ])
  where
    apart : (link.one == s && link.two == s) ≡ true → ⊥
    apart here = let (one, two) = and_parts (link.one == s) (link.two == s) here in
        sound.apart (eqb-true link.one s one ∙ sym (eqb-true link.two s two))

pub joined_below : (count s x : ℕ) (link : LinkRow) → IsNetLink count link → net_link_joins s x link ≡ true
    → x < count
joined_below count s x link sound joined =
    elim (or_cases (link.one == s && link.two == x) (link.one == x && link.two == s) joined) [
      | inl ahead ↦ subst (λ n. n < count)
          (eqb-true link.two x (and_parts (link.one == s) (link.two == x) ahead).1) sound.two
      | inr back ↦ subst (λ n. n < count)
          (eqb-true link.one x (and_parts (link.one == x) (link.two == s) back).0) sound.one
    ]

linked_below : (net : Net) (s x : ℕ) → IsNet net → are_linked_in_net net.links s x ≡ true
    → x < length net.switches
linked_below net s x sound linked =
    let (place, link, within, here, joined) = Any-from_list_any (net_link_joins s x) net.links linked in
    joined_below (length net.switches) s x link
    (subst (IsNetLink (length net.switches)) here (sound.links place link within)) joined

pub links : NetLinkLaws
links = record {
  both_ways = linked_turn;
  not_itself = λ net s sound. list_any_none (net_link_joins s s) net.links
      (λ k d within. not_joined (length net.switches) s _ (sound.links k d within));
  below = linked_below;
  mask = λ net s sound k. elim (cases_lt k 64) [
    | inl small ↦ in_mask_of (are_linked_in_net net.links s) k small
    | inr past ↦ in_mask_past _ k (mask_of_lt (are_linked_in_net net.links s)) past
        ∙ sym (false_from_ne_true _ (λ linked. absurd
        (omega (arith, linked_below net s k sound linked, sound.few_switches))))
  ];
}
