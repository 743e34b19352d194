-- How long printed forms are: each has a bound, and the bounds of successive parts are added.
use Rattle.std.proofs.Common.{[], if◌then◌else◌, ◌%◌, ◌*◌, ◌++◌, ◌+◌, ◌/◌, ◌<◌, ◌==◌, ◌^◌, ◌∷◌, ◌≡◌, ◌≤◌, ◌⊎◌, List, None, Option, Some, arith, codes, decimal, false, get_or, inl, inr, length, length-append, slice_get, subst, suc, true, zero, ℕ}
use Rattle.std.specs.Fmt.{digit_glyph}
use Rattle.std.proofs.lemmas.Fmt.{length-decimal-le}
use Rattle.std.proofs.lemmas.List.Elements.{All-get_or}
use Rattle.std.proofs.lemmas.Option.{slice_get_cases}
use Rattle.five_tuple.specs.Exports.{IsHeader, address_text, header_fields_text, proto_number_text}
use Rattle.five_tuple.specs.declared.header.Header.{Header}
use Rattle.net_file.specs.Exports.{IsNet, IsNetSwitchRow, NetNameLaws, net_switch_name_of, net_switch_names_text}
use Rattle.net_file.specs.declared.net.Net.{Net}
use Rattle.net_file.specs.declared.net.SwitchRow.{SwitchRow}
use Rattle.policy_rules.specs.Exports.{policy_action_text, policy_rule_text}
use Rattle.policy_rules.specs.declared.policy.Action.{Action}
use Rattle.policy_rules.specs.declared.policy.Action.TheVariants.{Drop, Out}
use Rattle.ternary.specs.Exports.{WordValue, word_hex_digits, ternary_word_text}
use Rattle.lines.specs.Sizes.{IsPrintedLineAction, IsNumberInPrintedLine, IsPrintedLineRule}

-- at most so many bytes
pub record IsWithin (most : ℕ) (text : List ℕ) : Type 0 where
  pub size : length text ≤ most

pub all_of : (text : List ℕ) → IsWithin (length text) text
all_of text = record { size = omega arith }

pub joined_within : {m n : ℕ} {xs ys : List ℕ} → IsWithin m xs → IsWithin n ys → IsWithin (m + n) (xs ++ ys)
joined_within {xs = xs} {ys = ys} a b =
    record { size = omega (arith, a.size, b.size, length-append xs ys) }

pub with_text : {m : ℕ} {xs : List ℕ} → IsWithin m xs → (text : List ℕ)
    → IsWithin (m + length text) (xs ++ text)
with_text a text = joined_within a (all_of text)

pub widened : {m : ℕ} {xs : List ℕ} → IsWithin m xs → (n : ℕ) → m ≤ n → IsWithin n xs
widened a n le = record { size = omega (arith, a.size, le) }

-- ---- numbers, rules, actions

pub number : (n : ℕ) → IsNumberInPrintedLine n → IsWithin 10 (decimal n)
number n small = record {
  size = length-decimal-le 10 n (omega arith) (omega (arith, small)) (omega (arith, small));
}

pub rule_within : (rule : Option ℕ) → IsPrintedLineRule rule → IsWithin 10 (policy_rule_text rule)
rule_within (Some priority) is = number priority is
rule_within None is = widened (all_of (codes "default")) 10 (omega arith)

pub action_within : (action : Action) → IsPrintedLineAction action → IsWithin 14 (policy_action_text action)
action_within (Out port) is =
    joined_within (all_of (codes "out:")) (number port is)
action_within Drop is = widened (all_of (codes "drop")) 14 (omega arith)

-- ---- headers and words

address_within : (a : ℕ) → a < 2 ^ 32 → IsWithin 43 (address_text a)
unfolding address_text
address_within a small = joined_within (number (a / 2 ^ 24) (omega (arith, small)))
    (joined_within (all_of (46 ∷ [])) (joined_within (number (a / 2 ^ 16 % 2 ^ 8) (omega arith))
    (joined_within (all_of (46 ∷ [])) (joined_within (number (a / 2 ^ 8 % 2 ^ 8) (omega arith))
    (joined_within (all_of (46 ∷ [])) (number (a % 2 ^ 8) (omega arith)))))))

proto_within : (n : ℕ) → n < 2 ^ 8 → IsWithin 10 (proto_number_text n)
unfolding proto_number_text
proto_within n small =
    elim (n == 1) as (λ b. IsWithin 10 (if b then codes "icmp" else
    (if n == 6 then codes "tcp" else (if n == 17 then codes "udp" else decimal n)))) [
      | true ↦ widened (all_of (codes "icmp")) 10 (omega arith)
      | false ↦ elim (n == 6) as (λ b. IsWithin 10 (if b then codes "tcp" else
          (if n == 17 then codes "udp" else decimal n))) [
            | true ↦ widened (all_of (codes "tcp")) 10 (omega arith)
            | false ↦ elim (n == 17) as (λ b. IsWithin 10 (if b then codes "udp" else decimal n)) [
              | true ↦ widened (all_of (codes "udp")) 10 (omega arith)
              | false ↦ number n (omega (arith, small))
            ]
          ]
    ]

pub fields_within : (header : Header) → IsHeader header → IsWithin 200 (header_fields_text header.fields)
unfolding header_fields_text
fields_within header is =
    widened (joined_within (address_within header.fields.src is.src) (joined_within (all_of (32 ∷ []))
    (joined_within (address_within header.fields.dst is.dst) (joined_within (all_of (32 ∷ []))
    (joined_within (number header.fields.sport (omega (arith, is.sport))) (joined_within (all_of (32 ∷ []))
    (joined_within (number header.fields.dport (omega (arith, is.dport))) (joined_within (all_of (32 ∷ []))
    (proto_within header.fields.proto is.proto))))))))) 200 (omega arith)

one_byte : (byte : ℕ) → IsWithin 1 (byte ∷ [])
one_byte byte = record { size = omega arith }

digits_within : (count n : ℕ) → IsWithin count (word_hex_digits count n)
unfolding word_hex_digits
digits_within zero n = record { size = omega arith }
digits_within (suc count) n =
    widened (joined_within (digits_within count (n / 16)) (one_byte (digit_glyph false (n % 16))))
    (suc count) (omega arith)

pub word_within : (w : WordValue) → IsWithin 53 (ternary_word_text w)
unfolding ternary_word_text
word_within w = joined_within (digits_within 26 w.value)
    (joined_within (all_of (47 ∷ [])) (digits_within 26 w.mask))

-- ---- names

module _ (laws : NetNameLaws) (net : Net) (sound : IsNet net) where
  pub name_within : (s : ℕ) → IsWithin 16 (net_switch_name_of net s)
  name_within s = by (slice_get_cases net.switches s).1 where
    by : ((row : SwitchRow) × (s < length net.switches) × (slice_get net.switches s ≡ Some row)
        × (get_or net.switches s row ≡ row))
        ⊎ ((length net.switches ≤ s) × (slice_get net.switches s ≡ None))
        → IsWithin 16 (net_switch_name_of net s)
    by (inl w) =
        let is : IsNetSwitchRow w.0 = subst IsNetSwitchRow w.3
        (All-get_or IsNetSwitchRow net.switches s w.0 w.1 sound.switches) in
        rw w.2 (record { size = (laws.size w.0.name is.name).1 })
    by (inr w) = rw w.1 (record { size = omega arith })

  -- each name takes 17 bytes with its blank
  pub names_within : (list : List ℕ) → IsWithin (length list * 17) (net_switch_names_text net list)
  names_within [] = record { size = omega arith }
  names_within (s ∷ list) =
      widened (joined_within (joined_within (all_of (codes " ")) (name_within s)) (names_within list))
      (length (s ∷ list) * 17) (omega arith)
