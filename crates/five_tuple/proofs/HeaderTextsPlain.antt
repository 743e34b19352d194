-- Each printed form has plain characters alone.
use Rattle.std.proofs.Common.{◌%◌, ◌&&◌, ◌++◌, ◌/◌, ◌<◌, ◌==◌, ◌^◌, ◌∷◌, ◌≡◌, List, arith, codes, decimal, refl, true, ℕ, rules}
use Rattle.std.specs.Char.{is_ascii_digit}
use Rattle.std.specs.List.{AllPass, list_all}
use Rattle.std.proofs.lemmas.Bool.{cond_both, or_left}
use Rattle.std.proofs.lemmas.List.Elements.{All-append, All-cons, All-weaker}
use Rattle.std.proofs.lemmas.List.Sums.{AllPass-from_list_all}
use Rattle.five_tuple.specs.declared.matching.Proto.{Proto}
use Rattle.five_tuple.specs.Exports.{AddressBlock, IsAddressBlock, IsPortRange, IsProtocol, PortRangeValue, address_text, is_plain_tuple_char, address_prefix_text, proto_number_text, proto_text, port_range_text}
use Rattle.five_tuple.proofs.HeaderTextRoundTrip.{decimal_is_digits}

abbrev IsPlain : List ℕ → Type 0
IsPlain text = AllPass is_plain_tuple_char text

-- a text whose characters are tested one by one
plain_tested : (text : List ℕ) → list_all is_plain_tuple_char text ≡ true → IsPlain text
plain_tested text tested = AllPass-from_list_all is_plain_tuple_char text tested

digit_is_plain : (c : ℕ) → is_ascii_digit c ≡ true → is_plain_tuple_char c ≡ true
digit_is_plain c digit = or_left _ _ (or_left _ _ (or_left _ _ (or_left _ _ digit)))

pub plain_number : (n : ℕ) → n < 2 ^ 64 → IsPlain (decimal n)
plain_number n fits =
    All-weaker (λ c. is_ascii_digit c ≡ true) (λ c. is_plain_tuple_char c ≡ true) digit_is_plain
    (decimal n) (AllPass-from_list_all is_ascii_digit (decimal n) (decimal_is_digits n fits))

-- two texts and the byte between them
plain_pair : (byte : ℕ) (xs ys : List ℕ) → is_plain_tuple_char byte ≡ true → IsPlain xs → IsPlain ys
    → IsPlain (xs ++ (byte ∷ ys))
plain_pair byte xs ys between left right = All-append (λ c. is_plain_tuple_char c ≡ true) xs
    (byte ∷ ys) left (All-cons (λ c. is_plain_tuple_char c ≡ true) byte ys between right)

pub plain_address : (a : ℕ) → a < 2 ^ 32 → IsPlain (address_text a)
unfolding address_text
plain_address a fits = plain_pair 46 _ _ refl (plain_number (a / 2 ^ 24) (omega arith))
    (plain_pair 46 _ _ refl (plain_number (a / 2 ^ 16 % 2 ^ 8) (omega arith)) (plain_pair 46 _ _
    refl (plain_number (a / 2 ^ 8 % 2 ^ 8) (omega arith)) (plain_number (a % 2 ^ 8) (omega arith))))

pub plain_prefix : (p : AddressBlock) → IsAddressBlock p → IsPlain (address_prefix_text p)
unfolding address_prefix_text
plain_prefix p sound =
    cond_both (p.len == 0) _ _ IsPlain (λ _. plain_tested (codes "any") refl)
    (λ _. plain_pair 47 (address_text p.address) (decimal p.len) refl
    (plain_address p.address sound.address) (plain_number p.len (omega (arith, sound.len))))

pub plain_range : (r : PortRangeValue) → IsPortRange r → IsPlain (port_range_text r)
unfolding port_range_text
plain_range r sound = let low = plain_number r.low (omega (arith, sound.ordered, sound.bound)) in
    cond_both (r.low == 0 && r.high == 65535) _ _ IsPlain (λ _. plain_tested (codes "any") refl)
    (λ _. cond_both (r.low == r.high) _ _ IsPlain (λ _. low) (λ _. plain_pair 45 (decimal r.low)
    (decimal r.high) refl low (plain_number r.high (omega (arith, sound.bound)))))

pub plain_proto_number : (n : ℕ) → n < 2 ^ 8 → IsPlain (proto_number_text n)
unfolding proto_number_text
plain_proto_number n fits =
    cond_both (n == 1) _ _ IsPlain (λ _. plain_tested (codes "icmp") refl)
    (λ _. cond_both (n == 6) _ _ IsPlain (λ _. plain_tested (codes "tcp") refl)
    (λ _. cond_both (n == 17) _ _ IsPlain (λ _. plain_tested (codes "udp") refl)
    (λ _. plain_number n (omega arith))))

pub plain_proto : (p : Proto) → IsProtocol p → IsPlain (proto_text p)
unfolding proto_text
plain_proto p sound = search (rules, plain_tested, plain_proto_number)
