-- The word of a row and of two blocks: it is a word, and it holds what the row matches on the ports
-- of the blocks.
use Rattle.std.proofs.Common.{◌&&◌, ◌*◌, ◌-◌, ◌/◌, ◌<◌, ◌^◌, ◌∙◌, ◌≡◌, ap, arith, bit_and, eqb, mul-div_cancel, pow_pos, refl, sym, ℕ, rules}
use Rattle.base.proofs.Exports.{Decides-eqb, Decides-like, and_high_mask, and_zero_r, nat_tests, same_from_decides, shr_split}
use Rattle.five_tuple.specs.Exports.{AddressBlock, TuplePortBlock, IsAddressBlock, IsHeader, IsTuplePortBlock, IsProtocol, tuple_port_block_holds, header_fields_of, header_number_of, address_prefix_matches, proto_matches}
use Rattle.five_tuple.specs.declared.header.Header.{Header}
use Rattle.five_tuple.specs.declared.matching.Proto.{Proto}
use Rattle.five_tuple.specs.declared.matching.Proto.TheVariants.{Any, Is}
use Rattle.ternary.specs.Exports.{IsWord, holds}
use Rattle.policy_rules.specs.declared.policy.Row.{Row}
use Rattle.policy_rules.specs.Exports.{IsSoundPolicyRow, policy_rule_prefix_mask, policy_rule_proto_mask, policy_rule_proto_value, word_of_policy_row}
use Rattle.five_tuple.proofs.FiveTupleCallerLemmas.{HasBits, and_packed, masked_packed}

-- the address of a block has no bit past those that the block fixes
prefix_within : (p : AddressBlock) → IsAddressBlock p → bit_and p.address (policy_rule_prefix_mask p)
    ≡ p.address
prefix_within p block = let k = 32 - p.len in
    and_high_mask 32 k (omega arith) p.address block.address
    ∙ omega (arith, shr_split p.address k, block.cleared)

mask_bound : (p : AddressBlock) → policy_rule_prefix_mask p < 2 ^ 32
mask_bound p = omega (arith, pow_pos (32 - p.len))

-- an address has the block's bits under its mask where it is in the block
pub masked_prefix : (p : AddressBlock) (address : ℕ) → IsAddressBlock p → address < 2 ^ 32
    → eqb (bit_and address (policy_rule_prefix_mask p)) p.address ≡ address_prefix_matches p address
masked_prefix p address block bound =
    let k = 32 - p.len in
    let pos = pow_pos k in
    let whole : p.address / 2 ^ k * 2 ^ k ≡ p.address = omega (arith, shr_split, block.cleared) in
    ap (λ n. eqb n p.address) (and_high_mask 32 k (omega arith) address bound)
    ∙ same_from_decides _ _
    (Decides-like _ (λ e. sym (mul-div_cancel (address / 2 ^ k) pos) ∙ ap (λ n. n / 2 ^ k) e)
    (λ e. ap (λ q. q * 2 ^ k) e ∙ whole) (Decides-eqb (address / 2 ^ k * 2 ^ k) p.address))
    (Decides-eqb (address / 2 ^ k) (p.address / 2 ^ k))

proto_within : (p : Proto) → IsProtocol p → bit_and (policy_rule_proto_value p) (policy_rule_proto_mask p) ≡ policy_rule_proto_value p
proto_within Any small = refl
proto_within (Is n) small = and_high_mask 8 0 (omega arith) n small ∙ omega arith

proto_bound : (p : Proto) → IsProtocol p → (policy_rule_proto_value p < 2 ^ 8) × (policy_rule_proto_mask p < 2 ^ 8)
proto_bound p small = search rules

pub eqb_sym : (p q : ℕ) → eqb p q ≡ eqb q p
eqb_sym p q = grind (arith, nat_tests)

masked_proto : (p : Proto) (number : ℕ) → IsProtocol p → number < 2 ^ 8
    → eqb (bit_and number (policy_rule_proto_mask p)) (policy_rule_proto_value p) ≡ proto_matches p number
masked_proto Any number small bound = ap (λ n. eqb n 0) (and_zero_r number)
masked_proto (Is this) number small bound =
    ap (λ n. eqb n this) (and_high_mask 8 0 (omega arith) number bound ∙ omega arith)
    ∙ eqb_sym number this

value_bits : (row : Row) (source destination : TuplePortBlock) → IsSoundPolicyRow row → IsTuplePortBlock source
    → IsTuplePortBlock destination → HasBits row.dst.address source.0 destination.0
    (policy_rule_proto_value row.proto)
value_bits row source destination sound s d = search (rules, proto_bound)

mask_bits : (row : Row) (source destination : TuplePortBlock) → IsSoundPolicyRow row → IsTuplePortBlock source
    → IsTuplePortBlock destination → HasBits (policy_rule_prefix_mask row.dst) source.1 destination.1
    (policy_rule_proto_mask row.proto)
mask_bits row source destination sound s d = search (rules, mask_bound, proto_bound)

-- no bit of the value is outside the mask, and the mask has the bits of a header's number
pub IsWord-word_of_row : (row : Row) (source destination : TuplePortBlock) → IsSoundPolicyRow row
    → IsTuplePortBlock source → IsTuplePortBlock destination → IsWord (word_of_policy_row row source destination)
unfolding word_of_policy_row
IsWord-word_of_row row source destination sound s d =
    search (rules, mask_bits, and_packed, value_bits, prefix_within, proto_within, mask_bound)

-- the word holds a header that the row matches by addresses and protocol, with ports in the blocks
pub holds-word_of_row : (row : Row) (source destination : TuplePortBlock) (h : Header) → IsSoundPolicyRow row
    → IsTuplePortBlock source → IsTuplePortBlock destination → IsHeader h →
    holds (word_of_policy_row row source destination) (header_number_of h)
    ≡ (address_prefix_matches row.src (header_fields_of h).src && address_prefix_matches row.dst (header_fields_of h).dst
    && tuple_port_block_holds (header_fields_of h).sport source && tuple_port_block_holds (header_fields_of h).dport destination
    && proto_matches row.proto (header_fields_of h).proto)
unfolding word_of_policy_row holds
holds-word_of_row row source destination h sound s d bits =
    let f = header_fields_of h in
    let w = word_of_policy_row row source destination in
    let header : HasBits f.dst f.sport f.dport f.proto =
    record { dst = bits.dst; sport = bits.sport; dport = bits.dport; proto = bits.proto } in
    let values = value_bits row source destination sound s d in
    ap (eqb (bit_and (header_number_of h) w.mask))
    (IsWord-word_of_row row source destination sound s d).within
    ∙ masked_packed f.src f.dst f.sport f.dport f.proto (policy_rule_prefix_mask row.src) (policy_rule_prefix_mask row.dst)
    source.1 destination.1 (policy_rule_proto_mask row.proto) row.src.address row.dst.address source.0
    destination.0 (policy_rule_proto_value row.proto) header (mask_bits row source destination sound s d) values
    ∙ rw (
      masked_prefix row.src f.src sound.src bits.src,
      masked_prefix row.dst f.dst sound.dst bits.dst,
      masked_proto row.proto f.proto sound.proto bits.proto,
    ) refl
