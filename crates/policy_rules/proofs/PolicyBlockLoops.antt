-- Loops over the blocks of a range.
use Rattle.std.proofs.Common.{◌∙◌, ◌≡◌, List, None, Option, Some, ap, length, map, map-id, subst, sym}
use Rattle.base.proofs.Exports.{Yields, YieldsFirst, YieldsList, YieldsList-end, YieldsList-from_first, YieldsList-turn}
use Rattle.five_tuple.proofs.FiveTupleCallerLemmas.{is_cover_of}
use Rattle.five_tuple.specs.Blocks.{tuple_port_blocks_left}
use Rattle.five_tuple.specs.Exports.{TuplePortBlock, IsTuplePortBlock, IsPortRange, PortRangeValue, port_range_cover_of}
use Rattle.five_tuple.specs.declared.port_blocks.Blocks.{Blocks}
use Rattle.ternary.specs.Exports.{WordValue}
use Rattle.policy_rules.specs.Exports.{word_of_policy_row}
use Rattle.policy_rules.specs.declared.policy.Row.{Row}

-- the words of a row for one block of its source ports
abbrev pub block_words : Row → TuplePortBlock → List WordValue
block_words row source = map (word_of_policy_row row source) (port_range_cover_of row.dport)

-- a loop that has passed the blocks `done`, at its next call
pub record IsAtBlock (range : PortRangeValue) (done : List TuplePortBlock) (next : Option TuplePortBlock) : Type 0
  where
    pub turn : IsPortRange range → (block : TuplePortBlock) → next ≡ Some block → IsTuplePortBlock block
    pub end : next ≡ None → done ≡ port_range_cover_of range

module _ (range : PortRangeValue) {start from : Blocks} (same : from ≡ start)
    (blocks : tuple_port_blocks_left start ≡ port_range_cover_of range) where
  road : YieldsList (YieldsFirst tuple_port_blocks_left) (λ x. x) from (port_range_cover_of range)
  road = YieldsList-from_first (λ x. x) tuple_port_blocks_left (port_range_cover_of range) (ap tuple_port_blocks_left same ∙ blocks)

  pub at_block : (done : List TuplePortBlock) (now : Blocks)
      → Yields (YieldsFirst tuple_port_blocks_left) from done now → (next : Option TuplePortBlock) (after : Blocks)
      → YieldsFirst tuple_port_blocks_left now next after → IsAtBlock range done next
  at_block done now yielded next after step = record {
    turn = λ sound block is.
        let turn = YieldsList-turn road done now yielded next after block is step in
        subst IsTuplePortBlock (sym turn.1) ((is_cover_of range sound).masked (length done) _ turn.0);
    end = λ is. sym (map-id done) ∙ (YieldsList-end road done now yielded next after is step).0;
  }
