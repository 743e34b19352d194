use Rattle.std.proofs.Common.{◌∙◌, ◌≡◌, sym, ℕ, rules}
use Rattle.base.proofs.Exports.{keys_of, position_or_len}
use Rattle.indexmap.proofs.MapLemmas.{Missing-position}
use Rattle.switch_table.specs.Exports.{equal_cache_keys, cache_key_under}
use Rattle.switch_table.proofs.CacheSlotHits.{has_live, place_dead, place_live, place_missing, under_is_word}
use Rattle.switch_table.proofs.slots.cache_slot_place_under.Goals as goal
use Rattle.switch_table.proofs.slots.cache_slot_place_under.Goals.{After-unwrap-word, In-Some}

pub unwrap-word-requires : goal.unwrap-word-requires
unwrap-word-requires c = c.new.ensures.taken.1
    (under_is_word c.args.header c.mask-bits.result c.mask-bits.ensures.bound)

-- a place under the key that is looked up is one under the mask
under_mask : (c : After-unwrap-word) (place : ℕ) → place ≡ position_or_len (has_live
    (record { number = c.args.number; word = c.unwrap-word.result })) c.args.map.now.entries
    → place ≡ position_or_len (has_live (cache_key_under c.args.number c.args.header c.args.mask.now))
    c.args.map.now.entries
under_mask c place is = search rules

-- the map's place of the key
found_at : (c : In-Some) → position_or_len
    (equal_cache_keys (record { number = c.args.number; word = c.unwrap-word.result }))
    (keys_of c.args.map.now.entries) ≡ c.in-Some.place
unfolding equal_cache_keys
found_at c = search rules

pub returns-then-slot : goal.returns-then-slot
returns-then-slot c = under_mask (goal.at.returns-then-slot c).After-unwrap-word c.in-Some.place
    (place_live _ _ _ (c.in-Some.field-0-1.now, c.in-Some.slot.now)
    (found_at (goal.at.returns-then-slot c).In-Some) c.in-Some.ensures.entry c.if-slot.true)

pub returns-else-slot : goal.returns-else-slot
unfolding equal_cache_keys
returns-else-slot c = under_mask (goal.at.returns-else-slot c).After-unwrap-word c.len.result
    (c.len.ensures.len ∙ place_dead _ _ _ (c.in-Some.field-0-1.now, c.in-Some.slot.now)
    c.len.ensures.unique (found_at (goal.at.returns-else-slot c).In-Some) c.in-Some.ensures.entry
    c.if-slot.false)

pub returns-in-None : goal.returns-in-None
unfolding equal_cache_keys
returns-in-None c = under_mask (goal.at.returns-in-None c).After-unwrap-word c.len-in-None.result
    (c.len-in-None.ensures.len ∙ place_missing _ _
    (Missing-position _ _ (sym c.in-None.ensures.index)).or_len)
