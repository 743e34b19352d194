use Rattle.std.proofs.Common.{◌∙◌, ◌≡◌, ap, filter, length, replicate, rules, subst, sym, true}
use Rattle.indexmap.proofs.CallerLemmas.{filter-RetainsPairs}
use Rattle.switch_table.specs.Exports.{AreCacheLiveCounts, cache_live_flags_of, is_live_cache_slot}
use Rattle.switch_table.proofs.CacheSlotPushes.{swept_flags}
use Rattle.switch_table.proofs.slots.sweep_dead_cache_slots.Goals as goal
use Rattle.switch_table.proofs.slots.sweep_dead_cache_slots.Goals.{After-retain}

kept : (c : After-retain) → c.retain.new.self.entries ≡ filter is_live_cache_slot c.args.map.now.entries
kept c = search (rules, filter-RetainsPairs)

pub returns-clause-slots : goal.returns-clause-slots
returns-clause-slots c = kept (goal.at.returns-clause-slots c).After-retain

pub returns-clause-counts : goal.returns-clause-counts
returns-clause-counts c = let left = kept (goal.at.returns-clause-counts c).After-retain in
    subst (AreCacheLiveCounts c.fill_cache_blocks.new.self)
    (ap (λ n. replicate n true) (c.len.ensures.len ∙ ap length left)
    ∙ sym (swept_flags c.args.map.now.entries) ∙ ap cache_live_flags_of (sym left)) c.fill_cache_blocks.ensures
