use Rattle.std.proofs.Common.{◌∙◌, ap, sym}
use Rattle.base.proofs.Exports.{none_from_not_some}
use Rattle.switch_table.specs.Exports.{equal_cache_keys, cache_has_key}
use Rattle.switch_table.proofs.CacheSlotPushes.{absent_live, found_live}
use Rattle.switch_table.proofs.slots.CacheSlots.contains.Goals as goal

pub returns-in-Some : goal.returns-in-Some
unfolding equal_cache_keys
returns-in-Some c = sym (found_live c.args.key.now c.self.inside.map.entries c.index.result.now
    c.in-Some.ensures.unique (sym c.in-Some.ensures.value ∙ c.index.ensures))
    ∙ ap (cache_has_key c.args.key.now) c.self.view_is

pub returns-in-None : goal.returns-in-None
unfolding equal_cache_keys
returns-in-None c = sym (absent_live c.args.key.now c.self.inside.map.entries
    (none_from_not_some _ (sym c.in-None.ensures.found)))
    ∙ ap (cache_has_key c.args.key.now) c.self.view_is
