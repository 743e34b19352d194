use Rattle.std.proofs.Common.{[], ◌++◌, ◌∙◌, ◌∷◌, ◌≡◌, ap, append_assoc, filter_map, subst, sym}
use Rattle.switch_table.specs.Exports.{IsCache, cache_after_accept, carried_cache_entry}
use Rattle.switch_table.proofs.CacheCarryLemmas.{cache_carried, left_in, left_out}
use Rattle.switch_table.proofs.cache.Cache.carried.Goals as goal
use Rattle.switch_table.proofs.cache.Cache.carried.Goals.{After-carried_entry}

-- the entries that came, this one and those to come
all : (c : After-carried_entry)
    → c.loop-entry.yielded ++ c.in-Some.entry ∷ c.next.new.self ≡ c.args.self.now.entries
all c = cc (c.in-Some.ensures.steps, c.loop-entry.invariant.1)

-- they stay so where this one has come
onward : (c : After-carried_entry)
    → (c.loop-entry.yielded ++ c.in-Some.entry ∷ []) ++ c.next.new.self ≡ c.args.self.now.entries
onward c = append_assoc c.loop-entry.yielded (c.in-Some.entry ∷ []) c.next.new.self ∙ all c

pub loop-entry-preserved-in-Continue-1 : goal.loop-entry-preserved-in-Continue-1
loop-entry-preserved-in-Continue-1 c =
    let here = (goal.at.loop-entry-preserved-in-Continue-1 c).After-carried_entry in
    let cache = c.args.self.now in
    let left = carried_cache_entry c.args.version c.args.touched.now cache.entries in
    let is = subst (λ xs. IsCache (record {
      entries = filter_map left xs;
      capacity = cache.capacity;
    })) (sym (all here))
    (cache_carried c.args.version c.args.touched.now cache c.entries-entry-items.ensures.cache) in (
      c.in_ok-accept.ensures.ok ∙ ap (cache_after_accept 0 c.in-Some-carried_entry.left) c.loop-entry.invariant.0
          ∙ left_in left c.loop-entry.yielded c.in-Some.entry c.in-Some-carried_entry.left
          c.next.new.self cache.capacity
          (sym c.carried_entry.ensures ∙ c.in-Some-carried_entry.is) is,
      onward here,
    )

pub loop-entry-preserved : goal.loop-entry-preserved
loop-entry-preserved c =
    let left = left_out (carried_cache_entry c.args.version c.args.touched.now c.args.self.now.entries)
    c.loop-entry.yielded c.in-Some.entry (sym c.carried_entry.ensures ∙ c.in_default.is) in (
      c.loop-entry.invariant.0
          ∙ (λ i. record { entries = left i; capacity = c.args.self.now.capacity }),
      onward (goal.at.loop-entry-preserved c).After-carried_entry,
    )
