use Rattle.std.proofs.Common.{[], ◌+◌, ◌<◌, ◌∙◌, ◌∷◌, ◌≡◌, All, AllPairs, List, ap, arith, cond, drop, eqb, get_or, get_or-take, length, length-take, refl, rules, subst, sym, take, ℕ}
use Rattle.base.proofs.Exports.{drop_all, drop_more, list_any, take_more}
use Rattle.placement.specs.Placement.{AreLightestPlacementSwitches, placement_loaded_by, placement_turn_rule}
use Rattle.placement.specs.declared.turns.Load.{Load}
use Rattle.placement.specs.declared.turns.Load.TheVariants as load
use Rattle.placement.proofs.PlacementFirsts.{fewer_in_order, first_distinct, first_of_order, first_room, first_there, none_of, order_along}
use Rattle.placement.proofs.PlacementTurns.{Loaded, carried-room, loaded_more, loaded_none, loaded_refused, none_yet, overwritten, taken_all, taken_within}
use Rattle.placement.proofs.turns.Load.take_turns.Goals as goal
use Rattle.placement.proofs.turns.Load.take_turns.Goals.{After-items, After-placement_number_at-key}

-- what is true of all targets is true of those that are loaded
all_loaded : (load : Load) (P : ℕ → Type 0) (xs : List ℕ) → All P xs → All P (placement_loaded_by load xs)
all_loaded load P xs all = search (rules, length-take, get_or-take)

distinct_loaded : (load : Load) (xs : List ℕ) → AllPairs (λ a b. a ≡ b → ⊥) xs
    → AllPairs (λ a b. a ≡ b → ⊥) (placement_loaded_by load xs)
distinct_loaded load xs distinct = search (rules, length-take)

-- the turn that the loop has come to
turn : (c : After-placement_number_at-key) → let order = c.deref-partition-items.result.now in
    let k = c.loop-partition.partition-index in
    Loaded (placement_turn_rule c.args.self c.args.keys.now c.args.sizes.now c.args.rooms.now c.args.backups)
    c.loop-partition.held.items c.loop-partition.loads.items c.loop-partition.placement.items
    (take k order) (get_or order k 0 ∷ drop (k + 1) order)
turn c =
    let order = c.deref-partition-items.result.now in
    let k = c.loop-partition.partition-index in
    subst (Loaded (placement_turn_rule c.args.self c.args.keys.now c.args.sizes.now c.args.rooms.now
    c.args.backups) c.loop-partition.held.items c.loop-partition.loads.items
    c.loop-partition.placement.items (take k order))
    (drop_more order k 0 c.loop-partition-test.true) c.loop-partition.invariant

pub loop-partition-init : goal.loop-partition-init
loop-partition-init c =
    let rule = placement_turn_rule c.args.self c.args.keys.now c.args.sizes.now c.args.rooms.now c.args.backups
    in
    subst (Loaded rule c.in_ok-held.held.items c.in_ok-loads.loads.items
    c.in_ok-placement.placement.items [])
    (sym (c.deref-partition-items.ensures.value ∙ c.in_ok-order.ensures))
    (loaded_none rule c.in_ok-held.held.items c.in_ok-loads.loads.items
    c.in_ok-placement.placement.items (search rules)
    (λ s. none_yet c.in_ok-held.held.items (length c.args.rooms.now) s (search rules))
    (λ s. none_yet c.in_ok-loads.loads.items (length c.args.rooms.now) s (search rules))
    (search rules) (search rules))

pub returns-in_default-clause-refused : goal.returns-in_default-clause-refused
returns-in_default-clause-refused c =
    let order = c.deref-partition-items.result.now in
    let k = c.loop-partition.partition-index in
    let held : ℕ → ℕ = λ s. get_or c.loop-partition.held.items s 0 in
    let load : ℕ → ℕ = λ s. get_or c.loop-partition.loads.items s 0 in
    let few = fewer_in_order held load c.args.rooms.now c.placement_number_at-size.result
    (1 + c.args.backups) c.deref-in-loop-partition-2.result.now (order_along _ _ _ _
    c.args.rooms.now _ _ _ c.deref.ensures.value c.deref-in-loop-partition.ensures.value refl
    (c.deref-in-loop-partition-2.ensures.value ∙ c.in_ok-switches.ensures)) (none_of c.front.result
    _ _ c.front.ensures.enough (λ targets is. c.in_default.not-Some targets is)) in
    loaded_refused (placement_turn_rule c.args.self c.args.keys.now c.args.sizes.now c.args.rooms.now
    c.args.backups) c.loop-partition.held.items c.loop-partition.loads.items
    c.loop-partition.placement.items (take k order) (get_or order k 0) (drop (k + 1) order)
    (turn (goal.at.returns-in_default-clause-refused c).After-placement_number_at-key)
    (rw c.placement_number_at-size.ensures at few)

-- the targets of this turn
first_of : (c : After-items) → let held : ℕ → ℕ = λ s. get_or c.loop-partition.held.items s 0 in
    let load : ℕ → ℕ = λ s. get_or c.loop-partition.loads.items s 0 in
    AreLightestPlacementSwitches held load c.args.rooms.now c.placement_number_at-size.result (1 + c.args.backups)
    c.in-Some.targets
first_of c = first_of_order _ _ c.args.rooms.now c.placement_number_at-size.result
    (1 + c.args.backups) c.deref-in-loop-partition-2.result.now c.in-Some.targets (order_along _ _ _
    _ c.args.rooms.now _ _ _ c.deref.ensures.value c.deref-in-loop-partition.ensures.value refl
    (c.deref-in-loop-partition-2.ensures.value ∙ c.in_ok-switches.ensures)) c.in-Some.ensures.enough
    c.in-Some.ensures.targets

pub add_switch_load-requires-clause-there : goal.add_switch_load-requires-clause-there
add_switch_load-requires-clause-there c = rw c.items.ensures.list (λ k d within. omega (
  arith,
  (first_there _ _ c.args.rooms.now c.placement_number_at-size.result
      (1 + c.args.backups) c.in-Some.targets (first_of c)) k d within,
  ap length c.deref_mut.ensures.value,
  c.loop-partition.invariant.held_switches,
))

pub add_switch_load-requires-clause-fits : goal.add_switch_load-requires-clause-fits
add_switch_load-requires-clause-fits c =
    let room = first_room _ _ c.args.rooms.now c.placement_number_at-size.result (1 + c.args.backups)
    c.in-Some.targets (first_of c) in
    rw (c.items.ensures.list, c.deref_mut.ensures.value) (λ k d within.
    omega (arith, room k d within, c.type_inv.rooms (get_or c.in-Some.targets k d)))

pub add_switch_load-requires-clause-distinct : goal.add_switch_load-requires-clause-distinct
add_switch_load-requires-clause-distinct c = rw c.items.ensures.list (first_distinct _ _ c.args.rooms.now
    c.placement_number_at-size.result (1 + c.args.backups) c.in-Some.targets (first_of c))

pub add_switch_load-requires-in-loop-partition-clause-there : goal.add_switch_load-requires-in-loop-partition-clause-there
add_switch_load-requires-in-loop-partition-clause-there c =
    let there = first_there _ _ c.args.rooms.now c.placement_number_at-size.result (1 + c.args.backups)
    c.in-Some.targets (first_of (goal.at.add_switch_load-requires-in-loop-partition-clause-there c).After-items) in
    rw c.loaded.ensures (all_loaded c.args.self
    (λ s. s < length c.deref_mut-in-loop-partition.result.now) c.in-Some.targets (λ k d within.
    omega (
      arith,
      there k d within,
      ap length c.deref_mut-in-loop-partition.ensures.value,
      c.loop-partition.invariant.loads_switches,
    )))

pub add_switch_load-requires-in-loop-partition-clause-fits : goal.add_switch_load-requires-in-loop-partition-clause-fits
add_switch_load-requires-in-loop-partition-clause-fits c =
    let order = c.deref-partition-items.result.now in
    let k = c.loop-partition.partition-index in
    rw c.deref_mut-in-loop-partition.ensures.value (λ i d within. omega (
      arith,
      carried-room (placement_turn_rule c.args.self c.args.keys.now c.args.sizes.now c.args.rooms.now
          c.args.backups) c.loop-partition.held.items c.loop-partition.loads.items
          c.loop-partition.placement.items (take k order) (get_or order k 0) (drop (k + 1) order)
          (turn (goal.at.add_switch_load-requires-in-loop-partition-clause-fits c).After-placement_number_at-key)
          (get_or c.loaded.result.now i d),
      c.placement_number_at-key.ensures,
      c.requires.small,
    ))

pub add_switch_load-requires-in-loop-partition-clause-distinct : goal.add_switch_load-requires-in-loop-partition-clause-distinct
add_switch_load-requires-in-loop-partition-clause-distinct c =
    let distinct = first_distinct _ _ c.args.rooms.now c.placement_number_at-size.result (1 + c.args.backups)
    c.in-Some.targets (first_of (goal.at.add_switch_load-requires-in-loop-partition-clause-distinct c).After-items) in
    rw c.loaded.ensures (distinct_loaded c.args.self c.in-Some.targets distinct)

pub index_mut-requires : goal.index_mut-requires
index_mut-requires c =
    let order = c.deref-partition-items.result.now in
    let k = c.loop-partition.partition-index in
    let within = taken_within (placement_turn_rule c.args.self c.args.keys.now c.args.sizes.now
    c.args.rooms.now c.args.backups) c.loop-partition.placement.items (take k order)
    (get_or order k 0) (drop (k + 1) order)
    (turn (goal.at.index_mut-requires c).After-placement_number_at-key).taken in
    omega (arith, within, c.loop-partition.placement.ok.0)

pub loop-partition-preserved : goal.loop-partition-preserved
loop-partition-preserved c =
    let order = c.deref-partition-items.result.now in
    let k = c.loop-partition.partition-index in
    let held = c.loop-partition.held.items in
    let loads = c.loop-partition.loads.items in
    let sizes = c.args.sizes.now in
    let keys = c.args.keys.now in
    let p = get_or order k 0 in
    let first : AreLightestPlacementSwitches (λ s. get_or held s 0) (λ s. get_or loads s 0) c.args.rooms.now
    (get_or sizes p 0) (1 + c.args.backups) c.in-Some.targets =
    subst (λ size. AreLightestPlacementSwitches (λ s. get_or held s 0) (λ s. get_or loads s 0) c.args.rooms.now size
    (1 + c.args.backups) c.in-Some.targets) c.placement_number_at-size.ensures
    (first_of (goal.at.loop-partition-preserved c).After-items) in
    let added : (s : ℕ) → get_or c.add_switch_load.new.loads s 0 ≡ get_or held s 0 + cond
    (list_any (eqb s) c.in-Some.targets) (get_or sizes p 0) 0 =
    rw (← c.deref_mut.ensures.value, ← c.items.ensures.list, ← c.placement_number_at-size.ensures)
    c.add_switch_load.ensures in
    let more : (s : ℕ) → get_or c.add_switch_load-in-loop-partition.new.loads s 0 ≡ get_or loads s 0 + cond
    (list_any (eqb s) (placement_loaded_by c.args.self c.in-Some.targets)) (get_or keys p 0) 0 =
    rw (← c.deref_mut-in-loop-partition.ensures.value, ← c.loaded.ensures, ← c.placement_number_at-key.ensures)
    c.add_switch_load-in-loop-partition.ensures in
    let held_len : length c.add_switch_load.new.loads ≡ length held = c.add_switch_load.auto.loads
    ∙ ap length c.deref_mut.ensures.value in
    let loads_len : length c.add_switch_load-in-loop-partition.new.loads ≡ length loads =
    c.add_switch_load-in-loop-partition.auto.loads ∙ ap length c.deref_mut-in-loop-partition.ensures.value in
    rw (
      overwritten c.loop-partition.held.len c.add_switch_load.new.loads held held_len
          (omega (arith, c.loop-partition.held.ok.0)),
      overwritten c.loop-partition.loads.len c.add_switch_load-in-loop-partition.new.loads loads loads_len
          (omega (arith, c.loop-partition.loads.ok.0)),
      take_more order k 0 c.loop-partition-test.true,
    )
    (loaded_more (placement_turn_rule c.args.self keys sizes c.args.rooms.now c.args.backups) held loads
    c.loop-partition.placement.items (take k order) p (drop (k + 1) order) c.in-Some.targets
    c.add_switch_load.new.loads c.add_switch_load-in-loop-partition.new.loads
    (turn (goal.at.loop-partition-preserved c).After-placement_number_at-key) first added more held_len
    loads_len)

pub returns-clause-hosted : goal.returns-clause-hosted
returns-clause-hosted c =
    let order = c.deref-partition-items.result.now in
    let k = c.loop-partition.partition-index in
    let rule = placement_turn_rule c.args.self c.args.keys.now c.args.sizes.now c.args.rooms.now c.args.backups
    in
    taken_all rule c.loop-partition.placement.items (take k order)
    (subst (Loaded rule c.loop-partition.held.items c.loop-partition.loads.items
    c.loop-partition.placement.items (take k order))
    (drop_all k order c.loop-partition-test.false) c.loop-partition.invariant).taken
