-- Counts of live places by blocks of 64: what they sum up to, what a place that comes or dies
-- makes of them, and which place has so many live ones before it.
use Rattle.std.proofs.Common.{[], ◌%◌, ◌*◌, ◌++◌, ◌+◌, ◌-◌, ◌/◌, ◌<◌, ◌^◌, ◌∙◌, ◌∷◌, ◌≡◌, ◌≤◌, Bool, List, ap, arith, cond, div-add-mod', drop, drop-set-lt, false, get_or, get_or-drop, get_or-set_other, get_or-set_same, get_or-take, inl, inr, length, length-append, length-drop, length-set, length-take, min, mod-eq_of_lt, mul-le-mul_left, refl, replicate, set, subst, suc, sum, sym, take, take-take, take_all, true, zero, ℕ, rules}
use Rattle.base.proofs.Exports.{cases_eq, cases_lt, count_by-le-length, drop-append-le, drop-replicate, drop-set-add, drop-take, drop_all, get_or_append_left, get_or_push, get_or_read, length-replicate, mod-mul-add, mod_below, sum_by-replicate, sum_by-set, sum_by-take-drop, sum_by_more, sum_by_push, take-append-le, take-replicate, take-set-le, take-set-lt, take_min}
use Rattle.switch_table.specs.Exports.{AreCacheLiveBlocks, cache_live_count_set}

-- how much a flag counts
abbrev one_if : Bool → ℕ
one_if flag = cond flag 1 0

-- how many places of a block are live
abbrev pub set_in : List Bool → ℕ → ℕ
set_in flags block = cache_live_count_set (take 64 (drop (64 * block) flags))

-- ---- sums

-- so many places, and so many behind them
pub count_both : (m n : ℕ) (flags : List Bool) →
    cache_live_count_set (take (m + n) flags) ≡ cache_live_count_set (take m flags) + cache_live_count_set (take n (drop m flags))
count_both m n flags = let whole = take (m + n) flags in
    sym (sum_by-take-drop one_if whole m)
    ∙ ap (λ xs. cache_live_count_set xs + cache_live_count_set (drop m whole)) (take-take m (m + n) flags (omega arith))
    ∙ ap (λ xs. cache_live_count_set (take m flags) + cache_live_count_set xs) (drop-take m n flags)

-- the blocks before one count the places before it
sum_before : (counts : List ℕ) (flags : List Bool) → AreCacheLiveBlocks counts flags →
    (k : ℕ) → k ≤ length counts → sum (take k counts) ≡ cache_live_count_set (take (64 * k) flags)
sum_before counts flags are zero within = search rules
sum_before counts flags are (suc k) within = let next : suc k ≡ k + 1 = omega arith in
    ap (λ n. sum (take n counts)) next ∙ sum_by_more (λ n. n) counts k 0 (omega arith)
    ∙ ap (λ n. n + get_or counts k 0) (sum_before counts flags are k (omega arith))
    ∙ ap (λ n. cache_live_count_set (take (64 * k) flags) + n) (are.each k (omega arith))
    ∙ sym (count_both (64 * k) 64 flags) ∙ ap (λ n. cache_live_count_set (take n flags)) (omega arith)

sum_whole : (counts : List ℕ) (flags : List Bool) → AreCacheLiveBlocks counts flags →
    sum counts ≡ cache_live_count_set flags
sum_whole counts flags are = ap sum (sym (take_all (length counts) counts (omega arith)))
    ∙ sum_before counts flags are (length counts) (omega arith)
    ∙ ap cache_live_count_set (take_all (64 * length counts) flags are.room)

-- ---- one block changes

-- no other block does
changed : (block count : ℕ) (counts : List ℕ) (flags news : List Bool) → AreCacheLiveBlocks counts flags
    → block < length counts → length news ≤ 64 * length counts → count ≡ set_in news block
    → ((k : ℕ) → (k ≡ block → ⊥) → set_in news k ≡ set_in flags k)
    → AreCacheLiveBlocks (set counts block count) news
changed block count counts flags news are within room here elsewhere =
    search (rules, length-set, cases_eq, get_or-set_same, get_or-set_other)

-- an earlier block ends before this one
block_ends : (k block : ℕ) → k < block → 64 * k + 64 ≤ 64 * block
block_ends k block less = search (rules, mul-le-mul_left)

-- another block has the same flags then
other_pushed : (block k : ℕ) (flags : List Bool) → 64 * block ≤ length flags → length flags
    < 64 * block + 64 → (k ≡ block → ⊥) → set_in (flags ++ true ∷ []) k ≡ set_in flags k
other_pushed block k flags from before other = let all = flags ++ true ∷ [] in
    elim (cases_lt k block) [
      | inl less ↦ let ends = block_ends k block less in
          ap (λ xs. cache_live_count_set (take 64 xs))
          (drop-append-le (64 * k) flags (true ∷ []) (omega (arith, ends)))
          ∙ ap cache_live_count_set (take-append-le 64 (drop (64 * k) flags) (true ∷ [])
          (omega (arith, ends, length-drop (64 * k) flags)))
      | inr more ↦ let ends = block_ends block k (omega arith) in
          ap (λ xs. cache_live_count_set (take 64 xs)) (drop_all (64 * k) all
          (omega (arith, ends, length-append flags (true ∷ [])))
          ∙ sym (drop_all (64 * k) flags (omega (arith, ends))))
    ]

-- a live place comes last, in this block
pub pushed : (block : ℕ) (counts : List ℕ) (flags : List Bool) → AreCacheLiveBlocks counts flags
    → block < length counts → 64 * block ≤ length flags → length flags < 64 * block + 64 →
    (get_or counts block 0 < 64)
    × AreCacheLiveBlocks (set counts block (get_or counts block 0 + 1)) (flags ++ true ∷ [])
pushed block counts flags are within from before =
    let all = flags ++ true ∷ [] in
    let rest = drop (64 * block) flags in
    let len = length-drop (64 * block) flags in
    let rest_count : get_or counts block 0 ≡ cache_live_count_set rest =
    are.each block within ∙ ap cache_live_count_set (take_all 64 rest (omega (arith, len))) in
    let here : get_or counts block 0 + 1 ≡ set_in all block =
    ap (λ n. n + 1) rest_count ∙ sym (sum_by_push one_if rest true) ∙ ap cache_live_count_set
    (sym (take_all 64 (rest ++ true ∷ []) (omega (arith, len, length-append rest (true ∷ []))))
    ∙ ap (take 64) (sym (drop-append-le (64 * block) flags (true ∷ []) from))) in (
      omega (arith, rest_count, len, count_by-le-length (λ (flag : Bool). flag) rest),
      changed block (get_or counts block 0 + 1) counts flags all are within
          (omega (arith, block_ends block (length counts) within, length-append flags (true ∷ [])))
          here (λ k other. other_pushed block k flags from before other),
    )

-- ---- a live place dies

-- another block has the same flags then
other_died : (block at k : ℕ) (flags : List Bool) → at < 64 → (k ≡ block → ⊥) →
    set_in (set flags (64 * block + at) false) k ≡ set_in flags k
other_died block at k flags inside other = let place = 64 * block + at in
    elim (cases_lt k block) [
      | inl less ↦ let ends = block_ends k block less in
          let behind = place - 64 * k in
          ap (λ n. cache_live_count_set (take 64 (drop (64 * k) (set flags n false)))) (omega (arith, ends))
          ∙ ap (λ xs. cache_live_count_set (take 64 xs)) (drop-set-add (64 * k) flags behind false)
          ∙ ap cache_live_count_set (take-set-le 64 (drop (64 * k) flags) behind false (omega (arith, ends)))
      | inr more ↦ let ends = block_ends block k (omega arith) in
          ap (λ xs. cache_live_count_set (take 64 xs))
          (drop-set-lt (64 * k) flags place false (omega (arith, ends)))
    ]

-- one less is live without this place
count_died : (flags : List Bool) (place : ℕ) → place < length flags →
    get_or flags place false ≡ true → cache_live_count_set (set flags place false) + 1 ≡ cache_live_count_set flags
count_died flags place within live = search (rules, sum_by-set)

-- a place is in a block that is counted
inside_counts : (block at : ℕ) (counts : List ℕ) (flags : List Bool) →
    AreCacheLiveBlocks counts flags → 64 * block + at < length flags → block < length counts
inside_counts block at counts flags are there = search (rules, mul-le-mul_left)

-- the live place at this place of this block dies
pub died : (block at : ℕ) (counts : List ℕ) (flags : List Bool) → AreCacheLiveBlocks counts flags
    → at < 64 → 64 * block + at < length flags → get_or flags (64 * block + at) false ≡ true
    → (0 < get_or counts block 0) × (get_or counts block 0 ≤ 64)
    × AreCacheLiveBlocks (set counts block (get_or counts block 0 - 1)) (set flags (64 * block + at) false)
died block at counts flags are inside there live =
    let place = 64 * block + at in
    let news = set flags place false in
    let rest = drop (64 * block) flags in
    let mine = take 64 rest in
    let len = length-drop (64 * block) flags in
    let mine_len = length-take 64 rest in
    let within = inside_counts block at counts flags are there in
    let less = count_died mine at (omega (arith, len, mine_len))
    (get_or-take 64 rest at false inside ∙ get_or-drop (64 * block) flags at false ∙ live) in
    let now = ap (λ xs. cache_live_count_set (take 64 xs)) (drop-set-add (64 * block) flags at false)
    ∙ ap cache_live_count_set (take-set-lt 64 rest at false inside) in
    let was = are.each block within in (
      omega (arith, less, was),
      omega (arith, was, mine_len, count_by-le-length (λ (flag : Bool). flag) mine),
      changed block (get_or counts block 0 - 1) counts flags news are within
          (subst (λ n. n ≤ 64 * length counts) (sym (length-set flags place false)) are.room)
          (omega (arith, less, was, now)) (λ k other. other_died block at k flags inside other),
    )

-- ---- other changes

-- a block of nothing comes behind
pub grown : (counts : List ℕ) (flags : List Bool) → AreCacheLiveBlocks counts flags →
    AreCacheLiveBlocks (counts ++ 0 ∷ []) flags
grown counts flags are = let len = length-append counts (0 ∷ []) in record {
  room = let longer : length counts ≤ length (counts ++ 0 ∷ []) = omega (arith, len) in
      omega (arith, are.room, mul-le-mul_left 64 longer);
  each = λ k less. elim (cases_lt k (length counts)) [
    | inl old ↦ get_or_append_left counts (0 ∷ []) 0 k old ∙ are.each k old
    | inr new ↦ let last : k ≡ length counts = omega (arith, len) in
        ap (λ n. get_or (counts ++ 0 ∷ []) n 0) last
        ∙ get_or_push counts 0 0 (length counts) refl
        ∙ ap cache_live_count_set (sym (take_all 64 [] (omega arith)))
        ∙ ap (λ xs. cache_live_count_set (take 64 xs)) (sym (drop_all (64 * k) flags (rw last are.room)))
  ];
}

-- so many places, all of them live
pub filled : (places : ℕ) (counts : List ℕ) → places ≤ 64 * length counts →
    ((k : ℕ) → k < length counts → get_or counts k 0 ≡ min (places - 64 * k) 64) →
    AreCacheLiveBlocks counts (replicate places true)
filled places counts room are = record {
  room = subst (λ n. n ≤ 64 * length counts) (sym (length-replicate places true)) room;
  each = λ k less. let left = places - 64 * k in
      let flags = replicate left true in
      let turned : min left 64 ≡ min 64 (length flags) =
      omega (arith, length-replicate left true) in
      let one_each : cache_live_count_set (replicate (min left 64) true) ≡ min left 64 =
      sum_by-replicate one_if (min left 64) true ∙ omega arith in
      are k less ∙ sym one_each
      ∙ ap cache_live_count_set
      (sym (take-replicate (min left 64) left true (omega arith)) ∙ ap (λ n. take n flags) turned
      ∙ take_min 64 flags ∙ ap (take 64) (sym (drop-replicate (64 * k) places true)));
}

-- ---- where so many live places end

pub block_holds : (counts : List ℕ) (flags : List Bool) (before block left : ℕ) →
    AreCacheLiveBlocks counts flags → before < cache_live_count_set flags → block ≤ length counts →
    sum (take block counts) + left ≡ before →
    (block < length counts → left < get_or counts block 0) →
    (cache_live_count_set (take (64 * block) flags) + left ≡ before) × (left < set_in flags block)
block_holds counts flags before block left are some within sums found =
    let prefix = sum_before counts flags are block within in
    let inside : block < length counts = elim (cases_lt block (length counts)) [
      | inl less ↦ less
      | inr past ↦ absurd (omega (arith, sum_whole, ap sum (take_all block counts past)))
    ] in (omega (arith, prefix), omega (arith, found inside, are.each block inside))

-- ---- counts that wrap

-- what `wrapping_sub(1)` makes of a number above 0
wrapped_less : (w n : ℕ) → 0 < n → n ≤ w → (n + (w - 1)) % w ≡ n - 1
wrapped_less w n some fits = search (rules, mod-mul-add)

-- a live place comes behind so many
pub added : (place count : ℕ) (counts : List ℕ) (flags : List Bool) → place + 1 ≤ 64 * length counts → length flags ≡ place → AreCacheLiveBlocks counts flags →
    count ≡ get_or counts (place / 64) count →
    AreCacheLiveBlocks (set counts (place / 64) ((count + 1) % 4294967296)) (flags ++ true ∷ [])
added place count counts flags room len are is =
    let block = place / 64 in
    let whole = div-add-mod' place 64 in
    let within : block < length counts = elim (cases_lt block (length counts)) [
      | inl less ↦ less
      | inr past ↦ absurd (omega (arith, whole, mul-le-mul_left 64 past))
    ] in
    let put = pushed block counts flags are within (omega (arith, whole))
    (omega (arith, whole, mod_below place 64 (omega arith))) in
    let read : count ≡ get_or counts block 0 = get_or_read counts block count within is 0 in
    subst (λ n. AreCacheLiveBlocks (set counts block n) (flags ++ true ∷ []))
    (sym ((mod-eq_of_lt (omega (arith, put.0))) ∙ ap (λ n. n + 1) read)) put.1

-- this live place dies
pub taken : (place count : ℕ) (counts : List ℕ) (flags : List Bool) → place < length flags → get_or flags place false ≡ true → AreCacheLiveBlocks counts flags →
    count ≡ get_or counts (place / 64) count →
    AreCacheLiveBlocks (set counts (place / 64) ((count + 4294967295) % 4294967296))
    (set flags place false)
taken place count counts flags there live are is =
    let block = place / 64 in
    let at = place % 64 in
    let whole : 64 * block + at ≡ place = omega (arith, div-add-mod' place 64) in
    let within = inside_counts block at counts flags are (omega (arith, whole)) in
    let read : count ≡ get_or counts block 0 = get_or_read counts block count within is 0 in
    let put = died block at counts flags are (mod_below place 64 (omega arith))
    (omega (arith, whole)) (ap (λ n. get_or flags n false) whole ∙ live) in
    subst (λ n. AreCacheLiveBlocks (set counts block n) (set flags place false))
    (sym ((wrapped_less 4294967296 count (omega (arith, put.0)) (omega (arith, put.1)))
    ∙ ap (λ n. n - 1) read))
    (rw whole at put.2)

-- in all
pub all_added : (flags : List Bool) (all : ℕ) → all ≡ cache_live_count_set flags → length flags < 2 ^ 63 →
    (all + 1) % 18446744073709551616 ≡ cache_live_count_set (flags ++ true ∷ [])
all_added flags all is short = search (rules, mod-eq_of_lt, count_by-le-length, sum_by_push)

pub all_taken : (flags : List Bool) (all place : ℕ) → all ≡ cache_live_count_set flags → all < 2 ^ 64 →
    place < length flags → get_or flags place false ≡ true →
    (all + 18446744073709551615) % 18446744073709551616 ≡ cache_live_count_set (set flags place false)
all_taken flags all place is fits there live = search (rules, count_died, wrapped_less)
