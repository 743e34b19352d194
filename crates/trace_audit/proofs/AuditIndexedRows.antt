-- An index of a policy's rows: how it grows, and that what it finds is the first match.
use Rattle.std.proofs.Common.{[], ◌&&◌, ◌*◌, ◌++◌, ◌+◌, ◌-◌, ◌/◌, ◌<◌, ◌==◌, ◌^◌, ◌∙◌, ◌∷◌, ◌≡◌, ◌≢◌, ◌≤◌, All, Bool, Contains, List, MatchOption, None, Option, Some, ap, arith, cond, eq-eqb, eqb-true, false, filter, get_or, inl, inr, length, length-set, ltb, ltb-false, ltb-true, not, refl, replicate, set, slice_get, subst, suc, sym, true, true≢false, zero, ℕ}
use Rattle.base.proofs.Exports.{All-filter, All-head, All-push, Contains-append_right, and_cases, and_parts, both_ways, cases_eq, cases_lt, cond_both, contains_at, false≢true, filter_passes, get_or_from_slice_get, get_push_at, get_push_left, get_replicate, get_set_other, get_set_same, length-replicate, length_push, one_item, option_map_or, passes_at_first, position_or_len, position_or_len_push, prefix_len-le-length, same_Some, shr_split, slice_get-get_or, slice_get_read, slice_get_within}
use Rattle.five_tuple.specs.Exports.{AddressBlock, IsAddressBlock, address_block_round, header_fields_of, address_prefix_matches, proto_matches, port_range_matches}
use Rattle.update_machine.specs.Exports.{Action, Fields, Header, Hit, Row}
use Rattle.policy_rules.specs.Exports.{IsFirstPolicyMatch, IsPolicy, IsSoundPolicyRow, policy_hit_of, policy_row_matches}
use Rattle.trace_audit.specs.Exports.{AreAuditShapesOf, HasAuditShape, IsBestAuditHit, IsBetterAuditHit, IsAuditIndexOf, IsAuditIndexUpTo, IsAuditRowLastBefore, IsAuditMatchIn, IsNoHigherAuditRow, IsSoundAuditShape, AuditRowsLackSlot, AuditIndexNotes, audit_better_index_hit, is_audit_index_shape, audit_shape_of_row, audit_shape_place, audit_index_slot_of, audit_slot_of_row}
use Rattle.trace_audit.specs.declared.index.AuditIndex.{AuditIndex}
use Rattle.trace_audit.specs.declared.index.Shape.{Shape}

-- ---- slots

-- the block of an address that a row's block holds begins as that one does
same_start : (p : AddressBlock) (address : ℕ) → IsAddressBlock p
    → address_prefix_matches p address ≡ true → (address_block_round address p.len).address ≡ p.address
same_start p address sound matches =
    let same = eqb-true (address / 2 ^ (32 - p.len)) (p.address / 2 ^ (32 - p.len)) matches in
    ap (λ n. n * 2 ^ (32 - p.len)) same
    ∙ (omega (arith, shr_split p.address (32 - p.len), sound.cleared))

both_blocks : (a b c d e : Bool) → (a && b && c && d && e) ≡ true → (a ≡ true) × (b ≡ true)
both_blocks true true c d e h = (refl, refl)
both_blocks true false c d e h = absurd (false≢true h)
both_blocks false b c d e h = absurd (false≢true h)

sound_row : (rows : List Row) (k : ℕ) (row : Row) → IsPolicy rows → slice_get rows k ≡ Some row
    → IsSoundPolicyRow row
sound_row rows k row policy there = subst IsSoundPolicyRow (get_or_from_slice_get rows k row row there)
    (policy.sound k row (slice_get_within rows k row there))

pub has_shape : (shapes : List Shape) (rows : List Row) (k : ℕ) (row : Row) → AreAuditShapesOf rows shapes
    → slice_get rows k ≡ Some row → HasAuditShape shapes row
has_shape shapes rows k row are there = rw (get_or_from_slice_get rows k row row there) at
    (are.there k row (slice_get_within rows k row there))

-- the shape at the place of a row's shape is the row's
own_shape : (shapes : List Shape) (row : Row) (shape : Shape)
    → slice_get shapes (audit_shape_place shapes row) ≡ Some shape → audit_shape_of_row row ≡ shape
own_shape shapes row shape there =
    let place = audit_shape_place shapes row in
    let within = slice_get_within shapes place shape there in
    let passes = passes_at_first (is_audit_index_shape (audit_shape_of_row row)) shapes shape within in
    let is = subst (λ (other : Shape). is_audit_index_shape (audit_shape_of_row row) other ≡ true)
    (get_or_from_slice_get shapes place shape shape there) passes in
    let both = and_parts (shape.src == row.src.len) (shape.dst == row.dst.len) is in
    let src = eqb-true shape.src row.src.len both.0 in
    let dst = eqb-true shape.dst row.dst.len both.1 in
    ap (λ (n : ℕ). record { src = n; dst = row.dst.len }) (sym src)
    ∙ ap (λ (n : ℕ). record { src = shape.src; dst = n }) (sym dst)

-- ---- the shapes of rows

module _ (shapes : List Shape) (shape : Shape) where
  -- where a shape is behind one more: at its place, if it was there
  place_pushed : (other : Shape) → position_or_len (is_audit_index_shape other) (shapes ++ shape ∷ [])
      ≡ cond (position_or_len (is_audit_index_shape other) shapes == length shapes)
      (length shapes + cond (is_audit_index_shape other shape) 0 1) (position_or_len (is_audit_index_shape other) shapes)
  place_pushed other = position_or_len_push (is_audit_index_shape other) shapes shape

  kept_pushed : (row : Row) → HasAuditShape shapes row → HasAuditShape (shapes ++ shape ∷ []) row
  kept_pushed row has = let place = audit_shape_place shapes row in
      subst (λ n. n < length (shapes ++ shape ∷ [])) (sym (place_pushed (audit_shape_of_row row)))
      (cond_both (place == length shapes) (length shapes
      + cond (is_audit_index_shape (audit_shape_of_row row) shape) 0 1) place (λ n. n < length (shapes ++ shape ∷ []))
      (λ yes. absurd (omega (arith, eqb-true place (length shapes) yes, has)))
      (λ no. omega (arith, has, length_push shapes shape)))

  there_pushed : position_or_len (is_audit_index_shape shape) (shapes ++ shape ∷ [])
      < length (shapes ++ shape ∷ [])
  there_pushed =
      let place = position_or_len (is_audit_index_shape shape) shapes in
      let more = length_push shapes shape in
      let own : cond {A = ℕ} (is_audit_index_shape shape shape) 0 1 ≡ 0 =
      rw (eq-eqb shape.src shape.src refl, eq-eqb shape.dst shape.dst refl) refl in
      subst (λ n. n < length (shapes ++ shape ∷ [])) (sym (place_pushed shape))
      (cond_both (place == length shapes) (length shapes + cond (is_audit_index_shape shape shape) 0 1) place
      (λ n. n < length (shapes ++ shape ∷ [])) (λ yes. omega (arith, own, more))
      (λ no. omega (arith, prefix_len-le-length (λ x. not (is_audit_index_shape shape x)) shapes, more)))

  pub notes_pushed : AuditIndexNotes shapes shape (shapes ++ shape ∷ [])
  notes_pushed = record {
    there = there_pushed;
    kept = kept_pushed;
    sound = λ one all. All-push IsSoundAuditShape shapes shape all one;
  }

-- a header is sought in the slot of each row that matches it
slot_same : (shapes : List Shape) (row : Row) (fields : Fields) (shape : Shape) (src dst : ℕ)
    → IsSoundPolicyRow row → policy_row_matches row fields ≡ true → audit_shape_of_row row ≡ shape
    → src ≡ (address_block_round fields.src shape.src).address
    → dst ≡ (address_block_round fields.dst shape.dst).address
    → audit_slot_of_row shapes row ≡ audit_index_slot_of (length shapes) (audit_shape_place shapes row) src dst
slot_same shapes row fields shape src dst sound matches own s d =
    let n = length shapes in
    let place = audit_shape_place shapes row in
    let d : dst ≡ (address_block_round fields.dst row.dst.len).address =
    d ∙ ap (λ (x : Shape). (address_block_round fields.dst x.dst).address) (sym own) in
    let both = both_blocks (address_prefix_matches row.src fields.src) (address_prefix_matches row.dst fields.dst)
    (port_range_matches row.sport fields.sport) (port_range_matches row.dport fields.dport)
    (proto_matches row.proto fields.proto) matches in
    ap (λ a. audit_index_slot_of n place a row.dst.address)
    (sym ((s ∙ ap (λ (x : Shape). (address_block_round fields.src x.src).address) (sym own))
    ∙ same_start row.src fields.src sound.src both.0))
    ∙ ap (λ a. audit_index_slot_of n place src a) (sym (d ∙ same_start row.dst fields.dst sound.dst both.1))

-- ---- one more row

module _ (shapes : List Shape) (rows : List Row) where
  lack_more : (slot from bound : ℕ) (row : Row) → slice_get rows bound ≡ Some row
      → audit_slot_of_row shapes row ≢ slot → AuditRowsLackSlot shapes rows slot from bound
      → AuditRowsLackSlot shapes rows slot from (bound + 1)
  lack_more slot from bound row here other lack = λ k next above below there.
      elim (cases_lt k bound) [
        | inl less ↦ lack k next above less there
        | inr more ↦ rw (one_item rows bound k row next here (omega arith) there) at other
      ]

  last_more : (slot bound : ℕ) (row : Row) (at : Option ℕ) → slice_get rows bound ≡ Some row
      → audit_slot_of_row shapes row ≢ slot → IsAuditRowLastBefore shapes rows slot bound at
      → IsAuditRowLastBefore shapes rows slot (bound + 1) at
  last_more slot bound row None here other lack = lack_more slot 0 bound row here other lack
  last_more slot bound row (Some place) here other (first, below, there, is, lack) = (
    first,
    omega (arith, below),
    there,
    is,
    lack_more slot (place + 1) bound row here other lack,
  )

  last_here : (bound : ℕ) (row : Row) → slice_get rows bound ≡ Some row
      → IsAuditRowLastBefore shapes rows (audit_slot_of_row shapes row) (bound + 1) (Some bound)
  last_here bound row here =
      (row, omega arith, here, refl, λ k next above below there. absurd (omega (arith, above, below)))

-- an index of no row
pub none_indexed : (rows : List Row) (index : AuditIndex) → AreAuditShapesOf rows index.shapes.items
    → index.last.items ≡ replicate 4096 None → index.earlier.items ≡ [] → IsAuditIndexUpTo rows 0 index
none_indexed rows index shapes last earlier = record {
  shapes = shapes;
  slots = ap length last ∙ length-replicate {A = Option ℕ} 4096 None;
  last = λ slot at there. subst (IsAuditRowLastBefore index.shapes.items rows slot 0)
      (get_replicate 4096 None slot at (ap (λ xs. slice_get xs slot) (sym last) ∙ there))
      (λ k row above below there. absurd (omega (arith, below)));
  places = ap length earlier;
  earlier = λ k row at there got. absurd
      (let no : slice_get [] k ≡ Some at = ap (λ xs. slice_get xs k) (sym earlier) ∙ got in cc);
}

module _ (rows : List Row) (bound : ℕ) (row : Row) (at : Option ℕ) (old new : AuditIndex)
    (here : slice_get rows bound ≡ Some row) (is : IsAuditIndexUpTo rows bound old)
    (was : slice_get old.last.items (audit_slot_of_row old.shapes.items row) ≡ Some at)
    (last : new.last.items ≡ set old.last.items (audit_slot_of_row old.shapes.items row) (Some bound))
    (earlier : new.earlier.items ≡ old.earlier.items ++ at ∷ []) where
  abbrev own_shapes : List Shape
  own_shapes = old.shapes.items

  abbrev own_slot : ℕ
  own_slot = audit_slot_of_row own_shapes row

  last_next : (slot : ℕ) (next : Option ℕ) → slice_get new.last.items slot ≡ Some next
      → IsAuditRowLastBefore own_shapes rows slot (bound + 1) next
  last_next slot next there = let there = ap (λ xs. slice_get xs slot) (sym last) ∙ there in
      elim (cases_eq slot own_slot) [
        | inl same ↦ let now = get_set_same old.last.items own_slot (Some bound)
            (slice_get_within old.last.items own_slot at was) in
            subst (λ n. IsAuditRowLastBefore own_shapes rows n (bound + 1) next) (sym same)
            (subst (IsAuditRowLastBefore own_shapes rows own_slot (bound + 1)) (one_item (set old.last.items
            own_slot (Some bound)) own_slot slot (Some bound) next now same there)
            (last_here own_shapes rows bound row here))
        | inr other ↦ let before =
            sym (get_set_other old.last.items own_slot slot (Some bound) other) ∙ there in
            last_more own_shapes rows slot bound row next here (λ e. other (sym e))
            (is.last slot next before)
      ]

  earlier_next : (k : ℕ) (next : Row) (place : Option ℕ) → slice_get rows k ≡ Some next
      → slice_get new.earlier.items k ≡ Some place
      → IsAuditRowLastBefore own_shapes rows (audit_slot_of_row own_shapes next) k place
  earlier_next k next place there got = let got = ap (λ xs. slice_get xs k) (sym earlier) ∙ got in
      elim (cases_lt k bound) [
        | inl less ↦ is.earlier k next place there
            (sym (get_push_left old.earlier.items at k (omega (arith, is.places, less))) ∙ got)
        | inr more ↦ let within = slice_get_within (old.earlier.items ++ at ∷ []) k place got in
            let long = length_push old.earlier.items at in
            let e : k ≡ bound = omega (arith, within, long, is.places, more) in
            let same = one_item rows bound k row next here e there in
            let now = get_push_at old.earlier.items at k (e ∙ sym is.places) in
            let item : at ≡ place = same_Some at place (sym now ∙ got) in
            subst (λ n. IsAuditRowLastBefore own_shapes rows (audit_slot_of_row own_shapes next) n place) (sym e)
            (rw same at (rw item at (is.last own_slot at was)))
      ]

  -- the index with the row at its bound
  pub next_indexed : new.shapes.items ≡ own_shapes → IsAuditIndexUpTo rows (bound + 1) new
  next_indexed kept = record {
    shapes = subst (AreAuditShapesOf rows) (sym kept) is.shapes;
    slots = ap length last ∙ length-set old.last.items own_slot (Some bound) ∙ is.slots;
    last = λ slot next there. rw kept (last_next slot next there);
    places = ap length earlier ∙ length_push old.earlier.items at ∙ ap (λ n. n + 1) is.places;
    earlier = λ k next place there got. rw kept (earlier_next k next place there got);
  }

-- ---- the better of a row and a hit

less_or : (rule : Option ℕ) (n m : ℕ) → option_map_or (λ p. ltb p n) rule true ≡ true
    → MatchOption rule ⊥ (λ p. m ≤ p) → m ≤ n
less_or None n m above reached = absurd reached
less_or (Some p) n m above reached = omega (arith, ltb-true p n above, reached)

not_less : (rule : Option ℕ) (n : ℕ) → option_map_or (λ p. ltb p n) rule true ≡ false
    → MatchOption rule ⊥ (λ p. n ≤ p)
not_less None n below = absurd (true≢false below)
not_less (Some p) n below = ltb-false p n below

module _ (row : Row) (fields : Fields) (hit : Hit) where
  abbrev above : Bool
  above = option_map_or (λ p. ltb p row.priority) hit.rule true

  better_kept : (other : Row) → IsNoHigherAuditRow hit other → IsNoHigherAuditRow (audit_better_index_hit row fields hit) other
  better_kept other reached = cond_both (above && policy_row_matches row fields) (policy_hit_of (Some row)) hit
      (λ h. IsNoHigherAuditRow h other) (λ yes. less_or hit.rule row.priority other.priority
      (and_parts above (policy_row_matches row fields) yes).0 reached) (λ no. reached)

  better_reached : policy_row_matches row fields ≡ true → IsNoHigherAuditRow (audit_better_index_hit row fields hit) row
  better_reached matches =
      cond_both (above && policy_row_matches row fields) (policy_hit_of (Some row)) hit (λ h. IsNoHigherAuditRow h row)
      (λ yes. omega arith) (λ no. elim (and_cases above (policy_row_matches row fields) no) [
        | inl below ↦ not_less hit.rule row.priority below
        | inr not ↦ absurd (both_ways (policy_row_matches row fields) not matches)
      ])

  better_matching : (rows : List Row) → Contains rows row → IsAuditMatchIn rows fields hit
      → IsAuditMatchIn rows fields (audit_better_index_hit row fields hit)
  better_matching rows has matching =
      cond_both (above && policy_row_matches row fields) (policy_hit_of (Some row)) hit (IsAuditMatchIn rows fields)
      (λ yes. (row, has, (and_parts above (policy_row_matches row fields) yes).1, refl, refl))
      (λ no. matching)

-- ---- the rows of a slot, from the last one on

-- those from some bound on were looked at, and this is the last one before it
pub record IsWalked (shapes : List Shape) (rows : List Row) (slot : ℕ) (fields : Fields)
    (first hit : Hit) (at : Option ℕ) : Type 0 where
  pub bound : ℕ
  pub last : IsAuditRowLastBefore shapes rows slot bound at
  pub matching : IsAuditMatchIn rows fields first → IsAuditMatchIn rows fields hit
  pub kept : (row : Row) → IsNoHigherAuditRow first row → IsNoHigherAuditRow hit row
  pub reached : (k : ℕ) (row : Row) → bound ≤ k → slice_get rows k ≡ Some row
      → audit_slot_of_row shapes row ≡ slot → policy_row_matches row fields ≡ true → IsNoHigherAuditRow hit row

-- the place of the one to look at, and one more
abbrev pub places_left : Option ℕ → ℕ
places_left None = 0
places_left (Some place) = place + 1

falls : (shapes : List Shape) (rows : List Row) (slot place : ℕ) (next : Option ℕ) → IsAuditRowLastBefore shapes rows slot place next
    → places_left next < places_left (Some place)
falls shapes rows slot place None is = omega arith
falls shapes rows slot place (Some other) is = omega (arith, is.1)

-- where the next one to look at was read, and its row
module _ {rows : List Row} {slot : ℕ} {fields : Fields} {first hit : Hit} {at : Option ℕ}
    {index : AuditIndex} (walked : IsWalked index.shapes.items rows slot fields first hit at)
    (is : IsAuditIndexOf rows index)
    {place : ℕ} (now : at ≡ Some place) {row : Row} (here : row ≡ get_or rows place row)
    {next : Option ℕ} (there : next ≡ get_or index.earlier.items place next) where
  abbrev shapes : List Shape
  shapes = index.shapes.items

  walked_now : IsWalked shapes rows slot fields first hit (Some place)
  walked_now = subst (IsWalked shapes rows slot fields first hit) now walked

  within : place < length rows
  within = let w = walked_now in slice_get_within rows place w.last.0 w.last.2

  own_row : slice_get rows place ≡ Some row
  own_row = slice_get_read rows (length rows) place row refl within here

  before : IsAuditRowLastBefore shapes rows (audit_slot_of_row shapes row) place next
  before = is.earlier place row next own_row
      (slice_get_read index.earlier.items (length rows) place next (sym is.places) within there)

  -- the one behind it is before it
  pub walk_falls : places_left next < places_left at
  walk_falls = rw now (falls shapes rows (audit_slot_of_row shapes row) place next before)

  pub walk_on : {better : Hit} → better ≡ audit_better_index_hit row fields hit
      → IsWalked shapes rows slot fields first better next
  walk_on e =
      let w = walked_now in
      let same : w.last.0 ≡ row = same_Some w.last.0 row (sym w.last.2 ∙ own_row) in
      let own : audit_slot_of_row shapes row ≡ slot = ap (audit_slot_of_row shapes) (sym same) ∙ w.last.3 in
      subst (λ h. IsWalked shapes rows slot fields first h next) (sym e) (
      record {
        bound = place;
        last = subst (λ n. IsAuditRowLastBefore shapes rows n place next) own before;
        matching = λ m. better_matching row fields hit rows (contains_at rows place row own_row)
            (w.matching m);
        kept = λ other reached. better_kept row fields hit other (w.kept other reached);
        reached = λ k other above got lies matches. elim (cases_eq k place) [
          | inl at ↦ let one = one_item rows place k row other own_row at got in
              subst (IsNoHigherAuditRow (audit_better_index_hit row fields hit)) one
              (better_reached row fields hit (rw one matches))
          | inr more ↦ elim (cases_lt k w.bound) [
            | inl less ↦ absurd (w.last.4 k other (omega (arith, above, more)) less got lies)
            | inr beyond ↦ better_kept row fields hit other
                (w.reached k other beyond got lies matches)
          ]
        ];
      }
      )

pub walk_ends : (shapes : List Shape) (rows : List Row) (slot : ℕ) (fields : Fields) (first hit : Hit)
    → IsWalked shapes rows slot fields first hit None → IsBetterAuditHit shapes rows slot fields first hit
walk_ends shapes rows slot fields first hit w = record {
  matching = w.matching;
  kept = w.kept;
  reached = λ k row got lies matches. elim (cases_lt k w.bound) [
    | inl less ↦ absurd (w.last k row (omega arith) less got lies)
    | inr beyond ↦ w.reached k row beyond got lies matches
  ];
}

-- ---- one shape after another

-- the rows of the shapes before this place were looked at
pub record IsSought (shapes : List Shape) (rows : List Row) (fields : Fields) (place : ℕ)
    (hit : Hit) : Type 0 where
  pub matching : IsAuditMatchIn rows fields hit
  pub reached : (k : ℕ) (row : Row) → slice_get rows k ≡ Some row
      → audit_shape_place shapes row < place → policy_row_matches row fields ≡ true → IsNoHigherAuditRow hit row

pub sought_more : (shapes : List Shape) (rows : List Row) (fields : Fields) (place : ℕ)
    (shape : Shape) (src dst : ℕ) (hit better : Hit) → IsPolicy rows
    → slice_get shapes place ≡ Some shape → src ≡ (address_block_round fields.src shape.src).address
    → dst ≡ (address_block_round fields.dst shape.dst).address
    → IsBetterAuditHit shapes rows (audit_index_slot_of (length shapes) place src dst) fields hit better
    → IsSought shapes rows fields place hit → IsSought shapes rows fields (place + 1) better
sought_more shapes rows fields place shape src dst hit better policy there s d b sought = record {
  matching = b.matching sought.matching;
  reached = λ k row got before matches. elim (cases_lt (audit_shape_place shapes row) place) [
    | inl less ↦ b.kept row (sought.reached k row got less matches)
    | inr more ↦ let at : audit_shape_place shapes row ≡ place = omega (arith, before, more) in
        let own = own_shape shapes row shape (ap (slice_get shapes) at ∙ there) in
        let slot : audit_slot_of_row shapes row ≡ audit_index_slot_of (length shapes) place src dst =
        slot_same shapes row fields shape src dst (sound_row rows k row policy got) matches own s d
        ∙ ap (λ n. audit_index_slot_of (length shapes) n src dst) at in
        b.reached k row got slot matches
  ];
}

pub sought_all : (rows : List Row) (fields : Fields) (index : AuditIndex) (hit : Hit) → IsAuditIndexOf rows
    index → IsSought index.shapes.items rows fields (length index.shapes.items) hit
    → IsBestAuditHit rows fields hit
sought_all rows fields index hit is sought = record {
  matching = sought.matching;
  reached = λ k d within matches. let got = slice_get-get_or rows k d within in
      sought.reached k (get_or rows k d) got
      (has_shape index.shapes.items rows k (get_or rows k d) is.shapes got) matches;
}

-- ---- the first match

none_left : (p : Row → Bool) (rows : List Row) → All (λ row. p row ≡ true → ⊥) rows
    → All (λ row. p row ≡ true) rows → rows ≡ []
none_left p [] none all = refl
none_left p (row ∷ rows) none all = absurd (All-head (λ row. p row ≡ true → ⊥) row rows none
    (All-head (λ row. p row ≡ true) row rows all))

-- an element that passes is kept
kept_by : (p : Row → Bool) (rows : List Row) (k : ℕ) (row : Row) → slice_get rows k ≡ Some row
    → p row ≡ true → Contains (filter p rows) row
kept_by p [] k row there passes = absurd cc
kept_by p (first ∷ rows) zero row there passes = let same = same_Some first row there in
    cond_both (p first) (first ∷ filter p rows) (filter p rows) (λ xs. Contains xs row)
    (λ yes. (0, omega arith, same))
    (λ no. absurd (both_ways (p row) (ap p (sym same) ∙ no) passes))
kept_by p (first ∷ rows) (suc k) row there passes = cond_both (p first) (first ∷ filter p rows)
    (filter p rows) (λ xs. Contains xs row) (λ yes. Contains-append_right
    (first ∷ []) (filter p rows) row (kept_by p rows k row there passes))
    (λ no. kept_by p rows k row there passes)

abbrev hit_with : Option ℕ → Action → Hit
hit_with rule action = record { rule = rule; action = action }

best_by : (rows : List Row) (header : Header) (rule : Option ℕ) (action : Action) → IsBestAuditHit rows
    (header_fields_of header) (hit_with rule action) → IsFirstPolicyMatch rows header (hit_with rule action)
best_by rows header None action best =
    let p : Row → Bool = λ row. policy_row_matches row (header_fields_of header) in (
      none_left p (filter p rows) (All-filter p (λ row. p row ≡ true → ⊥) rows best.reached)
          (filter_passes p rows),
      best.matching,
    )
best_by rows header (Some priority) action best =
    let p : Row → Bool = λ row. policy_row_matches row (header_fields_of header) in
    let (row, (k, within, is), matches, names, acts) = best.matching in (
      row,
      record {
        member = kept_by p rows k row (slice_get-get_or rows k row within ∙ ap Some is) matches;
        highest = λ i d inside. let below : (get_or (filter p rows) i d).priority ≤ priority =
            All-filter p (λ row. p row ≡ true → row.priority ≤ priority) rows best.reached i d
            inside (filter_passes p rows i d inside) in
            omega (arith, below, names);
      },
      names,
      acts,
    )

pub best_first : (rows : List Row) (header : Header) (hit : Hit)
    → IsBestAuditHit rows (header_fields_of header) hit → IsFirstPolicyMatch rows header hit
best_first rows header hit = best_by rows header hit.rule hit.action
