-- The meters that stay, meter by meter and leaving by leaving.
use Rattle.std.proofs.Common.{[], ◌++◌, ◌+◌, ◌<◌, ◌==◌, ◌||◌, ◌∙◌, ◌∷◌, ◌≡◌, ◌≢◌, ◌≤◌, Bool, List, add-one, ap, append-nil, append_assoc, arith, cond, drop, drop_of_length-le, false, filter, get_or, length, length-take-le, map, ne_eqb, not, refl, remove, set, suc, sym, take, take_all, true, zero, ℕ}
use Rattle.base.proofs.Exports.{drop_at_item, drop_set, filter-append, list_any, map-append, nat_tests, or_assoc, range_with_len, remove-set, seam_at, take_more_set}
use Rattle.policy_rules.specs.declared.packet.Leaving.{Leaving}
use Rattle.meters.specs.Exports.{IsMeterNoted, MeterPortLeavings, SeenMeter, meter_has_ended, is_meter_ended_within, meter_port_leavings, meter_with_leavings, meters_after}
use Rattle.meters.specs.declared.meter.Stay.TheVariants as stay

-- ---- the moments of one meter

list_any-shift : (f h : ℕ → Bool) → ((k : ℕ) → f (k + 1) ≡ h k) → (from count : ℕ)
    → list_any f (range_with_len (from + 1) count) ≡ list_any h (range_with_len from count)
list_any-shift f h same from zero = refl
list_any-shift f h same from (suc count) =
    ap (λ now. now || list_any f (range_with_len (from + 1 + 1) count)) (same from)
    ∙ ap (λ rest. h from || rest) (list_any-shift f h same (from + 1) count)

holding-append : (left more : List Leaving) (meter : SeenMeter)
    → meter_with_leavings (left ++ more) meter ≡ meter_with_leavings more (meter_with_leavings left meter)
holding-append left more meter =
    ap (λ held. record meter { held = held }) (sym (append_assoc meter.held left more))

is_over_within-cons : (one : Leaving) (more : List Leaving) (meter : SeenMeter)
    → is_meter_ended_within (one ∷ more) meter
    ≡ (meter_has_ended (meter_with_leavings (one ∷ []) meter) || is_meter_ended_within more (meter_with_leavings (one ∷ []) meter))
is_over_within-cons one more meter = ap (λ rest. meter_has_ended (meter_with_leavings (one ∷ []) meter) || rest)
    (list_any-shift (λ k. meter_has_ended (meter_with_leavings (take k (one ∷ more)) meter))
    (λ k. meter_has_ended (meter_with_leavings (take k more) (meter_with_leavings (one ∷ []) meter))) (λ k. rw add-one
    (ap meter_has_ended (holding-append (one ∷ []) (take k more) meter))) 1 (length more))

is_over_within-append : (left more : List Leaving) (meter : SeenMeter)
    → is_meter_ended_within (left ++ more) meter
    ≡ (is_meter_ended_within left meter || is_meter_ended_within more (meter_with_leavings left meter))
is_over_within-append [] more meter =
    ap (λ held. is_meter_ended_within more (record meter { held = held })) (sym (append-nil meter.held))
is_over_within-append (one ∷ left) more meter =
    let now = meter_with_leavings (one ∷ []) meter in
    let then : Bool = is_meter_ended_within more (meter_with_leavings left now) in
    let same : meter_with_leavings (one ∷ left) meter ≡ meter_with_leavings left now =
    holding-append (one ∷ []) left meter in
    is_over_within-cons one (left ++ more) meter
    ∙ ap (λ rest. meter_has_ended now || rest) (is_over_within-append left more now)
    ∙ sym (or_assoc (meter_has_ended now) (is_meter_ended_within left now) then)
    ∙ ap (λ before. before || then) (sym (is_over_within-cons one left meter))
    ∙ ap (λ held. is_meter_ended_within (one ∷ left) meter || is_meter_ended_within more held) (sym same)

meter_port_leavings-append : (port : ℕ) (left more : MeterPortLeavings)
    → meter_port_leavings port (left ++ more) ≡ meter_port_leavings port left ++ meter_port_leavings port more
meter_port_leavings-append port left more = rw (filter-append, map-append)

-- ---- lists of meters

pub kept-append : (left : MeterPortLeavings) (some others : List SeenMeter)
    → meters_after left (some ++ others) ≡ meters_after left some ++ meters_after left others
unfolding meters_after
kept-append left some others = rw (filter-append, map-append)

pub kept-nothing : (meters : List SeenMeter) → meters_after [] meters ≡ meters
unfolding meters_after
kept-nothing [] = refl
kept-nothing (meter ∷ meters) =
    let now : meter_with_leavings [] meter ≡ meter =
    ap (λ held. record meter { held = held }) (append-nil meter.held) in
    ap (λ first. first ∷ meters_after [] meters) now
    ∙ ap (λ rest. meter ∷ rest) (kept-nothing meters)

map-cond : (f : SeenMeter → SeenMeter) (meter : SeenMeter) (over : Bool)
    → map f (cond (not over) (meter ∷ []) []) ≡ cond over [] (f meter ∷ [])
map-cond f meter true = refl
map-cond f meter false = refl

pub kept-one : (left : MeterPortLeavings) (meter : SeenMeter)
    → meters_after left (meter ∷ []) ≡ cond (is_meter_ended_within (meter_port_leavings meter.port left) meter) []
    (meter_with_leavings (meter_port_leavings meter.port left) meter ∷ [])
unfolding meters_after
kept-one left meter = map-cond (λ m. meter_with_leavings (meter_port_leavings m.port left) m) meter
    (is_meter_ended_within (meter_port_leavings meter.port left) meter)

map-chosen : {M : Type 0} (seen : M → SeenMeter) (first : M) (chosen : Bool) (some : List M)
    → (others : List SeenMeter) → map seen some ≡ others
    → map seen (cond chosen (first ∷ some) some) ≡ cond chosen (seen first ∷ others) others
map-chosen seen first true some others same = ap (λ rest. seen first ∷ rest) same
map-chosen seen first false some others same = same

pub map-filter : {M : Type 0} (seen : M → SeenMeter) (test : SeenMeter → Bool) (meters : List M)
    → map seen (filter (λ m. test (seen m)) meters) ≡ filter test (map seen meters)
map-filter seen test [] = refl
map-filter seen test (meter ∷ meters) =
    map-chosen seen meter (test (seen meter)) _ _ (map-filter seen test meters)

-- ---- one more leaving

same : (port other : ℕ) → other ≡ port → (port == other) ≡ true
same port other equal = grind (arith, nat_tests)

leavings_here : (port : ℕ) (leaving : Leaving) (meter : SeenMeter) → meter.port ≡ port
    → meter_port_leavings meter.port ((port, leaving) ∷ []) ≡ leaving ∷ []
leavings_here port leaving meter here =
    ap (λ test. map (λ (one : ℕ × Leaving). one.1) (cond test ((port, leaving) ∷ []) []))
    (same port meter.port here)

leavings_elsewhere : (port : ℕ) (leaving : Leaving) (meter : SeenMeter) → meter.port ≢ port
    → meter_port_leavings meter.port ((port, leaving) ∷ []) ≡ []
leavings_elsewhere port leaving meter apart =
    ap (λ test. map (λ (one : ℕ × Leaving). one.1) (cond test ((port, leaving) ∷ []) []))
    (ne_eqb port meter.port (λ same. apart (sym same)))

over_after_one : (leaving : Leaving) (old new : SeenMeter) (over : Bool)
    → new ≡ meter_with_leavings (leaving ∷ []) old → meter_has_ended new ≡ over
    → is_meter_ended_within (leaving ∷ []) old ≡ (over || false)
over_after_one leaving old new over is_new is_over_now =
    ap (λ now. now || false) (ap meter_has_ended (sym is_new) ∙ is_over_now)

pub kept-stay : (port : ℕ) (leaving : Leaving) (old new : SeenMeter) → old.port ≡ port
    → IsMeterNoted leaving old new stay.Stay → meters_after ((port, leaving) ∷ []) (old ∷ []) ≡ new ∷ []
kept-stay port leaving old new here noted = rw (
  kept-one ((port, leaving) ∷ []) old,
  leavings_here port leaving old here,
  over_after_one leaving old new false noted.0 noted.1,
) (ap (λ m. m ∷ []) (sym noted.0))

pub kept-leave : (port : ℕ) (leaving : Leaving) (old new : SeenMeter) → old.port ≡ port
    → IsMeterNoted leaving old new stay.Leave → meters_after ((port, leaving) ∷ []) (old ∷ []) ≡ []
kept-leave port leaving old new here noted = rw (
  kept-one ((port, leaving) ∷ []) old,
  leavings_here port leaving old here,
  over_after_one leaving old new true noted.0 noted.1,
) refl

pub kept_elsewhere : (port : ℕ) (leaving : Leaving) (meter : SeenMeter) → meter.port ≢ port
    → meters_after ((port, leaving) ∷ []) (meter ∷ []) ≡ meter ∷ []
kept_elsewhere port leaving meter apart =
    rw (kept-one ((port, leaving) ∷ []) meter, leavings_elsewhere port leaving meter apart)
    (ap (λ held. record meter { held = held } ∷ []) (append-nil meter.held))

-- ---- a step over a list whose meters before a place noted the leavings already

pub after_stay : {M : Type 0} (seen : M → SeenMeter) (left : MeterPortLeavings) (meters : List M) (at : ℕ)
    → (old new : M) → at < length meters → get_or meters at old ≡ old
    → meters_after left (seen old ∷ []) ≡ seen new ∷ []
    → map seen (take at meters) ++ meters_after left (map seen (drop at meters))
    ≡ map seen (take (at + 1) (set meters at new))
    ++ meters_after left (map seen (drop (at + 1) (set meters at new)))
after_stay seen left meters at old new within is_old stays =
    let first = map seen (take at meters) in
    let rest = map seen (drop (at + 1) meters) in
    rw (
      drop_at_item meters at old within is_old,
      take_more_set meters at new within,
      drop_set meters at new,
      map-append,
      append_assoc,
    )
    (ap (λ more. first ++ more) (kept-append left (seen old ∷ []) rest
    ∙ ap (λ one. one ++ meters_after left rest) stays))

pub after_leave : {M : Type 0} (seen : M → SeenMeter) (left : MeterPortLeavings) (meters : List M) (at : ℕ)
    → (old new : M) (after : List M) → at < length meters → get_or meters at old ≡ old
    → meters_after left (seen old ∷ []) ≡ [] → after ≡ remove (set meters at new) at
    → map seen (take at meters) ++ meters_after left (map seen (drop at meters))
    ≡ map seen (take at after) ++ meters_after left (map seen (drop at after))
after_leave seen left meters at old new after within is_old leaves is_after =
    let rest = map seen (drop (at + 1) meters) in
    let parts = seam_at (take at meters) (drop (at + 1) meters) at
    (length-take-le at meters (omega arith)) in
    rw (
      is_after,
      remove-set meters at new within,
      parts.0,
      parts.1,
      drop_at_item meters at old within is_old,
    )
    (ap (λ more. map seen (take at meters) ++ more) (kept-append left (seen old ∷ []) rest
    ∙ ap (λ one. one ++ meters_after left rest) leaves))

pub after_all : {M : Type 0} (seen : M → SeenMeter) (left : MeterPortLeavings) (meters : List M) (at : ℕ)
    → length meters ≤ at
    → map seen (take at meters) ++ meters_after left (map seen (drop at meters)) ≡ map seen meters
unfolding meters_after
after_all seen left meters at past =
    rw (take_all at meters past, drop_of_length-le meters past, append-nil) refl

kept-cond : (more : MeterPortLeavings) (meter : SeenMeter) (over : Bool)
    → cond (over || is_meter_ended_within (meter_port_leavings meter.port more) meter) []
    (meter_with_leavings (meter_port_leavings meter.port more) meter ∷ [])
    ≡ meters_after more (cond over [] (meter ∷ []))
unfolding meters_after
kept-cond more meter true = refl
kept-cond more meter false = sym (kept-one more meter)

kept_on_one : (left more : MeterPortLeavings) (meter : SeenMeter)
    → meters_after (left ++ more) (meter ∷ []) ≡ meters_after more (meters_after left (meter ∷ []))
kept_on_one left more meter =
    let before = meter_port_leavings meter.port left in
    let after = meter_port_leavings meter.port more in
    rw (
      kept-one left meter,
      kept-one (left ++ more) meter,
      meter_port_leavings-append meter.port left more,
      is_over_within-append before after meter,
      holding-append before after meter,
    )
    (kept-cond more (meter_with_leavings before meter) (is_meter_ended_within before meter))

-- who stays through all leavings stays through the earlier ones, and from there through the others
pub kept_on : (left more : MeterPortLeavings) (meters : List SeenMeter)
    → meters_after (left ++ more) meters ≡ meters_after more (meters_after left meters)
unfolding meters_after
kept_on left more [] = refl
kept_on left more (meter ∷ meters) = let both = left ++ more in
    kept-append both (meter ∷ []) meters
    ∙ ap (λ first. first ++ meters_after both meters) (kept_on_one left more meter)
    ∙ ap (λ rest. meters_after more (meters_after left (meter ∷ [])) ++ rest)
    (kept_on left more meters)
    ∙ sym (kept-append more (meters_after left (meter ∷ [])) (meters_after left meters))
    ∙ ap (meters_after more) (sym (kept-append left (meter ∷ []) meters))
