-- What the records of flow meters count: each record of a meter that stays, and where none leaves,
-- each record.
use Rattle.std.proofs.Common.{[], ◌&&◌, ◌++◌, ◌+◌, ◌==◌, ◌||◌, ◌∙◌, ◌∷◌, ◌≡◌, ◌≤◌, All, Bool, List, ap, append-nil, arith, cond, false, filter, flat_map, length, map, not, refl, subst, suc, sym, true, ℕ}
use Rattle.base.proofs.Exports.{All-append, All-cons, All-filter, All-head, All-nil, All-tail, count_by-le-length, flat_map-append, length-filter, length-map, sum_by-cons}
use Rattle.five_tuple.specs.Exports.{header_eq}
use Rattle.five_tuple.specs.declared.header.Header.{Header}
use Rattle.base.specs.Exports.{has}
use Rattle.meters.specs.Exports.{MeterPortLeavings, SeenMeter, meter_flow_records_of, meters_gone_after, gone_meter_records, meter_has_ended, is_meter_ended_within, kept_meters, meter_leaves_with, meter_leaving_records, meter_port_leavings, meter_with_leavings, meters_after}
use Rattle.meters.proofs.MetersKept.{kept-append, kept-nothing, kept-one, kept_on}
use Rattle.policy_rules.specs.declared.packet.Leaving.{Leaving}
use Rattle.flow_export.specs.Counted.{FlowMeterLaws, IsFlowCounted, IsNewFlowMeter, NoFlowMeterLeaves, flow_packet_count}
use Rattle.flow_export.specs.Flows.{exported_flow_headers_of, flow_packets_of}

-- ---- a meter that stays

one_more : (port : ℕ) (h : Header) (one : ℕ × Leaving) (rest : List (ℕ × Leaving)) (count : ℕ)
    → (here : Bool) → flow_packets_of (map (λ (o : ℕ × Leaving). o.1) rest) h ≡ count
    → flow_packets_of (map (λ (o : ℕ × Leaving). o.1) (cond here (one ∷ rest) rest)) h
    ≡ cond (here && header_eq one.1.header h) 1 0 + count
one_more port h one rest count true is =
    sum_by-cons (λ (two : Leaving). cond (header_eq two.header h) 1 0) one.1
    (map (λ (o : ℕ × Leaving). o.1) rest) ∙ ap (λ n. cond (header_eq one.1.header h) 1 0 + n) is
one_more port h one rest count false is = omega (arith, is)

packets_are : (port : ℕ) (h : Header) (left : MeterPortLeavings)
    → flow_packets_of (meter_port_leavings port left) h ≡ flow_packet_count left port h
packets_are port h [] = refl
packets_are port h (one ∷ left) = one_more port h one (filter (λ o. o.0 == port) left)
    (flow_packet_count left port h) (one.0 == port) (packets_are port h left) ∙ sym (sum_by-cons
    (λ (two : ℕ × Leaving). cond ((two.0 == port) && header_eq two.1.header h) 1 0) one left)

all_counted : (port : ℕ) (left : MeterPortLeavings) (headers : List Header)
    → All (IsFlowCounted left) (map (λ h.
    record { port = port; header = h; packets = flow_packets_of (meter_port_leavings port left) h }) headers)
all_counted port left [] = All-nil (IsFlowCounted left)
all_counted port left (h ∷ headers) =
    All-cons (IsFlowCounted left) _ _ (packets_are port h left) (all_counted port left headers)

told_counted : (most : ℕ) (left : MeterPortLeavings) (meter : SeenMeter) → IsNewFlowMeter most meter
    → All (IsFlowCounted left) (meter_flow_records_of (meter_with_leavings (meter_port_leavings meter.port left) meter))
told_counted most left meter new = let more = meter_port_leavings meter.port left in
    subst (All (IsFlowCounted left))
    (sym (ap (λ held. meter.recorded (held ++ more)) new.empty ∙ new.kind.recorded more))
    (all_counted meter.port left (exported_flow_headers_of more))

one_counted : (most : ℕ) (left : MeterPortLeavings) (meter : SeenMeter) (over : Bool) → IsNewFlowMeter most meter
    → All (IsFlowCounted left)
    (flat_map meter_flow_records_of (cond over [] (meter_with_leavings (meter_port_leavings meter.port left) meter ∷ [])))
one_counted most left meter true new = All-nil (IsFlowCounted left)
one_counted most left meter false new =
    rw (append-nil (meter_flow_records_of (meter_with_leavings (meter_port_leavings meter.port left) meter)))
    (told_counted most left meter new)

kept_counted : (most : ℕ) (left : MeterPortLeavings) (meters : List SeenMeter) → All (IsNewFlowMeter most) meters
    → All (IsFlowCounted left) (flat_map meter_flow_records_of (meters_after left meters))
unfolding meters_after
kept_counted most left [] new = All-nil (IsFlowCounted left)
kept_counted most left (meter ∷ meters) new =
    let over = is_meter_ended_within (meter_port_leavings meter.port left) meter in
    subst (λ (all : List SeenMeter). All (IsFlowCounted left) (flat_map meter_flow_records_of all))
    (sym (kept-append left (meter ∷ []) meters))
    (subst (All (IsFlowCounted left)) (sym (flat_map-append meter_flow_records_of
    (meters_after left (meter ∷ [])) (meters_after left meters))) (All-append (IsFlowCounted left) _ _
    (subst (λ (all : List SeenMeter). All (IsFlowCounted left) (flat_map meter_flow_records_of all)) (sym (kept-one
    left meter)) (one_counted most left meter over (All-head (IsNewFlowMeter most) meter meters new)))
    (kept_counted most left meters (All-tail (IsNewFlowMeter most) meter meters new))))

-- ---- where none leaves

few_after : (left : MeterPortLeavings) (meters : List SeenMeter)
    → length (meters_after left meters) ≤ length meters
unfolding meters_after
few_after left meters =
    let test = λ (meter : SeenMeter). not (is_meter_ended_within (meter_port_leavings meter.port left) meter) in
    omega (
      arith,
      length-map (filter test meters) (λ (m : SeenMeter). meter_with_leavings (meter_port_leavings m.port left) m),
      length-filter test meters,
      count_by-le-length test meters,
    )

over_is : (one : ℕ × Leaving) (meter : SeenMeter) (here : Bool)
    → (here && meter_has_ended (meter_with_leavings (one.1 ∷ []) meter))
    ≡ is_meter_ended_within (map (λ (o : ℕ × Leaving). o.1) (cond here (one ∷ []) [])) meter
over_is one meter false = refl
over_is one meter true = sym (or_false (meter_has_ended (meter_with_leavings (one.1 ∷ []) meter))) where
  or_false : (b : Bool) → (b || false) ≡ b
  or_false true = refl
  or_false false = refl

module _ (one : ℕ × Leaving) where
  silent : (meter : SeenMeter) (meters : List SeenMeter) (leaves : Bool) → meter_leaves_with one meter ≡ leaves
      → length (cond leaves [] (meter_with_leavings (meter_port_leavings meter.port (one ∷ [])) meter ∷ [])
      ++ meters_after (one ∷ []) meters) ≡ suc (length meters)
      → (meter_leaving_records one meter ≡ []) × (length (meters_after (one ∷ []) meters) ≡ length meters)
  silent meter meters true is long = absurd (omega (arith, few_after))
  silent meter meters false is long = (
    ap (λ leaves. cond leaves (meter_flow_records_of (meter_with_leavings (one.1 ∷ []) meter)) []) is,
    omega (arith, long),
  )

  none_told : (meters : List SeenMeter) → length (meters_after (one ∷ []) meters) ≡ length meters
      → flat_map (meter_leaving_records one) meters ≡ []
  none_told [] long = refl
  none_told (meter ∷ meters) long =
      let now = silent meter meters (meter_leaves_with one meter) refl
      (ap length (sym (kept-append (one ∷ []) (meter ∷ []) meters
      ∙ ap (λ some. some ++ meters_after (one ∷ []) meters) (kept-one (one ∷ []) meter
      ∙ (ap (λ over. cond over [] (meter_with_leavings (meter_port_leavings meter.port (one ∷ [])) meter ∷ []))
      (sym (over_is one meter (one.0 == meter.port))))))) ∙ long) in
      ap (λ told. told ++ flat_map (meter_leaving_records one) meters) now.0 ∙ none_told meters now.1

none_gone : (left : MeterPortLeavings) (meters : List SeenMeter)
    → length (meters_after left meters) ≡ length meters → meters_gone_after left meters ≡ []
none_gone [] meters long = refl
none_gone (one ∷ left) meters long =
    let now = meters_after (one ∷ []) meters in
    let last = ap length (sym (kept_on (one ∷ []) left meters)) ∙ long in
    let first = few_after (one ∷ []) meters in
    let more = few_after left now in
    ap (λ told. told ++ meters_gone_after left now) (none_told one meters (omega (arith, last, first, more)))
    ∙ none_gone left now (omega (arith, last, first, more))

-- ---- the laws

module _ (most ports : ℕ) (left : MeterPortLeavings) (meters : List SeenMeter) where
  abbrev own : List SeenMeter
  own = filter (λ meter. has ports meter.port) meters

  stayed : All (IsNewFlowMeter most) meters
      → All (IsFlowCounted left) (flat_map meter_flow_records_of (kept_meters ports left meters))
  stayed new = kept_counted most left own
      (All-filter (λ meter. has ports meter.port) (IsNewFlowMeter most) meters new)

  counted : All (IsNewFlowMeter most) meters → NoFlowMeterLeaves ports left meters → All (IsFlowCounted left)
      (gone_meter_records ports left meters ++ flat_map meter_flow_records_of (kept_meters ports left meters))
  counted new none = rw (none_gone left own (none ∙ ap length (kept-nothing own))) (stayed new)

pub laws_hold : FlowMeterLaws
laws_hold = record { stayed = stayed; counted = counted }
