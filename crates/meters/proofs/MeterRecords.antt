-- The records of the meters that left, meter by meter and leaving by leaving.
use Rattle.std.proofs.Common.{[], ◌++◌, ◌+◌, ◌<◌, ◌∙◌, ◌∷◌, ◌≡◌, ◌≤◌, List, ap, append-nil, append_assoc, drop, drop_of_length-le, flat_map, get_or, length, map, remove, set, sym, ℕ}
use Rattle.base.proofs.Exports.{drop_at_item, drop_removed, drop_set}
use Rattle.policy_rules.specs.declared.packet.Leaving.{Leaving}
use Rattle.meters.specs.Exports.{MeterBoardValue, MeterPortLeavings, SeenMeter, meter_board_after, meters_gone_after, gone_meter_records, kept_meters, meter_leaving_records, meters_after}
use Rattle.meters.specs.declared.flows.FlowRecord.{FlowRecord}
use Rattle.meters.proofs.MetersKept.{kept-nothing, kept_on}

-- ---- one more leaving, of which the meters before a place have told already

module _ {M : Type 0} (seen : M → SeenMeter) (one : ℕ × Leaving) where
  abbrev told : List M → List FlowRecord
  told meters = flat_map (meter_leaving_records one) (map seen meters)

  first_tells : (gone told_now : List FlowRecord) (meters : List M) (at : ℕ) (old : M)
      → at < length meters → get_or meters at old ≡ old → meter_leaving_records one (seen old) ≡ told_now
      → gone ++ told (drop at meters) ≡ (gone ++ told_now) ++ told (drop (at + 1) meters)
  first_tells gone told_now meters at old within is_old tells =
      ap (λ rest. gone ++ told rest) (drop_at_item meters at old within is_old)
      ∙ ap (λ first. gone ++ (first ++ told (drop (at + 1) meters))) tells
      ∙ sym (append_assoc gone told_now (told (drop (at + 1) meters)))

  pub told_stay : (gone : List FlowRecord) (meters : List M) (at : ℕ) (old new : M)
      → at < length meters → get_or meters at old ≡ old → meter_leaving_records one (seen old) ≡ []
      → gone ++ told (drop at meters) ≡ gone ++ told (drop (at + 1) (set meters at new))
  told_stay gone meters at old new within is_old silent =
      first_tells gone [] meters at old within is_old silent
      ∙ ap (λ all. all ++ told (drop (at + 1) meters)) (append-nil gone)
      ∙ ap (λ rest. gone ++ told rest) (sym (drop_set meters at new))

  pub told_leave : (gone told_now : List FlowRecord) (meters after : List M) (at : ℕ)
      → (old new : M) → at < length meters → get_or meters at old ≡ old
      → meter_leaving_records one (seen old) ≡ told_now → after ≡ remove (set meters at new) at
      → gone ++ told (drop at meters) ≡ (gone ++ told_now) ++ told (drop at after)
  told_leave gone told_now meters after at old new within is_old tells is_after =
      first_tells gone told_now meters at old within is_old tells
      ∙ ap (λ rest. (gone ++ told_now) ++ told rest)
      (sym (ap (drop at) is_after ∙ drop_removed meters at new within))

  pub told_all : (gone : List FlowRecord) (meters : List M) (at : ℕ) → length meters ≤ at
      → gone ++ told (drop at meters) ≡ gone
  told_all gone meters at past =
      ap (λ rest. gone ++ told rest) (drop_of_length-le meters past) ∙ append-nil gone

-- ---- more leavings

-- the records of the earlier leavings come first
pub gone_on : (left more : MeterPortLeavings) (meters : List SeenMeter) → meters_gone_after (left ++ more) meters
    ≡ meters_gone_after left meters ++ meters_gone_after more (meters_after left meters)
gone_on [] more meters = ap (meters_gone_after more) (sym (kept-nothing meters))
gone_on (one ∷ left) more meters =
    let now = meters_after (one ∷ []) meters in
    let first = flat_map (meter_leaving_records one) meters in
    ap (λ rest. first ++ rest) (gone_on left more now
    ∙ ap (λ last. meters_gone_after left now ++ meters_gone_after more last) (sym (kept_on (one ∷ []) left meters)))
    ∙ sym (append_assoc first (meters_gone_after left now) (meters_gone_after more (meters_after (one ∷ left) meters)))

pub board_on : (ports : ℕ) (left more : MeterPortLeavings) (meters : List SeenMeter)
    → (old new : MeterBoardValue SeenMeter) → old ≡ meter_board_after ports left meters
    → new.meters ≡ meters_after more old.meters
    → new.gone ≡ old.gone ++ meters_gone_after more old.meters → new ≡ meter_board_after ports (left ++ more) meters
board_on ports left more meters old new until_now noted told =
    let kept : new.meters ≡ kept_meters ports (left ++ more) meters =
    noted ∙ ap (λ (board : MeterBoardValue SeenMeter). meters_after more board.meters) until_now
    ∙ sym (kept_on left more _) in
    let gone : new.gone ≡ gone_meter_records ports (left ++ more) meters =
    told ∙ ap (λ (board : MeterBoardValue SeenMeter). board.gone ++ meters_gone_after more board.meters) until_now
    ∙ sym (gone_on left more _) in
    λ i. record { meters = kept i; gone = gone i }
