-- The lines of the records of meters, meter by meter.
use Rattle.std.proofs.Common.{[], ◌++◌, ◌∙◌, ◌∷◌, ◌≡◌, List, ap, flat_map, map, refl, sym}
use Rattle.base.proofs.Exports.{flat_map-append}
use Rattle.flow_export.specs.Lines.{exported_flow_line, exported_flow_lines}
use Rattle.meters.specs.Exports.{SeenMeter, meter_flow_records_of}

pub lines_of_all : {X : Type 0} (seen : X → SeenMeter) (xs : List X)
    → flat_map (λ x. exported_flow_lines (meter_flow_records_of (seen x))) xs
    ≡ exported_flow_lines (flat_map meter_flow_records_of (map seen xs))
lines_of_all seen [] = refl
lines_of_all seen (x ∷ xs) =
    ap (λ more. exported_flow_lines (meter_flow_records_of (seen x)) ++ more) (lines_of_all seen xs)
    ∙ sym (flat_map-append exported_flow_line (meter_flow_records_of (seen x)) (flat_map meter_flow_records_of (map seen xs)))
