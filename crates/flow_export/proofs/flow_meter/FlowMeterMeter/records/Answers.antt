use Rattle.std.proofs.Common.{◌∙◌, ap, map, rules}
use Rattle.base.proofs.Exports.{YieldsList-from_map, YieldsList-from_rest, items_from_collect}
use Rattle.flow_export.specs.Flows.{FlowMeterValue, flows}
use Rattle.flow_export.proofs.FlowCounts.{record_at, records_are}
use Rattle.flow_export.proofs.flow_meter.FlowMeterMeter.records.Goals as goal

pub returns : goal.returns
returns c =
    let told = items_from_collect c.collect.result c.collect.ensures.ran (YieldsList-from_map _
    (record_at c.self.inside.port) (YieldsList-from_rest c.self.inside.counts.entries
    (c.map-records.ensures.source ∙ c.iter.ensures.rest)) c.map-records.ensures.closure
    (λ x r q k. search rules)) in
    c.new.ensures ∙ (search rules) ∙ ap (map (record_at c.self.inside.port)) c.self.invariant
    ∙ records_are c.self.inside.port c.self.inside.held.items
    ∙ ap (λ (meter : FlowMeterValue). flows meter.port meter.held) c.self.view_is
