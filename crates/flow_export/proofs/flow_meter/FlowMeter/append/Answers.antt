use Rattle.std.proofs.Common.{[], ◌++◌, ◌∙◌, ◌∷◌, ◌≤◌, List, ap, arith, cond, length, subst, sym, ℕ}
use Rattle.five_tuple.specs.declared.header.Header.{Header}
use Rattle.flow_export.specs.Counts.{flow_count_of_header}
use Rattle.flow_export.proofs.FlowCounts.{count_few, counts_after}
use Rattle.flow_export.proofs.flow_meter.FlowMeter.append.Goals as goal

pub count-requires : goal.count-requires
count-requires c =
    let held = c.self.inside.held in
    let header = c.args.leaving.now.header in
    let few : flow_count_of_header header c.self.inside.counts.entries ≤ length held.items =
    subst (λ (counts : List (Header × ℕ)). flow_count_of_header header counts ≤ length held.items)
    (sym c.self.invariant) (count_few header held.items) in
    omega (arith, few, held.ok.0, held.ok.1, held.small)

pub invariant_of-self-2 : goal.invariant_of-self-2
invariant_of-self-2 c = let one = c.args.leaving.now in
    counts_after c.self.inside.counts.entries c.count.new.counts.entries c.self.inside.held.items
    c.push.new.self.items one c.self.invariant c.in_ok-count.ensures.counted
    (c.push.ensures.items ∙ ap (λ b. cond b (c.reserve.new.self.items ++ one ∷ [])
    c.reserve.new.self.items) (c.push.ensures.succeeds (omega (arith, c.in_ok-reserve.ensures.ok)))
    ∙ ap (λ held. held ++ one ∷ []) c.reserve.ensures.items)
