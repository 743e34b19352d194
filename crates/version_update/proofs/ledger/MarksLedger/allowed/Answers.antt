use Rattle.std.proofs.Common.{◌∙◌, ◌≡◌, ◌≤◌, ap, arith, unwrap_or}
use Rattle.version_update.specs.Exports.{MarksValue, update_acked_stamps, least_of_marks}
use Rattle.version_update.proofs.VersionLeastStamp.{least_acked_stamp-version}
use Rattle.version_update.proofs.ledger.MarksLedger.allowed.Goals as goal
use Rattle.version_update.proofs.ledger.MarksLedger.allowed.Goals.{After-unwrap_or}

-- the least version that a member stamps with, or the current one, is a version
is_version : (c : After-unwrap_or) → (1 ≤ c.unwrap_or.result)
    × (c.unwrap_or.result ≤ c.args.self.now.count)
is_version c =
    let now = c.args.self.now in
    let bounds = c.switches.ensures.bounds in
    let least = least_acked_stamp-version now.count now.current now.switches bounds.first bounds.last
    bounds.records in
    let current = ap (λ (v : MarksValue). v.current) c.self.view_is in
    let same : c.unwrap_or.result ≡ unwrap_or (least_of_marks (update_acked_stamps now.switches)) now.current =
    c.unwrap_or.ensures ∙ cc (c.least_acked_stamp.ensures, c.switches.ensures.switches, current) in
    (omega (arith, least.0, same), omega (arith, least.1, same))

pub overflow_sub-result : goal.overflow_sub-result
overflow_sub-result c =
    let is = is_version (goal.at.overflow_sub-result c).After-unwrap_or in omega (arith, is.0)

pub returns-clause-live : goal.returns-clause-live
returns-clause-live c =
    let is = is_version (goal.at.returns-clause-live c).After-unwrap_or in omega (arith, is.0, is.1)
