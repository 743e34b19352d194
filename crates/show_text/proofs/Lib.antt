pub mod PlanTextRows
pub mod PlanTextLengths
