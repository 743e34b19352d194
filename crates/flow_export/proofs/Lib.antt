mod FlowCounts
mod FlowCountLaws
