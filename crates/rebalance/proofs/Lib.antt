mod RebalanceSums
mod RebalanceLoads
mod RebalanceWeights
mod RebalanceSpread
mod ProposedPlans
