pub mod Refusals
pub mod Filled
pub mod Masks
pub mod ComputedMasks
pub mod MaskLaws
pub mod Exports
