pub mod NetFileValueItems
pub mod NetFilePortMasks
pub mod NetFileFreshPorts
pub mod NetFileRowRefusals
pub mod NetFileSoundness
pub mod NetFileRowPlaces
pub mod NetFileNames
