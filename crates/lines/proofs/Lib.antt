pub mod LinesCallerLemmas
mod LinePieceLemmas
mod LineShortNumbers
mod LineHexPairs
pub mod LinePrintedLengths
