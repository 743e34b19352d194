mod TernaryBits
mod TernaryWords
mod TernaryFreedBits
mod TernaryFreeBits
mod TernaryHexDigits
pub mod TernaryCallerLemmas
