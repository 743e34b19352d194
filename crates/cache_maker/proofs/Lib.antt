pub mod CacheWordDifferences
pub mod CacheWordFixedBits
pub mod IndependentCacheWords
pub mod CacheWordPlaces
pub mod WidenedCacheWords
