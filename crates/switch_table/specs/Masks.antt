-- The masks of the entries of a cache.
use Rattle.std.specs.Prelude.{◌==◌, IfSome, IsTrue, List, Option}
use Rattle.base.specs.Exports.{list_any}
use Rattle.ternary.specs.Exports.{IsWord, WordValue}

-- one of these words has the word's mask
pub record HasCacheMaskIn (words : List WordValue) (word : WordValue) : Type 0 where
  pub sound : IsWord word
  pub there : IsTrue (list_any (λ other. other.mask == word.mask) words)

-- if the masks are known, one of these words has the word's mask
abbrev pub HasCacheMaskOf : Option (List WordValue) → WordValue → Type 0
HasCacheMaskOf masks word = IfSome masks (λ words. HasCacheMaskIn words word)
