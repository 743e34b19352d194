-- What is in a source of whole files, and what a read of it may return.
use Rattle.std.specs.Prelude.{◌<◌, ◌≡◌, ◌≤◌, Bool, Err, IsSomeAnd, List, None, Ok, Option, Result, Some, String, Vec, bytes_eq, false, find, length, map, option_map, string_bytes, true, ℕ, ⊤}
use Rattle.std.specs.Global.{Global}
use Rattle.shelf.specs.declared.source.ShelfError.{ShelfError}
use Rattle.shelf.specs.declared.source.ShelfError.TheVariants.{Failed, NoMemory}
use Rattle.shelf.specs.Scripts.{ShelfCallScript, shelf_faults_counted_up}

-- files by name: the bytes of each name, and those of the file
abbrev pub ShelfFiles : Type 0
ShelfFiles = List (List ℕ × List ℕ)

-- what contracts see of each shelf: its files, if they are known; how often it failed; and how
-- often it was read. Both counts stop at their greatest value.
pub record ShelfState : Type 0 where
  pub files : Option ShelfFiles
  pub faults : ℕ
  pub reads : ℕ

-- there were at most this many reads
abbrev pub ShelfReadsAtMost : ℕ → ℕ → ℕ → Type 0
ShelfReadsAtMost most before now = (n : ℕ) × (n ≤ most) × (now ≡ shelf_faults_counted_up n before)

-- a shelf after at most this many reads: the same files, and no lower count of faults
pub record IsShelfAfterReads (most : ℕ) (old new : ShelfState) : Type 0 where
  pub same_files : new.files ≡ old.files
  pub faults : old.faults ≤ new.faults
  pub reads : ShelfReadsAtMost most old.reads new.reads

-- the files in memory
abbrev pub shelf_files_of : List (String Global × Vec ℕ Global) → ShelfFiles
shelf_files_of files = map (λ file. (string_bytes file.0, file.1.items)) files

-- the content of the first file of this name
abbrev pub shelf_file_named : ShelfFiles → List ℕ → Option (List ℕ)
shelf_file_named files name = option_map (λ file. file.1) (find (λ file. bytes_eq file.0 name) files)

-- the file of this name has this content, of at most this many bytes
abbrev pub ShelfHasFile : ShelfFiles → List ℕ → ℕ → List ℕ → Type 0
ShelfHasFile files name limit content = (shelf_file_named files name ≡ Some content) × (length content ≤ limit)

-- there is no file of this name
abbrev pub ShelfLacksFile : ShelfFiles → List ℕ → Type 0
ShelfLacksFile files name = shelf_file_named files name ≡ None

-- the file of this name has more bytes
abbrev pub ShelfHasLongerFile : ShelfFiles → List ℕ → ℕ → Type 0
ShelfHasLongerFile files name limit =
    IsSomeAnd (shelf_file_named files name) (λ content. limit < length content)

-- the result is neither a fault nor out of memory
abbrev pub IsNoShelfFault : {T : Type 0} → Result T ShelfError → Type 0
IsNoShelfFault (Err Failed) = ⊥
IsNoShelfFault (Err NoMemory) = ⊥
IsNoShelfFault _ = ⊤

-- the result is a fault
abbrev pub is_shelf_read_fault : {T : Type 0} → Result T ShelfError → Bool
is_shelf_read_fault (Err Failed) = true
is_shelf_read_fault _ = false

-- the result is an error other than out of memory
abbrev pub is_shelf_refusal : {T : Type 0} → Result T ShelfError → Bool
is_shelf_refusal (Ok content) = false
is_shelf_refusal (Err NoMemory) = false
is_shelf_refusal _ = true

-- files, with the calls that are to fail
pub record ScriptedShelfFiles : Type 0 where
  pub files : ShelfFiles
  pub script : ShelfCallScript

-- files, and how often they were read
pub record CalmShelfFiles : Type 0 where
  pub files : ShelfFiles
  pub reads : ℕ

-- the counts of a shelf whose files are not known
pub record ShelfReadCounts : Type 0 where
  pub faults : ℕ
  pub reads : ℕ
