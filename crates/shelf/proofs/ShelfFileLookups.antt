-- A look-up among files in memory is one among the files that contracts see.
use Rattle.std.proofs.Common.{[], ◌∷◌, ◌≡◌, Global, List, String, Vec, arith, bytes_eq, find, option_map, refl, string_bytes, ℕ}
use Rattle.shelf.specs.Exports.{shelf_file_named, shelf_files_of}

pub file_named_kept : (files : List (String Global × Vec ℕ Global)) (name : List ℕ)
    → shelf_file_named (shelf_files_of files) name
    ≡ option_map (λ file. file.1.items) (find (λ file. bytes_eq (string_bytes file.0) name) files)
file_named_kept [] name = refl
file_named_kept (file ∷ files) name = let rest = file_named_kept files name in grind (arith, rest)
