-- What a line of at most 2,048 bytes keeps of the pieces that are added at its end.
use Rattle.std.specs.Prelude.{◌++◌, List, take, ℕ}

-- the line with a piece at its end, as far as there is room
unfoldable pub line_with : List ℕ → List ℕ → List ℕ
line_with line piece = take 2048 (line ++ piece)
