-- A reader of the crate `csv` in the middle of a text: the records that it has yet to read.
use Rattle.std.specs.Prelude.{[], ◌+◌, ◌≡◌, List, Option, Some, false, length, true, ℕ}
use Rattle.std.specs.Option.{option_map_or}
use Rattle.std.specs.Borrow.{Bor}
use Rattle.csv.specs.Reading.{Ready, default_config, has_failed, is_flexible, reader_config, reader_state, reader_trim, records_from, source_of}
use Rattle.csv.specs.declared.reader.Reader.{Reader}
use Rattle.csv.specs.declared.reader.Trim.TheVariants as trim

-- the bytes that the reader has yet to read, unless it has failed
abbrev pub csv_bytes_left : Reader (Bor (List ℕ)) → Option (List ℕ)
csv_bytes_left reader = source_of (λ slice. Some slice.now) reader

-- the records that it has yet to read: none after a failure
abbrev pub csv_records_left : Reader (Bor (List ℕ)) → List (List (List ℕ))
csv_records_left reader =
    option_map_or (λ bytes. records_from default_config (length bytes + 1) (reader_state reader)
    bytes)
    (csv_bytes_left reader) []

-- the reader has the presets of its crate, except that it treats no record as a header and allows
-- records of any width
pub record IsCsvReading (reader : Reader (Bor (List ℕ))) : Type 0 where
  pub config : reader_config reader ≡ default_config
  pub trim : reader_trim reader ≡ trim.None
  pub flexible : is_flexible reader ≡ true
  pub ready : Ready reader
  pub going : has_failed reader ≡ false
