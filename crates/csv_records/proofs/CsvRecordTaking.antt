-- What one more read takes of the records that are left.
use Rattle.std.proofs.Common.{[], ◌&&◌, ◌++◌, ◌+◌, ◌<◌, ◌==◌, ◌∙◌, ◌∷◌, ◌≡◌, ◌⊎◌, Bool, Bor, List, None, Option, Some, add-one, ap, arith, cond, drop, false, inl, inr, length, not, option_map, refl, subst, suc, sym, take, true, zero, ℕ}
use Rattle.std.specs.Io.KnownBytes.{prepend_known}
use Rattle.csv.specs.Machine.{Read, ends_at_end, field_after, fields_after, is_end, next_record, step}
use Rattle.csv.specs.Reading.{Reached, ReadRecord, default_config, has_failed, strip_bom, reader_config, reader_state, records_from, records_next}
use Rattle.csv.specs.declared.parser.Config.{Config}
use Rattle.csv.specs.declared.parser.State.{State}
use Rattle.csv.specs.declared.parser.State.TheVariants as st
use Rattle.csv.specs.declared.reader.Reader.{Reader}
use Rattle.csv.proofs.ReadFacts.{rows-end, rows-more}
use Rattle.csv_records.specs.Readers.{csv_bytes_left, csv_records_left}
use Rattle.csv_records.specs.Texts.{TakesCsvRecord}

-- after a record less is left than before, or the text is over
abbrev pub LeavesLess : List ℕ → Read → Type 0
LeavesLess xs read = (length read.2 < length xs) ⊎ ((read.1 ≡ st.StartRecord) × (read.2 ≡ []))

less_of : (xs : List ℕ) (one other : Read) → Some one ≡ Some other → LeavesLess xs one
    → LeavesLess xs other
less_of xs one other same less = subst (LeavesLess xs) (some_same one other same) less where
  some_same : (a b : Read) → Some a ≡ Some b → a ≡ b
  some_same a b e = cc e

at_end : (ends : Bool) (fields : List (List ℕ)) (read : Read)
    → cond ends (Some (fields, st.StartRecord, [])) None ≡ Some read → LeavesLess [] read
at_end true fields read e = less_of [] (fields, st.StartRecord, []) read e (inr (refl, refl))
at_end false fields read e = cc e

one_byte : (ends : Bool) (c : ℕ) (rest : List ℕ) (fields : List (List ℕ)) (s : State)
    (later : Option Read) (read : Read) → cond ends (Some (fields, s, rest)) later ≡ Some read
    → (later ≡ Some read → LeavesLess rest read) → LeavesLess (c ∷ rest) read
one_byte true c rest fields s later read e less = less_of (c ∷ rest) (fields, s, rest) read e
    (inl (omega arith))
one_byte false c rest fields s later read e less =
    elim (less e) [ inl fewer ↦ inl (omega arith) | inr over ↦ inr over ]

leaves_less : (cfg : Config) (s : State) (fields : List (List ℕ)) (field xs : List ℕ) (read : Read)
    → next_record cfg s fields field xs ≡ Some read → LeavesLess xs read
unfolding next_record
leaves_less cfg s fields field [] read e = at_end (ends_at_end s) (fields ++ (field ∷ [])) read e
leaves_less cfg s fields field (c ∷ rest) read e = one_byte (is_end (step cfg s c).1) c rest
    (fields_after (step cfg s c).1 fields field) (step cfg s c).0 _ read e
    (leaves_less cfg (step cfg s c).0 (fields_after (step cfg s c).1 fields field)
    (field_after (step cfg s c).1 c field) rest read)

-- no record is left at the end of the text
pub over : (cfg : Config) (n : ℕ) → records_from cfg n st.StartRecord [] ≡ []
unfolding records_from next_record
over cfg zero = refl
over cfg (suc n) = refl

-- the same records follow a record, whether there are m turns or n
same_rest : (cfg : Config) (m n : ℕ) (xs : List ℕ) (read : Read) → LeavesLess xs read
    → (length read.2 < length xs → records_from cfg m read.1 read.2 ≡ records_from cfg n read.1
    read.2) → records_from cfg m read.1 read.2 ≡ records_from cfg n read.1 read.2
same_rest cfg m n xs read (inl fewer) same = same fewer
same_rest cfg m n xs read (inr (start, none)) same =
    rw (start, none) (over cfg m ∙ sym (over cfg n))

same_next : (cfg : Config) (m n : ℕ) (next : Option Read) → ((read : Read) → next ≡ Some read
    → records_from cfg m read.1 read.2 ≡ records_from cfg n read.1 read.2)
    → records_next (records_from cfg m) next ≡ records_next (records_from cfg n) next
same_next cfg m n None same = refl
same_next cfg m n (Some read) same = ap (λ (rest : List (List (List ℕ))). read.0 ∷ rest)
    (same read refl)

-- as many turns as there are bytes suffice
enough : (cfg : Config) (m n : ℕ) (s : State) (xs : List ℕ) → length xs < m → length xs < n
    → records_from cfg m s xs ≡ records_from cfg n s xs
unfolding records_from
enough cfg zero n s xs h k = absurd (omega arith)
enough cfg (suc m) zero s xs h k = absurd (omega arith)
enough cfg (suc m) (suc n) s xs h k = same_next cfg m n (next_record cfg s [] [] xs)
    (λ read e. same_rest cfg m n xs read (leaves_less cfg s [] [] xs read e)
    (λ fewer. enough cfg m n read.1 read.2 (omega arith) (omega arith)))

-- the records from here, by the next one
none_left : (cfg : Config) (n : ℕ) (s : State) (xs : List ℕ) → next_record cfg s [] [] xs ≡ None
    → records_from cfg (n + 1) s xs ≡ []
unfolding records_from
none_left cfg n s xs e = rw (add-one, e) refl

one_left : (cfg : Config) (s : State) (xs : List ℕ) (read : Read) → next_record cfg s [] [] xs
    ≡ Some read → records_from cfg (length xs + 1) s xs
    ≡ read.0 ∷ records_from cfg (length read.2 + 1) read.1 read.2
unfolding records_from
one_left cfg s xs read e = rw (add-one (length xs), e)
    (ap (λ (rest : List (List (List ℕ))). read.0 ∷ rest)
    (same_rest cfg (length xs) (length read.2 + 1) xs read (leaves_less cfg s [] [] xs read e)
    (λ fewer. enough cfg (length xs) (length read.2 + 1) read.1 read.2 fewer (omega arith))))

left_at : (reader : Reader (Bor (List ℕ))) (xs : List ℕ) → csv_bytes_left reader ≡ Some xs
    → csv_records_left reader ≡ records_from default_config (length xs + 1) (reader_state reader) xs
left_at reader xs source = rw source refl

reached_start : (s : State) (xs : List ℕ) → Reached default_config s xs [] s xs
unfolding Reached
reached_start s xs = (refl, refl)

one_reached : (fields : List (List ℕ)) (s s2 : State) (xs ys : List ℕ)
    → Reached default_config s xs (fields ∷ []) s2 ys
    → records_from default_config (length xs + 1) s xs ≡ fields ∷ records_from default_config
    (length ys + 1) s2 ys
unfolding Reached
one_reached fields s s2 xs ys (read, next, same, rest) = one_left default_config s xs read next
    ∙ rw (same, rest.0, rest.1) refl

-- a read takes the first of the records that were left, or finds none where none was
pub takes_next : (old new : Reader (Bor (List ℕ))) (found : Bool) (fields : List (List ℕ))
    (xs : List ℕ) → reader_config old ≡ default_config → csv_bytes_left old ≡ Some xs
    → ReadRecord (λ slice. Some slice.now) old new found fields
    → TakesCsvRecord (csv_records_left old) found fields (cond (not found) [] (csv_records_left new))
takes_next old new false fields xs config source read = (
  left_at old xs source ∙ none_left default_config (length xs) (reader_state old) xs
      (rows-end (λ (slice : Bor (List ℕ)). Some slice.now) old new fields default_config xs config
      source read),
  refl,
)
takes_next old new true fields xs config source read =
    let (ys, left, reached) = rows-more (λ (slice : Bor (List ℕ)). Some slice.now) old new fields
    default_config (reader_state old) xs xs [] config source
    (reached_start (reader_state old) xs) read in
    left_at old xs source ∙ one_reached fields (reader_state old) (reader_state new) xs ys reached
    ∙ ap (λ (rest : List (List (List ℕ))). fields ∷ rest) (sym (left_at new ys left))

-- the bytes of a slice are known
pub source_known : (reader : Reader (Bor (List ℕ))) → has_failed reader ≡ false → (xs : List ℕ)
    × (csv_bytes_left reader ≡ Some xs)
source_known reader going = parts (has_failed reader)
    (not reader.bom_checked && (reader.at == 0) && (reader.filled == 0))
    (drop reader.at (take reader.filled reader.buffer)) reader.rdr.now going
  where
    parts : (failed fresh : Bool) (front text : List ℕ) → failed ≡ false → (xs : List ℕ)
        × (cond failed None (cond fresh (option_map strip_bom (Some text))
        (prepend_known front (Some text))) ≡ Some xs)
    parts true fresh front text going = cc going
    parts false true front text going = (strip_bom text, refl)
    parts false false front text going = (front ++ text, refl)
