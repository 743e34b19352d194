-- Formats: how the values of a type are encoded as bytes. A format is an encoding, a test of which
-- values it is for, and a reader of one value from the front of bytes; larger formats are made of
-- smaller ones.
use Rattle.std.specs.Prelude.{[], if◌then◌else◌, ◌&&◌, ◌++◌, ◌∷◌, Bool, List, None, Option, Some, drop, flat_map, length, nat_lt, suc, take, true, zero, ℕ}
use Rattle.base.specs.Exports.{Width, byte_len, from_be_bytes, list_all, to_be_bytes}

pub record WireFormat (A : Type 0) : Type 0 where
  pub spell : A → List ℕ
  pub fits : A → Bool
  pub read : List ℕ → Option (A × List ℕ)

-- what follows if something was read
abbrev pub wire_format_then_read : {A B : Type 0} → Option A → (A → Option B) → Option B
wire_format_then_read None f = None
wire_format_then_read (Some x) f = f x

-- ---- numbers

-- a number in as many bytes as the width has, the most significant first
unfoldable pub wire_spelled_number : Width → ℕ → List ℕ
wire_spelled_number w n = to_be_bytes w n

unfoldable pub read_number : Width → List ℕ → Option (ℕ × List ℕ)
read_number w bytes =
    if nat_lt (length bytes) (byte_len w)
    then None
    else Some (from_be_bytes w (take (byte_len w) bytes), drop (byte_len w) bytes)

abbrev pub number : Width → ℕ → WireFormat ℕ
number w limit =
    record { spell = wire_spelled_number w; fits = λ n. nat_lt n limit; read = read_number w }

-- ---- formats of formats

-- one value after the other
infixr 20 ◌⊗◌
abbrev pub ◌⊗◌ : {A B : Type 0} → WireFormat A → WireFormat B → WireFormat (A × B)
f ⊗ g = record {
  spell = λ pair. f.spell pair.0 ++ g.spell pair.1;
  fits = λ pair. f.fits pair.0 && g.fits pair.1;
  read = λ bytes. wire_format_then_read (f.read bytes) (λ x.
      wire_format_then_read (g.read x.1) (λ y. Some ((x.0, y.0), y.1)));
}

-- the values of another type, encoded as values of this one
abbrev pub wire_format_as_type : {A B : Type 0} → (A → B) → (B → A) → WireFormat A → WireFormat B
wire_format_as_type to from f = record {
  spell = λ y. f.spell (from y);
  fits = λ y. f.fits (from y);
  read = λ bytes. wire_format_then_read (f.read bytes) (λ x. Some (to x.0, x.1));
}

-- only the values that pass a test
abbrev pub wire_format_such_that : {A : Type 0} → (A → Bool) → WireFormat A → WireFormat A
wire_format_such_that test f = record {
  spell = f.spell;
  fits = λ x. f.fits x && test x;
  read = λ bytes. wire_format_then_read (f.read bytes) (λ x. if test x.0 then Some x else None);
}

-- the flag 0 for nothing, or the flag 1 and the value
abbrev pub wire_spelled_optional : {A : Type 0} → WireFormat ℕ → WireFormat A → Option A → List ℕ
wire_spelled_optional flag f None = flag.spell 0
wire_spelled_optional flag f (Some x) = flag.spell 1 ++ f.spell x

abbrev pub wire_optional_fits : {A : Type 0} → WireFormat A → Option A → Bool
wire_optional_fits f None = true
wire_optional_fits f (Some x) = f.fits x

abbrev pub read_wire_flagged : {A : Type 0} → WireFormat A → ℕ → List ℕ → Option (Option A × List ℕ)
read_wire_flagged f zero bytes = Some (None, bytes)
read_wire_flagged f (suc zero) bytes = wire_format_then_read (f.read bytes) (λ x. Some (Some x.0, x.1))
read_wire_flagged f (suc (suc other)) bytes = None

abbrev pub wire_optional : {A : Type 0} → WireFormat ℕ → WireFormat A → WireFormat (Option A)
wire_optional flag f = record {
  spell = wire_spelled_optional flag f;
  fits = wire_optional_fits f;
  read = λ bytes. wire_format_then_read (flag.read bytes) (λ x. read_wire_flagged f x.0 x.1);
}

-- this many values
unfoldable pub wire_read_items : {A : Type 0} → WireFormat A → ℕ → List ℕ → Option (List A × List ℕ)
wire_read_items f zero bytes = Some ([], bytes)
wire_read_items f (suc count) bytes =
    wire_format_then_read (f.read bytes) (λ x.
    wire_format_then_read (wire_read_items f count x.1) (λ xs. Some (x.0 ∷ xs.0, xs.1)))

-- how many values there are, and then each
abbrev pub wire_list_of : {A : Type 0} → WireFormat ℕ → WireFormat A → WireFormat (List A)
wire_list_of count f = record {
  spell = λ xs. count.spell (length xs) ++ flat_map f.spell xs;
  fits = λ xs. count.fits (length xs) && list_all f.fits xs;
  read = λ bytes. wire_format_then_read (count.read bytes) (λ n. wire_read_items f n.0 n.1);
}
