-- The two laws of formats: what is read is spelled so, and what is spelled is read again.
use Rattle.std.proofs.Common.{[], ◌%◌, ◌++◌, ◌+◌, ◌<◌, ◌^◌, ◌∙◌, ◌∷◌, ◌≡◌, ◌≤◌, Bool, List, None, Option, Some, ap, append_assoc, arith, cond, drop, drop_at, false, flat_map, get_or, get_or-drop, get_or-take, inl, inr, le-ltb, length, length-append, length-take, lt-ltb, ltb, ltb-false, ltb-true, refl, subst, suc, sym, take, take-append-drop, take_at, true, w32, w64, w8, zero, ℕ}
use Rattle.base.proofs.Exports.{Width, and_parts, be_bytes_4, be_bytes_8, byte_len, cases_lt, cond_some, from_be_bytes, from_be_bytes-to_be_bytes_4, from_be_bytes-to_be_bytes_8, get_or_past, list_all, not_refused, same_Some, to_be_bytes}
use Rattle.wire.specs.Exports.{◌⊗◌, WireFormat, wire_format_as_type, wire_list_of, number, wire_optional, read_wire_flagged, wire_read_items, read_number, wire_spelled_number, wire_format_such_that, wire_format_then_read}

-- each is a byte
abbrev pub AreBytes : List ℕ → Type 0
AreBytes bytes = (i : ℕ) → get_or bytes i 0 < 256

-- a value was taken from the front
pub record Takes {A : Type 0} (f : WireFormat A) (x : A) (bytes rest : List ℕ) : Type 0 where
  pub fits : f.fits x ≡ true
  pub parts : bytes ≡ f.spell x ++ rest
  pub rest_are : AreBytes rest

pub record IsLawful {A : Type 0} (f : WireFormat A) : Type 0 where
  pub takes : (bytes : List ℕ) (x : A) (rest : List ℕ) → AreBytes bytes → f.read bytes ≡ Some (x, rest) → Takes f x bytes rest
  pub again : (x : A) (rest : List ℕ) → f.fits x ≡ true → f.read (f.spell x ++ rest) ≡ Some (x, rest)

-- ---- what was read in steps

-- something was read at the first step, and then at the second
pub then_some : {A B : Type 0} (o : Option A) (f : A → Option B) (y : B) → wire_format_then_read o f ≡ Some y → (x : A) × (o ≡ Some x) × (f x ≡ Some y)
then_some None f y e = absurd cc
then_some (Some x) f y e = (x, refl, e)

-- ---- bytes

pub AreBytes-drop : (n : ℕ) (bytes : List ℕ) → AreBytes bytes → AreBytes (drop n bytes)
AreBytes-drop n bytes h i = rw get_or-drop (h (n + i))

pub AreBytes-take : (n : ℕ) (bytes : List ℕ) → AreBytes bytes → AreBytes (take n bytes)
AreBytes-take n bytes h i = elim (cases_lt i n) [
  | inl lt ↦ rw (get_or-take n bytes i 0 lt) (h i)
  | inr le ↦ rw (get_or_past (take n bytes) i 0 (omega (arith, length-take n bytes))) (omega arith)
]

-- ---- numbers

record IsWide (w : Width) (limit : ℕ) : Type 0 where
  pub len : (n : ℕ) → length (to_be_bytes w n) ≡ byte_len w
  pub back : (bytes : List ℕ) → length bytes ≡ byte_len w → AreBytes bytes → to_be_bytes w (from_be_bytes w bytes) ≡ bytes
  pub again : (n : ℕ) → n < limit → from_be_bytes w (to_be_bytes w n) ≡ n
  pub below : (bytes : List ℕ) → AreBytes bytes → from_be_bytes w bytes < limit

be_bytes_1 : (bytes : List ℕ) → length bytes ≡ 1 → AreBytes bytes → to_be_bytes w8 (from_be_bytes w8 bytes) ≡ bytes
be_bytes_1 [] len are = absurd (omega arith)
be_bytes_1 (b ∷ []) len are =
    let byte : b < 256 = are 0 in
    let same : b % 256 ≡ b = omega arith in rw same refl
be_bytes_1 (b ∷ c ∷ bytes) len are = absurd (omega (arith, len))

wide8 : IsWide w8 (2 ^ 8)
wide8 = record {
  len = λ n. refl;
  back = be_bytes_1;
  again = λ n lt. omega arith;
  below = λ bytes are. omega (arith, are 0);
}

wide32 : IsWide w32 (2 ^ 32)
wide32 = record {
  len = λ n. refl;
  back = λ bytes len are. be_bytes_4 bytes _ len are refl;
  again = λ n lt. from_be_bytes-to_be_bytes_4 n lt;
  below = λ bytes are. omega (arith, are 0, are 1, are 2, are 3);
}

wide64 : IsWide w64 (2 ^ 64)
wide64 = record {
  len = λ n. refl;
  back = λ bytes len are. be_bytes_8 bytes _ len are refl;
  again = λ n lt. from_be_bytes-to_be_bytes_8 n lt;
  below = λ bytes are. omega (arith, are 0, are 1, are 2, are 3, are 4, are 5, are 6, are 7);
}

number_takes : (w : Width) (limit : ℕ) → IsWide w limit → (bytes : List ℕ) (n : ℕ) (rest : List ℕ)
    → AreBytes bytes → read_number w bytes ≡ Some (n, rest) → Takes (number w limit) n bytes rest
unfolding wire_spelled_number read_number
number_takes w limit wide bytes n rest are e =
    let front = take (byte_len w) bytes in
    let g = not_refused (ltb (length bytes) (byte_len w)) (from_be_bytes w front, drop (byte_len w) bytes) (n, rest) e in
    let long : byte_len w ≤ length bytes = ltb-false _ _ g.0 in
    let len : length front ≡ byte_len w = omega (arith, length-take (byte_len w) bytes) in
    let front_are : AreBytes front = AreBytes-take (byte_len w) bytes are in
    let whole : Takes (number w limit) (from_be_bytes w front) bytes (drop (byte_len w) bytes) = record {
      fits = lt-ltb _ _ (wide.below front front_are);
      parts = rw (wide.back front len front_are) (sym (take-append-drop (byte_len w) bytes));
      rest_are = AreBytes-drop (byte_len w) bytes are;
    } in
    subst (λ (p : ℕ × List ℕ). Takes (number w limit) p.0 bytes p.1) g.1 whole

number_again : (w : Width) (limit : ℕ) → IsWide w limit → (n : ℕ) (rest : List ℕ)
    → ltb n limit ≡ true → read_number w (wire_spelled_number w n ++ rest) ≡ Some (n, rest)
unfolding wire_spelled_number read_number
number_again w limit wide n rest fits =
    let len = wide.len n in
    let long : ltb (length (to_be_bytes w n ++ rest)) (byte_len w) ≡ false = le-ltb _ _ (omega (arith, length-append (to_be_bytes w n) rest)) in
    rw (long, take_at (to_be_bytes w n) rest (byte_len w) len, drop_at (to_be_bytes w n) rest (byte_len w) len, wide.again n (ltb-true _ _ fits)) refl

number_lawful : (w : Width) (limit : ℕ) → IsWide w limit → IsLawful (number w limit)
number_lawful w limit wide = record {
  takes = number_takes w limit wide;
  again = number_again w limit wide;
}

pub n8-bits : IsLawful (number w8 (2 ^ 8))
n8-bits = number_lawful w8 (2 ^ 8) wide8

pub n32-bits : IsLawful (number w32 (2 ^ 32))
n32-bits = number_lawful w32 (2 ^ 32) wide32

pub n64-bits : IsLawful (number w64 (2 ^ 64))
n64-bits = number_lawful w64 (2 ^ 64) wide64

-- ---- formats of formats

-- the law of a pair is written as the pair is
infixr 20 ◌⊠◌
pub ◌⊠◌ : {A B : Type 0} {f : WireFormat A} {g : WireFormat B} → IsLawful f → IsLawful g → IsLawful (f ⊗ g)
◌⊠◌ {A = A} {B = B} {f = f} {g = g} lf lg = record {
  takes = λ bytes x rest are e.
      let b = then_some (f.read bytes) (λ p. wire_format_then_read (g.read p.1) (λ q. Some ((p.0, q.0), q.1))) (x, rest) e in
      let first = lf.takes bytes b.0.0 b.0.1 are b.1 in
      let d = then_some (g.read b.0.1) (λ q. Some ((b.0.0, q.0), q.1)) (x, rest) b.2 in
      let second = lg.takes b.0.1 d.0.0 d.0.1 first.rest_are d.1 in
      let whole : Takes (f ⊗ g) (b.0.0, d.0.0) bytes d.0.1 = record {
        fits = rw (first.fits, second.fits) refl;
        parts = first.parts ∙ ap (λ t. f.spell b.0.0 ++ t) second.parts ∙ sym (append_assoc (f.spell b.0.0) (g.spell d.0.0) d.0.1);
        rest_are = second.rest_are;
      } in
      subst (λ (p : (A × B) × List ℕ). Takes (f ⊗ g) p.0 bytes p.1) (same_Some _ _ d.2) whole;
  again = λ x rest fits. let both = and_parts (f.fits x.0) (g.fits x.1) fits in
      rw (append_assoc (f.spell x.0) (g.spell x.1) rest, lf.again x.0 (g.spell x.1 ++ rest) both.0, lg.again x.1 rest both.1) refl;
}

pub as_type_lawful : {A B : Type 0} (to : A → B) (from : B → A) {f : WireFormat A}
    → ((x : A) → f.fits x ≡ true → from (to x) ≡ x) → ((y : B) → f.fits (from y) ≡ true → to (from y) ≡ y)
    → IsLawful f → IsLawful (wire_format_as_type to from f)
as_type_lawful {B = B} to from {f = f} back forth lf = record {
  takes = λ bytes y rest are e.
      let b = then_some (f.read bytes) (λ x. Some (to x.0, x.1)) (y, rest) e in
      let t = lf.takes bytes b.0.0 b.0.1 are b.1 in
      let same = back b.0.0 t.fits in
      let whole : Takes (wire_format_as_type to from f) (to b.0.0) bytes b.0.1 = record {
        fits = ap f.fits same ∙ t.fits;
        parts = t.parts ∙ ap (λ x. f.spell x ++ b.0.1) (sym same);
        rest_are = t.rest_are;
      } in
      subst (λ (p : B × List ℕ). Takes (wire_format_as_type to from f) p.0 bytes p.1) (same_Some _ _ b.2) whole;
  again = λ y rest fits. rw (lf.again (from y) rest fits, forth y fits) refl;
}

pub such_that_lawful : {A : Type 0} {f : WireFormat A} (test : A → Bool) → IsLawful f → IsLawful (wire_format_such_that test f)
such_that_lawful {A = A} {f = f} test lf = record {
  takes = λ bytes x rest are e.
      let b = then_some (f.read bytes) (λ p. cond (test p.0) (Some p) None) (x, rest) e in
      let t = lf.takes bytes b.0.0 b.0.1 are b.1 in
      let g = cond_some (test b.0.0) b.0 (x, rest) b.2 in
      let whole : Takes (wire_format_such_that test f) b.0.0 bytes b.0.1 = record {
        fits = rw (t.fits, g.0) refl;
        parts = t.parts;
        rest_are = t.rest_are;
      } in
      subst (λ (p : A × List ℕ). Takes (wire_format_such_that test f) p.0 bytes p.1) g.1 whole;
  again = λ x rest fits. let both = and_parts (f.fits x) (test x) fits in
      rw (lf.again x rest both.0, both.1) refl;
}

-- ---- what may be missing

flagged_takes : {A : Type 0} (flag : WireFormat ℕ) (f : WireFormat A) → IsLawful f → (k : ℕ) (whole bytes : List ℕ) (o : Option A) (rest : List ℕ)
    → whole ≡ flag.spell k ++ bytes → AreBytes bytes → read_wire_flagged f k bytes ≡ Some (o, rest) → Takes (wire_optional flag f) o whole rest
flagged_takes {A = A} flag f lf zero whole bytes o rest at are e =
    let taken : Takes (wire_optional flag f) None whole bytes = record { fits = refl; parts = at; rest_are = are } in
    subst (λ (p : Option A × List ℕ). Takes (wire_optional flag f) p.0 whole p.1) (same_Some _ _ e) taken
flagged_takes {A = A} flag f lf (suc zero) whole bytes o rest at are e =
    let b = then_some (f.read bytes) (λ x. Some (Some x.0, x.1)) (o, rest) e in
    let t = lf.takes bytes b.0.0 b.0.1 are b.1 in
    let taken : Takes (wire_optional flag f) (Some b.0.0) whole b.0.1 = record {
      fits = t.fits;
      parts = at ∙ ap (λ u. flag.spell 1 ++ u) t.parts ∙ sym (append_assoc (flag.spell 1) (f.spell b.0.0) b.0.1);
      rest_are = t.rest_are;
    } in
    subst (λ (p : Option A × List ℕ). Takes (wire_optional flag f) p.0 whole p.1) (same_Some _ _ b.2) taken
flagged_takes flag f lf (suc (suc k)) whole bytes o rest at are e = absurd cc

optional_again : {A : Type 0} (flag : WireFormat ℕ) (f : WireFormat A) → flag.fits 0 ≡ true → flag.fits 1 ≡ true → IsLawful flag → IsLawful f
    → (o : Option A) (rest : List ℕ) → (wire_optional flag f).fits o ≡ true → (wire_optional flag f).read ((wire_optional flag f).spell o ++ rest) ≡ Some (o, rest)
optional_again flag f zero_fits one_fits lflag lf None rest fits = rw (lflag.again 0 rest zero_fits) refl
optional_again flag f zero_fits one_fits lflag lf (Some x) rest fits =
    rw (append_assoc (flag.spell 1) (f.spell x) rest, lflag.again 1 (f.spell x ++ rest) one_fits, lf.again x rest fits) refl

pub optional_lawful : {A : Type 0} {flag : WireFormat ℕ} {f : WireFormat A} → flag.fits 0 ≡ true → flag.fits 1 ≡ true
    → IsLawful flag → IsLawful f → IsLawful (wire_optional flag f)
optional_lawful {flag = flag} {f = f} zero_fits one_fits lflag lf = record {
  takes = λ bytes o rest are e.
      let b = then_some (flag.read bytes) (λ x. read_wire_flagged f x.0 x.1) (o, rest) e in
      let t = lflag.takes bytes b.0.0 b.0.1 are b.1 in
      flagged_takes flag f lf b.0.0 bytes b.0.1 o rest t.parts t.rest_are b.2;
  again = optional_again flag f zero_fits one_fits lflag lf;
}

-- ---- lists

-- so many values were taken from the front
pub record TakesItems {A : Type 0} (f : WireFormat A) (count : ℕ) (xs : List A) (bytes rest : List ℕ) : Type 0 where
  pub count_is : length xs ≡ count
  pub fit : list_all f.fits xs ≡ true
  pub parts : bytes ≡ flat_map f.spell xs ++ rest
  pub rest_are : AreBytes rest

items_take : {A : Type 0} (f : WireFormat A) → IsLawful f → (count : ℕ) (bytes : List ℕ) (xs : List A) (rest : List ℕ)
    → AreBytes bytes → wire_read_items f count bytes ≡ Some (xs, rest) → TakesItems f count xs bytes rest
unfolding wire_read_items
items_take {A = A} f lf zero bytes xs rest are e =
    let taken : TakesItems f 0 [] bytes bytes = record { count_is = refl; fit = refl; parts = refl; rest_are = are } in
    subst (λ (p : List A × List ℕ). TakesItems f 0 p.0 bytes p.1) (same_Some _ _ e) taken
items_take {A = A} f lf (suc count) bytes xs rest are e =
    let b = then_some (f.read bytes) (λ x. wire_format_then_read (wire_read_items f count x.1) (λ ys. Some (x.0 ∷ ys.0, ys.1))) (xs, rest) e in
    let first = lf.takes bytes b.0.0 b.0.1 are b.1 in
    let d = then_some (wire_read_items f count b.0.1) (λ ys. Some (b.0.0 ∷ ys.0, ys.1)) (xs, rest) b.2 in
    let others = items_take f lf count b.0.1 d.0.0 d.0.1 first.rest_are d.1 in
    let taken : TakesItems f (suc count) (b.0.0 ∷ d.0.0) bytes d.0.1 = record {
      count_is = ap suc others.count_is;
      fit = rw (first.fits, others.fit) refl;
      parts = first.parts ∙ ap (λ t. f.spell b.0.0 ++ t) others.parts ∙ sym (append_assoc (f.spell b.0.0) (flat_map f.spell d.0.0) d.0.1);
      rest_are = others.rest_are;
    } in
    subst (λ (p : List A × List ℕ). TakesItems f (suc count) p.0 bytes p.1) (same_Some _ _ d.2) taken

-- as many as were asked for
pub items_count : {A : Type 0} (f : WireFormat A) (count : ℕ) (bytes : List ℕ) (xs : List A)
    (rest : List ℕ) → wire_read_items f count bytes ≡ Some (xs, rest) → length xs ≡ count
unfolding wire_read_items
items_count {A = A} f zero bytes xs rest e =
    subst (λ (p : List A × List ℕ). length p.0 ≡ 0) (same_Some _ _ e) refl
items_count {A = A} f (suc count) bytes xs rest e =
    let b = then_some (f.read bytes) (λ x. wire_format_then_read (wire_read_items f count x.1) (λ ys. Some (x.0 ∷ ys.0, ys.1))) (xs, rest) e in
    let d = then_some (wire_read_items f count b.0.1) (λ ys. Some (b.0.0 ∷ ys.0, ys.1)) (xs, rest) b.2 in
    subst (λ (p : List A × List ℕ). length p.0 ≡ suc count) (same_Some _ _ d.2)
    (ap suc (items_count f count b.0.1 d.0.0 d.0.1 d.1))

items_again : {A : Type 0} (f : WireFormat A) → IsLawful f → (xs : List A) (rest : List ℕ)
    → list_all f.fits xs ≡ true → wire_read_items f (length xs) (flat_map f.spell xs ++ rest) ≡ Some (xs, rest)
unfolding wire_read_items
items_again f lf [] rest fit = refl
items_again f lf (x ∷ xs) rest fit = let both = and_parts (f.fits x) (list_all f.fits xs) fit in
    rw (append_assoc (f.spell x) (flat_map f.spell xs) rest, lf.again x (flat_map f.spell xs ++ rest) both.0, items_again f lf xs rest both.1) refl

pub list_lawful : {A : Type 0} {count : WireFormat ℕ} {f : WireFormat A} → IsLawful count → IsLawful f → IsLawful (wire_list_of count f)
list_lawful {count = count} {f = f} lcount lf = record {
  takes = λ bytes xs rest are e.
      let b = then_some (count.read bytes) (λ n. wire_read_items f n.0 n.1) (xs, rest) e in
      let n = lcount.takes bytes b.0.0 b.0.1 are b.1 in
      let t = items_take f lf b.0.0 b.0.1 xs rest n.rest_are b.2 in record {
        fits = rw (t.count_is, n.fits, t.fit) refl;
        parts = n.parts ∙ ap (λ u. count.spell b.0.0 ++ u) t.parts ∙ sym (append_assoc (count.spell b.0.0) (flat_map f.spell xs) rest)
            ∙ ap (λ k. (count.spell k ++ flat_map f.spell xs) ++ rest) (sym t.count_is);
        rest_are = t.rest_are;
      };
  again = λ xs rest fits. let both = and_parts (count.fits (length xs)) (list_all f.fits xs) fits in
      rw (append_assoc (count.spell (length xs)) (flat_map f.spell xs) rest, lcount.again (length xs) (flat_map f.spell xs ++ rest) both.0, items_again f lf xs rest both.1) refl;
}
