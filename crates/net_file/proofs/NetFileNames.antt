-- Names are text.
use Rattle.std.proofs.Common.{[], ◌&&◌, ◌<◌, ◌∷◌, ◌≡◌, IsTrue, IsUtf8, List, arith, bytes_eq, codes, get_or, leb, length, not, suc, true, zero, ℕ}
use Rattle.base.proofs.Exports.{IsUtf8-from_ascii, and_parts, is_ascii_alphabetic, nat_tests}
use Rattle.net_file.specs.Exports.{are_net_name_bytes, is_net_label, is_net_name, is_net_name_byte}

small_letter : (byte : ℕ) → is_ascii_alphabetic byte ≡ true → byte < 128
small_letter byte is = grind (arith, nat_tests)

small_byte : (byte : ℕ) → is_net_name_byte byte ≡ true → byte < 128
small_byte byte is = grind (arith, nat_tests)

small_bytes : (bytes : List ℕ) → are_net_name_bytes bytes ≡ true → (i : ℕ) → get_or bytes i 0 < 128
small_bytes [] are i = omega arith
small_bytes (byte ∷ bytes) are zero =
    small_byte byte (and_parts (is_net_name_byte byte) (are_net_name_bytes bytes) are).0
small_bytes (byte ∷ bytes) are (suc i) = small_bytes bytes
    (and_parts (is_net_name_byte byte) (are_net_name_bytes bytes) are).1 i

small_label : (name : List ℕ) → is_net_label name ≡ true → (i : ℕ) → get_or name i 0 < 128
small_label [] is i = omega arith
small_label (first ∷ more) is i =
    let bytes = and_parts (is_ascii_alphabetic first) (are_net_name_bytes more)
    (and_parts (is_ascii_alphabetic first && are_net_name_bytes more) (leb (length more) 15) is).0 in
    by i bytes.0 bytes.1
  where
    by : (i : ℕ) → is_ascii_alphabetic first ≡ true → are_net_name_bytes more ≡ true
        → get_or (first ∷ more) i 0 < 128
    by zero letter bytes = small_letter first letter
    by (suc i) letter bytes = small_bytes more bytes i

pub name_is_text : (name : List ℕ) → IsTrue (is_net_name name) → IsUtf8 name
name_is_text name is = IsUtf8-from_ascii name
    (small_label name (and_parts (is_net_label name) (not (bytes_eq name (codes "controller"))) is).0)
