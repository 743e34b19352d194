-- The definitions that others use: of this crate, and those of the library that its Prelude lacks.
pub use Rattle.base.specs.ComputedMasks.{only_if}
unfoldable pub use Rattle.base.specs.ComputedMasks.{least_in_number_set, small_number_mask, number_set_where}
pub use Rattle.base.specs.Filled.{filled-take, zero_filled_list}
pub use Rattle.base.specs.MaskLaws.{SmallNumberMaskLaws}
unfoldable pub use Rattle.base.specs.Masks.{has, switches}
pub use Rattle.base.specs.Refusals.{IfRefused, IsCallRefusal, refusal_in_row}
pub use Rattle.std.specs.BTreeMap.{get}
pub use Rattle.std.specs.Bool.{beq}
pub use Rattle.std.specs.Borrow.{Bor}
pub use Rattle.std.specs.Char.{is_ascii_alphabetic, is_ascii_alphanumeric}
pub use Rattle.std.specs.Global.{Global}
pub use Rattle.std.specs.Int.{Width, bit_at, byte_len, div_ceil, from_be_bytes, from_bool, to_be_bytes, w32, w64, w8}
pub use Rattle.std.specs.List.{AllZip, IsDistinct, concat, enumerate_from, join_with_byte, list_all, list_any, position_or_len, prefix_len, range_with_len, reduce, starts_with}
pub use Rattle.std.specs.Map.{keys_of, lookup}
pub use Rattle.std.specs.Option.{ForSome, option_map_or, option_or}
pub use Rattle.std.specs.Ordering.{nat_cmp}
pub use Rattle.std.specs.Result.{result_err, result_map_both, result_ok}
pub use Rattle.std.specs.Str.{is_utf8}
