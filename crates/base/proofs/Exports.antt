-- The lemmas that others use: of this crate, and of the library those that its Common doesn't pass
-- on, with definitions that they speak of.
pub use Rattle.base.proofs.BaseCallerLemmas.{get_or-switches, has-and, has-or, has-pow_other, has-pow_same, has-xor_other, has-zero, has_above, has_least, has_mask, has_mask_past, has_only_other, has_only_same, least_below, least_lt, length-switches, mask_of_is, mask_of_lt, mask_where_at, mask_where_lt, only_if_lt, same_masks, same_sets, some_of}
pub use Rattle.base.proofs.ListLemmas.{in_cons_option, length-filter_map, none_from_not_some}
pub use Rattle.base.proofs.ListsByPlace.{at_item, drop_at_item, drop_removed, drop_set, get_push_at, get_push_left, get_pushed, get_replicate, get_set_found, get_set_other, get_set_same, map-remove, mapped_more, mapped_read, none_removed, one_item, put_last, remove-set, seam_at, set-replicate, take_put_back}
pub use Rattle.base.proofs.ListsFiltered.{count_by-map, each_short, filter_all, filter_filter, filter_implied, filter_made, filter_same_on, length_filter_less, map_twice, sum_each, sum_filter, sum_some}
pub use Rattle.base.proofs.ListsFound.{find-filter, find-map, find-position, find-there, find_ends, find_found, find_none, found_all, found_is, found_passes, none_both, place_both, place_either, place_none, position-map, position_at, position_none, position_row, some_from_count, some_position}
pub use Rattle.base.proofs.ListsJoined.{both_written, enumerate_push, flat_map-at, flat_map-one, flat_map-there, found_more, middle_none, taken_more, zip_pushed}
pub use Rattle.base.proofs.ListsOfAll.{All-filter_map, All-flat_map_parts, All-one, All-remove, AllPairs-append, AllPairs-filter_map, AllPairs-map, AllZip-range_more, Contains-filter_map, Contains-map, IfSome-at_place, contains_at, contains_later, holds_next, pairs_before, seen_are}
pub use Rattle.base.proofs.ListsOfAny.{any_filter, any_filter_by, any_filtered, any_key, any_weaker, any_within, list_any-both, list_any_flat_map, list_any_map, none_passes}
pub use Rattle.base.proofs.ListsOfEach.{each_always, each_append, each_filter, each_flat_map, each_flat_map_in, each_kept, each_map, each_of_all, each_option, each_passing, each_unmap}
pub use Rattle.base.proofs.ListsOfRanges.{each_given, filter_more, given_some, item_add, item_skip, later_same, map-range_same, picked_add, picked_same, picked_skip, range_more, read_map}
pub use Rattle.base.proofs.OptionsByTest.{cond_cases, none_where_other, not_refused, passes_from_is_some, passes_then_some, some_passes, some_passes_of}
pub use Rattle.base.proofs.OptionsMade.{MatchOption-same, MatchOption-weaker, false_not_true, length-option_to_list, none_is_not, none_is_not_some, none_made_of, none_seen, option_or-assoc, option_or-none, same_some, some_of_map, some_of_ok_or, some_of_then, some_same, the_some}
pub use Rattle.base.proofs.RefusalWeakening.{IfRefused-weaker}
pub use Rattle.base.proofs.ResultsMade.{both_ok, ok_is_not_err, ok_value, on_err, on_err_holds, on_ok, on_ok_failed, same_error, three_ok}
pub use Rattle.std.proofs.Math.Bool.{and-false, and-true, or-false, or_assoc, or_comm}
pub use Rattle.std.proofs.Math.Facts.{Fits-lt-pow}
pub use Rattle.std.proofs.Math.ListN.{get_or-append}
pub use Rattle.std.proofs.Math.Path.{fun_ext}
pub use Rattle.std.proofs.Math.Pow.{pow-lt}
pub use Rattle.std.proofs.Math.Seq.{drop-append-add, drop-append_seam, get_or-append_seam, set-append_seam, take-append-add, take-append_seam, take-set-lt}
pub use Rattle.std.proofs.lemmas.Bool.{and_cases, and_from, and_parts, and_right, both_ways, cases_Bool, cases_eq, cases_lt, cond-false, cond-true, cond_both, eqb-false, false_from_ne_true, false≢true, lt-leb, not-true, not_from_false, or_cases, or_left, or_parts, or_right}
pub use Rattle.std.proofs.lemmas.Bool.Decides.{Decides-eqb, Decides-like, nat_tests, same_from_decides}
pub use Rattle.std.proofs.lemmas.Cmp.{nat_eq_equiv}
pub use Rattle.std.proofs.lemmas.Fmt.{length-decimal-le}
pub use Rattle.std.proofs.lemmas.Fn.{always_returns_same, filter_same}
pub use Rattle.std.proofs.lemmas.Grind.{common_steps, div_ceil_times, flat_map-append, get_or_default_zero, take_at_read}
pub use Rattle.std.proofs.lemmas.Iterator.{YieldsList, YieldsList-from_map, YieldsList-from_range, YieldsList-from_slice, items_from_collect}
pub use Rattle.std.proofs.lemmas.Iterator.Adapters.{option_map_id}
pub use Rattle.std.proofs.lemmas.Iterator.Consumers.{YieldsList-end, YieldsList-from_first, YieldsList-from_rest, YieldsList-turn, count_from_yields_List}
pub use Rattle.std.proofs.lemmas.Iterator.Search.{YieldsList-from_take_while, find_from_yields_List}
pub use Rattle.std.proofs.lemmas.List.{at_drop_all, at_drop_more, drop-append-le, drop-map, drop-replicate, drop-set-add, drop-take, drop_all, drop_more, flat_map_more, get_or-map, get_or-replicate, get_or_append_left, get_or_at, get_or_default, get_or_past, get_or_push, get_or_read, length-map, length-replicate, length-set, length_push, map-append, map-set, map_push, nil_from_length, same_lists, set-get_or, set_comm, set_past, set_split, take-append-le, take-map, take-replicate, take-set-le, take_min, take_more, take_more_set, take_rest}
pub use Rattle.std.proofs.lemmas.List.Concat.{length-flat_map}
pub use Rattle.std.proofs.lemmas.List.Edits.{fill_by_more, length-remove}
pub use Rattle.std.proofs.lemmas.List.Elements.{All-append, All-cons, All-contains, All-contains_itself, All-drop, All-filter, All-from_get_or, All-from_recursion, All-get_or, All-head, All-map, All-more, All-nil, All-push, All-replicate, All-same, All-tail, All-take, All-weaker, Contains-append_left, Contains-append_right, Contains-push, filter-append, filter_agree, filter_map-append, filter_passes, recursion_from_All}
pub use Rattle.std.proofs.lemmas.List.Filters.{length-filter_both}
pub use Rattle.std.proofs.lemmas.List.Folds.{Any-from_list_any, find-append, find_at, length-prefix_len, list_all-map, list_any-append, list_any-from_Any, list_any_at, list_any_more, list_any_none, position_or_len_push, sum_by-replicate}
pub use Rattle.std.proofs.lemmas.List.FromFn.{fill_by_all, get_or-enumerate_from, get_or-map-range_with_len, get_or-range_with_len, length-enumerate_from, length-map-range_with_len, length-range_with_len, map-range_with_len_more}
pub use Rattle.std.proofs.lemmas.List.Kept.{AllPairs-cons, AllPairs-filter}
pub use Rattle.std.proofs.lemmas.List.Quantifiers.{all_pairs_push, all_pairs_remove, position-Some}
pub use Rattle.std.proofs.lemmas.List.Sorted.{All-permutation, Contains-permutation, IsPermutation-append_right, IsPermutation-filter_both, IsPermutation-refl, IsPermutation-sym, IsPermutation-trans, answers_always, sum_by-IsPermutation}
pub use Rattle.std.proofs.lemmas.List.Splits.{join_with_byte-slice_split, length-slice_split, slice_split_at, slice_split_none}
pub use Rattle.std.proofs.lemmas.List.Sums.{AllPass-from_list_all, count_by-le-length, fold-append, get_or-le-sum_by, length-filter, list_all-from_AllPass, passes_at_first, position_or_len_is, prefix_len-le-length, sum-map, sum_by-append, sum_by-cons, sum_by-le, sum_by-le-sum_by, sum_by-set, sum_by-take-drop, sum_by-take-le, sum_by_more, sum_by_push, take_while-cons}
pub use Rattle.std.proofs.lemmas.Map.Keys.{any_passes_from_place, ge_from_not_lt}
pub use Rattle.std.proofs.lemmas.Map.Made.{IsDistinct-from_AllPairs, length-IsIntersection}
pub use Rattle.std.proofs.lemmas.Map.Steps.{length-le_from_distinct_below}
pub use Rattle.std.proofs.lemmas.Map.Views.{any-filter_same, exact_unsigned_eq}
pub use Rattle.std.proofs.lemmas.Nat.{and_assoc, and_le_l, and_le_r, and_mask, be_bytes_4, be_bytes_8, from_be_bytes-to_be_bytes_4, from_be_bytes-to_be_bytes_8, leading_length, mod-mul-add, mod_below, pow_below, shr_le, shr_split}
pub use Rattle.std.proofs.lemmas.Nat.Bits.{and_high_mask, and_pow, bit_at-lt, bit_at-pow_other, bit_at-pow_same, bit_at-trailing_zeros, bit_at-zero, bit_at_above, bit_at_and, bit_at_clear_other, bit_at_clear_same, bit_at_not, bit_at_ones, bit_at_ones_above, bit_at_or, bit_at_xor, same_from_bits, shr_and_one}
pub use Rattle.std.proofs.lemmas.Option.{IfSome_then, MatchOption-at_some, cond_some, get_or_from_slice_get, none-some, same_Some, slice_get-get_or, slice_get-map, slice_get_cases, slice_get_past, slice_get_read, slice_get_within}
pub use Rattle.std.proofs.lemmas.Result.{IfErr-weaker, IfOk-weaker, err_from_is_err_and, on_err_weaker, on_ok_weaker}
pub use Rattle.std.proofs.lemmas.Slice.Eq.{bytes_eq-Decides}
pub use Rattle.std.proofs.lemmas.Slice.Zip.{firsts-zip, get_or-zip, length-zip, seconds-zip}
pub use Rattle.std.proofs.lemmas.Str.{IsUtf8-from_ascii, IsUtf8-from_is_utf8, is_utf8-from_IsUtf8}
pub use Rattle.std.specs.BTreeMap.{get}
pub use Rattle.std.specs.BTreeSet.{Updates, contains}
pub use Rattle.std.specs.Bool.{beq, ⊤}
pub use Rattle.std.specs.Char.{is_ascii_alphabetic}
pub use Rattle.std.specs.Cmp.{unsigned_tied}
pub use Rattle.std.specs.Cmp.Lexicographic.{pointwise}
pub use Rattle.std.specs.Fmt.{digit_glyph, digits_onto}
unfoldable pub use Rattle.std.specs.Fmt.{digits}
pub use Rattle.std.specs.Int.{Width, bit_at, bit_not, byte_len, div_ceil, from_be_bytes, from_bool, leading_zeros, to_be_bytes, trailing_zeros, w128}
pub use Rattle.std.specs.Int.Bits.{and_self, and_zero_r, or_lt, xor_add_and, xor_lt}
pub use Rattle.std.specs.Iterator.{Yields, YieldsFirst}
pub use Rattle.std.specs.List.{AllByRecursion, AllPass, AllZip, concat, cons_option, enumerate_from, flat_map, join_with_byte, list_all, list_any, onto_first, position_or_len, prefix_len, range_with_len, starts_with}
unfoldable pub use Rattle.std.specs.List.{IsDistinct}
pub use Rattle.std.specs.Map.{keys_of, lookup, values_of}
pub use Rattle.std.specs.Option.{ForSome, option_map_or, option_or}
pub use Rattle.std.specs.Ordering.{ordering_then}
pub use Rattle.std.specs.Prelude.{None, Some, codes, decimal, filter, fold, not, option_map, unwrap_or}
pub use Rattle.std.specs.Result.{result_err, result_ok}
pub use Rattle.std.specs.Set.{IsIntersection, is_member}
pub use Rattle.std.specs.Str.{is_utf8}
pub use Rattle.std.specs.Str.Parse.{digits_value}
pub use Rattle.std.specs.Vec.Iter.{into_iter_items, into_iter_len}
pub use Rattle.std.specs.declared.cmp.Reverse.{Reverse}
