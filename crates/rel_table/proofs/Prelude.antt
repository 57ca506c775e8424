-- The names from outside that these proofs cite, passed on from one place. Declares nothing.
pub use Rattle.std.proofs.Common.{Bool, List, None, Option, SFits, Some, Vec, [], ap, append_assoc, arith, below_more, bit_and, cond, drop, false, get_or, get_or-set_other, get_or-set_same, inl, inr, length, map, nat_eq, of_z, pos, pow-suc, refl, replicate, rules, set, slice_index_or, subst, suc, sym, take, to_z, true, zero, ℕ, ℤ, ◌%◌, ◌&&◌, ◌*◌, ◌++◌, ◌+ℤ◌, ◌+◌, ◌-◌, ◌/◌, ◌<ℤ◌, ◌<◌, ◌^◌, ◌||◌, ◌∙◌, ◌∷◌, ◌≡◌, ◌≢◌, ◌≤ℤ◌, ◌≤◌, ◌⊎◌}
pub use Rattle.std.proofs.Math.Nat.{mul-div_cancel, mul-le-mul_right, pow-le-pow_left, pow-le-pow_right, pow-zero}
pub use Rattle.std.proofs.Math.Seq.{drop-cons}
pub use Rattle.std.proofs.lemmas.Bool.{and_parts, both_ways, cases_Bool, cases_eq, cases_lt, cases_order, eq-eqb, eqb-true, false_from_ne_true, ne_eqb, or_parts}
pub use Rattle.std.proofs.lemmas.Grind.{common_steps, pow_more}
pub use Rattle.std.proofs.lemmas.Int.{ints, to_z-of_z}
pub use Rattle.std.proofs.lemmas.List.{append-nil, drop-drop, drop-replicate, drop-set-lt, ext_get_or, get_or-append_right, get_or-map, get_or-replicate, get_or_append_left, get_or_push, get_or_read, length-append, length-drop, length-map, length-replicate, length-set, length-take, length_push, map-append, map_more, map_push, set-get_or, set_split, take-append-drop, take_all, take_more, take_more_set}
pub use Rattle.std.proofs.lemmas.List.Edits.{length-insert}
pub use Rattle.std.proofs.lemmas.List.Elements.{All-append, All-cons, All-contains, All-contains_itself, All-drop, All-head, All-map, All-more, All-nil, All-push, All-tail, All-take, All-weaker, Contains-append_cases, Contains-append_left, Contains-append_right, Contains-push, Contains-push_cases, filter-append, filter_more}
pub use Rattle.std.proofs.lemmas.List.FromFn.{fill_by_all, get_or-map-range_with_len, length-map-range_with_len}
pub use Rattle.std.proofs.lemmas.List.Kept.{AllPairs-cons}
pub use Rattle.std.proofs.lemmas.Nat.{and_le_l, div-add-mod', div-mul-add, div_below, mod-mul-add, mod_below, or_lt, pow_pos, shr-shr, shr_split, xor_lt}
pub use Rattle.std.proofs.lemmas.Nat.Bits.{bit_at-lt, bit_at-trailing_zeros, bit_at-zero, bit_at_above, bit_at_and, bit_at_cat_high, bit_at_cat_low, bit_at_not, bit_at_or, bit_at_set_other, bit_at_set_same, bit_at_xor, same_from_bits, same_from_bits_below, shr_and_one}
pub use Rattle.std.proofs.lemmas.Result.{IfOk-weaker, err_from_is_err_and}
pub use Rattle.std.specs.Int.{bit_at, bit_not, div_ceil, trailing_zeros, w64}
pub use Rattle.std.specs.List.{drop-map, filter, flat_map, fold, list_all, list_any, range_with_len, take-map, zip}
pub use Rattle.std.specs.Prelude.{All, AllPairs, Contains, IsTrue, bit_or, bit_xor, if◌then◌else◌, insert, int_le, int_lt, max, min}
pub use Rattle.std.specs.declared.alloc.Global.{Global}
pub use Rattle.rel_table.specs.Bits.{Compares, DifferFirst, IsPacked}
unfoldable pub use Rattle.rel_table.specs.Bits.{is_marked, values_of}
pub use Rattle.rel_table.specs.Closing.{HasFew, HasTooMany, IsClosed, IsFirstTooMany, IsOfKind, IsRefused, relations_in, relations_of}
pub use Rattle.rel_table.specs.InOrder.{Above, IsBelow, IsInOrder, Overflows}
pub use Rattle.rel_table.specs.Made.{Marks, first_fault, index_of, is_shown, lists, place_of_shown, tuple_fault}
pub use Rattle.rel_table.specs.Relation.{IsClosing, IsIntersection, Relation, holds, is_above, meet, meet_all, place, tuple_at, tuples}
pub use Rattle.rel_table.specs.Table.{IsTable, TruthTable}
