-- The names from outside that these proofs cite, passed on from one place. Declares nothing.
pub use Rattle.std.proofs.Common.{map, Bool, List, None, Option, Some, [], add-one, ap, arith, cond, drop, false, get_or-set_same, inl, inr, length, lit≤, nat_eq, nat_lt, not, pow-suc, refl, replicate, set, subst, suc, sym, take, true, zero, ℕ, ◌%◌, ◌&&◌, ◌*◌, ◌++◌, ◌+◌, ◌-◌, ◌/◌, ◌<◌, ◌^◌, ◌||◌, ◌∙◌, ◌∷◌, ◌≡◌, ◌≤◌, ◌⊎◌}
pub use Rattle.std.proofs.Math.Seq.{take-set-lt}
pub use Rattle.std.proofs.lemmas.Bool.{and_parts, both_ways, cases_Bool, cases_eq, cases_lt, eq-eqb, eqb-true, le-ltb, lt-ltb, ne_eqb, or_from, or_left}
pub use Rattle.std.proofs.lemmas.List.{drop-replicate, drop_all, get_or-set_other, get_or-take, get_or_past, length-replicate, length-set, length-take, map-append, take-replicate, take_all, take_at}
pub use Rattle.std.proofs.lemmas.Nat.{and_le_l, one_shl, or_lt, pow_below}
pub use Rattle.std.proofs.lemmas.Nat.Bits.{bit_at-lt, bit_at-suc, bit_at-trailing_zeros, bit_at-zero, bit_at_above, bit_at_and, bit_at_lowest, bit_at_not, bit_at_ones, bit_at_ones_above, shr_and_one}
pub use Rattle.std.specs.Cmp.Lexicographic.{pointwise}
pub use Rattle.std.specs.Int.{bit_at, bit_not, w128}
pub use Rattle.std.specs.List.{filter, list_all, range_with_len}
pub use Rattle.std.specs.Prelude.{bit_and, bit_or, is_some, min, slice_index_or, ◌==◌, ◌≢◌}
pub use Rattle.assign.specs.Assignment.{Assignment, restrict, value_of, variables_of, widened}
pub use Rattle.assign.specs.Cells.{IsCells, cells_of, cells_of-seen, is_some-cond, length-seen, made, option_at, seen, value_of-seen, variables_of-seen}
pub use Rattle.assign.specs.SetLemmas.{filter_agree_from, has-members_of, has-set_where, is_one, is_one-or, is_one-pow, mask_of-members_of, members_of-or, same_masks, set_where-same}
pub use Rattle.assign.specs.Sets.{Rises, common, first_half, has, is_within, least_of, mask_of, members_of, minus, numbers, union, with_member, without}
unfoldable pub use Rattle.assign.specs.Sets.{ones_of, set_where}
pub use Rattle.assign.specs.declared.assignment.Partial.TheInside.{Inside}
