-- The names from outside that these proofs cite, passed on from one place. Declares nothing.
pub use Rattle.std.proofs.Common.{Bool, List, None, Option, Some, [], ap, arith, cond, drop, false, inl, inr, length, length-drop, lit≤, map, nat_eq, not, refl, replicate, rules, subst, suc, sym, take, true, vec_len, zero, ℕ, ◌%◌, ◌&&◌, ◌*◌, ◌++◌, ◌+◌, ◌-◌, ◌/◌, ◌<◌, ◌^◌, ◌||◌, ◌∙◌, ◌∷◌, ◌≡◌, ◌≤◌, ◌⊎◌}
pub use Rattle.std.proofs.Math.ListN.{length-set}
pub use Rattle.std.proofs.Math.Nat.{mul-le-mul_right, mul_assoc, pow-le-pow_right, pow-suc, pow-succ', pow-zero}
pub use Rattle.std.proofs.Math.Seq.{take-set-lt}
pub use Rattle.std.proofs.lemmas.Bool.{and_from, and_parts, both_ways, cases_eq, cases_lt, eq-eqb, eqb-true, le-leb, le-ltb, lt-leb, lt-ltb, ltb-false, ltb-true, ne_eqb, not-false, not-true, or_cases, or_left, or_right}
pub use Rattle.std.proofs.lemmas.List.{append-nil, drop_all, drop_more, get_or-append_right, get_or-drop, get_or-map, get_or-replicate, get_or-set_other, get_or-set_same, get_or-take, get_or_append_left, get_or_past, get_or_read, length-append, length-map, length-replicate, length-take, length-take-le, map-set, same_lists, set-get_or, take_all, take_at, take_more, with_items_is}
pub use Rattle.std.proofs.lemmas.List.Elements.{All-append, All-cons, All-filter, All-head, All-map, All-nil, All-push, All-set, All-tail, All-take, All-weaker, filter_passes}
pub use Rattle.std.proofs.lemmas.List.Folds.{Any-from_list_any, list_all-append, list_any-append}
pub use Rattle.std.proofs.lemmas.List.FromFn.{fill_by_all, get_or-map-range_with_len, get_or-range_with_len, length-map-range_with_len, length-range_with_len}
pub use Rattle.std.proofs.lemmas.List.Sums.{AllPass-from_list_all, list_all-from_AllPass}
pub use Rattle.std.proofs.lemmas.Nat.{and_le_l, div-mul-add, div_below, leading_top, mod-mul-add, mul-add-lt, one_shl, or_lt, pow_below, xor_lt, zero_from_ones}
pub use Rattle.std.proofs.lemmas.Nat.Bits.{bit_at-lt, bit_at-trailing_zeros, bit_at_above, bit_at_and, bit_at_cat_high, bit_at_not, bit_at_xor, shr_and_one}
pub use Rattle.std.specs.Int.{bit_at, bit_not, w64}
pub use Rattle.std.specs.Int.Count.{count_leading_zeros}
pub use Rattle.std.specs.List.{filter, flat_map, fold, list_all, list_any, range_with_len}
pub use Rattle.std.specs.Option.{option_map_or}
pub use Rattle.std.specs.Prelude.{All, IfSome, IsSome, bit_and, bit_or, count_ones, min, nat_le, nat_lt, slice_index, slice_index_or, slice_set, vec_capacity, ◌==◌, ◌≢◌}
pub use Rattle.std.specs.Vec.{with_items}
pub use Rattle.assign.proofs.Masks.{canonical, is_one-and, lacks, length-members_of, members_of-ones, rises_filter, rises_lower}
pub use Rattle.assign.specs.SetLemmas.{filter_agree_from, filter_front, has-members_of, has-set_where, has-set_where_above, is_one, is_one-or, is_one-pow, mask_of-ones_of, ones_of-members_of, set_where-same}
pub use Rattle.assign.specs.Sets.{IsSet, Rises, has, is_within, least_of, mask_of, members_of, minus, numbers, union, with_member, without}
unfoldable pub use Rattle.assign.specs.Sets.{ones_of, set_where}
pub use Rattle.assign.proofs.Ones.{has-filter, has-ones_of, has_above, length-ones_of, no_ones, ones_of-passing, ones_of-zero}
pub use Rattle.language.proofs.Members.{any-filter, any-flat_map, any-map, any_number}
pub use Rattle.language.specs.Answers.{IsNetwork}
pub use Rattle.language.specs.Language.{IsCandidate, IsLanguage, IsScope, Language, range_of, relation_of, scope_of, values_of, variable_count}
pub use Rattle.language.specs.Pairs.{AreMasksOf, ArePairTables, first_bound, go_together, is_chain, is_running, rejected_of, second_bound}
pub use Rattle.language.specs.Ranges.{are_in, is_in}
pub use Rattle.language.specs.declared.candidates.Candidate.{Candidate}
pub use Rattle.language.specs.declared.masks.PairBounds.{PairBounds}
pub use Rattle.rel_table.specs.Relation.{Relation, holds}
pub use Rattle.rel_table.specs.Table.{TruthTable, truth_at}
pub use Rattle.propagators.specs.Allowed.{AreConstraints}
pub use Rattle.propagators.specs.Briefs.{AreBothOf, AreBriefs, IsApart, IsApartAt, IsApartOf, IsBriefOf, IsOnScope, IsPairOf, TellsApart, arc_by, at_place, blank, bound_at, by_pair}
pub use Rattle.propagators.specs.Chains.{AreEnds, IsChain, IsRunning}
pub use Rattle.propagators.specs.Entailed.{AreEntailed, AreFixedBut, HasOne, IsAlmostFixed, IsEntailed, is_noted_in, is_among_struck}
pub use Rattle.propagators.specs.Families.{Arc, Family, IsLargest, IsSubfamily, arc_of, arcs_of, conditions, families_within, has_support, is_arc_consistent, is_consistent, is_not_empty, is_supported, is_wanted, largest, left_by, prune, prune_from, pruned, selections, sets_on, family_size, subsets}
pub use Rattle.propagators.specs.Indexes.{IsIndexOf, IsRoot, IsRootBefore, all_values, list_in}
pub use Rattle.propagators.specs.Laws.{LargestAgain, LargestIs, LargestIsOne, LargestTells}
pub use Rattle.propagators.specs.Loose.{HasMore, HasTwo, IsBounded}
pub use Rattle.propagators.specs.Pairs.{AgreeInside, AreSides, IsBeside, IsNarrowed, IsOnly, IsValueOf, by_table, goes_by}
pub use Rattle.propagators.specs.Plans.{AreApartSoFar, AreLeft, AreLimits, AreLooked, AreNarrow, AreNoted, AreTakenIn, HasApart, IsLeftOrLooked, IsLooked, IsParted, IsPlanOf, is_with}
pub use Rattle.propagators.specs.Propagated.{IsPropagated, IsSettledBut, RunsEmpty}
pub use Rattle.propagators.specs.Supports.{AreAlong, AreBelow, AreDifferent, AreFewer, AreSettled, AreSupported, AreSupportedBeside, DifferOnlyAt, HasNoTuple, HasTuple, IsCutAt, IsDead, IsFamilyOf, IsRevised, IsThrough, IsUnderway, IsWithin, continues, firsts_on, replaced}
pub use Rattle.propagators.specs.declared.briefs.Brief.{Brief}
pub use Rattle.propagators.specs.declared.briefs.Pair.{Pair}
pub use Rattle.propagators.specs.declared.entailed.Entailed.{Entailed}
pub use Rattle.propagators.specs.declared.plan.Plan.{Plan}
