-- The names from outside that these proofs cite, passed on from one place. Declares nothing.
pub use Rattle.std.proofs.Common.{Bool, Global, List, None, Option, Some, Vec, [], add-one, ap, arith, cond, false, get_or, get_or-set_other, get_or-set_same, inl, inr, length, length-append, lit≤, map, not, refl, slice_index_or, subst, suc, sym, take, true, zero, ℕ, ◌&&◌, ◌*◌, ◌++◌, ◌+◌, ◌-◌, ◌<◌, ◌^◌, ◌||◌, ◌∙◌, ◌∷◌, ◌≡◌, ◌≢◌, ◌≤◌, ◌⊎◌}
pub use Rattle.std.proofs.Math.Nat.{pow-le-pow_right, pow-zero}
pub use Rattle.std.proofs.lemmas.Bool.{and_from, and_parts, both_ways, cases_eq, cases_lt, eq-eqb, eqb-true, false_from_ne_true, le-ltb, ne_eqb, or_parts, true_from_ne_false}
pub use Rattle.std.proofs.lemmas.List.{append-nil, get_or-drop, get_or-replicate, get_or-take, get_or_append_left, get_or_past, get_or_push, get_or_read, length-drop, length-map, length-replicate, length-set, length-take-le}
pub use Rattle.std.proofs.lemmas.List.Elements.{All-append, All-cons, All-filter, All-head, All-map, All-nil, All-tail, Contains-append_cases, Contains-append_left, Contains-append_right, filter-append}
pub use Rattle.std.proofs.lemmas.List.Folds.{list_any-append, list_any_at}
pub use Rattle.std.proofs.lemmas.Nat.{and_le_l, one_shl, pow_below, zero_from_ones}
pub use Rattle.std.proofs.lemmas.Nat.Bits.{bit_at-lt, bit_at-trailing_zeros, bit_at_above, bit_at_and, bit_at_not, shr_and_one}
pub use Rattle.std.specs.Int.{bit_at, bit_not, trailing_zeros, w64}
pub use Rattle.std.specs.List.{filter, flat_map, list_any, range_with_len, slice_range}
pub use Rattle.std.specs.Option.{IfNone, IfSome, option_map_or}
pub use Rattle.std.specs.Prelude.{All, Contains, bit_and, count_ones, if◌then◌else◌, is_some, max, min, replicate, slice_set, unwrap_or, ◌==◌}
pub use Rattle.assign.specs.Assignment.{Assignment, covers, tuple_on, value_of}
pub use Rattle.assign.specs.SetLemmas.{filter_agree_from, has-members_of, has-set_where_above, is_one, is_one-pow}
pub use Rattle.assign.specs.Sets.{has, is_within, members_of, numbers}
unfoldable pub use Rattle.assign.specs.Sets.{ones_of, set_where}
pub use Rattle.assign.proofs.Ones.{has-filter, has-ones_of, is_one-and_not, length-ones_of, ones_of-listed, ones_of-passing, ones_of-zero}
pub use Rattle.language.proofs.Lists.{nothing_passes}
pub use Rattle.language.proofs.Members.{any-map, any_number}
pub use Rattle.language.proofs.Placing.{below_after, value_fits}
pub use Rattle.language.specs.Language.{IsCandidate, IsLanguage, IsQuestion, IsScope, Language, candidates, candidates_on, is_whole, place_on, relation_of, relations_on, scope_at, scope_of, variable_count, violates}
pub use Rattle.language.specs.Pairs.{IsPairTableOn}
pub use Rattle.language.specs.declared.candidates.Candidate.{Candidate}
pub use Rattle.rel_table.specs.Relation.{Relation, holds, place}
pub use Rattle.bias_store.specs.Accepting.{Accepting, Accepts, AreAdded, AreRowsFrom, AreRunsFrom, IsAcceptingOf, IsRow, IsTableOf, accepting_on, first_of, mask_in, places_on, second_of}
pub use Rattle.bias_store.specs.Inside.{candidates_at, members_from}
pub use Rattle.bias_store.specs.KeptSet.{CoversOnly, IsMadeFor, KeptSet, is_struck_within, kept_relations}
pub use Rattle.bias_store.specs.Left.{IsLeftFrom}
pub use Rattle.bias_store.specs.InsideLeft.{PassesOver}
pub use Rattle.bias_store.specs.Ones.{IsLeastOne}
pub use Rattle.bias_store.specs.Row.{AreNoneBut, AreNoneIn, IsFirstIn, IsRowOf, violated_at}
pub use Rattle.bias_store.specs.Violated.{AreHitsListed, AreNoneViolated, IsHit, IsViolated, violated_on}
pub use Rattle.bias_store.specs.declared.tables.TheConstants.{NO_TABLE}
pub use Rattle.bias_store.specs.declared.tables.Violated.{Violated}
pub use Rattle.shared_lemmas.proofs.Read.{none_given}
