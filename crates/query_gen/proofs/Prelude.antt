-- The names from outside that these proofs cite, passed on from one place. Declares nothing.
pub use Rattle.std.proofs.Common.{Bool, List, None, Option, Some, [], ap, append_assoc, ap₂, arith, cond, drop, false, get_or, get_or-set_other, get_or-set_same, inl, inr, length, map, not, refl, replicate, set, subst, suc, sym, take, true, zero, ℕ, ◌&&◌, ◌++◌, ◌+◌, ◌-◌, ◌<◌, ◌||◌, ◌∙◌, ◌∷◌, ◌≡◌, ◌≤◌, ◌⊎◌}
pub use Rattle.std.proofs.lemmas.Bool.{and_from, and_parts, both_ways, cases_eq, cases_lt, eq-eqb, eqb-true, false_from_ne_true, ne_eqb, not-true}
pub use Rattle.std.proofs.lemmas.List.{append-nil, append_cancel_right, drop_more, get_or-drop, get_or-map, get_or-replicate, get_or-take, get_or_default, get_or_past, get_or_read, length-append, length-map, length-replicate, length-set, map-append, map_more, take-append-drop, take-append-le, take_all, with_items_is}
pub use Rattle.std.proofs.lemmas.List.Elements.{All-cons, All-contains, All-drop, All-head, All-nil, All-set, All-tail, All-take, Contains-get_or, filter-append, filter_map-append, filter_passes}
pub use Rattle.std.proofs.lemmas.List.Folds.{Any-from_list_any, drop_split, list_any-append, list_any_at}
pub use Rattle.std.specs.List.{filter, filter_map, list_all, list_any, range_with_len}
pub use Rattle.std.specs.Prelude.{All, Any, Contains, IsTrue, slice_index_or, slice_range, ◌==◌, ◌↔◌, ◌≢◌}
pub use Rattle.assign.specs.Assignment.{Assignment}
pub use Rattle.assign.specs.Sets.{has, numbers}
unfoldable pub use Rattle.assign.specs.Sets.{ones_of}
pub use Rattle.assign.proofs.Ones.{ones_of-zero}
pub use Rattle.bias_store.proofs.Members.{candidate_at}
pub use Rattle.bias_store.specs.KeptSet.{kept_relations}
pub use Rattle.fd_solver.proofs.Outcomes.{absent_is_implied, absent_stays, found_is_lawful, found_stays, spent_is_long}
pub use Rattle.fd_solver.specs.Laws.{AbsentIsImplied, AbsentStays, FoundIsLawful, FoundStays, IsQuestionAgainst, SpentIsLong}
pub use Rattle.fd_solver.specs.Outcomes.{IsOrder, outcome_of_candidate, search_outcome}
pub use Rattle.fd_solver.specs.declared.outcome.Outcome.{Outcome}
pub use Rattle.fd_solver.specs.declared.outcome.Outcome.TheVariants.{Absent, Found, Spent}
pub use Rattle.language.proofs.Counting.{count, count_more, count_rises, number_below, numbered}
pub use Rattle.language.proofs.Members.{any-filter, any-map}
pub use Rattle.language.specs.Answers.{IsNetwork}
pub use Rattle.language.specs.Language.{IsCandidate, IsImplied, IsLanguage, IsQuestion, Language, accepts, candidates, number_of, relations_on, variable_count, violates}
pub use Rattle.language.specs.declared.candidates.Candidate.{Candidate}
pub use Rattle.query_gen.specs.Inside.{IsBegun, remembered_begun, seen, without_spent}
pub use Rattle.query_gen.specs.Laws.{AllAreImplied, AskedIsLawful, MarksStay, NoMarksHold, PartsAreJoined, PickedAreInOrder, UndecidedIsSpent, WholeIsNext}
pub use Rattle.query_gen.specs.Marks.{AreMarksFor, IsFindOf, MarksHold, Remembered, is_mark_spent, is_open, mark_of}
pub use Rattle.query_gen.specs.Parts.{AreTaken, AreTrue, HasTaken, IsScopeOf, IsSearched, IsSearchedBefore, IsSearchedTo, byte_for, is_ask, is_looked_at, mark_taken, query_in, query_then, reach, scope_start}
pub use Rattle.query_gen.specs.Questions.{found_in, is_among, is_spent, next_query, query_from, query_of}
pub use Rattle.query_gen.specs.declared.find.Find.{Find}
pub use Rattle.query_gen.specs.declared.query.Query.{Query}
pub use Rattle.query_gen.specs.declared.query.Query.TheVariants.{AllImplied, Ask, Undecided}
pub use Rattle.query_gen.specs.declared.screen.Mark.{Mark}
pub use Rattle.query_gen.specs.declared.screen.Mark.TheVariants.{Blank, Implied}
