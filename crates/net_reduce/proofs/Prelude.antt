-- The names from outside that these proofs cite, passed on from one place. Declares nothing.
pub use Rattle.std.proofs.Common.{Bool, Global, List, Some, Vec, [], add-one, ap, arith, drop, false, inl, inr, length, not, refl, subst, suc, sym, take, true, zero, ℕ, ◌&&◌, ◌++◌, ◌+◌, ◌<◌, ◌∙◌, ◌∷◌, ◌≡◌, ◌≤◌, ◌⊎◌}
pub use Rattle.std.proofs.lemmas.Bool.{and_from, and_parts, both_ways, cases_lt, not_from_false}
pub use Rattle.std.proofs.lemmas.List.{append-nil, append_assoc, drop_all, get_or_at, length-append, length_push, same_from_push}
pub use Rattle.std.proofs.lemmas.List.Elements.{All-append, All-cons, All-drop, All-head, All-nil, All-push, All-tail}
pub use Rattle.std.specs.List.{insert, remove}
pub use Rattle.std.specs.Prelude.{slice_index_or, string_bytes, ◌≢◌}
pub use Rattle.fd_solver.specs.Outcomes.{IsOrder, outcome_of_candidate, search_outcome}
pub use Rattle.fd_solver.specs.declared.outcome.Outcome.{Outcome}
pub use Rattle.fd_solver.specs.declared.outcome.Outcome.TheVariants.{Absent, Found, Spent}
pub use Rattle.language.specs.Answers.{IsNetwork}
pub use Rattle.language.specs.Language.{HasSameSolutions, IsCandidate, IsImplied, IsLanguage, Language, accepts, variable_count, violates}
pub use Rattle.language.specs.declared.candidates.Candidate.{Candidate}
pub use Rattle.net_reduce.specs.Laws.{EachIsSearchedOrSpent, ReducedIsTarget, SiftedIsOne, SiftedIsReduction}
pub use Rattle.net_reduce.specs.Reduction.{IsSublist, Sifts}
pub use Rattle.net_reduce.specs.Searched.{AreDecided, IsReducedBySearch, IsSpentAt, item_at, left_at, others_at, outcome_at, unless_absent}
