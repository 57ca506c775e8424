-- The names from outside that these proofs cite, passed on from one place. Declares nothing.
pub use Rattle.std.proofs.Common.{Bool, List, None, Option, Some, [], add-one, ap, arith, cond, drop, drop-cons, false, get_or, length, length-append, length-drop, not, refl, set, slice_index_or, subst, suc, sym, take, true, zero, ℕ, ◌&&◌, ◌++◌, ◌+◌, ◌-◌, ◌<◌, ◌||◌, ◌∙◌, ◌∷◌, ◌≡◌, ◌≤◌}
pub use Rattle.std.proofs.lemmas.Bool.{and_from, and_parts, both_ways, eqb-true, not-true, or_parts}
pub use Rattle.std.proofs.lemmas.List.{append-nil, get_or_default, length-map, map-append, reverse-append, take-append-drop, take_all, take_more_set}
pub use Rattle.std.specs.List.{filter, find, list_any}
pub use Rattle.std.specs.Option.{option_map}
pub use Rattle.std.specs.Prelude.{All, IfSome, IsTrue, map, reverse, ◌==◌}
pub use Rattle.assign.specs.Assignment.{Assignment, restrict}
pub use Rattle.assign.specs.Sets.{IsSet, has, is_within, numbers, union, without}
pub use Rattle.language.specs.Language.{IsCandidate, IsLanguage, IsQuestion, Language, scope_of, variable_count, violates}
pub use Rattle.language.specs.declared.candidates.Candidate.{Candidate}
pub use Rattle.language.proofs.Lists.{find_nothing}
pub use Rattle.session_laws.proofs.Restrict.{part_is_question, violates_restrict}
pub use Rattle.session_laws.specs.Walk.{Asks, Capped, Ended, Ends, Walk, learned_within, parts_without, take_set, violates_some}
unfoldable pub use Rattle.session_laws.specs.Walk.{next_turn}
pub use Rattle.multi_tree.specs.Depth.{AllFitOn, FitsOn}
pub use Rattle.multi_tree.specs.Listed.{AreBarren, AreListed, AreStruck, IsListing, beside_scope, item_within}
pub use Rattle.multi_tree.specs.Stage.{Ready, Stage, asked_in, stage_begun, put_again}
pub use Rattle.multi_tree.specs.Standing.{Move, PutsAgain, StageStandsFor, Turns, moved}
unfoldable pub use Rattle.multi_tree.specs.Standing.{after_moves}
pub use Rattle.multi_tree.specs.declared.listing.Violated.{Violated}
