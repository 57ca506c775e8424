-- The names from outside that these proofs cite, passed on from one place. Declares nothing.
pub use Rattle.std.proofs.Common.{Bool, List, [], ap, append-nil, append_assoc, arith, cond, drop, false, inl, inr, length, length-drop, length-take, lit<, lit≤, nat_le, not, pow-suc, refl, subst, suc, sym, take, true, unwrap_or, zero, ℕ, ◌&&◌, ◌*◌, ◌++◌, ◌+◌, ◌-◌, ◌/◌, ◌<◌, ◌^◌, ◌||◌, ◌∙◌, ◌∷◌, ◌≡◌, ◌≤◌, ◌⊎◌}
pub use Rattle.std.proofs.Math.Nat.{pow-zero}
pub use Rattle.std.proofs.lemmas.Bool.{and_from, and_parts, both_ways, cases_Bool, cases_eq, eq-eqb, eqb-true, le-leb, leb-true, lt-ltb, or_cases, or_left, or_right, true_from_ne_false}
pub use Rattle.std.specs.Prelude.{nat_lt, ◌==◌, ◌≢◌}
pub use Rattle.assign.proofs.Masks.{canonical, lacks, length_cond, rises_drop, rises_take, rises_where}
pub use Rattle.assign.specs.SetLemmas.{has-set_where, set_where-same}
pub use Rattle.assign.specs.Sets.{IsSet, Rises, first_half, has, is_within, minus, second_half, union, without}
unfoldable pub use Rattle.assign.specs.Sets.{set_where}
pub use Rattle.find_scope.specs.Halving.{Got, Halved, Wants, ask, halve, is_empty, then_got}
unfoldable pub use Rattle.find_scope.specs.Halving.{halve_within}
pub use Rattle.find_scope.specs.Laws.{DepthIsEnough, GotIsLeastDenied, GotIsMinimal, GotIsPart, GotTakesFewNoes, IsReplied, LogIsLeast, NoesAreFew, RunsAreShort, RunsTakeFewNoes, WantedIsAsked}
pub use Rattle.find_scope.specs.Run.{AreFit, Fits, Run, halve_then}
unfoldable pub use Rattle.find_scope.specs.Run.{finish, meaning}
pub use Rattle.find_scope.specs.declared.frames.Frame.{Frame}
pub use Rattle.find_scope.specs.declared.frames.Frame.TheVariants.{Joins, ThenFirst}
