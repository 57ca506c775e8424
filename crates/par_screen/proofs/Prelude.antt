-- The names from outside that these proofs cite, passed on from one place. Declares nothing.
pub use Rattle.std.proofs.Common.{List, [], ap, arith, length, replicate, subst, sym, vec_len, ℕ, ◌*◌, ◌+◌, ◌-◌, ◌<◌, ◌∙◌, ◌∷◌, ◌≡◌, ◌≤◌}
pub use Rattle.std.proofs.lemmas.List.Elements.{All-append}
pub use Rattle.language.specs.Language.{Language, candidates, number_of}
pub use Rattle.query_gen.proofs.Parts.{IsTakenTo, parts_are_joined, says_nothing, taken_further, whole_is_next}
pub use Rattle.query_gen.specs.Inside.{remembered_begun}
pub use Rattle.query_gen.specs.Marks.{AreMarksFor, MarksHold, Remembered}
pub use Rattle.query_gen.specs.Parts.{HasTaken, IsSearched, is_ask, part_size, query_in, query_then}
pub use Rattle.query_gen.specs.declared.place.Place.{Place}
pub use Rattle.query_gen.specs.declared.query.Query.{Query}
pub use Rattle.query_gen.specs.declared.query.Query.TheVariants.{AllImplied}
pub use Rattle.par_screen.specs.Eighths.{part_start}
