-- The names from outside that these proofs cite, passed on from one place. Declares nothing.
pub use Rattle.std.proofs.Common.{Err, List, None, Ok, Option, Result, Some, [], ap, append-nil, append_assoc, arith, drop, false, length, nat_le, nat_lt, refl, rules, subst, sym, take, true, ℕ, ◌++◌, ◌+◌, ◌-◌, ◌<◌, ◌==◌, ◌||◌, ◌∙◌, ◌∷◌, ◌≡◌, ◌≢◌, ◌≤◌}
pub use Rattle.std.proofs.lemmas.List.{drop_at, length-append, length-take, length_push, take-append-le, take_at}
pub use Rattle.std.proofs.lemmas.List.Elements.{All-push}
pub use Rattle.std.specs.Option.{option_map, option_to_list}
pub use Rattle.acq_io.specs.Lines.{LacksNewline, after_newline, before_newline, has_newline, lined, newline}
unfoldable pub use Rattle.acq_io.specs.Lines.{line_of}
pub use Rattle.acq_io.specs.Streams.{Adds, AddsOn, HasCalled, HasStopped, Takes, TakesSome, WasEmpty}
pub use Rattle.acq_io.specs.Whole.{Gives, gathered}
unfoldable pub use Rattle.acq_io.specs.Whole.{all_of, first_line_of}
pub use Rattle.acq_io.specs.declared.streams.Failed.{Failed}
pub use Rattle.acq_io.specs.declared.whole.AllFault.TheVariants.{TooLong as TooManyBytes}
