-- The names from outside that these proofs cite, passed on from one place. Declares nothing.
pub use Rattle.std.proofs.Common.{Bool, Err, List, None, Option, Result, Some, [], ap, append-nil, append_assoc, arith, cond, drop, false, get_or, inl, inr, length, map, not, refl, rules, subst, suc, sym, take, tests, true, true≢false, zero, ℕ, ◌%◌, ◌&&◌, ◌++◌, ◌+◌, ◌-◌, ◌/◌, ◌<◌, ◌==◌, ◌^◌, ◌||◌, ◌∙◌, ◌∷◌, ◌≡◌, ◌≢◌, ◌≤◌, ◌⊎◌}
pub use Rattle.std.proofs.Math.ListN.{get_or-eq_default, length-set}
pub use Rattle.std.proofs.lemmas.List.{ext_get_or, get_or-replicate, get_or-set_other, get_or-set_same, length-drop, length-map, map-append, take_all}
pub use Rattle.std.proofs.lemmas.List.Elements.{All-head, All-push, All-tail, All-weaker}
pub use Rattle.std.proofs.lemmas.List.Sums.{prefix_len-le-length, suffix_len-take_yes}
pub use Rattle.std.proofs.lemmas.Option.{none-some, same_Some}
pub use Rattle.std.specs.List.{filter, list_all, prefix_len, suffix_len}
pub use Rattle.std.specs.Option.{ForSome, option_map, option_map_or}
pub use Rattle.std.specs.Prelude.{All, AllPairs, IfSome, String, pos, replicate, slice_set, string_bytes}
pub use Rattle.acq_io.proofs.TakenLemmas.{adds_none, adds_on, adds_then, takes_none, takes_some_on}
pub use Rattle.acq_io.specs.Streams.{Adds, AddsFront, AddsOn, HasCalled, TakesSome}
pub use Rattle.assign.specs.Sets.{numbers}
pub use Rattle.language.specs.Answers.{IsNetwork, has_scope}
pub use Rattle.language.specs.Building.{Frame, IsBuilt, build_refusal}
unfoldable pub use Rattle.language.specs.Building.{pair_after}
pub use Rattle.language.specs.Language.{AreNames, Given, IsCandidate, IsQuestion, Language, accepts, relations_on, scope_of, violates}
pub use Rattle.language.specs.Ranges.{is_in, range_in, whole_range}
pub use Rattle.language.specs.declared.candidates.Candidate.{Candidate}
pub use Rattle.target_oracle.specs.Generator.{IsGenerated, after, draw, drawn_on, frame, given, name_of, names, target_of}
unfoldable pub use Rattle.target_oracle.specs.Generator.{hidden, state_at}
pub use Rattle.target_oracle.specs.Hearing.{CutsOff, Hears, HearsLine, PassedBy, Passes, Speaks, TellsOf, told_of}
pub use Rattle.target_oracle.specs.Lines.{Spoken, hear_line, line_reply, line_turn, no_answer_text, turned_by, spoken, spoken_in}
unfoldable pub use Rattle.target_oracle.specs.Lines.{hear}
pub use Rattle.target_oracle.specs.Words.{is_blank, trimmed_after}
unfoldable pub use Rattle.target_oracle.specs.Words.{trimmed}
pub use Rattle.target_oracle.specs.declared.teacher.Told.{Told}
pub use Rattle.target_oracle.specs.declared.teacher.Told.TheVariants.{Back, End, Memory, No, ReadFault, Stop, TooLong, Unreadable, WriteFault, Yes}
