-- The names from outside that these proofs cite, passed on from one place. Declares nothing.
pub use Rattle.std.proofs.Common.{Bool, Bor, IsErrOf, List, None, Option, Some, [], ap, append-nil, append_assoc, ap₂, arith, codes, cond, drop, false, fold, inl, inr, length, lit<, lit≤, map, not, option_map, refl, rules, string_bytes, subst, sym, true, ℕ, ◌&&◌, ◌++◌, ◌<◌, ◌==◌, ◌^◌, ◌||◌, ◌∙◌, ◌∷◌, ◌≡◌, ◌≤◌}
pub use Rattle.std.proofs.lemmas.Bool.{cases_lt, le-leb, lt-ltb, ne_eqb}
pub use Rattle.std.proofs.lemmas.List.Elements.{All-from_recursion, All-get_or, All-head, All-tail}
pub use Rattle.std.proofs.lemmas.Str.Parse.{digit_from_value}
pub use Rattle.std.specs.List.{All, list_all, list_any, slice_index_or}
pub use Rattle.std.specs.Prelude.{Err, Ok, Result, find, if◌then◌else◌, int_le, is_some, nat_lt, option_and_then, pos, slice_get, unwrap_or, ℤ, ◌≢◌}
pub use Rattle.std.specs.Str.{bytes_eq}
pub use Rattle.std.specs.Str.Parse.{AllDigits, ExplainsUnsignedError, HasUnsignedDigitsIfOk, IsNumeral, ParsesUnsigned, digits_value, signed_digits_value, starts_with_minus, without_leading_plus, without_leading_sign}
pub use Rattle.clap.specs.Facts.{Entry, EntryPasses, HasReading, IsParsed, PassesArg, args_of, groups_of, parser_of, parser_of_value}
pub use Rattle.clap.specs.Faults.{bundle_fault, check_fault, default_fault, entered_fault, flag_word_fault, given_default_fault, is_simple_and_free, other_fault, react_fault, settle_fault, step_fault, turn_fault, use_fault}
pub use Rattle.clap.specs.Kinds.{HasKind, IsAmong, Kinds, or_else}
pub use Rattle.clap.specs.Lexer.{long_of, long_of_rest, short_of, short_of_rest, strip_byte, without_minus}
pub use Rattle.clap.specs.Simple.{Shape, built, entered, filled}
pub use Rattle.clap.specs.ValueTests.{accepts, fits_i64, is_numeral, is_signed_in}
pub use Rattle.clap.specs.Walk.{Held, Row, Rule, Text, Waiting, Walk, after_step, arg_by_index, at_row, default_rows, finished, first_of, has_row, idle, is_empty, long_or_other, more_values, next, nothing_held, one_of, option, plain_word, reacted, reading_by, row_text, rows_of, rule_of, settled, short_or_plain, to_positional, trailing, used, used_as, value, walk, walk_from, walked, with_default, with_values, without, word_met}
pub use Rattle.clap.specs.Words.{App, HasMatchesOf, app_of, fault_of, found_of, is_simple, kind_of, matches_of, with_rule}
pub use Rattle.clap.specs.declared.builder.value_parser.Reading.{Reading}
pub use Rattle.clap.specs.declared.parser.matches.ArgMatches.{ArgMatches}
pub use Rattle.acq_words.specs.Laws.{ExampleIsPlain, ListsAreParsed, PlainListsAreTaken, PlainListsReadOneWay, positional_row, positional_rows, row_of}
pub use Rattle.acq_words.specs.Line.{line}
unfoldable pub use Rattle.acq_words.specs.Line.{faults_in, rows_in}
pub use Rattle.acq_words.specs.Numbers.{HasNumber, HaveNumbers, IsNumberIn, digits_number}
pub use Rattle.acq_words.specs.Options.{Name, Written, are_once, begins_bare, budget, dashed, id_of, is_accepted, is_option_named, number, plan, rule_named, words_of_option, words_of_options}
pub use Rattle.acq_words.specs.Request.{Contents, IsRequestOf, contents_in, request_of_words, answer_with, asked_by, asked_of_rows, command_named, command_of, file_named, is_memory, is_unfit, plan_named, plan_said}
