-- The names from outside that these proofs cite, passed on from one place. Declares nothing.
pub use Rattle.std.proofs.Common.{Bool, List, None, Option, Some, [], ap, append-nil, append_assoc, arith, cond, drop, false, get_or, inl, inr, length, length-append, ltb, not, refl, rules, subst, sym, take, true, ℕ, ◌&&◌, ◌*◌, ◌++◌, ◌+◌, ◌<◌, ◌^◌, ◌∙◌, ◌∷◌, ◌≡◌, ◌≤◌, ◌⊎◌}
pub use Rattle.std.proofs.lemmas.Bool.{and_from, cases_lt, eq-eqb, le-leb, le-ltb, lt-ltb, ltb-true, ne_eqb, not-true, not_from_false, or_left}
pub use Rattle.std.proofs.lemmas.List.{at_drop_more, drop_all, drop_at, get_or_append_left, get_or_at, take_at}
pub use Rattle.std.proofs.lemmas.List.Elements.{All-append, All-cons, All-head, All-nil, All-tail}
pub use Rattle.std.proofs.lemmas.List.Splits.{slice_split_at, slice_split_first, slice_split_none}
pub use Rattle.std.proofs.lemmas.List.Sums.{AllPass-from_list_all, fails_before_first, position_or_len_is}
pub use Rattle.std.specs.Char.{digit_value, is_digit}
pub use Rattle.std.specs.List.{flat_map, list_all, position_or_len}
pub use Rattle.std.specs.Option.{option_and_then, option_map}
pub use Rattle.std.specs.Prelude.{All, nat_le, nat_lt, position, ◌==◌}
pub use Rattle.std.specs.Str.Parse.{AllDigits, digits_value, digits_value_after}
pub use Rattle.line_text.specs.Words.{begins_well, capped, cut_at, decimal_below, decimal_in, is_decimal, is_space, number_from, words_in}
