-- The names from outside that these proofs cite, passed on from one place. Declares nothing.
pub use Rattle.std.proofs.Common.{Bool, Bor, Equal, Err, Global, Greater, Less, List, None, Ok, Option, Ordering, Result, SFits, Some, String, [], ap, append_assoc, ap₂, arith, codes, cond, drop, false, get_or, inl, inr, length, length-append, map, max, nat_eq, nat_le, nat_lt, negsuc, not, of_z, option_and_then, pos, refl, rules, string_bytes, subst, suc, sym, take, to_z, true, true≢false, w64, zero, ℕ, ℤ, ◌&&◌, ◌++◌, ◌+◌, ◌<◌, ◌==◌, ◌^◌, ◌||◌, ◌∙◌, ◌∷◌, ◌≡◌, ◌≢◌, ◌≤◌, ◌⊎◌}
pub use Rattle.std.proofs.Math.Seq.{drop-cons}
pub use Rattle.std.proofs.lemmas.Bool.{and_from, and_parts, both_ways, cases_Bool, cases_eq, cases_lt, eqb-true, le-leb, leb-true, ltb-false, ltb-true, ne_eqb}
pub use Rattle.std.proofs.lemmas.Int.{ints, to_z-of_z}
pub use Rattle.std.proofs.lemmas.List.{append-nil, at_drop_all, ext_get_or, get_or-map, get_or-replicate, get_or-set_other, get_or-set_same, get_or-take, get_or_default, length-map, length-replicate, length-take, map-append, same_lists, take_all, take_more}
pub use Rattle.std.proofs.lemmas.List.Elements.{All-append, All-cons, All-contains, All-contains_itself, All-head, All-map, All-nil, All-push, All-tail, All-weaker, Contains-append_cases, Contains-append_left, Contains-append_right, Contains-push, Contains-push_cases}
pub use Rattle.std.proofs.lemmas.List.Folds.{Any-from_list_any, list_any_at}
pub use Rattle.std.proofs.lemmas.List.FromFn.{get_or-map-range_with_len, length-map-range_with_len}
pub use Rattle.std.proofs.lemmas.Option.{same_Some}
pub use Rattle.std.proofs.lemmas.Result.{err_from_is_err_and}
pub use Rattle.std.proofs.lemmas.Slice.Eq.{bytes_eq-Decides}
pub use Rattle.std.specs.Bool.{passes}
pub use Rattle.std.specs.List.{filter, list_all, list_any, position_or_len, range_with_len}
pub use Rattle.std.specs.Option.{ok_or, option_map, option_map_or, option_or}
pub use Rattle.std.specs.Ordering.{match_ordering, nat_cmp}
pub use Rattle.std.specs.Prelude.{All, AllPairs, Contains, IfOk, IfSome, IsTrue, IsUtf8, find, int_le, int_lt, position, replicate, slice_set, unsigned_abs, ⊤, ◌+ℤ◌, ◌-ℤ◌, ◌<ℤ◌, ◌≤ℤ◌}
pub use Rattle.std.specs.Str.{bytes_eq, is_utf8}
pub use Rattle.json.specs.Lex.{Class, Lexeme, Mode, Place, after_comma, after_key, after_value, backslash, begins_colon, between, class, colon, comma, fresh, if_allowed, in_escape, in_string, in_word, lex_byte, may_begin, may_close, operator, other, place_token, quote, space, token, tokens}
pub use Rattle.json.specs.Token.{Token, bad, begin_array, begin_object, end_array, end_object, key}
pub use Rattle.language.proofs.Widening.{not_more, over-meet, widened-over}
pub use Rattle.language.specs.Building.{AreKnown, Frame, IsBuilt, IsFrame, IsOver, are_nested, build_refusal, closing_refusal, first_pair, frame_refusal, has_arity, has_too_many, intersections, is_domain, is_listed, is_ordered, is_same_relation, listed_in, range_between, relations_given, relations_of_arity, scope_list_refusal, scopes_of as scopes_built, scopes_refusal, values_between, without_repeats}
pub use Rattle.language.specs.Inside.{given_by}
pub use Rattle.language.specs.Language.{AreNames, Given, IsLanguage, IsScope, Language, given_on, given_within, is_name, of_arity, relations_on, scope_at}
pub use Rattle.language.specs.Ranges.{IsRange, inside, whole_range, widened}
pub use Rattle.language.specs.declared.parts.LangFault.{LangFault}
pub use Rattle.language.specs.declared.parts.RelPart.{RelPart}
pub use Rattle.language.specs.declared.ranges.ValueRange.{ValueRange}
pub use Rattle.rel_formula.specs.Formula.{Term, Truth, first_too_big, is_true, shown_tuple}
pub use Rattle.rel_formula.specs.Reading.{formula_in, limit_refusal, read_term, read_term_call, read_terms, read_truth, read_truth_call, read_truths, text_term, text_truth, truth_by}
pub use Rattle.rel_formula.specs.declared.fault.FormulaFault.{FormulaFault}
pub use Rattle.rel_formula.specs.declared.fault.TableOfFault.TheVariants.{TooBig}
pub use Rattle.rel_formula.specs.Json.{json_of}
pub use Rattle.rel_table.proofs.Growing.{closing_more, cons_cases, contains_map, grown, image_of, meet_comm, no_longer, one_given, wider}
pub use Rattle.rel_table.specs.Made.{IsMade, Marks, arity_of, first_fault, is_shown, lists, place_of_shown, refusal_of, size_for, tuple_fault}
pub use Rattle.rel_table.specs.Relation.{IsClosing, IsIntersection, Relation, is_above, meet, tuples}
pub use Rattle.rel_table.specs.declared.table.TableFault.{TableFault}
pub use Rattle.serde_json.specs.Data.{Data, Items, Members, array, boolean, item, member, no_items, no_members, null, number, object, put, string}
pub use Rattle.serde_json.specs.Events.{items_len}
pub use Rattle.serde_json.specs.Find.{as_array, as_i64, as_object, as_str, get, get_member}
pub use Rattle.serde_json.specs.Read.{max_depth, of_items, of_json, of_members, read}
pub use Rattle.serde_json.specs.View.{items_view, members_view, view}
pub use Rattle.serde_json.specs.declared.value.Value.{Value}
pub use Rattle.voc_read.specs.Answers.{then_on, unless}
pub use Rattle.voc_read.specs.Keys.{has_other_key, is_known, keys_refusal, under}
pub use Rattle.voc_read.specs.Laws.{EachVocabularyIsReadOrRefused, NoTwoLanguages}
pub use Rattle.voc_read.specs.Names.{first_bad, first_repeat, names_refusal, variable_number}
unfoldable pub use Rattle.voc_read.specs.Names.{repeat_after}
pub use Rattle.voc_read.specs.Outline.{HeldData, OutlineData, held_by, is_all, listed_items, listed_under, outline_data, outline_of, ranges_under, vocabulary_keys}
pub use Rattle.voc_read.specs.Ranges.{HaveDistinctVariables, HasWholeRanges, IsKnown, RangeData, VariableRange, bounds_refusal, is_value, named_range, range_data, range_for, range_stated, ranged_names, ranges_by, ranges_from, ranges_of, ranges_refusal, range_stated_by, values_for, with_ranges}
pub use Rattle.voc_read.specs.Relations.{IsNamed, RelationData, counted_arity, given_names, listed_relations, made_of, name_refusal, relation_data, relation_keys, relation_names_refusal, relation_stated, relations_from, small_arity}
pub use Rattle.voc_read.specs.Rules.{RuleData, accepting, formula, rule_formula, one_of, relation_of_rule, relation_of_tuples, rule_in, stated_under, tuples as tuples_data}
pub use Rattle.voc_read.specs.Scopes.{numbers_of, scope_stated, scopes_from, scopes_stated}
pub use Rattle.voc_read.specs.Texts.{texts_of}
pub use Rattle.voc_read.specs.Values.{each_of, number_list, number_pair, text_list, tuple_list, whole_number}
pub use Rattle.voc_read.specs.Vocabulary.{IsFrameOf, IsLanguageOf, IsVocabulary, MOST_VOCABULARY, Parts, frame_of, outline_refusal, parts_from, parts_in, refusal_after}
unfoldable pub use Rattle.voc_read.specs.Vocabulary.{vocabulary_parts, refusal_of_vocabulary}
pub use Rattle.voc_read.specs.Want.{formula_wants, lang_wants, table_wants, wants_memory}
pub use Rattle.voc_read.specs.Widest.{items_widest, members_widest, widest, widest_in}
pub use Rattle.voc_read.specs.declared.fault.VocFault.{VocFault}
pub use Rattle.voc_read.specs.declared.fault.VocFault.TheVariants.{BadName, BadRange, BadRelName, Lang, Missing, NameRepeated, NotJson, RangeName, RangeRepeated, RelRepeated, Table, TableOf, TooLong, UnknownKey, UnknownVariable, WrongKind}
pub use Rattle.voc_read.specs.declared.ranges.NamedRange.{NamedRange}
