-- Which lists of words are taken.
use Rattle.std.specs.Prelude.{◌≡◌, true, List, [], ◌∷◌, ◌++◌, map, None, Some, codes}
use Rattle.std.specs.List.{list_all}
use Rattle.clap.specs.Walk.{reading_by}
use Rattle.clap.specs.Simple.{filled}
use Rattle.clap.specs.Words.{Row, Text}
use Rattle.clap.specs.declared.builder.value_parser.Reading.TheVariants.{AsWritten}
use Rattle.clap.specs.declared.parser.matches.ValueSource.TheVariants.{CommandLine}
use Rattle.acq_words.specs.Line.{are_parsed, rows_in}
use Rattle.acq_words.specs.Options.{Written, are_once, begins_bare, id_of, is_accepted, rule_named}
use Rattle.acq_words.specs.Options.{words_of_options}
use Rattle.acq_words.specs.Plain.{IsPlain, IsPlainList, Plain, answer_of, words_of_plain}
use Rattle.acq_words.specs.Request.{request_of_words}

-- what is found of an option
abbrev pub row_of : Written → Row
row_of o = record {
  id = id_of o.name;
  values = o.value ∷ [];
  count = None;
  source = Some CommandLine;
  reading = reading_by (filled (rule_named o.name));
}

-- and of a positional
abbrev pub positional_row : Text → Text → Row
positional_row id v = record {
  id = id;
  values = v ∷ [];
  count = None;
  source = Some CommandLine;
  reading = AsWritten;
}

abbrev pub positional_rows : Text → Text → List Row
positional_rows journal command =
    positional_row (codes "JOURNAL") journal ∷ positional_row (codes "COMMAND") command ∷ []

-- Two words and then options, each once at most, in any order and each written in one of two ways:
-- they are taken, and each stands where it was found. Nothing is asked of the first two but that
-- they don't look like options.
abbrev pub ListsAreParsed : Type 0
ListsAreParsed = (journal command : Text) (options : List Written) → begins_bare journal ≡ true →
    begins_bare command ≡ true → are_once options ≡ true → list_all is_accepted options ≡ true
    → let words = journal ∷ command ∷ words_of_options options in
    (are_parsed words ≡ true)
    × (rows_in words ≡ positional_rows journal command ++ map row_of options)

-- a plain list is taken, and asks for what it reads as
abbrev pub PlainListsAreTaken : Type 0
PlainListsAreTaken = (p : Plain) → IsPlain p → request_of_words (words_of_plain p) ≡ answer_of p

-- the words of a plain list can be read in one way only
abbrev pub PlainListsReadOneWay : Type 0
PlainListsReadOneWay = (p q : Plain) → IsPlain p → IsPlain q → words_of_plain p ≡ words_of_plain q →
    answer_of p ≡ answer_of q

-- such a list
abbrev pub ExampleIsPlain : Type 0
ExampleIsPlain = IsPlainList (codes ":memory:" ∷ codes "try" ∷ codes "--plan=scopes"
    ∷ codes "--budget" ∷ codes "5" ∷ [])
