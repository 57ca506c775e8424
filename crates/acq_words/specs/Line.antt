-- The program's one command, as `clap` reads it.
use Rattle.std.specs.Prelude.{pos, Bool, true, List, codes, Some}
use Rattle.clap.specs.Kinds.{Kinds}
use Rattle.clap.specs.Words.{App, Row, Rule, Text, fault_of, matches_of, new_app, new_rule}
use Rattle.clap.specs.Words.{with_rule}
use Rattle.clap.specs.Walk.{is_empty}
use Rattle.clap.specs.declared.builder.value_parser.ValueParser.TheVariants as vp

-- two positionals that must be there, each any text: which commands there are is not for `clap` to
-- say
abbrev pub journal_rule : Rule
journal_rule = record (new_rule (codes "JOURNAL")) { required = true }

abbrev pub command_rule : Rule
command_rule = record (new_rule (codes "COMMAND")) { required = true }

-- three options, each with one value; likewise the plan's
abbrev pub plan_rule : Rule
plan_rule = record (new_rule (codes "plan")) { long = Some (codes "plan") }

abbrev pub budget_rule : Rule
budget_rule = record (new_rule (codes "budget")) {
  long =
      Some (codes "budget");
  parser = Some (vp.Signed (pos 1) (pos 1000000000));
}

abbrev pub number_rule : Rule
number_rule = record (new_rule (codes "number")) {
  long =
      Some (codes "number");
  parser = Some (vp.Signed (pos 0) (pos 4294967295));
}

-- the words don't begin with the program's own name
abbrev pub bare_line : App
bare_line = let a =
    new_app (codes "acquire") in record a { top = record a.top { no_binary_name = true } }

abbrev pub line : App
line = with_rule (with_rule (with_rule (with_rule (with_rule bare_line journal_rule) command_rule)
    plan_rule) budget_rule) number_rule

-- why the command refuses the words: empty where it takes them
unfoldable pub faults_in : List Text → Kinds
faults_in words = fault_of line words

-- whether it takes them
abbrev pub are_parsed : List Text → Bool
are_parsed words = is_empty (faults_in words)

-- what it finds in them, where it takes them
unfoldable pub rows_in : List Text → List Row
rows_in words = matches_of line words
