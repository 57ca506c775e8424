-- Options as they are written.
use Rattle.std.specs.Prelude.{Bool, true, false, not, ◌&&◌, ◌||◌, ◌==◌, List, [], ◌∷◌, ◌++◌}
use Rattle.std.specs.Prelude.{if◌then◌else◌, codes}
use Rattle.std.specs.List.{list_any}
use Rattle.std.specs.Str.{bytes_eq}
use Rattle.clap.specs.ValueTests.{accepts}
use Rattle.clap.specs.Facts.{parser_of_value}
use Rattle.clap.specs.Words.{Rule, Text}
use Rattle.acq_words.specs.Line.{budget_rule, number_rule, plan_rule}

pub data Name : Type 0 where
  plan : Name
  budget : Name
  number : Name

abbrev pub rule_named : Name → Rule
rule_named plan = plan_rule
rule_named budget = budget_rule
rule_named number = number_rule

abbrev pub id_of : Name → Text
id_of name = (rule_named name).id

-- an option with its value, in one word joined by `=` (61), or in two
pub record Written : Type 0 where
  pub name : Name
  pub value : Text
  pub is_joined : Bool

abbrev pub dashed : Name → Text
dashed name = codes "--" ++ id_of name

abbrev pub words_of_option : Written → List Text
words_of_option o =
    if o.is_joined then (dashed o.name ++ 61 ∷ o.value) ∷ [] else dashed o.name ∷ o.value ∷ []

abbrev pub words_of_options : List Written → List Text
words_of_options [] = []
words_of_options (o ∷ options) = words_of_option o ++ words_of_options options

-- a text that begins with no hyphen, and isn't empty
abbrev pub begins_bare : Text → Bool
begins_bare [] = false
begins_bare (byte ∷ bytes) = not (byte == 45)

-- the value is one of the option's, and where it is a word of its own, it begins with no hyphen
abbrev pub is_accepted : Written → Bool
is_accepted o = accepts false (parser_of_value (rule_named o.name).parser) o.value &&
    (o.is_joined || begins_bare o.value)

abbrev pub is_option_named : Name → Written → Bool
is_option_named name o = bytes_eq (id_of name) (id_of o.name)

-- each name at most once
abbrev pub are_once : List Written → Bool
are_once [] = true
are_once (o ∷ options) = not (list_any (is_option_named o.name) options) && are_once options
