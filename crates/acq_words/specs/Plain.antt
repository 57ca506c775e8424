-- Plain lists of words, and what they ask for.
use Rattle.std.specs.Prelude.{◌≡◌, ◌≤◌, ℕ, Bool, true, List, [], ◌∷◌, map, Option, Some, None}
use Rattle.std.specs.Prelude.{codes, Result}
use Rattle.std.specs.Fmt.{decimal}
use Rattle.std.specs.List.{All}
use Rattle.assign.specs.declared.events.Plan.{Plan}
use Rattle.assign.specs.declared.events.Plan.TheVariants.{Scopes, Quacq, Multi}
use Rattle.clap.specs.Words.{Text}
use Rattle.acq_words.specs.Options.{Name, Written, are_once, begins_bare, budget, number, plan}
use Rattle.acq_words.specs.Options.{words_of_options}
use Rattle.acq_words.specs.Request.{Contents, IsBudget, answer_by}
use Rattle.acq_words.specs.declared.request.Asked.{Asked}
use Rattle.acq_words.specs.declared.request.CommandName.{CommandName}
use Rattle.acq_words.specs.declared.request.CommandName.TheVariants as name
use Rattle.acq_words.specs.declared.request.UsageFault.{UsageFault}

-- an option's value
pub data Setting : Type 0 where
  plan_is : Plan → Setting
  budget_is : ℕ → Setting
  number_is : ℕ → Setting

-- an option, and whether its value stands in its own word, after `=`, or in the next
pub record OptionForm : Type 0 where
  pub setting : Setting
  pub is_joined : Bool

-- a journal, a command, and options in some order
pub record Plain : Type 0 where
  pub journal : Text
  pub command : CommandName
  pub options : List OptionForm

-- ---- Its words

abbrev pub command_text : CommandName → Text
command_text name.New = codes "new"
command_text name.Run = codes "run"
command_text name.Try = codes "try"
command_text name.Play = codes "play"
command_text name.Show = codes "show"
command_text name.Back = codes "back"
command_text name.Demo = codes "demo"
command_text name.Reduce = codes "reduce"
command_text name.Cnf = codes "cnf"
command_text name.Model = codes "model"
command_text name.Certify = codes "certify"
command_text name.Check = codes "check"

abbrev pub plan_text : Plan → Text
plan_text Scopes = codes "scopes"
plan_text Quacq = codes "quacq"
plan_text Multi = codes "multi"

abbrev pub name_in : Setting → Name
name_in (plan_is p) = plan
name_in (budget_is n) = budget
name_in (number_is n) = number

abbrev pub setting_text : Setting → Text
setting_text (plan_is p) = plan_text p
setting_text (budget_is n) = decimal n
setting_text (number_is n) = decimal n

abbrev pub written_of : OptionForm → Written
written_of c =
    record { name = name_in c.setting; value = setting_text c.setting; is_joined = c.is_joined }

abbrev pub words_of_plain : Plain → List Text
words_of_plain p = p.journal ∷ command_text p.command ∷ words_of_options (map written_of p.options)

-- ---- Which lists are plain

-- the value is one that the option has: each plan is
abbrev pub IsListed : Setting → Type 0
IsListed (plan_is p) = Unit {0}
IsListed (budget_is n) = IsBudget n
IsListed (number_is n) = n ≤ 4294967295

pub record IsPlain (p : Plain) : Type 0 where
  -- the journal isn't empty, and begins with no hyphen
  pub journal : begins_bare p.journal ≡ true
  -- each option stands there once at most
  pub once : are_once (map written_of p.options) ≡ true
  pub listed : All (λ c. IsListed c.setting) p.options

-- the words are those of a plain list
abbrev pub IsPlainList : List Text → Type 0
IsPlainList words = (p : Plain) × IsPlain p × (words_of_plain p ≡ words)

-- ---- What it asks for

abbrev pub plan_given : List OptionForm → Option Plan
plan_given [] = None
plan_given (c ∷ options) = plan_or c.setting (plan_given options)
  where
    plan_or : Setting → Option Plan → Option Plan
    plan_or (plan_is p) rest = Some p
    plan_or _ rest = rest

abbrev pub budget_given : List OptionForm → Option ℕ
budget_given [] = None
budget_given (c ∷ options) = budget_or c.setting (budget_given options)
  where
    budget_or : Setting → Option ℕ → Option ℕ
    budget_or (budget_is n) rest = Some n
    budget_or _ rest = rest

abbrev pub number_given : List OptionForm → Option ℕ
number_given [] = None
number_given (c ∷ options) = number_or c.setting (number_given options)
  where
    number_or : Setting → Option ℕ → Option ℕ
    number_or (number_is n) rest = Some n
    number_or _ rest = rest

abbrev pub asked_of : Plain → Asked
asked_of p = record {
  name = p.command;
  plan = plan_given p.options;
  budget = budget_given p.options;
  number = number_given p.options;
}

abbrev pub answer_of : Plain → Result Contents UsageFault
answer_of p = answer_by p.journal (asked_of p)
