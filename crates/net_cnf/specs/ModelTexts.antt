-- What is told of a solver's model.
use Rattle.std.specs.Prelude.{ℕ, List, [], ◌∷◌, ◌++◌, codes}
use Rattle.std.specs.Fmt.{decimal}
use Rattle.assign.specs.Assignment.{Assignment}
use Rattle.language.specs.Language.{Language}
use Rattle.language.specs.Texts.{values_text}
use Rattle.net_cnf.specs.declared.model_fault.ModelFault.{ModelFault}
use Rattle.net_cnf.specs.declared.model_fault.ModelFault.TheVariants.{TooLong, BadToken, Twice}
use Rattle.net_cnf.specs.declared.model_fault.ModelFault.TheVariants.{NotOne, Violates, Memory}

-- `solution a=1 b=2`
abbrev pub solution_line : Language → Assignment → List ℕ
solution_line l e = codes "solution" ++ (values_text l.least_value l.names e ++ 10 ∷ [])

-- why a model is refused
abbrev pub model_fault_line : ModelFault → List ℕ
model_fault_line TooLong = codes "refused model too long" ++ 10 ∷ []
model_fault_line (BadToken i) = codes "refused model bad token " ++ (decimal i ++ 10 ∷ [])
model_fault_line (Twice b) = codes "refused model twice " ++ (decimal b ++ 10 ∷ [])
model_fault_line (NotOne v) = codes "refused model not one " ++ (decimal v ++ 10 ∷ [])
model_fault_line (Violates i) = codes "refused model violates " ++ (decimal i ++ 10 ∷ [])
model_fault_line Memory = codes "refused model memory" ++ 10 ∷ []
