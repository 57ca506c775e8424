-- The text of each fault.
use Rattle.std.specs.Prelude.{ℕ, List, ◌∷◌, ◌++◌, codes}
use Rattle.std.specs.Fmt.{decimal}
use Rattle.network.specs.declared.fault.NetFault.{NetFault}
use Rattle.network.specs.declared.fault.NetFault.TheVariants.{TooLong, NotJson, NotList, BadItem}
use Rattle.network.specs.declared.fault.NetFault.TheVariants.{UnknownScope, UnknownRelation}
use Rattle.network.specs.declared.fault.NetFault.TheVariants.{ScopeRepeated, Memory}

-- why a network is refused
abbrev pub net_fault_text : NetFault → List ℕ
net_fault_text TooLong = codes "too long"
net_fault_text NotJson = codes "not json"
net_fault_text NotList = codes "not list"
net_fault_text (BadItem i) = codes "bad item " ++ decimal i
net_fault_text (UnknownScope i) = codes "unknown scope " ++ decimal i
net_fault_text (UnknownRelation i) = codes "unknown relation " ++ decimal i
net_fault_text (ScopeRepeated j i) = codes "scope repeated " ++ (decimal j ++ 32 ∷ decimal i)
net_fault_text Memory = codes "memory"
