use Rattle.language.proofs.Prelude.{◌≡◌, drop}
use Rattle.language.proofs.ByNames.{among}
use Rattle.language.proofs.named.table_named.Given as goal

abbrev pub invariant-loop-part : goal.invariant-loop-part
invariant-loop-part l = among l.arity l.name (drop l.part-index l.given) ≡ among l.arity l.name l.given
