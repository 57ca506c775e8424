use Rattle.target_oracle.proofs.Prelude.{◌≡◌, map, string_bytes, numbers, name_of}
use Rattle.target_oracle.proofs.generator.names.Given as goal

abbrev pub invariant-loop-v : goal.invariant-loop-v
invariant-loop-v l = map string_bytes l.names.items ≡ map name_of (numbers l.v)
