use Rattle.language.proofs.Prelude.{◌≡◌, ◌++◌, ◌∷◌, length, map, string_bytes, decimal, IsSet, values_text}
use Rattle.language.proofs.Wording.{pieces}
use Rattle.language.proofs.texts.write_question.Given as goal

abbrev pub invariant-loop-v : goal.invariant-loop-v
invariant-loop-v l = IsSet l.left × (113 ∷ (decimal l.fn.k ++ values_text l.fn.least_value (map string_bytes l.names) l.q) ≡ string_bytes l.text ++ pieces l.fn.least_value (map string_bytes l.names) l.q l.left)

abbrev pub decreases-loop-v : goal.decreases-loop-v
decreases-loop-v l = length l.left
