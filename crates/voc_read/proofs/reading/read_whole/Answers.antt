use Rattle.voc_read.proofs.Prelude.{ℕ, ◌<◌, ◌≤◌, List, length, Bor, Option, Some, None, arith, IfSome, Value}
use Rattle.voc_read.proofs.reading.read_whole.Goals as goal

fewer : (listed : Option (Bor (List Value))) (most bound : ℕ) → IfSome listed (λ list. length list.now ≤ most) → most < bound → IfSome listed (λ list. length list.now < bound)
fewer None most bound few low = tt
fewer (Some list) most bound few low = omega arith

pub language_of-requires-clause-scopes : goal.language_of-requires-clause-scopes
language_of-requires-clause-scopes c =
    let held = c.in_ok-held.ensures.within.scopes in
    fewer c.in_ok-outline.outline.listed _ _ c.in_ok-outline.ensures.within.listed (omega (arith, held, c.requires))
