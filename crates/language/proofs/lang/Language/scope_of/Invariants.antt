use Rattle.language.proofs.Prelude.{◌≡◌, ℕ, ◌<◌, false, is_same, scope_at}
use Rattle.language.proofs.lang.Language.scope_of.Given as goal

abbrev pub invariant-loop-s : goal.invariant-loop-s
invariant-loop-s l = (k : ℕ) → k < l.s → is_same l.w (scope_at l.self k) ≡ false
