use Rattle.language.proofs.Prelude.{◌≡◌, ℕ, ◌<◌, false, scope_at, has_names, texts_of}
use Rattle.language.proofs.lang.Language.scope_named.Given as goal

abbrev pub invariant-loop-s : goal.invariant-loop-s
invariant-loop-s l = (k : ℕ) → k < l.s → has_names l.self (texts_of l.names) (scope_at l.self k) ≡ false
