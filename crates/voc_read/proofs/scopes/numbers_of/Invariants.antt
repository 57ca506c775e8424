use Rattle.voc_read.proofs.Prelude.{◌≡◌, ◌++◌, drop, option_map, numbers_of, texts_of}
use Rattle.voc_read.proofs.scopes.numbers_of.Given as goal

abbrev pub invariant-loop-name : goal.invariant-loop-name
invariant-loop-name l =
    option_map (λ more. l.scope.items ++ more) (numbers_of (texts_of l.names.keys) (texts_of (drop l.name-index l.listed))) ≡ numbers_of (texts_of l.names.keys) (texts_of l.listed)
