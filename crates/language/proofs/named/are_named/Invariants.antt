use Rattle.language.proofs.Prelude.{◌≡◌, ℕ, [], drop, map, string_bytes, slice_index_or, bytes_eq, pointwise, texts_of}
use Rattle.language.proofs.named.are_named.Given as goal

abbrev pub invariant-loop-i : goal.invariant-loop-i
invariant-loop-i l =
    pointwise bytes_eq (map (λ (v : ℕ). slice_index_or (map string_bytes l.all) v []) l.scope) (texts_of l.names)
    ≡ pointwise bytes_eq (drop l.i (map (λ (v : ℕ). slice_index_or (map string_bytes l.all) v []) l.scope)) (drop l.i (texts_of l.names))
