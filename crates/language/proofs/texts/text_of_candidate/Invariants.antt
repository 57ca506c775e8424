use Rattle.language.proofs.Prelude.{length, ◌≡◌, ◌++◌, drop, map, ◌∷◌, [], ℕ, string_bytes, slice_index_or, flat_map, widened, joined}
use Rattle.language.proofs.Wording.{names_of}
use Rattle.language.proofs.texts.text_of_candidate.Given as goal

abbrev pub invariant-loop-v : goal.invariant-loop-v
invariant-loop-v l =
    joined 38 (names_of (widened l.ranges l.table.value_count l.scope) (length l.scope) (widened l.ranges l.table.value_count l.scope l.table.truth) l.given) ++ flat_map (λ name. 32 ∷ name) (map (λ (v : ℕ). slice_index_or (map string_bytes l.names) v []) l.scope)
    ≡ string_bytes l.text ++ flat_map (λ name. 32 ∷ name) (map (λ (v : ℕ). slice_index_or (map string_bytes l.names) v []) (drop l.v-index l.scope))
