-- Relations whose names nothing refuses have names, and no two of them are equal.
use Rattle.voc_read.proofs.Prelude.{◌≡◌, ℕ, suc, true, List, [], ◌∷◌, map, All, Option, Some, None, refl, arith, string_bytes, list_all, option_map, is_name, AreNames, given_by, RelPart, RelRepeated, first_repeat, given_names, relation_names_refusal, IsNamed}
use Rattle.voc_read.proofs.NameForms.{apart}

all_named : (parts : List RelPart) → All IsNamed parts → list_all is_name (given_names (map given_by parts)) ≡ true
all_named [] h = refl
all_named (part ∷ parts) h =
    let here : is_name (string_bytes part.name) ≡ true = h 0 part (omega arith) in
    rw here (all_named parts (λ k d within. h (suc k) d (omega arith)))

no_repeat : (pair : Option (ℕ × ℕ)) → option_map (λ p. RelRepeated p.0 p.1) pair ≡ None → pair ≡ None
no_repeat None h = refl
no_repeat (Some p) h = absurd (cc)

pub AreNames-given_names : (parts : List RelPart) → All IsNamed parts → relation_names_refusal (map given_by parts) ≡ None → AreNames (given_names (map given_by parts))
AreNames-given_names parts named accepted = record {
  formed = all_named parts named;
  apart = apart (given_names (map given_by parts)) (no_repeat (first_repeat (given_names (map given_by parts))) accepted);
}
