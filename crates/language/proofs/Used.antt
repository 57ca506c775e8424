-- The arities that relations have.
use Rattle.language.proofs.Prelude.{◌≡◌, ℕ, List, [], ◌∷◌, ◌||◌, map, refl, ap, ◌==◌, if◌then◌else◌, list_any, Given, RelPart, given_by, has_arity, rising_lists}

-- all scopes of an arity, if some relation has it
abbrev pub of_arity : ℕ → List Given → ℕ → List (List ℕ)
of_arity n given arity = if has_arity given arity then rising_lists n arity else []

pub any_given : (arity : ℕ) (parts : List RelPart) → list_any (λ (part : RelPart). part.table.arity == arity) parts ≡ has_arity (map given_by parts) arity
any_given arity [] = refl
any_given arity (part ∷ parts) = ap (λ b. (part.table.arity == arity) || b) (any_given arity parts)
