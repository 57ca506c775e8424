-- Fronts of a text that are added.
use Rattle.target_oracle.proofs.Prelude.{◌≡◌, ◌∙◌, ℕ, List, [], ◌++◌, Option, ap, sym, subst, refl, append_assoc, append-nil, Adds, AddsFront, adds_none, adds_then}

-- nothing of it
pub front_none : (old new : Option (List ℕ)) (text : List ℕ) → new ≡ old → AddsFront old new text
front_none old new text same = let Fronts : Option (List ℕ) → Type 0 = λ o. AddsFront old o text in subst Fronts (sym same) ([], text, refl, adds_none old)

-- all of it
pub front_whole : (old new : Option (List ℕ)) (text : List ℕ) → Adds old new text → AddsFront old new text
front_whole old new text adds = (text, [], sym (append-nil text), adds)

-- where it begins a longer one
pub front_longer : (old new : Option (List ℕ)) (text more : List ℕ) → AddsFront old new text → AddsFront old new (text ++ more)
front_longer old new text more (front, back, parts, adds) = (front, back ++ more, ap (λ x. x ++ more) parts ∙ append_assoc front back more, adds)

-- where another text was added before it
pub front_then : (a b c : Option (List ℕ)) (first text : List ℕ) → Adds a b first → AddsFront b c text → AddsFront a c (first ++ text)
front_then a b c first text adds (front, back, parts, more) = (first ++ front, back, ap (λ x. first ++ x) parts ∙ sym (append_assoc first front back), adds_then a b c first front adds more)
