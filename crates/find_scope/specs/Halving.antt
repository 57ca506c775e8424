-- Finding the set of variables that a no answer is about, by halving.
use Rattle.std.specs.Prelude.{ℕ, zero, suc, Bool, true, false, not, List, [], ◌∷◌, length}
use Rattle.assign.specs.Sets.{union, first_half, second_half}

-- it wants a reply about a set, or has got a set and leaves these replies
pub data Halved : Type 0 where
  Wants : List ℕ → Halved
  Got : List ℕ → List Bool → Halved

abbrev pub is_empty : List ℕ → Bool
is_empty [] = true
is_empty (x ∷ xs) = false

-- what comes after, where a set was got
abbrev pub then_got : Halved → (List ℕ → List Bool → Halved) → Halved
then_got (Wants w) next = Wants w
then_got (Got set replies) next = next set replies

-- Without a question where asks is false. A no gives the empty set. A yes goes on.
abbrev pub ask : Bool → List ℕ → List Bool → (List Bool → Halved) → Halved
ask false base replies next = next replies
ask true base [] next = Wants base
ask true base (false ∷ replies) next = Got [] replies
ask true base (true ∷ replies) next = next replies

-- The part of a set that the no answer needs, beside the base. depth bounds the halvings; the set's
-- length is enough.
unfoldable pub halve_within : ℕ → List ℕ → List ℕ → Bool → List Bool → Halved
halve_within depth base [] asks replies = ask asks base replies (Got [])
halve_within depth base (v ∷ []) asks replies = ask asks base replies (Got (v ∷ []))
halve_within zero base (v ∷ w ∷ set) asks replies = ask asks base replies (Got (v ∷ w ∷ set))
halve_within (suc depth) base (v ∷ w ∷ set) asks replies =
    let first : List ℕ = first_half (v ∷ w ∷ set) in
    let second : List ℕ = second_half (v ∷ w ∷ set) in
    ask asks base replies (λ rest.
    then_got (halve_within depth (union base first) second true rest) (λ found left.
    then_got (halve_within depth (union base found) first (not (is_empty found)) left) (λ more last.
    Got (union found more) last)))

-- the halving of a whole set, after these replies
abbrev pub halve : List ℕ → List Bool → Halved
halve set replies = halve_within (length set) [] set false replies
