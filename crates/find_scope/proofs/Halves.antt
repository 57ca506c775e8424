-- Laws of the halving.
use Rattle.find_scope.proofs.Prelude.{◌≡◌, ℕ, zero, suc, ◌+◌, ◌/◌, ◌≤◌, Bool, true, false, not, List, [], ◌∷◌, length, refl, arith, length-take, length-drop, union, first_half, second_half, Halved, Wants, Got, then_got, ask, is_empty, halve_within, DepthIsEnough}

pub then_got_same : (x y : Halved) (f g : List ℕ → List Bool → Halved) → x ≡ y → ((s : List ℕ) (r : List Bool) → f s r ≡ g s r) → then_got x f ≡ then_got y g
then_got_same x y f g e h = λ i. then_got (e i) (λ s r. h s r i)

ask_same : (asks : Bool) (base : List ℕ) (replies : List Bool) (f g : List Bool → Halved) → ((r : List Bool) → f r ≡ g r) → ask asks base replies f ≡ ask asks base replies g
ask_same asks base replies f g h = λ i. ask asks base replies (λ r. h r i)

pub then_got_assoc : (x : Halved) (f g : List ℕ → List Bool → Halved) → then_got (then_got x f) g ≡ then_got x (λ s r. then_got (f s r) g)
then_got_assoc (Wants w) f g = refl
then_got_assoc (Got s r) f g = refl

-- both halves are shorter
pub first_shorter : (v w : ℕ) (set : List ℕ) → length (first_half (v ∷ w ∷ set)) ≤ suc (length set)
first_shorter v w set = omega (arith, length-take ((length (v ∷ w ∷ set) + 1) / 2) (v ∷ w ∷ set))

pub second_shorter : (v w : ℕ) (set : List ℕ) → length (second_half (v ∷ w ∷ set)) ≤ suc (length set)
second_shorter v w set = omega (arith, length-drop ((length (v ∷ w ∷ set) + 1) / 2) (v ∷ w ∷ set))

pub depth_is_enough : DepthIsEnough
unfolding halve_within
depth_is_enough d e base [] asks replies h k = same_none d e
  where
    same_none : (d e : ℕ) → halve_within d base [] asks replies ≡ halve_within e base [] asks replies
    same_none zero zero = refl
    same_none zero (suc e) = refl
    same_none (suc d) zero = refl
    same_none (suc d) (suc e) = refl
depth_is_enough d e base (v ∷ []) asks replies h k = same_one d e
  where
    same_one : (d e : ℕ) → halve_within d base (v ∷ []) asks replies ≡ halve_within e base (v ∷ []) asks replies
    same_one zero zero = refl
    same_one zero (suc e) = refl
    same_one (suc d) zero = refl
    same_one (suc d) (suc e) = refl
depth_is_enough zero e base (v ∷ w ∷ set) asks replies h k = absurd (omega arith)
depth_is_enough (suc d) zero base (v ∷ w ∷ set) asks replies h k = absurd (omega arith)
depth_is_enough (suc d) (suc e) base (v ∷ w ∷ set) asks replies h k =
    let low : length (first_half (v ∷ w ∷ set)) ≤ suc (length set) = first_shorter v w set in
    let high : length (second_half (v ∷ w ∷ set)) ≤ suc (length set) = second_shorter v w set in
    ask_same asks base replies _ _ (λ rest.
    then_got_same _ _ _ _ (depth_is_enough d e (union base (first_half (v ∷ w ∷ set))) (second_half (v ∷ w ∷ set)) true rest (omega arith) (omega arith)) (λ found left.
    then_got_same _ _ _ _ (depth_is_enough d e (union base found) (first_half (v ∷ w ∷ set)) (not (is_empty found)) left (omega arith) (omega arith)) (λ more last. refl)))

-- ---- a question first

pub asked : (d : ℕ) (base set : List ℕ) (replies : List Bool) → halve_within d base set true replies ≡ ask true base replies (λ r. halve_within d base set false r)
unfolding halve_within
asked zero base [] [] = refl
asked zero base [] (true ∷ replies) = refl
asked zero base [] (false ∷ replies) = refl
asked (suc d) base [] [] = refl
asked (suc d) base [] (true ∷ replies) = refl
asked (suc d) base [] (false ∷ replies) = refl
asked zero base (v ∷ []) [] = refl
asked zero base (v ∷ []) (true ∷ replies) = refl
asked zero base (v ∷ []) (false ∷ replies) = refl
asked (suc d) base (v ∷ []) [] = refl
asked (suc d) base (v ∷ []) (true ∷ replies) = refl
asked (suc d) base (v ∷ []) (false ∷ replies) = refl
asked zero base (v ∷ w ∷ set) [] = refl
asked zero base (v ∷ w ∷ set) (true ∷ replies) = refl
asked zero base (v ∷ w ∷ set) (false ∷ replies) = refl
asked (suc d) base (v ∷ w ∷ set) [] = refl
asked (suc d) base (v ∷ w ∷ set) (true ∷ replies) = refl
asked (suc d) base (v ∷ w ∷ set) (false ∷ replies) = refl
