-- Some relations have one closing, and what is built of the same parts is the same.
use Rattle.language.proofs.Prelude.{◌≡◌, ℕ, zero, suc, ◌<◌, List, [], ◌∷◌, length, map, get_or, refl, sym, ◌∙◌, ap, subst, arith, AllPairs, Contains, both_ways, same_lists, get_or_default, Relation, IsIntersection, IsClosing, pairs_head, pairs_tail, ValueRange, widened, Given, of_arity, given_on, BuiltIsOne}
use Rattle.rel_table.specs.InOrder.{Above}
use Rattle.rel_table.proofs.Falling.{above_above}
use Rattle.rel_table.proofs.Tables.{not_above_itself}

-- ---- lists in falling order

not_itself : (r : Relation) → Above r r → ⊥
not_itself r h = both_ways _ (not_above_itself r) h

-- what stands behind the first one lies below it
below_first : (x : Relation) (xs : List Relation) → AllPairs Above (x ∷ xs) → (z : Relation) → Contains xs z → Above x z
below_first x xs falling z (k, low, is) = subst (Above x) is (pairs_head Above x xs falling k z low)

-- two lists in falling order begin alike where each has what the other has
first_same : (x y : Relation) (xs ys : List Relation) → AllPairs Above (x ∷ xs) → AllPairs Above (y ∷ ys) → Contains (y ∷ ys) x → Contains (x ∷ xs) y → x ≡ y
first_same x y xs ys falling other (zero, low, is) of_xs = sym is
first_same x y xs ys falling other (suc k, low, is) (zero, low', is') = is'
first_same x y xs ys falling other (suc k, low, is) (suc j, low', is') =
    absurd (not_itself x (above_above x y x (below_first x xs falling y (j, omega arith, is')) (below_first y ys other x (k, omega arith, is))))

-- and go on alike
rest_has : (x y z : Relation) (xs ys : List Relation) → x ≡ y → AllPairs Above (x ∷ xs) → Contains xs z → Contains (y ∷ ys) z → Contains ys z
rest_has x y z xs ys same falling has (zero, low, is) = absurd (not_itself x (subst (Above x) (sym is ∙ sym same) (below_first x xs falling z has)))
rest_has x y z xs ys same falling has (suc k, low, is) = (k, omega arith, is)

falling_same : (xs ys : List Relation) → AllPairs Above xs → AllPairs Above ys → ((z : Relation) → Contains xs z → Contains ys z) → ((z : Relation) → Contains ys z → Contains xs z) → xs ≡ ys
falling_same [] [] falling other to back = refl
falling_same [] (y ∷ ys) falling other to back = absurd (let has = back y (zero, omega arith, refl) in let low = has.1 in omega arith)
falling_same (x ∷ xs) [] falling other to back = absurd (let has = to x (zero, omega arith, refl) in let low = has.1 in omega arith)
falling_same (x ∷ xs) (y ∷ ys) falling other to back =
    let first : x ≡ y = first_same x y xs ys falling other (to x (zero, omega arith, refl)) (back y (zero, omega arith, refl)) in
    let rest : xs ≡ ys =
    falling_same xs ys (pairs_tail Above x xs falling) (pairs_tail Above y ys other)
    (λ z has. rest_has x y z xs ys first falling has (to z (behind x xs z has)))
    (λ z has. rest_has y x z ys xs (sym first) other has (back z (behind y ys z has))) in
    λ i. first i ∷ rest i
  where
    behind : (w : Relation) (ws : List Relation) (z : Relation) → Contains ws z → Contains (w ∷ ws) z
    behind w ws z (k, low, is) = (suc k, omega arith, is)

-- ---- closings

-- each relation of a closing is an intersection
is_intersection : (file closed : List Relation) → IsClosing file closed → (z : Relation) → Contains closed z → IsIntersection file z
is_intersection file closed closing z (k, low, is) = subst (IsIntersection file) is (closing.each k z low)

pub one_closing : (file xs ys : List Relation) → IsClosing file xs → IsClosing file ys → xs ≡ ys
one_closing file xs ys closing other =
    falling_same xs ys closing.falling other.falling
    (λ z has. other.every z (is_intersection file xs closing z has))
    (λ z has. closing.every z (is_intersection file ys other z has))

-- ---- languages

-- the vocabulary's relations on a scope, by the fields that they depend on
abbrev given_in : ℕ → List ValueRange → List Given → List (List ℕ) → ℕ → List Given
given_in d ranges given scopes k =
    map (λ (g : Given). record { name = g.name; arity = g.arity; relation = widened ranges d (get_or scopes k []) g.relation })
    (of_arity (length (get_or scopes k [])) given)

pub one_built : BuiltIsOne
one_built frame parts listed l other built again =
    let relations : l.relations ≡ other.relations =
    same_lists l.relations other.relations (built.each ∙ ap length scopes ∙ sym again.each) (λ k d low. same k d (omega (arith, low, built.each))) in
    λ i. record {
      names = (built.names ∙ sym again.names) i;
      least_value = (built.least_value ∙ sym again.least_value) i;
      value_count = values i;
      ranges = ranges i;
      given = given i;
      scopes = scopes i;
      relations = relations i;
    }
  where
    values : l.value_count ≡ other.value_count
    values = built.value_count ∙ sym again.value_count

    ranges : l.ranges ≡ other.ranges
    ranges = built.ranges ∙ sym again.ranges

    given : l.given ≡ other.given
    given = built.given ∙ sym again.given

    scopes : l.scopes ≡ other.scopes
    scopes = built.scopes ∙ sym again.scopes

    on_scope : (k : ℕ) → given_on l k ≡ given_on other k
    on_scope k i = given_in (values i) (ranges i) (given i) (scopes i) k

    same : (k : ℕ) (d : List Relation) → k < length l.scopes → get_or l.relations k d ≡ get_or other.relations k d
    same k d low =
        let there : k < length other.scopes = omega (arith, low, ap length scopes) in
        get_or_default l.relations k d [] (omega (arith, low, built.each))
        ∙ one_closing (map (λ (g : Given). g.relation) (given_on other k)) (get_or l.relations k []) (get_or other.relations k [])
        (subst (λ gs. IsClosing (map (λ (g : Given). g.relation) gs) (get_or l.relations k [])) (on_scope k) (built.lawful.closed k low))
        (again.lawful.closed k there)
        ∙ get_or_default other.relations k [] d (omega (arith, there, again.each))
