-- Relations that agree on every tuple are the same.
use Rattle.rel_table.proofs.Prelude.{◌≡◌, ℕ, zero, suc, ◌+◌, ◌*◌, ◌^◌, ◌<◌, Bool, true, false, List, [], ◌∷◌, ◌++◌, length, map, refl, sym, ◌∙◌, ap, arith, inl, inr, ◌⊎◌, pow-suc, AllPairs, slice_index_or, IsTrue, fold, flat_map, range_with_len, list_any, pow-zero, map-append, fill_by_all, cases_order, or_parts, both_ways, Relation, place, holds, tuples, is_above}
use Rattle.std.proofs.lemmas.Simd.{map-map}
use Rattle.shared_lemmas.proofs.Lists.{map-flat_map}

range_append : (a m k : ℕ) → range_with_len a m ++ range_with_len (a + m) k ≡ range_with_len a (m + k)
range_append a zero k = λ i. range_with_len ((let e : a + 0 ≡ a = omega arith in e) i) ((let e : k ≡ 0 + k = omega arith in e) i)
range_append a (suc m) k =
    (λ i. a ∷ (range_with_len (a + 1) m ++ range_with_len ((let e : a + suc m ≡ (a + 1) + m = omega arith in e) i) k))
    ∙ ap (λ xs. a ∷ xs) (range_append (a + 1) m k) ∙ ap (range_with_len a) (let e : suc (m + k) ≡ suc m + k = omega arith in e)

flat_map_same : {X Y : Type 0} (f g : X → List Y) (xs : List X) → ((x : X) → f x ≡ g x) → flat_map f xs ≡ flat_map g xs
flat_map_same f g [] h = refl
flat_map_same f g (x ∷ xs) h = λ i. h x i ++ flat_map_same f g xs h i

blocks : (b m i n : ℕ) → flat_map (λ x. range_with_len ((b + x) * m) m) (range_with_len i n) ≡ range_with_len ((b + i) * m) (n * m)
blocks b m i zero = ap (range_with_len ((b + i) * m)) (let e : 0 ≡ 0 * m = omega arith in e)
blocks b m i (suc n) =
    ap (λ ys. range_with_len ((b + i) * m) m ++ ys) (blocks b m (i + 1) n ∙ (λ j. range_with_len ((let e : (b + (i + 1)) * m ≡ (b + i) * m + m = omega arith in e) j) (n * m)))
    ∙ range_append ((b + i) * m) m (n * m) ∙ ap (range_with_len ((b + i) * m)) (let e : m + n * m ≡ suc n * m = omega arith in e)

regroup : (s d m : ℕ) → (s * d + 0) * m ≡ s * (m * d)
regroup s d m = omega arith

pub places_from : (d a start : ℕ) → map (λ u. fold (λ at x. at * d + x) start u) (tuples d a) ≡ range_with_len (start * d ^ a) (d ^ a)
places_from d zero start =
    let one_value : d ^ 0 ≡ 1 = pow-zero d in
    λ i. range_with_len (sym (ap (λ x. start * x) one_value ∙ (let e : start * 1 ≡ start = omega arith in e)) i) (sym one_value i)
places_from d (suc a) start =
    map-flat_map (λ u. fold (λ at x. at * d + x) start u) (λ x. map (λ u. x ∷ u) (tuples d a)) (range_with_len 0 d)
    ∙ flat_map_same _ (λ x. range_with_len ((start * d + x) * d ^ a) (d ^ a)) (range_with_len 0 d)
    (λ x. map-map (λ u. fold (λ at y. at * d + y) start u) (λ u. x ∷ u) (tuples d a) ∙ places_from d a (start * d + x))
    ∙ blocks (start * d) (d ^ a) 0 d
    ∙ (λ i. range_with_len ((regroup start d (d ^ a) ∙ ap (λ x. start * x) (sym (pow-suc d a))) i) ((let e : d * d ^ a ≡ d ^ suc a = omega (arith, pow-suc d a) in e) i))

table_is : (d a : ℕ) (r : Relation) → length r ≡ d ^ a → map (holds d r) (tuples d a) ≡ r
table_is d a r h =
    sym (map-map (λ k. slice_index_or r k false) (place d) (tuples d a))
    ∙ ap (map (λ k. slice_index_or r k false)) (places_from d a 0 ∙ (λ i. range_with_len ((let e : 0 * d ^ a ≡ 0 = omega arith in e) i) (d ^ a)))
    ∙ sym (fill_by_all (λ k. slice_index_or r k false) r (d ^ a) false h (λ k low. refl))

map_agree_where : (t : List ℕ → Bool) (f g : List ℕ → Bool) (us : List (List ℕ)) → list_any t us ≡ false → ((u : List ℕ) → t u ≡ false → f u ≡ g u) → map f us ≡ map g us
map_agree_where t f g [] none h = refl
map_agree_where t f g (u ∷ us) none h = let parts = or_parts (t u) (list_any t us) none in λ i. h u parts.0 i ∷ map_agree_where t f g us parts.1 h i

-- relations that no tuple of a test tells apart are the same
pub same_table : (d a : ℕ) (r q : Relation) (t : List ℕ → Bool) → length r ≡ d ^ a → length q ≡ d ^ a → list_any t (tuples d a) ≡ false → ((u : List ℕ) → t u ≡ false → holds d r u ≡ holds d q u) → r ≡ q
same_table d a r q t h k none agree = sym (table_is d a r h) ∙ map_agree_where t (holds d r) (holds d q) (tuples d a) none agree ∙ table_is d a q k

pub not_above_itself : (r : Relation) → is_above r r ≡ false
not_above_itself [] = refl
not_above_itself (true ∷ r) = not_above_itself r
not_above_itself (false ∷ r) = not_above_itself r

-- in falling order the same relation has one number
pub one_number : (rels : List Relation) (i j : ℕ) → AllPairs (λ r q. IsTrue (is_above r q)) rels → i < length rels → j < length rels → slice_index_or rels i [] ≡ slice_index_or rels j [] → i ≡ j
one_number rels i j falling low high same = go (cases_order i j)
  where
    go : (i ≡ j) ⊎ ((i < j) ⊎ (j < i)) → i ≡ j
    go (inl e) = e
    go (inr (inl below)) = absurd (both_ways _ (not_above_itself (slice_index_or rels j [])) (ap (λ r. is_above r (slice_index_or rels j [])) (sym same) ∙ falling i j [] below high))
    go (inr (inr above)) = absurd (both_ways _ (not_above_itself (slice_index_or rels i [])) (ap (λ r. is_above r (slice_index_or rels i [])) same ∙ falling j i [] above low))
