use Rattle.rel_table.proofs.Prelude.{◌≡◌, ◌≢◌, ℕ, suc, ◌+◌, ◌<◌, List, [], ◌∷◌, Bool, true, false, ◌||◌, length, get_or, take, drop, set, ap, sym, ◌∙◌, refl, arith, ℤ, Option, Some, None, nat_eq, zero, Vec, get_or-set_same, inl, inr, length-set, common_steps, cases_eq, drop-cons, list_any, Global, lists, first_fault, tuple_fault, Marks, place_of_shown}
use Rattle.std.proofs.lemmas.List.Folds.{list_any_more}
use Rattle.std.specs.Option.{option_or}
use Rattle.rel_table.specs.declared.table.TableFault.{TableFault}

pub fault_more : (a : ℕ) (lo : ℤ) (d i : ℕ) (tuples : List (List ℤ)) → i < length tuples → first_fault a lo d i (drop i tuples) ≡ option_or (tuple_fault a lo d i (get_or tuples i [])) (first_fault a lo d (i + 1) (drop (i + 1) tuples))
fault_more a lo d i tuples lt = rw (drop-cons tuples i [] lt) (let e : suc i ≡ i + 1 = omega arith in ap (λ k. option_or (tuple_fault a lo d i (get_or tuples i [])) (first_fault a lo d (i + 1) (drop k tuples))) e)

mark_same : (truth : List Bool) (place p q : ℕ) (b c : Bool) → place ≡ p → place < length truth → q ≡ place → c ≡ (b || nat_eq q p) → get_or (set truth place true) p false ≡ c
mark_same truth place p q b c same within e more = grind (arith, common_steps, get_or-set_same)

mark_other : (truth : List Bool) (place p q : ℕ) (b c : Bool) → place ≢ p → q ≡ place → get_or truth p false ≡ b → c ≡ (b || nat_eq q p) → get_or (set truth place true) p false ≡ c
mark_other truth place p q b c other e old more = grind (arith, common_steps)

-- marking the next tuple's place
pub mark_more : (lo : ℤ) (d i place : ℕ) (tuples : List (List ℤ)) (truth : List Bool) → i < length tuples → place ≡ place_of_shown lo d (get_or tuples i []) → place < length truth → Marks lo d (take i tuples) truth → Marks lo d (take (i + 1) tuples) (set truth place true)
mark_more lo d i place tuples truth lt e within h p below =
    let more = list_any_more (λ tuple. nat_eq (place_of_shown lo d tuple) p) tuples i [] lt in
    let long : length (set truth place true) ≡ length truth = length-set truth place true in
    let old : get_or truth p false ≡ list_any (λ tuple. nat_eq (place_of_shown lo d tuple) p) (take i tuples) = h p (omega (arith, long)) in
    elim (cases_eq place p) [
      | inl same ↦ mark_same truth place p _ _ _ same within (sym e) more
      | inr other ↦ mark_other truth place p _ _ _ other (sym e) old more
    ]

-- the vector at a place of the list of lists
pub lists_at : (vs : List (Vec ℤ Global)) (i : ℕ) (v : Vec ℤ Global) → i < length vs → v ≡ get_or vs i v → get_or (lists vs) i [] ≡ v.items
lists_at [] i v lt e = absurd (omega arith)
lists_at (w ∷ vs) zero v lt e = ap (λ (u : Vec ℤ Global). u.items) (sym e)
lists_at (w ∷ vs) (suc i) v lt e = lists_at vs i v (omega arith) e

pub length-lists : (vs : List (Vec ℤ Global)) → length (lists vs) ≡ length vs
length-lists [] = refl
length-lists (v ∷ vs) = ap suc (length-lists vs)

-- the first fault is that of tuple i, or is among the rest
pub fault_here : (a : ℕ) (lo : ℤ) (d i : ℕ) (tuples : List (List ℤ)) (tuple now : List ℤ) (w told : Option TableFault) (f : TableFault) → i < length tuples → get_or tuples i [] ≡ tuple → now ≡ tuple → first_fault a lo d i (drop i tuples) ≡ w → told ≡ tuple_fault a lo d i now → told ≡ Some f → Some f ≡ w
fault_here a lo d i tuples tuple now w told f lt at same rest is some =
    let g : tuple_fault a lo d i (get_or tuples i []) ≡ Some f = ap (tuple_fault a lo d i) (at ∙ sym same) ∙ sym is ∙ some in
    sym (ap (λ o. option_or o (first_fault a lo d (i + 1) (drop (i + 1) tuples))) g) ∙ sym (fault_more a lo d i tuples lt) ∙ rest

pub fault_next : (a : ℕ) (lo : ℤ) (d i : ℕ) (tuples : List (List ℤ)) (tuple now : List ℤ) (w told : Option TableFault) → i < length tuples → get_or tuples i [] ≡ tuple → now ≡ tuple → first_fault a lo d i (drop i tuples) ≡ w → told ≡ tuple_fault a lo d i now → told ≡ None → first_fault a lo d (i + 1) (drop (i + 1) tuples) ≡ w
fault_next a lo d i tuples tuple now w told lt at same rest is none =
    let g : tuple_fault a lo d i (get_or tuples i []) ≡ None = ap (tuple_fault a lo d i) (at ∙ sym same) ∙ sym is ∙ none in
    sym (ap (λ o. option_or o (first_fault a lo d (i + 1) (drop (i + 1) tuples))) g) ∙ sym (fault_more a lo d i tuples lt) ∙ rest

-- a tuple without a fault has the arity
pub long_tuple : (a : ℕ) (lo : ℤ) (d i : ℕ) (tuple : List ℤ) → tuple_fault a lo d i tuple ≡ None → length tuple ≡ a
long_tuple a lo d i tuple h = grind (arith, common_steps, h)
