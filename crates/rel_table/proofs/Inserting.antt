-- A table's place among tables in falling order.
use Rattle.rel_table.proofs.Prelude.{◌≡◌, ℕ, zero, ◌+◌, ◌<◌, ◌≤◌, Bool, true, false, cond, nat_eq, List, [], ◌∷◌, ◌++◌, length, map, take, drop, sym, ◌∙◌, ap, subst, arith, refl, ◌⊎◌, inl, inr, slice_index_or, All, AllPairs, Contains, IsTrue, insert, drop-cons, both_ways, eq-eqb, ne_eqb, get_or-map, length-map, map-append, take-append-drop, take_all, take_more, append_assoc, append-nil, filter, take-map, drop-map, length-insert, All-map, All-nil, All-cons, All-append, All-push, All-take, All-drop, All-weaker, All-more, All-contains_itself, filter_more, filter-append, Contains-append_left, Contains-append_right, Contains-append_cases, Contains-push, AllPairs-cons, Relation, is_above, meet, TruthTable, IsTable, Above, IsBelow, IsInOrder, Overflows, relations_in, relations_of, IsOfKind}
use Rattle.rel_table.proofs.Same.{same_table_value}
use Rattle.rel_table.proofs.Pairwise.{pairs_head, pairs_join, IsSplit, pairs_split}
use Rattle.rel_table.proofs.Falling.{other_above, above_above}

-- the next table is above
pub one_above : (ordered : List TruthTable) (table here : TruthTable) (at : ℕ) (same : Bool) → at < length ordered → here ≡ slice_index_or ordered at here →
    All (IsOfKind table.arity table.value_count) ordered → IsTable table → same ≡ false → (here ≡ table → IsTrue same) → is_above table.truth here.truth ≡ false →
    All (λ (t : TruthTable). IsTrue (is_above t.truth table.truth)) (take at ordered) → All (λ (t : TruthTable). IsTrue (is_above t.truth table.truth)) (take (at + 1) ordered)
one_above ordered table here at same low is kinds lawful other apart not_above before =
    let kind : IsOfKind table.arity table.value_count here = subst (IsOfKind table.arity table.value_count) (sym is) (kinds at here low) in
    let long : length table.truth ≡ length here.truth = lawful.each ∙ sym kind.size in
    let differ = λ (e : table.truth ≡ here.truth). both_ways same other (apart (same_table_value here table kind.long kind.values (sym e))) in
    let above : is_above here.truth table.truth ≡ true = other_above table.truth here.truth long differ not_above in
    All-more (λ (t : TruthTable). IsTrue (is_above t.truth table.truth)) ordered at here low before
    (subst (λ (t : TruthTable). is_above t.truth table.truth ≡ true) is above)

pub below_here : (ordered : List TruthTable) (r : Relation) (here : TruthTable) (at : ℕ) → at < length ordered → here ≡ slice_index_or ordered at here → is_above r here.truth ≡ true →
    IsBelow r (drop at (relations_in ordered))
below_here ordered r here at low is above =
    let low_relation : at < length (relations_in ordered) = omega (arith, low, length-map ordered (λ (t : TruthTable). t.truth)) in
    let same : slice_index_or (relations_in ordered) at [] ≡ here.truth = get_or-map (λ (t : TruthTable). t.truth) ordered at here [] low ∙ ap (λ (t : TruthTable). t.truth) (sym is) in
    subst (IsBelow r) (sym (drop-cons (relations_in ordered) at [] low_relation)) (subst (λ q. is_above r q ≡ true) (sym same) above)

-- ---- One relation more

below_all : (r : Relation) (relations : List Relation) → AllPairs Above relations → IsBelow r relations → All (Above r) relations
below_all r [] falling below = All-nil (Above r)
below_all r (q ∷ relations) falling below =
    All-cons (Above r) q relations below (λ k d low. above_above r q (slice_index_or relations k d) below (pairs_head Above q relations falling k d low))

pub stays : (relations ordered : List Relation) (r : Relation) → IsInOrder relations ordered → Contains ordered r → IsInOrder (relations ++ r ∷ []) ordered
stays relations ordered r order there = record {
  each = All-weaker (Contains relations) (Contains (relations ++ r ∷ [])) (λ q. Contains-append_left relations (r ∷ []) q) ordered order.each;
  every = All-push (Contains ordered) relations r order.every there;
  falling = order.falling;
}

pub goes_in : (relations ordered : List Relation) (r : Relation) (at : ℕ) → IsInOrder relations ordered → at ≤ length ordered →
    All (λ q. Above q r) (take at ordered) → IsBelow r (drop at ordered) → IsInOrder (relations ++ r ∷ []) (insert ordered at r)
goes_in relations ordered r at order low before below = record {
  each = All-append (Contains more) (take at ordered) (r ∷ drop at ordered) (All-take (Contains more) at ordered each)
      (All-cons (Contains more) r (drop at ordered) (Contains-push relations r) (All-drop (Contains more) at ordered each));
  every = All-push (Contains (insert ordered at r)) relations r (All-weaker (Contains ordered) (Contains (insert ordered at r)) kept relations order.every)
      (Contains-append_right (take at ordered) (r ∷ drop at ordered) r (zero, omega arith, refl));
  falling = pairs_join Above (take at ordered) (r ∷ drop at ordered) split.left (AllPairs-cons Above r (drop at ordered) after split.right)
      (λ k d in_take. All-cons (Above (slice_index_or (take at ordered) k d)) r (drop at ordered) (before k d in_take) (split.across k d in_take));
}
  where
    more : List Relation
    more = relations ++ r ∷ []

    split : IsSplit Above (take at ordered) (drop at ordered)
    split = pairs_split Above ordered at order.falling

    after : All (Above r) (drop at ordered)
    after = below_all r (drop at ordered) split.right below

    each : All (Contains more) ordered
    each = All-weaker (Contains relations) (Contains more) (λ q. Contains-append_left relations (r ∷ []) q) ordered order.each

    parts : (q : Relation) → Contains ordered q → Contains (take at ordered) q ⊎ Contains (drop at ordered) q
    parts q has = Contains-append_cases (take at ordered) (drop at ordered) q (subst (λ rs. Contains rs q) (sym (take-append-drop at ordered)) has)

    kept : (q : Relation) → Contains ordered q → Contains (insert ordered at r) q
    kept q has = go (parts q has)
      where
        go : Contains (take at ordered) q ⊎ Contains (drop at ordered) q → Contains (insert ordered at r) q
        go (inl left) = Contains-append_left (take at ordered) (r ∷ drop at ordered) q left
        go (inr right) = Contains-append_right (take at ordered) (r ∷ drop at ordered) q (Contains-append_right (r ∷ []) (drop at ordered) q right)

pub meet_itself : (r : Relation) → meet r r ≡ r
meet_itself [] = refl
meet_itself (true ∷ r) = ap (λ q. true ∷ q) (meet_itself r)
meet_itself (false ∷ r) = ap (λ q. false ∷ q) (meet_itself r)

-- the tables with one more stand for the relations with one more
relations_in-insert : (tables : List TruthTable) (at : ℕ) (table : TruthTable) → relations_in (insert tables at table) ≡ insert (relations_in tables) at table.truth
relations_in-insert tables at table =
    map-append (λ (t : TruthTable). t.truth) (take at tables) (table ∷ drop at tables)
    ∙ (λ i. sym (take-map (λ (t : TruthTable). t.truth) at tables) i ++ table.truth ∷ sym (drop-map (λ (t : TruthTable). t.truth) at tables) i)

pub put_in : (relations : List Relation) (lent ordered after : List TruthTable) (r : Relation) (at : ℕ) (copy : TruthTable) → lent ≡ ordered → IsInOrder relations (relations_in ordered) →
    after ≡ insert ordered at copy → copy.truth ≡ meet r r → at ≤ length lent → All (λ (t : TruthTable). IsTrue (is_above t.truth r)) (take at lent) →
    IsBelow r (drop at (relations_in lent)) → IsInOrder (relations ++ r ∷ []) (relations_in after)
put_in relations lent ordered after r at copy lent_is order is same low before below =
    let whole : relations_in after ≡ insert (relations_in lent) at r =
    ap relations_in (is ∙ ap (λ xs. insert xs at copy) (sym lent_is)) ∙ relations_in-insert lent at copy ∙ ap (insert (relations_in lent) at) (same ∙ meet_itself r) in
    subst (IsInOrder (relations ++ r ∷ [])) (sym whole)
    (goes_in relations (relations_in lent) r at (subst (λ xs. IsInOrder relations (relations_in xs)) (sym lent_is) order) (omega (arith, low, length-map lent (λ (t : TruthTable). t.truth)))
    (subst (All (λ q. Above q r)) (sym (take-map (λ (t : TruthTable). t.truth) at lent)) (All-map (λ q. Above q r) (λ (t : TruthTable). t.truth) (take at lent) before)) below)

-- a 65th relation
pub one_too_many : (relations : List Relation) (lent ordered : List TruthTable) (r : Relation) (at : ℕ) → lent ≡ ordered → IsInOrder relations (relations_in ordered) → length ordered ≡ 64 → at ≤ length lent →
    All (λ (t : TruthTable). IsTrue (is_above t.truth r)) (take at lent) → IsBelow r (drop at (relations_in lent)) → Overflows (relations ++ r ∷ [])
one_too_many relations lent ordered r at lent_is order full low before below =
    let place : at ≤ length (relations_in lent) = omega (arith, low, length-map lent (λ (t : TruthTable). t.truth)) in
    let long : length (relations_in lent) ≡ 64 = length-map lent (λ (t : TruthTable). t.truth) ∙ ap length lent_is ∙ full in
    let more = goes_in relations (relations_in lent) r at (subst (λ xs. IsInOrder relations (relations_in xs)) (sym lent_is) order) place
    (subst (All (λ q. Above q r)) (sym (take-map (λ (t : TruthTable). t.truth) at lent)) (All-map (λ q. Above q r) (λ (t : TruthTable). t.truth) (take at lent) before)) below in
    record {
      some = insert (relations_in lent) at r;
      many = omega (arith, length-insert (relations_in lent) at r place, long);
      each = more.each;
      falling = more.falling;
    }

-- ---- Lists of tables, one after another

-- the meets of all, and the table itself
pub meets_done : (closed meets whole : List TruthTable) (n : ℕ) (t : Relation) (copy : TruthTable) → length closed ≤ n → relations_in meets ≡ map (λ r. meet r t) (relations_in (take n closed)) → copy.truth ≡ meet t t →
    whole ≡ meets ++ copy ∷ [] → relations_in whole ≡ map (λ r. meet r t) (relations_in closed) ++ t ∷ []
meets_done closed meets whole n t copy all so_far same is =
    ap relations_in is
    ∙ map-append (λ (u : TruthTable). u.truth) meets (copy ∷ [])
    ∙ (λ i. (so_far ∙ ap (λ xs. map (λ r. meet r t) (relations_in xs)) (take_all n closed all)) i ++ (same ∙ meet_itself t) i ∷ [])

-- one more table's relation
pub relations_more : (relations : List Relation) (tables : List TruthTable) (i : ℕ) (t : TruthTable) → i < length tables → t ≡ slice_index_or tables i t →
    relations ++ relations_in (take (i + 1) tables) ≡ (relations ++ relations_in (take i tables)) ++ t.truth ∷ []
relations_more relations tables i t low is =
    ap (λ xs. relations ++ relations_in xs) (take_more tables i t low ∙ ap (λ (u : TruthTable). take i tables ++ u ∷ []) (sym is))
    ∙ ap (λ rs. relations ++ rs) (map-append (λ (u : TruthTable). u.truth) (take i tables) (t ∷ []))
    ∙ sym (append_assoc relations (relations_in (take i tables)) (t.truth ∷ []))

pub taken : (tables : List TruthTable) (n : ℕ) (q : Relation) → Contains (relations_in (take n tables)) q → Contains (relations_in tables) q
taken tables n q has =
    subst (λ xs. Contains (relations_in xs) q) (take-append-drop n tables)
    (subst (λ rs. Contains rs q) (sym (map-append (λ (u : TruthTable). u.truth) (take n tables) (drop n tables)))
    (Contains-append_left (relations_in (take n tables)) (relations_in (drop n tables)) q has))

pub in_order_alone : (ordered : List Relation) → AllPairs Above ordered → IsInOrder ordered ordered
in_order_alone ordered falling = record { each = All-contains_itself ordered; every = All-contains_itself ordered; falling = falling }

-- ---- The tables of one arity

pub of_more : (arity : ℕ) (tables : List TruthTable) (i : ℕ) (t : TruthTable) → i < length tables → t ≡ slice_index_or tables i t → t.arity ≡ arity →
    relations_of arity (take (i + 1) tables) ≡ relations_of arity (take i tables) ++ t.truth ∷ []
of_more arity tables i t low is same =
    ap relations_in (filter_more (λ (u : TruthTable). nat_eq u.arity arity) tables i t low
    ∙ ap (λ (u : TruthTable). filter (λ (v : TruthTable). nat_eq v.arity arity) (take i tables) ++ cond (nat_eq u.arity arity) (u ∷ []) []) (sym is)
    ∙ ap (λ b. filter (λ (v : TruthTable). nat_eq v.arity arity) (take i tables) ++ cond b (t ∷ []) []) (eq-eqb t.arity arity same))
    ∙ map-append (λ (u : TruthTable). u.truth) (filter (λ (v : TruthTable). nat_eq v.arity arity) (take i tables)) (t ∷ [])

pub of_no_more : (arity : ℕ) (tables : List TruthTable) (i : ℕ) (t : TruthTable) → i < length tables → t ≡ slice_index_or tables i t → (t.arity ≡ arity → ⊥) →
    relations_of arity (take (i + 1) tables) ≡ relations_of arity (take i tables)
of_no_more arity tables i t low is other =
    ap relations_in (filter_more (λ (u : TruthTable). nat_eq u.arity arity) tables i t low
    ∙ ap (λ (u : TruthTable). filter (λ (v : TruthTable). nat_eq v.arity arity) (take i tables) ++ cond (nat_eq u.arity arity) (u ∷ []) []) (sym is)
    ∙ ap (λ b. filter (λ (v : TruthTable). nat_eq v.arity arity) (take i tables) ++ cond b (t ∷ []) []) (ne_eqb t.arity arity other)
    ∙ append-nil (filter (λ (v : TruthTable). nat_eq v.arity arity) (take i tables)))

pub of_taken : (arity : ℕ) (tables : List TruthTable) (n : ℕ) (q : Relation) → Contains (relations_of arity (take n tables)) q → Contains (relations_of arity tables) q
of_taken arity tables n q has =
    let p = λ (u : TruthTable). nat_eq u.arity arity in
    subst (λ xs. Contains (relations_of arity xs) q) (take-append-drop n tables)
    (subst (λ rs. Contains rs q) (sym (ap relations_in (filter-append p (take n tables) (drop n tables)) ∙ map-append (λ (u : TruthTable). u.truth) (filter p (take n tables)) (filter p (drop n tables))))
    (Contains-append_left (relations_of arity (take n tables)) (relations_of arity (drop n tables)) q has))
