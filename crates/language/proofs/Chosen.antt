-- The tables of the relations on a scope, found by relations that are cut down to the ranges.
use Rattle.language.proofs.Prelude.{◌≡◌, ◌≢◌, ℕ, ◌+◌, ◌^◌, ◌<◌, ◌≤◌, Bool, true, false, cond, List, [], ◌∷◌, ◌++◌, length, map, take, get_or, refl, sym, ◌∙◌, ap, subst, arith, ◌⊎◌, inl, inr, All, Contains, ◌==◌, filter, range_with_len, cases_eq, eq-eqb, ne_eqb, same_lists, get_or-map, length-map, take_more, map-append, get_or_default, append-nil, length-range_with_len, get_or-map-range_with_len, one_given, All-nil, All-head, All-tail, Relation, meet, IsIntersection, IsClosing, TruthTable, relations_of, IsClosed, HasTooMany, IsRefused, TooMany, same_table_value, RelPart, ValueRange, Given, range_in, widened, inside, IsWhole, relations_given, relations_of_arity, given_by, truths, chosen_on, IsClosedOf, AreChosen, given_at}
use Rattle.language.proofs.Lists.{filter_all, filter_none, all_below}
use Rattle.language.proofs.Within.{widened_where_whole}
use Rattle.language.proofs.Widening.{over, under, widened-over, under-meet, intersection_of, not_more, closing_over}

-- ---- the vocabulary's relations of an arity, one after another

of_arity-append : (parts : List RelPart) (part : RelPart) (arity : ℕ) →
    relations_of_arity (map given_by (parts ++ part ∷ [])) arity ≡ relations_of_arity (map given_by parts) arity ++ cond (part.table.arity == arity) (part.table.truth ∷ []) []
of_arity-append [] part arity = go (part.table.arity == arity)
  where
    go : (b : Bool) → relations_given (cond b (given_by part ∷ []) []) ≡ cond b (part.table.truth ∷ []) []
    go true = refl
    go false = refl
of_arity-append (first ∷ parts) part arity = go (first.table.arity == arity) (of_arity-append parts part arity)
  where
    go : (b : Bool) → relations_of_arity (map given_by (parts ++ part ∷ [])) arity ≡ relations_of_arity (map given_by parts) arity ++ cond (part.table.arity == arity) (part.table.truth ∷ []) [] →
        relations_given (cond b (given_by first ∷ filter (λ (g : Given). g.arity == arity) (map given_by (parts ++ part ∷ []))) (filter (λ (g : Given). g.arity == arity) (map given_by (parts ++ part ∷ []))))
        ≡ relations_given (cond b (given_by first ∷ filter (λ (g : Given). g.arity == arity) (map given_by parts)) (filter (λ (g : Given). g.arity == arity) (map given_by parts)))
        ++ cond (part.table.arity == arity) (part.table.truth ∷ []) []
    go true rest = ap (λ rs. first.table.truth ∷ rs) rest
    go false rest = rest

of_arity-more : (parts : List RelPart) (i : ℕ) (part : RelPart) (arity : ℕ) (b : Bool) → i < length parts → part ≡ get_or parts i part → (part.table.arity == arity) ≡ b →
    relations_of_arity (map given_by (take (i + 1) parts)) arity ≡ relations_of_arity (map given_by (take i parts)) arity ++ cond b (part.table.truth ∷ []) []
of_arity-more parts i part arity b low is test =
    ap (λ ps. relations_of_arity (map given_by ps) arity) (take_more parts i part low ∙ (λ j. take i parts ++ sym is j ∷ []))
    ∙ of_arity-append (take i parts) part arity
    ∙ ap (λ b. relations_of_arity (map given_by (take i parts)) arity ++ cond b (part.table.truth ∷ []) []) test

-- one more is cut, where it has the arity
pub one_cut : (mask : Relation) (parts : List RelPart) (i : ℕ) (part : RelPart) (arity : ℕ) (tables after : List TruthTable) (table : TruthTable) → i < length parts → part ≡ get_or parts i part →
    part.table.arity ≡ arity → after ≡ tables ++ table ∷ [] → table.truth ≡ meet part.table.truth mask →
    truths tables ≡ map (under mask) (relations_of_arity (map given_by (take i parts)) arity) → truths after ≡ map (under mask) (relations_of_arity (map given_by (take (i + 1) parts)) arity)
one_cut mask parts i part arity tables after table low is same pushed truth so_far =
    ap truths pushed
    ∙ map-append (λ (t : TruthTable). t.truth) tables (table ∷ [])
    ∙ (λ j. so_far j ++ truth j ∷ [])
    ∙ sym (map-append (under mask) (relations_of_arity (map given_by (take i parts)) arity) (part.table.truth ∷ []))
    ∙ ap (map (under mask)) (sym (of_arity-more parts i part arity true low is (eq-eqb part.table.arity arity same)))

pub none_cut : (mask : Relation) (parts : List RelPart) (i : ℕ) (part : RelPart) (arity : ℕ) (tables : List TruthTable) → i < length parts → part ≡ get_or parts i part → part.table.arity ≢ arity →
    truths tables ≡ map (under mask) (relations_of_arity (map given_by (take i parts)) arity) → truths tables ≡ map (under mask) (relations_of_arity (map given_by (take (i + 1) parts)) arity)
none_cut mask parts i part arity tables low is other so_far =
    so_far
    ∙ ap (map (under mask)) (sym (of_arity-more parts i part arity false low is (ne_eqb part.table.arity arity other) ∙ append-nil (relations_of_arity (map given_by (take i parts)) arity)))

-- ---- the relations that differ within a mask

none_given : (q : Relation) → IsIntersection [] q → ⊥
none_given q is = let low = is.first_given.1 in omega arith

-- how many values the first table is over
abbrev pub values_in : List TruthTable → ℕ
values_in [] = 0
values_in (t ∷ file) = t.value_count

pub same_over : (d : ℕ) (file : List TruthTable) → All (λ (t : TruthTable). t.value_count ≡ d) file → All (λ (t : TruthTable). t.value_count ≡ values_in file) file
same_over d [] over = All-nil (λ (t : TruthTable). t.value_count ≡ 0)
same_over d (t ∷ file) over = λ k u low. over k u low ∙ sym (All-head (λ (t : TruthTable). t.value_count ≡ d) t file over)

pub closed_over : (d arity : ℕ) (file closed : List TruthTable) → All (λ (t : TruthTable). t.value_count ≡ d) file → IsClosed arity (values_in file) file closed → IsClosed arity d file closed
closed_over d arity [] closed over is = record {
  closing = is.closing;
  kinds = λ k t low. absurd (none_given (get_or (truths closed) k []) (is.closing.each k [] (omega (arith, low, length-map closed (λ (t : TruthTable). t.truth)))));
  few = is.few;
}
closed_over d arity (t ∷ file) closed over is = subst (λ (n : ℕ). IsClosed arity n (t ∷ file) closed) (All-head (λ (t : TruthTable). t.value_count ≡ d) t file over) is

module _ (d arity : ℕ) (mask : Relation) (given : List Given) (tables : List TruthTable) (closed_of : IsClosedOf d arity given tables)
    (file : List TruthTable) (file_are : truths file ≡ map (under mask) (relations_of_arity given arity)) (file_arity : All (λ (t : TruthTable). t.arity ≡ arity) file) where
  of_file : relations_of arity file ≡ map (under mask) (relations_of_arity given arity)
  of_file = ap truths (filter_all (λ (t : TruthTable). t.arity == arity) file (λ k t low. eq-eqb _ _ (file_arity k t low))) ∙ file_are

  of_others : (other : ℕ) → arity ≢ other → relations_of other file ≡ []
  of_others other differ = ap truths (filter_none (λ (t : TruthTable). t.arity == other) file (λ k t low. ne_eqb _ _ (λ e. differ (sym (file_arity k t low) ∙ e))))

  few_truths : length (truths tables) ≤ 64
  few_truths = let few = closed_of.few in omega (arith, few, length-map tables (λ (t : TruthTable). t.truth))

  -- there are no more than there are tables
  pub never_many : (other : ℕ) → IsRefused file (TooMany other) → ⊥
  never_many other refused = go (cases_eq arity other)
    where
      go : (arity ≡ other) ⊎ (arity ≢ other) → ⊥
      go (inl same) = not_more (under mask) (under-meet mask) (relations_of_arity given arity) (truths tables) closed_of.closing few_truths
          (subst HasTooMany of_file (subst (λ (n : ℕ). HasTooMany (relations_of n file)) (sym same) refused.many))
      go (inr differ) =
          let many = subst HasTooMany (of_others other differ) refused.many in
          let more = many.many in
          none_given (get_or many.some 0 []) (many.each 0 [] (omega (arith, more)))

  module _ (closed : List TruthTable) (is_closed : IsClosed arity d file closed) where
    closing : IsClosing (map (under mask) (relations_of_arity given arity)) (truths closed)
    closing = subst (λ rs. IsClosing rs (truths closed)) of_file is_closed.closing

    -- each is one of the tables, cut
    pub found : (cut : List TruthTable) → truths cut ≡ map (under mask) (truths tables) → All (λ (t : TruthTable). t.arity ≡ arity) cut → All (λ (t : TruthTable). t.value_count ≡ d) cut → All (Contains cut) closed
    found cut cut_are cut_arity cut_values k default low =
        let table : TruthTable = get_or closed k default in
        let truth_low : k < length (truths closed) = omega (arith, low, length-map closed (λ (t : TruthTable). t.truth)) in
        let at : get_or (truths closed) k [] ≡ table.truth = get_or-map (λ (t : TruthTable). t.truth) closed k default [] low in
        let source = intersection_of (under mask) (under-meet mask) (relations_of_arity given arity) (get_or (truths closed) k []) (closing.each k [] truth_low) in
        let has = closed_of.closing.every source.of source.intersection in
        let number : ℕ = has.0 in
        let within : number < length (truths tables) = has.1 in
        let cut_long : length cut ≡ length (truths tables) = sym (length-map cut (λ (t : TruthTable). t.truth)) ∙ ap length cut_are ∙ length-map (truths tables) (under mask) in
        let here : number < length cut = omega (arith, within, cut_long) in
        let truth : (get_or cut number table).truth ≡ table.truth =
        sym (get_or-map (λ (t : TruthTable). t.truth) cut number table [] here) ∙ ap (λ rs. get_or rs number []) cut_are ∙ get_or-map (under mask) (truths tables) number source.of [] within
        ∙ ap (under mask) has.2 ∙ source.is ∙ at in
        let kind = is_closed.kinds k default low in
        (number, here, same_table_value (get_or cut number table) table (cut_arity number table here ∙ sym kind.long) (cut_values number table here ∙ sym kind.values) truth)

    few_closed : length closed ≤ 64
    few_closed = is_closed.few

    pub chosen : (ranges : List ValueRange) (scope : List ℕ) (cut : List TruthTable) (numbers : List ℕ) → length scope ≡ arity → mask ≡ inside ranges d scope → truths cut ≡ map (under mask) (truths tables) →
        All (λ k. k < length cut) numbers → map (λ (k : ℕ). get_or (truths cut) k []) numbers ≡ truths closed → AreChosen ranges d given tables scope numbers
    chosen ranges scope cut numbers size is cut_are known are = record {
      closing =
          subst (λ (rs : List Relation). IsClosing rs (chosen_on ranges d tables scope numbers)) (given_same (relations_of_arity given arity) ∙ ap (λ n. map (widened ranges d scope) (relations_of_arity given n)) (sym size))
          (subst (IsClosing (map (over mask) (relations_of_arity given arity))) (wide_same numbers)
          (closing_over mask (relations_of_arity given arity) (truths tables) closed_of.closing (truths closed) closing numbers known_truths (cut_same numbers known ∙ are)));
      known = λ k default low. let inside = known k default low in omega (arith, inside, cut_long);
      few = let few = few_closed in omega (arith, few, sym (length-map numbers (λ (k : ℕ). get_or (truths cut) k [])) ∙ ap length are ∙ length-map closed (λ (t : TruthTable). t.truth));
    }
      where
        cut_long : length cut ≡ length tables
        cut_long = sym (length-map cut (λ (t : TruthTable). t.truth)) ∙ ap length cut_are ∙ length-map (truths tables) (under mask) ∙ length-map tables (λ (t : TruthTable). t.truth)

        known_truths : All (λ k. k < length (truths tables)) numbers
        known_truths k default low = let inside = known k default low in omega (arith, inside, cut_long, length-map tables (λ (t : TruthTable). t.truth))

        cut_at : (k : ℕ) → k < length cut → under mask (get_or (truths tables) k []) ≡ get_or (truths cut) k []
        cut_at k low =
            sym (ap (λ rs. get_or rs k []) cut_are ∙ get_or-map (under mask) (truths tables) k [] [] (omega (arith, low, cut_long, length-map tables (λ (t : TruthTable). t.truth))))

        cut_same : (ks : List ℕ) → All (λ k. k < length cut) ks → map (λ (k : ℕ). under mask (get_or (truths tables) k [])) ks ≡ map (λ (k : ℕ). get_or (truths cut) k []) ks
        cut_same [] low = refl
        cut_same (k ∷ ks) low = λ i. cut_at k (All-head (λ k. k < length cut) k ks low) i ∷ cut_same ks (All-tail (λ k. k < length cut) k ks low) i

        over_same : (r : Relation) → over mask r ≡ widened ranges d scope r
        over_same r = ap (λ m. over m r) is ∙ sym (widened-over ranges d scope r)

        given_same : (rs : List Relation) → map (over mask) rs ≡ map (widened ranges d scope) rs
        given_same rs = λ i. map (λ r. over_same r i) rs

        wide_same : (ks : List ℕ) → map (λ (k : ℕ). over mask (get_or (truths tables) k [])) ks ≡ chosen_on ranges d tables scope ks
        wide_same ks = λ i. map (λ (k : ℕ). over_same (get_or (truths tables) k []) i) ks

-- ---- where each variable has all values

map_same : (f : Relation → Relation) (rs : List Relation) → All (λ r. f r ≡ r) rs → map f rs ≡ rs
map_same f [] same = refl
map_same f (r ∷ rs) same = λ i. All-head (λ r. f r ≡ r) r rs same i ∷ map_same f rs (All-tail (λ r. f r ≡ r) r rs same) i

pub chosen_whole : (ranges : List ValueRange) (d : ℕ) (given : List Given) (tables : List TruthTable) (scope : List ℕ) → All (λ v. IsWhole d (range_in ranges v)) scope → IsClosedOf d (length scope) given tables →
    AreChosen ranges d given tables scope (range_with_len 0 (length tables))
chosen_whole ranges d given tables scope whole closed = record {
  closing = subst (λ (rs : List Relation). IsClosing rs (chosen_on ranges d tables scope (range_with_len 0 (length tables)))) (sym file_same) (subst (IsClosing (relations_of_arity given (length scope))) (sym tables_same) closed.closing);
  known = all_below (λ k. k < length tables) (length tables) (λ k low. low);
  few = let few = closed.few in omega (arith, few, length-range_with_len 0 (length tables));
}
  where
    long : length (truths tables) ≡ length tables
    long = length-map tables (λ (t : TruthTable). t.truth)

    size_at : (k : ℕ) (e : Relation) → k < length tables → length (get_or (truths tables) k e) ≡ d ^ length scope
    size_at k e low =
        let t : TruthTable = record { arity = 0; value_count = 0; truth = [] } in
        ap length (get_or-map (λ (t : TruthTable). t.truth) tables k t e low) ∙ (closed.kinds k t low).size

    -- each given relation is one of the tables'
    sized : (r : Relation) → Contains (truths tables) r → length r ≡ d ^ length scope
    sized r has = ap length (sym has.2) ∙ size_at has.0 r (omega (arith, has.1, long))

    file_same : given_at ranges d given scope ≡ relations_of_arity given (length scope)
    file_same = map_same (widened ranges d scope) (relations_of_arity given (length scope)) (λ k e low.
        let r : Relation = get_or (relations_of_arity given (length scope)) k e in
        widened_where_whole ranges d scope r whole (sized r (closed.closing.every r (one_given (relations_of_arity given (length scope)) r (k, low, get_or_default (relations_of_arity given (length scope)) k r e low)))))

    tables_same : chosen_on ranges d tables scope (range_with_len 0 (length tables)) ≡ truths tables
    tables_same = same_lists _ _ (length-map (range_with_len 0 (length tables)) (λ (k : ℕ). widened ranges d scope (get_or (truths tables) k [])) ∙ length-range_with_len 0 (length tables) ∙ sym long) (λ k e low.
        let inside : k < length tables = omega (arith, low, length-map (range_with_len 0 (length tables)) (λ (k : ℕ). widened ranges d scope (get_or (truths tables) k [])), length-range_with_len 0 (length tables)) in
        get_or-map-range_with_len (λ (k : ℕ). widened ranges d scope (get_or (truths tables) k [])) 0 (length tables) k k e inside (let same : 0 + k ≡ k = omega arith in same)
        ∙ widened_where_whole ranges d scope (get_or (truths tables) k []) whole (size_at k [] inside)
        ∙ get_or_default (truths tables) k [] e (omega (arith, inside, long)))
