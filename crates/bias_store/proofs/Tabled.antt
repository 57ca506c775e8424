-- Tables of masks, made one place after another and one scope after another.
use Rattle.bias_store.proofs.Prelude.{◌≡◌, ℕ, ◌+◌, ◌*◌, ◌^◌, ◌<◌, ◌≤◌, ◌≢◌, true, false, List, [], ◌∷◌, ◌++◌, length, get_or, refl, sym, ◌∙◌, ap, subst, arith, inl, inr, ◌⊎◌, length-append, replicate, get_or-set_same, get_or-set_other, slice_set, filter, cases_eq, get_or_append_left, get_or_push, length-set, length-replicate, get_or-replicate, All-append, All-cons, All-nil, numbers, Language, IsLanguage, scope_at, is_whole, ones_of, Accepts, places_on, mask_in, AreRunsFrom, AreRowsFrom, IsAcceptingOf, AreAdded, IsTableOf, NO_TABLE}
use Rattle.language.proofs.Alike.{whole_alike}
use Rattle.bias_store.specs.Made.{AcceptBy, HasMasksAt, AreClasses, AreBegun, AreWider}
use Rattle.bias_store.specs.declared.tables.Class.{Class}
use Rattle.bias_store.proofs.Likeness.{table_whole}

-- ---- one place after another

module _ (IsRight : ℕ → ℕ → Type 0) where
  pub added_none : (before : List ℕ) → AreAdded IsRight before before 0
  added_none before = record { long = omega arith; same = λ i low. refl; here = λ p low. absurd (omega arith) }

  pub added_more : (before masks : List ℕ) (place mask : ℕ) → AreAdded IsRight before masks place → IsRight place mask → AreAdded IsRight before (masks ++ mask ∷ []) (place + 1)
  added_more before masks place mask is new = let long = is.long in record {
    long = omega (arith, length-append masks (mask ∷ []));
    same = λ i low. get_or_append_left masks (mask ∷ []) 0 i (omega arith) ∙ is.same i low;
    here = λ p low. go p low (cases_eq p place);
  }
    where
      go : (p : ℕ) → p < place + 1 → (p ≡ place) ⊎ (p ≡ place → ⊥) → IsRight p (mask_in (masks ++ mask ∷ []) (length before) p)
      go p low (inl same) =
          let long = is.long in
          subst (IsRight p) (sym (get_or_push masks mask 0 (length before + p) (omega arith))) (subst (λ (k : ℕ). IsRight k mask) (sym same) new)
      go p low (inr other) = let long = is.long in subst (IsRight p) (sym (get_or_append_left masks (mask ∷ []) 0 (length before + p) (omega arith))) (is.here p (omega arith))

  pub added_wider : (before masks : List ℕ) (count : ℕ) → AreAdded IsRight before masks count → AreWider before masks
  added_wider before masks count is = record { longer = (let long = is.long in omega arith); same = is.same }

pub wider_same : (masks : List ℕ) → AreWider masks masks
wider_same masks = record { longer = omega arith; same = λ i low. refl }

-- the places of one row more
pub row_more : (row d : ℕ) → (row + 1) * d ≡ row * d + d
row_more row d = grind arith

-- ---- what begins somewhere stays behind more masks

module _ (masks wider : List ℕ) (is : AreWider masks wider) where
  read : (begin p : ℕ) → begin + p < length masks → mask_in wider begin p ≡ mask_in masks begin p
  read begin p low = is.same (begin + p) low

  pub table_wider : (l : Language) (s begin : ℕ) → IsTableOf l s masks begin → IsTableOf l s wider begin
  table_wider l s begin table = let inside = table.inside in let longer = is.longer in record {
    inside = omega arith;
    within = λ p low ranged. (let inside = table.inside in ap ones_of (read begin p (omega arith))) ∙ table.within p low ranged;
  }

  pub masks_wider : (l : Language) (tables : List ℕ) (begin : ℕ) → HasMasksAt l tables masks begin → HasMasksAt l tables wider begin
  masks_wider l tables begin are = let inside = are.inside in let longer = is.longer in record {
    inside = omega arith;
    each = λ p low pairs of. (let inside = are.inside in ap ones_of (read begin p (omega arith))) ∙ are.each p low pairs of;
  }

  pub classes_wider : (l : Language) (classes : List Class) → AreClasses l classes masks → AreClasses l classes wider
  classes_wider l classes are = λ k c low. let class : Class = get_or classes k c in masks_wider l class.tables.items class.begin (are k c low)

  pub begun_wider : (l : Language) (begins : List ℕ) → AreBegun l begins masks → AreBegun l begins wider
  begun_wider l begins are = record { long = are.long; tables = λ s low whole some. table_wider l s (get_or begins (length (scope_at l s)) 0) (are.tables s low whole some) }

-- ---- new masks

pub table_of : (l : Language) (s : ℕ) (masks wider : List ℕ) → AreAdded (Accepts l s) masks wider (places_on l s) → IsTableOf l s wider (length masks)
table_of l s masks wider is = let long = is.long in record { inside = omega arith; within = λ p low ranged. is.here p low }

pub added_masks : (l : Language) (tables masks wider : List ℕ) → AreAdded (AcceptBy l tables) masks wider (l.value_count ^ 2) → HasMasksAt l tables wider (length masks)
added_masks l tables masks wider is = let long = is.long in record { inside = omega arith; each = is.here }

pub classes_more : (l : Language) (classes : List Class) (masks : List ℕ) (class : Class) → AreClasses l classes masks → HasMasksAt l class.tables.items masks class.begin → AreClasses l (classes ++ class ∷ []) masks
classes_more l classes masks class are new =
    All-append (λ (c : Class). HasMasksAt l c.tables.items masks c.begin) classes (class ∷ []) are
    (All-cons (λ (c : Class). HasMasksAt l c.tables.items masks c.begin) class [] new (All-nil (λ (c : Class). HasMasksAt l c.tables.items masks c.begin)))

-- ---- those of scopes whose variables have all values

-- that of a scope is that of each other one with as many variables
table_alike : (l : Language) → IsLanguage l → (s t begin : ℕ) (masks : List ℕ) → s < length l.scopes → t < length l.scopes → is_whole l s ≡ true → is_whole l t ≡ true → length (scope_at l s) ≡ length (scope_at l t) →
    IsTableOf l s masks begin → IsTableOf l t masks begin
table_alike l lawful s t begin masks low there whole other same is = record {
  inside = subst (λ n. begin + l.value_count ^ n ≤ length masks) same is.inside;
  within = λ p below ranged.
      table_whole l lawful s begin masks low is whole p (subst (λ n. p < l.value_count ^ n) (sym same) below)
      ∙ ap (λ rs. filter (λ r. get_or (get_or rs r []) p false) (numbers (length rs))) (whole_alike l lawful s t low there whole other same);
}

pub begun_none : (l : Language) → IsLanguage l → (begins masks : List ℕ) → begins ≡ replicate 5 NO_TABLE → AreBegun l begins masks
begun_none l lawful begins masks is = record {
  long = ap length is ∙ length-replicate 5 NO_TABLE;
  tables = λ s low whole some. absurd (some (ap (λ xs. get_or xs (length (scope_at l s)) 0) is ∙ get_or-replicate 5 (length (scope_at l s)) NO_TABLE 0 (let short = (lawful.scopes s [] low).short in omega arith)));
}

pub begun_new : (l : Language) → IsLanguage l → (begins masks : List ℕ) (s begin : ℕ) → s < length l.scopes → is_whole l s ≡ true → AreBegun l begins masks → (begin ≢ NO_TABLE → IsTableOf l s masks begin) →
    AreBegun l (slice_set begins (length (scope_at l s)) begin) masks
begun_new l lawful begins masks s begin low whole is table = record {
  long = length-set begins (length (scope_at l s)) begin ∙ is.long;
  tables = λ t there other. tables t there other (cases_eq (length (scope_at l t)) (length (scope_at l s)));
}
  where
    Has : ℕ → ℕ → Type 0
    Has t b = b ≢ NO_TABLE → IsTableOf l t masks b

    tables : (t : ℕ) → t < length l.scopes → is_whole l t ≡ true → (length (scope_at l t) ≡ length (scope_at l s)) ⊎ (length (scope_at l t) ≡ length (scope_at l s) → ⊥) →
        Has t (get_or (slice_set begins (length (scope_at l s)) begin) (length (scope_at l t)) 0)
    tables t there other (inl same) =
        subst (Has t) (sym (ap (λ k. get_or (slice_set begins (length (scope_at l s)) begin) k 0) same
        ∙ get_or-set_same begins (length (scope_at l s)) begin 0 (let long = is.long in let short = (lawful.scopes s [] low).short in omega arith)))
        (λ some. table_alike l lawful s t begin masks low there whole other (sym same) (table some))
    tables t there other (inr differ) =
        subst (Has t) (sym (get_or-set_other begins (length (scope_at l s)) (length (scope_at l t)) begin 0 differ)) (is.tables t there other)

-- ---- one scope after another

-- the first scopes have tables that begin at these places, or none
pub record AreTabled (l : Language) (first masks : List ℕ) (s : ℕ) : Type 0 where
  pub long : length first ≡ s
  pub tables : (k : ℕ) → k < s → get_or first k 0 ≢ NO_TABLE → IsTableOf l k masks (get_or first k 0)

pub tabled_none : (l : Language) (masks : List ℕ) → AreTabled l [] masks 0
tabled_none l masks = record { long = refl; tables = λ k low some. absurd (omega arith) }

-- one scope more
pub tabled_more : (l : Language) (first masks wider : List ℕ) (s begin : ℕ) → AreTabled l first masks s → AreWider masks wider → (begin ≢ NO_TABLE → IsTableOf l s wider begin) → AreTabled l (first ++ begin ∷ []) wider (s + 1)
tabled_more l first masks wider s begin is more table = let long = is.long in record {
  long = omega (arith, length-append first (begin ∷ []));
  tables = λ k low. tables k low (cases_eq k s);
}
  where
    Has : ℕ → ℕ → Type 0
    Has k b = b ≢ NO_TABLE → IsTableOf l k wider b

    tables : (k : ℕ) → k < s + 1 → (k ≡ s) ⊎ (k ≡ s → ⊥) → Has k (get_or (first ++ begin ∷ []) k 0)
    tables k low (inl same) = let long = is.long in subst (Has k) (sym (get_or_push first begin 0 k (omega arith))) (subst (λ t. Has t begin) (sym same) table)
    tables k low (inr other) =
        let long = is.long in
        subst (Has k) (sym (get_or_append_left first (begin ∷ []) 0 k (omega arith))) (λ some. table_wider masks wider more l k (get_or first k 0) (is.tables k (omega arith) some))

-- all scopes have theirs, or none
pub tabled_all : (l : Language) (first masks next rows : List ℕ) (s : ℕ) → IsLanguage l → AreTabled l first masks s → s ≡ length l.scopes → AreRunsFrom l next 0 → AreRowsFrom l first rows 0 →
    IsAcceptingOf l (record { first = first; masks = masks; next = next; rows = rows })
tabled_all l first masks next rows s lawful is end runs in_rows = record {
  scopes = is.long ∙ end;
  few = lawful.few_relations;
  tables = λ k low. is.tables k (omega arith);
  runs = runs;
  rows = in_rows;
}

-- ---- the tables of a scope's relations, one relation after another

pub each_more : (P : ℕ → ℕ → Type 0) (xs : List ℕ) (x n : ℕ) → length xs ≡ n → ((k : ℕ) → k < n → P k (get_or xs k 0)) → P n x → (k : ℕ) → k < n + 1 → P k (get_or (xs ++ x ∷ []) k 0)
each_more P xs x n long each here k low = go (cases_eq k n)
  where
    go : (k ≡ n) ⊎ (k ≡ n → ⊥) → P k (get_or (xs ++ x ∷ []) k 0)
    go (inl same) = subst (P k) (sym (get_or_push xs x 0 k (omega arith))) (subst (λ (t : ℕ). P t x) (sym same) here)
    go (inr other) = subst (P k) (sym (get_or_append_left xs (x ∷ []) 0 k (omega arith))) (each k (omega arith))
