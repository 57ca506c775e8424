-- What a question violates in a row of scopes of a language.
use Rattle.bias_store.proofs.Prelude.{◌≡◌, ℕ, ◌+◌, ◌-◌, ◌*◌, ◌<◌, ◌≤◌, Bool, true, false, ◌&&◌, List, [], ◌∷◌, length, get_or, Option, Some, None, refl, sym, ◌∙◌, ap, subst, arith, not, is_some, filter, slice_range, get_or-take, get_or-drop, length-drop, length-take-le, has, Assignment, value_of, covers, Language, IsLanguage, scope_at, violates, IsQuestion, nothing_passes, value_fits, ones_of, Accepting, places_on, mask_in, first_of, second_of, IsRow, IsAcceptingOf, IsTableOf, violated_at, AreNoneIn, IsFirstIn, IsRowOf, violated_on, AreNoneViolated, IsViolated}
use Rattle.bias_store.proofs.Bits.{without_those}
use Rattle.bias_store.proofs.Placed.{pair_place, pair_below}
use Rattle.bias_store.proofs.Runs.{open_violates}
use Rattle.bias_store.proofs.Rows.{row_here}
use Rattle.bias_store.proofs.Members.{read_at}
use Rattle.bias_store.proofs.Likeness.{table_asked}

-- a part of a list
pub get_or-slice_range : (xs : List ℕ) (from to i d : ℕ) → i < to - from → get_or (slice_range xs from to) i d ≡ get_or xs (from + i) d
get_or-slice_range xs from to i d low = get_or-take (to - from) _ i d low ∙ get_or-drop from xs i d

pub length-slice_range : (xs : List ℕ) (from to : ℕ) → to ≤ length xs → length (slice_range xs from to) ≡ to - from
length-slice_range xs from to fits = length-take-le (to - from) _ (omega (arith, length-drop from xs))

pub range_is : (xs ys : List ℕ) (from start to end : ℕ) → xs ≡ ys → from ≡ start → to ≡ end → slice_range xs from to ≡ slice_range ys start end
range_is xs ys from start to end same low high = λ i. slice_range (same i) (low i) (high i)

-- the scopes of a row, as a part of all masks
pub row_of_masks : (masks row : List ℕ) (s start end : ℕ) → row ≡ slice_range masks start end → s ≡ start → start ≤ end → end ≤ length masks → IsRowOf masks s row
row_of_masks masks row s start end is at rising fits = record {
  within = omega (arith, long);
  same = λ place low. ap (λ (xs : List ℕ). get_or xs place 0) is ∙ get_or-slice_range masks start end place 0 (omega (arith, long)) ∙ ap (λ i. get_or masks (i + place) 0) (sym at);
}
  where
    long : length row ≡ end - start
    long = ap length is ∙ length-slice_range masks start end fits

and_false : (b : Bool) → (b && (false && true)) ≡ false
and_false true = refl
and_false false = refl

-- nothing on a scope that the question leaves open
pub open_violated : (l : Language) (q : Assignment) (s mask : ℕ) → covers q (scope_at l s) ≡ false → violated_on l q s mask ≡ []
open_violated l q s mask none = nothing_passes (λ r. violates l (record { scope = s; rel = r }) q) (ones_of mask) (open_violates l s q none)

-- a row whose first variable has a value, and where the masks of that value begin
pub record IsRowRead (l : Language) (q : Assignment) (a : Accepting) (s end value begin : ℕ) : Type 0 where
  pub lawful : IsLanguage l
  pub question : IsQuestion l q
  pub made : IsAcceptingOf l a
  pub inside : end ≤ length l.scopes
  pub some : s < end
  pub row : IsRow l a.first s end
  pub first : value_of q (first_of l s) ≡ Some value
  pub at : begin ≡ get_or a.first s 0 + value * l.value_count

module _ (l : Language) (q : Assignment) (a : Accepting) (masks : List ℕ) (s end value begin : ℕ) (is : IsRowRead l q a s end value begin) where
  abbrev pub here : List ℕ
  here = slice_range masks s end

  abbrev pub accepting : List ℕ
  accepting = slice_range a.masks begin (begin + l.value_count)

  fits : value < l.value_count
  fits = value_fits l.value_count (first_of l s) value q _ is.question.values_fit refl is.first

  -- on one whose second variable has a value
  there : (j y : ℕ) → s + j < end → value_of q (second_of l s + j) ≡ Some y → violated_at here accepting j y ≡ violated_on l q (s + j) (get_or masks (s + j) 0)
  there j y before second =
      let two : scope_at l (s + j) ≡ first_of l s ∷ (second_of l s + j) ∷ [] = is.row.pairs j before in
      let low : y < l.value_count = value_fits l.value_count (second_of l s + j) y q _ is.question.values_fit refl second in
      let same : get_or a.first (s + j) 0 ≡ get_or a.first s 0 = is.row.alike j before in
      let at = is.at in
      let table : IsTableOf l (s + j) a.masks (get_or a.first (s + j) 0) = is.made.tables (s + j) (let inside = is.inside in omega arith) (λ none. is.row.some (omega arith) (sym same ∙ none)) in
      let place : value * l.value_count + y < places_on l (s + j) = pair_below l.value_count l.value_count value y value y (length (scope_at l (s + j))) fits low refl refl refl (ap length two) in
      let read : get_or accepting y 0 ≡ mask_in a.masks (get_or a.first (s + j) 0) (value * l.value_count + y) =
      get_or-slice_range a.masks begin (begin + l.value_count) y 0 (omega arith) ∙ ap (λ i. get_or a.masks i 0) (let e : begin + y ≡ get_or a.first (s + j) 0 + (value * l.value_count + y) = omega (arith, same, at) in e) in
      (λ i. filter (λ r. not (has (ones_of (read i)) r)) (ones_of (get_or-slice_range masks s end j 0 (omega arith) i)))
      ∙ without_those l (s + j) q (value * l.value_count + y) (get_or masks (s + j) 0) (mask_in a.masks (get_or a.first (s + j) 0) (value * l.value_count + y))
      (pair_place l (s + j) q (first_of l s) (second_of l s + j) value y two is.first second) (table_asked l is.lawful (s + j) (get_or a.first (s + j) 0) a.masks (let inside = is.inside in omega arith) table q (value * l.value_count + y) is.question place
      (pair_place l (s + j) q (first_of l s) (second_of l s + j) value y two is.first second))

  -- and on one whose second one has none
  bare_there : (j : ℕ) → s + j < end → value_of q (second_of l s + j) ≡ None → violated_on l q (s + j) (get_or masks (s + j) 0) ≡ []
  bare_there j before none =
      open_violated l q (s + j) (get_or masks (s + j) 0) (
      ap (covers q) (is.row.pairs j before) ∙ ap (λ o. is_some (value_of q (first_of l s)) && (is_some o && true)) none ∙ and_false (is_some (value_of q (first_of l s)))
      )

  -- the masks of the first value end within the tables
  pub room : begin + l.value_count ≤ length a.masks
  room =
      let two = ap length (row_here l a.first s end is.row is.some) in
      let here_is : s < length l.scopes = (let inside = is.inside in let some = is.some in omega arith) in
      let table : IsTableOf l s a.masks (get_or a.first s 0) = is.made.tables s here_is (is.row.some is.some) in
      let inside = table.inside in
      let last : value * l.value_count + (l.value_count - 1) < places_on l s = pair_below l.value_count l.value_count value (l.value_count - 1) value (l.value_count - 1) (length (scope_at l s)) fits (omega (arith, fits)) refl refl refl two in
      let at = is.at in
      omega (arith, fits)

  -- none at the first places
  pub none_there : (n : ℕ) → s + n ≤ end → AreNoneIn q here accepting (second_of l s) n → AreNoneViolated l q masks s (s + n)
  none_there n most none k from until =
      subst (λ (t : ℕ). violated_on l q t (get_or masks t 0) ≡ []) (let e : s + (k - s) ≡ k = omega arith in e) (go (value_of q (second_of l s + (k - s))) refl)
    where
      go : (o : Option ℕ) → value_of q (second_of l s + (k - s)) ≡ o → violated_on l q (s + (k - s)) (get_or masks (s + (k - s)) 0) ≡ []
      go None bare = bare_there (k - s) (omega arith) bare
      go (Some y) has_one = sym (there (k - s) y (omega arith) has_one) ∙ none (k - s) y (omega arith) has_one

  -- the first ones
  pub first_there : (place violated : ℕ) → place < end - s → IsFirstIn q here accepting (second_of l s) place violated → IsViolated l q masks s (record { scope = s + place; relations = violated })
  first_there place violated low found = record {
    lawful = is.lawful;
    within = (let inside = is.inside in omega arith);
    ahead = omega arith;
    none = none_there place (omega arith) found.none;
    here = go (value_of q (second_of l s + place)) refl found.asked;
    some = found.some;
    small = found.small;
  }
    where
      go : (o : Option ℕ) → value_of q (second_of l s + place) ≡ o → is_some o ≡ true → ones_of violated ≡ violated_on l q (s + place) (get_or masks (s + place) 0)
      go None _ none = absurd (cc)
      go (Some y) value _ = found.here y value ∙ there place y (omega arith) value

  -- both for lists that are these
  module _ (here_too accepting_too : List ℕ) (second : ℕ) (same_row : here_too ≡ here) (same_accepting : accepting_too ≡ accepting) (same_second : second ≡ second_of l s) (fits : end ≤ length masks) where
    pub none_here : AreNoneIn q here_too accepting_too second (length here_too) → AreNoneViolated l q masks s end
    none_here none k from until = none_there (end - s) (omega arith) these k from (omega arith)
      where
        these : AreNoneIn q here accepting (second_of l s) (end - s)
        these place value low some =
            subst (λ (w : List ℕ). violated_at w accepting place value ≡ []) same_row (subst (λ (w : List ℕ). violated_at here_too w place value ≡ []) same_accepting
            (none place value (omega (arith, low, ap length same_row, length-slice_range masks s end fits)) (ap (λ t. value_of q (t + place)) same_second ∙ some)))

    pub first_here : (place violated : ℕ) → IsFirstIn q here_too accepting_too second place violated → IsViolated l q masks s (record { scope = s + place; relations = violated })
    first_here place violated found =
        let within = found.within in
        first_there place violated (omega (arith, within, ap length same_row, length-slice_range masks s end fits))
        (subst (λ (t : ℕ). IsFirstIn q here accepting t place violated) same_second
        (subst (λ (w : List ℕ). IsFirstIn q here w second place violated) same_accepting (subst (λ (w : List ℕ). IsFirstIn q w accepting_too second place violated) same_row found)))

-- how it is read
pub row_read : (l : Language) (q : Assignment) (a b : Accepting) (s i j end value entry v d : ℕ) → a ≡ b → IsLanguage l → IsAcceptingOf l b → IsQuestion l q → s < length l.scopes → i ≡ s → end ≡ get_or a.rows i end → s < get_or b.rows s 0 →
    value_of q (first_of l s) ≡ Some value → j ≡ s → entry ≡ get_or a.first j entry → v ≡ value → d ≡ l.value_count → IsRowRead l q a s end value (entry + v * d)
row_read l q a b s i j end value entry v d view lawful made question here at_row end_is some first at_first entry_is value_is d_is = record {
  lawful = lawful;
  question = question;
  made = is;
  inside = omega (arith, at, is.rows.within s (omega arith) here);
  some = omega (arith, at, ap (λ (k : Accepting). get_or k.rows s 0) view);
  row = subst (IsRow l a.first s) (sym at) (is.rows.row s (omega arith) here);
  first = first;
  at = (λ i. read i + value_is i * d_is i);
}
  where
    is : IsAcceptingOf l a
    is = subst (IsAcceptingOf l) (sym view) made

    at : end ≡ get_or a.rows s 0
    at = let long = is.rows.long in read_at a.rows s i end (omega arith) at_row end_is

    read : entry ≡ get_or a.first s 0
    read = let scopes = is.scopes in read_at a.first s j entry (omega arith) at_first entry_is

-- its first scope has two variables
pub row_two : (l : Language) (a b : Accepting) (s i end : ℕ) → a ≡ b → IsAcceptingOf l b → s < length l.scopes → i ≡ s → end ≡ get_or a.rows i end → s < get_or b.rows s 0 → length (scope_at l s) ≡ 2
row_two l a b s i end view made here at_row end_is some = ap length (row_here l b.first s (get_or b.rows s 0) (made.rows.row s (omega arith) here) some)

-- its end
pub row_end : (l : Language) (a b : Accepting) (s i end : ℕ) → a ≡ b → IsAcceptingOf l b → s < length l.scopes → i ≡ s → end ≡ get_or a.rows i end → end ≡ get_or b.rows s 0
row_end l a b s i end view made here at_row end_is =
    let long = made.rows.long in
    let same = ap (λ (k : Accepting). length k.rows) view in
    read_at a.rows s i end (omega arith) at_row end_is ∙ ap (λ (k : Accepting). get_or k.rows s 0) view
