-- Counts of all scopes, by arity.
use Rattle.language.proofs.Prelude.{◌≡◌, ℕ, ◌+◌, ◌≤◌, Bool, true, false, List, [], ◌++◌, length, refl, sym, ◌∙◌, arith, length-append, if◌then◌else◌, Given, choices, has_arity, rising_lists, all_scopes}
use Rattle.language.proofs.Rising.{count_lists}
use Rattle.language.proofs.Used.{of_arity}

counted : (b : Bool) (n arity count : ℕ) → count ≡ choices n arity → (if b then count else 0) ≡ length (if b then rising_lists n arity else [])
counted true n arity count is = is ∙ sym (count_lists n arity)
counted false n arity count is = refl

pub count_of : (n arity count found : ℕ) (given : List Given) → count ≡ choices n arity → found ≡ (if has_arity given arity then count else 0) → found ≡ length (of_arity n given arity)
count_of n arity count found given is e = e ∙ counted (has_arity given arity) n arity count is

bounded : (b : Bool) (count most : ℕ) → count ≤ most → (if b then count else 0) ≤ most
bounded true count most few = few
bounded false count most few = omega arith

pub at_most : (b : Bool) (count found most : ℕ) → count ≤ most → found ≡ (if b then count else 0) → found ≤ most
at_most b count found most few e = let low = bounded b count most few in omega (arith, low, e)

pub sum_is : (n a b c d : ℕ) (given : List Given) → a ≡ length (of_arity n given 1) → b ≡ length (of_arity n given 2) → c ≡ length (of_arity n given 3) → d ≡ length (of_arity n given 4) →
    a + b + c + d ≡ length (all_scopes n given)
sum_is n a b c d given ha hb hc hd =
    let one = length-append (of_arity n given 1) (of_arity n given 2 ++ (of_arity n given 3 ++ (of_arity n given 4 ++ []))) in
    let two = length-append (of_arity n given 2) (of_arity n given 3 ++ (of_arity n given 4 ++ [])) in
    let three = length-append (of_arity n given 3) (of_arity n given 4 ++ []) in
    let four = length-append (of_arity n given 4) [] in
    omega (arith, one, two, three, four, ha, hb, hc, hd)
