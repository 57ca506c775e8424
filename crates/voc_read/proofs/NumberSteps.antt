-- One name more of a scope is looked up.
use Rattle.voc_read.proofs.Prelude.{◌≡◌, ℕ, suc, ◌+◌, ◌<◌, ◌++◌, List, [], ◌∷◌, length, drop, get_or, Option, Some, None, option_and_then, Bor, refl, sym, ap, ◌∙◌, append_assoc, arith, ok_or, Ok, Err, drop-cons, VocFault, variable_number, numbers_of, texts_of}
use Rattle.std.proofs.Common.{option_map}

-- the numbers from name j on
from_here : (names : List (List ℕ)) (listed : List (Bor (List ℕ))) (j : ℕ) (d : Bor (List ℕ)) → j < length listed
    → numbers_of names (texts_of (drop j listed)) ≡ option_and_then (λ v. option_map (λ vs. v ∷ vs) (numbers_of names (texts_of (drop (j + 1) listed)))) (variable_number names (get_or listed j d).now)
from_here names listed j d within =
    let next : j + 1 ≡ suc j = omega arith in
    rw next (ap (λ rest. numbers_of names (texts_of rest)) (drop-cons listed j d within))

pub unknown : (names : List (List ℕ)) (listed : List (Bor (List ℕ))) (j : ℕ) (d : Bor (List ℕ)) (before : List ℕ) (whole : Option (List ℕ)) → j < length listed
    → variable_number names (get_or listed j d).now ≡ None → option_map (λ more. before ++ more) (numbers_of names (texts_of (drop j listed))) ≡ whole → whole ≡ None
unknown names listed j d before whole within none so_far =
    let rest = numbers_of names (texts_of (drop (j + 1) listed)) in
    sym so_far ∙ ap (λ o. option_map (λ more. before ++ more) o) (from_here names listed j d within)
    ∙ ap (λ o. option_map (λ more. before ++ more) (option_and_then (λ v. option_map (λ vs. v ∷ vs) rest) o)) none

put_behind : (rest : Option (List ℕ)) (before : List ℕ) (v : ℕ) → option_map (λ more. before ++ more) (option_map (λ vs. v ∷ vs) rest) ≡ option_map (λ more. (before ++ v ∷ []) ++ more) rest
put_behind None before v = refl
put_behind (Some vs) before v = ap Some (sym (append_assoc before (v ∷ []) vs))

pub one_more : (names : List (List ℕ)) (listed : List (Bor (List ℕ))) (j : ℕ) (d : Bor (List ℕ)) (before : List ℕ) (v : ℕ) (whole : Option (List ℕ)) → j < length listed
    → variable_number names (get_or listed j d).now ≡ Some v → option_map (λ more. before ++ more) (numbers_of names (texts_of (drop j listed))) ≡ whole
    → option_map (λ more. (before ++ v ∷ []) ++ more) (numbers_of names (texts_of (drop (j + 1) listed))) ≡ whole
one_more names listed j d before v whole within some so_far =
    let rest = numbers_of names (texts_of (drop (j + 1) listed)) in
    sym (put_behind rest before v)
    ∙ sym (ap (λ o. option_map (λ more. before ++ more) (option_and_then (λ v. option_map (λ vs. v ∷ vs) rest) o)) some)
    ∙ sym (ap (λ o. option_map (λ more. before ++ more) o) (from_here names listed j d within)) ∙ so_far

pub none_of_err : (o : Option ℕ) (fault e : VocFault) → ok_or o fault ≡ Err e → o ≡ None
none_of_err None fault e h = refl
none_of_err (Some v) fault e h = absurd (cc)

pub some_of_ok : (o : Option ℕ) (fault : VocFault) (v : ℕ) → ok_or o fault ≡ Ok v → o ≡ Some v
some_of_ok None fault v h = absurd (cc)
some_of_ok (Some w) fault v h = cc
