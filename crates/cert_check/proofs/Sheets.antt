-- Text that is written piece by piece.
use Rattle.cert_check.proofs.Prelude.{OnOk, Result, Ok, Err, ◌≡◌, ℕ, ◌+◌, ◌<◌, ◌≤◌, List, [], ◌∷◌, ◌++◌, length, take, get_or, sym, ◌∙◌, ap, subst, arith, append_assoc, flat_map, append-nil, take_more, take_all, length-range_with_len, get_or-range_with_len, flat_map-append, numbers, IsSheetOf, AddsPiece, Sheet}

-- ---- one piece after another

pub adds_none : (a : Sheet) → AddsPiece a [] a
adds_none a = λ whole h. subst (IsSheetOf a) (sym (append-nil whole)) h

pub adds_more : (a b c : Sheet) (p q : List ℕ) → AddsPiece a p b → AddsPiece b q c → AddsPiece a (p ++ q) c
adds_more a b c p q first next = λ whole h. subst (IsSheetOf c) (append_assoc whole p q) (next (whole ++ p) (first whole h))

pub adds_as : (a b : Sheet) (p q : List ℕ) → p ≡ q → AddsPiece a p b → AddsPiece a q b
adds_as a b p q e h = subst (λ (r : List ℕ). AddsPiece a r b) e h

-- a piece for each member of a list
pub adds_next : {X : Type 0} (f : X → List ℕ) (xs : List X) (i : ℕ) (x : X) (a b c : Sheet) → i < length xs → x ≡ get_or xs i x → AddsPiece a (flat_map f (take i xs)) b → AddsPiece b (f x) c → AddsPiece a (flat_map f (take (i + 1) xs)) c
adds_next f xs i x a b c low is before here = adds_as a c (flat_map f (take i xs) ++ f x) (flat_map f (take (i + 1) xs))
    (ap (λ r. flat_map f (take i xs) ++ r) (ap f is ∙ sym (append-nil (f (get_or xs i x))))
    ∙ sym (flat_map-append f (take i xs) (get_or xs i x ∷ []))
    ∙ ap (flat_map f) (sym (take_more xs i x low)))
    (adds_more a b c (flat_map f (take i xs)) (f x) before here)

pub adds_all : {X : Type 0} (f : X → List ℕ) (xs : List X) (i : ℕ) (a b : Sheet) → length xs ≤ i → AddsPiece a (flat_map f (take i xs)) b → AddsPiece a (flat_map f xs) b
adds_all f xs i a b all h = adds_as a b (flat_map f (take i xs)) (flat_map f xs) (ap (flat_map f) (take_all i xs all)) h

-- a piece for each number below an end
pub adds_next_number : (f : ℕ → List ℕ) (n v : ℕ) (a b c : Sheet) → v < n → AddsPiece a (flat_map f (take v (numbers n))) b → AddsPiece b (f v) c → AddsPiece a (flat_map f (take (v + 1) (numbers n))) c
adds_next_number f n v a b c low before here =
    let long = length-range_with_len 0 n in
    let at : v ≡ get_or (numbers n) v v = sym (get_or-range_with_len 0 n v v low ∙ (let e : 0 + v ≡ v = omega arith in e)) in
    adds_next f (numbers n) v v a b c (omega (arith, long, low)) at before here

-- what follows where a call answers Ok
pub on_ok : {A E : Type 0} (r : Result A E) (P Q : Type 0) → (P → Q) → OnOk r P → OnOk r Q
on_ok (Ok x) P Q f h = f h
on_ok (Err e) P Q f h = h
