-- Pieces that are taken or added one after another, and what is read of them.
use Rattle.acq_io.proofs.Prelude.{◌≡◌, ℕ, List, [], ◌++◌, ap, sym, subst, ◌∙◌, refl, append_assoc, append-nil, Option, Some, None, option_map, Takes, TakesSome, WasEmpty, Adds, AddsOn}

pub takes_none : (a : Option (List ℕ)) → Takes a a []
takes_none None = refl
takes_none (Some bytes) = refl

pub takes_on : (a b c : Option (List ℕ)) (xs ys : List ℕ) → Takes a b xs → Takes b c ys → Takes a c (xs ++ ys)
takes_on a b None xs ys h k = h ∙ ap (option_map (λ rest. xs ++ rest)) k
takes_on a b (Some rest) xs ys h k = h ∙ ap (option_map (λ rest. xs ++ rest)) k ∙ ap (λ bytes. let o : Option (List ℕ) = Some bytes in o) (sym (append_assoc xs ys rest))

pub takes_some_on : (a b c : Option (List ℕ)) → TakesSome a b → TakesSome b c → TakesSome a c
takes_some_on a b c (xs, h) (ys, k) = (xs ++ ys, takes_on a b c xs ys h k)

pub adds_none : (a : Option (List ℕ)) → Adds a a []
adds_none None = refl
adds_none (Some written) = ap (λ bytes. let o : Option (List ℕ) = Some bytes in o) (sym (append-nil written))

pub adds_then : (a b c : Option (List ℕ)) (xs ys : List ℕ) → Adds a b xs → Adds b c ys → Adds a c (xs ++ ys)
adds_then None b c xs ys h k = cc
adds_then (Some written) b c xs ys h k =
    k ∙ ap (option_map (λ bytes. bytes ++ ys)) h ∙ ap (λ bytes. let o : Option (List ℕ) = Some bytes in o) (append_assoc written xs ys)

-- a piece and maybe more, and then more
pub adds_on : (a b c : Option (List ℕ)) (xs : List ℕ) → AddsOn a b xs → AddsOn b c [] → AddsOn a c xs
adds_on a b c xs (more, h) (later, k) =
    (more ++ later, let P : List ℕ → Type 0 = λ piece. Adds a c piece in subst P (append_assoc xs more later) (adds_then a b c (xs ++ more) later h k))

-- what f gives of a piece and the rest, g gives of the rest
pub gives_on : {R : Type 0} (f g : List ℕ → R) (a b : Option (List ℕ)) (xs : List ℕ) → Takes a b xs → ((rest : List ℕ) → f (xs ++ rest) ≡ g rest) → option_map f a ≡ option_map g b
gives_on f g a None xs h same = ap (option_map f) h
gives_on {R = R} f g a (Some rest) xs h same = ap (option_map f) h ∙ ap (λ (x : R). let o : Option R = Some x in o) (same rest)

-- and at the end
pub gives_end : {R : Type 0} (f g : List ℕ → R) (a b c : Option (List ℕ)) (xs : List ℕ) → Takes a b xs → Takes b c [] → WasEmpty b → f xs ≡ g [] → option_map f a ≡ option_map g c
gives_end f g a None None xs h k e same = ap (option_map f) h
gives_end f g a None (Some rest) xs h k e same = cc
gives_end f g a (Some bytes) None xs h k e same = cc
gives_end {R = R} f g a (Some bytes) (Some rest) xs h k e same =
    let empty : bytes ≡ [] = cc in let none : rest ≡ [] = cc in
    ap (option_map f) h ∙ ap (λ (bs : List ℕ). let o : Option R = Some (f (xs ++ bs)) in o) empty
    ∙ ap (λ (bs : List ℕ). let o : Option R = Some (f bs) in o) (append-nil xs) ∙ ap (λ (x : R). let o : Option R = Some x in o) same
    ∙ ap (λ (bs : List ℕ). let o : Option R = Some (g bs) in o) (sym none)
