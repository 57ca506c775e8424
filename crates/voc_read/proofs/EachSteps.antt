-- The values of a list are read, or one of them isn't.
use Rattle.voc_read.proofs.Prelude.{◌≡◌, ℕ, suc, ◌+◌, ◌<◌, ◌≤◌, ◌++◌, List, [], ◌∷◌, length, drop, get_or, Option, Some, None, option_and_then, refl, sym, ap, ◌∙◌, append_assoc, arith, drop-cons, append-nil, at_drop_all, ok_or, Ok, Err, Data, view, items_view, Value, VocFault, each_of}
use Rattle.std.proofs.Common.{option_map}

module _ {A : Type 0} (read : Data → Option A) where
  put_behind : (before : List A) (x : A) (rest : Option (List A)) → option_map (λ more. (before ++ x ∷ []) ++ more) rest ≡ option_map (λ more. before ++ more) (option_map (λ xs. x ∷ xs) rest)
  put_behind before x None = refl
  put_behind before x (Some more) = ap Some (append_assoc before (x ∷ []) more)

  -- one more is read
  pub reads_one_more : (list : List Value) (j : ℕ) (value : Value) (x : A) (before after : List A) (whole : Option (List A)) → j < length list → value ≡ get_or list j value
      → read (view value) ≡ Some x → after ≡ before ++ x ∷ [] → option_map (λ more. before ++ more) (each_of read (items_view (drop j list))) ≡ whole
      → option_map (λ more. after ++ more) (each_of read (items_view (drop (j + 1) list))) ≡ whole
  reads_one_more list j value x before after whole within is some grown so_far =
      let next : j + 1 ≡ suc j = omega arith in
      let rest = each_of read (items_view (drop (j + 1) list)) in
      let from_here : drop j list ≡ value ∷ drop (j + 1) list = rw next (drop-cons list j value within ∙ ap (λ v. v ∷ drop (suc j) list) (sym is)) in
      ap (λ b. option_map (λ more. b ++ more) rest) grown ∙ put_behind before x rest
      ∙ sym (ap (λ o. option_map (λ more. before ++ more) (option_and_then (λ x. option_map (λ xs. x ∷ xs) rest) o)) some)
      ∙ sym (ap (λ vs. option_map (λ more. before ++ more) (each_of read (items_view vs))) from_here) ∙ so_far

  -- one that isn't read ends the reading
  pub reads_no_more : (list : List Value) (j : ℕ) (value : Value) (before : List A) (whole : Option (List A)) → j < length list → value ≡ get_or list j value
      → read (view value) ≡ None → option_map (λ more. before ++ more) (each_of read (items_view (drop j list))) ≡ whole → whole ≡ None
  reads_no_more list j value before whole within is none so_far =
      let rest = each_of read (items_view (drop (suc j) list)) in
      let from_here : drop j list ≡ value ∷ drop (suc j) list = drop-cons list j value within ∙ ap (λ v. v ∷ drop (suc j) list) (sym is) in
      sym so_far ∙ ap (λ vs. option_map (λ more. before ++ more) (each_of read (items_view vs))) from_here
      ∙ ap (λ o. option_map (λ more. before ++ more) (option_and_then (λ x. option_map (λ xs. x ∷ xs) rest) o)) none

  -- all are read
  pub reads_all : (list : List Value) (j : ℕ) (before : List A) (whole : Option (List A)) → length list ≤ j
      → option_map (λ more. before ++ more) (each_of read (items_view (drop j list))) ≡ whole → whole ≡ Some before
  reads_all list j before whole done so_far =
      sym so_far ∙ at_drop_all (λ vs. option_map (λ more. before ++ more) (each_of read (items_view vs))) list j done ∙ ap Some (append-nil before)

-- what is read
pub some_of_ok : {A : Type 0} (o : Option A) (e : VocFault) (x : A) → ok_or o e ≡ Ok x → o ≡ Some x
some_of_ok None e x is = absurd (cc)
some_of_ok (Some y) e x is = cc

-- what isn't read of one is read of none
pub refuses : {A B : Type 0} (o : Option A) (whole : Option B) (e fault : VocFault) → ok_or o e ≡ Err fault → (o ≡ None → whole ≡ None) → ok_or whole e ≡ Err fault
refuses None whole e fault is then = let same : e ≡ fault = cc in ap (λ w. ok_or w e) (then refl) ∙ ap (λ f. Err f) same
refuses (Some x) whole e fault is then = absurd (cc)
