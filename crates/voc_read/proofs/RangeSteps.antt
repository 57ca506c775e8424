-- What an array states as a range, and one range more that is read.
use Rattle.voc_read.proofs.Prelude.{◌≡◌, ◌≢◌, ℕ, ℤ, suc, ◌+◌, ◌<◌, ◌≤◌, ◌++◌, List, [], ◌∷◌, length, drop, get_or, map, None, Result, Ok, Err, refl, sym, ap, ◌∙◌, append_assoc, arith, drop-cons, append-nil, at_drop_all, map-append, view, items_view, Value, VocFault, NamedRange, then_on, VariableRange, range_stated_by, named_range, range_stated, ranges_from}

-- ---- a range

pub not_three : (list : List Value) → length list ≢ 3 → range_stated_by (items_view list) ≡ None
not_three [] other = refl
not_three (name ∷ []) other = refl
not_three (name ∷ lowest ∷ []) other = refl
not_three (name ∷ lowest ∷ highest ∷ []) other = absurd (other refl)
not_three (name ∷ lowest ∷ highest ∷ more ∷ list) other = refl

-- ---- the ranges

-- it stands behind those that were read before
put_behind : (rest : Result (List VariableRange) VocFault) (before : List VariableRange) (range : VariableRange)
    → then_on (then_on rest (λ more. Ok (range ∷ more))) (λ more. Ok (before ++ more)) ≡ then_on rest (λ more. Ok ((before ++ range ∷ []) ++ more))
put_behind (Ok more) before range = ap Ok (sym (append_assoc before (range ∷ []) more))
put_behind (Err fault) before range = refl

pub reads_one_more : (i : ℕ) (lo : ℤ) (count : ℕ) (names : List (List ℕ)) (list : List Value) (value : Value) (before : List NamedRange) (range : NamedRange) (whole : Result (List VariableRange) VocFault)
    → i < length list → value ≡ get_or list i value → range_stated i lo count names (view value) ≡ Ok (named_range range)
    → then_on (ranges_from i lo count names (items_view (drop i list))) (λ more. Ok (map named_range before ++ more)) ≡ whole
    → then_on (ranges_from (i + 1) lo count names (items_view (drop (i + 1) list))) (λ more. Ok (map named_range (before ++ range ∷ []) ++ more)) ≡ whole
reads_one_more i lo count names list value before range whole within is read so_far =
    let next : i + 1 ≡ suc i = omega arith in
    let rest = ranges_from (i + 1) lo count names (items_view (drop (i + 1) list)) in
    let from_here : drop i list ≡ value ∷ drop (i + 1) list = rw next (drop-cons list i value within ∙ ap (λ v. v ∷ drop (suc i) list) (sym is)) in
    let first : ranges_from i lo count names (items_view (drop i list)) ≡ then_on rest (λ more. Ok (named_range range ∷ more)) =
    ap (λ vs. ranges_from i lo count names (items_view vs)) from_here ∙ ap (λ r. then_on r (λ g. then_on rest (λ more. Ok (g ∷ more)))) read in
    let behind : map named_range (before ++ range ∷ []) ≡ map named_range before ++ named_range range ∷ [] = map-append named_range before (range ∷ []) in
    ap (λ done. then_on rest (λ more. Ok (done ++ more))) behind ∙ sym (put_behind rest (map named_range before) (named_range range)) ∙ sym (ap (λ r. then_on r (λ more. Ok (map named_range before ++ more))) first) ∙ so_far

-- a range that isn't read ends the reading
pub reads_no_more : (i : ℕ) (lo : ℤ) (count : ℕ) (names : List (List ℕ)) (list : List Value) (value : Value) (before : List NamedRange) (fault : VocFault) (whole : Result (List VariableRange) VocFault)
    → i < length list → value ≡ get_or list i value → range_stated i lo count names (view value) ≡ Err fault
    → then_on (ranges_from i lo count names (items_view (drop i list))) (λ more. Ok (map named_range before ++ more)) ≡ whole → whole ≡ Err fault
reads_no_more i lo count names list value before fault whole within is refused so_far =
    let next : i + 1 ≡ suc i = omega arith in
    let rest = ranges_from (i + 1) lo count names (items_view (drop (i + 1) list)) in
    let from_here : drop i list ≡ value ∷ drop (i + 1) list = rw next (drop-cons list i value within ∙ ap (λ v. v ∷ drop (suc i) list) (sym is)) in
    let first : ranges_from i lo count names (items_view (drop i list)) ≡ Err fault =
    ap (λ vs. ranges_from i lo count names (items_view vs)) from_here ∙ ap (λ r. then_on r (λ g. then_on rest (λ more. Ok (g ∷ more)))) refused in
    sym so_far ∙ ap (λ r. then_on r (λ more. Ok (map named_range before ++ more))) first

-- all are read
pub reads_all : (i : ℕ) (lo : ℤ) (count : ℕ) (names : List (List ℕ)) (list : List Value) (before : List NamedRange) (whole : Result (List VariableRange) VocFault)
    → length list ≤ i → then_on (ranges_from i lo count names (items_view (drop i list))) (λ more. Ok (map named_range before ++ more)) ≡ whole → whole ≡ Ok (map named_range before)
reads_all i lo count names list before whole done so_far =
    sym so_far ∙ at_drop_all (λ vs. then_on (ranges_from i lo count names (items_view vs)) (λ more. Ok (map named_range before ++ more))) list i done
    ∙ ap Ok (append-nil (map named_range before))
