-- One relation more is read.
use Rattle.voc_read.proofs.Prelude.{◌≡◌, ℕ, ℤ, suc, ◌+◌, ◌<◌, ◌≤◌, ◌++◌, List, [], ◌∷◌, length, drop, get_or, map, Result, Ok, Err, refl, sym, ap, ◌∙◌, append_assoc, arith, drop-cons, append-nil, at_drop_all, map-append, view, items_view, Value, Given, given_by, RelPart, VocFault, then_on, relation_stated, relations_from}

-- it stands behind those that were read before
put_behind : (rest : Result (List Given) VocFault) (before : List Given) (g : Given)
    → then_on (then_on rest (λ more. Ok (g ∷ more))) (λ more. Ok (before ++ more)) ≡ then_on rest (λ more. Ok ((before ++ g ∷ []) ++ more))
put_behind (Ok more) before g = ap Ok (sym (append_assoc before (g ∷ []) more))
put_behind (Err fault) before g = refl

pub reads_one_more : (i : ℕ) (lo : ℤ) (count : ℕ) (list : List Value) (value : Value) (before : List RelPart) (relation : RelPart) (whole : Result (List Given) VocFault)
    → i < length list → value ≡ get_or list i value → relation_stated i lo count (view value) ≡ Ok (given_by relation)
    → then_on (relations_from i lo count (items_view (drop i list))) (λ more. Ok (map given_by before ++ more)) ≡ whole
    → then_on (relations_from (i + 1) lo count (items_view (drop (i + 1) list))) (λ more. Ok (map given_by (before ++ relation ∷ []) ++ more)) ≡ whole
reads_one_more i lo count list value before relation whole within is read so_far =
    let next : i + 1 ≡ suc i = omega arith in
    let rest = relations_from (i + 1) lo count (items_view (drop (i + 1) list)) in
    let from_here : drop i list ≡ value ∷ drop (i + 1) list = rw next (drop-cons list i value within ∙ ap (λ v. v ∷ drop (suc i) list) (sym is)) in
    let first : relations_from i lo count (items_view (drop i list)) ≡ then_on rest (λ more. Ok (given_by relation ∷ more)) =
    ap (λ vs. relations_from i lo count (items_view vs)) from_here ∙ ap (λ r. then_on r (λ g. then_on rest (λ more. Ok (g ∷ more)))) read in
    let behind : map given_by (before ++ relation ∷ []) ≡ map given_by before ++ given_by relation ∷ [] = map-append given_by before (relation ∷ []) in
    ap (λ done. then_on rest (λ more. Ok (done ++ more))) behind ∙ sym (put_behind rest (map given_by before) (given_by relation)) ∙ sym (ap (λ r. then_on r (λ more. Ok (map given_by before ++ more))) first) ∙ so_far

-- a relation that isn't read ends the reading
pub reads_no_more : (i : ℕ) (lo : ℤ) (count : ℕ) (list : List Value) (value : Value) (before : List RelPart) (fault : VocFault) (whole : Result (List Given) VocFault)
    → i < length list → value ≡ get_or list i value → relation_stated i lo count (view value) ≡ Err fault
    → then_on (relations_from i lo count (items_view (drop i list))) (λ more. Ok (map given_by before ++ more)) ≡ whole → whole ≡ Err fault
reads_no_more i lo count list value before fault whole within is refused so_far =
    let next : i + 1 ≡ suc i = omega arith in
    let rest = relations_from (i + 1) lo count (items_view (drop (i + 1) list)) in
    let from_here : drop i list ≡ value ∷ drop (i + 1) list = rw next (drop-cons list i value within ∙ ap (λ v. v ∷ drop (suc i) list) (sym is)) in
    let first : relations_from i lo count (items_view (drop i list)) ≡ Err fault =
    ap (λ vs. relations_from i lo count (items_view vs)) from_here ∙ ap (λ r. then_on r (λ g. then_on rest (λ more. Ok (g ∷ more)))) refused in
    sym so_far ∙ ap (λ r. then_on r (λ more. Ok (map given_by before ++ more))) first

-- all are read
pub reads_all : (i : ℕ) (lo : ℤ) (count : ℕ) (list : List Value) (before : List RelPart) (whole : Result (List Given) VocFault)
    → length list ≤ i → then_on (relations_from i lo count (items_view (drop i list))) (λ more. Ok (map given_by before ++ more)) ≡ whole → whole ≡ Ok (map given_by before)
reads_all i lo count list before whole done so_far =
    sym so_far ∙ at_drop_all (λ vs. then_on (relations_from i lo count (items_view vs)) (λ more. Ok (map given_by before ++ more))) list i done
    ∙ ap Ok (append-nil (map given_by before))
