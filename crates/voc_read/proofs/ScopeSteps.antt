-- One scope more is read.
use Rattle.voc_read.proofs.Prelude.{◌≡◌, ℕ, suc, ◌+◌, ◌<◌, ◌≤◌, ◌++◌, List, [], ◌∷◌, length, drop, get_or, map, Result, Ok, Err, refl, sym, ap, ◌∙◌, append_assoc, arith, drop-cons, append-nil, at_drop_all, map-append, view, items_view, Value, VocFault, then_on, scope_stated, scopes_from}
use Rattle.smallvec.specs.SmallVec.{SmallVec}

abbrev pub Listed : Type 0
Listed = SmallVec ℕ

abbrev pub variables : List Listed → List (List ℕ)
variables scopes = map (λ scope. scope.items) scopes

-- it stands behind those that were read before
put_behind : (rest : Result (List (List ℕ)) VocFault) (before : List (List ℕ)) (scope : List ℕ)
    → then_on (then_on rest (λ more. Ok (scope ∷ more))) (λ more. Ok (before ++ more)) ≡ then_on rest (λ more. Ok ((before ++ scope ∷ []) ++ more))
put_behind (Ok more) before scope = ap Ok (sym (append_assoc before (scope ∷ []) more))
put_behind (Err fault) before scope = refl

pub reads_one_more : (i : ℕ) (names : List (List ℕ)) (list : List Value) (value : Value) (before : List Listed) (scope : Listed) (whole : Result (List (List ℕ)) VocFault)
    → i < length list → value ≡ get_or list i value → scope_stated i names (view value) ≡ Ok scope.items
    → then_on (scopes_from i names (items_view (drop i list))) (λ more. Ok (variables before ++ more)) ≡ whole
    → then_on (scopes_from (i + 1) names (items_view (drop (i + 1) list))) (λ more. Ok (variables (before ++ scope ∷ []) ++ more)) ≡ whole
reads_one_more i names list value before scope whole within is read so_far =
    let next : i + 1 ≡ suc i = omega arith in
    let rest = scopes_from (i + 1) names (items_view (drop (i + 1) list)) in
    let from_here : drop i list ≡ value ∷ drop (i + 1) list = rw next (drop-cons list i value within ∙ ap (λ v. v ∷ drop (suc i) list) (sym is)) in
    let first : scopes_from i names (items_view (drop i list)) ≡ then_on rest (λ more. Ok (scope.items ∷ more)) =
    ap (λ vs. scopes_from i names (items_view vs)) from_here ∙ ap (λ r. then_on r (λ s. then_on rest (λ more. Ok (s ∷ more)))) read in
    let behind : variables (before ++ scope ∷ []) ≡ variables before ++ scope.items ∷ [] = map-append (λ (s : Listed). s.items) before (scope ∷ []) in
    ap (λ done. then_on rest (λ more. Ok (done ++ more))) behind ∙ sym (put_behind rest (variables before) scope.items) ∙ sym (ap (λ r. then_on r (λ more. Ok (variables before ++ more))) first) ∙ so_far

-- a scope that isn't read ends the reading
pub reads_no_more : (i : ℕ) (names : List (List ℕ)) (list : List Value) (value : Value) (before : List Listed) (fault : VocFault) (whole : Result (List (List ℕ)) VocFault)
    → i < length list → value ≡ get_or list i value → scope_stated i names (view value) ≡ Err fault
    → then_on (scopes_from i names (items_view (drop i list))) (λ more. Ok (variables before ++ more)) ≡ whole → whole ≡ Err fault
reads_no_more i names list value before fault whole within is refused so_far =
    let next : i + 1 ≡ suc i = omega arith in
    let rest = scopes_from (i + 1) names (items_view (drop (i + 1) list)) in
    let from_here : drop i list ≡ value ∷ drop (i + 1) list = rw next (drop-cons list i value within ∙ ap (λ v. v ∷ drop (suc i) list) (sym is)) in
    let first : scopes_from i names (items_view (drop i list)) ≡ Err fault =
    ap (λ vs. scopes_from i names (items_view vs)) from_here ∙ ap (λ r. then_on r (λ s. then_on rest (λ more. Ok (s ∷ more)))) refused in
    sym so_far ∙ ap (λ r. then_on r (λ more. Ok (variables before ++ more))) first

-- all are read
pub reads_all : (i : ℕ) (names : List (List ℕ)) (list : List Value) (before : List Listed) (whole : Result (List (List ℕ)) VocFault)
    → length list ≤ i → then_on (scopes_from i names (items_view (drop i list))) (λ more. Ok (variables before ++ more)) ≡ whole → whole ≡ Ok (variables before)
reads_all i names list before whole done so_far =
    sym so_far ∙ at_drop_all (λ vs. then_on (scopes_from i names (items_view vs)) (λ more. Ok (variables before ++ more))) list i done
    ∙ ap Ok (append-nil (variables before))
