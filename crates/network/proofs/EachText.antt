-- Each list of bytes is a network, or is refused.
use Rattle.network.proofs.Prelude.{◌≡◌, ◌≢◌, ℕ, ◌++◌, Bool, true, false, cond, nat_lt, List, [], ◌∷◌, length, Option, Some, None, Result, Ok, Err, refl, subst, ◌⊎◌, inl, inr, ok_or, option_map, Data, Items, no_items, item, Candidate, scope_named, Language, NetFault, TooLong, NotJson, NotList, BadItem, UnknownScope, UnknownRelation, ScopeRepeated, Memory, then_on, unless, EachNetworkIsReadOrRefused, Stated, stated_in, pieces, relation_by, repeat_of, candidate_of, candidate_in, network_from, json_of, network_of_items, network_of, as_array}

-- what isn't read is refused for a fault of the bytes
abbrev OfErr : {A : Type 0} → Result A NetFault → Type 0
OfErr (Ok x) = Unit {0}
OfErr (Err fault) = fault ≢ Memory

after : {A B : Type 0} (r : Result A NetFault) (next : A → Result B NetFault) → OfErr r → ((x : A) → OfErr (next x)) → OfErr (then_on r next)
after (Ok x) next first rest = rest x
after (Err fault) next first rest = first

or_else : {A : Type 0} (o : Option A) (fault : NetFault) → fault ≢ Memory → OfErr (ok_or o fault)
or_else None fault own = own
or_else (Some x) fault own = tt

unrepeated : {A : Type 0} (n : ℕ) (o : Option ℕ) (next : Result A NetFault) → OfErr next → OfErr (unless (option_map (λ j. ScopeRepeated j n) o) next)
unrepeated n None next h = h
unrepeated n (Some j) next h = λ e. cc

stated : (l : Language) (before : List Candidate) (s : Stated) → OfErr (candidate_of l before s)
stated l before s =
    after (ok_or (scope_named l s.variables) (UnknownScope (length before))) _ (or_else (scope_named l s.variables) (UnknownScope (length before)) (λ e. cc)) (λ scope.
    after (ok_or (relation_by l scope (pieces s.relation)) (UnknownRelation (length before))) _ (or_else (relation_by l scope (pieces s.relation)) (UnknownRelation (length before)) (λ e. cc)) (λ rel.
    unrepeated (length before) (repeat_of before scope) _ tt))

items : (l : Language) (before : List Candidate) (values : Items) → OfErr (network_from l before values)
items l before no_items = tt
items l before (item value values) =
    after (candidate_in l before value) (λ c. network_from l (before ++ c ∷ []) values)
    (after (ok_or (stated_in value) (BadItem (length before))) (candidate_of l before) (or_else (stated_in value) (BadItem (length before)) (λ e. cc)) (stated l before))
    (λ c. items l (before ++ c ∷ []) values)

whole : (l : Language) (value : Data) → OfErr (network_of_items l value)
whole l value = after (ok_or (as_array value) NotList) (network_from l []) (or_else (as_array value) NotList (λ e. cc)) (items l [])

when_short : (long : Bool) (read : Result (List Candidate) NetFault) → OfErr read → OfErr (cond long (Err TooLong) read)
when_short true read own = λ e. cc
when_short false read own = own

own : (l : Language) (bytes : List ℕ) → OfErr (network_of l bytes)
unfolding network_of
own l bytes =
    when_short (nat_lt 4194304 (length bytes)) (then_on (ok_or (json_of bytes) NotJson) (network_of_items l))
    (after (ok_or (json_of bytes) NotJson) (network_of_items l) (or_else (json_of bytes) NotJson (λ e. cc)) (whole l))

told : (l : Language) (bytes : List ℕ) (answer : Result (List Candidate) NetFault) → network_of l bytes ≡ answer →
    ((network : List Candidate) × (network_of l bytes ≡ Ok network)) ⊎ ((fault : NetFault) × (fault ≢ Memory) × (network_of l bytes ≡ Err fault))
told l bytes (Ok network) is = inl (network, is)
told l bytes (Err fault) is = inr (fault, subst OfErr is (own l bytes), is)

pub each_text : EachNetworkIsReadOrRefused
each_text l bytes = told l bytes (network_of l bytes) refl
