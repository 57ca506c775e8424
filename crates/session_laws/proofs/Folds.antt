-- The fold over answers: what each step keeps holds of every state that is reached, and one answer more is one step more.
use Rattle.session_laws.proofs.Prelude.{◌≡◌, ℕ, ◌+◌, Bool, true, false, List, [], ◌∷◌, ◌++◌, length, Option, Some, None, refl, sym, ◌∙◌, ap, subst, option_map, append-nil, append_assoc, and_parts, and_from, eqb-true, eq-eqb, Assignment, is_same_assignment, is_same_value, Answer, Plan, Language, on_scope, State, Idle, At, if_passes, is_just, lead_on, step, read_on, state_after, OneAnswerMore}

-- ---- assignments that are the same

same_value : (x y : Option ℕ) → is_same_value x y ≡ true → x ≡ y
same_value None None h = refl
same_value None (Some y) h = cc
same_value (Some x) None h = cc
same_value (Some x) (Some y) h = ap Some (eqb-true x y h)

pub same_assignment : (e q : Assignment) → is_same_assignment e q ≡ true → e ≡ q
same_assignment [] [] h = refl
same_assignment [] (y ∷ q) h = cc
same_assignment (x ∷ e) [] h = cc
same_assignment (x ∷ e) (y ∷ q) h = let parts = and_parts (is_same_value x y) (is_same_assignment e q) h in λ i. same_value x y parts.0 i ∷ same_assignment e q parts.1 i

value_same : (x : Option ℕ) → is_same_value x x ≡ true
value_same None = refl
value_same (Some x) = eq-eqb x x refl

pub assignment_same : (e : Assignment) → is_same_assignment e e ≡ true
assignment_same [] = refl
assignment_same (x ∷ e) = and_from _ _ (value_same x) (assignment_same e)

-- ---- a step

pub passed : (b : Bool) (state next : State) → if_passes b state ≡ Some next → (b ≡ true) × (state ≡ next)
passed true state next h = (refl, cc)
passed false state next h = cc

-- the question about a scope that is open is the one that was answered
pub asked_is : (l : Language) (s : ℕ) (o : Option (List ℕ)) (q : Assignment) → is_just (option_map (on_scope l s) o) q ≡ true → (u : List ℕ) × (o ≡ Some u) × (q ≡ on_scope l s u)
asked_is l s None q h = cc
asked_is l s (Some u) q h = (u, refl, sym (same_assignment (on_scope l s u) q h))

-- ---- every state that is reached

read_keeps : (l : Language) (plan : Plan) (P : List Answer → State → Type 0) →
    ((t : List Answer) (a : Answer) (state next : State) → P t state → step l plan t a state ≡ Some next → P (t ++ a ∷ []) next) →
    (t before : List Answer) (state final : State) → P before state → read_on l plan before state t ≡ At final → P (before ++ t) final
unfolding read_on
read_keeps l plan P keeps [] before state final holds h =
    let same : state ≡ final = cc in
    subst (λ (x : List Answer). P x final) (sym (append-nil before)) (subst (P before) same holds)
read_keeps l plan P keeps (a ∷ t) before state final holds h =
    go (step l plan before a state) refl h (λ next at rest. read_keeps l plan P keeps t (before ++ a ∷ []) next final (keeps before a state next holds at) rest)
  where
    go : (o : Option State) → step l plan before a state ≡ o → lead_on (length before + 1) o (λ next. read_on l plan (before ++ a ∷ []) next t) ≡ At final →
        ((next : State) → step l plan before a state ≡ Some next → read_on l plan (before ++ a ∷ []) next t ≡ At final → P ((before ++ a ∷ []) ++ t) final) → P (before ++ a ∷ t) final
    go None at h rest = cc
    go (Some next) at h rest = subst (λ (x : List Answer). P x final) (append_assoc before (a ∷ []) t) (rest next at h)

-- what holds at first and is kept by each step holds of the state after any answers
pub reached : (l : Language) (plan : Plan) (P : List Answer → State → Type 0) → P [] (Idle [] None) →
    ((t : List Answer) (a : Answer) (state next : State) → P t state → step l plan t a state ≡ Some next → P (t ++ a ∷ []) next) →
    (t : List Answer) (final : State) → state_after l plan t ≡ At final → P t final
reached l plan P first keeps t final h = read_keeps l plan P keeps t [] (Idle [] None) final first h

-- ---- one answer more

read_more : (l : Language) (plan : Plan) (t before : List Answer) (a : Answer) (start state next : State) → read_on l plan before start t ≡ At state →
    step l plan (before ++ t) a state ≡ Some next → read_on l plan before start (t ++ a ∷ []) ≡ At next
unfolding read_on
read_more l plan [] before a start state next h s =
    let same : start ≡ state = cc in
    ap (λ o. lead_on (length before + 1) o At) ((λ i. step l plan (sym (append-nil before) i) a (same i)) ∙ s)
read_more l plan (b ∷ t) before a start state next h s =
    go (step l plan before b start) refl h (λ middle rest. read_more l plan t (before ++ b ∷ []) a middle state next rest (ap (λ xs. step l plan xs a state) (append_assoc before (b ∷ []) t) ∙ s))
  where
    go : (o : Option State) → step l plan before b start ≡ o → lead_on (length before + 1) o (λ middle. read_on l plan (before ++ b ∷ []) middle t) ≡ At state →
        ((middle : State) → read_on l plan (before ++ b ∷ []) middle t ≡ At state → read_on l plan (before ++ b ∷ []) middle (t ++ a ∷ []) ≡ At next) →
        lead_on (length before + 1) (step l plan before b start) (λ middle. read_on l plan (before ++ b ∷ []) middle (t ++ a ∷ [])) ≡ At next
    go None e h rest = cc
    go (Some middle) e h rest = ap (λ o. lead_on (length before + 1) o (λ middle. read_on l plan (before ++ b ∷ []) middle (t ++ a ∷ []))) e ∙ rest middle h

pub one_answer_more : OneAnswerMore
one_answer_more l plan t a state next reached moved = read_more l plan t [] a (Idle [] None) state next reached moved
