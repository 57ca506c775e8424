-- What a session knows after an answer.
use Rattle.session_core.proofs.Prelude.{◌≡◌, ℕ, ◌+◌, ◌-◌, ◌^◌, ◌<◌, min, Bool, true, false, ◌||◌, ◌&&◌, not, cond, List, [], ◌∷◌, ◌++◌, map, length, refl, sym, ◌∙◌, ap, subst, arith, Option, Some, None, length-append, filter, ◌==◌, ◌≢◌, All-nil, All-cons, All-head, All-tail, All-filter, list_any-append, and_parts, eqb-true, or_parts, numbers, Assignment, restrict, Answer, Plan, Scopes, Quacq, Multi, Candidate, Language, IsLanguage, variable_count, violates, has_scope, kept, ScopeRun, standing_tells, TellingRun, IsRun, Choice, splitting_tuple, after_reply, scene_of, free_choices, violated_choices, State, Idle, Choosing, At, begun, is_lawful, settle_choices, settle_halving, is_undecided, next_scope, read_on, state_after, one_answer_more, kept_steps, Knowledge, NoneBefore, AreUnlearned, IsNew, BeginsOnFirst, IsAnswered, IsFirstTuple, run_question, Knows, LeadsTo, IsNewAfter, WalksAfter, HalvesAfter, part_replied, IsLed, Stage, walk_in, first_asked}
use Rattle.session_laws.proofs.Counted.{answers_are_at_most}
use Rattle.session_laws.proofs.Limits.{answers_fit}
use Rattle.session_core.proofs.Deciding.{stays_decided}
use Rattle.session_core.proofs.Steps.{said, open_step, new_step, example_step, begun_whole, begun_walk, walk_step, part_step, next_is}

-- ---- the kept candidates

pub filter_all : {X : Type 0} (xs : List X) → filter (λ _. true) xs ≡ xs
filter_all [] = refl
filter_all (x ∷ xs) = ap (λ ys. x ∷ ys) (filter_all xs)

-- a no leaves them
pub none_struck : {X : Type 0} (reply : Bool) (struck : X → Bool) (xs : List X) → reply ≡ false → xs ≡ filter (λ x. not (reply && struck x)) xs
none_struck true struck xs h = cc
none_struck false struck xs h = sym (filter_all xs)

pub kept_by : (l : Language) (t : List Answer) (network : List Candidate) (q : Assignment) (reply : Bool) →
    kept l (t ++ said q reply ∷ []) network ≡ filter (λ c. not (reply && violates l c q)) (kept l t network)
kept_by l t network q true = kept_steps.yes l t network q
kept_by l t network q false = kept_steps.no l t network q ∙ sym (filter_all (kept l t network))

-- after a candidate of this scope is learned
pub kept_learned : (l : Language) (t : List Answer) (network : List Candidate) (c : Candidate) →
    kept l t (network ++ c ∷ []) ≡ filter (λ d. not (c.scope == d.scope)) (kept l t network)
kept_learned l t network c = kept_steps.learned l t network c.scope c.rel

-- before any answer
pub state_nil : (l : Language) (plan : Plan) → state_after l plan [] ≡ At (Idle [] None)
unfolding read_on
state_nil l plan = refl

-- ---- what is decided

decided_after : (l : Language) (p : Candidate → Bool) (live live' network more : List Candidate) (n : ℕ) → live' ≡ filter p live →
    ((s : ℕ) → has_scope more s ≡ false → has_scope network s ≡ false) → NoneBefore l live network n → NoneBefore l live' more n
decided_after l p live live' network more n is free below s low =
    ap (λ cs. is_undecided l cs more s) is ∙ stays_decided l p live network more s (free s) (below s low)

-- after an answer
pub decided_on : (l : Language) (p : Candidate → Bool) (live live' network : List Candidate) (n : ℕ) → live' ≡ filter p live → NoneBefore l live network n → NoneBefore l live' network n
decided_on l p live live' network n is below = decided_after l p live live' network network n is (λ s h. h) below

-- after a candidate is learned
pub decided_learned : (l : Language) (p : Candidate → Bool) (live live' network more : List Candidate) (c : Candidate) (n : ℕ) → live' ≡ filter p live → more ≡ network ++ c ∷ [] →
    NoneBefore l live network n → NoneBefore l live' more n
decided_learned l p live live' network more c n is learned below =
    decided_after l p live live' network more n is
    (λ s h. (or_parts (has_scope network s) (has_scope (c ∷ []) s) (sym (ap (λ cs. has_scope cs s) learned ∙ list_any-append (λ (d : Candidate). d.scope == s) network (c ∷ [])) ∙ h)).0) below

-- a run that begins on the first undecided scope
pub first_is : (l : Language) (live network : List Candidate) (s : ℕ) (run : TellingRun) → IsNew l live network s run → is_undecided l live network s ≡ true → NoneBefore l live network s → s < length l.scopes →
    BeginsOnFirst l live network run
first_is l live network s run new on below low =
    let at : s ≡ run.scope = sym new.scope in
    record {
      new = record { sound = new.sound; scope = refl; choices = new.choices ∙ ap (free_choices live) at; free = ap (has_scope network) new.scope ∙ new.free };
      before = subst (NoneBefore l live network) at below;
      next = next_is l live network s (length l.scopes) low below on ∙ ap (λ v. Some v) at;
    }

-- where nothing is learned on the scopes of the kept candidates, that stays so as another scope leaves them
pub unlearned_after : (c : Candidate) (network more : List Candidate) (live : List Candidate) → more ≡ network ++ c ∷ [] → AreUnlearned live network → AreUnlearned (filter (λ d. not (c.scope == d.scope)) live) more
unlearned_after c network more live learned all =
    subst (AreUnlearned (filter (λ d. not (c.scope == d.scope)) live)) (sym learned) (go live all)
  where
    at : (d : Candidate) → has_scope network d.scope ≡ false → (c.scope == d.scope) ≡ false → has_scope (network ++ c ∷ []) d.scope ≡ false
    at d free other =
        list_any-append (λ (x : Candidate). x.scope == d.scope) network (c ∷ []) ∙ (λ i. free i || (other i || false))

    go : (cs : List Candidate) → AreUnlearned cs network → AreUnlearned (filter (λ d. not (c.scope == d.scope)) cs) (network ++ c ∷ [])
    go [] h = All-nil (λ (d : Candidate). has_scope (network ++ c ∷ []) d.scope ≡ false)
    go (d ∷ cs) h = on (c.scope == d.scope) refl (go cs (All-tail (λ (x : Candidate). has_scope network x.scope ≡ false) d cs h))
      where
        on : (b : Bool) → (c.scope == d.scope) ≡ b → AreUnlearned (filter (λ x. not (c.scope == x.scope)) cs) (network ++ c ∷ []) →
            AreUnlearned (cond (not b) (d ∷ filter (λ x. not (c.scope == x.scope)) cs) (filter (λ x. not (c.scope == x.scope)) cs)) (network ++ c ∷ [])
        on true same rest = rest
        on false other rest = All-cons (λ (x : Candidate). has_scope (network ++ c ∷ []) x.scope ≡ false) d _ (at d (All-head (λ (x : Candidate). has_scope network x.scope ≡ false) d cs h) other) rest

pub unlearned_struck : (p : Candidate → Bool) (network live live' : List Candidate) → live' ≡ filter p live → AreUnlearned live network → AreUnlearned live' network
unlearned_struck p network live live' is all =
    subst (λ cs. AreUnlearned cs network) (sym is) (All-filter p (λ (c : Candidate). has_scope network c.scope ≡ false) live all)

-- a scope of a kept candidate that e violates has nothing learned on it
pub unlearned_scope : (l : Language) (live network : List Candidate) (e : Assignment) (s : ℕ) → AreUnlearned live network → (violated_choices l live e s ≡ [] → ⊥) → has_scope network s ≡ false
unlearned_scope l [] network e s all some = absurd (some refl)
unlearned_scope l (c ∷ live) network e s all some =
    go ((c.scope == s) && violates l c e) refl (unlearned_scope l live network e s (All-tail (λ (x : Candidate). has_scope network x.scope ≡ false) c live all))
  where
    go : (b : Bool) → ((c.scope == s) && violates l c e) ≡ b → ((violated_choices l live e s ≡ [] → ⊥) → has_scope network s ≡ false) → has_scope network s ≡ false
    go true here rest =
        ap (has_scope network) (sym (eqb-true c.scope s (and_parts (c.scope == s) (violates l c e) here).0)) ∙ All-head (λ (x : Candidate). has_scope network x.scope ≡ false) c live all
    go false off rest = rest (λ none. some (ap (λ b. map (λ (d : Candidate). let o : Choice = Some d.rel in o) (cond b (c ∷ filter (λ d. (d.scope == s) && violates l d e) live) (filter (λ d. (d.scope == s) && violates l d e) live))) off ∙ none))

-- ---- what is known after an answer

-- the count is that of the answers
pub counted : (l : Language) (plan : Plan) (t : List Answer) (a : Answer) (state : State) (before after : ℕ) → IsLanguage l → state_after l plan (t ++ a ∷ []) ≡ At state →
    before ≡ length t → after ≡ min (before + 1) (2 ^ 32 - 1) → after ≡ length (t ++ a ∷ [])
counted l plan t a state before after lawful at is sum =
    let most = answers_are_at_most l plan (t ++ a ∷ []) state lawful at in
    let fit = answers_fit l lawful in
    let long : length (t ++ a ∷ []) ≡ length t + 1 = length-append t (a ∷ []) in
    omega arith

-- what is known after an answer is what the answers with it lead to
pub led : (k k' : Knowledge) (q : Assignment) (reply : Bool) (t : List Answer) (state : State) → IsLanguage k'.lang → IsAnswered k q reply k' → Knows k t →
    LeadsTo k' (t ++ said q reply ∷ []) state → IsLed k' (t ++ said q reply ∷ []) state
led k k' q reply t state lawful same knows at =
    record {
      at = at;
      knows = record {
        kept = same.kept ∙ ap (filter (λ c. not (reply && violates k.lang c q))) knows.kept ∙ sym (kept_by k.lang t k.network.list q reply)
            ∙ (λ i. kept (sym same.lang i) (t ++ said q reply ∷ []) ((sym same.network i).list));
        count = counted k'.lang k'.plan t (said q reply) state k.answers k'.answers lawful at knows.count same.count;
      };
    }

-- a state of what was known before the answer, as one of what is known after it
moved : (k k' : Knowledge) (q : Assignment) (reply : Bool) (t : List Answer) (state : Language → List Candidate → Stage → State) → IsAnswered k q reply k' →
    state_after k.lang k.plan t ≡ At (state k.lang k.network.list k.tree) → LeadsTo k' t (state k'.lang k'.network.list k'.tree)
moved k k' q reply t state same at = (λ i. state_after (same.lang i) (same.plan i) t) ∙ at ∙ (λ i. At (state (sym same.lang i) ((sym same.network i).list) (sym same.tree i)))

-- ---- an answer to each kind of question

-- in each plan that has examples
begun_in : (k : Knowledge) (t : List Answer) (live : List Candidate) (e : Assignment) (reply : Bool) → IsLanguage k.lang → k.plan ≢ Scopes → (k.plan ≡ Multi → k.tree ≡ first_asked k.lang e) → is_lawful k.lang k.plan live k.network.list e ≡ true →
    begun k.lang k.plan t live k.network.list e reply ≡ part_replied k.lang t e (numbers (variable_count k.lang)) reply k.network.list k.tree
begun_in k t live e reply lawful other first may = go k.plan refl
  where
    go : (plan : Plan) → k.plan ≡ plan → begun k.lang k.plan t live k.network.list e reply ≡ part_replied k.lang t e (numbers (variable_count k.lang)) reply k.network.list k.tree
    go Scopes is = absurd (other is)
    go Quacq is = ap (λ plan. begun k.lang plan t live k.network.list e reply) is ∙ begun_whole k.lang t live k.network.list e reply k.tree (k.resting (λ multi. let no : Quacq ≡ Multi = sym is ∙ multi in absurd (let bad : ⊥ = cc in bad)))
    go Multi is = ap (λ plan. begun k.lang plan t live k.network.list e reply) is
        ∙ begun_walk k.lang lawful t live k.network.list e reply k.tree (ap (λ plan. is_lawful k.lang plan live k.network.list e) (sym is) ∙ may) (first is)

pub example_led : (k k' : Knowledge) (e q : Assignment) (reply : Bool) (t : List Answer) → IsLanguage k'.lang → IsAnswered k q reply k' → Knows k t → q ≡ e → k.plan ≢ Scopes → (k.plan ≡ Multi → k.tree ≡ first_asked k.lang e) → IsNewAfter k e t →
    IsLed k' (t ++ said q reply ∷ []) (part_replied k'.lang (t ++ said q reply ∷ []) e (numbers (variable_count k'.lang)) reply k'.network.list k'.tree)
example_led k k' e q reply t lawful same knows is other first new =
    let live : List Candidate = kept k.lang t k.network.list in
    let may : is_lawful k.lang k.plan live k.network.list e ≡ true =
    (λ i. is_lawful k.lang k.plan (sym knows.kept i) k.network.list e) ∙ new.lawful in
    let at : state_after k.lang k.plan (t ++ said e reply ∷ []) ≡ At (part_replied k.lang (t ++ said e reply ∷ []) e (numbers (variable_count k.lang)) reply k.network.list k.tree) =
    example_step one_answer_more k.lang k.plan t k.network.list new.end e reply new.idle may
    ∙ ap At (begun_in k (t ++ said e reply ∷ []) live e reply (subst IsLanguage same.lang lawful) other first may) in
    led k k' q reply t _ lawful same knows
    (moved k k' q reply (t ++ said q reply ∷ []) (λ l network stage. part_replied l (t ++ said q reply ∷ []) e (numbers (variable_count l)) reply network stage) same
    (subst (λ x. state_after k.lang k.plan (t ++ said x reply ∷ []) ≡ At (part_replied k.lang (t ++ said x reply ∷ []) e (numbers (variable_count k.lang)) reply k.network.list k.tree)) (sym is) at))

pub walk_led : (k k' : Knowledge) (e q : Assignment) (set : List ℕ) (reply : Bool) (t : List Answer) → IsLanguage k'.lang → IsAnswered k q reply k' → Knows k t → q ≡ restrict e set → WalksAfter k e set t →
    IsLed k' (t ++ said q reply ∷ []) (part_replied k'.lang (t ++ said q reply ∷ []) e set reply k'.network.list k'.tree)
walk_led k k' e q set reply t lawful same knows is h =
    let at : state_after k.lang k.plan (t ++ said (restrict e set) reply ∷ []) ≡ At (part_replied k.lang (t ++ said (restrict e set) reply ∷ []) e set reply k.network.list k.tree) =
    subst (λ x. state_after k.lang k.plan (t ++ said (restrict x set) reply ∷ []) ≡ At (part_replied k.lang (t ++ said (restrict x set) reply ∷ []) x set reply k.network.list k.tree)) h.example
    (walk_step one_answer_more k.lang k.plan t set h.walk k.network.list reply h.walking
    ∙ ap (λ stage. At (part_replied k.lang (t ++ said (restrict h.walk.example set) reply ∷ []) h.walk.example set reply k.network.list stage)) (sym h.stage)) in
    led k k' q reply t _ lawful same knows
    (moved k k' q reply (t ++ said q reply ∷ []) (λ l network stage. part_replied l (t ++ said q reply ∷ []) e set reply network stage) same
    (subst (λ x. state_after k.lang k.plan (t ++ said x reply ∷ []) ≡ At (part_replied k.lang (t ++ said x reply ∷ []) e set reply k.network.list k.tree)) (sym is) at))

pub part_led : (k k' : Knowledge) (e q : Assignment) (set : List ℕ) (run : ScopeRun) (reply : Bool) (t : List Answer) → IsLanguage k'.lang → IsAnswered k q reply k' → Knows k t → q ≡ restrict e run.base → (h : HalvesAfter k e set run t) →
    IsLed k' (t ++ said q reply ∷ []) (settle_halving k'.lang (t ++ said q reply ∷ []) e set (h.replies ++ reply ∷ []) k'.network.list (walk_in k'.tree))
part_led k k' e q set run reply t lawful same knows is h =
    let at : state_after k.lang k.plan (t ++ said (restrict e run.base) reply ∷ [])
    ≡ At (settle_halving k.lang (t ++ said (restrict e run.base) reply ∷ []) e set (h.replies ++ reply ∷ []) k.network.list (walk_in k.tree)) =
    part_step one_answer_more k.lang k.plan t e set h.replies k.network.list (walk_in k.tree) run.base reply h.halving
    (standing_tells.waits run set h.replies h.running) in
    led k k' q reply t _ lawful same knows
    (moved k k' q reply (t ++ said q reply ∷ []) (λ l network stage. settle_halving l (t ++ said q reply ∷ []) e set (h.replies ++ reply ∷ []) network (walk_in stage)) same
    (subst (λ x. state_after k.lang k.plan (t ++ said x reply ∷ []) ≡ At (settle_halving k.lang (t ++ said x reply ∷ []) e set (h.replies ++ reply ∷ []) k.network.list (walk_in k.tree))) (sym is) at))

-- the choices that are left after a reply about a run's tuple
abbrev pub left_after : Language → TellingRun → Bool → List Choice
left_after l run reply = after_reply (scene_of l run.scope) run.tuple reply run.choices

choices_led : (k k' : Knowledge) (q : Assignment) (run : TellingRun) (reply : Bool) (t : List Answer) → IsLanguage k'.lang → IsAnswered k q reply k' → Knows k t → q ≡ run_question k.lang run →
    state_after k.lang k.plan (t ++ said (run_question k.lang run) reply ∷ []) ≡ At (settle_choices k.lang (t ++ said (run_question k.lang run) reply ∷ []) run.scope (left_after k.lang run reply) k.network.list (walk_in k.tree)) →
    IsLed k' (t ++ said q reply ∷ []) (settle_choices k'.lang (t ++ said q reply ∷ []) run.scope (left_after k'.lang run reply) k'.network.list (walk_in k'.tree))
choices_led k k' q run reply t lawful same knows is at =
    led k k' q reply t _ lawful same knows
    (moved k k' q reply (t ++ said q reply ∷ []) (λ l network stage. settle_choices l (t ++ said q reply ∷ []) run.scope (left_after l run reply) network (walk_in stage)) same
    (subst (λ x. state_after k.lang k.plan (t ++ said x reply ∷ []) ≡ At (settle_choices k.lang (t ++ said x reply ∷ []) run.scope (left_after k.lang run reply) k.network.list (walk_in k.tree))) (sym is) at))

pub tuple_led : (k k' : Knowledge) (q : Assignment) (run : TellingRun) (reply : Bool) (t : List Answer) → IsLanguage k'.lang → IsAnswered k q reply k' → Knows k t → q ≡ run_question k.lang run → IsRun k.lang run →
    LeadsTo k t (Choosing run.scope run.choices k.network.list (walk_in k.tree)) →
    IsLed k' (t ++ said q reply ∷ []) (settle_choices k'.lang (t ++ said q reply ∷ []) run.scope (left_after k'.lang run reply) k'.network.list (walk_in k'.tree))
tuple_led k k' q run reply t lawful same knows is sound at =
    choices_led k k' q run reply t lawful same knows is (open_step one_answer_more k.lang k.plan t run.scope run.choices k.network.list (walk_in k.tree) run.tuple reply at sound.tuple)

pub first_led : (k k' : Knowledge) (q : Assignment) (run : TellingRun) (reply : Bool) (t : List Answer) → IsLanguage k'.lang → IsAnswered k q reply k' → Knows k t → q ≡ run_question k.lang run → IsFirstTuple k run →
    IsNewAfter k (run_question k.lang run) t →
    IsLed k' (t ++ said q reply ∷ []) (settle_choices k'.lang (t ++ said q reply ∷ []) run.scope (left_after k'.lang run reply) k'.network.list (walk_in k'.tree))
first_led k k' q run reply t lawful same knows is due new =
    let l : Language = k.lang in
    let a : Answer = said (run_question l run) reply in
    let began = due.first in
    let as_kept : run.choices ≡ free_choices (kept l t k.network.list) run.scope = began.new.choices ∙ ap (λ cs. free_choices cs run.scope) knows.kept in
    let none : walk_in k.tree ≡ None = k.resting (λ multi. let no : Scopes ≡ Multi = sym due.plan ∙ multi in absurd (let bad : ⊥ = cc in bad)) in
    choices_led k k' q run reply t lawful same knows is
    (ap (λ p. state_after l p (t ++ a ∷ [])) due.plan
    ∙ new_step one_answer_more l t k.network.list new.end run.scope run.tuple reply (ap (λ p. state_after l p t) (sym due.plan) ∙ new.idle)
    (ap next_of (sym knows.kept) ∙ began.next)
    (ap (λ cs. splitting_tuple (scene_of l run.scope) cs) (sym as_kept) ∙ began.new.sound.tuple)
    ∙ ap (λ cs. At (settle_choices l (t ++ a ∷ []) run.scope (after_reply (scene_of l run.scope) run.tuple reply cs) k.network.list None)) (sym as_kept)
    ∙ ap (λ walk. At (settle_choices l (t ++ a ∷ []) run.scope (after_reply (scene_of l run.scope) run.tuple reply run.choices) k.network.list walk)) (sym none))
  where
    next_of : List Candidate → Option ℕ
    next_of cs = next_scope k.lang cs k.network.list

-- ---- states that are the same

pub led_as : (k : Knowledge) (t : List Answer) (state other : State) → state ≡ other → IsLed k t state → IsLed k t other
led_as k t state other is h = record { at = h.at ∙ ap At is; knows = h.knows }

-- what is known is the same
pub led_from : (known k : Knowledge) (t : List Answer) (state : Knowledge → State) → known ≡ k → IsLed k t (state k) → IsLed known t (state known)
led_from known k t state same h = subst (λ (x : Knowledge). IsLed x t (state x)) (sym same) h
