-- Each question has a place, and no session is stuck.
use Rattle.session_laws.proofs.Prelude.{◌≡◌, ℕ, ◌*◌, Bool, true, false, List, [], ◌∷◌, ◌++◌, length, Option, Some, None, refl, ◌∙◌, ap, subst, position, option_map, is_some, Candidate, Plan, Scopes, Quacq, Multi, numbers, is_same, Assignment, restrict, Language, variable_count, Answer, kept, Halved, Wants, Got, halve, Choice, splitting_tuple, remaining, Walk, Turn, Asks, Ends, next_turn, State, Idle, Halving, Choosing, Walking, Over, MOST_SETS, wanted_set, open_question, next_scope, learn, at_turn, go_on, settle_choices, chosen, begin_choosing, found, with_quiet_replies, halved, settle_halving, if_passes, is_just, replied, replied_tuple, on_scope_asked, begun, step, scene_of, on_scope, free_choices, violated_choices, QuestionsHavePlaces, NeverStuck}
use Rattle.session_laws.proofs.Folds.{passed, assignment_same, reached}
use Rattle.session_laws.proofs.States.{halving_asks}

just_one : (o : Option Assignment) (q : Assignment) → o ≡ Some q → is_just o q ≡ true
just_one o q e = ap (λ x. is_just x q) e ∙ assignment_same q

if_it_passes : (b : Bool) (state : State) → b ≡ true → if_passes b state ≡ Some state
if_it_passes b state e = ap (λ x. if_passes x state) e

pub questions_have_places : QuestionsHavePlaces
questions_have_places = record {
  opened = λ l plan t state q reply h. go l plan t state q reply h;
  put = λ l plan t network end q reply h. (_, if_it_passes _ (begun l plan (t ++ record { question = q; yes = reply } ∷ []) (kept l t network) network q reply) h);
  scoped = λ l t network end q reply h. (_, if_it_passes _ (begun l Scopes (t ++ record { question = q; yes = reply } ∷ []) (kept l t network) network q reply) (just_one _ q h));
}
  where
    go : (l : Language) (plan : Plan) (t : List Answer) (state : State) (q : Assignment) (reply : Bool) → open_question l state ≡ Some q → (next : State) × (step l plan t (record { question = q; yes = reply }) state ≡ Some next)
    go l plan t (Idle network end) q reply h = absurd (let bad : ⊥ = cc in bad)
    go l plan t (Over network) q reply h = absurd (let bad : ⊥ = cc in bad)
    go l plan t (Halving e set replies network walk) q reply h =
        (replied l (t ++ record { question = q; yes = reply } ∷ []) reply (Halving e set replies network walk), if_it_passes _ _ (just_one _ q h))
    go l plan t (Choosing s choices network walk) q reply h =
        (replied l (t ++ record { question = q; yes = reply } ∷ []) reply (Choosing s choices network walk), if_it_passes _ _ (just_one _ q h))
    go l plan t (Walking set walk network) q reply h =
        (replied l (t ++ record { question = q; yes = reply } ∷ []) reply (Walking set walk network), if_it_passes _ _ (just_one _ q h))

-- ---- choices that are left differ on some tuple

abbrev Differs : Language → State → Type 0
Differs l (Idle network end) = Unit {0}
Differs l (Halving e set replies network walk) = Unit {0}
Differs l (Choosing s choices network walk) = is_some (splitting_tuple (scene_of l s) choices) ≡ true
Differs l (Walking set walk network) = Unit {0}
Differs l (Over network) = Unit {0}

at_turn_differs : (l : Language) (network : List Candidate) (turn : Turn) → Differs l (at_turn network turn)
at_turn_differs l network (Asks set walk) = tt
at_turn_differs l network (Ends end) = tt

go_on_differs : (l : Language) (t : List Answer) (network : List Candidate) (walk : Option Walk) → Differs l (go_on l t network walk)
go_on_differs l t network None = tt
go_on_differs l t network (Some walk) = at_turn_differs l network _

settle_differs : (l : Language) (t : List Answer) (s : ℕ) (choices : List Choice) (network : List Candidate) (walk : Option Walk) → Differs l (settle_choices l t s choices network walk)
settle_differs l t s choices network walk = go (splitting_tuple (scene_of l s) choices) refl
  where
    go : (o : Option (List ℕ)) → splitting_tuple (scene_of l s) choices ≡ o → Differs l (chosen l t s choices network walk o)
    go (Some u) e = ap is_some e
    go None e = go_on_differs l t (learn network s (remaining choices)) walk

begin_differs : (l : Language) (t : List Answer) (s : ℕ) (choices : List Choice) (network : List Candidate) (walk : Option Walk) → Differs l (begin_choosing l t s choices network walk)
begin_differs l t s [] network walk = tt
begin_differs l t s (c ∷ choices) network walk = settle_differs l t s (c ∷ choices) network walk

found_differs : (l : Language) (t : List Answer) (e : Assignment) (network : List Candidate) (walk : Option Walk) (o : Option ℕ) → Differs l (found l t e network walk o)
found_differs l t e network walk None = tt
found_differs l t e network walk (Some s) = begin_differs l t s (violated_choices l (kept l t network) e s) network walk

halved_differs : (l : Language) (t : List Answer) (e : Assignment) (set : List ℕ) (replies : List Bool) (network : List Candidate) (walk : Option Walk) (h : Halved) → Differs l (halved l t e set replies network walk h)
halved_differs l t e set replies network walk (Wants w) = tt
halved_differs l t e set replies network walk (Got s left) = found_differs l t e network walk (position (is_same s) l.scopes)

settle_halving_differs : (l : Language) (t : List Answer) (e : Assignment) (set : List ℕ) (replies : List Bool) (network : List Candidate) (walk : Option Walk) → Differs l (settle_halving l t e set replies network walk)
settle_halving_differs l t e set replies network walk = halved_differs l t e set (with_quiet_replies l (kept l t network) e set (2 * length set) replies) network walk _

replied_differs : (l : Language) (t : List Answer) (b : Bool) (state : State) → Differs l state → Differs l (replied l t b state)
replied_differs l t b (Idle network end) d = tt
replied_differs l t b (Over network) d = tt
replied_differs l t b (Halving e set replies network walk) d = settle_halving_differs l t e set (replies ++ b ∷ []) network walk
replied_differs l t b (Choosing s choices network walk) d = settle_differs l t s (replied_tuple (scene_of l s) b choices (splitting_tuple (scene_of l s) choices)) network walk
replied_differs l t true (Walking set walk network) d = go_on_differs l t network (Some walk)
replied_differs l t false (Walking set walk network) d = settle_halving_differs l t walk.example set [] network (Some (record walk { waiting = set ∷ walk.waiting }))

begun_differs : (l : Language) (plan : Plan) (t : List Answer) (live network : List Candidate) (q : Assignment) (b : Bool) → Differs l (begun l plan t live network q b)
begun_differs l Quacq t live network q true = tt
begun_differs l Quacq t live network q false = settle_halving_differs l t q (numbers (variable_count l)) [] network None
begun_differs l Multi t live network q b = replied_differs l t b (at_turn network (next_turn l network live q MOST_SETS (numbers (variable_count l) ∷ []))) (at_turn_differs l network _)
begun_differs l Scopes t live network q b = go (next_scope l live network)
  where
    go : (o : Option ℕ) → Differs l (on_scope_asked l t b live network o)
    go None = tt
    go (Some s) = settle_differs l t s (replied_tuple (scene_of l s) b (free_choices live s) (splitting_tuple (scene_of l s) (free_choices live s))) network None

step_differs : (l : Language) (plan : Plan) (t : List Answer) (a : Answer) (state next : State) → Differs l state → step l plan t a state ≡ Some next → Differs l next
step_differs l plan t a (Idle network end) next d h = subst (Differs l) (passed _ _ next h).1 (begun_differs l plan (t ++ a ∷ []) (kept l t network) network a.question a.yes)
step_differs l plan t a (Over network) next d h = absurd (let bad : ⊥ = cc in bad)
step_differs l plan t a (Halving e set replies network walk) next d h = subst (Differs l) (passed _ _ next h).1 (replied_differs l (t ++ a ∷ []) a.yes (Halving e set replies network walk) d)
step_differs l plan t a (Choosing s choices network walk) next d h = subst (Differs l) (passed _ _ next h).1 (replied_differs l (t ++ a ∷ []) a.yes (Choosing s choices network walk) d)
step_differs l plan t a (Walking set walk network) next d h = subst (Differs l) (passed _ _ next h).1 (replied_differs l (t ++ a ∷ []) a.yes (Walking set walk network) d)

some_mapped : {X Y : Type 0} (f : X → Y) (o : Option X) → is_some o ≡ true → is_some (option_map f o) ≡ true
some_mapped f None h = cc
some_mapped f (Some x) h = refl

pub never_stuck : NeverStuck
never_stuck l plan t (Idle network end) lawful h = tt
never_stuck l plan t (Over network) lawful h = tt
never_stuck l plan t (Walking set walk network) lawful h = refl
never_stuck l plan t (Halving e set replies network walk) lawful h =
    let asking = halving_asks l plan t e set replies network walk lawful h in
    some_mapped (restrict e) (wanted_set (halve set replies)) (ap (λ x. is_some (wanted_set x)) asking.wants)
never_stuck l plan t (Choosing s choices network walk) lawful h =
    some_mapped (on_scope l s) (splitting_tuple (scene_of l s) choices) (reached l plan (λ before state. Differs l state) tt (step_differs l plan) t (Choosing s choices network walk) h)
