-- What is learned stays learned.
use Rattle.session_laws.proofs.Prelude.{◌≡◌, ℕ, ◌+◌, Bool, true, false, List, [], ◌∷◌, ◌++◌, length, Option, Some, None, refl, sym, ◌∙◌, ap, subst, append-nil, append_assoc, Candidate, Assignment, Answer, Plan, Scopes, Quacq, Multi, Language, Halved, Wants, Got, Choice, splitting_tuple, scene_of, free_choices, Walk, Turn, Asks, Ends, State, Idle, Halving, Choosing, Walking, Over, At, at_turn, go_on, learn, chosen, begin_choosing, found, halved, replied, replied_tuple, on_scope_asked, begun, lead_on, step, read_on, Extends, NetworkGrows, network_in}
use Rattle.session_laws.proofs.Folds.{passed, one_answer_more}

stays : (network : List Candidate) → Extends network network
stays network = record { more = []; is = sym (append-nil network) }

-- ---- what an answer makes of a network

turn_same : (network : List Candidate) (turn : Turn) → network_in (at_turn network turn) ≡ network
turn_same network (Asks set walk) = refl
turn_same network (Ends end) = refl

on_same : (l : Language) (t : List Answer) (network : List Candidate) (walk : Option Walk) → network_in (go_on l t network walk) ≡ network
on_same l t network None = refl
on_same l t network (Some walk) = turn_same network _

by_same : (network old : List Candidate) → network ≡ old → Extends old network
by_same network old is = record { more = []; is = is ∙ sym (append-nil old) }

learn_grows : (network : List Candidate) (s : ℕ) (c : Choice) → Extends network (learn network s c)
learn_grows network s None = stays network
learn_grows network s (Some r) = record { more = _; is = refl }

chosen_grows : (l : Language) (t : List Answer) (s : ℕ) (choices : List Choice) (network : List Candidate) (walk : Option Walk) (tuple : Option (List ℕ)) →
    Extends network (network_in (chosen l t s choices network walk tuple))
chosen_grows l t s choices network walk (Some tuple) = stays network
chosen_grows l t s choices network walk None = subst (Extends network) (sym (on_same l t _ walk)) (learn_grows network s _)

begin_grows : (l : Language) (t : List Answer) (s : ℕ) (choices : List Choice) (network : List Candidate) (walk : Option Walk) → Extends network (network_in (begin_choosing l t s choices network walk))
begin_grows l t s [] network walk = stays network
begin_grows l t s (c ∷ choices) network walk = chosen_grows l t s (c ∷ choices) network walk _

found_grows : (l : Language) (t : List Answer) (e : Assignment) (network : List Candidate) (walk : Option Walk) (s : Option ℕ) → Extends network (network_in (found l t e network walk s))
found_grows l t e network walk None = stays network
found_grows l t e network walk (Some s) = begin_grows l t s _ network walk

halved_grows : (l : Language) (t : List Answer) (e : Assignment) (set : List ℕ) (replies : List Bool) (network : List Candidate) (walk : Option Walk) (h : Halved) →
    Extends network (network_in (halved l t e set replies network walk h))
halved_grows l t e set replies network walk (Wants asked) = stays network
halved_grows l t e set replies network walk (Got last left) = found_grows l t e network walk _

replied_grows : (l : Language) (t : List Answer) (reply : Bool) (state : State) → Extends (network_in state) (network_in (replied l t reply state))
replied_grows l t reply (Idle network end) = stays network
replied_grows l t reply (Over network) = stays network
replied_grows l t reply (Halving e set replies network walk) = halved_grows l t e set _ network walk _
replied_grows l t reply (Choosing s choices network walk) = chosen_grows l t s (replied_tuple (scene_of l s) reply choices (splitting_tuple (scene_of l s) choices)) network walk _
replied_grows l t true (Walking set walk network) = by_same _ network (on_same l t network (Some walk))
replied_grows l t false (Walking set walk network) = halved_grows l t walk.example set _ network (Some _) _

asked_grows : (l : Language) (t : List Answer) (reply : Bool) (live network : List Candidate) (s : Option ℕ) → Extends network (network_in (on_scope_asked l t reply live network s))
asked_grows l t reply live network None = stays network
asked_grows l t reply live network (Some s) = replied_grows l t reply (Choosing s (free_choices live s) network None)

begun_grows : (l : Language) (plan : Plan) (t : List Answer) (live network : List Candidate) (q : Assignment) (reply : Bool) → Extends network (network_in (begun l plan t live network q reply))
begun_grows l Quacq t live network q true = stays network
begun_grows l Quacq t live network q false = halved_grows l t q _ _ network None _
begun_grows l Multi t live network q reply =
    subst (λ (old : List Candidate). Extends old (network_in (begun l Multi t live network q reply))) (turn_same network _) (replied_grows l t reply (at_turn network _))
begun_grows l Scopes t live network q reply = asked_grows l t reply live network _

step_grows : (l : Language) (plan : Plan) (t : List Answer) (a : Answer) (state next : State) → step l plan t a state ≡ Some next → Extends (network_in state) (network_in next)
step_grows l plan t a (Idle network end) next h =
    subst (λ s. Extends network (network_in s)) (passed _ _ next h).1 (begun_grows l plan (t ++ a ∷ []) _ network a.question a.yes)
step_grows l plan t a (Halving e set replies network walk) next h =
    subst (λ s. Extends network (network_in s)) (passed _ _ next h).1 (replied_grows l (t ++ a ∷ []) a.yes (Halving e set replies network walk))
step_grows l plan t a (Choosing s choices network walk) next h =
    subst (λ s. Extends network (network_in s)) (passed _ _ next h).1 (replied_grows l (t ++ a ∷ []) a.yes (Choosing s choices network walk))
step_grows l plan t a (Walking set walk network) next h =
    subst (λ s. Extends network (network_in s)) (passed _ _ next h).1 (replied_grows l (t ++ a ∷ []) a.yes (Walking set walk network))
step_grows l plan t a (Over network) next h = absurd (let none : ⊥ = cc in none)

-- ---- where an answer has no place, no state is reached

read_none : (l : Language) (plan : Plan) (t before : List Answer) (a : Answer) (start state final : State) → read_on l plan before start t ≡ At state →
    step l plan (before ++ t) a state ≡ None → read_on l plan before start (t ++ a ∷ []) ≡ At final → ⊥
unfolding read_on
read_none l plan [] before a start state final h none at =
    let same : start ≡ state = cc in
    stray (ap (λ o. lead_on (length before + 1) o At) (sym ((λ i. step l plan (sym (append-nil before) i) a (same i)) ∙ none)) ∙ at)
  where
    stray : lead_on (length before + 1) None At ≡ At final → ⊥
    stray e = cc
read_none l plan (b ∷ t) before a start state final h none at =
    go (step l plan before b start) refl h (λ middle rest on. read_none l plan t (before ++ b ∷ []) a middle state final rest (ap (λ xs. step l plan xs a state) (append_assoc before (b ∷ []) t) ∙ none) on)
  where
    go : (o : Option State) → step l plan before b start ≡ o → lead_on (length before + 1) o (λ middle. read_on l plan (before ++ b ∷ []) middle t) ≡ At state →
        ((middle : State) → read_on l plan (before ++ b ∷ []) middle t ≡ At state → read_on l plan (before ++ b ∷ []) middle (t ++ a ∷ []) ≡ At final → ⊥) → ⊥
    go None e h rest = cc
    go (Some middle) e h rest = rest middle h (ap (λ o. lead_on (length before + 1) o (λ middle. read_on l plan (before ++ b ∷ []) middle (t ++ a ∷ []))) (sym e) ∙ at)

pub network_grows : NetworkGrows
network_grows l plan t a state next at then = go (step l plan t a state) refl
  where
    same_state : (x : State) → At x ≡ At next → x ≡ next
    same_state x e = cc

    go : (o : Option State) → step l plan t a state ≡ o → Extends (network_in state) (network_in next)
    go None e = absurd (read_none l plan t [] a (Idle [] None) state next at e then)
    go (Some s) e = subst (λ x. Extends (network_in state) (network_in x)) (same_state s (sym (one_answer_more l plan t a state s at e) ∙ then)) (step_grows l plan t a state s e)
