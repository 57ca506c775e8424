-- How a session is led through answers.
use Rattle.session_store.proofs.Prelude.{◌≡◌, ℕ, suc, ◌+◌, ◌-◌, ◌<◌, ◌≤◌, Bool, true, false, cond, List, [], ◌∷◌, ◌++◌, length, get_or, take, drop, Option, Some, None, refl, sym, ◌∙◌, ap, subst, arith, length-append, length-take-le, drop_all, take_all, map-append, length-map, take-suc, drop-cons, Assignment, Answer, without_last, standing_from, standing, Event, Plan, Language, variable_count, standing_on, IfSome, IfNone, false_from_ne_true, is_same_assignment, State, Idle, Halving, Choosing, Walking, Over, At, Stray, lead_on, step, state_after, read_on, open_question, is_just, if_passes, replied, begun, is_lawful, questions_have_places, kept, Session, Stands, IsAskedIn, knowledge_of, open_in, IsSettled, Recorded, is_past, seen, all_seen, answer_to, answer_step, replay_on, IsMoved, IsSettledAt, MovesTo, StaysAt, MovesBy, HasNoPlace, IsReplayed}
use Rattle.assign.specs.declared.events.Event.TheVariants as events
use Rattle.session_laws.specs.Walk.{WalkEnd}
use Rattle.session_laws.proofs.Folds.{same_assignment, one_answer_more}
use Rattle.session_core.proofs.Moving.{state_nil}

-- ---- the answers that stand

-- no more answers stand than there are events
pub standing_few : (before : List Answer) (events : List Event) → length (standing_from before events) ≤ length before + length events
standing_few before [] = omega arith
standing_few before (events.Answer q y ∷ more) =
    let a : Answer = record { question = q; yes = y } in
    omega (arith, standing_few (before ++ a ∷ []) more, length-append before (a ∷ []))
standing_few before (events.Back ∷ more) = omega (arith, standing_few (without_last before) more, shorter before)
  where
    shorter : (t : List Answer) → length (without_last t) ≤ length t
    shorter t = let cut = length-take-le (length t - 1) t (omega arith) in omega (arith, cut)

pub standing_count : (l : Language) (events : List Event) → length (standing_on l events) ≤ length events
standing_count l events =
    omega (arith, standing_few [] events, length-map (standing events) (λ (a : Answer). let b : Answer = record { question = take (variable_count l) a.question; yes = a.yes } in b))

-- where a session has answers, some stand
pub some_stand : (l : Language) (events : List Event) (count : ℕ) → count ≡ length (standing_on l events) → 1 ≤ count → standing events ≡ [] → ⊥
some_stand l events count is some none =
    let size : length (standing_on l events) ≡ length (standing events) = length-map (standing events) (λ (a : Answer). let b : Answer = record { question = take (variable_count l) a.question; yes = a.yes } in b) in
    let empty = ap length none in
    let no : ⊥ = omega (arith, is, some, size, empty) in
    no

-- one answer more, as a session sees it
pub seen_next : (n : ℕ) (all : List Recorded) (i : ℕ) (d : Recorded) → i < length all → all_seen n (take (i + 1) all) ≡ all_seen n (take i all) ++ seen n (get_or all i d).answer ∷ []
seen_next n all i d low =
    let next : take (suc i) all ≡ take i all ++ get_or all i d ∷ [] = take-suc all i d low in
    let one : i + 1 ≡ suc i = omega arith in
    ap (λ k. all_seen n (take k all)) one ∙ ap (all_seen n) next ∙ map-append (λ (a : Recorded). seen n a.answer) (take i all) (get_or all i d ∷ [])

-- ---- the fold over answers

pub replay_end : (l : Language) (plan : Plan) (before : List Answer) (state : State) → replay_on l plan before state [] ≡ At state
unfolding replay_on
replay_end l plan before state = refl

pub replay_step : (l : Language) (plan : Plan) (before : List Answer) (state next : State) (a : Recorded) (more : List Recorded) → answer_step l plan before a.answer state ≡ Some next →
    replay_on l plan before state (a ∷ more) ≡ replay_on l plan (before ++ seen (variable_count l) a.answer ∷ []) next more
unfolding replay_on
replay_step l plan before state next a more steps =
    ap (λ (o : Option State). lead_on a.number o (λ s. replay_on l plan (before ++ seen (variable_count l) a.answer ∷ []) s more)) steps

pub replay_stray : (l : Language) (plan : Plan) (before : List Answer) (state : State) (a : Recorded) (more : List Recorded) → answer_step l plan before a.answer state ≡ None →
    replay_on l plan before state (a ∷ more) ≡ Stray a.number
unfolding replay_on
replay_stray l plan before state a more none =
    ap (λ (o : Option State). lead_on a.number o (λ s. replay_on l plan (before ++ seen (variable_count l) a.answer ∷ []) s more)) none

pub drop_next : {X : Type 0} (all : List X) (i : ℕ) (d : X) → i < length all → drop i all ≡ get_or all i d ∷ drop (i + 1) all
drop_next all i d low = let one : suc i ≡ i + 1 = omega arith in drop-cons all i d low ∙ ap (λ n. get_or all i d ∷ drop n all) one

-- ---- a step of a session

-- what an answer without a value past the variables does
pub step_within : (l : Language) (plan : Plan) (before : List Answer) (a : Answer) (state : State) → is_past (variable_count l) a.question ≡ false →
    answer_step l plan before a state ≡ step l plan before (seen (variable_count l) a) state
step_within l plan before a state within = ap (λ b. cond b None (step l plan before (seen (variable_count l) a) state)) within

pub step_past : (l : Language) (plan : Plan) (before : List Answer) (a : Answer) (state : State) → is_past (variable_count l) a.question ≡ true → answer_step l plan before a state ≡ None
step_past l plan before a state past = ap (λ b. cond b None (step l plan before (seen (variable_count l) a) state)) past

pub some_map : {A : Type 0} (P Q : A → Type 0) (o : Option A) → ((x : A) → P x → Q x) → IfSome o P → IfSome o Q
some_map P Q None f h = tt
some_map P Q (Some x) f h = f x h

pub none_map : {A : Type 0} (P Q : Type 0) (o : Option A) → (P → Q) → IfNone o P → IfNone o Q
none_map P Q None f h = f h
none_map P Q (Some x) f h = tt

pub moves_by : (session : Session) (q : Assignment) (reply : Bool) (n : ℕ) (next : Session) → n ≡ variable_count (knowledge_of session).lang → is_past n q ≡ false → MovesTo session (take n q) reply next → MovesBy session (answer_to q reply) next
moves_by session q reply n next is within moves =
    let l = (knowledge_of session).lang in
    let plan = (knowledge_of session).plan in
    let Cut : ℕ → Type 0 = λ m. MovesTo session (take m q) reply next in
    let cut = subst Cut is moves in
    let inside : is_past (variable_count l) q ≡ false = ap (λ m. is_past m q) (sym is) ∙ within in
    record {
      lang = cut.lang;
      plan = cut.plan;
      moves = λ t state at.
          let As : Option State → Type 0 = λ o. IsMoved l plan t (answer_to (take (variable_count l) q) reply) o next in
          subst As (sym (step_within l plan t (answer_to q reply) state inside)) (cut.moves t state at);
    }

pub stays_by : (session : Session) (q : Assignment) (reply : Bool) (n : ℕ) → n ≡ variable_count (knowledge_of session).lang → is_past n q ≡ false → StaysAt session (take n q) reply → HasNoPlace session (answer_to q reply)
stays_by session q reply n is within stays =
    let l = (knowledge_of session).lang in
    let plan = (knowledge_of session).plan in
    let Cut : ℕ → Type 0 = λ m. StaysAt session (take m q) reply in
    let cut = subst Cut is stays in
    let inside : is_past (variable_count l) q ≡ false = ap (λ m. is_past m q) (sym is) ∙ within in
    record { none = λ t state at. step_within l plan t (answer_to q reply) state inside ∙ cut.none t state at }

pub past_stays : (session : Session) (q : Assignment) (reply : Bool) (n : ℕ) → n ≡ variable_count (knowledge_of session).lang → is_past n q ≡ true → HasNoPlace session (answer_to q reply)
past_stays session q reply n is past = record {
  none = λ t state at. step_past (knowledge_of session).lang (knowledge_of session).plan t (answer_to q reply) state (ap (λ m. is_past m q) (sym is) ∙ past);
}

-- ---- a new question

pub idle_is : (state : State) (network : List _) (end : Option WalkEnd) (l : Language) (plan : Plan) (t : List Answer) → state_after l plan t ≡ At state → state_after l plan t ≡ At (Idle network end) → state ≡ Idle network end
idle_is state network end l plan t at idle = let same : At state ≡ At (Idle network end) = sym at ∙ idle in cc

pub lawful_steps : (l : Language) (plan : Plan) (t : List Answer) (network live : List _) (end : Option WalkEnd) (q : Assignment) (reply : Bool) (state : State) → live ≡ kept l t network → state ≡ Idle network end →
    is_lawful l plan live network q ≡ true → (next : State) × (step l plan t (answer_to q reply) state ≡ Some next)
lawful_steps l plan t network live end q reply state is idle lawful =
    let put = questions_have_places.put l plan t network end q reply (ap (λ k. is_lawful l plan k network q) (sym is) ∙ lawful) in
    (put.0, ap (λ s. step l plan t (answer_to q reply) s) idle ∙ put.1)

pub unlawful_stays : (l : Language) (plan : Plan) (t : List Answer) (network live : List _) (end : Option WalkEnd) (q : Assignment) (reply : Bool) (state : State) → live ≡ kept l t network → state ≡ Idle network end →
    is_lawful l plan live network q ≡ false → step l plan t (answer_to q reply) state ≡ None
unlawful_stays l plan t network live end q reply state is idle unlawful =
    let no : is_lawful l plan (kept l t network) network q ≡ false = ap (λ k. is_lawful l plan k network q) (sym is) ∙ unlawful in
    ap (λ s. step l plan t (answer_to q reply) s) idle ∙ ap (λ b. if_passes b (begun l plan (t ++ answer_to q reply ∷ []) (kept l t network) network q reply)) no

-- ---- the open question

abbrev pub IsBusy : State → Type 0
IsBusy state = (network : List _) (end : Option WalkEnd) → state ≡ Idle network end → ⊥

pub opened : (l : Language) (plan : Plan) (t : List Answer) (q : Assignment) (state : State) → IsBusy state → IsAskedIn l plan t q state → open_question l state ≡ Some q
opened l plan t q (Idle network end) busy asked = absurd (busy network end refl)
opened l plan t q (Halving e set replies network walk) busy asked = asked
opened l plan t q (Choosing s choices network walk) busy asked = asked
opened l plan t q (Walking set walk network) busy asked = asked
opened l plan t q (Over network) busy asked = absurd asked

not_just : (o : Option Assignment) (there q : Assignment) → o ≡ Some there → (there ≡ q → ⊥) → is_just o q ≡ false
not_just o there q is other = ap (λ p. is_just p q) is ∙ false_from_ne_true (is_same_assignment there q) (λ same. other (same_assignment there q same))

pub other_stays : (l : Language) (plan : Plan) (t : List Answer) (there q : Assignment) (reply : Bool) (state : State) → IsBusy state → open_question l state ≡ Some there → (there ≡ q → ⊥) →
    step l plan t (answer_to q reply) state ≡ None
other_stays l plan t there q reply (Idle network end) busy is other = absurd (busy network end refl)
other_stays l plan t there q reply (Halving e set replies network walk) busy is other = ap (λ b. if_passes b (replied l (t ++ answer_to q reply ∷ []) reply (Halving e set replies network walk))) (not_just (open_question l (Halving e set replies network walk)) there q is other)
other_stays l plan t there q reply (Choosing s choices network walk) busy is other = ap (λ b. if_passes b (replied l (t ++ answer_to q reply ∷ []) reply (Choosing s choices network walk))) (not_just (open_question l (Choosing s choices network walk)) there q is other)
other_stays l plan t there q reply (Walking set walk network) busy is other = ap (λ b. if_passes b (replied l (t ++ answer_to q reply ∷ []) reply (Walking set walk network))) (not_just (open_question l (Walking set walk network)) there q is other)
other_stays l plan t there q reply (Over network) busy is other = absurd (let bad : None ≡ Some there = is in cc)

pub busy_from : (l : Language) (plan : Plan) (t : List Answer) (q : Assignment) (put : Option Assignment) (state : State) → put ≡ Some q → IsSettled l plan t put → state_after l plan t ≡ At state → IsBusy state
busy_from l plan t q put state is settled at network end idle =
    let none : put ≡ None = settled network end (at ∙ ap (λ s. At s) idle) in absurd (let bad : Some q ≡ None = sym is ∙ none in cc)

-- ---- moving

pub both_same : {A B : Type 0} (P : A → B → Type 0) (a b : A) (v w : B) → a ≡ b → v ≡ w → P a v → P b w
both_same {A} {B} P a b v w e f p = let One : A → Type 0 = λ x. P x v in let Two : B → Type 0 = λ y. P b y in subst Two f (subst One e p)

-- an answer with a place leads on
pub moved_to : (l : Language) (plan : Plan) (t : List Answer) (a : Answer) (state : State) (next : Session) → state_after l plan t ≡ At state → ((s : State) × (step l plan t a state ≡ Some s)) →
    (knowledge_of next).lang ≡ l → (knowledge_of next).plan ≡ plan → Stands next (t ++ a ∷ []) →
    IsSettled (knowledge_of next).lang (knowledge_of next).plan (t ++ a ∷ []) (open_in next) → IsMoved l plan t a (step l plan t a state) next
moved_to l plan t a state next at steps same_lang same_plan stands settled =
    let Settled : Language → Plan → Type 0 = λ m p. IsSettled m p (t ++ a ∷ []) (open_in next) in
    record {
      state = steps.0;
      steps = steps.1;
      at = one_answer_more l plan t a state steps.0 at steps.1;
      stands = stands;
      settled = both_same Settled (knowledge_of next).lang l (knowledge_of next).plan plan same_lang same_plan settled;
    }

-- ---- many answers

pub replay_none : (session : Session) (all : List Recorded) → Stands session [] → open_in session ≡ None → IsReplayed (knowledge_of session).lang (knowledge_of session).plan all 0 session
replay_none session all stands idle = record {
  lang = refl;
  plan_is = refl;
  state = Idle [] None;
  at = state_nil (knowledge_of session).lang (knowledge_of session).plan;
  on = refl;
  stands = stands;
  settled = λ network end at. idle;
}

-- where a replay stands, as the session knows it
at_here : (l : Language) (plan : Plan) (all : List Recorded) (i : ℕ) (s : Session) (inv : IsReplayed l plan all i s) → IsSettledAt s (all_seen (variable_count l) (take i all)) inv.state
at_here l plan all i s inv =
    let t : List Answer = all_seen (variable_count l) (take i all) in
    let Settled : Language → Plan → Type 0 = λ m p. IsSettled m p t (open_in s) in
    let Reaches : Language → Plan → Type 0 = λ m p. state_after m p t ≡ At inv.state in
    record {
      stands = inv.stands;
      settled = both_same Settled l (knowledge_of s).lang plan (knowledge_of s).plan (sym inv.lang) (sym inv.plan_is) inv.settled;
      at = both_same Reaches l (knowledge_of s).lang plan (knowledge_of s).plan (sym inv.lang) (sym inv.plan_is) inv.at;
    }

pub replay_more : (l : Language) (plan : Plan) (all : List Recorded) (i : ℕ) (d : Recorded) (s next : Session) → i < length all → IsReplayed l plan all i s → MovesBy s (get_or all i d).answer next → IsReplayed l plan all (i + 1) next
replay_more l plan all i d s next low inv by =
    let a : Recorded = get_or all i d in
    let t : List Answer = all_seen (variable_count l) (take i all) in
    let Moved : Language → Plan → Type 0 = λ m p. IsMoved m p t (seen (variable_count m) a.answer) (answer_step m p t a.answer inv.state) next in
    let moved = both_same Moved (knowledge_of s).lang l (knowledge_of s).plan plan inv.lang inv.plan_is (by.moves t inv.state (at_here l plan all i s inv)) in
    let longer : all_seen (variable_count l) (take (i + 1) all) ≡ t ++ seen (variable_count l) a.answer ∷ [] = seen_next (variable_count l) all i d low in
    let Settled : List Answer → Type 0 = λ x. IsSettled l plan x (open_in next) in
    record {
      lang = by.lang ∙ inv.lang;
      plan_is = by.plan ∙ inv.plan_is;
      state = moved.state;
      at = ap (state_after l plan) longer ∙ moved.at;
      on = inv.on ∙ ap (λ xs. replay_on l plan t inv.state xs) (drop_next all i d low) ∙ replay_step l plan t inv.state moved.state a (drop (i + 1) all) moved.steps
          ∙ ap (λ b. replay_on l plan b moved.state (drop (i + 1) all)) (sym longer);
      stands = subst (Stands next) (sym longer) moved.stands;
      settled = subst Settled (sym longer) moved.settled;
    }

pub replay_strays : (l : Language) (plan : Plan) (all : List Recorded) (i : ℕ) (d : Recorded) (s : Session) → i < length all → IsReplayed l plan all i s → HasNoPlace s (get_or all i d).answer →
    replay_on l plan [] (Idle [] None) all ≡ Stray (get_or all i d).number
replay_strays l plan all i d s low inv none =
    let a : Recorded = get_or all i d in
    let t : List Answer = all_seen (variable_count l) (take i all) in
    let Stays : Language → Plan → Type 0 = λ m p. answer_step m p t a.answer inv.state ≡ None in
    let stays = both_same Stays (knowledge_of s).lang l (knowledge_of s).plan plan inv.lang inv.plan_is (none.none t inv.state (at_here l plan all i s inv)) in
    inv.on ∙ ap (λ xs. replay_on l plan t inv.state xs) (drop_next all i d low) ∙ replay_stray l plan t inv.state a (drop (i + 1) all) stays

pub replay_ends : (l : Language) (plan : Plan) (all : List Recorded) (i : ℕ) (s : Session) → length all ≤ i → (inv : IsReplayed l plan all i s) → replay_on l plan [] (Idle [] None) all ≡ At inv.state
replay_ends l plan all i s past inv =
    inv.on ∙ ap (λ xs. replay_on l plan (all_seen (variable_count l) (take i all)) inv.state xs) (drop_all i all past) ∙ replay_end l plan (all_seen (variable_count l) (take i all)) inv.state

-- all of them are the answers before the end
pub seen_whole : (n : ℕ) (all : List Recorded) (i : ℕ) → length all ≤ i → all_seen n (take i all) ≡ all_seen n all
seen_whole n all i past = ap (all_seen n) (take_all i all past)
