-- The lines of answers, one more at a time.
use Rattle.acq_said.proofs.Prelude.{◌≡◌, ◌∙◌, ℕ, zero, suc, ◌+◌, ◌-◌, ◌<◌, ◌≤◌, Bool, true, false, List, [], ◌∷◌, ◌++◌, length, take, get_or, refl, sym, ap, subst, arith, append_assoc, length-append, length-take-le, codes, append-nil, length-map, Assignment, Answer, Event, Plan, Language, variable_count, standing_on, IsAskedIn, Stands, knowledge_of, Session, State, Idle, Over, At, IsAnswer, Recorded, all_seen, answer_to, recorded_from, seen, seen_next, IsBusy, answer_line, answer_lines, reading_text, is_back, show_text, Opened, asked_said, saying}
use Rattle.std.specs.Prelude.{filter}
use Rattle.acq_said.proofs.Moved.{learned_as}
use Rattle.acq_said.specs.declared.ask.Ask.TheVariants as ask
use Rattle.acq_loop.specs.declared.ending.Ending.TheVariants as ending
use Rattle.assign.specs.declared.events.Event.TheVariants as event

lines_more : (l : Language) (k : ℕ) (t : List Answer) (a : Answer) → answer_lines l k (t ++ a ∷ []) ≡ answer_lines l k t ++ answer_line l (k + length t) a
lines_more l k [] a = append-nil (answer_line l k a) ∙ ap (λ n. answer_line l n a) (let e : k ≡ k + 0 = omega arith in e)
lines_more l k (b ∷ t) a =
    ap (λ (x : List ℕ). answer_line l k b ++ x) (lines_more l (suc k) t a ∙ ap (λ n. answer_lines l (suc k) t ++ answer_line l n a) (let e : suc k + length t ≡ k + suc (length t) = omega arith in e))
    ∙ sym (append_assoc (answer_line l k b) (answer_lines l (suc k) t) (answer_line l (k + suc (length t)) a))

-- one answer more
pub lines_next : (l : Language) (all : List Recorded) (i : ℕ) (d : Recorded) → i < length all →
    answer_lines l 1 (all_seen (variable_count l) (take (i + 1) all)) ≡ answer_lines l 1 (all_seen (variable_count l) (take i all)) ++ answer_line l (i + 1) (seen (variable_count l) (get_or all i d).answer)
lines_next l all i d low =
    let n : ℕ = variable_count l in
    let a : Answer = seen n (get_or all i d).answer in
    let t : List Answer = all_seen n (take i all) in
    let count : length t ≡ i = length-map (take i all) (λ (r : Recorded). seen n r.answer) ∙ length-take-le i all (omega arith) in
    ap (answer_lines l 1) (seen_next n all i d low) ∙ lines_more l 1 t a
    ∙ ap (λ k. answer_lines l 1 t ++ answer_line l k a) (let e : 1 + length t ≡ i + 1 = omega arith in e)

abbrev pub no_record : Recorded
no_record = record { answer = answer_to [] false; number = 0 }

-- no more answers stand than there are events
pub few_recorded : (before : List Recorded) (number : ℕ) (events : List Event) → length (recorded_from before number events) ≤ length before + length events
few_recorded before number [] = omega arith
few_recorded before number (event.Answer q reply ∷ more) =
    let r : Recorded = record { answer = record { question = q; yes = reply }; number = number } in
    omega (arith, few_recorded (before ++ r ∷ []) (number + 1) more, length-append before (r ∷ []))
few_recorded before number (event.Back ∷ more) =
    let rest : List Recorded = take (length before - 1) before in
    let size : length rest ≡ length before - 1 = length-take-le (length before - 1) before (omega arith) in
    omega (arith, few_recorded rest (number + 1) more, size)

-- such an event is an answer
pub is_answer : (e : Event) (q : Assignment) (reply : Bool) → e ≡ event.Answer q reply → IsAnswer e
is_answer e q reply is = subst IsAnswer (sym is) tt

-- where a question is open, it says so
pub asking_text : (l : Language) (plan : Plan) (t : List Answer) (q : Assignment) (state : State) → IsBusy state → IsAskedIn l plan t q state → codes "asking" ≡ reading_text (At state)
asking_text l plan t q (Idle network end) busy asked = absurd (busy network end refl)
asking_text l plan t q (Over network) busy asked = absurd asked
asking_text l plan t q state busy asked = refl

-- what is shown of a session is what its answers lead to
pub shown_as : (o : Opened) (session : Session) (given : List Event) → (knowledge_of session).lang ≡ o.lang → (knowledge_of session).plan ≡ o.plan → given ≡ o.events → Stands session (standing_on o.lang o.events) →
    saying (show_text (knowledge_of session).lang (knowledge_of session).plan (standing_on (knowledge_of session).lang given) (length (filter is_back given)) (knowledge_of session).network.list) ending.Done ≡ asked_said ask.Show o
shown_as o session given lang planned same stands =
    let learned = learned_as o session lang planned stands in
    (λ i. saying (show_text (lang i) (planned i) (standing_on (lang i) (same i)) (length (filter is_back (same i))) (learned i)) ending.Done)

-- ---- take-backs

pub few_backs : (events : List Event) → length (filter is_back events) ≤ length events
few_backs [] = omega arith
few_backs (event.Answer q reply ∷ events) = omega (arith, few_backs events)
few_backs (event.Back ∷ events) = omega (arith, few_backs events)

-- one event more
pub backs_more : (events : List Event) (i : ℕ) (d : Event) → i < length events →
    (is_back (get_or events i d) ≡ true → length (filter is_back (take (i + 1) events)) ≡ length (filter is_back (take i events)) + 1)
    × (is_back (get_or events i d) ≡ false → length (filter is_back (take (i + 1) events)) ≡ length (filter is_back (take i events)))
backs_more events i d low =
    let one : i + 1 ≡ suc i = omega arith in
    let same = ap (λ (n : ℕ). length (filter is_back (take n events))) one in
    let step = go events i low in (
      λ yes. same ∙ step.0 yes,
      λ no. same ∙ step.1 no,
    )
  where
    go : (events : List Event) (i : ℕ) → i < length events →
        (is_back (get_or events i d) ≡ true → length (filter is_back (take (suc i) events)) ≡ length (filter is_back (take i events)) + 1)
        × (is_back (get_or events i d) ≡ false → length (filter is_back (take (suc i) events)) ≡ length (filter is_back (take i events)))
    go [] i low = absurd (omega (arith, low))
    go (event.Answer q reply ∷ events) zero low = (λ yes. absurd (let no : false ≡ true = yes in cc), λ no. refl)
    go (event.Back ∷ events) zero low = (λ yes. refl, λ no. absurd (let bad : true ≡ false = no in cc))
    go (event.Answer q reply ∷ events) (suc i) low = go events i (omega (arith, low))
    go (event.Back ∷ events) (suc i) low =
        let step = go events i (omega (arith, low)) in (
          λ yes. ap suc (step.0 yes) ∙ (let n = length (filter is_back (take i events)) in let e : suc (n + 1) ≡ suc n + 1 = omega arith in e),
          λ no. ap suc (step.1 no),
        )
