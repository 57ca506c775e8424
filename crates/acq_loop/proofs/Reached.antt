-- Answers that have places.
use Rattle.acq_loop.proofs.Prelude.{◌≡◌, ℕ, zero, suc, ◌+◌, ◌-◌, ◌≤◌, List, [], ◌∷◌, ◌++◌, length, take, refl, sym, ◌∙◌, ap, arith, Option, Some, None, length-map, take-map, Answer, standing, without_last, cut_to, Event, Plan, standing-back, Language, variable_count, standing_on, State, Idle, At, lead_on, step, read_on, state_after}
use Rattle.assign.specs.declared.events.Event.TheVariants as event

abbrev pub IsReached : Language → Plan → List Answer → Type 0
IsReached l plan t = (state : State) × (state_after l plan t ≡ At state)

-- ---- the first of them

front_read : (l : Language) (plan : Plan) (n : ℕ) (t before : List Answer) (start final : State) → read_on l plan before start t ≡ At final → (mid : State) × (read_on l plan before start (take n t) ≡ At mid)
unfolding read_on
front_read l plan zero t before start final h = (start, refl)
front_read l plan (suc n) [] before start final h = (start, refl)
front_read l plan (suc n) (a ∷ t) before start final h =
    go (step l plan before a start) refl h (λ middle rest. front_read l plan n t (before ++ a ∷ []) middle final rest)
  where
    go : (o : Option State) → step l plan before a start ≡ o → lead_on (length before + 1) o (λ middle. read_on l plan (before ++ a ∷ []) middle t) ≡ At final →
        ((middle : State) → read_on l plan (before ++ a ∷ []) middle t ≡ At final → (mid : State) × (read_on l plan (before ++ a ∷ []) middle (take n t) ≡ At mid)) →
        (mid : State) × (lead_on (length before + 1) (step l plan before a start) (λ middle. read_on l plan (before ++ a ∷ []) middle (take n t)) ≡ At mid)
    go None e h rest = absurd (let no : ⊥ = cc in no)
    go (Some middle) e h rest =
        let on = rest middle h in
        (on.0, ap (λ o. lead_on (length before + 1) o (λ middle. read_on l plan (before ++ a ∷ []) middle (take n t))) e ∙ on.1)

-- ---- how many

-- as many as there are, whichever language they are of
pub standing_size : (l : Language) (events : List Event) → length (standing_on l events) ≡ length (standing events)
standing_size l events = length-map (standing events) (λ (a : Answer). let b : Answer = record { question = take (variable_count l) a.question; yes = a.yes } in b)

-- where there is one, the list isn't empty
pub some_there : (l : Language) (events : List Event) (m : ℕ) → m ≡ length (standing_on l events) → 1 ≤ m → (standing events ≡ [] → ⊥)
some_there l events m is some none = omega (arith, is, some, standing_size l events, ap (λ (t : List Answer). length t) none)

-- ---- a take-back

-- what stands after it, as a session sees it
pub standing_on-back : (l : Language) (events : List Event) → standing_on l (events ++ event.Back ∷ []) ≡ without_last (standing_on l events)
standing_on-back l events =
    ap (cut_to (variable_count l)) (standing-back events)
    ∙ sym (take-map (λ (a : Answer). let b : Answer = record { question = take (variable_count l) a.question; yes = a.yes } in b) (length (standing events) - 1) (standing events))
    ∙ ap (λ n. take (n - 1) (standing_on l events)) (sym (standing_size l events))

pub back_reached : (l : Language) (plan : Plan) (events : List Event) → IsReached l plan (standing_on l events) → IsReached l plan (standing_on l (events ++ event.Back ∷ []))
back_reached l plan events (state, at) =
    let t : List Answer = standing_on l events in
    let back : IsReached l plan (take (length t - 1) t) = front_read l plan (length t - 1) t [] (Idle [] None) state at in
    rw (standing_on-back l events) back
