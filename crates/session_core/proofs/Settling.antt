-- How a halving goes on by itself.
use Rattle.session_core.proofs.Prelude.{◌≡◌, ℕ, zero, suc, ◌+◌, ◌-◌, ◌*◌, ◌<◌, ◌≤◌, Bool, true, false, cond, List, [], ◌∷◌, ◌++◌, length, refl, sym, ◌∙◌, ap, subst, arith, Option, Assignment, Answer, Candidate, Language, scope_number, kept, halve, StandsFor, ScopeNext, standing_tells, Walk, Halving, found, halved, is_quiet, settle_halving, with_quiet_replies, loud_step, is_quiet_at}
use Rattle.find_scope.specs.Run.{Run}
use Rattle.find_scope.specs.declared.run.ScopeNext.TheVariants.{Wants, Found}

-- whether a halving is quiet can be seen of its run
pub quiet_is : (l : Language) (live : List Candidate) (e : Assignment) (set : List ℕ) (replies : List Bool) (next : ScopeNext) → StandsFor next set replies → is_quiet l live e (halve set replies) ≡ is_quiet_at l live e next
quiet_is l live e set replies (Wants run) stands = ap (is_quiet l live e) (standing_tells.waits run set replies stands)
quiet_is l live e set replies (Found got) stands = ap (is_quiet l live e) (standing_tells.found set got replies stands)

-- ---- the replies that a program gives for the user

quiet_step : (l : Language) (live : List Candidate) (e : Assignment) (set : List ℕ) (most : ℕ) (replies : List Bool) → is_quiet l live e (halve set replies) ≡ true →
    with_quiet_replies l live e set (suc most) replies ≡ with_quiet_replies l live e set most (replies ++ true ∷ [])
unfolding with_quiet_replies
quiet_step l live e set most replies quiet = ap (λ b. cond b (with_quiet_replies l live e set most (replies ++ true ∷ [])) replies) quiet

no_step : (l : Language) (live : List Candidate) (e : Assignment) (set : List ℕ) (most : ℕ) (replies : List Bool) → most ≡ 0 → with_quiet_replies l live e set most replies ≡ replies
unfolding with_quiet_replies
no_step l live e set zero replies h = refl
no_step l live e set (suc most) replies h = cc

-- after so many turns the run stands for these replies, and as many more are left to give
pub record HasGone (l : Language) (live : List Candidate) (e : Assignment) (set : List ℕ) (replies : List Bool) (turn : ℕ) (next : ScopeNext) : Type 0 where
  pub now : List Bool
  pub stands : StandsFor next set now
  pub same : with_quiet_replies l live e set (2 * length set) replies ≡ with_quiet_replies l live e set (2 * length set - turn) now

-- for each set of the size, and each list of replies that the first run stands for
abbrev pub GoesOn : Language → List Candidate → Assignment → ℕ → ScopeNext → ℕ → ScopeNext → Type 0
GoesOn l live e size first turn next = (set : List ℕ) (replies : List Bool) → length set ≡ size → StandsFor first set replies → HasGone l live e set replies turn next

pub goes_first : (l : Language) (live : List Candidate) (e : Assignment) (size : ℕ) (first : ScopeNext) → GoesOn l live e size first 0 first
goes_first l live e size first set replies long stands = record { now = replies; stands = stands; same = ap (λ most. with_quiet_replies l live e set most replies) (omega arith) }

pub goes_next : (l : Language) (live : List Candidate) (e : Assignment) (size : ℕ) (first : ScopeNext) (turn : ℕ) (next after : ScopeNext) (run : Run) → turn < 2 * size → next ≡ Wants run → is_quiet_at l live e next ≡ true →
    ((set : List ℕ) (replies : List Bool) → StandsFor (Wants run) set replies → StandsFor after set (replies ++ true ∷ [])) →
    GoesOn l live e size first turn next → GoesOn l live e size first (turn + 1) after
goes_next l live e size first turn next after run low is quiet moves goes set replies long stands =
    let gone = goes set replies long stands in
    let one : 2 * length set - turn ≡ suc (2 * length set - (turn + 1)) = omega arith in
    record {
      now = gone.now ++ true ∷ [];
      stands = moves set gone.now (subst (λ n. StandsFor n set gone.now) is gone.stands);
      same = gone.same ∙ ap (λ most. with_quiet_replies l live e set most gone.now) one
          ∙ quiet_step l live e set (2 * length set - (turn + 1)) gone.now (quiet_is l live e set gone.now next gone.stands ∙ quiet);
    }

abbrev pub Settles : Language → List Candidate → Assignment → ℕ → ScopeNext → ScopeNext → Type 0
Settles l live e size first last = (set : List ℕ) (replies : List Bool) → length set ≡ size → StandsFor first set replies → StandsFor last set (with_quiet_replies l live e set (2 * length set) replies)

-- it stops at a question that isn't quiet
pub goes_loud : (l : Language) (live : List Candidate) (e : Assignment) (size : ℕ) (first : ScopeNext) (turn : ℕ) (next last : ScopeNext) → next ≡ last → is_quiet_at l live e next ≡ false →
    GoesOn l live e size first turn next → Settles l live e size first last
goes_loud l live e size first turn next last is loud goes set replies long stands =
    let gone = goes set replies long stands in
    let all : with_quiet_replies l live e set (2 * length set) replies ≡ gone.now =
    gone.same ∙ loud_step l live e set (2 * length set - turn) gone.now (quiet_is l live e set gone.now next gone.stands ∙ loud) in
    subst (StandsFor last set) (sym all) (subst (λ n. StandsFor n set gone.now) is gone.stands)

-- or where no reply is left to give
pub goes_last : (l : Language) (live : List Candidate) (e : Assignment) (size : ℕ) (first : ScopeNext) (turn : ℕ) (next : ScopeNext) → 2 * size ≤ turn → GoesOn l live e size first turn next → Settles l live e size first next
goes_last l live e size first turn next high goes set replies long stands =
    let gone = goes set replies long stands in
    let all : with_quiet_replies l live e set (2 * length set) replies ≡ gone.now = gone.same ∙ no_step l live e set (2 * length set - turn) gone.now (omega arith) in
    subst (StandsFor next set) (sym all) gone.stands

-- ---- where a halving stands that doesn't go on by itself

-- all replies of a halving, with those that the program gives
abbrev pub all_replies : Language → List Candidate → Assignment → List ℕ → List Bool → List Bool
all_replies l live e set replies = with_quiet_replies l live e set (2 * length set) replies

pub settled_part : (l : Language) (t : List Answer) (e : Assignment) (set : List ℕ) (replies : List Bool) (network live : List Candidate) (walk : Option Walk) (run : Run) → live ≡ kept l t network →
    StandsFor (Wants run) set (all_replies l live e set replies) → settle_halving l t e set replies network walk ≡ Halving e set (all_replies l live e set replies) network walk
settled_part l t e set replies network live walk run is stands =
    ap (λ cs. halved l t e set (all_replies l cs e set replies) network walk (halve set (all_replies l cs e set replies))) (sym is)
    ∙ ap (halved l t e set (all_replies l live e set replies) network walk) (standing_tells.waits run set (all_replies l live e set replies) stands)

pub settled_found : (l : Language) (t : List Answer) (e : Assignment) (set : List ℕ) (replies : List Bool) (network live : List Candidate) (walk : Option Walk) (got : List ℕ) → live ≡ kept l t network →
    StandsFor (Found got) set (all_replies l live e set replies) → settle_halving l t e set replies network walk ≡ found l t e network walk (scope_number l got)
settled_found l t e set replies network live walk got is stands =
    ap (λ cs. halved l t e set (all_replies l cs e set replies) network walk (halve set (all_replies l cs e set replies))) (sym is)
    ∙ ap (halved l t e set (all_replies l live e set replies) network walk) (standing_tells.found set got (all_replies l live e set replies) stands)
