-- How marks change, and stay true.
use Rattle.query_gen.proofs.Prelude.{◌≡◌, ℕ, ◌+◌, ◌<◌, ◌≤◌, Bool, true, false, ◌&&◌, cond, List, [], ◌∷◌, ◌++◌, length, map, Option, None, Some, take-append-le, refl, sym, ◌∙◌, ap, arith, inl, inr, ◌⊎◌, ◌==◌, length-map, length-append, get_or-map, get_or_past, append-nil, cases_lt, eqb-true, and_parts, Candidate, Language, IsCandidate, number_of, outcome_of_candidate, AbsentStays, Find, IsFindOf, Mark, Blank, Implied, Remembered, AreMarksFor, MarksHold, mark_of, remembered_begun, without_spent, IsBegun, NoMarksHold, MarksStay, number_below}
use Rattle.fd_solver.specs.declared.outcome.Outcome.TheVariants as outcomes
use Rattle.query_gen.specs.declared.screen.Mark.TheVariants.{Spent}

-- ---- What a mark says

still_implied : (m : Mark) → without_spent m ≡ Implied → m ≡ Implied
still_implied Blank h = cc
still_implied Implied h = refl
still_implied Spent h = cc

never_spent : (m : Mark) → without_spent m ≡ Spent → ⊥
never_spent Blank h = cc
never_spent Implied h = cc
never_spent Spent h = cc

-- ---- Where a search begins

module _ (l : Language) (network : List Candidate) (budget : ℕ) (s : Remembered) (learned : ℕ) (made : AreMarksFor l s) (holds : MarksHold l network budget s) (is : learned ≡ length network) where
  abbrev forgotten : Remembered
  forgotten = record { first = s.first; marks = map without_spent s.marks; learned = learned; budget = budget; index = s.index; finds = s.finds }

  mark_forgotten : (c : Candidate) → IsCandidate l c → mark_of l forgotten c ≡ without_spent (mark_of l s c)
  mark_forgotten c known = let low = number_below l c known in let size = made.marks in get_or-map without_spent s.marks (number_of l c) Blank Blank (omega arith)

  forgotten_holds : MarksHold l network budget forgotten
  forgotten_holds = record {
    implied = λ c known h. holds.implied c known (still_implied (mark_of l s c) (sym (mark_forgotten c known) ∙ h));
    spent = λ c known h e f. absurd (never_spent (mark_of l s c) (sym (mark_forgotten c known) ∙ h));
    earlier = λ c known h. omega arith;
    finds = holds.finds;
  }

  forgotten_made : AreMarksFor l forgotten
  forgotten_made = record { first = made.first; marks = length-map s.marks without_spent ∙ made.marks; index = made.index }

  pub has_begun : IsBegun l network budget (remembered_begun s learned budget)
  has_begun = go ((s.learned == learned) && (s.budget == budget)) refl
    where
      go : (b : Bool) → ((s.learned == learned) && (s.budget == budget)) ≡ b → IsBegun l network budget (cond b s forgotten)
      go true e = record {
        made = made;
        holds = holds;
        learned = (let same = eqb-true s.learned learned (and_parts (s.learned == learned) (s.budget == budget) e).0 in same ∙ is);
        budgeted = eqb-true s.budget budget (and_parts (s.learned == learned) (s.budget == budget) e).1;
      }
      go false e = record { made = forgotten_made; holds = forgotten_holds; learned = is; budgeted = refl }

-- ---- Laws

-- a longer network begins with what the shorter one begins with
find_stays : (l : Language) (network more : List Candidate) (budget : ℕ) (f : Find) → IsFindOf l network budget f → IsFindOf l (network ++ more) budget f
find_stays l network more budget f before = record {
  learned = (let low = before.learned in let long = length-append network more in omega arith);
  found = λ c is at. ap (λ ns. outcome_of_candidate l ns c budget) (take-append-le f.learned network more before.learned) ∙ before.found c is at;
}

pub no_marks_hold : NoMarksHold
no_marks_hold l network budget s none = record {
  implied = λ c is h. absurd (not_implied (blank c) h);
  spent = λ c is h e f. absurd (not_spent (blank c) h);
  earlier = λ c is h. absurd (not_spent (blank c) h);
  finds = λ k d low f kept. absurd (not_kept (none.finds k d low) kept);
}
  where
    blank : (c : Candidate) → mark_of l s c ≡ Blank
    blank c = go (cases_lt (number_of l c) (length s.marks))
      where
        go : (number_of l c < length s.marks) ⊎ (length s.marks ≤ number_of l c) → mark_of l s c ≡ Blank
        go (inl low) = none.marks (number_of l c) Blank low
        go (inr past) = get_or_past s.marks (number_of l c) Blank past

    not_implied : {m : Mark} → m ≡ Blank → m ≡ Implied → ⊥
    not_implied h k = cc

    not_spent : {m : Mark} → m ≡ Blank → m ≡ Spent → ⊥
    not_spent h k = cc

    not_kept : {o : Option Find} {f : Find} → o ≡ None → o ≡ Some f → ⊥
    not_kept h k = cc

pub marks_stay : AbsentStays → MarksStay
marks_stay absent_stays l network more budget s holds = record {
  implied = λ c is h. absent_stays l network more c budget (holds.implied c is h);
  spent = λ c is h e f. spent c is h e f more refl;
  earlier = λ c is h. let before = holds.earlier c is h in let long = length-append network more in omega arith;
  finds = λ k d low f kept. find_stays l network more budget f (holds.finds k d low f kept);
}
  where
    spent : (c : Candidate) → IsCandidate l c → mark_of l s c ≡ Spent → s.learned ≡ length (network ++ more) → s.budget ≡ budget → (rest : List Candidate) → more ≡ rest → outcome_of_candidate l (network ++ more) c budget ≡ outcomes.Spent
    spent c is h e f [] none =
        let same : network ++ more ≡ network = ap (λ xs. network ++ xs) none ∙ append-nil network in
        ap (λ ns. outcome_of_candidate l ns c budget) same ∙ holds.spent c is h (e ∙ ap length same) f
    spent c is h e f (d ∷ rest) some =
        let before = holds.earlier c is h in
        let long : length (network ++ more) ≡ length network + length more = length-append network more in
        let longer : length more ≡ length rest + 1 = ap length some ∙ (let g : length (d ∷ rest) ≡ length rest + 1 = omega arith in g) in
        absurd (omega arith)
