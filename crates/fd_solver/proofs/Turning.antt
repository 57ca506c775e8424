-- How the outcome of what is left goes on, whatever the test.
use Rattle.fd_solver.proofs.Prelude.{◌≡◌, ℕ, zero, suc, ◌+◌, ◌*◌, ◌<◌, Bool, true, false, cond, List, [], ◌∷◌, ◌++◌, length, take, Some, None, refl, ◌∙◌, ap, arith, length-append, ◌==◌, All, find, filter, both_ways, eq-eqb, ne_eqb, false_from_ne_true, le-leb, Assignment, prefixes, Found, Absent, Spent, outcome_from, outcome_by, PassesFronts, pending, none_passes, skip_shorter, prefixes_small, pending_step, pending_skip, pending_pop, pending_end, pending_begin}
use Rattle.std.proofs.Math.Dec.{leb-suc-suc, leb-suc-zero}
use Rattle.fd_solver.specs.declared.outcome.Outcome.{Outcome}

pub outcome_whole : (n : ℕ) (assign : List ℕ → Assignment) (p : List ℕ) (members : List (List ℕ)) (budget : ℕ) → length p ≡ n → outcome_by n assign (p ∷ members) (suc budget) ≡ Found (assign p)
outcome_whole n assign p members budget long = rw (eq-eqb (length p) n long) refl

pub outcome_part : (n : ℕ) (assign : List ℕ → Assignment) (p : List ℕ) (members : List (List ℕ)) (budget : ℕ) → length p < n → outcome_by n assign (p ∷ members) (suc budget) ≡ outcome_by n assign members budget
outcome_part n assign p members budget short =
    (λ i. outcome_from assign (cond (ne_eqb (length p) n (λ e. omega arith) i) (Some p) (find (λ q. length q == n) (take budget members))) (leb-suc-suc (length members) budget i))

pub outcome_spent : (n : ℕ) (assign : List ℕ → Assignment) (p : List ℕ) (members : List (List ℕ)) → outcome_by n assign (p ∷ members) 0 ≡ Spent
outcome_spent n assign p members = ap (outcome_from assign None) (leb-suc-zero (length members))

pub outcome_none : (n : ℕ) (assign : List ℕ → Assignment) (budget : ℕ) → outcome_by n assign [] budget ≡ Absent
outcome_none n assign zero = refl
outcome_none n assign (suc budget) = ap (outcome_from assign None) (le-leb 0 (suc budget) (omega arith))

-- ---- what a depth-first search over a test does at each turn

module _ (d n : ℕ) (assign : List ℕ → Assignment) (test : List ℕ → Bool) where
  -- the outcome of what comes from the place of p and x on
  abbrev pub left_at : List ℕ → ℕ → ℕ → Outcome
  left_at p x budget = outcome_by n assign (filter test (pending d n p x)) budget

  next_passes : (p : List ℕ) (x : ℕ) → length p < n → x < d → test (p ++ x ∷ []) ≡ true → filter test (pending d n p x) ≡ (p ++ x ∷ []) ∷ filter test (pending d n (p ++ x ∷ []) 0)
  next_passes p x short low passes = ap (filter test) (pending_step d n p x short low) ∙ ap (λ b. cond b ((p ++ x ∷ []) ∷ filter test (pending d n (p ++ x ∷ []) 0)) (filter test (pending d n (p ++ x ∷ []) 0))) passes

  -- it passes, and nothing is left of the budget
  pub turn_spent : (p : List ℕ) (x : ℕ) → length p < n → x < d → test (p ++ x ∷ []) ≡ true → left_at p x 0 ≡ Spent
  turn_spent p x short low passes = ap (λ ps. outcome_by n assign ps 0) (next_passes p x short low passes) ∙ outcome_spent n assign (p ++ x ∷ []) _

  -- it passes, and it is whole
  pub turn_found : (p : List ℕ) (x budget : ℕ) → length p < n → x < d → test (p ++ x ∷ []) ≡ true → length p + 1 ≡ n → left_at p x (suc budget) ≡ Found (assign (p ++ x ∷ []))
  turn_found p x budget short low passes long = ap (λ ps. outcome_by n assign ps (suc budget)) (next_passes p x short low passes) ∙ outcome_whole n assign (p ++ x ∷ []) _ budget (length-append p (x ∷ []) ∙ long)

  -- it passes: go on below it
  pub turn_down : (p : List ℕ) (x budget : ℕ) → length p < n → x < d → test (p ++ x ∷ []) ≡ true → length p + 1 < n → left_at p x (suc budget) ≡ left_at (p ++ x ∷ []) 0 budget
  turn_down p x budget short low passes more = ap (λ ps. outcome_by n assign ps (suc budget)) (next_passes p x short low passes) ∙ outcome_part n assign (p ++ x ∷ []) _ budget (omega (arith, length-append p (x ∷ [])))

  -- it doesn't pass: go on with the next value
  pub turn_next : (p : List ℕ) (x budget : ℕ) → length p < n → x < d → All (λ y. y < d) p → PassesFronts d test → test (p ++ x ∷ []) ≡ false → left_at p x budget ≡ left_at p (x + 1) budget
  turn_next p x budget short low small closed fails = ap (λ ps. outcome_by n assign ps budget)
      (ap (filter test) (pending_step d n p x short low) ∙ ap (λ b. cond b ((p ++ x ∷ []) ∷ filter test (pending d n (p ++ x ∷ []) 0)) (filter test (pending d n (p ++ x ∷ []) 0))) fails
      ∙ pending_skip d n test p x short low small closed fails)

  -- no value is left: go back
  pub turn_up : (p : List ℕ) (y budget : ℕ) → length p < n → left_at (p ++ y ∷ []) d budget ≡ left_at p (y + 1) budget
  turn_up p y budget short = ap (λ ps. outcome_by n assign (filter test ps) budget) (pending_pop d n p y short)

  pub turn_end : (budget : ℕ) → left_at [] d budget ≡ Absent
  turn_end budget = ap (λ ps. outcome_by n assign (filter test ps) budget) (pending_end d n) ∙ outcome_none n assign budget

  -- the empty prefix
  pub turn_first : (budget : ℕ) → 0 < n → test [] ≡ true → outcome_by n assign (filter test (prefixes d n)) (suc budget) ≡ left_at [] 0 budget
  turn_first budget some passes = ap (λ ps. outcome_by n assign (filter test ps) (suc budget)) (pending_begin d n)
      ∙ ap (λ b. outcome_by n assign (cond b ([] ∷ filter test (pending d n [] 0)) (filter test (pending d n [] 0))) (suc budget)) passes ∙ outcome_part n assign [] _ budget some

  pub turn_dead : (budget : ℕ) → PassesFronts d test → test [] ≡ false → outcome_by n assign (filter test (prefixes d n)) budget ≡ Absent
  turn_dead budget closed fails = ap (λ ps. outcome_by n assign ps budget) (none_passes (All (λ x. x < d)) test (prefixes d n) (prefixes_small d n) (λ p small. false_from_ne_true _ (λ at. both_ways _ fails (closed [] p small at))))
      ∙ outcome_none n assign budget

-- ---- the measure: each turn leaves fewer prefixes, or as many and goes back
abbrev pub work_left : ℕ → ℕ → List ℕ → ℕ → ℕ
work_left d n p x = 2 * length (pending d n p x) + length p

pub work_down : (d n : ℕ) (p : List ℕ) (x : ℕ) → length p < n → x < d → work_left d n (p ++ x ∷ []) 0 < work_left d n p x
work_down d n p x short low = omega (arith, length-append p (x ∷ []), ap length (pending_step d n p x short low))

pub work_next : (d n : ℕ) (p : List ℕ) (x : ℕ) → length p < n → x < d → work_left d n p (x + 1) < work_left d n p x
work_next d n p x short low = omega (arith, skip_shorter d n p x short low)

pub work_up : (d n : ℕ) (p : List ℕ) (y : ℕ) → length p < n → work_left d n p (y + 1) < work_left d n (p ++ y ∷ []) d
work_up d n p y short = omega (arith, length-append p (y ∷ []), ap length (pending_pop d n p y short))
