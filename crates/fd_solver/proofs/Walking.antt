-- What holds at each turn of the search, and what each turn makes of it.
use Rattle.fd_solver.proofs.Prelude.{◌≡◌, ℕ, zero, suc, ◌+◌, ◌-◌, ◌<◌, ◌≤◌, true, false, List, [], ◌∷◌, ◌++◌, length, replicate, Option, Some, None, sym, ◌∙◌, ap, subst, arith, length-append, slice_index_or, slice_set, All, All-nil, All-cons, All-head, All-tail, All-push, Candidate, Assignment, assigned, Language, IsLanguage, variable_count, Found, Absent, Spent, IsOrder, is_alive_in, search_outcome, assigned_blank, assigned_push, assigned_pop, size_of}
use Rattle.fd_solver.proofs.Alive.{alive_fronts}
use Rattle.fd_solver.proofs.Turning.{left_at, turn_spent, turn_found, turn_down, turn_next, turn_up, turn_end, turn_first, work_left, work_next}

all_before : (P : ℕ → Type 0) (xs : List ℕ) (y : ℕ) → All P (xs ++ y ∷ []) → All P xs
all_before P [] y h = All-nil P
all_before P (x ∷ xs) y h = All-cons P x xs (All-head P x (xs ++ y ∷ []) h) (all_before P xs y (All-tail P x (xs ++ y ∷ []) h))

last_one : (P : ℕ → Type 0) (xs : List ℕ) (y : ℕ) → All P (xs ++ y ∷ []) → P y
last_one P [] y h = All-head P y [] h
last_one P (x ∷ xs) y h = last_one P xs y (All-tail P x (xs ++ y ∷ []) h)

-- the search is at the prefix p and tries the values from x on there
pub record IsOn (l : Language) (list : List Candidate) (against : Option Candidate) (order : List ℕ) (budget : ℕ) (e : Assignment) (p : List ℕ) (x left : ℕ) : Type 0 where
  pub small : All (λ y. y < l.value_count) p
  pub short : length p < variable_count l
  pub next : x ≤ l.value_count
  pub alive : is_alive_in l list against order p ≡ true
  pub given : e ≡ assigned (variable_count l) order p
  -- what comes from here on has, with what is left of the budget, the outcome of the whole
  pub rest : left_at l.value_count (variable_count l) (assigned (variable_count l) order) (is_alive_in l list against order) p x left ≡ search_outcome l list against order budget

module _ (l : Language) (list : List Candidate) (against : Option Candidate) (order : List ℕ) (is : IsOrder (variable_count l) order) (budget : ℕ) where
  pub begins : IsLanguage l → is_alive_in l list against order [] ≡ true → 1 ≤ budget → IsOn l list against order budget (replicate (variable_count l) None) [] 0 (budget - 1)
  begins lawful passes more =
      let some = lawful.some_variable in
      record {
        small = All-nil (λ y. y < l.value_count);
        short = omega arith;
        next = omega arith;
        alive = passes;
        given = assigned_blank (variable_count l) order is;
        rest = sym (turn_first l.value_count (variable_count l) (assigned (variable_count l) order) (is_alive_in l list against order) (budget - 1) (omega arith) passes)
            ∙ ap (search_outcome l list against order) (let e : suc (budget - 1) ≡ budget = omega arith in e);
      }

  module _ (e : Assignment) (p : List ℕ) (x left : ℕ) (on : IsOn l list against order budget e p x left) where
    pub size_is : length e ≡ variable_count l
    size_is = ap length on.given ∙ size_of (variable_count l) order is p

    pub tried_is : slice_set e (slice_index_or order (length p) 0) (Some x) ≡ assigned (variable_count l) order (p ++ x ∷ [])
    tried_is = ap (λ f. slice_set f (slice_index_or order (length p) 0) (Some x)) on.given ∙ assigned_push (variable_count l) order is p x on.short

    longer : x < l.value_count → All (λ y. y < l.value_count) (p ++ x ∷ [])
    longer low = All-push (λ y. y < l.value_count) p x on.small low

    pub spent : x < l.value_count → is_alive_in l list against order (p ++ x ∷ []) ≡ true → left ≡ 0 → search_outcome l list against order budget ≡ Spent
    spent low passes none = sym on.rest ∙ ap (left_at l.value_count (variable_count l) (assigned (variable_count l) order) (is_alive_in l list against order) p x) none
        ∙ turn_spent l.value_count (variable_count l) (assigned (variable_count l) order) (is_alive_in l list against order) p x on.short low passes

    pub found : x < l.value_count → is_alive_in l list against order (p ++ x ∷ []) ≡ true → 1 ≤ left → length p + 1 ≡ variable_count l →
        search_outcome l list against order budget ≡ Found (slice_set e (slice_index_or order (length p) 0) (Some x))
    found low passes some long = sym on.rest ∙ ap (left_at l.value_count (variable_count l) (assigned (variable_count l) order) (is_alive_in l list against order) p x) (let e : left ≡ suc (left - 1) = omega arith in e)
        ∙ turn_found l.value_count (variable_count l) (assigned (variable_count l) order) (is_alive_in l list against order) p x (left - 1) on.short low passes long
        ∙ ap Found (sym tried_is)

    pub down : x < l.value_count → is_alive_in l list against order (p ++ x ∷ []) ≡ true → 1 ≤ left → length p + 1 < variable_count l →
        IsOn l list against order budget (slice_set e (slice_index_or order (length p) 0) (Some x)) (p ++ x ∷ []) 0 (left - 1)
    down low passes some more = record {
      small = longer low;
      short = omega (arith, length-append p (x ∷ []));
      next = omega arith;
      alive = passes;
      given = tried_is;
      rest = sym (turn_down l.value_count (variable_count l) (assigned (variable_count l) order) (is_alive_in l list against order) p x (left - 1) on.short low passes more)
          ∙ ap (left_at l.value_count (variable_count l) (assigned (variable_count l) order) (is_alive_in l list against order) p x) (let e : suc (left - 1) ≡ left = omega arith in e) ∙ on.rest;
    }

    pub next_value : x < l.value_count → is_alive_in l list against order (p ++ x ∷ []) ≡ false → IsOn l list against order budget e p (x + 1) left
    next_value low fails = record {
      small = on.small;
      short = on.short;
      next = omega arith;
      alive = on.alive;
      given = on.given;
      rest = sym (turn_next l.value_count (variable_count l) (assigned (variable_count l) order) (is_alive_in l list against order) p x left on.short low on.small (alive_fronts l list against order) fails) ∙ on.rest;
    }

    pub over : x ≡ l.value_count → p ≡ [] → search_outcome l list against order budget ≡ Absent
    over last empty = sym on.rest ∙ (λ i. left_at l.value_count (variable_count l) (assigned (variable_count l) order) (is_alive_in l list against order) (empty i) (last i) left)
        ∙ turn_end l.value_count (variable_count l) (assigned (variable_count l) order) (is_alive_in l list against order) left

    pub up : (q : List ℕ) (y : ℕ) → x ≡ l.value_count → p ≡ q ++ y ∷ [] → IsOn l list against order budget (slice_set e (slice_index_or order (length q) 0) None) q (y + 1) left
    up q y last popped =
        let small : All (λ z. z < l.value_count) (q ++ y ∷ []) = subst (All (λ z. z < l.value_count)) popped on.small in
        let long = length-append q (y ∷ []) in
        let size = ap length popped in
        let short = on.short in
        let shorter : length q < variable_count l = omega arith in
        record {
          small = all_before (λ z. z < l.value_count) q y small;
          short = shorter;
          next = (let at = last_one (λ z. z < l.value_count) q y small in omega arith);
          alive = alive_fronts l list against order q (y ∷ []) small (ap (is_alive_in l list against order) (sym popped) ∙ on.alive);
          given = ap (λ f. slice_set f (slice_index_or order (length q) 0) None) (on.given ∙ ap (assigned (variable_count l) order) popped) ∙ assigned_pop (variable_count l) order is q y shorter;
          rest = sym (turn_up l.value_count (variable_count l) (assigned (variable_count l) order) (is_alive_in l list against order) q y left shorter)
              ∙ (λ i. left_at l.value_count (variable_count l) (assigned (variable_count l) order) (is_alive_in l list against order) (sym popped i) (sym last i) left) ∙ on.rest;
        }

-- values at which no prefix is alive are passed over
pub moved : (l : Language) (list : List Candidate) (against : Option Candidate) (order : List ℕ) (is : IsOrder (variable_count l) order) (budget : ℕ) (e : Assignment) (p : List ℕ) (x left : ℕ) → IsOn l list against order budget e p x left → (y : ℕ) → x ≤ y → y ≤ l.value_count →
    ((z : ℕ) → x ≤ z → z < y → is_alive_in l list against order (p ++ z ∷ []) ≡ false) → IsOn l list against order budget e p y left
moved l list against order is budget e p x left on y from within dead = go (y - x) x on (omega arith) dead
  where
    go : (k x : ℕ) → IsOn l list against order budget e p x left → x + k ≡ y → ((z : ℕ) → x ≤ z → z < y → is_alive_in l list against order (p ++ z ∷ []) ≡ false) → IsOn l list against order budget e p y left
    go zero x on at dead = subst (λ (z : ℕ). IsOn l list against order budget e p z left) (let same : x ≡ y = omega arith in same) on
    go (suc k) x on at dead = go k (x + 1) (next_value l list against order is budget e p x left on (omega arith) (dead x (omega arith) (omega arith))) (omega arith) (λ z above low. dead z (omega arith) low)

-- and leave no more work
pub work_passed : (d n : ℕ) (p : List ℕ) (x y : ℕ) → length p < n → x ≤ y → y ≤ d → work_left d n p y ≤ work_left d n p x
work_passed d n p x y short from within = go (y - x) x (omega arith)
  where
    go : (k x : ℕ) → x + k ≡ y → work_left d n p y ≤ work_left d n p x
    go zero x at = subst (λ (z : ℕ). work_left d n p y ≤ work_left d n p z) (let same : y ≡ x = omega arith in same) (let most : work_left d n p y ≤ work_left d n p y = omega arith in most)
    go (suc k) x at = (let more = go k (x + 1) (omega arith) in let step = work_next d n p x short (omega arith) in omega arith)
