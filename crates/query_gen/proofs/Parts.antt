-- Parts of the candidates: what they say, and how their marks are found and taken over.
use Rattle.query_gen.proofs.Prelude.{◌≡◌, ℕ, ◌+◌, ◌-◌, ◌<◌, ◌≤◌, Bool, true, false, not, ◌&&◌, ◌||◌, cond, List, [], ◌∷◌, ◌++◌, length, map, take, drop, get_or, set, refl, sym, ◌∙◌, ap, subst, arith, inl, inr, ◌⊎◌, append_assoc, get_or-set_same, get_or-set_other, ◌==◌, ◌≢◌, slice_range, filter, filter_map, list_any, drop_more, take_all, map-append, append_cancel_right, length-set, get_or_read, get_or-take, get_or-drop, filter-append, filter_map-append, list_any-append, drop_split, cases_eq, cases_lt, and_from, eq-eqb, both_ways, Assignment, Candidate, Language, IsCandidate, candidates, number_of, numbered, Outcome, outcome_of_candidate, Query, Ask, AllImplied, Undecided, All, IsFindOf, Mark, Blank, Implied, is_among, is_spent, found_in, query_from, query_of, next_query, Remembered, AreMarksFor, MarksHold, mark_of, is_mark_spent, is_open, remembered_begun, without_spent, IsBegun, PartsAreJoined, WholeIsNext, query_in, query_then, is_ask, is_looked_at, byte_for, IsSearched, IsSearchedTo, AreTrue, mark_taken, AreTaken, HasTaken, number_below}
use Rattle.std.specs.Option.{ForSome}
use Rattle.propagators.specs.Indexes.{IsIndexOf}
use Rattle.fd_solver.specs.declared.outcome.Outcome.TheVariants as outcomes
use Rattle.query_gen.specs.declared.screen.Mark.TheVariants as marks
use Rattle.query_gen.proofs.Numbers.{same_number}
use Rattle.query_gen.proofs.Marking.{has_begun}

-- ---- Ranges

range_join : {X : Type 0} (xs : List X) (first middle end : ℕ) → first ≤ middle → middle ≤ end → slice_range xs first end ≡ slice_range xs first middle ++ slice_range xs middle end
range_join xs first middle end before behind =
    append_cancel_right (slice_range xs first end) (slice_range xs first middle ++ slice_range xs middle end) (drop end xs)
    (sym (drop_split xs first end (omega arith)) ∙ drop_split xs first middle before ∙ ap (λ ys. slice_range xs first middle ++ ys) (drop_split xs middle end behind)
    ∙ sym (append_assoc (slice_range xs first middle) (slice_range xs middle end) (drop end xs)))

range_one : {X : Type 0} (xs : List X) (at : ℕ) (d : X) → at < length xs → slice_range xs at (at + 1) ≡ get_or xs at d ∷ []
range_one xs at d low = ap (λ n. take n (drop at xs)) (let e : (at + 1) - at ≡ 1 = omega arith in e) ∙ ap (take 1) (drop_more xs at d low)

range_none : {X : Type 0} (xs : List X) (at : ℕ) → slice_range xs at at ≡ []
range_none xs at = ap (λ n. take n (drop at xs)) (let e : at - at ≡ 0 = omega arith in e)

range_whole : {X : Type 0} (xs : List X) → slice_range xs 0 (length xs) ≡ xs
range_whole xs = take_all (length xs - 0) xs (omega arith)

-- ---- What parts say

query_both : (xs ys : List Outcome) → query_of (xs ++ ys) ≡ query_then (query_of xs) (query_of ys)
query_both xs ys =
    (λ i. query_from (filter_map-append found_in xs ys i) (list_any-append is_spent xs ys i))
    ∙ go (filter_map found_in xs) (list_any is_spent xs) (filter_map found_in ys) (list_any is_spent ys)
  where
    go : (es : List Assignment) (b : Bool) (fs : List Assignment) (c : Bool) → query_from (es ++ fs) (b || c) ≡ query_then (query_from es b) (query_from fs c)
    go (e ∷ es) b fs c = refl
    go [] true (f ∷ fs) c = refl
    go [] true [] true = refl
    go [] true [] false = refl
    go [] false fs c = refl

pub parts_are_joined : PartsAreJoined
parts_are_joined l network kept budget first middle end before behind =
    ap (λ cs. query_of (map of (filter (is_among kept) cs))) (range_join (candidates l) first middle end before behind)
    ∙ ap (λ cs. query_of (map of cs)) (filter-append (is_among kept) (slice_range (candidates l) first middle) (slice_range (candidates l) middle end))
    ∙ ap query_of (map-append of (filter (is_among kept) (slice_range (candidates l) first middle)) (filter (is_among kept) (slice_range (candidates l) middle end)))
    ∙ query_both (map of (filter (is_among kept) (slice_range (candidates l) first middle))) (map of (filter (is_among kept) (slice_range (candidates l) middle end)))
  where
    of : Candidate → Outcome
    of c = outcome_of_candidate l network c budget

pub whole_is_next : WholeIsNext
whole_is_next l network kept budget = ap (λ cs. query_of (map (λ c. outcome_of_candidate l network c budget) (filter (is_among kept) cs))) (range_whole (candidates l))

-- where the two of them give no question, neither does
pub no_ask_parts : (q r : Query) → is_ask (query_then q r) ≡ false → (is_ask q ≡ false) × (is_ask r ≡ false)
no_ask_parts (Ask e) r h = cc
no_ask_parts AllImplied r h = (refl, h)
no_ask_parts Undecided (Ask e) h = cc
no_ask_parts Undecided AllImplied h = (refl, refl)
no_ask_parts Undecided Undecided h = (refl, refl)

then_ask : (q r : Query) → is_ask q ≡ true → query_then q r ≡ q
then_ask (Ask e) r h = refl
then_ask AllImplied r h = cc
then_ask Undecided r h = cc

then_nothing : (q : Query) → query_then q AllImplied ≡ q
then_nothing (Ask e) = refl
then_nothing AllImplied = refl
then_nothing Undecided = refl

pub then_found : (q : Query) (e : Assignment) → is_ask q ≡ false → query_then q (Ask e) ≡ Ask e
then_found (Ask x) e h = cc
then_found AllImplied e h = refl
then_found Undecided e h = refl

then_open : (q : Query) → is_ask q ≡ false → query_then q Undecided ≡ Undecided
then_open (Ask e) h = cc
then_open AllImplied h = refl
then_open Undecided h = refl

module _ (l : Language) (network kept : List Candidate) (budget : ℕ) where
  abbrev of : Candidate → Outcome
  of c = outcome_of_candidate l network c budget

  abbrev says : ℕ → ℕ → Query
  says first end = query_in l network kept budget first end

  -- where the first candidates give a question, the others say nothing more
  pub says_early : (end : ℕ) → end ≤ length (candidates l) → is_ask (says 0 end) ≡ true → says 0 end ≡ next_query l network kept budget
  says_early end within asks =
      sym (then_ask (says 0 end) (says end (length (candidates l))) asks)
      ∙ sym (parts_are_joined l network kept budget 0 end (length (candidates l)) (omega arith) within) ∙ whole_is_next l network kept budget

  pub says_nothing : (at : ℕ) → says at at ≡ AllImplied
  says_nothing at = ap (λ cs. query_of (map of (filter (is_among kept) cs))) (range_none (candidates l) at)

  says_one : (c : Candidate) → IsCandidate l c → says (number_of l c) (number_of l c + 1) ≡ query_of (map of (cond (is_among kept c) (c ∷ []) []))
  says_one c is =
      ap (λ cs. query_of (map of (filter (is_among kept) cs))) (range_one (candidates l) (number_of l c) c (number_below l c is))
      ∙ ap (λ (d : Candidate). query_of (map of (filter (is_among kept) (d ∷ [])))) ((numbered l).there c c is)

  -- one candidate more
  says_more : (first : ℕ) (c : Candidate) → IsCandidate l c → first ≤ number_of l c →
      says first (number_of l c + 1) ≡ query_then (says first (number_of l c)) (query_of (map of (cond (is_among kept c) (c ∷ []) [])))
  says_more first c is from =
      parts_are_joined l network kept budget first (number_of l c) (number_of l c + 1) from (omega arith)
      ∙ ap (query_then (says first (number_of l c))) (says_one c is)

  pub says_more_of_other : (first : ℕ) (c : Candidate) → IsCandidate l c → first ≤ number_of l c → is_among kept c ≡ false → says first (number_of l c + 1) ≡ says first (number_of l c)
  says_more_of_other first c is from off =
      says_more first c is from ∙ ap (λ b. query_then (says first (number_of l c)) (query_of (map of (cond b (c ∷ []) [])))) off ∙ then_nothing (says first (number_of l c))

  pub says_more_of_kept : (first : ℕ) (c : Candidate) → IsCandidate l c → first ≤ number_of l c → is_among kept c ≡ true → says first (number_of l c + 1) ≡ query_then (says first (number_of l c)) (query_of (of c ∷ []))
  says_more_of_kept first c is from on =
      says_more first c is from ∙ ap (λ b. query_then (says first (number_of l c)) (query_of (map of (cond b (c ∷ []) [])))) on

  -- no question before a candidate, where there is none in the whole part
  pub none_before : (first end : ℕ) (c : Candidate) → first ≤ number_of l c → number_of l c < end → is_ask (says first end) ≡ false → is_ask (says first (number_of l c)) ≡ false
  none_before first end c from below none =
      (no_ask_parts (says first (number_of l c)) (says (number_of l c) end) (ap is_ask (sym (parts_are_joined l network kept budget first (number_of l c) end from (omega arith))) ∙ none)).0

  -- ---- One candidate after another

  abbrev byte_of : ℕ → Candidate → ℕ
  byte_of first c = cond (is_looked_at l network kept budget first c) (byte_for (of c)) 0

  pub searched_none : (first : ℕ) (bytes : List ℕ) (answer : Query) → answer ≡ AllImplied → ((k : ℕ) → get_or bytes k 0 ≡ 0) → IsSearchedTo l network kept budget first first bytes answer
  searched_none first bytes answer is blank = record {
    searched = record { answered = is ∙ sym (says_nothing first); marked = λ c known from below. absurd (omega arith) };
    unset = λ k past. blank k;
  }

  -- the next one isn't kept
  pub searched_other : (first : ℕ) (c : Candidate) (bytes : List ℕ) (answer : Query) → IsCandidate l c → first ≤ number_of l c → is_among kept c ≡ false →
      IsSearchedTo l network kept budget first (number_of l c) bytes answer → IsSearchedTo l network kept budget first (number_of l c + 1) bytes answer
  searched_other first c bytes answer is from off before = record {
    searched = record {
      answered = before.searched.answered ∙ sym (says_more_of_other first c is from off);
      marked = λ d known low below. marked d known low below (cases_eq (number_of l d) (number_of l c));
    };
    unset = λ k past. before.unset k (omega arith);
  }
    where
      marked : (d : Candidate) → IsCandidate l d → first ≤ number_of l d → number_of l d < number_of l c + 1 → (number_of l d ≡ number_of l c) ⊎ (number_of l d ≢ number_of l c) → get_or bytes (number_of l d - first) 0 ≡ byte_of first d
      marked d known low below (inl at) =
          before.unset (number_of l d - first) (omega arith)
          ∙ sym (ap (λ b. cond (b && not (is_ask (says first (number_of l d)))) (byte_for (of d)) 0) (ap (is_among kept) (same_number l d c known is at) ∙ off))
      marked d known low below (inr other) = before.searched.marked d known low (omega arith)

  -- the next one is kept, and its byte is set
  pub searched_kept : (first : ℕ) (c : Candidate) (bytes : List ℕ) (answer next : Query) → IsCandidate l c → first ≤ number_of l c → number_of l c - first < length bytes → is_among kept c ≡ true →
      is_ask answer ≡ false → next ≡ query_then answer (query_of (of c ∷ [])) →
      IsSearchedTo l network kept budget first (number_of l c) bytes answer → IsSearchedTo l network kept budget first (number_of l c + 1) (set bytes (number_of l c - first) (byte_for (of c))) next
  searched_kept first c bytes answer next is from room on none then before = record {
    searched = record {
      answered = then ∙ ap (λ q. query_then q (query_of (of c ∷ []))) before.searched.answered ∙ sym (says_more_of_kept first c is from on);
      marked = λ d known low below. marked d known low below (cases_eq (number_of l d) (number_of l c));
    };
    unset = λ k past. get_or-set_other bytes (number_of l c - first) k (byte_for (of c)) 0 (λ e. omega arith) ∙ before.unset k (omega arith);
  }
    where
      looked_at : is_looked_at l network kept budget first c ≡ true
      looked_at = ap (λ b. b && not (is_ask (says first (number_of l c)))) on ∙ ap not (ap is_ask (sym before.searched.answered) ∙ none)

      marked : (d : Candidate) → IsCandidate l d → first ≤ number_of l d → number_of l d < number_of l c + 1 → (number_of l d ≡ number_of l c) ⊎ (number_of l d ≢ number_of l c) →
          get_or (set bytes (number_of l c - first) (byte_for (of c))) (number_of l d - first) 0 ≡ byte_of first d
      marked d known low below (inl at) =
          ap (λ n. get_or (set bytes (number_of l c - first) (byte_for (of c))) (n - first) 0) at
          ∙ get_or-set_same bytes (number_of l c - first) (byte_for (of c)) 0 room
          ∙ sym (ap (λ b. cond b (byte_for (of c)) 0) looked_at)
          ∙ ap (λ (e : Candidate). byte_of first e) (sym (same_number l d c known is at))
      marked d known low below (inr other) =
          get_or-set_other bytes (number_of l c - first) (number_of l d - first) (byte_for (of c)) 0 (λ e. omega arith)
          ∙ before.searched.marked d known low (omega arith)

  -- where a question was found, the rest says nothing more
  pub searched_found : (first number end : ℕ) (bytes : List ℕ) (answer : Query) → first ≤ number → number ≤ end → is_ask answer ≡ true →
      IsSearchedTo l network kept budget first number bytes answer → IsSearched l network kept budget first end bytes answer
  searched_found first number end bytes answer from low found before = record {
    answered = before.searched.answered ∙ sym (then_ask (says first number) (says number end) here) ∙ sym (parts_are_joined l network kept budget first number end from low);
    marked = λ d known after below. marked d known after below (cases_lt (number_of l d) number);
  }
    where
      here : is_ask (says first number) ≡ true
      here = ap is_ask (sym before.searched.answered) ∙ found

      ask_before : (d : Candidate) → number ≤ number_of l d → is_ask (says first (number_of l d)) ≡ true
      ask_before d past = ap is_ask (parts_are_joined l network kept budget first number (number_of l d) from past ∙ then_ask (says first number) (says number (number_of l d)) here) ∙ here

      off : (b : Bool) (d : Candidate) → is_ask (says first (number_of l d)) ≡ true → cond (b && not (is_ask (says first (number_of l d)))) (byte_for (of d)) 0 ≡ 0
      off true d h = ap (λ a. cond (not a) (byte_for (of d)) 0) h
      off false d h = refl

      marked : (d : Candidate) → IsCandidate l d → first ≤ number_of l d → number_of l d < end → (number_of l d < number) ⊎ (number ≤ number_of l d) → get_or bytes (number_of l d - first) 0 ≡ byte_of first d
      marked d known after below (inl before_it) = before.searched.marked d known after before_it
      marked d known after below (inr past) = before.unset (number_of l d - first) (omega arith) ∙ sym (off (is_among kept d) d (ask_before d past))

-- ---- A part's search, as its calls say it

pub next_other : (l : Language) (network kept : List Candidate) (budget first number : ℕ) (c : Candidate) (bytes : List ℕ) (answer : Query) → IsCandidate l c → number_of l c ≡ number → first ≤ number → is_among kept c ≡ false →
    IsSearchedTo l network kept budget first number bytes answer → IsSearchedTo l network kept budget first (number + 1) bytes answer
next_other l network kept budget first number c bytes answer is at from off before =
    subst (λ (n : ℕ). first ≤ n → IsSearchedTo l network kept budget first n bytes answer → IsSearchedTo l network kept budget first (n + 1) bytes answer) at
    (λ low so_far. searched_other l network kept budget first c bytes answer is low off so_far) from before

pub next_kept : (l : Language) (network kept : List Candidate) (budget first number : ℕ) (c : Candidate) (bytes : List ℕ) (answer next : Query) (byte : ℕ) → IsCandidate l c → number_of l c ≡ number → first ≤ number →
    number - first < length bytes → is_among kept c ≡ true → is_ask answer ≡ false → byte ≡ byte_for (outcome_of_candidate l network c budget) → next ≡ query_then answer (query_of (outcome_of_candidate l network c budget ∷ [])) →
    IsSearchedTo l network kept budget first number bytes answer → IsSearchedTo l network kept budget first (number + 1) (set bytes (number - first) byte) next
next_kept l network kept budget first number c bytes answer next byte is at from room on none byte_is then before =
    subst (λ (b : ℕ). IsSearchedTo l network kept budget first (number + 1) (set bytes (number - first) b) next) (sym byte_is)
    (subst (λ (n : ℕ). first ≤ n → n - first < length bytes → IsSearchedTo l network kept budget first n bytes answer → IsSearchedTo l network kept budget first (n + 1) (set bytes (n - first) (byte_for (outcome_of_candidate l network c budget))) next) at
    (λ low inside so_far. searched_kept l network kept budget first c bytes answer next is low inside on none then so_far) from room before)

pub found_next : (answer : Query) (o : Outcome) (e : Assignment) → is_ask answer ≡ false → o ≡ outcomes.Found e → Ask e ≡ query_then answer (query_of (o ∷ []))
found_next answer o e none is = sym (ap (λ x. query_then answer (query_of (x ∷ []))) is ∙ then_found answer e none)

pub absent_next : (answer : Query) (o : Outcome) → o ≡ outcomes.Absent → answer ≡ query_then answer (query_of (o ∷ []))
absent_next answer o is = sym (ap (λ x. query_then answer (query_of (x ∷ []))) is ∙ then_nothing answer)

pub spent_next : (answer : Query) (o : Outcome) → is_ask answer ≡ false → o ≡ outcomes.Spent → Undecided ≡ query_then answer (query_of (o ∷ []))
spent_next answer o none is = sym (ap (λ x. query_then answer (query_of (x ∷ []))) is ∙ then_open answer none)

-- a mark that counts under this network and budget is true
module _ (l : Language) (network : List Candidate) (budget : ℕ) (s : Remembered) (learned number : ℕ) (c : Candidate) (m : Mark) (made : AreMarksFor l s) (holds : MarksHold l network budget s) (is : learned ≡ length network)
    (known : IsCandidate l c) (at : number_of l c ≡ number) (read : m ≡ get_or (remembered_begun s learned budget).marks number m) where
  here : IsBegun l network budget (remembered_begun s learned budget)
  here = has_begun l network budget s learned made holds is

  mark_read : mark_of l (remembered_begun s learned budget) c ≡ m
  mark_read =
      ap (λ n. get_or (remembered_begun s learned budget).marks n Blank) at
      ∙ sym (get_or_read (remembered_begun s learned budget).marks number m (let size = here.made.marks in let low = number_below l c known in omega arith) read Blank)

  pub under_implied : m ≡ Implied → outcome_of_candidate l network c budget ≡ outcomes.Absent
  under_implied h = here.holds.implied c known (mark_read ∙ h)

  pub under_spent : m ≡ marks.Spent → outcome_of_candidate l network c budget ≡ outcomes.Spent
  under_spent h = here.holds.spent c known (mark_read ∙ h) here.learned here.budgeted

-- ---- A part's marks are taken over

pub taken_none : (bytes : List ℕ) (first : ℕ) (marks : List Mark) → AreTaken bytes first (first + 0) marks marks
taken_none bytes first marks = record { size = refl; inside = λ n from below. absurd (omega arith); outside = λ n out. refl }

-- one mark more has taken its byte over
pub taken_more : (bytes : List ℕ) (first i : ℕ) (old now : List Mark) (m : Mark) → first + i < length now →
    m ≡ mark_taken (get_or now (first + i) Blank) (get_or bytes i 0) → AreTaken bytes first (first + i) old now → AreTaken bytes first (first + (i + 1)) old (set now (first + i) m)
taken_more bytes first i old now m low is before = record {
  size = length-set now (first + i) m ∙ before.size;
  inside = λ n after below. inside n after below (cases_eq n (first + i));
  outside = λ n out. get_or-set_other now (first + i) n m Blank (other n out) ∙ before.outside n (still n out);
}
  where
    other : (n : ℕ) → (n < first) ⊎ (first + (i + 1) ≤ n) → n ≢ first + i
    other n (inl below) e = omega arith
    other n (inr past) e = omega arith

    still : (n : ℕ) → (n < first) ⊎ (first + (i + 1) ≤ n) → (n < first) ⊎ (first + i ≤ n)
    still n (inl below) = inl below
    still n (inr past) = inr (omega arith)

    behind : first + i - first ≡ i
    behind = omega arith

    inside : (n : ℕ) → first ≤ n → n < first + (i + 1) → (n ≡ first + i) ⊎ (n ≢ first + i) → get_or (set now (first + i) m) n Blank ≡ mark_taken (get_or old n Blank) (get_or bytes (n - first) 0)
    inside n after below (inl at) =
        ap (λ k. get_or (set now (first + i) m) k Blank) at ∙ get_or-set_same now (first + i) m Blank low ∙ is
        ∙ ap (λ k. mark_taken k (get_or bytes i 0)) (before.outside (first + i) (inr (omega arith)))
        ∙ ap (λ k. mark_taken (get_or old (first + i) Blank) (get_or bytes k 0)) (sym behind)
        ∙ ap (λ k. mark_taken (get_or old k Blank) (get_or bytes (k - first) 0)) (sym at)
    inside n after below (inr other) = get_or-set_other now (first + i) n m Blank other ∙ before.inside n after (omega arith)

-- a screen whose marks have taken the bytes over
pub has_taken : (bytes : List ℕ) (first end : ℕ) (old new : Remembered) → new.first ≡ old.first → new.learned ≡ old.learned → new.budget ≡ old.budget → new.index ≡ old.index → new.finds ≡ old.finds → AreTaken bytes first end old.marks new.marks → HasTaken bytes first end old new
has_taken bytes first end old new numbers learned budgeted index finds taken = record { numbers = numbers; size = taken.size; learned = learned; budgeted = budgeted; index = index; finds = finds; inside = taken.inside; outside = taken.outside }

-- ---- What was taken over is true

-- the mark with a byte that speaks of an outcome, or with none
taken_outcome : (m : Mark) (o : Outcome) → mark_taken m (byte_for o) ≡ Implied → (o ≡ outcomes.Absent) ⊎ (m ≡ Implied)
taken_outcome Blank (outcomes.Found e) h = cc
taken_outcome Implied (outcomes.Found e) h = inr refl
taken_outcome marks.Spent (outcomes.Found e) h = cc
taken_outcome m outcomes.Absent h = inl refl
taken_outcome m outcomes.Spent h = cc

taken_nothing : (m : Mark) → mark_taken m 0 ≡ Implied → m ≡ Implied
taken_nothing Blank h = cc
taken_nothing Implied h = refl
taken_nothing marks.Spent h = cc

taken_spent : (m : Mark) (o : Outcome) → is_mark_spent (mark_taken m (byte_for o)) ≡ is_spent o
taken_spent Blank (outcomes.Found e) = refl
taken_spent Implied (outcomes.Found e) = refl
taken_spent marks.Spent (outcomes.Found e) = refl
taken_spent m outcomes.Absent = refl
taken_spent m outcomes.Spent = refl

unset_spent : (m : Mark) → is_mark_spent (mark_taken m 0) ≡ false
unset_spent Blank = refl
unset_spent Implied = refl
unset_spent marks.Spent = refl

spent_outcome : (o : Outcome) → is_spent o ≡ true → o ≡ outcomes.Spent
spent_outcome (outcomes.Found e) h = cc
spent_outcome outcomes.Absent h = cc
spent_outcome outcomes.Spent h = refl

-- The screen has taken over the marks of the candidates below a number.
pub record IsTakenTo (l : Language) (network kept : List Candidate) (budget number : ℕ) (s : Remembered) : Type 0 where
  pub made : AreMarksFor l s
  pub holds : MarksHold l network budget s
  -- it is a screen of this network and budget, once one part has been taken over
  pub learned : 0 < number → s.learned ≡ length network
  pub budgeted : 0 < number → s.budget ≡ budget
  -- where these candidates gave no question, those with an outcome of spent are open
  pub opened : is_ask (query_in l network kept budget 0 number) ≡ false → (c : Candidate) → IsCandidate l c → number_of l c < number → is_open l s c ≡ (is_among kept c && is_spent (outcome_of_candidate l network c budget))

-- what was searched says what is true, and so does a range of it
pub searched_true : (l : Language) (network kept : List Candidate) (budget first end : ℕ) (bytes : List ℕ) (answer : Query) → IsSearched l network kept budget first end bytes answer → AreTrue l network budget first end bytes
searched_true l network kept budget first end bytes answer part = λ c is from below. (is_looked_at l network kept budget first c, part.marked c is from below)

range_true : (l : Language) (network : List Candidate) (budget first end from to : ℕ) (bytes : List ℕ) → first ≤ from → to ≤ end → AreTrue l network budget first end bytes →
    AreTrue l network budget from to (slice_range bytes (from - first) (to - first))
range_true l network budget first end from to bytes low high are = λ c is after before.
    (let true_byte = are c is (omega arith) (omega arith) in (
      true_byte.0,
      get_or-take ((to - first) - (from - first)) (drop (from - first) bytes) (number_of l c - from) 0 (omega arith) ∙ get_or-drop (from - first) bytes (number_of l c - from) 0
          ∙ ap (λ k. get_or bytes k 0) (let e : (from - first) + (number_of l c - from) ≡ number_of l c - first = omega arith in e) ∙ true_byte.1,
    ))

pub part_range_true : (l : Language) (network kept : List Candidate) (budget first end from to : ℕ) (bytes : List ℕ) (answer : Query) → first ≤ from → to ≤ end → IsSearched l network kept budget first end bytes answer →
    AreTrue l network budget from to (slice_range bytes (from - first) (to - first))
part_range_true l network kept budget first end from to bytes answer low high part =
    range_true l network budget first end from to bytes low high (searched_true l network kept budget first end bytes answer part)

module _ (l : Language) (network : List Candidate) (budget first end : ℕ) (bytes : List ℕ) (old new : Remembered) (remembered_begun : IsBegun l network budget old) (taken : HasTaken bytes first end old new) where
  pub made_taken : AreMarksFor l new
  made_taken = record { first = taken.numbers ∙ remembered_begun.made.first; marks = taken.size ∙ remembered_begun.made.marks; index = subst (IsIndexOf l) (sym taken.index) remembered_begun.made.index }

  abbrev inner : Candidate → Outcome
  inner c = outcome_of_candidate l network c budget

  pub holds_taken : AreTrue l network budget first end bytes → MarksHold l network budget new
  holds_taken are = record {
    implied = λ c is h. implied c is h (cases_lt (number_of l c) first) (cases_lt (number_of l c) end);
    spent = λ c is h e f. spent c is h (cases_lt (number_of l c) first) (cases_lt (number_of l c) end);
    earlier = λ c is h. (let same = taken.learned in let here = remembered_begun.learned in omega arith);
    finds = subst (All (λ f. ForSome f (IsFindOf l network budget))) (sym taken.finds) remembered_begun.holds.finds;
  }
    where
      mark_inside : (c : Candidate) → IsCandidate l c → (from : first ≤ number_of l c) → (below : number_of l c < end) → (b : Bool) × (mark_of l new c ≡ mark_taken (mark_of l old c) (cond b (byte_for (inner c)) 0))
      mark_inside c is from below = let byte = are c is from below in (byte.0, taken.inside (number_of l c) from below ∙ ap (mark_taken (mark_of l old c)) byte.1)

      told : (b : Bool) (c : Candidate) → IsCandidate l c → mark_taken (mark_of l old c) (cond b (byte_for (inner c)) 0) ≡ Implied → inner c ≡ outcomes.Absent
      told true c is h = either (taken_outcome (mark_of l old c) (inner c) h)
        where
          either : (inner c ≡ outcomes.Absent) ⊎ (mark_of l old c ≡ Implied) → inner c ≡ outcomes.Absent
          either (inl absent) = absent
          either (inr before) = remembered_begun.holds.implied c is before
      told false c is h = remembered_begun.holds.implied c is (taken_nothing (mark_of l old c) h)

      implied : (c : Candidate) → IsCandidate l c → mark_of l new c ≡ Implied → (number_of l c < first) ⊎ (first ≤ number_of l c) → (number_of l c < end) ⊎ (end ≤ number_of l c) → inner c ≡ outcomes.Absent
      implied c is h (inl before) side = remembered_begun.holds.implied c is (sym (taken.outside (number_of l c) (inl before)) ∙ h)
      implied c is h (inr from) (inl below) = let mark = mark_inside c is from below in told mark.0 c is (sym mark.1 ∙ h)
      implied c is h (inr from) (inr past) = remembered_begun.holds.implied c is (sym (taken.outside (number_of l c) (inr past)) ∙ h)

      said : (b : Bool) (c : Candidate) → is_mark_spent (mark_taken (mark_of l old c) (cond b (byte_for (inner c)) 0)) ≡ true → inner c ≡ outcomes.Spent
      said true c h = spent_outcome (inner c) (sym (taken_spent (mark_of l old c) (inner c)) ∙ h)
      said false c h = absurd (both_ways (is_mark_spent (mark_taken (mark_of l old c) 0)) (unset_spent (mark_of l old c)) h)

      spent : (c : Candidate) → IsCandidate l c → mark_of l new c ≡ marks.Spent → (number_of l c < first) ⊎ (first ≤ number_of l c) → (number_of l c < end) ⊎ (end ≤ number_of l c) → inner c ≡ outcomes.Spent
      spent c is h (inl before) side = remembered_begun.holds.spent c is (sym (taken.outside (number_of l c) (inl before)) ∙ h) remembered_begun.learned remembered_begun.budgeted
      spent c is h (inr from) (inl below) = let mark = mark_inside c is from below in said mark.0 c (sym (ap is_mark_spent mark.1) ∙ ap is_mark_spent h)
      spent c is h (inr from) (inr past) = remembered_begun.holds.spent c is (sym (taken.outside (number_of l c) (inr past)) ∙ h) remembered_begun.learned remembered_begun.budgeted

  -- a part's candidates are open where they were looked at and their outcome is spent
  open_inside : (kept : List Candidate) (answer : Query) → IsSearched l network kept budget first end bytes answer → (c : Candidate) → IsCandidate l c → first ≤ number_of l c → number_of l c < end →
      is_open l new c ≡ (is_looked_at l network kept budget first c && is_spent (inner c))
  open_inside kept answer part c is from below =
      ap is_mark_spent (taken.inside (number_of l c) from below ∙ ap (mark_taken (mark_of l old c)) (part.marked c is from below)) ∙ go (is_looked_at l network kept budget first c)
    where
      go : (b : Bool) → is_mark_spent (mark_taken (mark_of l old c) (cond b (byte_for (inner c)) 0)) ≡ (b && is_spent (inner c))
      go true = taken_spent (mark_of l old c) (inner c)
      go false = unset_spent (mark_of l old c)

-- a search under the same network and budget forgets nothing
begun_same : (s : Remembered) (learned budget : ℕ) → s.learned ≡ learned → s.budget ≡ budget → remembered_begun s learned budget ≡ s
begun_same s learned budget e f =
    ap (λ b. cond b s (record { first = s.first; marks = map without_spent s.marks; learned = learned; budget = budget; index = s.index; finds = s.finds }))
    (and_from (s.learned == learned) (s.budget == budget) (eq-eqb s.learned learned e) (eq-eqb s.budget budget f))

-- one part more
pub taken_further : (l : Language) (network kept : List Candidate) (budget first end : ℕ) (bytes : List ℕ) (answer : Query) (old new : Remembered) → first ≤ end →
    IsTakenTo l network kept budget first old → HasTaken bytes first end (remembered_begun old (length network) budget) new → IsSearched l network kept budget first end bytes answer →
    IsTakenTo l network kept budget end new
taken_further l network kept budget first end bytes answer old new rising before taken part = record {
  made = made_taken l network budget first end bytes (remembered_begun old (length network) budget) new here taken;
  holds = holds_taken l network budget first end bytes (remembered_begun old (length network) budget) new here taken (searched_true l network kept budget first end bytes answer part);
  learned = λ some. taken.learned ∙ here.learned;
  budgeted = λ some. taken.budgeted ∙ here.budgeted;
  opened = λ none c is below. opened none c is below (cases_lt (number_of l c) first);
}
  where
    here : IsBegun l network budget (remembered_begun old (length network) budget)
    here = has_begun l network budget old (length network) before.made before.holds refl

    says : ℕ → ℕ → Query
    says from to = query_in l network kept budget from to

    parts : is_ask (says 0 end) ≡ false → (is_ask (says 0 first) ≡ false) × (is_ask (says first end) ≡ false)
    parts none = no_ask_parts (says 0 first) (says first end) (ap is_ask (sym (parts_are_joined l network kept budget 0 first end (omega arith) rising)) ∙ none)

    kept_as : (b : Bool) (o : Outcome) → ((b && not false) && is_spent o) ≡ (b && is_spent o)
    kept_as true o = refl
    kept_as false o = refl

    opened : is_ask (says 0 end) ≡ false → (c : Candidate) → IsCandidate l c → number_of l c < end → (number_of l c < first) ⊎ (first ≤ number_of l c) →
        is_open l new c ≡ (is_among kept c && is_spent (outcome_of_candidate l network c budget))
    opened none c is below (inl earlier) =
        ap is_mark_spent (taken.outside (number_of l c) (inl earlier) ∙ ap (λ (s : Remembered). mark_of l s c) (begun_same old (length network) budget (before.learned (omega arith)) (before.budgeted (omega arith))))
        ∙ before.opened (parts none).0 c is earlier
    opened none c is below (inr from) =
        open_inside l network budget first end bytes (remembered_begun old (length network) budget) new here taken kept answer part c is from below
        ∙ ap (λ a. (is_among kept c && not a) && is_spent (outcome_of_candidate l network c budget)) (none_before l network kept budget first end c from below (parts none).1)
        ∙ kept_as (is_among kept c) (outcome_of_candidate l network c budget)

-- ---- What the call that takes them over says

pub holds_over : (l : Language) (network : List Candidate) (budget first end : ℕ) (bytes : List ℕ) (old new : Remembered) → HasTaken bytes first end (remembered_begun old (length network) budget) new →
    AreMarksFor l old → MarksHold l network budget old → AreTrue l network budget first end bytes → MarksHold l network budget new
holds_over l network budget first end bytes old new taken made holds are =
    holds_taken l network budget first end bytes (remembered_begun old (length network) budget) new (has_begun l network budget old (length network) made holds refl) taken are
