-- Eight parts, one after another.
use Rattle.par_screen.proofs.Prelude.{◌≡◌, ℕ, ◌+◌, ◌-◌, ◌*◌, ◌≤◌, List, length, sym, ◌∙◌, ap, arith, Language, candidates, Query, AllImplied, Remembered, remembered_begun, part_size, query_in, query_then, IsSearched, HasTaken, parts_are_joined, whole_is_next, says_nothing, IsTakenTo, taken_further, part_start}
use Rattle.language.specs.declared.candidates.Candidate.{Candidate}
use Rattle.query_gen.specs.Questions.{next_query}
use Rattle.bias_store.proofs.Tabled.{row_more}

-- ---- Where parts begin

pub start_whole : (l : Language) → part_start l 8 ≡ length (candidates l)
start_whole l = omega arith

pub start_rises : (l : Language) (i : ℕ) → part_start l i ≤ part_start l (i + 1)
start_rises l i = let more = row_more i (part_size l) in omega arith

-- ---- What they say

module _ (l : Language) (network kept : List Candidate) (budget : ℕ) where
  abbrev pub says : ℕ → Query
  says i = query_in l network kept budget 0 (part_start l i)

  pub says_first : says 0 ≡ AllImplied
  says_first = ap (query_in l network kept budget 0) (let e : part_start l 0 ≡ 0 = omega arith in e) ∙ says_nothing l network kept budget 0

  pub says_all : says 8 ≡ next_query l network kept budget
  says_all = ap (query_in l network kept budget 0) (start_whole l) ∙ whole_is_next l network kept budget

  pub says_more : (i : ℕ) (bytes : List ℕ) (answer : Query) → IsSearched l network kept budget (part_start l i) (part_start l (i + 1)) bytes answer → says (i + 1) ≡ query_then (says i) answer
  says_more i bytes answer part =
      parts_are_joined l network kept budget 0 (part_start l i) (part_start l (i + 1)) (omega arith) (start_rises l i) ∙ ap (query_then (says i)) (sym part.answered)

-- ---- One part's marks more

pub taken_part : (l : Language) (network kept : List Candidate) (budget i : ℕ) (bytes : List ℕ) (answer : Query) (old new : Remembered) → IsTakenTo l network kept budget (part_start l i) old →
    HasTaken bytes (part_start l i) (part_start l (i + 1)) (remembered_begun old (length network) budget) new → IsSearched l network kept budget (part_start l i) (part_start l (i + 1)) bytes answer →
    IsTakenTo l network kept budget (part_start l (i + 1)) new
taken_part l network kept budget i bytes answer old new before taken part =
    taken_further l network kept budget (part_start l i) (part_start l (i + 1)) bytes answer old new (start_rises l i) before taken part
