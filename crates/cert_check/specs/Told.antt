-- What the answers tell of all candidates, by scope.
use Rattle.std.specs.Prelude.{ℕ, ◌≡◌, ◌<◌, ◌≤◌, ◌&&◌, Bool, true, false, not, List, length}
use Rattle.std.specs.Prelude.{position, Option, Some, None, option_map, slice_index_or}
use Rattle.std.specs.Option.{option_or}
use Rattle.std.specs.List.{list_any}
use Rattle.assign.specs.SetLemmas.{is_one}
use Rattle.assign.specs.Assignment.{Assignment}
use Rattle.assign.specs.Events.{Answer}
use Rattle.language.specs.declared.candidates.Candidate.{Candidate}
use Rattle.language.specs.Language.{Language, candidates, relations_on, violates}
use Rattle.language.specs.Answers.{is_struck}
use Rattle.cert_check.specs.declared.verdict.Flaw.{Flaw}
use Rattle.cert_check.specs.declared.verdict.Flaw.TheVariants as flaw
use Rattle.cert_check.specs.Certificate.{Refutation}
use Rattle.cert_check.specs.Checking.{has_own_no, is_no_on, is_rival, is_uncovered}
use Rattle.cert_check.specs.declared.told.Told.{Told}

-- for each scope the relations whose candidates no yes violates: bit r is one for relation r
pub record AreUnstruck (l : Language) (t : List Answer) (list : List ℕ) : Type 0 where
  pub long : length list ≡ length l.scopes
  pub few : (s : ℕ) → s < length l.scopes → length (relations_on l s) ≤ 64
  pub each : (s r : ℕ) → s < length l.scopes → r < length (relations_on l s) →
      is_one (slice_index_or list s 0) r ≡ not (is_struck l t (record { scope = s; rel = r }))

-- the first n scopes have lost the relations whose candidates the question violates, and the others
-- are as they were
pub record HaveLost (l : Language) (q : Assignment) (n : ℕ) (before now : List ℕ) : Type 0 where
  pub long : length now ≡ length before
  pub each : (s r : ℕ) → s < n → s < length l.scopes →
      r < length (relations_on l s) → is_one (slice_index_or now s 0) r
      ≡ (is_one (slice_index_or before s 0) r && not (violates l (record { scope = s; rel = r }) q))
  pub rest : (s : ℕ) → n ≤ s → slice_index_or now s 0 ≡ slice_index_or before s 0

-- whether an answer is a no about exactly the scope of this number
abbrev pub is_no_about : Language → ℕ → Answer → Bool
is_no_about l s a = is_no_on l (record { scope = s; rel = 0 }) a

-- No answer is such a no; or one is, and the mask has the relations on the scope that accept the
-- tuple of one.
abbrev pub IsSparedOn : Language → List Answer → ℕ → Option ℕ → Type 0
IsSparedOn l t s None = list_any (is_no_about l s) t ≡ false
IsSparedOn l t s (Some mask) =
    (list_any (is_no_about l s) t ≡ true) ×
    ((r : ℕ) → r < length (relations_on l s) → is_one mask r ≡ list_any (λ a.
    is_no_about l s a && not (violates l (record { scope = s; rel = r }) a.question)) t)

-- this is told of each scope
pub record AreSpared (l : Language) (t : List Answer) (list : List (Option ℕ)) : Type 0 where
  pub long : length list ≡ length l.scopes
  pub each : (s : ℕ) → s < length l.scopes → IsSparedOn l t s (slice_index_or list s None)

-- what the answers tell
pub record IsToldBy (l : Language) (t : List Answer) (told : Told) : Type 0 where
  pub unstruck : AreUnstruck l t told.unstruck.items
  pub spared : AreSpared l t told.spared.items

-- the flaws of the kinds that a told scope or candidate has, and the first of them
abbrev pub flaw_told : Language → List Candidate → List Answer → List Refutation → Option Flaw
flaw_told l network t refutations =
    option_or (option_map flaw.NoOwnNo (position (λ c. not (has_own_no l t c)) network)) (
    option_or (option_map flaw.Rival (position (is_rival l network t) (candidates l)))
    (option_map flaw.Uncovered (position (is_uncovered l network t refutations) (candidates l))))
