-- What a strike does on the scopes that it finds.
use Rattle.bias_store.proofs.Prelude.{◌≡◌, ℕ, Bool, true, false, ◌+◌, ◌-◌, ◌<◌, ◌≤◌, List, [], length, not, Option, Some, None, sym, ◌∙◌, ap, arith, slice_index_or, slice_set, bit_and, is_some, filter, list_any, bit_not, w64, IfSome, IfNone, Assignment, Language, violates, Candidate, ones_of, members_from, violated_on, AreNoneViolated, IsViolated, Violated}
use Rattle.bias_store.proofs.Members.{none_passes, one_passes}
use Rattle.bias_store.proofs.Struck.{IsStruck, enough, struck_more, struck_pass, struck_all, fails_of_filter, one_fails}

abbrev fails : Language → Assignment → Candidate → Bool
fails l q c = violates l c q

module _ (l : Language) (q : Assignment) (old now : List ℕ) (from before count relations failed : ℕ) (v : Violated) (all : length old ≡ length l.scopes) (is : IsStruck (fails l q) old now from before count)
    (found : IsViolated l q now from v) (here : relations ≡ slice_index_or now v.scope 0) (counts : failed ≡ length (ones_of v.relations)) where
  up_to : IsStruck (fails l q) old now v.scope before count
  up_to = struck_pass (fails l q) old now from v.scope before count is found.none found.ahead

  low : v.scope < length old
  low = let within = found.within in omega arith

  fail : ones_of v.relations ≡ violated_on l q v.scope relations
  fail = found.here ∙ ap (violated_on l q v.scope) (sym here)

  pub enough_found : failed ≤ count
  enough_found = enough (fails l q) old now v.scope before count relations v.relations failed up_to low here found.small fail counts

  pub struck_found : IsStruck (fails l q) old (slice_set now v.scope (bit_and relations (bit_not w64 v.relations))) (v.scope + 1) before (count - failed)
  struck_found = struck_more (fails l q) old now v.scope before count relations v.relations failed up_to low here found.small fail counts

-- where no more are found
pub struck_rest : (l : Language) (q : Assignment) (old now : List ℕ) (from before count : ℕ) → length old ≡ length l.scopes → from ≤ length l.scopes → IsStruck (fails l q) old now from before count →
    AreNoneViolated l q now from (length l.scopes) → members_from 0 now ≡ filter (λ c. not (fails l q c)) (members_from 0 old)
struck_rest l q old now from before count all within is none =
    struck_all (fails l q) old now (length l.scopes) before count (struck_pass (fails l q) old now from (length l.scopes) before count is none within) (omega arith)

-- whether one is found
any_found : (l : Language) (q : Assignment) (masks : List ℕ) (v : Violated) → length masks ≡ length l.scopes → IsViolated l q masks 0 v → list_any (fails l q) (members_from 0 masks) ≡ true
any_found l q masks v all found =
    let within = found.within in
    one_passes (fails l q) masks v.scope (omega arith) (one_fails (λ r. fails l q (record { scope = v.scope; rel = r })) (slice_index_or masks v.scope 0) v.relations found.small found.here found.some)

none_found : (l : Language) (q : Assignment) (masks : List ℕ) → length masks ≡ length l.scopes → AreNoneViolated l q masks 0 (length l.scopes) → list_any (fails l q) (members_from 0 masks) ≡ false
none_found l q masks all none =
    none_passes (fails l q) masks (λ k low. fails_of_filter (λ r. fails l q (record { scope = k; rel = r })) (ones_of (slice_index_or masks k 0)) (none k (omega arith) (omega arith)))

pub found_or_none : (l : Language) (q : Assignment) (masks : List ℕ) (o : Option Violated) → length masks ≡ length l.scopes → IfSome o (IsViolated l q masks 0) → IfNone o (AreNoneViolated l q masks 0 (length l.scopes)) →
    is_some o ≡ list_any (fails l q) (members_from 0 masks)
found_or_none l q masks (Some v) all found _ = sym (any_found l q masks v all found)
found_or_none l q masks None all _ none = sym (none_found l q masks all none)
