-- The mask of the relations that accept the tuple at a place, and what a mask has without them.
use Rattle.bias_store.proofs.Prelude.{◌≡◌, ℕ, ◌^◌, ◌<◌, ◌≤◌, false, ◌&&◌, not, List, [], length, get_or, Some, refl, sym, ◌∙◌, ap, arith, inl, inr, ◌⊎◌, ◌==◌, bit_and, bit_not, w64, filter, cases_lt, eq-eqb, bit_at_above, Assignment, numbers, has, is_one, Relation, Language, relations_on, place_on, violates, any_number, ones_of, accepting_on, ones_of-listed, ones_of-passing, has-filter, has-ones_of, is_one-and_not}
use Rattle.std.proofs.Math.ListN.{get_or-eq_default}
use Rattle.bias_store.proofs.Members.{candidate_at}
use Rattle.bias_store.proofs.Picked.{covered}
use Rattle.std.proofs.Math.Bool.{and-false}

-- the mask tells of the first r relations whether they accept, and has no other ones
pub record IsMaskOf (relations : List Relation) (place r mask : ℕ) : Type 0 where
  pub low : (k : ℕ) → k < r → is_one mask k ≡ get_or (get_or relations k []) place false
  pub high : (k : ℕ) → r ≤ k → is_one mask k ≡ false

-- all relations on a scope were looked at
pub mask_all : (l : Language) (s place r mask : ℕ) → r ≡ length (relations_on l s) → r ≤ 64 → IsMaskOf (relations_on l s) place r mask → ones_of mask ≡ accepting_on l s place
mask_all l s place r mask end few is =
    ones_of-listed mask r (λ k. get_or (get_or (relations_on l s) k []) place false) few is.low is.high
    ∙ ap (λ n. filter (λ k. get_or (get_or (relations_on l s) k []) place false) (numbers n)) end

-- ---- the bits of such a mask

-- no relation past the last one accepts a tuple
pub none_accepts : (relations : List Relation) (place r : ℕ) → length relations ≤ r → get_or (get_or relations r []) place false ≡ false
none_accepts relations place r past = ap (λ t. get_or t place false) (get_or-eq_default relations [] {n = r} past)

-- a relation is among those that accept
pub has_accepting : (l : Language) (s place mask r : ℕ) → ones_of mask ≡ accepting_on l s place → has (ones_of mask) r ≡ get_or (get_or (relations_on l s) r []) place false
has_accepting l s place mask r is =
    ap (λ xs. has xs r) is ∙ has-filter (λ k. get_or (get_or (relations_on l s) k []) place false) (numbers (length (relations_on l s))) r
    ∙ go (cases_lt r (length (relations_on l s)))
  where
    go : (r < length (relations_on l s)) ⊎ (length (relations_on l s) ≤ r) →
        (has (numbers (length (relations_on l s))) r && get_or (get_or (relations_on l s) r []) place false) ≡ get_or (get_or (relations_on l s) r []) place false
    go (inl below) = ap (λ b. b && get_or (get_or (relations_on l s) r []) place false) (any_number (λ x. x == r) (length (relations_on l s)) r below (eq-eqb r r refl))
    go (inr past) = ap (λ b. has (numbers (length (relations_on l s))) r && b) (none_accepts (relations_on l s) place r past)
        ∙ and-false (has (numbers (length (relations_on l s))) r) ∙ sym (none_accepts (relations_on l s) place r past)

pub accepting_bit : (l : Language) (s place mask r : ℕ) → r < 64 → ones_of mask ≡ accepting_on l s place → is_one mask r ≡ get_or (get_or (relations_on l s) r []) place false
accepting_bit l s place mask r low is = sym (has-ones_of mask r low) ∙ has_accepting l s place mask r is

-- the same of every number, where there are few relations
pub any_accepting_bit : (l : Language) (s place mask r : ℕ) → mask < 2 ^ 64 → length (relations_on l s) ≤ 64 → ones_of mask ≡ accepting_on l s place → is_one mask r ≡ get_or (get_or (relations_on l s) r []) place false
any_accepting_bit l s place mask r small few is = go (cases_lt r 64)
  where
    go : (r < 64) ⊎ (64 ≤ r) → is_one mask r ≡ get_or (get_or (relations_on l s) r []) place false
    go (inl low) = accepting_bit l s place mask r low is
    go (inr far) = ap (λ x. x == 1) (bit_at_above mask 64 r small far) ∙ sym (none_accepts (relations_on l s) place r (omega arith))

-- without the relations that accept a question's tuple, those that it violates are left
pub without_accepting : (l : Language) (s : ℕ) (q : Assignment) (place relations mask : ℕ) → mask < 2 ^ 64 → Some place ≡ place_on l s q → ones_of mask ≡ accepting_on l s place →
    ones_of (bit_and relations (bit_not w64 mask)) ≡ filter (λ r. violates l (candidate_at s r) q) (ones_of relations)
without_accepting l s q place relations mask small at is =
    ones_of-passing (bit_and relations (bit_not w64 mask)) relations (λ r. not (get_or (get_or (relations_on l s) r []) place false))
    (λ r low. is_one-and_not relations mask r small low ∙ ap (λ b. is_one relations r && not b) (accepting_bit l s place mask r low is))
    ∙ (λ i. filter (λ r. sym (covered l s q place r at) i) (ones_of relations))

-- one mask without another
pub ones_without : (mask other : ℕ) → other < 2 ^ 64 → ones_of (bit_and mask (bit_not w64 other)) ≡ filter (λ r. not (has (ones_of other) r)) (ones_of mask)
ones_without mask other small =
    ones_of-passing (bit_and mask (bit_not w64 other)) mask (λ r. not (has (ones_of other) r)) (λ r low. is_one-and_not mask other r small low ∙ ap (λ b. is_one mask r && not b) (sym (has-ones_of other r low)))

-- without those that accept its tuple, a question violates those that are left
pub without_those : (l : Language) (s : ℕ) (q : Assignment) (place relations mask : ℕ) → Some place ≡ place_on l s q → ones_of mask ≡ accepting_on l s place →
    filter (λ r. not (has (ones_of mask) r)) (ones_of relations) ≡ filter (λ r. violates l (candidate_at s r) q) (ones_of relations)
without_those l s q place relations mask at is = λ i. filter (λ r. (ap not (has_accepting l s place mask r is) ∙ sym (covered l s q place r at)) i) (ones_of relations)
