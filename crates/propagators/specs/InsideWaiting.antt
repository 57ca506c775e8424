-- The words of a set of variables.
use Rattle.std.specs.Prelude.{◌≡◌, ℕ, ◌+◌, ◌-◌, ◌<◌, ◌^◌, ◌==◌, Bool, List, nat_lt, if◌then◌else◌}
use Rattle.std.specs.Int.{bit_at}
use Rattle.std.specs.List.{filter}
use Rattle.std.proofs.Common.{refl, ◌∙◌, ap, arith}
use Rattle.std.proofs.lemmas.Bool.{lt-ltb, le-ltb}
use Rattle.assign.specs.Sets.{has, numbers, set_where, mask_of}
use Rattle.assign.specs.SetLemmas.{filter_agree_from, has-set_where}
use Rattle.assign.specs.Sets.{ones_of}
use Rattle.assign.specs.SetLemmas.{mask_of-ones_of}
use Rattle.propagators.specs.declared.waiting.Waiting.TheInside.{Inside}

-- whether a variable's bit is one
abbrev pub is_in_words : ℕ → ℕ → ℕ → Bool
is_in_words low high v = if nat_lt v 64 then bit_at low v == 1 else bit_at high (v - 64) == 1

-- the variables whose bits are ones
abbrev pub seen : Inside → List ℕ
seen a = set_where (is_in_words a.low a.high)

-- each word has 64 bits
pub record AreWords (a : Inside) : Type 0 where
  pub low_small : a.low < 2 ^ 64
  pub high_small : a.high < 2 ^ 64

-- the words that stand for a set
abbrev pub words_in_two : List ℕ → Inside
words_in_two xs = record {
  low = mask_of (filter (λ v. has xs v) (numbers 64));
  high = mask_of (filter (λ v. has xs (v + 64)) (numbers 64));
}

made : (low high : ℕ) (a : Inside) → low ≡ a.low → high ≡ a.high →
    (let x : Inside = record { low = low; high = high } in x) ≡ a
made low high a e f =
    ap (λ (k : ℕ). let x : Inside = record { low = k; high = high } in x) e
    ∙ ap (λ (k : ℕ). let x : Inside = record { low = a.low; high = k } in x) f

low_bit : (low high v : ℕ) → v < 64 → is_in_words low high v ≡ (bit_at low v == 1)
low_bit low high v h = rw (lt-ltb v 64 h) refl

high_bit : (low high v : ℕ) → is_in_words low high (v + 64) ≡ (bit_at high v == 1)
high_bit low high v =
    rw (le-ltb (v + 64) 64 (omega arith)) (ap (λ k. bit_at high k == 1) (omega arith))

low_ones : (a : Inside) → filter (λ v. has (seen a) v) (numbers 64) ≡ ones_of a.low
unfolding ones_of
low_ones a = filter_agree_from (λ v. has (seen a) v) (λ v. bit_at a.low v == 1) 0 64 (λ v from to.
    has-set_where (is_in_words a.low a.high) v (omega arith) ∙ low_bit a.low a.high v (omega arith))

high_ones : (a : Inside) → filter (λ v. has (seen a) (v + 64)) (numbers 64) ≡ ones_of a.high
unfolding ones_of
high_ones a =
    filter_agree_from (λ v. has (seen a) (v + 64)) (λ v. bit_at a.high v == 1) 0 64 (λ v from to.
    has-set_where (is_in_words a.low a.high) (v + 64) (omega arith) ∙ high_bit a.low a.high v)

pub words_again : (a : Inside) → AreWords a → words_in_two (seen a) ≡ a
words_again a h = made _ _ a (ap mask_of (low_ones a) ∙ mask_of-ones_of a.low h.low_small)
    (ap mask_of (high_ones a) ∙ mask_of-ones_of a.high h.high_small)
