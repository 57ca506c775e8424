-- Pascal's rule, and bounds for up to 128 things.
use Rattle.language.proofs.Prelude.{◌≡◌, ℕ, zero, suc, ◌+◌, ◌*◌, ◌<◌, ◌≤◌, List, [], ◌∷◌, subst, refl, sym, ap, arith, slice_index_or, choices}

pub pascal : (m size : ℕ) → choices (m + 1) (suc size) ≡ choices m size + choices m (suc size)
pascal m size = ap (λ k. choices k (suc size)) (let e : m + 1 ≡ suc m = omega arith in e)

ones : (m : ℕ) → choices m 1 ≡ m
ones zero = refl
ones (suc m) = let rest = ones m in omega (arith, rest)

pairs : (m : ℕ) → m ≤ 128 → choices m 2 ≤ 128 * m
pairs zero few = omega arith
pairs (suc m) few = let rest = pairs m (omega arith) in let one = ones m in omega (arith, rest, one)

triples : (m : ℕ) → m ≤ 128 → choices m 3 ≤ 16384 * m
triples zero few = omega arith
triples (suc m) few = let rest = triples m (omega arith) in let two = pairs m (omega arith) in omega (arith, rest, two)

fours : (m : ℕ) → m ≤ 128 → choices m 4 ≤ 2097152 * m
fours zero few = omega arith
fours (suc m) few = let rest = fours m (omega arith) in let three = triples m (omega arith) in omega (arith, rest, three)

pub record AreFew (m : ℕ) : Type 0 where
  pub ones : choices m 1 ≤ 128
  pub pairs : choices m 2 ≤ 16384
  pub triples : choices m 3 ≤ 2097152
  pub fours : choices m 4 ≤ 268435456

pub are_few : (m : ℕ) → m ≤ 128 → AreFew m
are_few m few =
    let one = ones m in let two = pairs m few in let three = triples m few in let four = fours m few in
    record {
      ones = omega (arith, one);
      pairs = omega (arith, two);
      triples = omega (arith, three);
      fours = omega (arith, four);
    }

pub few_at : (m n : ℕ) → m < n → n ≤ 128 → AreFew m
few_at m n low few = are_few m (omega arith)

-- the four counts
pub record AreFewOf (counts : List ℕ) : Type 0 where
  pub ones : slice_index_or counts 0 0 ≤ 268435456
  pub pairs : slice_index_or counts 1 0 ≤ 268435456
  pub triples : slice_index_or counts 2 0 ≤ 268435456
  pub fours : slice_index_or counts 3 0 ≤ 268435456

pub few_of : (m : ℕ) (counts : List ℕ) → m ≤ 128 → counts ≡ choices m 1 ∷ choices m 2 ∷ choices m 3 ∷ choices m 4 ∷ [] → AreFewOf counts
few_of m counts few is =
    let low = are_few m few in
    let one = low.ones in let two = low.pairs in let three = low.triples in
    subst AreFewOf (sym is) (record {
      ones = omega (arith, one);
      pairs = omega (arith, two);
      triples = omega (arith, three);
      fours = low.fours;
    })
