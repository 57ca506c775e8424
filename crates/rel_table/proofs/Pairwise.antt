-- Lists in which each element stands in a relation to each later one.
use Rattle.rel_table.proofs.Prelude.{ℕ, zero, suc, List, [], ◌∷◌, ◌++◌, take, drop, sym, subst, arith, All, AllPairs, take-append-drop, All-nil, All-cons, All-head, All-tail, All-append, AllPairs-cons}
use Rattle.shared_lemmas.proofs.Lists.{all_left, all_right}

pub no_pairs : {X : Type 0} (R : X → X → Type 0) → AllPairs R []
no_pairs R i j d low high = absurd (omega arith)

pub pairs_head : {X : Type 0} (R : X → X → Type 0) (x : X) (xs : List X) → AllPairs R (x ∷ xs) → All (R x) xs
pairs_head R x xs pairs k d low = pairs zero (suc k) d (omega arith) (omega arith)

pub pairs_tail : {X : Type 0} (R : X → X → Type 0) (x : X) (xs : List X) → AllPairs R (x ∷ xs) → AllPairs R xs
pairs_tail R x xs pairs i j d low high = pairs (suc i) (suc j) d (omega arith) (omega arith)

pub pairs_join : {X : Type 0} (R : X → X → Type 0) (xs ys : List X) → AllPairs R xs → AllPairs R ys → All (λ x. All (R x) ys) xs → AllPairs R (xs ++ ys)
pairs_join R [] ys left right across = right
pairs_join R (x ∷ xs) ys left right across =
    AllPairs-cons R x (xs ++ ys) (All-append (R x) xs ys (pairs_head R x xs left) (All-head (λ z. All (R z) ys) x xs across))
    (pairs_join R xs ys (pairs_tail R x xs left) right (All-tail (λ z. All (R z) ys) x xs across))

-- two lists, and each element of the first stands so to each of the second
pub record IsSplit {X : Type 0} (R : X → X → Type 0) (xs ys : List X) : Type 0 where
  pub left : AllPairs R xs
  pub right : AllPairs R ys
  pub across : All (λ x. All (R x) ys) xs

pairs_parts : {X : Type 0} (R : X → X → Type 0) (xs ys : List X) → AllPairs R (xs ++ ys) → IsSplit R xs ys
pairs_parts R [] ys pairs = record { left = no_pairs R; right = pairs; across = All-nil (λ x. All (R x) ys) }
pairs_parts R (x ∷ xs) ys pairs =
    let rest = pairs_parts R xs ys (pairs_tail R x (xs ++ ys) pairs) in
    let first = pairs_head R x (xs ++ ys) pairs in
    record {
      left = AllPairs-cons R x xs (all_left (R x) xs ys first) rest.left;
      right = rest.right;
      across = All-cons (λ z. All (R z) ys) x xs (all_right (R x) xs ys first) rest.across;
    }

pub pairs_split : {X : Type 0} (R : X → X → Type 0) (xs : List X) (i : ℕ) → AllPairs R xs → IsSplit R (take i xs) (drop i xs)
pairs_split R xs i pairs = pairs_parts R (take i xs) (drop i xs) (subst (AllPairs R) (sym (take-append-drop i xs)) pairs)
