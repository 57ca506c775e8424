-- A table of two variables stands for its relation on a scope, since they say the same within the ranges.
use Rattle.propagators.proofs.Prelude.{◌≡◌, ℕ, true, List, [], ◌∷◌, sym, ◌∙◌, subst, Bool, slice_index_or, has, is_in, Language, range_of, Family, Arc, sets_on, is_consistent, IsSubfamily, IsThrough, IsFamilyOf, IsRevised, IsDead, AgreeInside, IsEntailed, by_pair, arc_by, IsPairOf, Pair}
use Rattle.propagators.proofs.Pruned.{consistent, supporting}
use Rattle.propagators.proofs.Replacing.{supported_through, through_supported}
use Rattle.propagators.proofs.Conditions.{tuple_in, family_within}

-- the values of a family are of the ranges
abbrev pub AreRanged : Language → Family → Type 0
AreRanged l f = (v x : ℕ) → has (slice_index_or f v []) x ≡ true → is_in (range_of l v) x ≡ true

pub consistent_as : (l : Language) (f : Family) (scope : List ℕ) (p q : List ℕ → Bool) → AreRanged l f → AgreeInside l scope p q → is_consistent f scope p ≡ true → is_consistent f scope q ≡ true
consistent_as l f scope p q ranged agree ok =
    consistent (record { scope = scope; accepted = q }) f (record {
      at = λ i x low here. through_supported (sets_on f scope) q i x (moved i x (supported_through (sets_on f scope) p i x ((supporting (record { scope = scope; accepted = p }) f ok).at i x low here)));
    })
  where
    moved : (i x : ℕ) → IsThrough (sets_on f scope) p i x → IsThrough (sets_on f scope) q i x
    moved i x t = record { tuple = t.tuple; within = t.within; at = t.at; is = (let there = tuple_in l f ranged scope t.tuple t.within in sym (agree t.tuple there.0 there.1) ∙ t.is) }

pub agree_back : (l : Language) (scope : List ℕ) (p q : List ℕ → Bool) → AgreeInside l scope p q → AgreeInside l scope q p
agree_back l scope p q agree tuple long inside = sym (agree tuple long inside)

module _ (l : Language) (a : Arc) (p : Pair) (f : Family) (is : IsPairOf l a p) (family : IsFamilyOf l f) where
  ranged : (g : Family) → IsSubfamily g f → AreRanged l g
  ranged g sub v x h = family.within v x (sub v x h)

  to_table : (g : Family) → IsSubfamily g f → is_consistent g a.scope a.accepted ≡ true → is_consistent g (p.first ∷ p.second ∷ []) (by_pair l is.pairs p) ≡ true
  to_table g sub ok =
      subst (λ (scope : List ℕ). is_consistent g scope (by_pair l is.pairs p) ≡ true) is.scope
      (consistent_as l g a.scope a.accepted (by_pair l is.pairs p) (ranged g sub) (agree_back l a.scope (by_pair l is.pairs p) a.accepted is.agree) ok)

  from_table : (g : Family) → IsSubfamily g f → is_consistent g (p.first ∷ p.second ∷ []) (by_pair l is.pairs p) ≡ true → is_consistent g a.scope a.accepted ≡ true
  from_table g sub ok =
      consistent_as l g a.scope (by_pair l is.pairs p) a.accepted (ranged g sub) is.agree
      (subst (λ (scope : List ℕ). is_consistent g scope (by_pair l is.pairs p) ≡ true) (sym is.scope) ok)

  pub stood_consistent : is_consistent f (p.first ∷ p.second ∷ []) (by_pair l is.pairs p) ≡ true → is_consistent f a.scope a.accepted ≡ true
  stood_consistent ok = from_table f (λ v x h. h) ok

  pub stood_revised : (g : Family) → IsRevised (arc_by l is.pairs p) f g → IsRevised a f g
  stood_revised g to = record {
    within = to.within;
    greatest = λ other sub ok. to.greatest other sub (to_table other sub ok);
    consistent = from_table g to.within to.consistent;
    size = to.size;
    full = to.full;
  }

  pub stood_dead : IsDead (arc_by l is.pairs p) f → IsDead a f
  stood_dead dead = record {
    variable = dead.variable;
    low = dead.low;
    empty = λ other sub ok. dead.empty other sub (to_table other sub ok);
  }

-- a condition that a table stands for
pub stood_entailed : (l : Language) (a : Arc) (p : Pair) (f : Family) → (is : IsPairOf l a p) → IsFamilyOf l f → IsEntailed (arc_by l is.pairs p) f → IsEntailed a f
stood_entailed l a p f is family e = λ h sub same full. stood_consistent l a p h is (family_within l f h same sub family) (e h sub same full)
