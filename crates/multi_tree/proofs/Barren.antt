-- Sets within which no listed scope lies, and their parts.
use Rattle.multi_tree.proofs.Prelude.{◌≡◌, ℕ, ◌+◌, ◌<◌, ◌≤◌, Bool, true, false, not, ◌&&◌, List, [], ◌∷◌, ◌++◌, length, refl, sym, ◌∙◌, ap, subst, arith, length-append, length-map, list_any, and_parts, and_from, both_ways, has, is_within, without, parts_without}
use Rattle.std.proofs.Common.{inl, inr}
use Rattle.std.specs.Prelude.{min, if◌then◌else◌, ◌⊎◌}
use Rattle.std.proofs.lemmas.Bool.{cases_lt}
use Rattle.assign.specs.SetLemmas.{has-set_where, has-set_where_above}
use Rattle.language.proofs.Lists.{any_weaker}
use Rattle.multi_tree.specs.Listed.{AreBarren}

-- ---- within a set without one of its members lies no more than within the set

still_has : (xs : List ℕ) (v w : ℕ) → has (without xs v) w ≡ true → has xs w ≡ true
still_has xs v w at = go (cases_lt w 128)
  where
    go : (w < 128) ⊎ (128 ≤ w) → has xs w ≡ true
    go (inl low) = (and_parts (has xs w) (not (has (v ∷ []) w)) (sym (has-set_where (λ u. has xs u && not (has (v ∷ []) u)) w low) ∙ at)).0
    go (inr high) = absurd (both_ways _ (has-set_where_above (λ u. has xs u && not (has (v ∷ []) u)) w high) at)

still_within : (u set : List ℕ) (v : ℕ) → is_within u (without set v) ≡ true → is_within u set ≡ true
still_within [] set v at = refl
still_within (x ∷ u) set v at =
    let parts = and_parts (has (without set v) x) (is_within u (without set v)) at in
    and_from _ _ (still_has set v x parts.0) (still_within u set v parts.1)

pub none_in_part : (sets : List (List ℕ)) (set : List ℕ) (v : ℕ) → list_any (λ u. is_within u set) sets ≡ false → list_any (λ u. is_within u (without set v)) sets ≡ false
none_in_part sets set v none = go (list_any (λ u. is_within u (without set v)) sets) refl
  where
    go : (b : Bool) → list_any (λ u. is_within u (without set v)) sets ≡ b → b ≡ false
    go false off = refl
    go true on = absurd (both_ways _ none (any_weaker (λ u. is_within u (without set v)) (λ u. is_within u set) sets (λ u. still_within u set v) on))

-- ---- from where on

-- it may be raised, and lowered where it is past the sets
pub barren_at : (sets : List (List ℕ)) (old new : ℕ) (waiting : List (List ℕ)) → ((h : ℕ) → h < length waiting → new ≤ h → old ≤ h) → AreBarren sets old waiting → AreBarren sets new waiting
barren_at sets old new [] before at = tt
barren_at sets old new (set ∷ below) before at = (
  (λ from. at.0 (before (length below) (omega arith) from)),
  barren_at sets old new below (λ h low from. before h (let one : h < length (set ∷ below) = omega arith in one) from) at.1,
)

-- nothing is said of few sets
pub barren_nowhere : (sets : List (List ℕ)) (new : ℕ) (waiting : List (List ℕ)) → length waiting ≤ new → AreBarren sets new waiting
barren_nowhere sets new [] few = tt
barren_nowhere sets new (set ∷ below) few = ((λ from. absurd (omega arith)), barren_nowhere sets new below (omega arith))

-- the parts of a set
pub parts_barren : (sets : List (List ℕ)) (barren : ℕ) (set scope : List ℕ) (below : List (List ℕ)) →
    (barren ≤ length scope + length below → list_any (λ u. is_within u set) sets ≡ false) → AreBarren sets barren below → AreBarren sets barren (parts_without set scope ++ below)
parts_barren sets barren set [] below none rest = rest
parts_barren sets barren set (v ∷ scope) below none rest =
    let long : length (parts_without set scope ++ below) ≡ length scope + length below = length-append (parts_without set scope) below ∙ ap (λ n. n + length below) (length-map scope (λ u. without set u)) in (
      (λ from. none_in_part sets set v (none (omega arith))),
      parts_barren sets barren set scope below (λ from. none (omega arith)) rest,
    )

-- of no sets all is said
pub nothing_barren : (barren : ℕ) (waiting : List (List ℕ)) → AreBarren [] barren waiting
nothing_barren barren [] = tt
nothing_barren barren (set ∷ below) = ((λ from. refl), nothing_barren barren below)

-- a set was taken, and it is told whether it is barren
module _ (sets : List (List ℕ)) (barren : ℕ) (set : List ℕ) (below : List (List ℕ)) (is_barren : Bool) (new size : ℕ) where
  abbrev pub IsFrom : Type 0
  IsFrom = new ≡ (if is_barren then min size barren else 1024)

  -- those that waited below it
  pub below_barren : (waiting : List (List ℕ)) → size ≡ length below → length below ≤ 385 → IsFrom → waiting ≡ set ∷ below → AreBarren sets barren waiting → AreBarren sets new below
  below_barren waiting long few is top at = barren_at sets barren new below (go is_barren is) (subst (AreBarren sets barren) top at).1
    where
      go : (b : Bool) → new ≡ (if b then min size barren else 1024) → (h : ℕ) → h < length below → new ≤ h → barren ≤ h
      go true is h low from = omega arith
      go false is h low from = absurd (omega arith)

  -- the set gives way to its parts
  pub split_barren : (waiting all : List (List ℕ)) (scope : List ℕ) → size ≡ length below → length below ≤ 385 → IsFrom → waiting ≡ set ∷ below → AreBarren sets barren waiting →
      length scope ≤ 4 → (is_barren ≡ true → list_any (λ u. is_within u set) sets ≡ false) → all ≡ parts_without set scope ++ below → AreBarren sets new all
  split_barren waiting all scope long few is top at short none parts =
      subst (AreBarren sets new) (sym parts) (parts_barren sets new set scope below (go is_barren refl is) (below_barren waiting long few is top at))
    where
      go : (b : Bool) → is_barren ≡ b → new ≡ (if b then min size barren else 1024) → new ≤ length scope + length below → list_any (λ u. is_within u set) sets ≡ false
      go true on is from = none on
      go false off is from = absurd (omega arith)
