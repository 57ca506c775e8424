-- The masks of a family.
use Rattle.std.specs.Prelude.{◌≡◌, ℕ, ◌-◌, ◌<◌, ◌≤◌, ◌^◌, List, ◌++◌, length, map, take, drop}
use Rattle.std.specs.Prelude.{replicate, All}
use Rattle.std.proofs.Common.{sym, ◌∙◌, ap, arith}
use Rattle.std.proofs.lemmas.List.{length-map, length-take, take-append-drop}
use Rattle.std.proofs.lemmas.List.Elements.{All-take}
use Rattle.assign.specs.Sets.{mask_of, ones_of}
use Rattle.assign.specs.SetLemmas.{masks_of-ones_of}
use Rattle.propagators.specs.Families.{Family}
use Rattle.propagators.specs.declared.domains.Domains.TheInside.{Inside}

-- the sets of the variables
abbrev pub seen : Inside → Family
seen a = map ones_of (take a.size a.sets)

-- there are at most 128 variables, and the masks past them are 0
pub record AreMasks (a : Inside) : Type 0 where
  pub fits : a.size ≤ 128
  pub whole : length a.sets ≡ 128
  pub past : drop a.size a.sets ≡ replicate (128 - a.size) 0
  pub small : All (λ m. m < 2 ^ 64) a.sets

-- the masks that stand for a family
abbrev pub masks_of : Family → Inside
masks_of f = record { sets = map mask_of f ++ replicate (128 - length f) 0; size = length f }

made : (sets : List ℕ) (size : ℕ) (a : Inside) → sets ≡ a.sets → size ≡ a.size →
    (let x : Inside = record { sets = sets; size = size } in x) ≡ a
made sets size a e f =
    ap (λ (k : List ℕ). let x : Inside = record { sets = k; size = size } in x) e
    ∙ ap (λ (k : ℕ). let x : Inside = record { sets = a.sets; size = k } in x) f

pub masks_of-seen : (a : Inside) → AreMasks a → masks_of (seen a) ≡ a
masks_of-seen a h =
    let long : length (map ones_of (take a.size a.sets)) ≡ a.size =
    length-map (take a.size a.sets) ones_of
    ∙ simp length-take (let f = h.fits in let w = h.whole in omega arith) in
    made _ (length (map ones_of (take a.size a.sets))) a
    (ap (λ k. map mask_of (map ones_of (take a.size a.sets)) ++ replicate (128 - k) 0) long
    ∙ ap (λ (xs : List ℕ). xs ++ replicate (128 - a.size) 0)
    (masks_of-ones_of (take a.size a.sets) (All-take (λ m. m < 2 ^ 64) a.size a.sets h.small))
    ∙ ap (λ (r : List ℕ). take a.size a.sets ++ r) (sym h.past) ∙ take-append-drop a.size a.sets)
    long
