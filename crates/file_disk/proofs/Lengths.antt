-- How long a file is after a write.
use Rattle.std.proofs.Common.{◌≡◌, ◌≤◌, ◌+◌, ◌++◌, ◌∙◌, ℕ, List, Option, Some, None, Ok, length, take, drop, max, ap, sym, refl, arith}
use Rattle.std.proofs.lemmas.Grind.{common_steps}
use Rattle.std.proofs.lemmas.List.{length-append, length-drop, length-take-le}
use Rattle.std.proofs.lemmas.Option.{none-some}
use Rattle.std.specs.Option.{ForSome, ForNone}
use Rattle.disk_model.specs.Disk.{Holds, IsWritten}

-- bytes that are written over what stands at a place, and past the end
length_held : (at : ℕ) (bytes old new : List ℕ) → at ≤ length old → Holds old at bytes new → length new ≡ max (length old) (at + length bytes)
length_held at bytes old new here is =
    let whole = ap length is ∙ length-append (take at old ++ bytes) (drop (at + length bytes) old) in
    let first = length-append (take at old) bytes in
    let front = length-take-le at old here in
    let behind = length-drop (at + length bytes) old in omega arith

-- the same of a file that tells its bytes, whose length was told before
module _ {T E : Type 0} (at : ℕ) (bytes now : List ℕ) (n : ℕ) (x : T) where
  pub length_told : (before after : Option (List ℕ)) → ForNone before (after ≡ None) → ForSome before (λ old. n ≡ length old) → ForSome before (λ old. at ≤ length old) →
      ForSome before (λ old. IsWritten {T = T} {E = E} at bytes old after (Ok x)) → after ≡ Some now → length now ≡ max n (at + length bytes)
  length_told None after silent long here written told = absurd (none-some now (sym (silent refl) ∙ told))
  length_told (Some old) after silent long here written told =
      let done = written old refl in
      let both : Some done.now ≡ Some now = sym done.tells ∙ told in
      let same : done.now ≡ now = grind (arith, common_steps) in
      let is = length_held at bytes old done.now (here old refl) done.whole in
      let was = long old refl in ap length (sym same) ∙ is ∙ ap (λ (k : ℕ). max k (at + length bytes)) (sym was)
