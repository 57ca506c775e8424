-- A list that is filled piece by piece from another one.
use Rattle.std.proofs.Common.{◌≡◌, ◌≤◌, ◌+◌, ◌-◌, ◌++◌, ℕ, List, [], length, take, drop, sym, ap, ap₂, ◌∙◌, arith}
use Rattle.std.proofs.Math.Seq.{take-add, take-append_seam, drop-append_seam}
use Rattle.std.proofs.lemmas.List.{append_assoc, append-nil, drop_all, drop-drop, length-drop, length-take-le, take_all}
use borrow.Rule.Slice.PartMut.{mid_of, put_mid}

module _ {X : Type 0} (given before now : List X) (done : ℕ) (is : now ≡ take done given ++ drop done before) (here : done ≤ length given) where
  front : take done now ≡ take done given
  front = let n : length (take done given) ≡ done = length-take-le done given here in
      ap (λ (l : List X). take done l) is ∙ ap (λ (k : ℕ). take k (take done given ++ drop done before)) (sym n) ∙ take-append_seam (take done given) (drop done before)

  behind : drop done now ≡ drop done before
  behind = let n : length (take done given) ≡ done = length-take-le done given here in
      ap (λ (l : List X). drop done l) is ∙ ap (λ (k : ℕ). drop k (take done given ++ drop done before)) (sym n) ∙ drop-append_seam (take done given) (drop done before)

  -- once n more bytes were put behind those that stand there
  pub filled_further : (piece : List X) (n : ℕ) → done ≤ length now → piece ≡ take n (drop done given) ++ drop n (mid_of done (length now - done) now) →
      put_mid done (length now - done) now piece ≡ take (done + n) given ++ drop (done + n) before
  filled_further piece n within more =
      let k : ℕ = length now - done in
      let rest : drop k (drop done now) ≡ [] = drop-drop k done now ∙ drop_all (done + k) now (omega arith) in
      let mid : mid_of done k now ≡ drop done before = take_all k (drop done now) (let long = length-drop done now in omega arith) ∙ behind in
      let put : piece ≡ take n (drop done given) ++ drop (done + n) before = more ∙ ap (λ (l : List X). take n (drop done given) ++ drop n l) mid ∙ ap (λ (l : List X). take n (drop done given) ++ l) (drop-drop n done before) in
      ap₂ (λ (l m : List X). take done now ++ (l ++ m)) put rest
      ∙ ap (λ (l : List X). take done now ++ l) (append-nil (take n (drop done given) ++ drop (done + n) before))
      ∙ ap (λ (l : List X). l ++ (take n (drop done given) ++ drop (done + n) before)) front
      ∙ sym (append_assoc (take done given) (take n (drop done given)) (drop (done + n) before))
      ∙ ap (λ (l : List X). l ++ drop (done + n) before) (sym (take-add done n given))
