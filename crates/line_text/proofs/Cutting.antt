-- Lines and words, cut off at the front.
use Rattle.line_text.proofs.Prelude.{◌≡◌, ℕ, ◌+◌, List, [], ◌∷◌, take, drop, Option, Some, None, refl, sym, ◌∙◌, ap, arith, position, option_map, fails_before_first, slice_split_none, slice_split_first, cut_at, is_space, words_in}
use Rattle.std.proofs.lemmas.Option.{none-some, same_Some}
use Rattle.shared_lemmas.proofs.Read.{at_first, nowhere}

-- a line without a space is a word
pub word_alone : (line : List ℕ) → cut_at 32 line ≡ None → words_in line ≡ line ∷ []
word_alone line h = go (position is_space line) refl h
  where
    go : (o : Option ℕ) → position is_space line ≡ o → option_map {U = List ℕ × List ℕ} (λ i. (take i line, drop (i + 1) line)) o ≡ None → words_in line ≡ line ∷ []
    go None is none = slice_split_none is_space line (λ k d low. fails_before_first is_space line k d (let high = nowhere is_space line is in omega (arith, high)))
    go (Some i) is none = absurd (none-some _ (sym none))

-- and else the first word ends at the first space
pub word_cut : (line word behind : List ℕ) → cut_at 32 line ≡ Some (word, behind) → words_in line ≡ word ∷ words_in behind
word_cut line word behind h = go (position is_space line) refl h
  where
    go : (o : Option ℕ) → position is_space line ≡ o → option_map {U = List ℕ × List ℕ} (λ i. (take i line, drop (i + 1) line)) o ≡ Some (word, behind) → words_in line ≡ word ∷ words_in behind
    go None is some = absurd (none-some _ some)
    go (Some i) is some =
        let at = at_first is_space line i is in
        let place = at.0 in
        let low = at.1 in
        slice_split_first is_space line 0 (omega (arith, place, low))
        ∙ (λ k. take (place k) line ∷ words_in (drop (place k + 1) line))
        ∙ ap (λ (parts : List ℕ × List ℕ). parts.0 ∷ words_in parts.1) (same_Some (take i line, drop (i + 1) line) (word, behind) some)
