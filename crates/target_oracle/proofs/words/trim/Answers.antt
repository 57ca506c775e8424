use Rattle.target_oracle.proofs.Prelude.{◌≡◌, ℕ, ◌+◌, ◌-◌, List, take, drop, length, ap, ◌∙◌, arith, take_all, length-drop, prefix_len, suffix_len, is_blank, trimmed, trimmed_after}
use Rattle.target_oracle.proofs.words.trim.Goals as goal

-- the part that the code takes is the trimmed line
trimmed_is : (line part : List ℕ) (n m : ℕ) → n ≡ prefix_len is_blank line → part ≡ drop n line → m + suffix_len is_blank part ≡ length part → take m part ≡ trimmed line
unfolding trimmed
trimmed_is line part n m front is back =
    let count : m ≡ length part - suffix_len is_blank part = omega (arith, back) in
    ap (λ k. take k part) count ∙ ap trimmed_after (is ∙ ap (λ k. drop k line) front)

pub returns : goal.returns
returns c =
    let rest : List ℕ = drop c.blanks_before.result c.args.line.now in
    let whole : take (length c.args.line.now - c.blanks_before.result) rest ≡ rest = take_all _ rest (omega (arith, length-drop c.blanks_before.result c.args.line.now)) in
    trimmed_is c.args.line.now _ c.blanks_before.result c.len_before_blanks.result c.blanks_before.ensures.count whole c.len_before_blanks.ensures
