use Rattle.answer_journal.proofs.Prelude.{◌≡◌, ◌+◌, ◌*◌, ℕ, List, [], ◌∷◌, ◌++◌, length, get_or, Option, Bool, true, false, refl, ◌∙◌, ap, arith, w32, to_be_bytes, valued_count, pairs_from, said_byte, tail_bytes, answer_payload, pairs_size}
use mir.Val.{bool_byte}
use Rattle.answer_journal.proofs.encode.encode_answer.Goals as goal

header : (q : List (Option ℕ)) (said : Bool) (count byte : ℕ) (size : List ℕ) → size ≡ to_be_bytes w32 (2 + 2 * count) → count ≡ valued_count q → byte ≡ said_byte said
    → (65 ∷ get_or size 0 0 ∷ get_or size 1 0 ∷ get_or size 2 0 ∷ get_or size 3 0 ∷ byte ∷ count ∷ []) ++ pairs_from 0 q ++ 0 ∷ [] ≡ tail_bytes 0x41 (answer_payload q said) ++ 0 ∷ []
header q said count byte size is counts said_is =
    let long : 2 + 2 * count ≡ length (answer_payload q said) = omega (arith, pairs_size 0 q) in
    let same : size ≡ to_be_bytes w32 (length (answer_payload q said)) = is ∙ ap (to_be_bytes w32) long in
    λ i. (65 ∷ get_or (same i) 0 0 ∷ get_or (same i) 1 0 ∷ get_or (same i) 2 0 ∷ get_or (same i) 3 0 ∷ said_is i ∷ counts i ∷ []) ++ pairs_from 0 q ++ 0 ∷ []

said_is : (b : Bool) → bool_byte b ≡ said_byte b
said_is true = refl
said_is false = refl

pub returns : goal.returns
returns c =
    rw (c.push-8.ensures.items, c.put_pairs.ensures.pairs, c.push-7.ensures.items, c.push-6.ensures.items, c.push-5.ensures.items, c.push-4.ensures.items, c.push-3.ensures.items, c.push-2.ensures.items, c.push.ensures.items, c.new-out.ensures)
    (header c.args.question.now c.args.yes c.valued_count-count.result c.from-2.result c.to_be_bytes-size.result (c.to_be_bytes-size.ensures ∙ ap (λ (n : ℕ). to_be_bytes w32 (2 + 2 * n)) c.from.ensures) c.valued_count-count.ensures (c.from-2.ensures ∙ said_is c.args.yes))
