-- Lines that were written one after the other are read so.
use Rattle.cert_check.proofs.Prelude.{◌≡◌, ℕ, suc, ◌+◌, ◌<◌, ◌≤◌, true, cond, List, [], ◌∷◌, ◌++◌, length, take, drop, Option, Some, None, Ok, Err, refl, sym, ◌∙◌, ap, arith, append_assoc, length-append, inl, nat_le, ◌==◌, decimal, flat_map, ok_or, option_map, option_and_then, bytes_eq, and_from, le-leb, lt-ltb, take_at, get_or_at, BadLine, capped, decimal_in, ◌>>=◌, Unread, count_in, count_up_to, line_in, next_line, behind_line, lines_in, block_in, count_line, Lacks, lacks_both, lacks_first, behind_byte, cut_found, decimal_lacks, decimal_read}
use Rattle.cert_check.proofs.InTurn.{next_read}
use Rattle.line_text.proofs.Numerals.{capped_low}

-- these bytes, from the line of this number on
abbrev pub from : ℕ → List ℕ → Unread
from n bytes = record { line = n; bytes = bytes }

pub line_back : (n : ℕ) (text rest : List ℕ) → Lacks 10 text → line_in (from n (text ++ 10 ∷ rest)) ≡ Ok (text, from (n + 1) rest)
line_back n text rest free =
    ap (λ (o : Option (List ℕ × List ℕ)). ok_or (option_map {U = List ℕ × Unread} (λ parts. (parts.0, from (n + 1) parts.1)) o) (BadLine n)) (cut_found 10 text rest free)

-- a line that was written: its text, which says x in this form, and a newline
pub record Says {A : Type 0} (form : List ℕ → Option A) (line : List ℕ) (x : A) : Type 0 where
  pub text : List ℕ
  pub is : line ≡ text ++ 10 ∷ []
  pub free : Lacks 10 text
  pub read : form text ≡ Some x

pub said_back : {A : Type 0} (form : List ℕ → Option A) (n : ℕ) (line rest : List ℕ) (x : A) → Says form line x → next_line form (from n (line ++ rest)) ≡ Ok (x, from (n + 1) rest)
said_back form n line rest x says =
    ap (λ bytes. next_line form (from n bytes)) (ap (λ start. start ++ rest) says.is ∙ append_assoc says.text (10 ∷ []) rest)
    ∙ next_read form (from n (says.text ++ 10 ∷ rest)) says.text (from (n + 1) rest) x (line_back n says.text rest says.free) says.read

-- a line that is known
pub known_back : (text : List ℕ) (n : ℕ) (rest : List ℕ) → Lacks 10 text → bytes_eq text text ≡ true → behind_line text (from n (text ++ 10 ∷ rest)) ≡ Ok (from (n + 1) rest)
unfolding behind_line
known_back text n rest free same =
    ap (λ found. found >>= λ y. cond (bytes_eq y.0 text) (Ok y.1) (Err (BadLine n))) (line_back n text rest free)
    ∙ ap (λ b. cond b (Ok (from (n + 1) rest)) (Err (BadLine n))) same

-- as many bytes as there are, and a newline
pub block_back : (n : ℕ) (block rest : List ℕ) → block_in (length block) (from n (block ++ 10 ∷ rest)) ≡ Ok (block, from (n + 1) rest)
unfolding block_in
block_back n block rest =
    let whole : List ℕ = block ++ 10 ∷ rest in
    let long = length-append block (10 ∷ rest) in
    ap (λ b. cond b (Ok (take (length block) whole, from (n + 1) (drop (length block + 1) whole))) (Err (BadLine n)))
    (and_from _ _ (lt-ltb (length block) (length whole) (omega (arith, long))) (ap (λ b. b == 10) (get_or_at block 10 rest 0 (length block) refl)))
    ∙ (λ i. Ok (take_at block (10 ∷ rest) (length block) refl i, from (n + 1) (behind_byte 10 block rest i)))

-- ---- Many lines

-- each member's line says it, in the form for which the member before gives the number
abbrev pub AreSaid : {A : Type 0} → (ℕ → List ℕ → Option A) → (A → ℕ) → (A → List ℕ) → ℕ → List A → Type 0
AreSaid form next line least [] = Unit {0}
AreSaid form next line least (x ∷ xs) = Says (form least) (line x) x × AreSaid form next line (next x) xs

pub lines_back : {A : Type 0} (form : ℕ → List ℕ → Option A) (next : A → ℕ) (line : A → List ℕ) (least n : ℕ) (xs : List A) (rest : List ℕ) → AreSaid form next line least xs →
    lines_in form next least (length xs) (from n (flat_map line xs ++ rest)) ≡ Ok (xs, from (n + length xs) rest)
unfolding lines_in
lines_back form next line least n [] rest said = ap (λ m. Ok ([], from m rest)) (let e : n ≡ n + 0 = omega arith in e)
lines_back form next line least n (x ∷ xs) rest said =
    ap (λ bytes. lines_in form next least (suc (length xs)) (from n bytes)) (append_assoc (line x) (flat_map line xs) rest)
    ∙ ap (λ first. first >>= λ y. lines_in form next (next y.0) (length xs) y.1 >>= λ z. Ok (y.0 ∷ z.0, z.1)) (said_back (form least) n (line x) (flat_map line xs ++ rest) x said.0)
    ∙ ap (λ others. others >>= λ z. Ok (x ∷ z.0, z.1)) (lines_back form next line (next x) (n + 1) xs rest said.1)
    ∙ ap (λ m. Ok (x ∷ xs, from m rest)) (let e : (n + 1) + length xs ≡ n + suc (length xs) = omega arith in e)

-- ---- Counts

pub count_said : (word : List ℕ) (n : ℕ) → Lacks 10 word → Lacks 32 word → bytes_eq word word ≡ true → n < 4294967296 → Says (count_in word) (count_line word n) n
count_said word n free one same small = record {
  text = word ++ 32 ∷ decimal n;
  is = sym (append_assoc word (32 ∷ decimal n) (10 ∷ []));
  free = lacks_both 10 word (32 ∷ decimal n) free (lacks_first 10 32 (decimal n) refl (decimal_lacks 10 n (inl (omega arith)) (omega arith)));
  read =
      ap (option_and_then (λ (parts : List ℕ × List ℕ). cond (bytes_eq parts.0 word) (option_map capped (decimal_in parts.1)) None)) (cut_found 32 word (decimal n) one)
      ∙ ap (λ b. cond b (option_map capped (decimal_in (decimal n))) None) same
      ∙ ap (option_map capped) (decimal_read n (omega arith))
      ∙ ap Some (capped_low n small);
}

pub count_up_to_said : (most : ℕ) (word : List ℕ) (n : ℕ) → Lacks 10 word → Lacks 32 word → bytes_eq word word ≡ true → n < 4294967296 → n ≤ most → Says (count_up_to most word) (count_line word n) n
count_up_to_said most word n free one same small low =
    let says = count_said word n free one same small in
    record {
      text = says.text;
      is = says.is;
      free = says.free;
      read = ap (option_and_then (λ (m : ℕ). cond (nat_le m most) (Some m) None)) says.read ∙ ap (λ b. cond b (Some n) None) (le-leb n most low);
    }
