-- The literals of tokens.
use Rattle.net_cnf.proofs.Prelude.{◌≡◌, ℕ, ◌<◌, ◌≤◌, ◌^◌, Bool, true, false, cond, List, [], ◌∷◌, drop, get_or, Option, Some, None, refl, sym, ◌∙◌, ap, arith, eqb, option_map, decimal, ne_eqb, eqb-true, none-some, same_Some, first_decimal, LiteralsAreRead, literal_text, number_in, signed, literal_in, Literal}
use Rattle.net_cnf.proofs.Numerals.{number_is, number_some, decimal_read, read_decimal}

pub literal_negated : (count : ℕ) (token : List ℕ) → eqb (get_or token 0 0) 45 ≡ true → literal_in count token ≡ option_map (signed false) (number_in count (drop 1 token))
unfolding literal_in
literal_negated count token h = ap (λ b. cond b (option_map (signed false) (number_in count (drop 1 token))) (option_map (signed true) (number_in count token))) h

pub literal_plain : (count : ℕ) (token : List ℕ) → eqb (get_or token 0 0) 45 ≡ false → literal_in count token ≡ option_map (signed true) (number_in count token)
unfolding literal_in
literal_plain count token h = ap (λ b. cond b (option_map (signed false) (number_in count (drop 1 token))) (option_map (signed true) (number_in count token))) h

-- what is known of a literal that is read
record IsSigned (count : ℕ) (digits : List ℕ) (positive : Bool) (x : Literal) : Type 0 where
  number : ℕ
  is : x ≡ signed positive number
  read : number_in count digits ≡ Some number

signed_from : (count : ℕ) (digits : List ℕ) (positive : Bool) (x : Literal) → option_map (signed positive) (number_in count digits) ≡ Some x → IsSigned count digits positive x
signed_from count digits positive x h = go (number_in count digits) refl h
  where
    go : (o : Option ℕ) → number_in count digits ≡ o → option_map (signed positive) o ≡ Some x → IsSigned count digits positive x
    go None is none = absurd (none-some x none)
    go (Some n) is some = record { number = n; is = sym (same_Some (signed positive n) x some); read = is }

pub record IsLiteral (count : ℕ) (token : List ℕ) (x : Literal) : Type 0 where
  pub text : token ≡ literal_text x
  pub some : 0 < x.number
  pub known : x.number ≤ count

starts : (token : List ℕ) → eqb (get_or token 0 0) 45 ≡ true → token ≡ 45 ∷ drop 1 token
starts [] h = absurd cc
starts (b ∷ token) h = ap (λ x. x ∷ token) (eqb-true b 45 h)

pub literal_is : (count : ℕ) (token : List ℕ) (x : Literal) → count < 2 ^ 32 → literal_in count token ≡ Some x → IsLiteral count token x
literal_is count token x small h = go (eqb (get_or token 0 0) 45) refl
  where
    go : (b : Bool) → eqb (get_or token 0 0) 45 ≡ b → IsLiteral count token x
    go true minus =
        let s = signed_from count (drop 1 token) false x (sym (literal_negated count token minus) ∙ h) in
        let n = number_is count (drop 1 token) s.number s.read in
        let some = number_some (drop 1 token) n.0 in
        let same = n.1 in
        let low = n.2 in
        let number : x.number ≡ s.number = ap (λ (y : Literal). y.number) s.is in
        record {
          text = starts token minus ∙ ap (λ digits. 45 ∷ digits) (read_decimal count s.number (drop 1 token) s.read (omega (arith, low, small))) ∙ sym (ap literal_text s.is);
          some = omega (arith, some, same, number);
          known = omega (arith, low, number);
        }
    go false plain =
        let s = signed_from count token true x (sym (literal_plain count token plain) ∙ h) in
        let n = number_is count token s.number s.read in
        let some = number_some token n.0 in
        let same = n.1 in
        let low = n.2 in
        let number : x.number ≡ s.number = ap (λ (y : Literal). y.number) s.is in
        record {
          text = read_decimal count s.number token s.read (omega (arith, low, small)) ∙ sym (ap literal_text s.is);
          some = omega (arith, some, same, number);
          known = omega (arith, low, number);
        }

literal_written : (count : ℕ) (x : Literal) → count < 2 ^ 32 → 0 < x.number → x.number ≤ count → literal_in count (literal_text x) ≡ Some x
literal_written count x small some known = go x.positive
  where
    fits : x.number < 2 ^ 64
    fits = omega (arith, known, small)

    read : number_in count (decimal x.number) ≡ Some x.number
    read = decimal_read count x.number some known fits

    first : eqb (get_or (decimal x.number) 0 0) 45 ≡ false
    first = let above = first_decimal x.number some fits in ne_eqb (get_or (decimal x.number) 0 0) 45 (λ same. absurd (omega (arith, above, same)))

    go : (b : Bool) → literal_in count (cond b (decimal x.number) (45 ∷ decimal x.number)) ≡ Some (signed b x.number)
    go true = literal_plain count (decimal x.number) first ∙ ap (option_map (signed true)) read
    go false = literal_negated count (45 ∷ decimal x.number) refl ∙ ap (option_map (signed false)) read

pub literals_are_read : LiteralsAreRead
literals_are_read count small = record {
  written = λ x some known. literal_written count x small some known;
  only = λ token x h. (literal_is count token x small h).text;
}
