-- The bytes of a vocabulary are text.
use Rattle.cert_check.proofs.Prelude.{◌≡◌, ℕ, Bool, true, false, cond, List, length, Option, None, Result, Ok, Err, sym, ◌∙◌, ap, refl, nat_lt, ok_or, is_utf8, IsUtf8, Language, then_on, MOST_VOCABULARY, Parts, json_of, parts_in, vocabulary_parts, IsVocabulary, VocFault, NotJson}
use Rattle.std.proofs.lemmas.Str.{IsUtf8-from_is_utf8}
use Rattle.voc_read.specs.declared.fault.VocFault.TheVariants.{TooLong}

-- nothing is read where there is no value
none_read : {D : Type 0} (long : Bool) (o : Option D) (f : D → Result Parts VocFault) (parts : Parts) → o ≡ None → cond long (Err TooLong) (then_on (ok_or o NotJson) f) ≡ Ok parts → ⊥
none_read true o f parts none h = cc
none_read false o f parts none h = let no : Err NotJson ≡ Ok parts = sym (ap (λ p. then_on (ok_or p NotJson) f) none) ∙ h in cc

pub vocabulary_is_text : (bytes : List ℕ) (l : Language) → IsVocabulary bytes l → IsUtf8 bytes
unfolding vocabulary_parts
vocabulary_is_text bytes l is = IsUtf8-from_is_utf8 bytes (go (is_utf8 bytes) refl)
  where
    go : (b : Bool) → is_utf8 bytes ≡ b → is_utf8 bytes ≡ true
    go true e = e
    go false e = absurd (let none : json_of bytes ≡ None = rw e refl in none_read (nat_lt MOST_VOCABULARY (length bytes)) (json_of bytes) parts_in is.parts none is.read)
