-- A text has at most one token more than bytes.
use Rattle.voc_read.proofs.Prelude.{ℕ, ◌+◌, ◌≤◌, Bool, true, false, List, [], ◌∷◌, length, arith, Token, begin_object, end_object, begin_array, end_array, key, bad, Lexeme, token, comma, colon, Class, quote, backslash, operator, space, other, Mode, between, in_word, in_string, in_escape, lex_byte, class, Place, fresh, after_value, after_comma, after_key, begins_colon, if_allowed, may_begin, may_close, place_token, tokens}
use Rattle.json.specs.Token.{string, number, boolean, null}
use Rattle.json.specs.Lex.{lex, punctuate}

at_byte : (m : Mode) (c : Class) (x : ℕ) (xs : List ℕ) (rest : Mode → List Lexeme) → ((next : Mode) → length (rest next) ≤ length xs) → length (lex_byte m c x xs rest) ≤ length xs + 1
at_byte between quote x xs rest h = omega (arith, h in_string)
at_byte between backslash x xs rest h = omega (arith, h in_word)
at_byte between operator x xs rest h = omega (arith, h between)
at_byte between space x xs rest h = omega (arith, h between)
at_byte between other x xs rest h = omega (arith, h in_word)
at_byte in_word quote x xs rest h = omega (arith, h in_word)
at_byte in_word backslash x xs rest h = omega (arith, h in_word)
at_byte in_word operator x xs rest h = omega (arith, h between)
at_byte in_word space x xs rest h = omega (arith, h between)
at_byte in_word other x xs rest h = omega (arith, h in_word)
at_byte in_string quote x xs rest h = omega (arith, h between)
at_byte in_string backslash x xs rest h = omega (arith, h in_escape)
at_byte in_string operator x xs rest h = omega (arith, h in_string)
at_byte in_string space x xs rest h = omega (arith, h in_string)
at_byte in_string other x xs rest h = omega (arith, h in_string)
at_byte in_escape c x xs rest h = omega (arith, h in_string)

length-lex : (m : Mode) (xs : List ℕ) → length (lex m xs) ≤ length xs
unfolding lex
length-lex m [] = omega arith
length-lex m (x ∷ xs) = omega (arith, at_byte m (class x) x xs (λ next. lex next xs) (λ next. length-lex next xs))

if_one : (b : Bool) (t : Token) (rest : Place → List Token) (next : Place) (n : ℕ) → length (rest next) ≤ n → length (if_allowed b t rest next) ≤ n + 1
if_one true t rest next n h = omega arith
if_one false t rest next n h = omega arith

at_token : (p : Place) (t : Token) (b : Bool) (rest : Place → List Token) (n : ℕ) → ((next : Place) → length (rest next) ≤ n) → length (place_token p t b rest) ≤ n + 1
at_token p begin_object b rest n h = if_one (may_begin p) begin_object rest fresh n (h fresh)
at_token p end_object b rest n h = if_one (may_close p) end_object rest after_value n (h after_value)
at_token p begin_array b rest n h = if_one (may_begin p) begin_array rest fresh n (h fresh)
at_token p end_array b rest n h = if_one (may_close p) end_array rest after_value n (h after_value)
at_token p (key s) b rest n h = omega arith
at_token p (string s) true rest n h = if_one (may_begin p) (key s) rest after_key n (h after_key)
at_token p (string s) false rest n h = if_one (may_begin p) (string s) rest after_value n (h after_value)
at_token p (number s) b rest n h = if_one (may_begin p) (number s) rest after_value n (h after_value)
at_token p (boolean c) b rest n h = if_one (may_begin p) (boolean c) rest after_value n (h after_value)
at_token p null b rest n h = if_one (may_begin p) null rest after_value n (h after_value)
at_token p bad b rest n h = omega arith

length-punctuate : (p : Place) (ls : List Lexeme) → length (punctuate p ls) ≤ length ls + 1
unfolding punctuate
length-punctuate fresh [] = omega arith
length-punctuate after_value [] = omega arith
length-punctuate after_comma [] = omega arith
length-punctuate after_key [] = omega arith
length-punctuate fresh (token t ∷ ls) = omega (arith, at_token fresh t (begins_colon ls) (λ next. punctuate next ls) (length ls + 1) (λ next. length-punctuate next ls))
length-punctuate after_value (token t ∷ ls) = omega (arith, at_token after_value t (begins_colon ls) (λ next. punctuate next ls) (length ls + 1) (λ next. length-punctuate next ls))
length-punctuate after_comma (token t ∷ ls) = omega (arith, at_token after_comma t (begins_colon ls) (λ next. punctuate next ls) (length ls + 1) (λ next. length-punctuate next ls))
length-punctuate after_key (token t ∷ ls) = omega (arith, at_token after_key t (begins_colon ls) (λ next. punctuate next ls) (length ls + 1) (λ next. length-punctuate next ls))
length-punctuate fresh (comma ∷ ls) = omega arith
length-punctuate after_value (comma ∷ ls) = omega (arith, length-punctuate after_comma ls)
length-punctuate after_comma (comma ∷ ls) = omega arith
length-punctuate after_key (comma ∷ ls) = omega arith
length-punctuate fresh (colon ∷ ls) = omega arith
length-punctuate after_value (colon ∷ ls) = omega arith
length-punctuate after_comma (colon ∷ ls) = omega arith
length-punctuate after_key (colon ∷ ls) = omega (arith, length-punctuate fresh ls)

pub length-tokens : (text : List ℕ) → length (tokens text) ≤ length text + 1
length-tokens text = omega (arith, length-punctuate fresh (lex between text), length-lex between text)
