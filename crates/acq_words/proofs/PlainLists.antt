-- A plain list is taken, and asks for what it reads as.
use Rattle.acq_words.proofs.Prelude.{◌≡◌, ◌∙◌, ◌<◌, ◌≤◌, ◌==◌, ◌^◌, ℕ, Bool, true, false, not, cond, List, [], ◌∷◌, ◌++◌, length, drop, map, Option, Some, None, option_map, refl, sym, subst, ap, ap₂, arith, codes, ◌&&◌, ◌||◌, IsErrOf, lit<, lit≤, ℤ, if◌then◌else◌, int_le, nat_lt, pos, unwrap_or, Ok, Err, Result, All, list_all, AllDigits, IsNumeral, digits_value, signed_digits_value, starts_with_minus, without_leading_plus, without_leading_sign, le-leb, lt-ltb, ne_eqb, All-from_recursion, All-head, All-tail, digit_from_value, without_minus, fits_i64, is_numeral, is_signed_in, Row, Text, first_of, one_of, ExampleIsPlain, PlainListsAreTaken, PlainListsReadOneWay, positional_rows, row_of, digits_number, begins_bare, is_accepted, Contents, IsRequestOf, contents_in, request_of_words, answer_with, asked_by, asked_of_rows, command_named, command_of, file_named, is_memory, is_unfit, plan_named, plan_said}
use Rattle.std.specs.Fmt.{decimal}
use Rattle.std.specs.Char.{digit_value}
use Rattle.std.proofs.lemmas.Fmt.{decimal_digit, decimal_is_IsNumeral}
use Rattle.assign.specs.declared.events.Plan.{Plan}
use Rattle.assign.specs.declared.events.Plan.TheVariants.{Scopes, Quacq, Multi}
use Rattle.acq_words.specs.Plain.{OptionForm, IsListed, IsPlain, IsPlainList, Plain, Setting, answer_of, asked_of, budget_given, budget_is, command_text, number_given, number_is, plan_given, plan_is, plan_text, words_of_plain, written_of}
use Rattle.acq_words.specs.declared.request.CommandName.{CommandName}
use Rattle.acq_words.specs.declared.request.CommandName.TheVariants as name
use Rattle.acq_words.specs.declared.request.Request.{Request}
use Rattle.acq_words.specs.declared.request.UsageFault.{UsageFault}
use Rattle.acq_words.specs.declared.request.UsageFault.TheVariants.{Words, Unfit}
use Rattle.acq_words.specs.declared.request.WordsFault.TheVariants.{Usage, Memory}
use Rattle.acq_words.specs.declared.request.WordsFault.{WordsFault}
use Rattle.acq_words.proofs.Lists.{lists_are_parsed}

-- ---- Decimals

differs : (d c : ℕ) → digit_value d < 10 → c < 48 → (d == c) ≡ false
differs d c digit low = ne_eqb _ _ (λ e. omega (arith, digit_from_value d digit))

-- digits begin with no sign
record HasNoSign (t : Text) : Type 0 where
  bare : begins_bare t ≡ true
  minus : starts_with_minus t ≡ false
  plus : without_leading_plus t ≡ t
  unsigned : without_minus t ≡ t

no_sign : (t : Text) → IsNumeral 10 t → HasNoSign t
no_sign [] numeral = absurd (omega (arith, numeral.0))
no_sign (d ∷ ds) numeral =
    let minus = differs d 45 numeral.1.0 (omega arith) in
    record {
      bare = ap not minus;
      minus = minus;
      plus = ap (λ (b : Bool). drop (cond b 1 0) (d ∷ ds)) (differs d 43 numeral.1.0 (omega arith));
      unsigned = ap (λ (b : Bool). unwrap_or (if b then Some ds else None) (d ∷ ds)) minus;
    }

all_digits : (ds : Text) → AllDigits 10 ds → list_all (λ d. nat_lt (digit_value d) 10) ds ≡ true
all_digits [] h = refl
all_digits (d ∷ ds) h = ap₂ (λ a b. a && b) (lt-ltb (digit_value d) 10 h.0) (all_digits ds h.1)

is_numeral_is : (t : Text) → IsNumeral 10 t → is_numeral t ≡ true
is_numeral_is t h = ap₂ (λ a b. a && b) (lt-ltb 0 (length t) h.0) (all_digits t h.1)

in_limits : (low high n : ℕ) → low ≤ n → n ≤ high → n < 2 ^ 63 → (fits_i64 (pos n) && (int_le (pos low) (pos n) && int_le (pos n) (pos high))) ≡ true
in_limits low high n above below small = ap₂ (λ a b. a && b) (lt-ltb n (2 ^ 63) small) (ap₂ (λ a b. a && b) (le-leb low n above) (le-leb n high below))

-- digits of a number within the limits pass
digits_pass : (low high n : ℕ) (t : Text) → IsNumeral 10 t → digits_value 10 t ≡ n → low ≤ n → n ≤ high → n < 2 ^ 63 → is_signed_in (pos low) (pos high) t ≡ true
digits_pass low high n t numeral value above below small =
    let s = no_sign t numeral in
    let limits : ℤ → Bool = λ z. fits_i64 z && (int_le (pos low) z && int_le z (pos high)) in
    let text : without_leading_sign t ≡ t = ap (λ b. cond b (drop 1 t) (without_leading_plus t)) s.minus ∙ s.plus in
    let said : signed_digits_value 10 t ≡ pos n = rw s.minus (ap pos (ap (digits_value 10) s.plus ∙ value)) in
    ap₂ (λ w z. is_numeral w && limits z) text said ∙ ap₂ (λ a b. a && b) (is_numeral_is t numeral) (in_limits low high n above below small)

-- what is known of a decimal
record IsDecimal (n : ℕ) (t : Text) : Type 0 where
  numeral : IsNumeral 10 t
  value : digits_value 10 t ≡ n

is_decimal : (n high : ℕ) → n ≤ high → high < 2 ^ 63 → IsDecimal n (decimal n)
is_decimal n high below small =
    let h = decimal_is_IsNumeral n (omega arith) in
    record { numeral = h.0; value = h.1 }

or_bare : (is_joined : Bool) (v : Text) → begins_bare v ≡ true → (is_joined || begins_bare v) ≡ true
or_bare true v bare = refl
or_bare false v bare = bare

decimal_passes : (low high n : ℕ) (t : Text) (is_joined : Bool) → IsDecimal n t → low ≤ n → n ≤ high → high < 2 ^ 63 → (is_signed_in (pos low) (pos high) t && (is_joined || begins_bare t)) ≡ true
decimal_passes low high n t is_joined is above below small =
    ap₂ (λ a b. a && b) (digits_pass low high n t is.numeral is.value above below (omega arith)) (or_bare is_joined t (no_sign t is.numeral).bare)

-- the getter takes no minus off it, and reads its number
decimal_reads : (n : ℕ) (t : Text) → IsDecimal n t → digits_number (without_minus t) ≡ n
decimal_reads n t is =
    let s = no_sign t is.numeral in
    ap digits_number s.unsigned ∙ ap (digits_value 10) s.plus ∙ is.value

-- ---- Options

plan_bare : (p : Plan) → begins_bare (plan_text p) ≡ true
plan_bare Scopes = refl
plan_bare Quacq = refl
plan_bare Multi = refl

-- what is listed is accepted
setting_accepted : (s : Setting) (is_joined : Bool) → IsListed s → is_accepted (written_of (record { setting = s; is_joined = is_joined })) ≡ true
setting_accepted (plan_is p) is_joined listed = or_bare is_joined (plan_text p) (plan_bare p)
setting_accepted (budget_is n) is_joined listed = decimal_passes 1 1000000000 n (decimal n) is_joined (is_decimal n 1000000000 listed.1 (lit< tt)) listed.0 listed.1 (lit< tt)
setting_accepted (number_is n) is_joined listed = decimal_passes 0 4294967295 n (decimal n) is_joined (is_decimal n 4294967295 listed (lit< tt)) (omega arith) listed (lit< tt)

all_accepted : (options : List OptionForm) → All (λ c. IsListed c.setting) options → list_all is_accepted (map written_of options) ≡ true
all_accepted [] listed = refl
all_accepted (c ∷ options) listed =
    ap₂ (λ a b. a && b) (setting_accepted c.setting c.is_joined (All-head (λ c. IsListed c.setting) c options listed)) (all_accepted options (All-tail (λ c. IsListed c.setting) c options listed))

plan_row : (s : Setting) (is_joined : Bool) (options : List OptionForm) (rows : List Row) → first_of (codes "plan") rows ≡ option_map plan_text (plan_given options) →
    first_of (codes "plan") (row_of (written_of (record { setting = s; is_joined = is_joined })) ∷ rows) ≡ option_map plan_text (plan_given (record { setting = s; is_joined = is_joined } ∷ options))
plan_row (plan_is p) is_joined options rows rest = refl
plan_row (budget_is n) is_joined options rows rest = rest
plan_row (number_is n) is_joined options rows rest = rest

plan_found : (options : List OptionForm) → first_of (codes "plan") (map row_of (map written_of options)) ≡ option_map plan_text (plan_given options)
plan_found [] = refl
plan_found (c ∷ options) = plan_row c.setting c.is_joined options (map row_of (map written_of options)) (plan_found options)

budget_row : (s : Setting) (is_joined : Bool) (options : List OptionForm) (rows : List Row) → IsListed s → option_map digits_number (one_of (codes "budget") rows) ≡ budget_given options →
    option_map digits_number (one_of (codes "budget") (row_of (written_of (record { setting = s; is_joined = is_joined })) ∷ rows)) ≡ budget_given (record { setting = s; is_joined = is_joined } ∷ options)
budget_row (plan_is p) is_joined options rows listed rest = rest
budget_row (budget_is n) is_joined options rows listed rest = ap (λ v. Some v) (decimal_reads n (decimal n) (is_decimal n 1000000000 listed.1 (lit< tt)))
budget_row (number_is n) is_joined options rows listed rest = rest

budget_found : (options : List OptionForm) → All (λ c. IsListed c.setting) options → option_map digits_number (one_of (codes "budget") (map row_of (map written_of options))) ≡ budget_given options
budget_found [] listed = refl
budget_found (c ∷ options) listed =
    budget_row c.setting c.is_joined options (map row_of (map written_of options)) (All-head (λ c. IsListed c.setting) c options listed) (budget_found options (All-tail (λ c. IsListed c.setting) c options listed))

number_row : (s : Setting) (is_joined : Bool) (options : List OptionForm) (rows : List Row) → IsListed s → option_map digits_number (one_of (codes "number") rows) ≡ number_given options →
    option_map digits_number (one_of (codes "number") (row_of (written_of (record { setting = s; is_joined = is_joined })) ∷ rows)) ≡ number_given (record { setting = s; is_joined = is_joined } ∷ options)
number_row (plan_is p) is_joined options rows listed rest = rest
number_row (budget_is n) is_joined options rows listed rest = rest
number_row (number_is n) is_joined options rows listed rest = ap (λ v. Some v) (decimal_reads n (decimal n) (is_decimal n 4294967295 listed (lit< tt)))

number_found : (options : List OptionForm) → All (λ c. IsListed c.setting) options → option_map digits_number (one_of (codes "number") (map row_of (map written_of options))) ≡ number_given options
number_found [] listed = refl
number_found (c ∷ options) listed =
    number_row c.setting c.is_joined options (map row_of (map written_of options)) (All-head (λ c. IsListed c.setting) c options listed) (number_found options (All-tail (λ c. IsListed c.setting) c options listed))

-- ---- Names

command_bare : (n : CommandName) → begins_bare (command_text n) ≡ true
command_bare name.New = refl
command_bare name.Run = refl
command_bare name.Try = refl
command_bare name.Play = refl
command_bare name.Show = refl
command_bare name.Back = refl
command_bare name.Demo = refl
command_bare name.Reduce = refl
command_bare name.Cnf = refl
command_bare name.Model = refl
command_bare name.Certify = refl
command_bare name.Check = refl

command_reads : (n : CommandName) → command_named (command_text n) ≡ Some n
command_reads name.New = refl
command_reads name.Run = refl
command_reads name.Try = refl
command_reads name.Play = refl
command_reads name.Show = refl
command_reads name.Back = refl
command_reads name.Demo = refl
command_reads name.Reduce = refl
command_reads name.Cnf = refl
command_reads name.Model = refl
command_reads name.Certify = refl
command_reads name.Check = refl

plan_reads : (p : Plan) → plan_named (plan_text p) ≡ Some p
plan_reads Scopes = refl
plan_reads Quacq = refl
plan_reads Multi = refl

plan_is_said : (o : Option Plan) → plan_said (option_map plan_text o) ≡ Some o
plan_is_said None = refl
plan_is_said (Some p) = ap (option_map (λ (q : Plan). Some q)) (plan_reads p)

-- ---- All of it

module _ (p : Plain) (plain : IsPlain p) where
  asked : asked_of_rows (positional_rows p.journal (command_text p.command) ++ map row_of (map written_of p.options)) ≡ Some (asked_of p)
  asked =
      ap₂ (λ n o. asked_by n o (option_map digits_number (one_of (codes "budget") (map row_of (map written_of p.options)))) (option_map digits_number (one_of (codes "number") (map row_of (map written_of p.options)))))
      (command_reads p.command) (ap plan_said (plan_found p.options) ∙ plan_is_said (plan_given p.options))
      ∙ ap₂ (λ b n. asked_by (Some p.command) (Some (plan_given p.options)) b n) (budget_found p.options plain.listed) (number_found p.options plain.listed)

  pub plain_answer : request_of_words (words_of_plain p) ≡ answer_of p
  plain_answer =
      let parsed = lists_are_parsed p.journal (command_text p.command) (map written_of p.options) plain.journal (command_bare p.command) plain.once (all_accepted p.options plain.listed) in
      ap₂ (λ b rows. if b then contents_in rows else Err Words) parsed.0 parsed.1
      ∙ ap (answer_with (Some p.journal)) asked

pub plain_lists_are_taken : PlainListsAreTaken
plain_lists_are_taken p plain = plain_answer p plain

pub plain_lists_read_one_way : PlainListsReadOneWay
plain_lists_read_one_way p q plain plain' same = sym (plain_answer p plain) ∙ ap request_of_words same ∙ plain_answer q plain'

-- so what is answered to a plain list is what it asks for
pub plain_is : (words : List Text) (result : Result Request WordsFault) → IsRequestOf (request_of_words words) result → (p : Plain) → IsPlain p → words_of_plain p ≡ words → IsRequestOf (answer_of p) result
plain_is words result is p plain said = subst (λ a. IsRequestOf a result) (sym (ap request_of_words said) ∙ plain_answer p plain) is

-- what fits or doesn't is no refusal of the words
never_by : (b : Bool) (contents : Contents) → (let unfit : Result Contents UsageFault = Err Unfit in if b then unfit else Ok contents) ≡ Err Words → ⊥
never_by true contents e = cc
never_by false contents e = cc

never_words : (p : Plain) → answer_of p ≡ Err Words → ⊥
never_words p = never_by (is_unfit (asked_of p) (is_memory p.journal)) (record { file = file_named p.journal; command = command_of (asked_of p) })

-- and where the words are refused as none, they are no plain list
pub is_no_plain_list : (words : List Text) (result : Result Request WordsFault) → IsRequestOf (request_of_words words) result → IsErrOf result (Usage Words) → IsPlainList words → ⊥
is_no_plain_list words (Err (Usage Words)) is refused plain = never_words plain.0 (sym (plain_answer plain.0 plain.1) ∙ ap request_of_words plain.2 ∙ is)
is_no_plain_list words (Err (Usage Unfit)) is refused plain = cc
is_no_plain_list words (Err Memory) is refused plain = cc
is_no_plain_list words (Ok request) is refused plain = cc

-- ---- An example

example : Plain
example = record {
  journal = codes ":memory:";
  command = name.Try;
  options = (record { setting = plan_is Scopes; is_joined = true }) ∷ (record { setting = budget_is 5; is_joined = false }) ∷ [];
}

pub example_is_plain : ExampleIsPlain
unfolding example
example_is_plain = (
  example,
  record {
    journal = refl;
    once = refl;
    listed = All-from_recursion (λ c. IsListed c.setting) example.options (tt, ((lit≤ tt, lit≤ tt), tt));
  },
  ap (λ (v : Text). codes ":memory:" ∷ codes "try" ∷ codes "--plan=scopes" ∷ codes "--budget" ∷ v ∷ []) (decimal_digit 5 (lit< tt)),
)
