-- The text of a certificate.
use Rattle.std.specs.Prelude.{ℕ, Bool, true, false, List, [], ◌∷◌, ◌++◌, length, Option, Some, None}
use Rattle.std.specs.Prelude.{codes}
use Rattle.std.specs.List.{flat_map}
use Rattle.std.specs.Fmt.{decimal}
use Rattle.assign.specs.Sets.{numbers}
use Rattle.assign.specs.Assignment.{Assignment, value_of}
use Rattle.assign.specs.Events.{Answer}
use Rattle.language.specs.declared.candidates.Candidate.{Candidate}
use Rattle.cert_check.specs.declared.token.Token.{Token}
use Rattle.cert_check.specs.declared.token.Token.TheVariants.{Branch, Holds, Item}
use Rattle.cert_check.specs.Certificate.{Certificate, Refutation}

-- a word, and how many lines or bytes follow: `answers 2`
abbrev pub count_line : List ℕ → ℕ → List ℕ
count_line word n = word ++ 32 ∷ (decimal n ++ 10 ∷ [])

-- ` 0:1`, where the variable has a value
abbrev pub numbered_value : ℕ → Option ℕ → List ℕ
numbered_value v None = []
numbered_value v (Some x) = 32 ∷ (decimal v ++ 58 ∷ decimal x)

-- that of each variable, rising
abbrev pub numbered_values : Assignment → List ℕ
numbered_values e = flat_map (λ v. numbered_value v (value_of e v)) (numbers (length e))

abbrev pub reply_text : Bool → List ℕ
reply_text true = codes "yes"
reply_text false = codes "no"

-- `yes 0:0 1:1`
abbrev pub entry_line : Answer → List ℕ
entry_line a = reply_text a.yes ++ (numbered_values a.question ++ 10 ∷ [])

-- the numbers of a scope and of a relation on it: `0 1`
abbrev pub item_line : Candidate → List ℕ
item_line c = decimal c.scope ++ 32 ∷ (decimal c.rel ++ 10 ∷ [])

abbrev pub token_text : Token → List ℕ
token_text Branch = codes " b"
token_text Holds = codes " c"
token_text (Item i) = 32 ∷ decimal i

-- a candidate's number, and its tokens: `0 b c 1`
abbrev pub listed_line : Refutation → List ℕ
listed_line r = decimal r.candidate ++ (flat_map token_text r.tokens ++ 10 ∷ [])

-- ---- The sections

-- the first line, and the vocabulary's bytes behind how many there are
abbrev pub vocabulary_section : List ℕ → List ℕ
vocabulary_section voc =
    codes "QUACQCERT1" ++ 10 ∷ (count_line (codes "vocabulary") (length voc) ++ (voc ++ 10 ∷ []))

abbrev pub answers_section : List Answer → List ℕ
answers_section t = count_line (codes "answers") (length t) ++ flat_map entry_line t

abbrev pub network_section : List Candidate → List ℕ
network_section network =
    count_line (codes "network") (length network) ++ flat_map item_line network

abbrev pub implied_section : List Refutation → List ℕ
implied_section refutations =
    count_line (codes "implied") (length refutations) ++ flat_map listed_line refutations

abbrev pub end_line : List ℕ
end_line = codes "end" ++ 10 ∷ []

-- the text of a certificate over this vocabulary, each line with a newline
abbrev pub certificate_text : List ℕ → Certificate → List ℕ
certificate_text voc cert =
    vocabulary_section voc ++ (answers_section cert.answers
    ++ (network_section cert.network ++ (implied_section cert.refutations ++ end_line)))
