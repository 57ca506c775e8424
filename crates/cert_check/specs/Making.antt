-- The certificate that is made of a network which the answers cover.
use Rattle.std.specs.Prelude.{ℕ, nat_lt, Bool, List, length, map, find, Option, Some, None, Result}
use Rattle.std.specs.Prelude.{Ok, Err, ◌≡◌, ◌≢◌, if◌then◌else◌}
use Rattle.std.specs.Prelude.{option_map}
use Rattle.assign.specs.Events.{Answer}
use Rattle.language.specs.declared.candidates.Candidate.{Candidate}
use Rattle.language.specs.Language.{Language, number_of}
use Rattle.language.specs.Answers.{kept}
use Rattle.language.specs.Search.{plain_size}
use Rattle.cert_check.specs.declared.fault.MakeFault.{MakeFault}
use Rattle.cert_check.specs.declared.fault.MakeFault.TheVariants.{Long, TooLarge, Memory}
use Rattle.cert_check.specs.Certificate.{Certificate, Refutation}
use Rattle.cert_check.specs.Reading.{MOST_CERTIFICATE}
use Rattle.cert_check.specs.Trees.{tree_of}
use Rattle.cert_check.specs.Written.{certificate_text}

-- a candidate with its tree
abbrev pub refutation_of : Language → List Candidate → Candidate → Refutation
refutation_of l network c = record { candidate = number_of l c; tokens = tree_of l network c }

-- It lists the candidates that no yes entry violates and on whose scope the network has nothing, in
-- the order of their numbers.
abbrev pub certificate_of : Language → List Candidate → List Answer → Certificate
certificate_of l network t = record {
  language = l;
  answers = t;
  network = network;
  refutations = map (refutation_of l network) (kept l t network);
}

-- whether a candidate has more plain prefixes than the budget
abbrev pub is_long : Language → List Candidate → ℕ → Candidate → Bool
is_long l network budget c = nat_lt budget (plain_size l network c)

-- the number of the first listed candidate that has more
abbrev pub first_long : Language → List Candidate → List Answer → ℕ → Option ℕ
first_long l network t budget =
    option_map (number_of l) (find (is_long l network budget) (kept l t network))

-- The fault says that a candidate's tree has more branches than the budget, and that no earlier
-- one's has.
abbrev pub IsFirstLong : Language → List Candidate → List Candidate → ℕ → MakeFault → Type 0
IsFirstLong l network listed budget fault =
    option_map (λ c. Long (number_of l c)) (find (is_long l network budget) listed) ≡ Some fault

-- a text, where it isn't too long
abbrev pub fitting_text : List ℕ → Result (List ℕ) MakeFault
fitting_text text = if nat_lt MOST_CERTIFICATE (length text) then Err TooLarge else Ok text

-- the same, where no candidate has too many plain prefixes, which is told before the text
abbrev pub made_within : Option ℕ → List ℕ → Result (List ℕ) MakeFault
made_within (Some number) text = Err (Long number)
made_within None text = fitting_text text

-- the certificate's text under a budget
abbrev pub certificate_made : List ℕ → Language → List Candidate → List Answer → ℕ →
    Result (List ℕ) MakeFault
certificate_made voc l network t budget =
    made_within (first_long l network t budget) (certificate_text voc (certificate_of l network t))

-- the answer, seen as it is stated, is the stated one, want of memory aside
abbrev pub Makes : {A B : Type 0} → (A → B) → Result B MakeFault → Result A MakeFault → Type 0
Makes seen stated (Ok x) = stated ≡ Ok (seen x)
Makes seen stated (Err fault) = fault ≢ Memory → stated ≡ Err fault
