-- What a check finds: the first flaw of a certificate.
use Rattle.std.specs.Prelude.{ℕ, ◌==◌, Bool, not, ◌&&◌, List, length, take, position, Option, Some}
use Rattle.std.specs.Prelude.{None, slice_index_or}
use Rattle.std.specs.Option.{option_or}
use Rattle.std.specs.Prelude.{option_map}
use Rattle.std.specs.Bool.{beq}
use Rattle.std.specs.List.{list_any}
use Rattle.assign.specs.Sets.{numbers, is_same}
use Rattle.assign.specs.Assignment.{variables_of}
use Rattle.assign.specs.Events.{Answer}
use Rattle.language.specs.declared.candidates.Candidate.{Candidate}
use Rattle.language.specs.Language.{Language, candidates, number_of, scope_of, violates, accepts}
use Rattle.language.specs.Answers.{is_struck, has_scope}
use Rattle.cert_check.specs.declared.verdict.Flaw.{Flaw}
use Rattle.cert_check.specs.declared.verdict.Flaw.TheVariants as flaw
use Rattle.cert_check.specs.declared.verdict.Verdict.{Verdict}
use Rattle.cert_check.specs.declared.verdict.Verdict.TheVariants.{Yes, No}
use Rattle.cert_check.specs.Certificate.{Certificate, Refutation}
use Rattle.cert_check.specs.Good.{is_earned, has_refutation}

-- whether the network gives another answer
abbrev pub is_other : Language → List Candidate → Answer → Bool
is_other l network a = not (beq (accepts l network a.question) a.yes)

-- whether the item of this number is on the scope of an earlier one
abbrev pub repeats_scope : List Candidate → ℕ → Bool
repeats_scope network i =
    has_scope (take i network) (slice_index_or network i (record { scope = 0; rel = 0 })).scope

-- whether an answer is a no about exactly the candidate's scope
abbrev pub is_no_on : Language → Candidate → Answer → Bool
is_no_on l c a = not a.yes && is_same (variables_of a.question) (scope_of l c)

-- whether such an answer is among these
abbrev pub has_own_no : Language → List Answer → Candidate → Bool
has_own_no l t c = list_any (is_no_on l c) t

-- whether the network has another candidate on the candidate's scope
abbrev pub has_other : List Candidate → Candidate → Bool
has_other network c = list_any (λ d. (d.scope == c.scope) && not (d.rel == c.rel)) network

-- whether a no about exactly its scope doesn't exclude the candidate
abbrev pub is_spared : Language → List Answer → Candidate → Bool
is_spared l t c = list_any (λ a. is_no_on l c a && not (violates l c a.question)) t

-- whether it stands beside a learned one, and the answers don't tell the two apart
abbrev pub is_rival : Language → List Candidate → List Answer → Candidate → Bool
is_rival l network t c = has_other network c && (not (is_struck l t c) && not (is_spared l t c))

-- whether it is on a scope where nothing is learned, and neither excluded by a yes nor listed
abbrev pub is_uncovered : Language → List Candidate → List Answer → List Refutation → Candidate →
    Bool
is_uncovered l network t refutations c = not (has_scope network c.scope) &&
    (not (is_struck l t c) && not (has_refutation refutations (number_of l c)))

-- whether the listed tokens don't refute
abbrev pub is_unearned : Language → List Candidate → Refutation → Bool
is_unearned l network r = not (is_earned l network r)

-- the flaws of a kind, and the first of them
abbrev pub flaw_before_list : Language → List Candidate → List Answer → List Refutation →
    Option Flaw
flaw_before_list l network t refutations =
    option_or (option_map flaw.Answer (position (is_other l network) t)) (
    option_or
    (option_map flaw.ScopeTwice (position (repeats_scope network) (numbers (length network)))) (
    option_or (option_map flaw.NoOwnNo (position (λ c. not (has_own_no l t c)) network)) (
    option_or (option_map flaw.Rival (position (is_rival l network t) (candidates l)))
    (option_map flaw.Uncovered (position (is_uncovered l network t refutations) (candidates l))))))

-- the first kind of flaw that occurs, with its least number
abbrev pub first_flaw : Language → List Candidate → List Answer → List Refutation → Option Flaw
first_flaw l network t refutations =
    option_or (flaw_before_list l network t refutations)
    (option_map flaw.Refutation (position (is_unearned l network) refutations))

abbrev pub verdict_of : Option Flaw → Verdict
verdict_of None = Yes
verdict_of (Some f) = No f

-- what a check answers
abbrev pub verdict : Certificate → Verdict
verdict cert = verdict_of (first_flaw cert.language cert.network cert.answers cert.refutations)
