-- What is told of a certificate.
use Rattle.std.specs.Prelude.{ℕ, List, [], ◌∷◌, ◌++◌, length, codes}
use Rattle.std.specs.List.{flat_map}
use Rattle.std.specs.Fmt.{decimal}
use Rattle.language.specs.declared.candidates.Candidate.{Candidate}
use Rattle.language.specs.Language.{Language}
use Rattle.language.specs.Texts.{candidate_text}
use Rattle.voc_read.specs.FaultTexts.{fault_text}
use Rattle.cert_check.specs.declared.verdict.Flaw.{Flaw}
use Rattle.cert_check.specs.declared.verdict.Flaw.TheVariants as flaw
use Rattle.cert_check.specs.declared.fault.MakeFault.{MakeFault}
use Rattle.cert_check.specs.declared.fault.MakeFault.TheVariants as make
use Rattle.cert_check.specs.declared.fault.CertFault.{CertFault}
use Rattle.cert_check.specs.declared.fault.CertFault.TheVariants as form
use Rattle.cert_check.specs.Certificate.{Certificate}

-- a line for each item: `ne a b`
abbrev pub items_text : Language → List Candidate → List ℕ
items_text l network = flat_map (λ c. candidate_text l c ++ 10 ∷ []) network

-- `confirmed m`, m being the number of answers
abbrev pub confirmed_line : ℕ → List ℕ
confirmed_line answers = codes "confirmed " ++ (decimal answers ++ 10 ∷ [])

-- that line, and the network's
abbrev pub confirmed_text : Certificate → List ℕ
confirmed_text cert = confirmed_line (length cert.answers) ++ items_text cert.language cert.network

-- the flaw of a certificate that shows nothing
abbrev pub flaw_line : Flaw → List ℕ
flaw_line (flaw.Answer i) = codes "refused certificate answer " ++ (decimal i ++ 10 ∷ [])
flaw_line (flaw.ScopeTwice i) = codes "refused certificate scope twice " ++ (decimal i ++ 10 ∷ [])
flaw_line (flaw.NoOwnNo i) = codes "refused certificate no own answer " ++ (decimal i ++ 10 ∷ [])
flaw_line (flaw.Rival i) = codes "refused certificate rival " ++ (decimal i ++ 10 ∷ [])
flaw_line (flaw.Uncovered i) = codes "refused certificate uncovered " ++ (decimal i ++ 10 ∷ [])
flaw_line (flaw.Refutation i) = codes "refused certificate refutation " ++ (decimal i ++ 10 ∷ [])

-- why no certificate is made
abbrev pub make_fault_line : MakeFault → List ℕ
make_fault_line (make.Long c) = codes "refused certificate long " ++ (decimal c ++ 10 ∷ [])
make_fault_line make.TooLarge = codes "refused certificate too large" ++ 10 ∷ []
make_fault_line make.Memory = codes "refused certificate memory" ++ 10 ∷ []

-- why a text is no certificate
abbrev pub cert_fault_line : CertFault → List ℕ
cert_fault_line form.TooLong = codes "refused certificate form too long" ++ 10 ∷ []
cert_fault_line (form.BadLine i) =
    codes "refused certificate form bad line " ++ (decimal i ++ 10 ∷ [])
cert_fault_line (form.Voc fault) =
    codes "refused certificate form vocabulary " ++ (fault_text fault ++ 10 ∷ [])
cert_fault_line form.Memory = codes "refused certificate form memory" ++ 10 ∷ []
