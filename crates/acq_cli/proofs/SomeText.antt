-- That each list of bytes has a text.
use Rattle.acq_cli.proofs.Prelude.{Bool, IsRefusal, Language, List, Terms, [], begun, cond, drop, false, fine, gathered, inl, inr, length, line_turn, long_one, refl, refusal_text, run_exists, run_laws, subst, sym, true, whole_text, ℕ, ⊎_elim, ◌+◌, ◌≡◌, ◌⊎◌, nat_le}
use Rattle.acq_io.specs.Lines.{after_newline, before_newline}
use Rattle.acq_io.specs.Whole.{first_line_of}
use Rattle.acq_said.specs.Trying.{IsWholeText}
use Rattle.voc_read.proofs.EachText.{each_text}
use Rattle.voc_read.specs.declared.fault.VocFault.TheVariants as vocs
use Rattle.acq_cli.specs.OneText.{EachHasAText}

-- the first line, or there are too many bytes before its newline
first_given : (bytes : List ℕ) → ((line : List ℕ) × ((first_line_of 4194304 bytes).got ≡ fine line)) ⊎ ((first_line_of 4194304 bytes).got ≡ long_one)
unfolding first_line_of
first_given bytes = go (nat_le (length (before_newline bytes)) 4194304)
  where
    go : (b : Bool) → ((line : List ℕ) × ((cond b (gathered (fine (before_newline bytes)) (after_newline bytes)) (gathered long_one (drop (4194304 + 1) bytes))).got ≡ fine line)) ⊎ ((cond b (gathered (fine (before_newline bytes)) (after_newline bytes)) (gathered long_one (drop (4194304 + 1) bytes))).got ≡ long_one)
    go true = inl (before_newline bytes, refl)
    go false = inr refl

-- of a line, by what it is
line_text : (terms : Terms) (bytes line : List ℕ) → (first_line_of 4194304 bytes).got ≡ fine line → (text : List ℕ) × IsWholeText terms bytes text
line_text terms bytes line got =
    ⊎_elim
    (λ reads.
    let l : Language = reads.0 in
    let rest : List ℕ = (first_line_of 4194304 bytes).rest in
    let has = run_exists run_laws line_turn l terms reads.1.built.lawful [] rest (begun l terms.plan) in
    (whole_text l terms has.run, inr (record { line = line; got = got; lang = l; vocabulary = reads.1; run = has.run; runs = has.runs; is = refl })))
    (λ refused. (refusal_text refused.0, inl (refused.0, subst (IsRefusal refused.0) (sym got) refused.2, refl))) (each_text line)

pub some_text : EachHasAText
some_text terms bytes = ⊎_elim (λ given. line_text terms bytes given.0 given.1) (λ long. (refusal_text vocs.TooLong, inl (vocs.TooLong, subst (IsRefusal vocs.TooLong) (sym long) (refl, refl), refl))) (first_given bytes)
