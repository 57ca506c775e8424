use Rattle.voc_read.proofs.Prelude.{◌≡◌, None, Some, sym, ◌∙◌, refl, first_bad, first_repeat, texts_of}
use Rattle.voc_read.proofs.NameForms.{first_bad-texts_of, names_refusal-parts, AreNames-accepted}
use Rattle.voc_read.proofs.names.check_names.Goals as goal

pub returns-in-Some-clause-refused : goal.returns-in-Some-clause-refused
returns-in-Some-clause-refused c =
    λ _. let bad : first_bad (texts_of c.args.names.now) ≡ Some c.in-Some.i = sym (first_bad-texts_of c.args.names.now) ∙ sym c.in-Some.ensures in
    names_refusal-parts (texts_of c.args.names.now) _ _ bad refl

pub returns-in-Some-2-clause-refused : goal.returns-in-Some-2-clause-refused
returns-in-Some-2-clause-refused c =
    λ _. let good : first_bad (texts_of c.args.names.now) ≡ None = sym (first_bad-texts_of c.args.names.now) ∙ sym c.in_default.ensures in
    let repeated : first_repeat (texts_of c.args.names.now) ≡ Some (c.in-Some-2.i, c.in-Some-2.j) = sym c.in_ok-i.ensures ∙ c.in-Some-2.is in
    names_refusal-parts (texts_of c.args.names.now) _ _ good repeated

pub returns-clause-refused : goal.returns-clause-refused
returns-clause-refused c =
    let good : first_bad (texts_of c.args.names.now) ≡ None = sym (first_bad-texts_of c.args.names.now) ∙ sym c.in_default.ensures in
    let apart : first_repeat (texts_of c.args.names.now) ≡ None = sym c.in_ok-i.ensures ∙ c.in_default-2.is in
    names_refusal-parts (texts_of c.args.names.now) _ _ good apart

pub returns-clause-names : goal.returns-clause-names
returns-clause-names c = AreNames-accepted (texts_of c.args.names.now) (returns-clause-refused c)
