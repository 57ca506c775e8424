use Rattle.voc_read.proofs.Prelude.{◌≡◌, None, List, map, subst, given_by, RelPart, relation_names_refusal}
use Rattle.voc_read.proofs.RelationNames.{AreNames-given_names}
use Rattle.voc_read.proofs.relations.given_of.Goals as goal

pub returns-clause-names : goal.returns-clause-names
returns-clause-names c =
    let P : List RelPart → Type 0 = λ parts. relation_names_refusal (map given_by parts) ≡ None in
    AreNames-given_names c.in_ok-given.given.items c.in_ok-given.ensures.named (subst P c.deref.ensures.value c.in_ok-check_names_apart.ensures)
