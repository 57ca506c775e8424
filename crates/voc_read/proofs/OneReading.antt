-- No bytes describe two languages.
use Rattle.voc_read.proofs.Prelude.{◌≡◌, Result, Ok, sym, ◌∙◌, subst, IsBuilt, VocFault, Parts, frame_of, NoTwoLanguages}
use Rattle.language.proofs.OneLanguage.{one_built}

same_parts : (one other : Parts) → (let read : Result Parts VocFault = Ok one in read) ≡ Ok other → one ≡ other
same_parts one other is = cc

pub one_language : NoTwoLanguages
one_language bytes l other described again =
    let same : again.parts ≡ described.parts = same_parts again.parts described.parts (sym again.read ∙ described.read) in
    one_built (frame_of described.parts) described.parts.given described.parts.listed l other described.built
    (subst (λ (parts : Parts). IsBuilt (frame_of parts) parts.given parts.listed other) same again.built)
