use Rattle.cert_check.proofs.Prelude.{ℕ, List, [], ◌∷◌, ◌++◌, length, subst, codes, AddsPiece, count_line, vocabulary_section}
use Rattle.cert_check.proofs.Sheets.{adds_more, on_ok}
use Rattle.cert_check.proofs.making.add_vocabulary.Goals as goal

pub returns : goal.returns
returns c =
    let voc : List ℕ = c.args.voc.now in
    on_ok c.add-3.result (AddsPiece c.add-2.new.self (10 ∷ []) c.add-3.new.self) (AddsPiece c.args.sheet.now (vocabulary_section voc) c.add-3.new.self)
    (λ last. adds_more c.args.sheet.now c.add.new.self c.add-3.new.self (codes "QUACQCERT1" ++ 10 ∷ []) (count_line (codes "vocabulary") (length voc) ++ (voc ++ 10 ∷ [])) c.in_ok-add.ensures
    (adds_more c.add.new.self c.add_count.new.sheet c.add-3.new.self (count_line (codes "vocabulary") (length voc)) (voc ++ 10 ∷ []) c.in_ok-add_count.ensures
    (adds_more c.add_count.new.sheet c.add-2.new.self c.add-3.new.self voc (10 ∷ [])
    (subst (λ (t : List ℕ). AddsPiece c.add_count.new.sheet t c.add-2.new.self) c.in-Ok.ensures.cases.0 c.in_ok-add-2.ensures) last)))
    c.add-3.ensures
