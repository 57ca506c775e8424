use Rattle.cert_check.proofs.Prelude.{◌≡◌, ◌++◌, ℕ, List, [], Result, sym, ◌∙◌, subst, find, None, map, string_bytes, Candidate, kept, MakeFault, Makes, certificate_of, is_long, refutation_of, AddsPiece, answers_section, certificate_text, end_line, implied_section, network_section, vocabulary_section}
use Rattle.cert_check.proofs.Listing.{text_is_made}
use Rattle.cert_check.proofs.Scopes.{few_items}
use Rattle.cert_check.proofs.Sheets.{adds_more}
use Rattle.cert_check.proofs.Vocabularies.{vocabulary_is_text}
use Rattle.cert_check.proofs.making.make_cert.Goals as goal

pub add_vocabulary-requires : goal.add_vocabulary-requires
add_vocabulary-requires c = vocabulary_is_text c.args.voc.now c.args.lang.now c.requires.read

pub of-requires-clause-few : goal.of-requires-clause-few
of-requires-clause-few c = few_items c.args.lang.now c.args.net.now c.requires.read.built.lawful c.requires.network c.requires.covered.one_a_scope

pub returns : goal.returns
returns c =
    let listed : List Candidate = kept c.args.lang.now c.args.answers.now c.args.net.now in
    let same : c.deref.result.now ≡ listed = c.deref.ensures.value ∙ c.in_ok-listed.ensures.is in
    let none : find (is_long c.args.lang.now c.args.net.now c.args.budget) listed ≡ None =
    subst (λ (cs : List Candidate). find (is_long c.args.lang.now c.args.net.now c.args.budget) cs ≡ None) same c.in_ok-add_implied.ensures.within in
    let implied : AddsPiece c.add_network.new.sheet (implied_section (map (refutation_of c.args.lang.now c.args.net.now) listed)) c.add_implied.new.sheet =
    subst (λ (cs : List Candidate). AddsPiece c.add_network.new.sheet (implied_section (map (refutation_of c.args.lang.now c.args.net.now) cs)) c.add_implied.new.sheet) same c.in_ok-add_implied.ensures.added in
    let text : List ℕ = certificate_text c.args.voc.now (certificate_of c.args.lang.now c.args.net.now c.args.answers.now) in
    let all : AddsPiece c.new-sheet.result text c.add.new.self =
    adds_more c.new-sheet.result c.add_vocabulary.new.sheet c.add.new.self (vocabulary_section c.args.voc.now) (answers_section c.args.answers.now ++ (network_section c.args.net.now ++ (implied_section (map (refutation_of c.args.lang.now c.args.net.now) listed) ++ end_line))) c.in_ok-add_vocabulary.ensures
    (adds_more c.add_vocabulary.new.sheet c.add_answers.new.sheet c.add.new.self (answers_section c.args.answers.now) (network_section c.args.net.now ++ (implied_section (map (refutation_of c.args.lang.now c.args.net.now) listed) ++ end_line)) c.in_ok-add_answers.ensures
    (adds_more c.add_answers.new.sheet c.add_network.new.sheet c.add.new.self (network_section c.args.net.now) (implied_section (map (refutation_of c.args.lang.now c.args.net.now) listed) ++ end_line) c.in_ok-add_network.ensures
    (adds_more c.add_network.new.sheet c.add_implied.new.sheet c.add.new.self (implied_section (map (refutation_of c.args.lang.now c.args.net.now) listed)) end_line implied c.in_ok-add.ensures))) in
    subst (λ (r : Result (List ℕ) MakeFault). Makes string_bytes r c.finish.result)
    (sym (text_is_made c.args.lang.now c.args.net.now listed c.args.budget text none))
    (c.finish.ensures text (all [] c.new-sheet.ensures))
