use Rattle.line_text.proofs.Prelude.{sym}
use Rattle.line_text.proofs.Cutting.{word_alone, word_cut}
use Rattle.line_text.proofs.words.cut_word.Goals as goal

pub returns-in-None : goal.returns-in-None
returns-in-None c = word_alone c.args.line.now (sym c.in-None.ensures.is)

pub returns-in-Some : goal.returns-in-Some
returns-in-Some c = word_cut c.args.line.now c.in-Some.word.now c.in-Some.behind.now (sym c.in-Some.ensures.is)
