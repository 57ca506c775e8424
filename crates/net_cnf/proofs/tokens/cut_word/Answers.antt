use Rattle.net_cnf.proofs.Prelude.{sym, ◌∙◌}
use Rattle.net_cnf.proofs.Cutting.{words_alone, words_cut}
use Rattle.net_cnf.proofs.tokens.cut_word.Goals as goal

pub returns-in-None : goal.returns-in-None
returns-in-None c = words_alone c.args.line.now c.requires.some c.requires.word (sym c.blank_in.ensures ∙ c.in-None.is)

pub returns-in-Some : goal.returns-in-Some
returns-in-Some c = words_cut c.args.line.now c.in-Some.end c.requires.some c.requires.word (sym c.blank_in.ensures ∙ c.in-Some.is)
