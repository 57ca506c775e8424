use Rattle.language.proofs.Chosen.{values_in}
use Rattle.language.proofs.narrow.narrow_numbers.Given as goal

abbrev pub ghost-close : goal.ghost-close
ghost-close a = values_in a.file.now
