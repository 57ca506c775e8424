-- What the plain recursion answers, as the halving of a list of replies.
use Rattle.std.specs.Prelude.{Bool, List, Result, Ok, Err}
use Rattle.std.specs.Borrow.{Bor}
use Rattle.find_scope.specs.declared.plain.Halved.{Halved as Answer}
use Rattle.find_scope.specs.declared.plain.Halved.TheVariants as answers
use Rattle.find_scope.specs.Halving.{Halved, Wants, Got}

-- what it wants, or has got with the replies that are left
abbrev pub shown : Answer → Halved
shown (answers.Wants set) = Wants set
shown (answers.Got set left) = Got set left.now

-- what comes after a question, with the replies that are left, where the halving goes on
abbrev pub goes_on : Result (Bor (List Bool)) Answer → (List Bool → Halved) → Halved
goes_on (Ok left) next = next left.now
goes_on (Err answer) next = shown answer
