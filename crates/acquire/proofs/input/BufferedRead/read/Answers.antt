use Rattle.std.proofs.Common.{◌≡◌, Ok, MatchResult, MatchOption, ◌∷◌, [], length, take, ℕ, List, Option, Result, refl, sym, ◌∙◌, ap, subst, set, arith}
use Rattle.std.specs.Io.KnownBytes.{Consumes, IsAtEnd, Keeps}
use Rattle.acquire.proofs.input.BufferedRead.read.Goals as goal

one_taken : (xs : List ℕ) (x : ℕ) → length xs ≡ 1 → take 1 (set xs 0 x) ≡ x ∷ []
one_taken [] x h = absurd (omega arith)
one_taken (y ∷ []) x h = refl
one_taken (y ∷ z ∷ zs) x h = absurd (omega arith)

-- what came of a byte, where it is known what came
abbrev Came : {E : Type 0} → Option (List ℕ) → Option (List ℕ) → Result (Option ℕ) E → Type 0
Came old new r = MatchResult r (λ next. MatchOption next (Consumes old new [] × IsAtEnd old) (λ byte. Consumes old new (byte ∷ []))) (λ _. Keeps old new)

pub returns-in-Some-clause-passes : goal.returns-in-Some-clause-passes
returns-in-Some-clause-passes g c =
    let told = subst (λ (r : _). Came (g.R.Read.remaining r) (g.R.Read.remaining c.next_byte.new.reader) c.next_byte.result) c.self.view_is c.next_byte.ensures in
    let came = subst (Came (g.R.Read.remaining c.args.self.now) (g.R.Read.remaining c.next_byte.new.reader)) (c.in_ok-byte.was ∙ ap Ok c.in-Some.is) told in
    subst (Consumes (g.R.Read.remaining c.args.self.now) (g.R.Read.remaining c.next_byte.new.reader)) (sym (one_taken c.args.buf.now c.in-Some.byte (let h = c.if-buf-ne1.false in omega (arith, h)))) came

pub returns-in-None-clause-passes : goal.returns-in-None-clause-passes
returns-in-None-clause-passes g c =
    let told = subst (λ (r : _). Came (g.R.Read.remaining r) (g.R.Read.remaining c.next_byte.new.reader) c.next_byte.result) c.self.view_is c.next_byte.ensures in
    let came = subst (Came (g.R.Read.remaining c.args.self.now) (g.R.Read.remaining c.next_byte.new.reader)) (c.in_ok-byte.was ∙ ap Ok c.in-None.is) told in
    came.0
