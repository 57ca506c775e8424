-- Each list of bytes is a model of a solution, or is refused.
use Rattle.net_cnf.proofs.Prelude.{◌≡◌, ◌≢◌, ℕ, Bool, true, false, cond, nat_lt, List, length, Option, Some, None, Result, Ok, Err, refl, subst, ◌⊎◌, inl, inr, Assignment, Language, Candidate, EachModelIsReadOrRefused, MOST_MODEL, boolean_count, literals_of, truths_of, both_named, not_one, modelled_assignment, violated, refused_where, solution_in, solution_of, model_of, IsModel, tokens, bad_token, Literal, ModelFault, TooLong, BadToken, Twice, NotOne, Violates, Memory}
use Rattle.net_cnf.proofs.Modelled.{reads_models}

-- what isn't read is refused for a fault of the bytes
abbrev OfErr : {A : Type 0} → Result A ModelFault → Type 0
OfErr (Ok x) = Unit {0}
OfErr (Err fault) = fault ≢ Memory

behind : {A B : Type 0} (fault : B → ModelFault) (o : Option B) (next : Result A ModelFault) → ((at : B) → fault at ≢ Memory) → OfErr next → OfErr (refused_where fault o next)
behind fault None next first rest = rest
behind fault (Some at) next first rest = first at

solved : (l : Language) (network : List Candidate) (truths : List Bool) → OfErr (solution_in l network truths)
solved l network truths =
    behind NotOne (not_one l truths) _ (λ v e. cc) (behind Violates (violated l network (modelled_assignment l truths)) _ (λ i e. cc) tt)

named : (l : Language) (network : List Candidate) (literals : List Literal) → OfErr (solution_of l network literals)
named l network literals =
    behind Twice (both_named (boolean_count l) literals) (solution_in l network (truths_of (boolean_count l) literals)) (λ number e. cc) (solved l network (truths_of (boolean_count l) literals))

when_short : (long : Bool) (read : Result Assignment ModelFault) → OfErr read → OfErr (cond long (Err TooLong) read)
when_short true read real = λ e. cc
when_short false read real = real

real : (l : Language) (network : List Candidate) (bytes : List ℕ) → OfErr (model_of l network bytes)
unfolding model_of
real l network bytes =
    when_short (nat_lt MOST_MODEL (length bytes)) (refused_where BadToken (bad_token (boolean_count l) (tokens bytes)) (solution_of l network (literals_of l bytes)))
    (behind BadToken (bad_token (boolean_count l) (tokens bytes)) (solution_of l network (literals_of l bytes)) (λ i e. cc) (named l network (literals_of l bytes)))

told : (l : Language) (network : List Candidate) (bytes : List ℕ) (answer : Result Assignment ModelFault) → model_of l network bytes ≡ answer →
    ((e : Assignment) × IsModel l network bytes e) ⊎ ((fault : ModelFault) × (fault ≢ Memory) × (model_of l network bytes ≡ Err fault))
told l network bytes (Ok e) is = inl (e, (reads_models l network bytes e).1 is)
told l network bytes (Err fault) is = inr (fault, subst OfErr is (real l network bytes), is)

pub each_text : EachModelIsReadOrRefused
each_text l network bytes = told l network bytes (model_of l network bytes) refl
