-- A question that may be put is the first of the next scope.
use Rattle.session_core.proofs.Prelude.{◌≡◌, Bool, true, false, List, refl, sym, ◌∙◌, ap, subst, Some, IsTrue, Assignment, is_same_assignment, Plan, Scopes, Candidate, Language, TellingRun, splitting_tuple, scene_of, is_just, is_lawful, scope_question, same_assignment, assignment_same, BeginsOnFirst, run_question}
use Rattle.session_core.proofs.Steps.{lawful_there}

is_first : (l : Language) (live network : List Candidate) (run : TellingRun) → BeginsOnFirst l live network run → scope_question l live network ≡ Some (run_question l run)
is_first l live network run first =
    lawful_there l live network run.scope run.tuple first.next (ap (splitting_tuple (scene_of l run.scope)) (sym first.new.choices) ∙ first.new.sound.tuple)

-- the question that may be put is that of the first run
pub first_asks : (l : Language) (plan : Plan) (live network : List Candidate) (run : TellingRun) (q : Assignment) → plan ≡ Scopes → BeginsOnFirst l live network run → IsTrue (is_lawful l plan live network q) →
    run_question l run ≡ q
first_asks l plan live network run q is first lawful =
    same_assignment (run_question l run) q
    (sym (ap (λ o. is_just o q) (is_first l live network run first)) ∙ sym (ap (λ p. is_lawful l p live network q) is) ∙ lawful)

same_by : (x q : Assignment) (b : Bool) → (b ≡ true → x ≡ q) → (x ≡ q → b ≡ true) → b ≡ is_same_assignment x q
same_by x q true there back = sym (subst (λ p. is_same_assignment x p ≡ true) (there refl) (assignment_same x))
same_by x q false there back = go (is_same_assignment x q) refl
  where
    go : (b : Bool) → is_same_assignment x q ≡ b → false ≡ is_same_assignment x q
    go true same = absurd (let bad : false ≡ true = back (same_assignment x q same) in cc)
    go false other = sym other

-- a comparison with the next question tells whether a question may be put
pub lawful_is : (l : Language) (plan : Plan) (live network : List Candidate) (x q : Assignment) (b : Bool) → plan ≡ Scopes → scope_question l live network ≡ Some x →
    (IsTrue b → x ≡ q) × (x ≡ q → IsTrue b) → b ≡ is_lawful l plan live network q
lawful_is l plan live network x q b is due tells =
    same_by x q b tells.0 tells.1 ∙ sym (ap (λ o. is_just o q) due) ∙ sym (ap (λ p. is_lawful l p live network q) is)
