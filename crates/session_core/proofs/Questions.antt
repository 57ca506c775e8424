-- An example that may be put is a question.
use Rattle.session_core.proofs.Prelude.{◌≡◌, Bool, true, ◌&&◌, List, refl, sym, subst, ◌≢◌, IsTrue, and_parts, Assignment, Plan, Scopes, Quacq, Multi, Candidate, Language, IsLanguage, IsQuestion, question_is, is_lawful, run_tuple, split_is_question, part_is_question, TellingRun, IsRun, Knowledge, Put, IsExample, IsPut, question_put, run_question}
use Rattle.session_core.specs.declared.put.Put.TheVariants as puts

first_of_four : (a b c d : Bool) → (a && b && c && d) ≡ true → a ≡ true
first_of_four a b c d all = (and_parts a b (and_parts (a && b) c (and_parts (a && b && c) d all).0).0).0

pub by_plan : (l : Language) → IsLanguage l → (plan : Plan) (live network : List Candidate) (e : Assignment) → plan ≢ Scopes → IsTrue (is_lawful l plan live network e) → IsQuestion l e
by_plan l lawful Scopes live network e other may = absurd (other refl)
by_plan l lawful Quacq live network e other may = question_is l lawful e (first_of_four _ _ _ _ may)
by_plan l lawful Multi live network e other may = question_is l lawful e (first_of_four _ _ _ _ may)

pub example_fits : (k k' : Knowledge) (e : Assignment) → IsLanguage k'.lang → k'.lang ≡ k.lang → IsExample k e → IsQuestion k'.lang e
example_fits k k' e lawful same is = subst (λ l. IsQuestion l e) (sym same) (by_plan k.lang (subst IsLanguage same lawful) k.plan k.kept.members k.network.list e is.plan is.lawful)

tuple_fits : (l : Language) → IsLanguage l → (run : TellingRun) → IsRun l run → IsQuestion l (run_question l run)
tuple_fits l lawful run sound =
    let tuple = run_tuple l lawful run sound in
    split_is_question l lawful run.scope sound.scope run.choices sound.choices run.tuple tuple.long tuple.values sound.tuple

-- what is put is a question
pub put_fits : (k : Knowledge) → IsLanguage k.lang → (put : Put) → IsPut k put → IsQuestion k.lang (question_put k.lang put)
put_fits k lawful (puts.Example e) sound = example_fits k k e lawful refl sound
put_fits k lawful (puts.OnWalk e set) sound = part_is_question k.lang e set sound.question
put_fits k lawful (puts.Part e set run) sound = part_is_question k.lang e run.base sound
put_fits k lawful (puts.FirstTuple run) sound = tuple_fits k.lang lawful run sound.first.new.sound
put_fits k lawful (puts.Tuple run) sound = tuple_fits k.lang lawful run sound.sound
