-- The question that is open is the one that is asked.
use Rattle.session_core.proofs.Prelude.{List, Option, Some, ap, subst, IsTrue, option_map, Assignment, restrict, Answer, Candidate, on_scope, Halved, standing_tells, Idle, Halving, Choosing, Walking, is_lawful, wanted_set, walk_in, Knowledge, Put, Asking, IsPut, IsAskedAfter, Knows, PutAfter, Stands, run_question, question_put}
use Rattle.session_core.specs.declared.put.Put.TheVariants as puts
use Rattle.session_core.specs.declared.session.Session.TheVariants as sessions

put_asked : (k : Knowledge) (put : Put) (t : List Answer) → IsPut k put → PutAfter k put t → Knows k t → IsAskedAfter k.lang k.plan t (question_put k.lang put)
put_asked k (puts.Example e) t sound after knows =
    record { state = Idle k.network.list after.end; at = after.idle; asked = subst (λ (live : List Candidate). IsTrue (is_lawful k.lang k.plan live k.network.list e)) knows.kept after.lawful }
put_asked k (puts.OnWalk e set) t sound after knows =
    record { state = Walking set after.walk k.network.list; at = after.walking; asked = ap (λ (x : Assignment). let o : Option Assignment = Some (restrict x set) in o) after.example }
put_asked k (puts.Part e set run) t sound after knows =
    record {
      state = Halving e set after.replies k.network.list (walk_in k.tree);
      at = after.halving;
      asked = ap (λ (at : Halved). option_map (restrict e) (wanted_set at)) (standing_tells.waits run set after.replies after.running);
    }
put_asked k (puts.FirstTuple run) t sound after knows =
    record {
      state = Idle k.network.list after.end;
      at = after.idle;
      asked = subst (λ (live : List Candidate). IsTrue (is_lawful k.lang k.plan live k.network.list (run_question k.lang run))) knows.kept after.lawful;
    }
put_asked k (puts.Tuple run) t sound after knows =
    record { state = Choosing run.scope run.choices k.network.list (walk_in k.tree); at = after; asked = ap (option_map (on_scope k.lang run.scope)) sound.sound.tuple }

-- where a session stands, its open question is asked
pub open_asked : (asking : Asking) (t : List Answer) → Stands (sessions.Asking asking) t →
    IsAskedAfter asking.knowledge.value.lang asking.knowledge.value.plan t (question_put asking.knowledge.value.lang asking.put.value)
open_asked asking t h = put_asked asking.knowledge.value asking.put.value t asking.sound h.after h.knows
