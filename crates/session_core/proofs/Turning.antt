-- The answer to what is put.
use Rattle.session_core.proofs.Prelude.{◌≡◌, Bool, ℕ, List, [], ◌∷◌, ◌++◌, sym, subst, inl, inr, Some, numbers, Assignment, Answer, IsLanguage, variable_count, ScopeRun, TellingRun, settle_choices, settle_halving, walk_in, Knowledge, Put, Example, OnWalk, Part, FirstTuple, Tuple, Asking, IsAnswered, IsExample, IsFirstTuple, IsTelling, IsPut, IsTupleOf, question_put, open_in, PutAfter, HalvesAfter, Stands, part_replied, IsLed}
use Rattle.session_core.specs.declared.session.Session.TheVariants as sessions
use Rattle.session_core.proofs.Steps.{said}
use Rattle.session_core.proofs.Moving.{example_led, walk_led, part_led, tuple_led, first_led, left_after}

pub same_some : (a b : Assignment) → Some a ≡ Some b → a ≡ b
same_some a b e = cc

-- what is put, after these answers, and the answer that was heard
pub record IsHeard (asking : Asking) (put : Put) (q : Assignment) (reply : Bool) (t : List Answer) (k' : Knowledge) : Type 0 where
  pub put_is : asking.put.value ≡ put
  pub asked : open_in (sessions.Asking asking) ≡ Some q
  pub stands : Stands (sessions.Asking asking) t
  pub lawful : IsLanguage k'.lang
  pub answered : IsAnswered asking.knowledge.value q reply k'

asks : (asking : Asking) (put : Put) (q : Assignment) (reply : Bool) (t : List Answer) (k' : Knowledge) → IsHeard asking put q reply t k' → q ≡ question_put asking.knowledge.value.lang put
asks asking put q reply t k' h = subst (λ p. q ≡ question_put asking.knowledge.value.lang p) h.put_is (same_some q _ (sym h.asked))

after : (asking : Asking) (put : Put) (q : Assignment) (reply : Bool) (t : List Answer) (k' : Knowledge) → IsHeard asking put q reply t k' → PutAfter asking.knowledge.value put t
after asking put q reply t k' h = subst (λ p. PutAfter asking.knowledge.value p t) h.put_is h.stands.after

-- what the type says of it
pub sound_of : (asking : Asking) (put : Put) → asking.put.value ≡ put → IsPut asking.knowledge.value put
sound_of asking put is = subst (IsPut asking.knowledge.value) is asking.sound

pub example_heard : (asking : Asking) (e q : Assignment) (reply : Bool) (t : List Answer) (k' : Knowledge) → IsHeard asking (Example e) q reply t k' →
    IsLed k' (t ++ said q reply ∷ []) (part_replied k'.lang (t ++ said q reply ∷ []) e (numbers (variable_count k'.lang)) reply k'.network.list k'.tree)
example_heard asking e q reply t k' h =
    let sound : IsExample asking.knowledge.value e = sound_of asking (Example e) h.put_is in
    example_led asking.knowledge.value k' e q reply t h.lawful h.answered h.stands.knows (asks asking (Example e) q reply t k' h) sound.plan sound.walk (after asking (Example e) q reply t k' h)

pub walk_heard : (asking : Asking) (e q : Assignment) (set : List ℕ) (reply : Bool) (t : List Answer) (k' : Knowledge) → IsHeard asking (OnWalk e set) q reply t k' →
    IsLed k' (t ++ said q reply ∷ []) (part_replied k'.lang (t ++ said q reply ∷ []) e set reply k'.network.list k'.tree)
walk_heard asking e q set reply t k' h =
    walk_led asking.knowledge.value k' e q set reply t h.lawful h.answered h.stands.knows (asks asking (OnWalk e set) q reply t k' h) (after asking (OnWalk e set) q reply t k' h)

-- the replies of the halving so far
pub replies_of : (asking : Asking) (e q : Assignment) (set : List ℕ) (run : ScopeRun) (reply : Bool) (t : List Answer) (k' : Knowledge) → IsHeard asking (Part e set run) q reply t k' → HalvesAfter asking.knowledge.value e set run t
replies_of asking e q set run reply t k' h = after asking (Part e set run) q reply t k' h

pub part_heard : (asking : Asking) (e q : Assignment) (set : List ℕ) (run : ScopeRun) (reply : Bool) (t : List Answer) (k' : Knowledge) → (h : IsHeard asking (Part e set run) q reply t k') →
    IsLed k' (t ++ said q reply ∷ []) (settle_halving k'.lang (t ++ said q reply ∷ []) e set ((replies_of asking e q set run reply t k' h).replies ++ reply ∷ []) k'.network.list (walk_in k'.tree))
part_heard asking e q set run reply t k' h =
    part_led asking.knowledge.value k' e q set run reply t h.lawful h.answered h.stands.knows (asks asking (Part e set run) q reply t k' h) (replies_of asking e q set run reply t k' h)

pub first_heard : (asking : Asking) (q : Assignment) (run : TellingRun) (reply : Bool) (t : List Answer) (k' : Knowledge) → IsHeard asking (FirstTuple run) q reply t k' →
    IsLed k' (t ++ said q reply ∷ []) (settle_choices k'.lang (t ++ said q reply ∷ []) run.scope (left_after k'.lang run reply) k'.network.list (walk_in k'.tree))
first_heard asking q run reply t k' h =
    first_led asking.knowledge.value k' q run reply t h.lawful h.answered h.stands.knows (asks asking (FirstTuple run) q reply t k' h) (sound_of asking (FirstTuple run) h.put_is) (after asking (FirstTuple run) q reply t k' h)

pub tuple_heard : (asking : Asking) (q : Assignment) (run : TellingRun) (reply : Bool) (t : List Answer) (k' : Knowledge) → IsHeard asking (Tuple run) q reply t k' →
    IsLed k' (t ++ said q reply ∷ []) (settle_choices k'.lang (t ++ said q reply ∷ []) run.scope (left_after k'.lang run reply) k'.network.list (walk_in k'.tree))
tuple_heard asking q run reply t k' h =
    let sound : IsTelling asking.knowledge.value run = sound_of asking (Tuple run) h.put_is in
    tuple_led asking.knowledge.value k' q run reply t h.lawful h.answered h.stands.knows (asks asking (Tuple run) q reply t k' h) sound.sound (after asking (Tuple run) q reply t k' h)

-- ---- what was heard

pub heard : (asking : Asking) (put : Put) (q : Assignment) (reply : Bool) (t : List Answer) (k' : Knowledge) → asking.put.value ≡ put → open_in (sessions.Asking asking) ≡ Some q →
    Stands (sessions.Asking asking) t → IsLanguage k'.lang → IsAnswered asking.knowledge.value (question_put asking.knowledge.value.lang asking.put.value) reply k' → IsHeard asking put q reply t k'
heard asking put q reply t k' is asked stands lawful answered =
    record {
      put_is = is;
      asked = asked;
      stands = stands;
      lawful = lawful;
      answered = subst (λ x. IsAnswered asking.knowledge.value x reply k') (same_some _ q asked) answered;
    }

-- ---- a tuple

-- it is put on a scope where nothing is learned
pub tuple_sound : (asking : Asking) (run : TellingRun) → IsTupleOf run asking.put.value → IsTelling asking.knowledge.value run
tuple_sound asking run (inl is) =
    let sound : IsFirstTuple asking.knowledge.value run = sound_of asking (FirstTuple run) is in
    record { sound = sound.first.new.sound; free = sound.first.new.free }
tuple_sound asking run (inr is) = sound_of asking (Tuple run) is

-- the first on its scope or a further one
pub any_tuple_heard : (asking : Asking) (q : Assignment) (run : TellingRun) (reply : Bool) (t : List Answer) (k' : Knowledge) → IsTupleOf run asking.put.value → open_in (sessions.Asking asking) ≡ Some q →
    Stands (sessions.Asking asking) t → IsLanguage k'.lang → IsAnswered asking.knowledge.value (question_put asking.knowledge.value.lang asking.put.value) reply k' →
    IsLed k' (t ++ said q reply ∷ []) (settle_choices k'.lang (t ++ said q reply ∷ []) run.scope (left_after k'.lang run reply) k'.network.list (walk_in k'.tree))
any_tuple_heard asking q run reply t k' (inl is) asked stands lawful answered =
    first_heard asking q run reply t k' (heard asking (FirstTuple run) q reply t k' is asked stands lawful answered)
any_tuple_heard asking q run reply t k' (inr is) asked stands lawful answered =
    tuple_heard asking q run reply t k' (heard asking (Tuple run) q reply t k' is asked stands lawful answered)
