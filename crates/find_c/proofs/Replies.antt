-- What a reply makes of choices.
use Rattle.find_c.proofs.Prelude.{◌≡◌, ℕ, ◌^◌, ◌<◌, ◌≤◌, arith, Bool, true, false, List, [], ◌∷◌, ◌++◌, length, Some, None, sym, ◌∙◌, ap, subst, append_assoc, ◌≢◌, All, beq, list_any, and_parts, both_ways, All-filter, All-from_get_or, Language, IsLanguage, scope_at, tuples, length-tuples, get_or-tuples, length-tuple_at, tuple_at-below, find_all, Choice, Scene, Got, allows, tells_apart, splitting_tuple, after_reply, remaining, choose, WantsReply, scene_of, TellingRun, IsRun, IsChoiceOn, RelStandsFor, RelNext, Wants}
use Rattle.language.proofs.Members.{find_some}
use Rattle.find_c.proofs.Lawful.{few_places}
use Rattle.find_c.proofs.Marks.{none_pass}
use Rattle.shared_lemmas.proofs.Booleans.{beq-false, beq-true}

-- ---- the choice after replies

-- choices that don't differ are at their end
pub choose_ended : (scene : Scene) (cs : List Choice) → splitting_tuple scene cs ≡ None → (more : List Bool) → choose scene cs more ≡ Got (remaining cs)
unfolding choose
choose_ended scene cs none [] = rw none
choose_ended scene cs none (reply ∷ more) = rw none

-- where they differ without a reply, the tuple is wanted
pub choose_wants : (scene : Scene) (cs : List Choice) (u : List ℕ) → splitting_tuple scene cs ≡ Some u → choose scene cs [] ≡ WantsReply u
unfolding choose
choose_wants scene cs u some = rw some

-- and a reply leaves those that agree
pub choose_on : (scene : Scene) (cs : List Choice) (u : List ℕ) → splitting_tuple scene cs ≡ Some u → (reply : Bool) (more : List Bool) → choose scene cs (reply ∷ more) ≡ choose scene (after_reply scene u reply cs) more
unfolding choose
choose_on scene cs u some reply more = rw some

-- where a run stands after replies, what stands where its choices do after one more stands after all of them
pub stands_after : (l : Language) (run : TellingRun) → IsRun l run → (s : ℕ) (next : RelNext) (reply : Bool) → s ≡ run.scope → RelStandsFor next l s (after_reply (scene_of l run.scope) run.tuple reply run.choices) [] →
    (choices : List Choice) (replies : List Bool) → RelStandsFor (Wants run) l run.scope choices replies → RelStandsFor next l run.scope choices (replies ++ reply ∷ [])
stands_after l run is s next reply same now choices replies before more =
    now more ∙ ap (λ t. choose (scene_of l t) (after_reply (scene_of l run.scope) run.tuple reply run.choices) more) same
    ∙ sym (choose_on (scene_of l run.scope) run.choices run.tuple is.tuple reply more)
    ∙ before (reply ∷ more) ∙ ap (choose (scene_of l run.scope) choices) (sym (append_assoc replies (reply ∷ []) more))

-- ---- the tuple of a run

-- a tuple of this length, of values below d
pub record IsTuple (d a : ℕ) (u : List ℕ) : Type 0 where
  pub long : length u ≡ a
  pub values : All (λ x. x < d) u

tuples_fit : (d a : ℕ) → All (IsTuple d a) (tuples d a)
tuples_fit d a = All-from_get_or (IsTuple d a) (tuples d a) [] (λ i low.
    let within : i < d ^ a = omega (arith, low, length-tuples d a) in
    subst (IsTuple d a) (sym (get_or-tuples d a i within)) (record { long = length-tuple_at d a i; values = tuple_at-below d a i within }))

module _ (l : Language) (lawful : IsLanguage l) (run : TellingRun) (is : IsRun l run) where
  pub run_tuple : IsTuple l.value_count (length (scope_at l run.scope)) run.tuple
  run_tuple = find_all (IsTuple l.value_count (length (scope_at l run.scope))) (tells_apart (scene_of l run.scope) run.choices) (tuples l.value_count (length (scope_at l run.scope))) run.tuple
      (tuples_fit l.value_count (length (scope_at l run.scope))) is.tuple

  pub run_places : l.value_count ^ length run.tuple ≤ 65536
  run_places = subst (λ n. l.value_count ^ n ≤ 65536) (sym run_tuple.long) (few_places l lawful run.scope is.scope)

-- ---- the choices that are left

-- a reply about a tuple that tells them apart leaves some
pub some_after : (scene : Scene) (cs : List Choice) (u : List ℕ) → tells_apart scene cs u ≡ true → (reply : Bool) → after_reply scene u reply cs ≢ []
some_after scene cs u splits true none =
    both_ways _ (sym (λ i. list_any (λ c. beq-true (allows scene u c) i) cs) ∙ none_pass _ cs none) (and_parts (list_any (allows scene u) cs) _ splits).0
some_after scene cs u splits false none =
    both_ways _ (sym (λ i. list_any (λ c. beq-false (allows scene u c) i) cs) ∙ none_pass _ cs none) (and_parts (list_any (allows scene u) cs) _ splits).1

pub run_leaves_some : (l : Language) (run : TellingRun) → IsRun l run → (reply : Bool) → after_reply (scene_of l run.scope) run.tuple reply run.choices ≢ []
run_leaves_some l run is reply = some_after (scene_of l run.scope) run.choices run.tuple
    (find_some (tells_apart (scene_of l run.scope) run.choices) (tuples l.value_count (length (scope_at l run.scope))) run.tuple is.tuple) reply

pub known_after : (l : Language) (run : TellingRun) → IsRun l run → (reply : Bool) → All (IsChoiceOn l run.scope) (after_reply (scene_of l run.scope) run.tuple reply run.choices)
known_after l run is reply = All-filter (λ c. beq (allows (scene_of l run.scope) run.tuple c) reply) (IsChoiceOn l run.scope) run.choices is.choices
