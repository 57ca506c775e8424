-- One run, and one text.
use Rattle.acq_cli.proofs.Prelude.{AllFault, Assignment, Err, Event, Gathered, IsRefusal, IsTextOfRun, IsVocabulary, Language, List, Next, None, Ok, Option, Puts, Ran, Reply, Result, Runs, Said, Some, TakenBack, Terms, Turned, Turns, VocFault, [], after_text, answer_event, ap, fine, first_line_of, heard_on, inl, inr, line_turn, next_on, not_refused, number_on, one_language, option_map, put_on, ran, refl, refusal_of_vocabulary, refusal_text, same_fine, subst, suc, sym, transport, turned_on, whole_text, zero, ℕ, ◌++◌, ◌∙◌, ◌∷◌, ◌≡◌}
use Rattle.assign.specs.declared.events.Event.TheVariants as event
use Rattle.acq_cli.specs.Closed.{IsTrying, Tried}
use Rattle.acq_cli.specs.OneText.{RunIsOne, TextIsOne}

-- ---- one run

same_some : (o : Option Ran) (run other : Ran) → o ≡ Some run → o ≡ Some other → run ≡ other
same_some o run other h k = cc

-- two goings on that agree wherever both come to an end
module _ (a b : List Event → List ℕ → Option Ran) (agree : (events : List Event) (rest : List ℕ) (x y : Ran) → a events rest ≡ Some x → b events rest ≡ Some y → x ≡ y) (run other : Ran) where
  mapped : (text : List ℕ) (events : List Event) (rest : List ℕ) (x y : Option Ran) → a events rest ≡ x → b events rest ≡ y → option_map (after_text text) x ≡ Some run → option_map (after_text text) y ≡ Some other → run ≡ other
  mapped text events rest None y is so h k = absurd (let no : ⊥ = cc in no)
  mapped text events rest (Some x) None is so h k = absurd (let no : ⊥ = cc in no)
  mapped text events rest (Some x) (Some y) is so h k = same_some (Some (after_text text x)) run other h (ap (λ r. Some (after_text text r)) (agree events rest x y is so) ∙ k)

  heard : (text : List ℕ) (events : List Event) (q : Assignment) (rest : List ℕ) (reply : Reply) → option_map (after_text text) (heard_on a events q rest reply) ≡ Some run → option_map (after_text text) (heard_on b events q rest reply) ≡ Some other → run ≡ other
  heard text events q rest (Said reply) h k = mapped text (events ++ answer_event q reply ∷ []) rest _ _ refl refl h k
  heard text events q rest TakenBack h k = mapped text (events ++ event.Back ∷ []) rest _ _ refl refl h k
  heard text events q rest reply h k = same_some (option_map (after_text text) (heard_on a events q rest reply)) run other h k

  put : (turned : Assignment → Turned) (events : List Event) (bytes : List ℕ) (next : Option Next) → put_on (λ q. turned_on a events q (turned q)) events bytes next ≡ Some run → put_on (λ q. turned_on b events q (turned q)) events bytes next ≡ Some other → run ≡ other
  put turned events bytes (Some (Puts q)) h k = heard (turned q).text events q (turned q).heard.rest (turned q).heard.reply h k
  put turned events bytes next h k = same_some (put_on (λ q. turned_on a events q (turned q)) events bytes next) run other h k

-- by the numbers of turns
ran_once : (turns : Turns) (l : Language) (terms : Terms) (n m : ℕ) (events : List Event) (bytes : List ℕ) (run other : Ran) → ran turns l terms n events bytes ≡ Some run → ran turns l terms m events bytes ≡ Some other → run ≡ other
unfolding ran
ran_once turns l terms zero m events bytes run other h k = absurd (let no : ⊥ = cc in no)
ran_once turns l terms (suc n) zero events bytes run other h k = absurd (let no : ⊥ = cc in no)
ran_once turns l terms (suc n) (suc m) events bytes run other h k =
    put (ran turns l terms n) (ran turns l terms m) (λ es rest x y is so. ran_once turns l terms n m es rest x y is so) run other (λ q. turns l (number_on l events) q bytes) events bytes (next_on l terms events) h k

pub run_once : RunIsOne
run_once turns l terms events bytes run other one two = ran_once turns l terms one.count two.count events bytes run other one.is two.is

-- ---- one text

same_fault : (first : Result (List ℕ) AllFault) (a b : VocFault) → IsRefusal a first → IsRefusal b first → a ≡ b
same_fault (Ok line) a b one two = cc
same_fault (Err e) a b one two = one.1 ∙ sym two.1

-- a line that is a vocabulary isn't refused
not_both : (first : Result (List ℕ) AllFault) (fault : VocFault) (line : List ℕ) (lang : Language) → first ≡ fine line → IsVocabulary line lang → IsRefusal fault first → ⊥
not_both first fault line lang is vocabulary refused =
    let told : refusal_of_vocabulary line ≡ Some fault = subst (IsRefusal fault) is refused in
    let none = not_refused line lang vocabulary in cc

-- an input is one thing to `try`
pub one_trying : (terms : Terms) (first : Gathered) (one other : Result Tried VocFault) → IsTrying terms first one → IsTrying terms first other → one ≡ other
one_trying terms first (Ok a) (Ok b) (line, got, read, runs) (again, gained, also, goes) =
    let same : again ≡ line = same_fine again line (sym gained ∙ got) in
    let lang : b.lang ≡ a.lang = one_language line b.lang a.lang (transport (λ i. IsVocabulary (same i) b.lang) also) read in
    let run : a.run ≡ b.run = run_once line_turn a.lang terms [] first.rest a.run b.run runs (transport (λ i. Runs line_turn (lang i) terms [] first.rest b.run) goes) in
    let tried : a ≡ b = (λ i. record { lang = sym lang i; run = run i }) in
    ap (λ (x : Tried). let r : Result Tried VocFault = Ok x in r) tried
one_trying terms first (Ok a) (Err f) (line, got, read, runs) refused = absurd (not_both first.got f line a.lang got read refused)
one_trying terms first (Err f) (Ok b) refused (line, got, read, runs) = absurd (not_both first.got f line b.lang got read refused)
one_trying terms first (Err f) (Err g) refused also = ap (λ (x : VocFault). let r : Result Tried VocFault = Err x in r) (same_fault first.got f g refused also)

two_runs : (terms : Terms) (first : Gathered) (text other : List ℕ) → IsTextOfRun terms first text → IsTextOfRun terms first other → text ≡ other
two_runs terms first text other one two =
    let line : two.line ≡ one.line = same_fine two.line one.line (sym two.got ∙ one.got) in
    let lang : two.lang ≡ one.lang = one_language one.line two.lang one.lang (transport (λ i. IsVocabulary (line i) two.lang) two.vocabulary) one.vocabulary in
    let run : one.run ≡ two.run = run_once line_turn one.lang terms [] first.rest one.run two.run one.runs (transport (λ i. Runs line_turn (lang i) terms [] first.rest two.run) two.runs) in
    one.is ∙ (λ i. whole_text (sym lang i) terms (run i)) ∙ sym two.is

pub text_once : TextIsOne
text_once terms bytes text other (inl one) (inl two) = one.2 ∙ ap refusal_text (same_fault (first_line_of 4194304 bytes).got one.0 two.0 one.1 two.1) ∙ sym two.2
text_once terms bytes text other (inl one) (inr two) = absurd (not_both (first_line_of 4194304 bytes).got one.0 two.line two.lang two.got two.vocabulary one.1)
text_once terms bytes text other (inr one) (inl two) = absurd (not_both (first_line_of 4194304 bytes).got two.0 one.line one.lang one.got one.vocabulary two.1)
text_once terms bytes text other (inr one) (inr two) = two_runs terms (first_line_of 4194304 bytes) text other one two
