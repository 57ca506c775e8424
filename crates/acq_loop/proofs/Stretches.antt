-- Some turns of a run, one after another.
use Rattle.acq_loop.proofs.Prelude.{◌≡◌, ◌∙◌, ℕ, List, [], ◌∷◌, ◌++◌, ap, sym, refl, Option, Some, None, append_assoc, append-nil, option_map, Assignment, Event, Language, Turns, Terms, Next, Puts, Ends, next_on, number_on, event_heard, after_text, Stretch, stretch, stretch_after, stretch_on, stretch_of}
use Rattle.acq_loop.specs.Driven.{IsStretch}
use Rattle.acq_loop.proofs.Running.{runs_heard, text_after}

-- a stretch that there is
abbrev here : Stretch → Option Stretch
here s = Some s

same_here : (a b : Stretch) → here a ≡ here b → a ≡ b
same_here a b e = cc

module _ (turns : Turns) (l : Language) (terms : Terms) where
  abbrev from : List Event → List ℕ → List Event → Option Stretch
  from events bytes more = stretch_of turns l terms events bytes more

  none_from : (events : List Event) (bytes : List ℕ) → from events bytes [] ≡ here (stretch [] bytes)
  unfolding stretch_of
  none_from events bytes = refl

  -- how the turn goes on by which this event comes
  abbrev puts : List Event → List ℕ → Event → List Event → Assignment → Option Stretch
  puts events bytes e more q = option_map (stretch_after (turns l (number_on l events) q bytes).text) (from (events ++ e ∷ []) (turns l (number_on l events) q bytes).heard.rest more)

  event_from : (events : List Event) (bytes : List ℕ) (e : Event) (more : List Event) → from events bytes (e ∷ more) ≡ stretch_on (puts events bytes e more) (next_on l terms events)
  unfolding stretch_of
  event_from events bytes e more = refl

  one_from : (events : List Event) (bytes : List ℕ) (e : Event) (q : Assignment) → next_on l terms events ≡ Some (Puts q) → from events bytes (e ∷ []) ≡ here (stretch (turns l (number_on l events) q bytes).text (turns l (number_on l events) q bytes).heard.rest)
  one_from events bytes e q due =
      let turned = turns l (number_on l events) q bytes in
      event_from events bytes e [] ∙ ap (stretch_on (puts events bytes e [])) due ∙ ap (option_map (stretch_after turned.text)) (none_from (events ++ e ∷ []) turned.heard.rest) ∙ ap (λ (t : List ℕ). here (stretch t turned.heard.rest)) (append-nil turned.text)

  -- behind a turn's text, where it goes on behind the events that come next
  text_then : (events more longer : List Event) (text rest : List ℕ) (s t : Stretch) →
      ((x : Stretch) → from events rest more ≡ here x → x.rest ≡ s.rest → from events rest longer ≡ here (stretch_after x.text t)) →
      (o : Option Stretch) → from events rest more ≡ o → option_map (stretch_after text) o ≡ here s → option_map (stretch_after text) (from events rest longer) ≡ here (stretch_after s.text t)
  text_then events more longer text rest s t on None is h = absurd (let no : ⊥ = cc in no)
  text_then events more longer text rest s t on (Some x) is h =
      let same : stretch_after text x ≡ s = same_here (stretch_after text x) s h in
      ap (option_map (stretch_after text)) (on x is (ap (λ (y : Stretch). y.rest) same))
      ∙ ap (λ (y : List ℕ). here (stretch y t.rest)) (sym (append_assoc text x.text t.text))
      ∙ ap (λ (y : Stretch). here (stretch_after y.text t)) same

  -- a turn by which an event comes
  turn_then : (events : List Event) (bytes : List ℕ) (e : Event) (more longer : List Event) (s t : Stretch) →
      ((rest : List ℕ) (x : Stretch) → from (events ++ e ∷ []) rest more ≡ here x → x.rest ≡ s.rest → from (events ++ e ∷ []) rest longer ≡ here (stretch_after x.text t)) →
      (next : Option Next) → stretch_on (puts events bytes e more) next ≡ here s → stretch_on (puts events bytes e longer) next ≡ here (stretch_after s.text t)
  turn_then events bytes e more longer s t on None h = absurd (let no : ⊥ = cc in no)
  turn_then events bytes e more longer s t on (Some (Ends closing)) h = absurd (let no : ⊥ = cc in no)
  turn_then events bytes e more longer s t on (Some (Puts q)) h =
      let turned = turns l (number_on l events) q bytes in
      text_then (events ++ e ∷ []) more longer turned.text turned.heard.rest s t (on turned.heard.rest) (from (events ++ e ∷ []) turned.heard.rest more) refl h

  -- one stretch after another
  then_from : (events : List Event) (bytes : List ℕ) (more later : List Event) (s t : Stretch) → from events bytes more ≡ here s → from (events ++ more) s.rest later ≡ here t → from events bytes (more ++ later) ≡ here (stretch_after s.text t)
  then_from events bytes [] later s t first second =
      let is : stretch [] bytes ≡ s = same_here (stretch [] bytes) s (sym (none_from events bytes) ∙ first) in
      (λ i. from (sym (append-nil events) i) (is i).rest later) ∙ second ∙ ap (λ (x : Stretch). here (stretch_after x.text t)) is
  then_from events bytes (e ∷ more) later s t first second =
      event_from events bytes e (more ++ later)
      ∙ turn_then events bytes e more (more ++ later) s t
      (λ rest x is same. then_from (events ++ e ∷ []) rest more later x t is ((λ i. from (append_assoc events (e ∷ []) more i) (same i) later) ∙ second))
      (next_on l terms events) (sym (event_from events bytes e more) ∙ first)

  -- ---- with the runs that go on from there

  pub stretch_none : (events : List Event) (bytes : List ℕ) → IsStretch turns l terms bytes [] bytes events events
  stretch_none events bytes = record { more = []; grown = sym (append-nil events); is = none_from events bytes; begins = λ run runs. runs }

  pub stretch_one : (events later : List Event) (bytes : List ℕ) (q : Assignment) (e : Event) → next_on l terms events ≡ Some (Puts q) → event_heard q (turns l (number_on l events) q bytes).heard.reply ≡ Some e → later ≡ events ++ e ∷ [] →
      IsStretch turns l terms bytes (turns l (number_on l events) q bytes).text (turns l (number_on l events) q bytes).heard.rest events later
  stretch_one events later bytes q e due heard added = record {
    more = e ∷ [];
    grown = added;
    is = one_from events bytes e q due;
    begins = λ run runs. runs_heard turns l terms events bytes q e run due heard (rw added at runs);
  }

  pub stretch_then : (a b c : List Event) (bytes done middle more rest : List ℕ) → IsStretch turns l terms bytes done middle a b → IsStretch turns l terms middle more rest b c → IsStretch turns l terms bytes (done ++ more) rest a c
  stretch_then a b c bytes done middle more rest first second = record {
    more = first.more ++ second.more;
    grown = second.grown ∙ ap (λ (es : List Event). es ++ second.more) first.grown ∙ append_assoc a first.more second.more;
    is = then_from a bytes first.more second.more (stretch done middle) (stretch more rest) first.is (ap (λ (es : List Event). from es middle second.more) (sym first.grown) ∙ second.is);
    begins = λ run runs. rw (text_after done more run) at (first.begins (after_text more run) (second.begins run runs));
  }
