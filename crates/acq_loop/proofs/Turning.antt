-- What the loop has done after a turn, and after many.
use Rattle.acq_loop.proofs.Prelude.{◌≡◌, ℕ, List, [], ◌∷◌, ◌++◌, ap, sym, ◌∙◌, refl, Option, Some, None, append_assoc, IfSome, ForSome, append-nil, AddsFront, adds_none, adds_then, Assignment, Event, Language, IsLanguage, IsQuestion, Turns, Reply, AsksFirst, IsTurnOf, closing_of, Closing, Puts, Ends, next_on, number_on, after_text, ended, event_heard, SaysNext, Terms, Point, StepsTo, next_lines, Loses, Drives, Drove}
use Rattle.acq_loop.proofs.Short.{RanTo, CutOff, MayFollow}
use Rattle.target_oracle.proofs.Fronts.{front_longer, front_none, front_then}
use Rattle.acq_loop.proofs.Stretches.{stretch_none, stretch_one, stretch_then}
use Rattle.acq_loop.proofs.Running.{EndsSo, runs_closed, runs_end, IsWithin, puts_next, RunLaws, turn_exists}

-- ---- many turns

module _ (turns : Turns) (l : Language) (terms : Terms) where
  pub steps_none : (a : Point) → StepsTo turns l terms a a
  steps_none a bytes left = record {
    rest = bytes;
    done = [];
    left = left;
    written = adds_none a.written;
    so_far = stretch_none turns l terms a.events bytes;
  }

  pub steps_on : (a b c : Point) → StepsTo turns l terms a b → StepsTo turns l terms b c → StepsTo turns l terms a c
  steps_on a b c first second bytes left =
      let f = first bytes left in
      let s = second f.rest f.left in
      record {
        rest = s.rest;
        done = f.done ++ s.done;
        left = s.left;
        written = adds_then a.written b.written c.written f.done s.done f.written s.written;
        so_far = stretch_then turns l terms a.events b.events c.events bytes f.done f.rest s.done s.rest f.so_far s.so_far;
      }

  steps_ran : (closing : Closing) (a b c : Point) → StepsTo turns l terms a b → RanTo turns l terms closing b c → RanTo turns l terms closing a c
  steps_ran closing a b c first second bytes left =
      let f = first bytes left in
      let s = second f.rest f.left in
      record {
        run = after_text f.done s.run;
        runs = f.so_far.begins s.run s.runs;
        closing = s.closing;
        events = s.events;
        left = s.left;
        written = adds_then a.written b.written c.written f.done s.run.text f.written s.written;
      }

  steps_cut : (a b c : Point) → StepsTo turns l terms a b → CutOff turns l terms b c → CutOff turns l terms a c
  steps_cut a b c first second bytes left =
      let f = first bytes left in
      let s = second f.rest f.left in
      record {
        run = after_text f.done s.run;
        runs = f.so_far.begins s.run s.runs;
        text = front_then a.written b.written c.written f.done s.run.text f.written s.text;
        later = s.later;
        events = s.events;
        rest = s.rest;
        done = f.done ++ s.done;
        middle = s.middle;
        before = adds_then a.written b.written s.middle f.done s.done f.written s.before;
        so_far = stretch_then turns l terms a.events b.events c.events bytes f.done f.rest s.done s.rest f.so_far s.so_far;
        lines = s.lines;
        asked = s.asked;
      }

  pub steps_loses : (a b c : Point) (lost : Event) → StepsTo turns l terms a b → Loses turns l terms b c lost → Loses turns l terms a c lost
  steps_loses a b c lost first second = record {
    question = second.question;
    puts = second.puts;
    fits = second.fits;
    follows = second.follows;
    told = λ bytes left.
        let f = first bytes left in
        let s = second.told f.rest f.left in
        let text : List ℕ = (turns l (number_on l c.events) second.question s.rest).text in
        record {
          rest = s.rest;
          done = f.done ++ s.done;
          so_far = stretch_then turns l terms a.events b.events c.events bytes f.done f.rest s.done s.rest f.so_far s.so_far;
          heard = s.heard;
          left = s.left;
          written = rw (append_assoc f.done s.done text) (adds_then a.written b.written c.written f.done (s.done ++ text) f.written s.written);
        };
  }

  closed_after : (a b c : Point) (o : Option Closing) → StepsTo turns l terms a b → IfSome o (λ closing. RanTo turns l terms closing b c) → IfSome o (λ closing. RanTo turns l terms closing a c)
  closed_after a b c None steps ran = tt
  closed_after a b c (Some closing) steps ran = steps_ran closing a b c steps ran

  pub steps_end : (a b c : Point) (end : Drove) → StepsTo turns l terms a b → Drives turns l terms b c end → Drives turns l terms a c end
  steps_end a b c end steps e = record {
    says = e.says;
    closed = closed_after a b c (closing_of end) steps e.closed;
    pending = e.pending;
    broken = λ none. steps_cut a b c steps (e.broken none);
    unkept = λ failed. let u = e.unkept failed in (u.0, steps_loses a b c u.0 steps u.1);
    full = e.full;
  }

-- ---- one turn

-- where the source tells, the turn's reply is this one
abbrev pub ToldSo : Turns → Language → Assignment → Point → Point → Reply → Type 0
ToldSo turns l q a b reply = ForSome a.left (λ bytes. IsTurnOf (turns l (number_on l a.events) q bytes) a.written b.left b.written reply)

-- where the source tells, a front of the turn's text was written
abbrev pub FrontSo : Turns → Language → Assignment → Point → Point → Type 0
FrontSo turns l q a b = ForSome a.left (λ bytes. AddsFront a.written b.written (turns l (number_on l a.events) q bytes).text)

-- the question's line stood before any of the input was taken
abbrev pub AskedSo : Turns → Language → Assignment → Point → Point → Type 0
AskedSo turns l q a b = AsksFirst a.left a.written b.left b.written (turns l (number_on l a.events) q []).text

-- nothing was written
pub says_nothing : (turns : Turns) (l : Language) (terms : Terms) (events : List Event) (left written : Option (List ℕ)) → SaysNext turns l terms events left written written
says_nothing turns l terms events left written bytes is = front_none written written (next_lines turns l events bytes (next_on l terms events)) refl

-- nothing is put
pub ran_end : (turns : Turns) (l : Language) (terms : Terms) (closing : Closing) (a : Point) → next_on l terms a.events ≡ Some (Ends closing) → RanTo turns l terms closing a a
ran_end turns l terms closing a due bytes left = record {
  run = ended closing a.events bytes;
  runs = runs_end turns l terms a.events bytes closing due;
  closing = refl;
  events = refl;
  left = left;
  written = adds_none a.written;
}

-- this question is put
module _ (turns : Turns) (l : Language) (terms : Terms) (q : Assignment) (a b : Point) (due : next_on l terms a.events ≡ Some (Puts q)) where
  pub step_heard : (reply : Reply) (e : Event) → event_heard q reply ≡ Some e → b.events ≡ a.events ++ e ∷ [] → ToldSo turns l q a b reply → StepsTo turns l terms a b
  step_heard reply e gives added told bytes left =
      let t = told bytes left in
      let turned = turns l (number_on l a.events) q bytes in
      record {
        rest = turned.heard.rest;
        done = turned.text;
        left = t.rest;
        written = t.text;
        so_far = stretch_one turns l terms a.events b.events bytes q e due (ap (event_heard q) t.heard ∙ gives) added;
      }

  pub ran_closed : (reply : Reply) (closing : Closing) → b.events ≡ a.events → EndsSo reply closing a.events q → ToldSo turns l q a b reply → RanTo turns l terms closing a b
  ran_closed reply closing same closes told bytes left =
      let t = told bytes left in
      record {
        run = _;
        runs = runs_closed turns l terms a.events bytes q reply closing due t.heard closes;
        closing = refl;
        events = sym same;
        left = t.rest;
        written = rw (append-nil (turns l (number_on l a.events) q bytes).text) t.text;
      }

  -- a turn that was cut off
  pub cut_turn : RunLaws → IsLanguage l → IsWithin l terms.plan a.events → b.events ≡ a.events → FrontSo turns l q a b → AskedSo turns l q a b → CutOff turns l terms a b
  cut_turn laws lawful within same told asked bytes left =
      let f = told bytes left in
      let turn = turn_exists laws turns l terms lawful a.events bytes q within due in
      record {
        run = turn.has.run;
        runs = turn.has.runs;
        text = rw turn.begins (front_longer a.written b.written (turns l (number_on l a.events) q bytes).text turn.more f);
        later = turn.has.later;
        events = rw same turn.has.extends;
        rest = bytes;
        done = [];
        middle = a.written;
        before = adds_none a.written;
        so_far = rw same (stretch_none turns l terms a.events bytes);
        lines = rw (same, due) f;
        asked = rw (same, due) (rw left at asked);
      }

  -- a turn whose event wasn't kept
  pub lost_turn : (reply : Reply) (e : Event) → event_heard q reply ≡ Some e → MayFollow a.events q e → IsQuestion l q → b.events ≡ a.events → ToldSo turns l q a b reply → Loses turns l terms a b e
  lost_turn reply e gives follows fits same told = record {
    question = q;
    puts = rw same (puts_next l terms a.events q due).due;
    fits = fits;
    follows = rw same follows;
    told = λ bytes left.
        let here : IsTurnOf (turns l (number_on l b.events) q bytes) a.written b.left b.written reply = rw same (told bytes left) in
        record {
          rest = bytes;
          done = [];
          so_far = rw same (stretch_none turns l terms a.events bytes);
          heard = ap (event_heard q) here.heard ∙ gives;
          left = here.rest;
          written = here.text;
        };
  }
