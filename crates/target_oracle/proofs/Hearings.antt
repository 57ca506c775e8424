-- What was heard of lines, and what was written meanwhile.
use Rattle.target_oracle.proofs.Prelude.{◌≡◌, ℕ, zero, suc, ◌+◌, List, [], ◌++◌, true, false, ap, sym, subst, ◌∙◌, refl, arith, append_assoc, Option, Some, None, IfSome, option_map, Adds, AddsFront, adds_none, adds_then, Spoken, spoken, spoken_in, line_reply, no_answer_text, turned_by, hear_line, hear, told_of, Speaks, Hears, HearsLine, CutsOff, Passes, TellsOf, PassedBy, Told, Yes, No, Back, Stop, End, TooLong, Unreadable, ReadFault, WriteFault, Memory}
use Rattle.acq_io.specs.Lines.{Lined, lined, line_of}
use Rattle.acq_io.specs.declared.lines.LineGot.{LineGot}
use Rattle.target_oracle.specs.Turns.{Turned, turned_after, Reply, Said, TakenBack, Stopped, Ended, Overlong, Unread}
use Rattle.target_oracle.specs.Tells.{IsTurnOf, Tells}
use Rattle.target_oracle.proofs.Fronts.{front_longer, front_none, front_then}

some_text : (x y : List ℕ) → x ≡ y → (let a : Option (List ℕ) = Some x in a) ≡ Some y
some_text x y e = ap (λ (t : List ℕ). let a : Option (List ℕ) = Some t in a) e

-- ---- one line

spoken_so : (k : ℕ) (bytes : List ℕ) (now : Option (List ℕ)) (says : Option Reply) → Speaks k (Some bytes) now says → ((spoken k bytes).says ≡ says) × (now ≡ Some (spoken k bytes).rest)
spoken_so k bytes None says h = cc
spoken_so k bytes (Some rest) says h =
    let e : spoken k bytes ≡ (let s : Spoken = record { says = says; rest = rest } in s) = cc in
    (ap (λ (s : Spoken). s.says) e, ap (λ (s : Spoken). let o : Option (List ℕ) = Some s.rest in o) (sym e))

-- ---- a line that replies

hear_reply : (k : ℕ) (patience : ℕ) (bytes : List ℕ) (reply : Reply) → (spoken k bytes).says ≡ Some reply → hear k patience bytes ≡ turned_by reply (spoken k bytes).rest
unfolding hear
hear_reply k zero bytes reply h = ap (hear_line (turned_by Unread) (spoken k bytes).rest) h
hear_reply k (suc patience) bytes reply h = ap (hear_line (λ rest. turned_after no_answer_text (hear k patience rest)) (spoken k bytes).rest) h

turn_as : (turned : Turned) (reply : Reply) (rest : List ℕ) (now written : Option (List ℕ)) → turned ≡ turned_by reply rest → now ≡ Some rest → IsTurnOf turned written now written reply
turn_as turned reply rest now written e left = record {
  heard = ap (λ (t : Turned). t.heard.reply) e;
  rest = left ∙ some_text _ _ (sym (ap (λ (t : Turned). t.heard.rest) e));
  text = let Added : List ℕ → Type 0 = Adds written written in subst Added (sym (ap (λ (t : Turned). t.text) e)) (adds_none written);
}

turn_replied : (k : ℕ) (patience : ℕ) (bytes : List ℕ) (now written : Option (List ℕ)) (reply : Reply) → Speaks k (Some bytes) now (Some reply) → IsTurnOf (hear k patience bytes) written now written reply
turn_replied k patience bytes now written reply h =
    let so = spoken_so k bytes now (Some reply) h in turn_as (hear k patience bytes) reply _ now written (hear_reply k patience bytes reply so.0) so.1

heard_tells : (k : ℕ) (patience : ℕ) (bytes : List ℕ) (now written : Option (List ℕ)) (told : Told) → Hears k (Some bytes) now told → Tells (hear k patience bytes) written now written told
heard_tells k patience bytes now written Yes h = turn_replied k patience bytes now written (Said true) h
heard_tells k patience bytes now written No h = turn_replied k patience bytes now written (Said false) h
heard_tells k patience bytes now written Back h = turn_replied k patience bytes now written TakenBack h
heard_tells k patience bytes now written Stop h = turn_replied k patience bytes now written Stopped h
heard_tells k patience bytes now written End h = turn_replied k patience bytes now written Ended h
heard_tells k patience bytes now written TooLong h = turn_replied k patience bytes now written Overlong h
heard_tells k patience bytes now written Unreadable h = turn_replied k patience bytes now written Unread h
heard_tells k patience bytes now written ReadFault h = front_none written written (hear k patience bytes).text refl
heard_tells k patience bytes now written WriteFault h = absurd h
heard_tells k patience bytes now written Memory h = absurd h

pub line_tells : (k : ℕ) (patience : ℕ) (left now written : Option (List ℕ)) (told : Told) → Hears k left now told → TellsOf k patience left written now written told
line_tells k patience left now written told h bytes is =
    let P : Option (List ℕ) → Type 0 = λ o. Hears k o now told in heard_tells k patience bytes now written told (subst P is h)

-- ---- a line that is no answer

-- where it is the last one
hear_none : (k : ℕ) (bytes : List ℕ) → (spoken k bytes).says ≡ None → hear k zero bytes ≡ turned_by Unread (spoken k bytes).rest
unfolding hear
hear_none k bytes h = ap (hear_line (turned_by Unread) (spoken k bytes).rest) h

pub last_tells : (k : ℕ) (left now written : Option (List ℕ)) → Speaks k left now None → TellsOf k zero left written now written Unreadable
last_tells k left now written h bytes is =
    let P : Option (List ℕ) → Type 0 = λ o. Speaks k o now None in
    let so = spoken_so k bytes now None (subst P is h) in turn_as (hear k zero bytes) Unread _ now written (hear_none k bytes so.0) so.1

hear_more : (k : ℕ) (patience : ℕ) (bytes : List ℕ) → (spoken k bytes).says ≡ None → hear k (suc patience) bytes ≡ turned_after no_answer_text (hear k patience (spoken k bytes).rest)
unfolding hear
hear_more k patience bytes h = ap (hear_line (λ rest. turned_after no_answer_text (hear k patience rest)) (spoken k bytes).rest) h

cut_tells : (k : ℕ) (patience : ℕ) (bytes : List ℕ) (now written written' : Option (List ℕ)) (told : Told) → Speaks k (Some bytes) now None → CutsOff no_answer_text written written' told → Tells (hear k (suc patience) bytes) written now written' told
cut_tells k patience bytes now written written' Yes h cut = absurd cut
cut_tells k patience bytes now written written' No h cut = absurd cut
cut_tells k patience bytes now written written' Back h cut = absurd cut
cut_tells k patience bytes now written written' Stop h cut = absurd cut
cut_tells k patience bytes now written written' End h cut = absurd cut
cut_tells k patience bytes now written written' TooLong h cut = absurd cut
cut_tells k patience bytes now written written' Unreadable h cut = absurd cut
cut_tells k patience bytes now written written' ReadFault h cut = absurd cut
cut_tells k patience bytes now written written' WriteFault h cut =
    let so = spoken_so k bytes now None h in
    let more : List ℕ = (hear k patience (spoken k bytes).rest).text in
    let Fronts : List ℕ → Type 0 = AddsFront written written' in
    subst Fronts (sym (ap (λ (t : Turned). t.text) (hear_more k patience bytes so.0))) (front_longer written written' no_answer_text more cut)
cut_tells k patience bytes now written written' Memory h cut = front_none written written' (hear k (suc patience) bytes).text cut

passing_tells : (k : ℕ) (patience : ℕ) (left now written written' : Option (List ℕ)) (told : Told) → Speaks k left now None → CutsOff no_answer_text written written' told → TellsOf k (suc patience) left written now written' told
passing_tells k patience left now written written' told h cut bytes is =
    let P : Option (List ℕ) → Type 0 = λ o. Speaks k o now None in cut_tells k patience bytes now written written' told (subst P is h) cut

pub maybe_tells : (k : ℕ) (left now written written' : Option (List ℕ)) (end : Option Told) → Speaks k left now None → IfSome end (CutsOff no_answer_text written written') →
    IfSome end (λ told. (patience : ℕ) → TellsOf k (suc patience) left written now written' told)
maybe_tells k left now written written' None h cut = tt
maybe_tells k left now written written' (Some told) h cut = λ patience. passing_tells k patience left now written written' told h cut

-- ---- many lines

-- another text was added before
turn_after : (text : List ℕ) (turned : Turned) (written before left' written' : Option (List ℕ)) (reply : Reply) → Adds written before text → IsTurnOf turned before left' written' reply → IsTurnOf (turned_after text turned) written left' written' reply
turn_after text turned written before left' written' reply adds t = record { heard = t.heard; rest = t.rest; text = adds_then written before written' text turned.text adds t.text }

pub tells_after : (text : List ℕ) (turned : Turned) (written before left' written' : Option (List ℕ)) (told : Told) → Adds written before text → Tells turned before left' written' told → Tells (turned_after text turned) written left' written' told
tells_after text turned written before left' written' Yes adds t = turn_after text turned written before left' written' (Said true) adds t
tells_after text turned written before left' written' No adds t = turn_after text turned written before left' written' (Said false) adds t
tells_after text turned written before left' written' Back adds t = turn_after text turned written before left' written' TakenBack adds t
tells_after text turned written before left' written' Stop adds t = turn_after text turned written before left' written' Stopped adds t
tells_after text turned written before left' written' End adds t = turn_after text turned written before left' written' Ended adds t
tells_after text turned written before left' written' TooLong adds t = turn_after text turned written before left' written' Overlong adds t
tells_after text turned written before left' written' Unreadable adds t = turn_after text turned written before left' written' Unread adds t
tells_after text turned written before left' written' ReadFault adds t = front_then written before written' text turned.text adds t
tells_after text turned written before left' written' WriteFault adds t = front_then written before written' text turned.text adds t
tells_after text turned written before left' written' Memory adds t = front_then written before written' text turned.text adds t

-- none was passed over yet
pub passed_none : (k : ℕ) (most : ℕ) (left written : Option (List ℕ)) → PassedBy k most 0 left written left written
passed_none k most left written bytes is = record {
  rest = bytes;
  done = [];
  left = is;
  put = adds_none written;
  begins = λ patience same. ap (λ n. hear k n bytes) (let e : most ≡ patience = omega (arith, same) in e);
}

-- one more
pub passed_more : (k : ℕ) (most count : ℕ) (left written left' written' left'' written'' : Option (List ℕ)) → PassedBy k most count left written left' written' → Passes k left' written' left'' written'' → PassedBy k most (count + 1) left written left'' written''
passed_more k most count left written left' written' left'' written'' passed one bytes is =
    let p = passed bytes is in let o = one p.rest p.left in
    record {
      rest = (spoken k p.rest).rest;
      done = p.done ++ no_answer_text;
      left = o.left;
      put = adds_then written written' written'' p.done no_answer_text p.put o.put;
      begins = λ patience same.
          p.begins (suc patience) (omega (arith, same))
          ∙ ap (turned_after p.done) (hear_more k patience p.rest o.says)
          ∙ ap (λ (x : List ℕ). let t : Turned = record { text = x; heard = (hear k patience (spoken k p.rest).rest).heard } in t) (sym (append_assoc p.done no_answer_text (hear k patience (spoken k p.rest).rest).text));
    }

-- what is told after them
pub passed_tells : (k : ℕ) (most count patience : ℕ) (left written left' written' left'' written'' : Option (List ℕ)) (told : Told) → patience + count ≡ most → PassedBy k most count left written left' written' →
    TellsOf k patience left' written' left'' written'' told → TellsOf k most left written left'' written'' told
passed_tells k most count patience left written left' written' left'' written'' told same passed tells bytes is =
    let p = passed bytes is in
    let P : Turned → Type 0 = λ t. Tells t written left'' written'' told in
    subst P (sym (p.begins patience same)) (tells_after p.done (hear k patience p.rest) written written' left'' written'' told p.put (tells p.rest p.left))

-- ---- no bytes

at_end : (k : ℕ) → (spoken k []).says ≡ Some Ended
unfolding line_of
at_end k = refl

-- where none are left nothing is said of lines
pub silent : (k : ℕ) (patience : ℕ) → (hear k patience []).text ≡ []
silent k patience = ap (λ (t : Turned). t.text) (hear_reply k patience [] Ended (at_end k))
