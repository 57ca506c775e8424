-- Where a telling apart stands tells what is chosen.
use Rattle.find_c.proofs.Prelude.{◌≡◌, ℕ, List, [], Some, None, refl, sym, ◌∙◌, ap, inl, inr, append-nil, Candidate, Language, Choice, Chosen, Got, choose, WantsReply, scene_of, TellingRun, LeavesChoices, IsTold, RelStandingTells, chosen_after, RelNext, Nothing, Wants, Found, Free}
use Rattle.find_c.proofs.Replies.{choose_wants}

told_so : (l : Language) (s : ℕ) (left : List Choice) (told : Chosen) (next : RelNext) → chosen_after l next [] ≡ told → LeavesChoices l s left next → IsTold s told next
told_so l s left told Nothing e is = record {
  waits = λ run f. cc;
  wanted = λ tuple f. absurd (let none : Got None ≡ WantsReply tuple = e ∙ f in cc);
  found = λ c f. cc;
  got = λ r f. (let none : Got None ≡ Got (Some r) = e ∙ f in cc);
  free = λ f. cc;
  none = λ f. inr refl;
}
told_so l s left told (Wants run) e is = record {
  waits = λ other f. (let same : run ≡ other = cc in at ∙ ap (λ (r : TellingRun). WantsReply r.tuple) same);
  wanted = λ tuple f. (let both : WantsReply run.tuple ≡ WantsReply tuple = sym at ∙ f in (run, refl, cc));
  found = λ c f. cc;
  got = λ r f. (let none : WantsReply run.tuple ≡ Got (Some r) = sym at ∙ f in cc);
  free = λ f. cc;
  none = λ f. absurd (let none : WantsReply run.tuple ≡ Got None = sym at ∙ f in cc);
}
  where
    at : told ≡ WantsReply run.tuple
    at = sym e ∙ choose_wants (scene_of l run.scope) run.choices run.tuple is.sound.tuple
told_so l s left told (Found c) e is = record {
  waits = λ run f. cc;
  wanted = λ tuple f. absurd (let none : Got (Some c.rel) ≡ WantsReply tuple = e ∙ f in cc);
  found = λ d f. (let same : c ≡ d = cc in sym e ∙ ap (λ (x : Candidate). Got (Some x.rel)) same);
  got = λ r f. (let both : Got (Some c.rel) ≡ Got (Some r) = e ∙ f in let same : c.rel ≡ r = cc in λ i. Found (record { scope = is.scope i; rel = same i }));
  free = λ f. cc;
  none = λ f. absurd (let none : Got (Some c.rel) ≡ Got None = e ∙ f in cc);
}
told_so l s left told Free e is = record {
  waits = λ run f. cc;
  wanted = λ tuple f. absurd (let none : Got None ≡ WantsReply tuple = e ∙ f in cc);
  found = λ c f. cc;
  got = λ r f. (let none : Got None ≡ Got (Some r) = e ∙ f in cc);
  free = λ f. sym e;
  none = λ f. inl refl;
}

pub standing_tells : RelStandingTells
standing_tells l s choices left replies next stands is = told_so l s left _ next (stands [] ∙ ap (choose (scene_of l s) choices) (append-nil replies)) is
