use Rattle.acq_loop.proofs.Prelude.{◌≡◌, ◌⊎◌, ◌∙◌, ℕ, List, length, true, false, Some, ap, sym, subst, refl, inl, inr, Answer, Event, Language, standing_on, Turns, Point, Drives, IsPending, is_unasked, Closing, Converged, Collapsed, Undecided, Ends, Puts, next_after, Terms, Drove}
use Rattle.acq_loop.proofs.Short.{IsFull}
use Rattle.acq_loop.specs.declared.driving.Drove.TheVariants as drove
use Rattle.acq_loop.proofs.laws.endings_exclude.Goals as goal

-- the end that comes without a question, after so many answers
abbrev end_at : Closing → ℕ → Drove
end_at Converged m = drove.Converged m
end_at Collapsed m = drove.Collapsed m
end_at Undecided m = drove.Undecided m
end_at closing m = drove.Memory

-- no question comes after these answers, and it ends as that says; or one comes, and it doesn't
record IsUnasked (l : Language) (terms : Terms) (t : List Answer) (how : Drove) : Type 0 where
  pub closing : Closing
  pub ends : next_after l terms t ≡ Some (Ends closing)
  pub is : how ≡ end_at closing (length t)

record IsAsked (l : Language) (terms : Terms) (t : List Answer) (how : Drove) : Type 0 where
  pub pending : IsPending l terms t
  pub asked : is_unasked how ≡ false

module _ (turns : Turns) (l : Language) (terms : Terms) (a b : Point) where
  abbrev Ended : Drove → Type 0
  Ended how = IsUnasked l terms (standing_on l b.events) how ⊎ IsAsked l terms (standing_on l b.events) how

  ended : (how : Drove) → Drives turns l terms a b how → Ended how
  ended (drove.Converged m) drives = inl (record { closing = Converged; ends = drives.says.found.ends; is = ap drove.Converged drives.says.number })
  ended (drove.Collapsed m) drives = inl (record { closing = Collapsed; ends = drives.says.found.ends; is = ap drove.Collapsed drives.says.number })
  ended (drove.Undecided m) drives = inl (record { closing = Undecided; ends = drives.says.found.ends; is = ap drove.Undecided drives.says.number })
  ended drove.ReadFault drives = inr (record { pending = drives.pending refl; asked = refl })
  ended drove.WriteFault drives = inr (record { pending = drives.pending refl; asked = refl })
  ended drove.DiskFault drives = inr (record { pending = drives.pending refl; asked = refl })
  ended drove.Memory drives = inr (record { pending = drives.pending refl; asked = refl })
  ended how drives = inr (record { pending = drives.says.found; asked = refl })

-- of the same answers only one of these is true
one_end : (l : Language) (terms : Terms) (t : List Answer) (how other : Drove) → IsUnasked l terms t how ⊎ IsAsked l terms t how → IsUnasked l terms t other ⊎ IsAsked l terms t other → is_unasked how ≡ true → other ≡ how
one_end l terms t how other (inl one) (inl two) is =
    let both : Some (Ends two.closing) ≡ Some (Ends one.closing) = sym two.ends ∙ one.ends in
    let same : two.closing ≡ one.closing = cc in
    two.is ∙ ap (λ (closing : Closing). end_at closing (length t)) same ∙ sym one.is
one_end l terms t how other (inl one) (inr two) is =
    let both : Some (Ends one.closing) ≡ Some (Puts two.pending.0) = sym one.ends ∙ two.pending.1 in
    absurd (let no : ⊥ = cc in no)
one_end l terms t how other (inr one) two is = let bad : true ≡ false = sym is ∙ one.asked in absurd (let no : ⊥ = cc in no)

pub returns : goal.returns
returns c = record {
  unasked = λ turns others l terms a b x d how other first second same is.
      let There : List Answer → Type 0 = λ t. IsUnasked l terms t other ⊎ IsAsked l terms t other in
      one_end l terms (standing_on l b.events) how other (ended turns l terms a b how first) (subst There same (ended others l terms x d other second)) is;
  full = λ turns others l terms a b x d how other first second same is.
      let Full : List Event → Type 0 = IsFull l terms in
      second.full.1 (subst Full (sym same) (first.full.0 is));
}
