use Rattle.par_screen.proofs.Prelude.{◌≡◌, ◌∷◌, [], replicate, vec_len, All-append, Place, AllImplied, part_size}
use Rattle.par_screen.proofs.places.places_for.Goals as goal

pub returns-clause-made : goal.returns-clause-made
returns-clause-made c =
    All-append (λ (p : Place). vec_len p.marks ≡ part_size c.args.lang.now)
    (c.in_ok-first.first ∷ c.in_ok-first.second ∷ c.in_ok-first.third ∷ c.in_ok-first.fourth ∷ []) (c.in_ok-fifth.fifth ∷ c.in_ok-fifth.sixth ∷ c.in_ok-fifth.seventh ∷ c.in_ok-fifth.eighth ∷ [])
    c.in_ok-first.ensures.made c.in_ok-fifth.ensures.made

pub returns-clause-new : goal.returns-clause-new
returns-clause-new c =
    All-append (λ (p : Place). (p.marks.items ≡ replicate (part_size c.args.lang.now) 0) × (p.answer ≡ AllImplied))
    (c.in_ok-first.first ∷ c.in_ok-first.second ∷ c.in_ok-first.third ∷ c.in_ok-first.fourth ∷ []) (c.in_ok-fifth.fifth ∷ c.in_ok-fifth.sixth ∷ c.in_ok-fifth.seventh ∷ c.in_ok-fifth.eighth ∷ [])
    c.in_ok-first.ensures.new c.in_ok-fifth.ensures.new
