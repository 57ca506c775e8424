-- The noes of a halving: quiet replies add none, and none is left where a set is got.
use Rattle.session_laws.proofs.Prelude.{◌≡◌, ℕ, zero, suc, Bool, true, false, cond, not, List, [], ◌∷◌, ◌++◌, refl, sym, ◌∙◌, ap, arith, inl, inr, ◌⊎◌, both_ways, Candidate, Assignment, Language, Halved, Wants, Got, halve, is_quiet, with_quiet_replies, sum_by-append, noes}
use Rattle.session_laws.proofs.LastReply.{nothing_at_first, nothing_after_last}

-- the last reply was wanted
abbrev pub IsLive : List ℕ → List Bool → Type 0
IsLive set replies = (replies ≡ []) ⊎ ((before : List Bool) × (r : Bool) × (replies ≡ before ++ r ∷ []) × (w : List ℕ) × (halve set before ≡ Wants w))

pub noes_yes : (replies : List Bool) → noes (replies ++ true ∷ []) ≡ noes replies
noes_yes replies = omega (arith, sum_by-append (λ r. cond (not r) 1 0) replies (true ∷ []))

pub noes_no : (replies : List Bool) → noes (replies ++ false ∷ []) ≡ suc (noes replies)
noes_no replies = omega (arith, sum_by-append (λ r. cond (not r) 1 0) replies (false ∷ []))

quiet_wants : (l : Language) (live : List Candidate) (e : Assignment) (h : Halved) → is_quiet l live e h ≡ true → (w : List ℕ) × (h ≡ Wants w)
quiet_wants l live e (Wants w) quiet = (w, refl)
quiet_wants l live e (Got s left) quiet = absurd (both_ways _ refl quiet)

pub quiet_counts : (l : Language) (live : List Candidate) (e : Assignment) (set : List ℕ) (most : ℕ) (replies : List Bool) → IsLive set replies →
    IsLive set (with_quiet_replies l live e set most replies) × (noes (with_quiet_replies l live e set most replies) ≡ noes replies)
unfolding with_quiet_replies
quiet_counts l live e set zero replies is = (is, refl)
quiet_counts l live e set (suc most) replies is = go (is_quiet l live e (halve set replies)) refl (quiet_counts l live e set most (replies ++ true ∷ []))
  where
    more : List Bool
    more = with_quiet_replies l live e set most (replies ++ true ∷ [])

    go : (b : Bool) → is_quiet l live e (halve set replies) ≡ b → (IsLive set (replies ++ true ∷ []) → IsLive set more × (noes more ≡ noes (replies ++ true ∷ []))) →
        IsLive set (cond b more replies) × (noes (cond b more replies) ≡ noes replies)
    go false loud rest = (is, refl)
    go true quiet rest =
        let wants = quiet_wants l live e (halve set replies) quiet in
        let done = rest (inr (replies, true, refl, wants.0, wants.1)) in
        (done.0, done.1 ∙ noes_yes replies)

pub nothing_left : (set : List ℕ) (replies : List Bool) (s : List ℕ) (left : List Bool) → IsLive set replies → halve set replies ≡ Got s left → noes left ≡ 0
nothing_left set replies s left (inl none) got = ap noes (nothing_at_first set s left (ap (halve set) (sym none) ∙ got))
nothing_left set replies s left (inr (before, r, is, w, wants)) got = ap noes (nothing_after_last set before r w s left wants (ap (halve set) (sym is) ∙ got))
