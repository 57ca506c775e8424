-- How many questions a halving asks at most, so that the quiet replies come to an end.
use Rattle.session_laws.proofs.Prelude.{◌≡◌, ℕ, zero, suc, ◌+◌, ◌*◌, ◌-◌, ◌/◌, ◌≤◌, Bool, true, false, cond, not, List, [], ◌∷◌, ◌++◌, length, refl, ◌∙◌, arith, inl, inr, ◌⊎◌, length-take, length-drop, length-append, Candidate, Assignment, Language, union, first_half, second_half, Halved, Wants, Got, then_got, ask, is_empty, halve_within, halve, is_quiet, with_quiet_replies, FuelIsEnough}

-- so many replies fit below a bound: a want leaves room for one more, and what is got has used no more than the bound
abbrev Fits : ℕ → ℕ → Halved → Type 0
Fits r most (Wants w) = suc r ≤ most
Fits r most (Got s left) = r ≤ length left + most

-- one question more, where there is one
abbrev one_more : Bool → ℕ → ℕ
one_more true most = suc most
one_more false most = most

fits_weaker : (r b c : ℕ) (h : Halved) → b ≤ c → Fits r b h → Fits r c h
fits_weaker r b c (Wants w) low fits = omega arith
fits_weaker r b c (Got s left) low fits = omega arith

fits_suc : (r b : ℕ) (h : Halved) → Fits r b h → Fits (suc r) (suc b) h
fits_suc r b (Wants w) fits = omega arith
fits_suc r b (Got s left) fits = omega arith

fits_ask : (asks : Bool) (base : List ℕ) (replies : List Bool) (next : List Bool → Halved) (b : ℕ) → ((rest : List Bool) → Fits (length rest) b (next rest)) →
    Fits (length replies) (one_more asks b) (ask asks base replies next)
fits_ask false base replies next b h = h replies
fits_ask true base [] next b h = omega arith
fits_ask true base (false ∷ replies) next b h = omega arith
fits_ask true base (true ∷ replies) next b h = fits_suc (length replies) b (next replies) (h replies)

fits_then : (h : Halved) (next : List ℕ → List Bool → Halved) (r b c : ℕ) → Fits r b h → ((s : List ℕ) (left : List Bool) → Fits (length left) c (next s left)) → Fits r (b + c) (then_got h next)
fits_then (Wants w) next r b c fits more = omega arith
fits_then (Got s left) next r b c fits more = go (next s left) (more s left)
  where
    go : (x : Halved) → Fits (length left) c x → Fits r (b + c) x
    go (Wants w) h = omega arith
    go (Got s' left') h = omega arith

one_more_most : (asks : Bool) (b : ℕ) → one_more asks b ≤ suc b
one_more_most true b = omega arith
one_more_most false b = omega arith

fits : (d : ℕ) (base set : List ℕ) (asks : Bool) (replies : List Bool) → 1 ≤ length set → Fits (length replies) (one_more asks (2 * length set - 2)) (halve_within d base set asks replies)
unfolding halve_within
fits d base [] asks replies some = absurd (omega arith)
fits zero base (v ∷ []) asks replies some = fits_ask asks base replies _ _ (λ rest. omega arith)
fits (suc d) base (v ∷ []) asks replies some = fits_ask asks base replies _ _ (λ rest. omega arith)
fits zero base (v ∷ w ∷ set) asks replies some = fits_ask asks base replies _ _ (λ rest. omega arith)
fits (suc d) base (v ∷ w ∷ set) asks replies some =
    let first : List ℕ = first_half (v ∷ w ∷ set) in
    let second : List ℕ = second_half (v ∷ w ∷ set) in
    let low : length first ≡ (length (v ∷ w ∷ set) + 1) / 2 = length-take ((length (v ∷ w ∷ set) + 1) / 2) (v ∷ w ∷ set) ∙ omega arith in
    let high : length second ≡ length (v ∷ w ∷ set) - (length (v ∷ w ∷ set) + 1) / 2 = length-drop ((length (v ∷ w ∷ set) + 1) / 2) (v ∷ w ∷ set) in
    fits_ask asks base replies _ _ (λ rest.
    fits_weaker (length rest) (suc (2 * length second - 2) + suc (2 * length first - 2)) (2 * length (v ∷ w ∷ set) - 2) _ (omega arith)
    (fits_then (halve_within d (union base first) second true rest) _ (length rest) (suc (2 * length second - 2)) (suc (2 * length first - 2))
    (fits d (union base first) second true rest (omega arith)) (λ found left.
    fits_weaker (length left) (one_more (not (is_empty found)) (2 * length first - 2) + 0) (suc (2 * length first - 2)) _ (let most = one_more_most (not (is_empty found)) (2 * length first - 2) in omega arith)
    (fits_then (halve_within d (union base found) first (not (is_empty found)) left) _ (length left) (one_more (not (is_empty found)) (2 * length first - 2)) 0
    (fits d (union base found) first (not (is_empty found)) left (omega arith)) (λ more last. omega arith)))))

-- what a quiet halving says of the number of replies
quiet_short : (l : Language) (live : List Candidate) (e : Assignment) (set : List ℕ) (replies : List Bool) → is_quiet l live e (halve set replies) ≡ true → suc (length replies) ≤ 2 * length set
unfolding halve_within
quiet_short l live e [] replies quiet = cc
quiet_short l live e (v ∷ set) replies quiet = go (halve (v ∷ set) replies) quiet (fits (length (v ∷ set)) [] (v ∷ set) false replies (omega arith))
  where
    go : (h : Halved) → is_quiet l live e h ≡ true → Fits (length replies) (2 * length (v ∷ set) - 2) h → suc (length replies) ≤ 2 * length (v ∷ set)
    go (Wants w) quiet fits = omega arith
    go (Got s left) quiet fits = cc

quiet_or_long : (l : Language) (live : List Candidate) (e : Assignment) (set : List ℕ) (most : ℕ) (replies : List Bool) →
    (is_quiet l live e (halve set (with_quiet_replies l live e set most replies)) ≡ false) ⊎ (length (with_quiet_replies l live e set most replies) ≡ length replies + most)
unfolding with_quiet_replies
quiet_or_long l live e set zero replies = inr (omega arith)
quiet_or_long l live e set (suc most) replies = go (is_quiet l live e (halve set replies)) refl (quiet_or_long l live e set most (replies ++ true ∷ []))
  where
    more : List Bool
    more = with_quiet_replies l live e set most (replies ++ true ∷ [])

    go : (b : Bool) → is_quiet l live e (halve set replies) ≡ b → (is_quiet l live e (halve set more) ≡ false) ⊎ (length more ≡ length (replies ++ true ∷ []) + most) →
        (is_quiet l live e (halve set (cond b more replies)) ≡ false) ⊎ (length (cond b more replies) ≡ length replies + suc most)
    go true e (inl done) = inl done
    go true e (inr long) = inr (omega (arith, length-append replies (true ∷ [])))
    go false e rest = inl e

pub fuel_is_enough : FuelIsEnough
fuel_is_enough l live e set replies = go (is_quiet l live e (halve set all)) refl (quiet_or_long l live e set (2 * length set) replies)
  where
    all : List Bool
    all = with_quiet_replies l live e set (2 * length set) replies

    go : (b : Bool) → is_quiet l live e (halve set all) ≡ b → (is_quiet l live e (halve set all) ≡ false) ⊎ (length all ≡ length replies + 2 * length set) → is_quiet l live e (halve set all) ≡ false
    go false e rest = e
    go true e (inl done) = done
    go true e (inr long) = absurd (let short = quiet_short l live _ set all e in omega arith)
