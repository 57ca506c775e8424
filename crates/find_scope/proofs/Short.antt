-- How many replies a run takes.
use Rattle.find_scope.proofs.Prelude.{◌≡◌, ℕ, zero, suc, ◌+◌, ◌*◌, ◌<◌, ◌≤◌, Bool, true, false, not, List, [], ◌∷◌, length, refl, sym, ◌∙◌, ap, arith, union, first_half, second_half, Halved, Wants, Got, then_got, is_empty, halve_within, RunsAreShort}
use Rattle.find_scope.proofs.Halves.{depth_is_enough, first_shorter, second_shorter, asked}
use Rattle.find_scope.proofs.Runs.{got_then, wants_last, wants_not_got, same_left}
use Rattle.find_scope.proofs.Got.{first_some, second_some}
use Rattle.find_scope.proofs.Counts.{halves_length, deep}

short_asked : (d : ℕ) (base set : List ℕ) (asks : Bool) (replies : List Bool) (s : List ℕ) (left : List Bool) → 0 < length set → halve_within d base set asks replies ≡ Got s left →
    ((rest : List Bool) → halve_within d base set false rest ≡ Got s left → length rest + 2 ≤ 2 * length set + length left) → length replies + 1 ≤ 2 * length set + length left
short_asked d base set false replies s left some h f = let few = f replies h in omega arith
short_asked d base set true [] s left some h f = absurd (wants_not_got base s left (sym (asked d base set []) ∙ h))
short_asked d base set true (false ∷ replies) s left some h f = let rest : left ≡ replies = same_left [] s replies left (sym (asked d base set (false ∷ replies)) ∙ h) in omega (arith, ap length rest)
short_asked d base set true (true ∷ replies) s left some h f = let few = f replies (sym (asked d base set (true ∷ replies)) ∙ h) in omega arith

short : (d : ℕ) (base set : List ℕ) (replies : List Bool) (s : List ℕ) (left : List Bool) → length set < d → 0 < length set → halve_within d base set false replies ≡ Got s left →
    length replies + 2 ≤ 2 * length set + length left
unfolding halve_within
short zero base set replies s left low some h = absurd (omega arith)
short (suc d) base [] replies s left low some h = absurd (omega arith)
short (suc d) base (v ∷ []) replies s left low some h = let same : left ≡ replies = same_left (v ∷ []) s replies left h in omega (arith, ap length same)
short (suc d) base (v ∷ w ∷ set) replies s left low some h =
    let one = got_then (halve_within d (union base first) second true replies) _ s left h in
    let two = got_then (halve_within d (union base one.0) first (not (is_empty one.0)) one.1) _ s left one.3 in
    let c1 = short_asked d (union base first) second true replies one.0 one.1 (second_some v w set) one.2
    (λ rest e. short d (union base first) second rest one.0 one.1 (omega (arith, second_shorter v w set)) (second_some v w set) e) in
    let c2 = short_asked d (union base one.0) first (not (is_empty one.0)) one.1 two.0 two.1 (first_some v w set) two.2
    (λ rest e. short d (union base one.0) first rest two.0 two.1 (omega (arith, first_shorter v w set)) (first_some v w set) e) in
    let rest : left ≡ two.1 = same_left (union one.0 two.0) s two.1 left two.3 in
    omega (arith, halves_length v w set, ap length rest)
  where
    first : List ℕ
    first = first_half (v ∷ w ∷ set)

    second : List ℕ
    second = second_half (v ∷ w ∷ set)

open_asked : (d : ℕ) (base set : List ℕ) (asks : Bool) (replies : List Bool) (w : List ℕ) → 0 < length set → halve_within d base set asks replies ≡ Wants w →
    ((rest : List Bool) → halve_within d base set false rest ≡ Wants w → length rest + 3 ≤ 2 * length set) → length replies + 2 ≤ 2 * length set
open_asked d base set false replies w some h f = let few = f replies h in omega arith
open_asked d base set true [] w some h f = omega arith
open_asked d base set true (false ∷ replies) w some h f = absurd (wants_not_got w [] replies (sym h ∙ asked d base set (false ∷ replies)))
open_asked d base set true (true ∷ replies) w some h f = let few = f replies (sym (asked d base set (true ∷ replies)) ∙ h) in omega arith

open_short : (d : ℕ) (base set : List ℕ) (replies : List Bool) (w : List ℕ) → length set < d → halve_within d base set false replies ≡ Wants w → length replies + 3 ≤ 2 * length set
unfolding halve_within
open_short zero base set replies w low h = absurd (omega arith)
open_short (suc d) base [] replies w low h = absurd (wants_not_got w [] replies (sym h))
open_short (suc d) base (v ∷ []) replies w low h = absurd (wants_not_got w (v ∷ []) replies (sym h))
open_short (suc d) base (v ∷ u ∷ set) replies w low h =
    go (halve_within d (union base first) second true replies) refl h
    (λ e. open_asked d (union base first) second true replies w (second_some v u set) e (λ rest f. open_short d (union base first) second rest w high f))
    (λ s1 left1 e. open_asked d (union base s1) first (not (is_empty s1)) left1 w (first_some v u set) e (λ rest f. open_short d (union base s1) first rest w less f))
  where
    first : List ℕ
    first = first_half (v ∷ u ∷ set)

    second : List ℕ
    second = second_half (v ∷ u ∷ set)

    high : length second < d
    high = omega (arith, second_shorter v u set)

    less : length first < d
    less = omega (arith, first_shorter v u set)

    last : List ℕ → List Bool → Halved
    last found left = then_got (halve_within d (union base found) first (not (is_empty found)) left) (λ more last. Got (union found more) last)

    go : (x : Halved) → halve_within d (union base first) second true replies ≡ x → then_got x last ≡ Wants w →
        (halve_within d (union base first) second true replies ≡ Wants w → length replies + 2 ≤ 2 * length second) →
        ((s1 : List ℕ) (left1 : List Bool) → halve_within d (union base s1) first (not (is_empty s1)) left1 ≡ Wants w → length left1 + 2 ≤ 2 * length first) →
        length replies + 3 ≤ 2 * length (v ∷ u ∷ set)
    go (Wants w1) at e ih1 ih2 = let c = ih1 (at ∙ e) in omega (arith, halves_length v u set, first_some v u set)
    go (Got s1 left1) at e ih1 ih2 =
        let c1 = short_asked d (union base first) second true replies s1 left1 (second_some v u set) at
        (λ rest f. short d (union base first) second rest s1 left1 high (second_some v u set) f) in
        let c2 = ih2 s1 left1 (wants_last _ s1 w e) in
        omega (arith, halves_length v u set)

pub runs_are_short : RunsAreShort
runs_are_short = record {
  open_run = λ set replies wanted h. open_short (suc (length set)) [] set replies wanted (omega arith) (deep set replies ∙ h);
  ended = λ set replies found left some h. short (suc (length set)) [] set replies found left (omega arith) some (deep set replies ∙ h);
}
