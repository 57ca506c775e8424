-- The moves of a run, as equations of what it has left to do, and the frames that they need.
use Rattle.find_scope.proofs.Prelude.{◌≡◌, ℕ, zero, suc, ◌+◌, ◌-◌, ◌/◌, ◌^◌, ◌<◌, ◌≤◌, Bool, true, false, ◌||◌, ◌&&◌, not, List, [], ◌∷◌, ◌++◌, length, refl, sym, ◌∙◌, ap, subst, arith, append_assoc, append-nil, length-take, length-drop, pow-suc, pow-zero, IsSet, has, union, minus, first_half, second_half, set_where-same, rises_where, rises_take, rises_drop, canonical, Frame, ThenFirst, Joins, Halved, Wants, Got, then_got, is_empty, halve_within, halve, Run, finish, halve_then, meaning, AreFit, Fits}
use Rattle.find_scope.specs.declared.run.ScopeNext.{ScopeNext}
use Rattle.find_scope.specs.declared.run.ScopeNext.TheVariants.{Wants as WantsNext, Found}
use Rattle.find_scope.specs.Standing.{halved_after, StandsFor, StandingTells}
use Rattle.find_scope.proofs.Halves.{depth_is_enough, first_shorter, second_shorter, then_got_assoc, then_got_same, asked}
use Rattle.find_scope.proofs.Runs.{has_halves}
use Rattle.find_scope.proofs.Got.{some_right, got_rises}
use Rattle.find_scope.proofs.Counts.{halves_apart}
use Rattle.std.proofs.Math.Bool.{or-false}

-- ---- sets

pub minus_first : (set : List ℕ) → IsSet set → minus set (first_half set) ≡ second_half set
minus_first set r =
    set_where-same _ _ (λ v low. left (has set v) (has (first_half set) v) (has (second_half set) v) (sym (has_halves set v)) (λ a b. halves_apart 0 _ set v r a b))
    ∙ canonical (second_half set) (rises_drop 0 _ set r)
  where
    left : (a b c : Bool) → a ≡ (b || c) → (b ≡ true → c ≡ true → ⊥) → (a && not b) ≡ c
    left a true true e apart = absurd (apart refl refl)
    left a true false e apart = ap (λ x. x && false) e
    left a false true e apart = ap (λ x. x && true) e
    left a false false e apart = ap (λ x. x && true) e

pub union_none : (set : List ℕ) → IsSet set → union set [] ≡ set
union_none set r = set_where-same _ _ (λ v low. or-false (has set v)) ∙ canonical set r

pub none_union : (set : List ℕ) → IsSet set → union [] set ≡ set
none_union set r = set_where-same _ _ (λ v low. refl) ∙ canonical set r

pub is_none : (set : List ℕ) → length set ≤ 0 → set ≡ []
is_none [] h = refl
is_none (x ∷ set) h = absurd (omega arith)

-- ---- moves

pub waits : (run : Run) → meaning run [] ≡ Wants run.base
unfolding meaning
waits run = ap (λ x. then_got x (finish run.frames)) (asked (length run.set) run.base run.set [])

pub denied : (run : Run) (more : List Bool) → meaning run (false ∷ more) ≡ finish run.frames [] more
unfolding meaning
denied run more = ap (λ x. then_got x (finish run.frames)) (asked (length run.set) run.base run.set (false ∷ more))

pub passed : (run : Run) (more : List Bool) → meaning run (true ∷ more) ≡ halve_then run.frames run.base run.set false more
unfolding meaning
passed run more = ap (λ x. then_got x (finish run.frames)) (asked (length run.set) run.base run.set (true ∷ more))

pub halves_one : (frames : List Frame) (base set : List ℕ) (replies : List Bool) → length set ≤ 1 → halve_then frames base set false replies ≡ finish frames set replies
unfolding halve_within
halves_one frames base [] replies h = refl
halves_one frames base (v ∷ []) replies h = refl
halves_one frames base (v ∷ w ∷ set) replies h = absurd (omega arith)

-- a run that halves the second half first
abbrev pub second_first : List Frame → List ℕ → List ℕ → Run
second_first frames base set = record { base = union base (first_half set); set = second_half set; frames = ThenFirst base (first_half set) ∷ frames }

pub halves_two : (frames : List Frame) (base set : List ℕ) (replies : List Bool) → 1 < length set → meaning (second_first frames base set) replies ≡ halve_then frames base set false replies
unfolding meaning halve_within finish
halves_two frames base [] replies h = absurd (omega arith)
halves_two frames base (v ∷ []) replies h = absurd (omega arith)
halves_two frames base (v ∷ w ∷ set) replies h =
    then_got_same _ _ _ _ (depth_is_enough (length second) (suc (length set)) (union base first) second true replies (omega arith) (second_shorter v w set)) (λ found left.
    then_got_same _ _ _ _ (depth_is_enough (length first) (suc (length set)) (union base found) first (not (is_empty found)) left (omega arith) (first_shorter v w set)) (λ more last. refl)
    ∙ sym (then_got_assoc (halve_within (suc (length set)) (union base found) first (not (is_empty found)) left) (λ more last. Got (union found more) last) (finish frames)))
    ∙ sym (then_got_assoc (halve_within (suc (length set)) (union base first) second true replies)
    (λ found left. then_got (halve_within (suc (length set)) (union base found) first (not (is_empty found)) left) (λ more last. Got (union found more) last)) (finish frames))
  where
    first : List ℕ
    first = first_half (v ∷ w ∷ set)

    second : List ℕ
    second = second_half (v ∷ w ∷ set)

pub joins : (frames : List Frame) (before found : List ℕ) (replies : List Bool) → finish (Joins before ∷ frames) found replies ≡ finish frames (union before found) replies
unfolding finish
joins frames before found replies = refl

-- something was found, so the first half is asked about
pub found_some : (frames : List Frame) (base first found : List ℕ) (replies : List Bool) → 0 < length found →
    meaning (record { base = union base found; set = first; frames = Joins found ∷ frames }) replies ≡ finish (ThenFirst base first ∷ frames) found replies
unfolding meaning finish
found_some frames base first [] replies h = absurd (omega arith)
found_some frames base first (x ∷ found) replies h = refl

then_got_at : (x : Halved) (f g : List ℕ → List Bool → Halved) → ((s : List ℕ) (r : List Bool) → x ≡ Got s r → f s r ≡ g s r) → then_got x f ≡ then_got x g
then_got_at (Wants w) f g h = refl
then_got_at (Got s r) f g h = h s r refl

-- nothing was found, so the first half is halved alone
pub found_none : (frames : List Frame) (base first found : List ℕ) (replies : List Bool) → IsSet base → IsSet first → found ≡ [] →
    halve_then frames base first false replies ≡ finish (ThenFirst base first ∷ frames) found replies
unfolding finish
found_none frames base first found replies r s none =
    then_got_at (halve_within (length first) base first false replies) (finish frames) (λ more left. finish frames (union [] more) left)
    (λ more left e. ap (λ xs. finish frames xs left) (sym (none_union more (rises more left e))))
    ∙ ap (λ b. then_got (halve_within (length first) b first false replies) (λ more left. finish frames (union [] more) left)) (sym (union_none base r))
    ∙ ap (λ xs. finish (ThenFirst base first ∷ frames) xs replies) (sym none)
  where
    rises : (more : List ℕ) (left : List Bool) → halve_within (length first) base first false replies ≡ Got more left → IsSet more
    rises more left e = got_rises (suc (length first)) base first false replies more left (omega arith) s
        (depth_is_enough (suc (length first)) (length first) base first false replies (omega arith) (omega arith) ∙ e)

-- ---- frames

pub half_room : (n size : ℕ) → n ≤ 7 → 1 < size → size ≤ 2 ^ (7 - n) → (n < 7) × ((size + 1) / 2 ≤ 2 ^ (7 - (n + 1)))
half_room n size low many fits = go (7 - n) refl fits
  where
    go : (m : ℕ) → 7 - n ≡ m → size ≤ 2 ^ m → (n < 7) × ((size + 1) / 2 ≤ 2 ^ (7 - (n + 1)))
    go zero e f = absurd (omega (arith, pow-zero 2))
    go (suc m) e f = (omega arith, subst (λ (k : ℕ). (size + 1) / 2 ≤ 2 ^ k) (let next : m ≡ 7 - (n + 1) = omega arith in next) (omega (arith, pow-suc 2 m)))

pub more_room : (n size : ℕ) → n < 7 → size ≤ 2 ^ (7 - (n + 1)) → size ≤ 2 ^ (7 - n)
more_room n size low fits = subst (λ (k : ℕ). size ≤ 2 ^ k) (let next : suc (7 - (n + 1)) ≡ 7 - n = omega arith in next) (omega (arith, pow-suc 2 (7 - (n + 1))))

pub halves_fit : (frames : List Frame) (base set : List ℕ) → IsSet base → 1 < length set → Fits set frames → AreFit frames →
    Fits (second_half set) (ThenFirst base (first_half set) ∷ frames) × AreFit (ThenFirst base (first_half set) ∷ frames)
halves_fit frames base set r many fits fit =
    let low : length frames ≤ 7 = fits.0 in
    let room = half_room (length frames) (length set) low many fits.1 in
    let below : length frames < 7 = room.0 in
    let small : (length set + 1) / 2 ≤ 2 ^ (7 - (length frames + 1)) = room.1 in (
      (omega arith, subst (λ (k : ℕ). length (second_half set) ≤ 2 ^ (7 - k)) (let next : length frames + 1 ≡ suc (length frames) = omega arith in next) (omega (arith, length-drop ((length set + 1) / 2) set))),
      (r, below, omega (arith, length-take ((length set + 1) / 2) set), fit),
    )

-- what holds of a run
abbrev pub Holds : Run → Type 0
Holds run = IsSet run.base × (0 < length run.base) × Fits run.set run.frames × AreFit run.frames

pub split_holds : (frames : List Frame) (base set : List ℕ) → IsSet base → IsSet set → 1 < length set → Fits set frames → AreFit frames → Holds (second_first frames base set)
split_holds frames base set r s many fits fit =
    let parts = halves_fit frames base set r many fits fit in
    (rises_where _, some_right base (first_half set) (rises_take 0 _ set s) (omega (arith, length-take ((length set + 1) / 2) set)), parts.0, parts.1)

pub found_holds : (frames : List Frame) (base first found : List ℕ) → IsSet found → 0 < length found → AreFit (ThenFirst base first ∷ frames) →
    Holds (record { base = union base found; set = first; frames = Joins found ∷ frames })
found_holds frames base first found r some (known, below, small, fit) =
    (rises_where _, some_right base found r some, (omega arith, subst (λ (k : ℕ). length first ≤ 2 ^ (7 - k)) (let next : length frames + 1 ≡ suc (length frames) = omega arith in next) small), fit)

-- ---- standing

pub stands_waiting : (run : Run) (set : List ℕ) (replies : List Bool) → StandsFor (WantsNext run) set replies → halve set replies ≡ Wants run.base
stands_waiting run set replies h = ap (halve set) (sym (append-nil replies)) ∙ h [] ∙ waits run

pub stands_after : (run : Run) (next : ScopeNext) (reply : Bool) → ((more : List Bool) → halved_after next more ≡ meaning run (reply ∷ more)) →
    (set : List ℕ) (replies : List Bool) → StandsFor (WantsNext run) set replies → StandsFor next set (replies ++ reply ∷ [])
stands_after run next reply e set replies h = λ more. ap (halve set) (append_assoc replies (reply ∷ []) more) ∙ h (reply ∷ more) ∙ sym (e more)

pub ends : (set : List ℕ) (replies : List Bool) → halve_then [] [] set false replies ≡ halve set replies
unfolding finish
ends set replies = whole (halve set replies)
  where
    whole : (x : Halved) → then_got x Got ≡ x
    whole (Wants w) = refl
    whole (Got s r) = refl

now : (next : ScopeNext) (set : List ℕ) (replies : List Bool) → StandsFor next set replies → halve set replies ≡ halved_after next []
now next set replies h = ap (halve set) (sym (append-nil replies)) ∙ h []

pub standing_tells : StandingTells
standing_tells = record {
  found = λ set found replies h. now (Found found) set replies h;
  got = got;
  waits = stands_waiting;
  wanted = wanted;
}
  where
    got : (next : ScopeNext) (set found : List ℕ) (replies : List Bool) → StandsFor next set replies → halve set replies ≡ Got found [] → next ≡ Found found
    got (Found s) set found replies h e = let same : Got s [] ≡ Got found [] = sym (now (Found s) set replies h) ∙ e in let equal : s ≡ found = cc in ap Found equal
    got (WantsNext run) set found replies h e = let other : Wants run.base ≡ Got found [] = sym (stands_waiting run set replies h) ∙ e in absurd (let no : ⊥ = cc in no)

    wanted : (next : ScopeNext) (set w : List ℕ) (replies : List Bool) → StandsFor next set replies → halve set replies ≡ Wants w →
        (run : Run) × (next ≡ WantsNext run) × (run.base ≡ w)
    wanted (Found s) set w replies h e = let other : Got s [] ≡ Wants w = sym (now (Found s) set replies h) ∙ e in absurd (let no : ⊥ = cc in no)
    wanted (WantsNext run) set w replies h e = let same : Wants run.base ≡ Wants w = sym (stands_waiting run set replies h) ∙ e in let equal : run.base ≡ w = cc in (run, refl, equal)
