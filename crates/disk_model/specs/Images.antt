-- What one write or sync more does to the record of a file.
use Rattle.std.proofs.Common.{ℕ, ◌+◌, ◌-◌, ◌≤◌, ◌<◌, ◌≡◌, ◌⊎◌, List, [], ◌∷◌, ◌++◌, length, take}
use Rattle.std.proofs.Common.{drop, true, IsTrue, nat_le, refl, sym, ◌∙◌, ap, subst, inl, inr}
use Rattle.std.proofs.Common.{arith, append_assoc, take_all, length-append, length-drop}
use Rattle.std.proofs.Common.{length-take-le, take_at, drop_at, le-leb, leb-true}
use Rattle.std.proofs.lemmas.List.{take-append-le, drop-append-le, drop-drop}
use Rattle.std.proofs.lemmas.Bool.{and_parts, and_from}
use Rattle.disk_model.specs.declared.tape.Mark.{Mark}
use Rattle.disk_model.specs.declared.tape.Mark.TheVariants.{Write, Sync}
use Rattle.disk_model.specs.Disk.{Torn, Elapses}
use Rattle.disk_model.specs.Record.{Step, Wrote, Synced, put, content_after, CutShort, IsCut}
use Rattle.disk_model.specs.Record.{IsImage, are_within, steps_of, bytes_in, Leaves, LeftSince}

pub steps_of-write : (marks : List Mark) (written : List ℕ) (at n : ℕ) (bytes : List ℕ) →
    bytes_in marks ≡ length written → n ≡ length bytes →
    steps_of (marks ++ Write at n ∷ []) (written ++ bytes) ≡ steps_of marks written
    ++ Wrote at bytes ∷ []
steps_of-write [] [] at n bytes all size =
    ap (λ (b : List ℕ). Wrote at b ∷ []) (take_all n bytes (omega arith))
steps_of-write [] (w ∷ written) at n bytes all size = absurd (omega arith)
steps_of-write (Write a k ∷ marks) written at n bytes all size =
    let within : k ≤ length written = omega arith in
    let left : bytes_in marks ≡ length (drop k written) = omega (arith, length-drop k written) in
    (λ i. Wrote a (take-append-le k written bytes within i)
    ∷ steps_of (marks ++ Write at n ∷ []) (drop-append-le k written bytes within i))
    ∙ ap (λ (s : List Step).
    Wrote a (take k written) ∷ s) (steps_of-write marks (drop k written) at n bytes left size)
steps_of-write (Sync ∷ marks) written at n bytes all size =
    ap (λ (s : List Step). Synced ∷ s) (steps_of-write marks written at n bytes all size)

pub steps_of-sync : (marks : List Mark) (written : List ℕ) →
    steps_of (marks ++ Sync ∷ []) written ≡ steps_of marks written ++ Synced ∷ []
steps_of-sync [] written = refl
steps_of-sync (Write a k ∷ marks) written =
    ap (λ (s : List Step). Wrote a (take k written) ∷ s) (steps_of-sync marks (drop k written))
steps_of-sync (Sync ∷ marks) written =
    ap (λ (s : List Step). Synced ∷ s) (steps_of-sync marks written)

pub bytes_in-write : (marks : List Mark) (at n : ℕ) →
    bytes_in (marks ++ Write at n ∷ []) ≡ bytes_in marks + n
bytes_in-write [] at n = omega arith
bytes_in-write (Write a k ∷ marks) at n = omega (arith, bytes_in-write marks at n)
bytes_in-write (Sync ∷ marks) at n = bytes_in-write marks at n

pub bytes_in-sync : (marks : List Mark) → bytes_in (marks ++ Sync ∷ []) ≡ bytes_in marks
bytes_in-sync [] = refl
bytes_in-sync (Write a k ∷ marks) = ap (λ b. k + b) (bytes_in-sync marks)
bytes_in-sync (Sync ∷ marks) = bytes_in-sync marks

pub content-write : (now : List ℕ) (steps : List Step) (at : ℕ) (bytes : List ℕ) →
    content_after now (steps ++ Wrote at bytes ∷ []) ≡ put (content_after now steps) at bytes
content-write now [] at bytes = refl
content-write now (Wrote a b ∷ steps) at bytes = content-write (put now a b) steps at bytes
content-write now (Synced ∷ steps) at bytes = content-write now steps at bytes

pub content-sync : (now : List ℕ) (steps : List Step) →
    content_after now (steps ++ Synced ∷ []) ≡ content_after now steps
content-sync now [] = refl
content-sync now (Wrote a b ∷ steps) = content-sync (put now a b) steps
content-sync now (Synced ∷ steps) = content-sync now steps

pub within-write : (now : List ℕ) (steps : List Step) (at : ℕ) (bytes : List ℕ) →
    IsTrue (are_within now steps) → at ≤ length (content_after now steps) →
    IsTrue (are_within now (steps ++ Wrote at bytes ∷ []))
within-write now [] at bytes all fits =
    and_from (nat_le at (length now)) true (le-leb at (length now) fits) refl
within-write now (Wrote a b ∷ steps) at bytes all fits =
    let parts = and_parts (nat_le a (length now)) (are_within (put now a b) steps) all in
    and_from (nat_le a (length now)) _ parts.0
    (within-write (put now a b) steps at bytes parts.1 fits)
within-write now (Synced ∷ steps) at bytes all fits = within-write now steps at bytes all fits

pub within-sync : (now : List ℕ) (steps : List Step) → IsTrue (are_within now steps) →
    IsTrue (are_within now (steps ++ Synced ∷ []))
within-sync now [] all = refl
within-sync now (Wrote a b ∷ steps) all =
    let parts = and_parts (nat_le a (length now)) (are_within (put now a b) steps) all in
    and_from (nat_le a (length now)) _ parts.0 (within-sync (put now a b) steps parts.1)
within-sync now (Synced ∷ steps) all = within-sync now steps all

-- a write of n bytes of which these are there, or other ones, is one of those that a crash may
-- leave
pub torn-part : (now : List ℕ) (at n : ℕ) (bytes : List ℕ) → at ≤ length now → length bytes ≤ n →
    Torn at n now (put now at bytes)
torn-part now at n bytes fits few =
    let front : length (take at now) ≡ at = length-take-le at now fits in
    let back = drop (at + length bytes) now in
    let size : length (put now at bytes) ≡ at + length bytes + (length now - (at + length bytes)) =
    omega (
      arith,
      front,
      length-append (take at now ++ bytes) back,
      length-append (take at now) bytes,
      length-drop (at + length bytes) now,
    ) in
    let behind : drop (at + length bytes) (put now at bytes) ≡ back = drop_at (take at now
    ++ bytes) back (at + length bytes) (omega (arith, front, length-append (take at now) bytes)) in
    let rest : at + length bytes + (n - length bytes) ≡ at + n = omega arith in
    record {
      before = ap (λ (l : List ℕ). take at l) (append_assoc (take at now) bytes back)
          ∙ take_at (take at now) (bytes ++ back) at front;
      after = subst (λ (m : ℕ). drop m (put now at bytes) ≡ drop m now) rest
          (sym (drop-drop (n - length bytes) (at + length bytes) (put now at bytes))
          ∙ ap (λ (l : List ℕ). drop (n - length bytes) l) behind
          ∙ drop-drop (n - length bytes) (at + length bytes) now);
      no_shorter = omega (arith, size);
      no_longer = omega (arith, size);
    }

-- a write that is made whole is one of them
pub torn-put : (now : List ℕ) (at : ℕ) (bytes : List ℕ) → at ≤ length now →
    Torn at (length bytes) now (put now at bytes)
torn-put now at bytes fits = torn-part now at (length bytes) bytes fits (omega arith)

-- a write that isn't made is one too
pub torn-same : (now : List ℕ) (at n : ℕ) → Torn at n now now
torn-same now at n =
    record { before = refl; after = refl; no_shorter = omega arith; no_longer = omega arith }

pub image-write : (P : List ℕ → Type 0) (now : List ℕ) (steps : List Step)
    (at : ℕ) (bytes c : List ℕ) → IsImage P now (steps ++ Wrote at bytes ∷ []) c →
    (d : List ℕ) × IsImage P now steps d × Torn at (length bytes) d c
image-write P now [] at bytes c left = left
image-write P now (Wrote a b ∷ steps) at bytes c left = image-write (λ d. (e : List ℕ) × P e
    × Torn a (length b) e d) (put now a b) steps at bytes c left
image-write P now (Synced ∷ steps) at bytes c left =
    image-write (λ d. d ≡ now) now steps at bytes c left

pub image-sync : (P : List ℕ → Type 0) (now : List ℕ) (steps : List Step) (c : List ℕ) →
    IsImage P now (steps ++ Synced ∷ []) c → c ≡ content_after now steps
image-sync P now [] c left = left
image-sync P now (Wrote a b ∷ steps) c left =
    image-sync (λ d. (e : List ℕ) × P e × Torn a (length b) e d) (put now a b) steps c left
image-sync P now (Synced ∷ steps) c left = image-sync (λ d. d ≡ now) now steps c left

-- the same of writes that are cut short
pub cut-write : (P : List ℕ → Type 0) (now : List ℕ) (steps : List Step)
    (at : ℕ) (bytes c : List ℕ) → IsCut P now (steps ++ Wrote at bytes ∷ []) c →
    (d : List ℕ) × IsCut P now steps d × CutShort at bytes d c
cut-write P now [] at bytes c left = left
cut-write P now (Wrote a b ∷ steps) at bytes c left =
    cut-write (λ d. (e : List ℕ) × P e × CutShort a b e d) (put now a b) steps at bytes c left
cut-write P now (Synced ∷ steps) at bytes c left =
    cut-write (λ d. d ≡ now) now steps at bytes c left

pub cut-sync : (P : List ℕ → Type 0) (now : List ℕ) (steps : List Step) (c : List ℕ) →
    IsCut P now (steps ++ Synced ∷ []) c → c ≡ content_after now steps
cut-sync P now [] c left = left
cut-sync P now (Wrote a b ∷ steps) c left =
    cut-sync (λ d. (e : List ℕ) × P e × CutShort a b e d) (put now a b) steps c left
cut-sync P now (Synced ∷ steps) c left = cut-sync (λ d. d ≡ now) now steps c left

-- the same the other way round
pub image-torn : (P : List ℕ → Type 0) (now : List ℕ) (steps : List Step) (at : ℕ)
    (bytes d c : List ℕ) → IsImage P now steps d → Torn at (length bytes) d c →
    IsImage P now (steps ++ Wrote at bytes ∷ []) c
image-torn P now [] at bytes d c left torn = (d, left, torn)
image-torn P now (Wrote a b ∷ steps) at bytes d c left torn = image-torn (λ f. (e : List ℕ) × P e
    × Torn a (length b) e f) (put now a b) steps at bytes d c left torn
image-torn P now (Synced ∷ steps) at bytes d c left torn =
    image-torn (λ f. f ≡ now) now steps at bytes d c left torn

pub image-synced : (P : List ℕ → Type 0) (now : List ℕ) (steps : List Step) (c : List ℕ) →
    c ≡ content_after now steps → IsImage P now (steps ++ Synced ∷ []) c
image-synced P now [] c is = is
image-synced P now (Wrote a b ∷ steps) c is =
    image-synced (λ d. (e : List ℕ) × P e × Torn a (length b) e d) (put now a b) steps c is
image-synced P now (Synced ∷ steps) c is = image-synced (λ d. d ≡ now) now steps c is

-- what a read gives may be left
pub image-content : (P : List ℕ → Type 0) (now : List ℕ) (steps : List Step) → P now →
    IsTrue (are_within now steps) → IsImage P now steps (content_after now steps)
image-content P now [] here all = here
image-content P now (Wrote a b ∷ steps) here all =
    let parts = and_parts (nat_le a (length now)) (are_within (put now a b) steps) all in
    image-content (λ d. (e : List ℕ) × P e × Torn a (length b) e d) (put now a b) steps
    (now, here, torn-put now a b (leb-true a (length now) parts.0)) parts.1
image-content P now (Synced ∷ steps) here all = image-content (λ d. d ≡ now) now steps refl all

-- ---- the clock

pub counts_now : (start : List ℕ) (steps : List Step) (t : ℕ) (c : List ℕ) → t ≤ length steps →
    Leaves start steps c → LeftSince start steps t c
counts_now start steps t c le left = (
  length steps,
  le,
  (let e : length steps ≤ length steps = omega arith in e),
  subst (λ (s : List Step). Leaves start s c)
      (sym (take_all (length steps) steps (omega arith))) left,
)

pub only_now : (start : List ℕ) (steps : List Step) (c : List ℕ) →
    LeftSince start steps (length steps) c → Leaves start steps c
only_now start steps c left =
    subst (λ (s : List Step). Leaves start s c) (take_all left.0 steps left.1) left.3

pub elapses-same : (start : List ℕ) (steps : List Step) → Elapses (length steps) (length steps)
    (LeftSince start steps) (LeftSince start steps) (Leaves start steps)
elapses-same start steps = record {
  later = omega arith;
  nothing_else = λ t c le left. inl left;
  keeps = λ t c le left. left;
}

pub elapses-more : (start : List ℕ) (steps : List Step) (s : Step) →
    Elapses (length steps) (length (steps ++ s ∷ [])) (LeftSince start steps)
    (LeftSince start (steps ++ s ∷ [])) (Leaves start (steps ++ s ∷ []))
elapses-more start steps s = record {
  later = omega (arith, size);
  nothing_else = λ t c le left. split t c left (cases left.0);
  keeps = λ t c le left. (
    left.0,
    left.1,
    (let e : left.0 ≤ length (steps ++ s ∷ []) = omega (arith, size, left.2) in e),
    subst (λ (l : List Step). Leaves start l c)
        (sym (take-append-le left.0 steps (s ∷ []) left.2)) left.3,
  );
}
  where
    size : length (steps ++ s ∷ []) ≡ length steps + 1
    size = length-append steps (s ∷ [])

    cases : (k : ℕ) → (k ≤ length steps) ⊎ (length steps < k)
    cases k = grind arith

    split : (t : ℕ) (c : List ℕ) (left : LeftSince start (steps ++ s ∷ []) t c) →
        (left.0 ≤ length steps) ⊎ (length steps < left.0) →
        LeftSince start steps t c ⊎ Leaves start (steps ++ s ∷ []) c
    split t c left (inl old) = inl (
      left.0,
      left.1,
      old,
      subst (λ (l : List Step). Leaves start l c) (take-append-le left.0 steps (s ∷ []) old) left.3,
    )
    split t c left (inr new) = inr (subst (λ (l : List Step). Leaves start l c)
        (take_all left.0 (steps ++ s ∷ []) (omega (arith, size))) left.3)

pub elapses-to : (start later : List ℕ) (steps more : List Step) (s : Step) → later ≡ start →
    more ≡ steps ++ s ∷ [] → Elapses (length steps) (length more) (LeftSince start steps)
    (LeftSince later more) (Leaves later more)
elapses-to start later steps more s same is =
    subst (λ (b : List ℕ). Elapses (length steps) (length more) (LeftSince start steps)
    (LeftSince b more) (Leaves b more)) (sym same)
    (subst (λ (l : List Step). Elapses (length steps) (length l) (LeftSince start steps)
    (LeftSince start l) (Leaves start l)) (sym is) (elapses-more start steps s))

pub leaves-write : (start later : List ℕ) (steps more : List Step) (at : ℕ) (bytes c : List ℕ) →
    later ≡ start → more ≡ steps ++ Wrote at bytes ∷ [] → Leaves later more c →
    (d : List ℕ) × Leaves start steps d × Torn at (length bytes) d c
leaves-write start later steps more at bytes c same is left =
    image-write (λ d. d ≡ start) start steps at bytes c (subst (λ (l : List Step). Leaves start l c)
    is (subst (λ (b : List ℕ). Leaves b more c) same left))

pub leaves-sync : (start later : List ℕ) (steps more : List Step) (c : List ℕ) → later ≡ start →
    more ≡ steps ++ Synced ∷ [] → Leaves later more c → c ≡ content_after start steps
leaves-sync start later steps more c same is left =
    image-sync (λ d. d ≡ start) start steps c (subst (λ (l : List Step). Leaves start l c) is
    (subst (λ (b : List ℕ). Leaves b more c) same left))
