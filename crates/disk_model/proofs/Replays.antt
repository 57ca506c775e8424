-- A file that is written again from its record, step by step.
use Rattle.disk_model.proofs.Prelude.{◌≡◌, ℕ, zero, suc, ◌+◌, ◌<◌, ◌≤◌, min, ◌⊎◌, inl, inr, List, [], ◌∷◌, ◌++◌, length, get_or, take, drop, All, Vec, Global, refl, sym, ◌∙◌, ap, subst, arith, add-one, take_all, Contains, cases_lt, All-append, Contains-append_left, Contains-append_right, Torn, Step, Wrote, Synced, CutShort, put, steps_of, bytes_in, content-write, content-sync, cut-write, cut-sync, image-torn, image-synced, AreTorn, HaveAllCuts, HaveCutsOf, IsTornOf, contents, mark_bytes, step_of, IsReplay, Mark, Write, Sync}
use Rattle.std.proofs.lemmas.List.{drop-drop, get_or-take, length-drop, length-take, map-append}

-- the images of one more, behind those of others
pub torn_more : (at n : ℕ) (images torn more : List (Vec ℕ Global)) (k : ℕ) (image : Vec ℕ Global) → k < length images → image ≡ get_or images k image → All (IsTornOf at n images) torn → AreTorn at n image.items more → All (IsTornOf at n images) (torn ++ more)
torn_more at n images torn more k image within is all new =
    All-append (IsTornOf at n images) torn more all (λ j d lt. (k, within, subst (λ (v : Vec ℕ Global). Torn at n v.items (get_or more j d).items) (is ∙ any k image (get_or more j d) images within) (new j d lt)))
  where
    any : (k : ℕ) (a b : Vec ℕ Global) (xs : List (Vec ℕ Global)) → k < length xs → get_or xs k a ≡ get_or xs k b
    any k a b [] lt = absurd (omega arith)
    any zero a b (x ∷ xs) lt = refl
    any (suc k) a b (x ∷ xs) lt = any k a b xs (omega arith)

pub after_write : (start : List ℕ) (steps : List Step) (now : List ℕ) (images : List (Vec ℕ Global)) (at : ℕ) (bytes new : List ℕ) (torn : List (Vec ℕ Global)) → IsReplay start steps now images → new ≡ put now at bytes → All (IsTornOf at (length bytes) images) torn → HaveAllCuts at bytes images torn
    → IsReplay start (steps ++ Wrote at bytes ∷ []) new torn
after_write start steps now images at bytes new torn r is all cut = record {
  reads = is ∙ ap (λ (l : List ℕ). put l at bytes) r.reads ∙ sym (content-write start steps at bytes);
  each = λ k d lt. let t = all k d lt in image-torn (λ c. c ≡ start) start steps at bytes _ _ (r.each t.0 (get_or torn k d) t.1) t.2;
  cuts = λ c left. let w = cut-write (λ d. d ≡ start) start steps at bytes c left in cut w.0 (r.cuts w.0 w.1) c w.2;
}

pub after_sync : (start : List ℕ) (steps : List Step) (now : List ℕ) (images same : List (Vec ℕ Global)) → IsReplay start steps now images → All (λ image. image.items ≡ now) same → Contains (contents same) now → IsReplay start (steps ++ Synced ∷ []) now same
after_sync start steps now images same r all some = record {
  reads = r.reads ∙ sym (content-sync start steps);
  each = λ k d lt. image-synced (λ c. c ≡ start) start steps _ (all k d lt ∙ r.reads);
  cuts = λ c left. subst (Contains (contents same)) (r.reads ∙ sym (cut-sync (λ d. d ≡ start) start steps c left)) some;
}

-- ---- the steps of the first marks

pub steps_count : (marks : List Mark) (written : List ℕ) → length (steps_of marks written) ≡ length marks
steps_count [] written = refl
steps_count (Write at len ∷ marks) written = ap suc (steps_count marks (drop len written))
steps_count (Sync ∷ marks) written = ap suc (steps_count marks written)

-- the step of a mark whose bytes stand at the front of these
abbrev pub step_from : Mark → List ℕ → Step
step_from m written = step_of m (take (mark_bytes m) written)

steps_suc : (marks : List Mark) (written : List ℕ) (i : ℕ) (d : Mark) → i < length marks → take (suc i) (steps_of marks written) ≡ take i (steps_of marks written) ++ step_from (get_or marks i d) (drop (bytes_in (take i marks)) written) ∷ []
steps_suc [] written i d lt = absurd (omega arith)
steps_suc (Write at len ∷ marks) written zero d lt = refl
steps_suc (Write at len ∷ marks) written (suc i) d lt =
    ap (λ (l : List Step). Wrote at (take len written) ∷ l) (steps_suc marks (drop len written) i d (omega arith)
    ∙ ap (λ (l : List ℕ). take i (steps_of marks (drop len written)) ++ step_from (get_or marks i d) l ∷ []) (drop-drop (bytes_in (take i marks)) len written))
steps_suc (Sync ∷ marks) written zero d lt = refl
steps_suc (Sync ∷ marks) written (suc i) d lt = ap (λ (l : List Step). Synced ∷ l) (steps_suc marks written i d (omega arith))

pub steps_more : (marks : List Mark) (written : List ℕ) (i : ℕ) (d : Mark) → i < length marks → take (i + 1) (steps_of marks written) ≡ take i (steps_of marks written) ++ step_from (get_or marks i d) (drop (bytes_in (take i marks)) written) ∷ []
steps_more marks written i d lt = rw add-one (steps_suc marks written i d lt)

bytes_suc : (marks : List Mark) (i : ℕ) (d : Mark) → i < length marks → bytes_in (take (suc i) marks) ≡ bytes_in (take i marks) + mark_bytes (get_or marks i d)
bytes_suc [] i d lt = absurd (omega arith)
bytes_suc (Write at len ∷ marks) zero d lt = omega arith
bytes_suc (Write at len ∷ marks) (suc i) d lt = omega (arith, bytes_suc marks i d (omega arith))
bytes_suc (Sync ∷ marks) zero d lt = omega arith
bytes_suc (Sync ∷ marks) (suc i) d lt = bytes_suc marks i d (omega arith)

pub bytes_more : (marks : List Mark) (i : ℕ) (d : Mark) → i < length marks → bytes_in (take (i + 1) marks) ≡ bytes_in (take i marks) + mark_bytes (get_or marks i d)
bytes_more marks i d lt = rw add-one (bytes_suc marks i d lt)

pub bytes_few : (marks : List Mark) (i : ℕ) → bytes_in (take i marks) ≤ bytes_in marks
bytes_few [] zero = omega arith
bytes_few [] (suc i) = omega arith
bytes_few (m ∷ marks) zero = omega arith
bytes_few (Write at len ∷ marks) (suc i) = omega (arith, bytes_few marks i)
bytes_few (Sync ∷ marks) (suc i) = bytes_few marks i

-- the mark with this number, among the first, and the bytes that are left
module _ (marks : List Mark) (written : List ℕ) (counted : bytes_in marks ≡ length written) (moment i : ℕ) (d : Mark) (seen : List Mark) (rest : List ℕ) (are : seen ≡ marks) (left : rest ≡ drop (bytes_in (take i marks)) written) (here : i < length (take moment seen)) where
  within : i < moment × i < length marks
  within = let size : length (take moment seen) ≡ min moment (length marks) = length-take moment seen ∙ ap (λ (l : List Mark). min moment (length l)) are in (omega arith, omega arith)

  is : get_or (take moment seen) i d ≡ get_or marks i d
  is = ap (λ (l : List Mark). get_or (take moment l) i d) are ∙ get_or-take moment marks i d within.0

  pub next_fits : mark_bytes (get_or (take moment seen) i d) ≤ length rest
  next_fits = rw (is, left) (omega (arith, length-drop (bytes_in (take i marks)) written, bytes_more marks i d within.1, bytes_few marks (i + 1), counted))

  pub next_step : take (i + 1) (steps_of marks written) ≡ take i (steps_of marks written) ++ step_from (get_or (take moment seen) i d) rest ∷ []
  next_step = rw (is, left) (steps_more marks written i d within.1)

  pub next_rest : drop (mark_bytes (get_or (take moment seen) i d)) rest ≡ drop (bytes_in (take (i + 1) marks)) written
  next_rest = rw (is, left) (drop-drop (mark_bytes (get_or marks i d)) (bytes_in (take i marks)) written ∙ ap (λ n. drop n written) (sym (bytes_more marks i d within.1)))

-- ---- writes that are cut short

pub has_left : (torn more : List (Vec ℕ Global)) (c : List ℕ) → Contains (contents torn) c → Contains (contents (torn ++ more)) c
has_left torn more c has = subst (λ (l : List (List ℕ)). Contains l c) (sym (map-append (λ (v : Vec ℕ Global). v.items) torn more)) (Contains-append_left (contents torn) (contents more) c has)

pub has_right : (torn more : List (Vec ℕ Global)) (c : List ℕ) → Contains (contents more) c → Contains (contents (torn ++ more)) c
has_right torn more c has = subst (λ (l : List (List ℕ)). Contains l c) (sym (map-append (λ (v : Vec ℕ Global). v.items) torn more)) (Contains-append_right (contents torn) (contents more) c has)

-- one image more, which is this content
pub has_one : (torn : List (Vec ℕ Global)) (image : Vec ℕ Global) (c : List ℕ) → image.items ≡ c → Contains (contents (torn ++ image ∷ [])) c
has_one torn image c is = has_right torn (image ∷ []) c (0, omega arith, is)

-- a write cut short one byte later
pub cut_later : (at cut : ℕ) (image bytes : List ℕ) (torn more : List (Vec ℕ Global)) (whole : Vec ℕ Global) → whole.items ≡ put image at (take cut bytes) →
    ((k : ℕ) → k < cut → Contains (contents torn) (put image at (take k bytes))) → (k : ℕ) → k < cut + 1 → Contains (contents ((torn ++ whole ∷ []) ++ more)) (put image at (take k bytes))
cut_later at cut image bytes torn more whole is before k lt =
    has_left (torn ++ whole ∷ []) more _ (by_case (cases_lt k cut))
  where
    by_case : (k < cut) ⊎ (cut ≤ k) → Contains (contents (torn ++ whole ∷ [])) (put image at (take k bytes))
    by_case (inl less) = has_left torn (whole ∷ []) _ (before k less)
    by_case (inr least) = let same : k ≡ cut = omega arith in has_one torn whole _ (is ∙ ap (λ (n : ℕ). put image at (take n bytes)) (sym same))

-- and the write that is made whole
pub cut_whole : (at : ℕ) (image bytes : List ℕ) (torn : List (Vec ℕ Global)) (whole : Vec ℕ Global) → whole.items ≡ put image at bytes →
    ((k : ℕ) → k < length bytes → Contains (contents torn) (put image at (take k bytes))) → HaveCutsOf at bytes image (torn ++ whole ∷ [])
cut_whole at image bytes torn whole is before c cut =
    by_case (cases_lt cut.count (length bytes))
  where
    by_case : (cut.count < length bytes) ⊎ (length bytes ≤ cut.count) → Contains (contents (torn ++ whole ∷ [])) c
    by_case (inl less) = has_left torn (whole ∷ []) c (subst (λ (l : List ℕ). Contains (contents torn) l) (sym cut.is) (before cut.count less))
    by_case (inr all) = has_one torn whole c (is ∙ sym (cut.is ∙ ap (λ (l : List ℕ). put image at l) (take_all cut.count bytes all)))

-- the images of one more, behind those of others
pub cuts_more : (at : ℕ) (bytes : List ℕ) (images torn more : List (Vec ℕ Global)) (i : ℕ) (image : Vec ℕ Global) → image ≡ get_or images i image → i < length images →
    ((k : ℕ) (d : Vec ℕ Global) → k < i → HaveCutsOf at bytes (get_or images k d).items torn) → HaveCutsOf at bytes image.items more →
    (k : ℕ) (d : Vec ℕ Global) → k < i + 1 → HaveCutsOf at bytes (get_or images k d).items (torn ++ more)
cuts_more at bytes images torn more i image is within before new k d lt c cut = by_case (cases_lt k i)
  where
    any : (k : ℕ) (a b : Vec ℕ Global) (xs : List (Vec ℕ Global)) → k < length xs → get_or xs k a ≡ get_or xs k b
    any k a b [] lt = absurd (omega arith)
    any zero a b (x ∷ xs) lt = refl
    any (suc k) a b (x ∷ xs) lt = any k a b xs (omega arith)

    here : k ≡ i → get_or images k d ≡ image
    here same = ap (λ (n : ℕ). get_or images n d) same ∙ any i d image images within ∙ sym is

    by_case : (k < i) ⊎ (i ≤ k) → Contains (contents (torn ++ more)) c
    by_case (inl less) = has_left torn more c (before k d less c cut)
    by_case (inr least) = has_right torn more c (new c (subst (λ (v : Vec ℕ Global). CutShort at bytes v.items c) (here (omega arith)) cut))

-- the image that is this content
image_at : (k : ℕ) (images : List (Vec ℕ Global)) (c : List ℕ) → k < length (contents images) → get_or (contents images) k c ≡ c → (d : Vec ℕ Global) × (k < length images) × ((get_or images k d).items ≡ c)
image_at k [] c lt is = absurd (omega arith)
image_at zero (x ∷ xs) c lt is = (x, omega arith, is)
image_at (suc k) (x ∷ xs) c lt is = let r = image_at k xs c (omega arith) is in (r.0, omega (arith, r.1), r.2)

-- so each of the images has them
pub cuts_all : (at : ℕ) (bytes : List ℕ) (images torn : List (Vec ℕ Global)) → ((k : ℕ) (d : Vec ℕ Global) → k < length images → HaveCutsOf at bytes (get_or images k d).items torn) → HaveAllCuts at bytes images torn
cuts_all at bytes images torn each e has c cut =
    let one = image_at has.0 images e has.1 has.2 in
    each has.0 one.0 one.1 c (subst (λ (l : List ℕ). CutShort at bytes l c) (sym one.2) cut)
