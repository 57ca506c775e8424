-- Relations made true outside a mask, or cut down to it: their intersections and their order.
use Rattle.language.proofs.Prelude.{◌≡◌, ℕ, ◌<◌, ◌≤◌, Bool, true, false, ◌&&◌, ◌||◌, not, List, [], ◌∷◌, length, map, get_or, refl, sym, ◌∙◌, ap, subst, arith, All, Contains, zip, get_or-map, length-map, All-nil, All-cons, All-head, All-tail, All-map, Relation, meet, meet_all, is_above, tuples, IsIntersection, IsClosing, HasTooMany, contains_map, image_of, no_longer, ValueRange, are_in, widened, inside}

-- a relation, true outside the mask
abbrev pub over : Relation → Relation → Relation
over mask r = map (λ (both : Bool × Bool). not both.0 || both.1) (zip mask r)

-- a relation, false outside the mask
abbrev pub under : Relation → Relation → Relation
under mask r = meet r mask

pub widened-over : (ranges : List ValueRange) (d : ℕ) (scope : List ℕ) (r : Relation) → widened ranges d scope r ≡ over (inside ranges d scope) r
widened-over ranges d scope r = go (tuples d (length scope)) r
  where
    go : (us : List (List ℕ)) (r : Relation) →
        map (λ (both : List ℕ × Bool). not (are_in ranges scope both.0) || both.1) (zip us r) ≡ over (map (are_in ranges scope) us) r
    go [] r = refl
    go (u ∷ us) [] = refl
    go (u ∷ us) (b ∷ r) = λ i. (not (are_in ranges scope u) || b) ∷ go us r i

-- ---- intersections

over_both : (m x y : Bool) → (not m || (x && y)) ≡ ((not m || x) && (not m || y))
over_both true x y = refl
over_both false x y = refl

pub over-meet : (mask r q : Relation) → over mask (meet r q) ≡ meet (over mask r) (over mask q)
over-meet [] r q = refl
over-meet (m ∷ mask) [] q = refl
over-meet (m ∷ mask) (x ∷ r) [] = refl
over-meet (m ∷ mask) (x ∷ r) (y ∷ q) = λ i. over_both m x y i ∷ over-meet mask r q i

under_both : (m x y : Bool) → ((x && y) && m) ≡ ((x && m) && (y && m))
under_both true true true = refl
under_both true true false = refl
under_both true false y = refl
under_both false true true = refl
under_both false true false = refl
under_both false false y = refl

pub under-meet : (mask r q : Relation) → under mask (meet r q) ≡ meet (under mask r) (under mask q)
under-meet mask [] q = refl
under-meet [] (x ∷ r) [] = refl
under-meet (m ∷ mask) (x ∷ r) [] = refl
under-meet [] (x ∷ r) (y ∷ q) = refl
under-meet (m ∷ mask) (x ∷ r) (y ∷ q) = λ i. under_both m x y i ∷ under-meet mask r q i

-- ---- what a cut relation keeps

over_cut : (m x : Bool) → (not m || (x && m)) ≡ (not m || x)
over_cut true true = refl
over_cut true false = refl
over_cut false x = refl

pub over-under : (mask r : Relation) → over mask (under mask r) ≡ over mask r
over-under [] [] = refl
over-under [] (x ∷ r) = refl
over-under (m ∷ mask) [] = refl
over-under (m ∷ mask) (x ∷ r) = λ i. over_cut m x i ∷ over-under mask r i

-- the order is decided within the mask
pub above-over : (mask r q : Relation) → is_above (over mask r) (over mask q) ≡ is_above (under mask r) (under mask q)
above-over [] [] q = refl
above-over [] (x ∷ r) q = refl
above-over (m ∷ mask) [] q = refl
above-over (true ∷ mask) (true ∷ r) [] = refl
above-over (true ∷ mask) (false ∷ r) [] = refl
above-over (false ∷ mask) (true ∷ r) [] = refl
above-over (false ∷ mask) (false ∷ r) [] = refl
above-over (true ∷ mask) (true ∷ r) (true ∷ q) = above-over mask r q
above-over (true ∷ mask) (true ∷ r) (false ∷ q) = refl
above-over (true ∷ mask) (false ∷ r) (true ∷ q) = refl
above-over (true ∷ mask) (false ∷ r) (false ∷ q) = above-over mask r q
above-over (false ∷ mask) (true ∷ r) (true ∷ q) = above-over mask r q
above-over (false ∷ mask) (true ∷ r) (false ∷ q) = above-over mask r q
above-over (false ∷ mask) (false ∷ r) (true ∷ q) = above-over mask r q
above-over (false ∷ mask) (false ∷ r) (false ∷ q) = above-over mask r q

-- ---- images that keep intersections

module _ (f : Relation → Relation) (keeps : (r q : Relation) → f (meet r q) ≡ meet (f r) (f q)) where
  image_all : (r : Relation) (more : List Relation) → f (meet_all r more) ≡ meet_all (f r) (map f more)
  image_all r [] = refl
  image_all r (q ∷ more) = image_all (meet r q) more ∙ ap (λ x. meet_all x (map f more)) (keeps r q)

  -- some images are those of some
  record AreImages (file images : List Relation) : Type 0 where
    pub of : List Relation
    pub given : All (Contains file) of
    pub are : map f of ≡ images

  images_of : (file images : List Relation) → All (Contains (map f file)) images → AreImages file images
  images_of file [] given = record { of = []; given = All-nil (Contains file); are = refl }
  images_of file (q ∷ images) given =
      let first = image_of f file q (All-head (Contains (map f file)) q images given) in
      let rest = images_of file images (All-tail (Contains (map f file)) q images given) in
      record {
        of = first.of ∷ rest.of;
        given = All-cons (Contains file) first.of rest.of first.has rest.given;
        are = λ i. first.is i ∷ rest.are i;
      }

  -- an intersection of images is the image of one
  pub record IsImageOf (file : List Relation) (q : Relation) : Type 0 where
    pub of : Relation
    pub intersection : IsIntersection file of
    pub is : f of ≡ q

  pub intersection_of : (file : List Relation) (q : Relation) → IsIntersection (map f file) q → IsImageOf file q
  intersection_of file q is =
      let first = image_of f file is.first is.first_given in
      let rest = images_of file is.more is.more_given in
      record {
        of = meet_all first.of rest.of;
        intersection = record { first = first.of; more = rest.of; first_given = first.has; more_given = rest.given; is = refl };
        is = image_all first.of rest.of ∙ (λ i. meet_all (first.is i) (rest.are i)) ∙ sym is.is;
      }

  pub image_is : (file : List Relation) (r : Relation) → IsIntersection file r → IsIntersection (map f file) (f r)
  image_is file r is = record {
    first = f is.first;
    more = map f is.more;
    first_given = contains_map f file is.first is.first_given;
    more_given = All-map (Contains (map f file)) f is.more (λ k d low. contains_map f file (get_or is.more k d) (is.more_given k d low));
    is = ap f is.is ∙ image_all is.first is.more;
  }

  -- the images of a closing have no more intersections than it
  pub not_more : (file closed : List Relation) → IsClosing file closed → length closed ≤ 64 → HasTooMany (map f file) → ⊥
  not_more file closed closing few many =
      let short : length many.some ≤ length (map f closed) = no_longer many.some (map f closed) each many.apart in
      let more = many.many in
      omega (arith, short, few, more, length-map closed f)
    where
      each : All (Contains (map f closed)) many.some
      each k d low =
          let source = intersection_of file (get_or many.some k d) (many.each k d low) in
          subst (Contains (map f closed)) source.is (contains_map f closed source.of (closing.every source.of source.intersection))

-- ---- the relations on a scope

-- The tables whose cut relations are the intersections of the cut relations have all intersections of the widened ones, in their order.
module _ (mask : Relation) (file tables : List Relation) (closing : IsClosing file tables) (cut : List Relation) (cut_closing : IsClosing (map (under mask) file) cut)
    (chosen : List ℕ) (known : All (λ k. k < length tables) chosen) (are : map (λ k. under mask (get_or tables k [])) chosen ≡ cut) where
  cut_at : (j : ℕ) (d : Relation) → j < length chosen → get_or cut j d ≡ under mask (get_or tables (get_or chosen j 0) [])
  cut_at j d low = ap (λ rs. get_or rs j d) (sym are) ∙ get_or-map (λ k. under mask (get_or tables k [])) chosen j 0 d low

  wide_at : (j : ℕ) (d : Relation) → j < length chosen → get_or (map (λ k. over mask (get_or tables k [])) chosen) j d ≡ over mask (get_or tables (get_or chosen j 0) [])
  wide_at j d low = get_or-map (λ k. over mask (get_or tables k [])) chosen j 0 d low

  long : length cut ≡ length chosen
  long = sym (ap length are) ∙ length-map chosen (λ k. under mask (get_or tables k []))

  long_wide : length (map (λ k. over mask (get_or tables k [])) chosen) ≡ length chosen
  long_wide = length-map chosen (λ k. over mask (get_or tables k []))

  every : (r : Relation) → IsIntersection (map (over mask) file) r → Contains (map (λ k. over mask (get_or tables k [])) chosen) r
  every r is =
      let source = intersection_of (over mask) (over-meet mask) file r is in
      let has = cut_closing.every (under mask source.of) (image_is (under mask) (under-meet mask) file source.of source.intersection) in
      let low : has.0 < length chosen = omega (arith, has.1, long) in
      let same : under mask (get_or tables (get_or chosen has.0 0) []) ≡ under mask source.of = sym (cut_at has.0 (under mask source.of) low) ∙ has.2 in (
        has.0,
        omega (arith, low, long_wide),
        wide_at has.0 r low ∙ sym (over-under mask (get_or tables (get_or chosen has.0 0) [])) ∙ ap (over mask) same ∙ over-under mask source.of ∙ source.is,
      )

  pub closing_over : IsClosing (map (over mask) file) (map (λ k. over mask (get_or tables k [])) chosen)
  closing_over = record {
    each = All-map (IsIntersection (map (over mask) file)) (λ k. over mask (get_or tables k [])) chosen
        (λ j d low. image_is (over mask) (over-meet mask) file (get_or tables (get_or chosen j d) []) (closing.each (get_or chosen j d) [] (known j d low)));
    every = every;
    falling = λ i j d less low.
        let second : j < length chosen = omega (arith, low, long_wide) in
        let first : i < length chosen = omega (arith, second, less) in
        (λ t. is_above (wide_at i d first t) (wide_at j d second t))
        ∙ above-over mask (get_or tables (get_or chosen i 0) []) (get_or tables (get_or chosen j 0) [])
        ∙ (λ t. is_above (sym (cut_at i d first) t) (sym (cut_at j d second) t))
        ∙ cut_closing.falling i j d less (omega (arith, second, long));
  }
