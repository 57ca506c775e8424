-- Relations of one length have a closing.
use Rattle.voc_read.proofs.Prelude.{◌≡◌, ℕ, zero, ◌<◌, ◌≤◌, Bool, true, false, cond, nat_lt, List, [], ◌∷◌, ◌++◌, length, map, get_or, refl, sym, ◌∙◌, subst, arith, ◌⊎◌, inl, inr, All, AllPairs, Contains, cases_Bool, both_ways, ltb-false, cases_lt, All-nil, All-cons, All-head, All-tail, All-append, All-weaker, All-map, All-contains, All-contains_itself, Contains-append_left, Contains-append_right, Contains-append_cases, Contains-push, Contains-push_cases, Relation, is_above, meet, IsIntersection, IsClosing, grown, closing_more, contains_map, image_of, meet_comm, wider, cons_cases, no_longer, is_same_relation, is_listed, without_repeats, intersections, not_more}
use Rattle.std.proofs.lemmas.List.Kept.{AllPairs-cons}
use Rattle.rel_table.specs.InOrder.{Above, IsInOrder}
use Rattle.rel_table.proofs.Falling.{above_above, other_above}
use Rattle.rel_table.proofs.Meets.{length-meet}
use Rattle.rel_table.proofs.Pairwise.{no_pairs, pairs_head, pairs_tail}
use Rattle.rel_table.proofs.Tables.{not_above_itself}
use Rattle.language.proofs.Repeats.{same_is, same_itself, contains_listed}
use Rattle.language.proofs.Closings.{every_kept, first, later}

abbrev AreLong : ℕ → List Relation → Type 0
AreLong n relations = All (λ (r : Relation). length r ≡ n) relations

nowhere : (q : Relation) → Contains [] q → ⊥
nowhere q has = let low = has.1 in omega arith

-- ---- In falling order

-- the relations of a list in falling order, and one more
record IsWith (r : Relation) (ordered list : List Relation) : Type 0 where
  pub has : Contains list r
  pub kept : (q : Relation) → Contains ordered q → Contains list q
  pub only : (q : Relation) → Contains list q → (r ≡ q) ⊎ Contains ordered q
  pub falling : AllPairs Above list

with_one : (n : ℕ) (r : Relation) (ordered : List Relation) → length r ≡ n → AreLong n ordered → AllPairs Above ordered → (list : List Relation) × IsWith r ordered list
with_one n r [] size sizes falling = (
  r ∷ [],
  record {
    has = first r [];
    kept = λ q has. absurd (nowhere q has);
    only = λ q has. cons_cases r [] q has;
    falling = AllPairs-cons Above r [] (All-nil (Above r)) (no_pairs Above);
  },
)
with_one n r (q ∷ ordered) size sizes falling =
    go (cases_Bool (is_above r q)) (cases_Bool (is_same_relation r q))
    (with_one n r ordered size (All-tail (λ (x : Relation). length x ≡ n) q ordered sizes) (pairs_tail Above q ordered falling))
  where
    below : All (Above q) ordered
    below = pairs_head Above q ordered falling

    go : (is_above r q ≡ true) ⊎ (is_above r q ≡ false) → (is_same_relation r q ≡ true) ⊎ (is_same_relation r q ≡ false) → (list : List Relation) × IsWith r ordered list →
        (list : List Relation) × IsWith r (q ∷ ordered) list
    go (inl above) same rest = (
      r ∷ q ∷ ordered,
      record {
        has = first r (q ∷ ordered);
        kept = later r (q ∷ ordered);
        only = cons_cases r (q ∷ ordered);
        falling = AllPairs-cons Above r (q ∷ ordered) (All-cons (Above r) q ordered above (All-weaker (Above q) (Above r) (λ x low. above_above r q x above low) ordered below)) falling;
      },
    )
    go (inr not_above) (inl same) rest = (
      q ∷ ordered,
      record {
        has = subst (Contains (q ∷ ordered)) (sym (same_is r q same)) (first q ordered);
        kept = λ x has. has;
        only = λ x has. inr has;
        falling = falling;
      },
    )
    go (inr not_above) (inr other) rest = (
      q ∷ rest.0,
      record {
        has = later q rest.0 r rest.1.has;
        kept = λ x has. held x (cons_cases q ordered x has);
        only = λ x has. found x (cons_cases q rest.0 x has);
        falling = AllPairs-cons Above q rest.0 (All-weaker (Contains rest.0) (Above q) (λ x has. under x (rest.1.only x has)) rest.0 (All-contains_itself rest.0)) rest.1.falling;
      },
    )
      where
        apart : r ≡ q → ⊥
        apart e = both_ways (is_same_relation r q) other (subst (λ x. is_same_relation r x ≡ true) e (same_itself r))

        above : is_above q r ≡ true
        above = other_above r q (size ∙ sym (All-head (λ (x : Relation). length x ≡ n) q ordered sizes)) apart not_above

        under : (x : Relation) → (r ≡ x) ⊎ Contains ordered x → Above q x
        under x (inl same) = subst (Above q) same above
        under x (inr old) = All-contains (Above q) ordered x below old

        held : (x : Relation) → (q ≡ x) ⊎ Contains ordered x → Contains (q ∷ rest.0) x
        held x (inl same) = subst (Contains (q ∷ rest.0)) same (first q rest.0)
        held x (inr old) = later q rest.0 x (rest.1.kept x old)

        behind : (x : Relation) → (r ≡ x) ⊎ Contains ordered x → (r ≡ x) ⊎ Contains (q ∷ ordered) x
        behind x (inl same) = inl same
        behind x (inr old) = inr (later q ordered x old)

        found : (x : Relation) → (q ≡ x) ⊎ Contains rest.0 x → (r ≡ x) ⊎ Contains (q ∷ ordered) x
        found x (inl same) = inr (subst (Contains (q ∷ ordered)) same (first q ordered))
        found x (inr there) = behind x (rest.1.only x there)

in_order : (n : ℕ) (relations : List Relation) → AreLong n relations → (ordered : List Relation) × IsInOrder relations ordered
in_order n [] sizes = ([], record { each = All-nil (Contains []); every = All-nil (Contains []); falling = no_pairs Above })
in_order n (r ∷ relations) sizes =
    let rest = in_order n relations (All-tail (λ (x : Relation). length x ≡ n) r relations sizes) in
    let long : AreLong n rest.0 =
    All-weaker (Contains relations) (λ (x : Relation). length x ≡ n)
    (λ x has. All-contains (λ (y : Relation). length y ≡ n) relations x (All-tail (λ (y : Relation). length y ≡ n) r relations sizes) has) rest.0 rest.1.each in
    let one = with_one n r rest.0 (All-head (λ (x : Relation). length x ≡ n) r relations sizes) long rest.1.falling in (
      one.0,
      record {
        each = All-weaker (Contains one.0) (Contains (r ∷ relations)) (λ x has. from r relations rest.0 rest.1.each x (one.1.only x has)) one.0 (All-contains_itself one.0);
        every = All-cons (Contains one.0) r relations one.1.has (All-weaker (Contains rest.0) (Contains one.0) one.1.kept relations rest.1.every);
        falling = one.1.falling;
      },
    )
  where
    from : (r : Relation) (relations ordered : List Relation) → All (Contains relations) ordered → (x : Relation) → (r ≡ x) ⊎ Contains ordered x → Contains (r ∷ relations) x
    from r relations ordered each x (inl same) = subst (Contains (r ∷ relations)) same (first r relations)
    from r relations ordered each x (inr old) = later r relations x (All-contains (Contains relations) ordered x each old)

-- ---- The closing

-- These are the intersections of relations of this length, each of which is listed.
pub record IsClosed (n : ℕ) (file closed : List Relation) : Type 0 where
  pub closing : IsClosing file closed
  pub listed : (q : Relation) → Contains closed q → Contains (intersections file) q
  pub long : AreLong n closed

-- the first of a file may as well be its last
turned : (file closed : List Relation) (t : Relation) → IsClosing (file ++ t ∷ []) closed → IsClosing (t ∷ file) closed
turned file closed t closing = record {
  each = All-weaker (IsIntersection (file ++ t ∷ [])) (IsIntersection (t ∷ file)) (λ r is. wider (file ++ t ∷ []) (t ∷ file) r (λ q has. to q (Contains-push_cases file t q has)) is) closed closing.each;
  every = λ r is. closing.every r (wider (t ∷ file) (file ++ t ∷ []) r (λ q has. back q (cons_cases t file q has)) is);
  falling = closing.falling;
}
  where
    to : (q : Relation) → Contains file q ⊎ (t ≡ q) → Contains (t ∷ file) q
    to q (inl here) = later t file q here
    to q (inr same) = subst (Contains (t ∷ file)) same (first t file)

    back : (q : Relation) → (t ≡ q) ⊎ Contains file q → Contains (file ++ t ∷ []) q
    back q (inl same) = subst (Contains (file ++ t ∷ [])) same (Contains-push file t)
    back q (inr here) = Contains-append_left file (t ∷ []) q here

-- the closing of one relation more
grown_listed : (file closed : List Relation) (t : Relation) → ((q : Relation) → Contains closed q → Contains (intersections file) q) → (q : Relation) → Contains (grown closed t) q → Contains (intersections (t ∷ file)) q
grown_listed file closed t listed q has = go (Contains-append_cases closed (map (λ r. meet r t) closed ++ t ∷ []) q has)
  where
    old : (x : Relation) → Contains (intersections file) x → Contains (intersections (t ∷ file)) x
    old x there = later t (map (meet t) (intersections file) ++ intersections file) x (Contains-append_right (map (meet t) (intersections file)) (intersections file) x there)

    met : (x : Relation) → Contains (intersections file) x → Contains (intersections (t ∷ file)) (meet t x)
    met x there =
        later t (map (meet t) (intersections file) ++ intersections file) (meet t x)
        (Contains-append_left (map (meet t) (intersections file)) (intersections file) (meet t x) (contains_map (meet t) (intersections file) x there))

    new : Contains (map (λ r. meet r t) closed) q ⊎ (t ≡ q) → Contains (intersections (t ∷ file)) q
    new (inl there) = let image = image_of (λ r. meet r t) closed q there in subst (Contains (intersections (t ∷ file))) (meet_comm t image.of ∙ image.is) (met image.of (listed image.of image.has))
    new (inr same) = subst (Contains (intersections (t ∷ file))) same (first t (map (meet t) (intersections file) ++ intersections file))

    go : Contains closed q ⊎ Contains (map (λ r. meet r t) closed ++ t ∷ []) q → Contains (intersections (t ∷ file)) q
    go (inl here) = old q (listed q here)
    go (inr there) = new (Contains-push_cases (map (λ r. meet r t) closed) t q there)

grown_long : (n : ℕ) (closed : List Relation) (t : Relation) → length t ≡ n → AreLong n closed → AreLong n (grown closed t)
grown_long n closed t size sizes =
    All-append (λ (x : Relation). length x ≡ n) closed (map (λ r. meet r t) closed ++ t ∷ []) sizes
    (All-append (λ (x : Relation). length x ≡ n) (map (λ r. meet r t) closed) (t ∷ [])
    (All-map (λ (x : Relation). length x ≡ n) (λ r. meet r t) closed
    (All-weaker (λ (x : Relation). length x ≡ n) (λ (x : Relation). length (meet x t) ≡ n) (λ x long. length-meet x t (long ∙ sym size) ∙ long) closed sizes))
    (All-cons (λ (x : Relation). length x ≡ n) t [] size (All-nil (λ (x : Relation). length x ≡ n))))

pub closing_of : (n : ℕ) (file : List Relation) → AreLong n file → (closed : List Relation) × IsClosed n file closed
closing_of n [] sizes = (
  [],
  record {
    closing = record { each = All-nil (IsIntersection []); every = λ r is. absurd (nowhere is.first is.first_given); falling = no_pairs Above };
    listed = λ q has. absurd (nowhere q has);
    long = All-nil (λ (x : Relation). length x ≡ n);
  },
)
closing_of n (t ∷ file) sizes =
    let rest = closing_of n file (All-tail (λ (x : Relation). length x ≡ n) t file sizes) in
    let more = grown_long n rest.0 t (All-head (λ (x : Relation). length x ≡ n) t file sizes) rest.1.long in
    let order = in_order n (grown rest.0 t) more in (
      order.0,
      record {
        closing = turned file order.0 t (closing_more file rest.0 order.0 t rest.1.closing order.1);
        listed = λ q has. grown_listed file rest.0 t rest.1.listed q (All-contains (Contains (grown rest.0 t)) order.0 q order.1.each has);
        long = All-weaker (Contains (grown rest.0 t)) (λ (x : Relation). length x ≡ n) (λ x has. All-contains (λ (y : Relation). length y ≡ n) (grown rest.0 t) x more has) order.0 order.1.each;
      },
    )

-- ---- How many they are

apart : (closed : List Relation) → AllPairs Above closed → AllPairs (λ r q. r ≡ q → ⊥) closed
apart closed falling i j d low high same = both_ways _ (not_above_itself (get_or closed j d)) (subst (λ r. is_above r (get_or closed j d) ≡ true) same (falling i j d low high))

-- no more than 64 where no more are listed
pub few_closed : (n : ℕ) (file closed : List Relation) → IsClosed n file closed → nat_lt 64 (length (without_repeats (intersections file))) ≡ false → length closed ≤ 64
few_closed n file closed is few =
    let listed : All (Contains (without_repeats (intersections file))) closed =
    All-weaker (Contains closed) (Contains (without_repeats (intersections file))) (λ q has. every_kept (intersections file) q (is.listed q has)) closed (All-contains_itself closed) in
    let short : length closed ≤ length (without_repeats (intersections file)) = no_longer closed (without_repeats (intersections file)) listed (apart closed is.closing.falling) in
    omega (arith, short, ltb-false 64 (length (without_repeats (intersections file))) few)

-- and as many of their images
pub few_images : (f : Relation → Relation) → ((r q : Relation) → f (meet r q) ≡ meet (f r) (f q)) → (file closed images : List Relation) → IsClosing file closed → length closed ≤ 64 → IsClosing (map f file) images → length images ≤ 64
few_images f keeps file closed images closing few are = go (cases_lt 64 (length images))
  where
    go : (64 < length images) ⊎ (length images ≤ 64) → length images ≤ 64
    go (inl many) = absurd (not_more f keeps file closed closing few (record { some = images; many = many; each = are.each; apart = apart images are.falling }))
    go (inr few) = few
