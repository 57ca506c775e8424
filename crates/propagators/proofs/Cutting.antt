-- Writing the sets of a scope's variables, one after another.
use Rattle.propagators.proofs.Prelude.{◌≡◌, ℕ, zero, suc, ◌+◌, ◌<◌, ◌≤◌, Bool, true, false, ◌||◌, List, [], ◌∷◌, length, map, take, drop, refl, sym, ◌∙◌, ap, subst, arith, inl, inr, ◌≢◌, slice_index_or, slice_set, length-set, get_or-set_other, get_or-take, get_or-map, length-take, length-map, drop_more, drop_all, or_left, or_right, both_ways, eq-eqb, has, with_member, has-set_where, ones_of, Family, family_size, AreFewer, IsCutAt, AreDifferent, replaced}

-- the sets of masks for a scope
abbrev pub sets_for : List ℕ → List ℕ → List (List ℕ)
sets_for scope masks = take (length scope) (map ones_of masks)

pub set_for : (scope masks : List ℕ) (j : ℕ) → j < length scope → j < length masks → slice_index_or (sets_for scope masks) j [] ≡ ones_of (slice_index_or masks j 0)
set_for scope masks j low room = get_or-take (length scope) (map ones_of masks) j [] low ∙ get_or-map ones_of masks j 0 [] room

-- the first j sets are written
pub record IsCutting (scope masks : List ℕ) (from : Family) (j : ℕ) (g : Family) (changed : List ℕ) : Type 0 where
  pub size : length g ≡ length from
  pub rest : replaced (drop j scope) (drop j (sets_for scope masks)) g ≡ replaced scope (sets_for scope masks) from
  pub same : (k : ℕ) → j ≤ k → k < length scope → slice_index_or g (slice_index_or scope k 0) [] ≡ slice_index_or from (slice_index_or scope k 0) []
  pub cut : IsCutAt changed from g

pub cut_begin : (scope masks : List ℕ) (from : Family) → IsCutting scope masks from 0 from []
cut_begin scope masks from = record {
  size = refl;
  rest = refl;
  same = λ k low high. refl;
  cut = record { differ = λ v low none. refl; fewer = inl (λ v. refl, refl) };
}

-- members at two places differ
pub member_at : (scope : List ℕ) (k : ℕ) → k < length scope → has scope (slice_index_or scope k 0) ≡ true
member_at [] k low = absurd (omega arith)
member_at (v ∷ scope) zero low = or_left _ _ (eq-eqb v v refl)
member_at (v ∷ scope) (suc k) low = or_right _ _ (member_at scope k (omega arith))

pub different_at : (scope : List ℕ) (j k : ℕ) → AreDifferent scope → j < k → k < length scope → slice_index_or scope k 0 ≢ slice_index_or scope j 0
different_at [] j k apart before low = absurd (omega arith)
different_at (v ∷ scope) zero zero apart before low = absurd (omega arith)
different_at (v ∷ scope) zero (suc k) apart before low = λ e. both_ways _ apart.0 (ap (has scope) (sym e) ∙ member_at scope k (omega arith))
different_at (v ∷ scope) (suc j) zero apart before low = absurd (omega arith)
different_at (v ∷ scope) (suc j) (suc k) apart before low = different_at scope j k apart.1 (omega arith) (omega arith)

pub not_with : (changed : List ℕ) (v w : ℕ) → w < 128 → has (with_member changed v) w ≡ false → (has changed w ≡ false) × (v ≢ w)
not_with changed v w low none =
    let parts = neither (has changed w) (has (v ∷ []) w) (sym (has-set_where (λ u. has changed u || has (v ∷ []) u) w low) ∙ none) in
    (parts.0, λ e. both_ways _ parts.1 (or_left _ _ (eq-eqb v w e)))
  where
    neither : (a b : Bool) → (a || b) ≡ false → (a ≡ false) × (b ≡ false)
    neither true b h = cc
    neither false b h = (refl, h)

module _ (scope masks : List ℕ) (from : Family) (j : ℕ) (g : Family) (changed : List ℕ) (apart : AreDifferent scope) (low : j < length scope) (room : j < length masks) (on : IsCutting scope masks from j g changed) where
  abbrev v : ℕ
  v = slice_index_or scope j 0

  abbrev xs : List ℕ
  xs = ones_of (slice_index_or masks j 0)

  long : j < length (sets_for scope masks)
  long = omega (arith, length-take (length scope) (map ones_of masks), length-map masks ones_of)

  pub rest_next : replaced (drop (j + 1) scope) (drop (j + 1) (sets_for scope masks)) (slice_set g (slice_index_or scope j 0) (ones_of (slice_index_or masks j 0))) ≡ replaced scope (sets_for scope masks) from
  rest_next =
      ap (λ (ys : List ℕ). replaced (drop (j + 1) scope) (drop (j + 1) (sets_for scope masks)) (slice_set g (slice_index_or scope j 0) ys)) (sym (set_for scope masks j low room))
      ∙ sym (λ i. replaced (drop_more scope j 0 low i) (drop_more (sets_for scope masks) j [] long i) g) ∙ on.rest

  pub same_next : (k : ℕ) → j + 1 ≤ k → k < length scope → slice_index_or (slice_set g (slice_index_or scope j 0) (ones_of (slice_index_or masks j 0))) (slice_index_or scope k 0) [] ≡ slice_index_or from (slice_index_or scope k 0) []
  same_next k after below = get_or-set_other g (slice_index_or scope j 0) (slice_index_or scope k 0) (ones_of (slice_index_or masks j 0)) [] (different_at scope j k apart (omega arith) below) ∙ on.same k (omega arith) below

  next : (h : Family) (more : List ℕ) → h ≡ slice_set g (slice_index_or scope j 0) (ones_of (slice_index_or masks j 0)) → IsCutAt more from h → IsCutting scope masks from (j + 1) h more
  next h more is cut = record {
    size = ap length is ∙ length-set g (slice_index_or scope j 0) (ones_of (slice_index_or masks j 0)) ∙ on.size;
    rest = ap (replaced (drop (j + 1) scope) (drop (j + 1) (sets_for scope masks))) is ∙ rest_next;
    same = λ k after below. ap (λ (f : Family). slice_index_or f (slice_index_or scope k 0) []) is ∙ same_next k after below;
    cut = cut;
  }

  -- the variable had others
  pub cut_changed : (h : Family) → h ≡ slice_set g (slice_index_or scope j 0) (ones_of (slice_index_or masks j 0)) → family_size h < family_size g → IsCutting scope masks from (j + 1) h (with_member changed (slice_index_or scope j 0))
  cut_changed h is less = next h (with_member changed (slice_index_or scope j 0)) is (record {
    differ = λ w small none. differs w small (not_with changed (slice_index_or scope j 0) w small none);
    fewer = inr (shorter on.cut.fewer);
  })
    where
      differs : (w : ℕ) → w < 128 → (has changed w ≡ false) × (slice_index_or scope j 0 ≢ w) → slice_index_or h w [] ≡ slice_index_or from w []
      differs w small parts = ap (λ (f : Family). slice_index_or f w []) is ∙ get_or-set_other g (slice_index_or scope j 0) w (ones_of (slice_index_or masks j 0)) [] (λ e. parts.1 (sym e)) ∙ on.cut.differ w small parts.0

      shorter : AreFewer changed from g → family_size h < family_size from
      shorter (inl same) = (let size = ap family_size same.1 in omega arith)
      shorter (inr old) = omega arith

  -- the variable had the same values
  pub cut_same : (h : Family) → h ≡ slice_set g (slice_index_or scope j 0) (ones_of (slice_index_or masks j 0)) → h ≡ g → IsCutting scope masks from (j + 1) h changed
  cut_same h is same = next h changed is (subst (IsCutAt changed from) (sym same) on.cut)

pub cut_end : (scope masks : List ℕ) (from : Family) (j : ℕ) (g : Family) (changed : List ℕ) → length scope ≤ j → IsCutting scope masks from j g changed → g ≡ replaced scope (sets_for scope masks) from
cut_end scope masks from j g changed all on = ap (λ (s : List ℕ). replaced s (drop j (sets_for scope masks)) g) (sym (drop_all j scope all)) ∙ on.rest
