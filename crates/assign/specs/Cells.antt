-- The fields of a partial assignment as the options that they stand for.
use Rattle.std.proofs.Common.{◌≡◌, ℕ, ◌≤◌, ◌<◌, Bool, true, false, cond, List, length, map, Option}
use Rattle.std.proofs.Common.{Some, None, refl, sym, ◌∙◌, ap, arith, inl, inr}
use Rattle.std.specs.Prelude.{is_some, slice_index_or, unwrap_or}
use Rattle.std.proofs.lemmas.Bool.{cases_lt}
use Rattle.std.proofs.lemmas.List.{get_or_past}
use Rattle.std.proofs.lemmas.List.FromFn.{fill_by_all, get_or-map-range_with_len}
use Rattle.std.proofs.lemmas.List.FromFn.{length-map-range_with_len}
use Rattle.assign.specs.Assignment.{value_of, variables_of}
use Rattle.assign.specs.SetLemmas.{set_where-same}
use Rattle.assign.specs.Sets.{numbers, has, set_where}
use Rattle.assign.specs.declared.assignment.Partial.TheInside.{Inside}

-- the option of a variable
abbrev pub option_at : Inside → ℕ → Option ℕ
option_at a v = cond (has a.valued v) (Some (slice_index_or a.values v 0)) None

-- the options of the variables
abbrev pub seen : Inside → List (Option ℕ)
seen a = map (option_at a) (numbers a.n)

-- There are 1 to 128 variables. Only they have values, and 0 stands for each other one.
pub record IsCells (a : Inside) : Type 0 where
  pub some : 1 ≤ a.n
  pub fits : a.n ≤ 128
  pub set : set_where (has a.valued) ≡ a.valued
  pub within : (v : ℕ) → a.n ≤ v → v < 128 → has a.valued v ≡ false
  pub whole : length a.values ≡ 128
  pub rest : (v : ℕ) → v < 128 → has a.valued v ≡ false → slice_index_or a.values v 0 ≡ 0

-- the values of 128 variables, 0 where there is none
unfoldable pub values_of : List (Option ℕ) → List ℕ
values_of xs = map (λ v. unwrap_or (value_of xs v) 0) (numbers 128)

-- the fields that stand for these options
abbrev pub cells_of : List (Option ℕ) → Inside
cells_of xs = record { n = length xs; valued = variables_of xs; values = values_of xs }

-- ---- what is seen of the fields, and the fields of what is seen

pub length-seen : (a : Inside) → length (seen a) ≡ a.n
length-seen a = length-map-range_with_len (option_at a) 0 a.n

pub value_of-seen : (a : Inside) → IsCells a → (v : ℕ) → v < 128 →
    value_of (seen a) v ≡ option_at a v
value_of-seen a h v low =
    elim (cases_lt v a.n) as (λ _. value_of (seen a) v ≡ option_at a v) [
      | inl here ↦ get_or-map-range_with_len (option_at a) 0 a.n v v None here (omega arith)
      | inr past ↦ get_or_past (seen a) v None (omega (arith, length-seen a))
          ∙ sym (ap (λ b. cond b (Some (slice_index_or a.values v 0)) None) (h.within v past low))
    ]

pub is_some-cond : (b : Bool) (x : ℕ) → is_some (let o : Option ℕ = cond b (Some x) None in o) ≡ b
is_some-cond true x = refl
is_some-cond false x = refl

pub variables_of-seen : (a : Inside) → IsCells a → variables_of (seen a) ≡ a.valued
variables_of-seen a h = set_where-same _ _ (λ v low. ap is_some (value_of-seen a h v low)
    ∙ is_some-cond (has a.valued v) _) ∙ h.set

value_or_0 : (b : Bool) (x : ℕ) → (b ≡ false → x ≡ 0) → x ≡ unwrap_or (cond b (Some x) None) 0
value_or_0 true x h = refl
value_or_0 false x h = h refl

pub made : (n : ℕ) (set values : List ℕ) (a : Inside) → n ≡ a.n → set ≡ a.valued →
    values ≡ a.values → (let x : Inside = record { n = n; valued = set; values = values } in x) ≡ a
made n set values a e f g i = record { n = e i; valued = f i; values = g i }

pub cells_of-seen : (a : Inside) → IsCells a → cells_of (seen a) ≡ a
unfolding values_of
cells_of-seen a h = made _ _ _ a (length-seen a) (variables_of-seen a h)
    (sym (fill_by_all (λ v. unwrap_or (value_of (seen a) v) 0) a.values 128 0 h.whole
    (λ v low. value_or_0 (has a.valued v) _ (h.rest v low)
    ∙ sym (ap (λ o. unwrap_or o 0) (value_of-seen a h v low)))))
