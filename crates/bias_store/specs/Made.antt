-- The tables of masks as they are made, one scope after another.
use Rattle.std.specs.Prelude.{ℕ, ◌≡◌, ◌≢◌, ◌<◌, ◌≤◌, ◌+◌, ◌^◌, true, false, List, [], All, length}
use Rattle.std.specs.Prelude.{slice_index_or}
use Rattle.std.specs.List.{filter}
use Rattle.assign.specs.Sets.{numbers, ones_of}
use Rattle.rel_table.specs.Relation.{Relation}
use Rattle.language.specs.Language.{Language, scope_at, relations_on, is_whole}
use Rattle.language.specs.Pairs.{ArePairTables, IsPairTableOn}
use Rattle.bias_store.specs.Accepting.{mask_in, IsTableOf}
use Rattle.bias_store.specs.declared.tables.Class.{Class}
use Rattle.bias_store.specs.declared.tables.Made.{Made}
use Rattle.bias_store.specs.declared.tables.TheConstants.{NO_TABLE}

-- the relations on a scope of two variables have the tables of these numbers, one after another
pub record HasTables (l : Language) (s : ℕ) (tables : List ℕ) : Type 0 where
  pub count : length tables ≡ length (relations_on l s)
  pub on : (r : ℕ) → r < length tables → IsPairTableOn l s r (slice_index_or tables r 0)

-- of relations with the tables of these numbers those that accept the pair at a place, rising
abbrev pub accepting_by : List Relation → List ℕ → ℕ → List ℕ
accepting_by pairs tables place =
    filter (λ r. slice_index_or (slice_index_or pairs (slice_index_or tables r 0) []) place false)
    (numbers (length tables))

-- the mask is theirs
abbrev pub AcceptBy : Language → List ℕ → ℕ → ℕ → Type 0
AcceptBy l tables place mask = (pairs : List Relation) → ArePairTables l pairs →
    ones_of mask ≡ accepting_by pairs tables place

-- their masks begin here
pub record HasMasksAt (l : Language) (tables masks : List ℕ) (begin : ℕ) : Type 0 where
  pub inside : begin + l.value_count ^ 2 ≤ length masks
  pub each : (place : ℕ) → place < l.value_count ^ 2 →
      AcceptBy l tables place (mask_in masks begin place)

-- those of each class begin where it says
abbrev pub AreClasses : Language → List Class → List ℕ → Type 0
AreClasses l classes masks = All (λ (c : Class). HasMasksAt l c.tables.items masks c.begin) classes

-- for each number of variables the table of the scopes with so many, all of whose variables have
-- all values, begins here, if it was made
pub record AreBegun (l : Language) (begins masks : List ℕ) : Type 0 where
  pub long : length begins ≡ 5
  pub tables : (s : ℕ) → s < length l.scopes → is_whole l s ≡ true →
      slice_index_or begins (length (scope_at l s)) 0 ≢ NO_TABLE →
      IsTableOf l s masks (slice_index_or begins (length (scope_at l s)) 0)

-- what was made for some scopes is right
pub record IsMadeOfScopes (l : Language) (m : Made) : Type 0 where
  pub classes : AreClasses l m.classes.items m.masks.items
  pub begins : AreBegun l m.begins m.masks.items

-- the masks stay, and there may be more behind them
pub record AreWider (before masks : List ℕ) : Type 0 where
  pub longer : length before ≤ length masks
  pub same : (i : ℕ) → i < length before → slice_index_or masks i 0 ≡ slice_index_or before i 0
