-- The eight parts of a language's candidates.
use Rattle.std.specs.Prelude.{ℕ, ◌≡◌, ◌<◌, ◌+◌, ◌*◌, List, length, replicate, min, All, vec_len}
use Rattle.std.specs.Prelude.{slice_index_or}
use Rattle.language.specs.declared.candidates.Candidate.{Candidate}
use Rattle.language.specs.Language.{Language, candidates}
use Rattle.query_gen.specs.declared.place.Place.{Place}
use Rattle.query_gen.specs.declared.query.Query.TheVariants.{AllImplied}
use Rattle.query_gen.specs.Parts.{part_size, IsSearched}

-- the number of a part's first candidate; the part before it ends there
abbrev pub part_start : Language → ℕ → ℕ
part_start l part = min (length (candidates l)) (part * part_size l)

-- each place has a byte for each candidate of a part
abbrev pub AreMadeFor : Language → List Place → Type 0
AreMadeFor l places = All (λ (p : Place). vec_len p.marks ≡ part_size l) places

-- each is as it was made: no candidate's byte is set, and nothing was found
abbrev pub AreNew : Language → List Place → Type 0
AreNew l places = All (λ (p : Place). (p.marks.items ≡ replicate (part_size l) 0)
    × (p.answer ≡ AllImplied)) places

-- each place is as the search of its part left it
abbrev pub AreSearched : Language → List Candidate → List Candidate → ℕ → List Place → Type 0
AreSearched l network kept budget places =
    (part : ℕ) (d : Place) → part < 8 →
    IsSearched l network kept budget (part_start l part) (part_start l (part + 1))
    (slice_index_or places part d).marks.items (slice_index_or places part d).answer
