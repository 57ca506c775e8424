-- What a vocabulary's bytes mean: the parts of a language, or the first fault.
use Rattle.std.specs.Prelude.{◌≡◌, ℕ, ℤ, List, length, nat_lt, Option, Some, None, Result, Ok, Err}
use Rattle.std.specs.Prelude.{if◌then◌else◌}
use Rattle.std.specs.Option.{ok_or, option_map}
use Rattle.serde_json.specs.Data.{Data}
use Rattle.serde_json.specs.Read.{read}
use Rattle.language.specs.Language.{Language, Given}
use Rattle.language.specs.Building.{Frame, values_between, frame_refusal, build_refusal, IsBuilt}
use Rattle.voc_read.specs.declared.fault.VocFault.{VocFault}
use Rattle.voc_read.specs.declared.fault.VocFault.TheVariants.{TooLong, NotJson, Lang}
use Rattle.voc_read.specs.Answers.{then_on, unless}
use Rattle.voc_read.specs.Names.{names_refusal}
use Rattle.voc_read.specs.Outline.{OutlineData, held_by, outline_of}
use Rattle.voc_read.specs.Ranges.{VariableRange, ranges_of, ranges_by, HasWholeRanges}
use Rattle.voc_read.specs.Relations.{listed_relations}
use Rattle.voc_read.specs.Scopes.{scopes_stated}
use Rattle.rel_formula.specs.Json.{json_of}

-- the parts that a language is built of
pub record Parts : Type 0 where
  pub names : List (List ℕ)
  pub least_value : ℤ
  pub greatest_value : ℤ
  pub ranges : List VariableRange
  pub given : List Given
  -- the scopes that are listed, where they are
  pub listed : Option (List (List ℕ))

-- why the names and the domain are no frame of a language
abbrev pub outline_refusal : OutlineData → Option VocFault
outline_refusal outline =
    option_map Lang (frame_refusal outline.names outline.least_value outline.greatest_value)

-- the frame of the names and the domain
pub record IsFrameOf (outline : OutlineData) (frame : Frame) : Type 0 where
  pub names : frame.names ≡ outline.names
  pub least_value : frame.least_value ≡ outline.least_value
  pub value_count : frame.value_count ≡ values_between outline.least_value outline.greatest_value
  pub whole : HasWholeRanges frame

-- the parts, where the names, the domain, the ranges, the relations and the scopes are right, in
-- this order
abbrev pub parts_from : OutlineData → Result Parts VocFault
parts_from outline =
    let value_count = values_between outline.least_value outline.greatest_value in
    unless (names_refusal outline.names) (
    unless (outline_refusal outline) (
    then_on (ranges_of outline.least_value value_count outline.names outline.ranges) (λ ranges.
    then_on (listed_relations outline.least_value value_count outline.relations) (λ given.
    then_on (scopes_stated outline.names outline.listed) (λ listed.
    Ok (record {
      names = outline.names;
      least_value = outline.least_value;
      greatest_value = outline.greatest_value;
      ranges = ranges;
      given = given;
      listed = listed;
    }))))))

-- the parts that a JSON value holds
abbrev pub parts_in : Data → Result Parts VocFault
parts_in whole = then_on (held_by whole) (λ held. then_on (outline_of held) parts_from)

-- the most bytes that a vocabulary has
abbrev pub MOST_VOCABULARY : ℕ
MOST_VOCABULARY = 4194304

-- the parts that the bytes hold
unfoldable pub vocabulary_parts : List ℕ → Result Parts VocFault
vocabulary_parts bytes = if nat_lt MOST_VOCABULARY (length bytes) then Err TooLong
    else then_on (ok_or (json_of bytes) NotJson) parts_in

-- the names and the values, with those of each variable
abbrev pub frame_of : Parts → Frame
frame_of parts =
    let value_count = values_between parts.least_value parts.greatest_value in
    record {
      names = parts.names;
      least_value = parts.least_value;
      value_count = value_count;
      ranges = ranges_by (length parts.names) parts.least_value value_count parts.ranges;
    }

-- why the parts that were read make no language, or why none were read
abbrev pub refusal_after : Result Parts VocFault → Option VocFault
refusal_after (Err fault) = Some fault
refusal_after (Ok parts) =
    option_map Lang (build_refusal (length parts.names) parts.given parts.listed)

-- why a vocabulary is refused
unfoldable pub refusal_of_vocabulary : List ℕ → Option VocFault
refusal_of_vocabulary bytes = refusal_after (vocabulary_parts bytes)

-- the language that is built of the parts, where some were read
pub record IsLanguageOf (stated : Result Parts VocFault) (l : Language) : Type 0 where
  pub parts : Parts
  pub read : stated ≡ Ok parts
  pub framed : frame_refusal parts.names parts.least_value parts.greatest_value ≡ None
  pub buildable : build_refusal (length parts.names) parts.given parts.listed ≡ None
  pub built : IsBuilt (frame_of parts) parts.given parts.listed l

-- the language that a vocabulary's bytes describe
abbrev pub IsVocabulary : List ℕ → Language → Type 0
IsVocabulary bytes l = IsLanguageOf (vocabulary_parts bytes) l
