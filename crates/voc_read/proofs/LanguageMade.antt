-- The language that is built of what was read, or the fault that is met.
use Rattle.voc_read.proofs.Prelude.{◌≡◌, ℕ, ℤ, List, length, Option, Some, None, Result, Ok, Err, refl, ap, ◌∙◌, subst, Language, Given, LangFault, VocFault, Lang, names_refusal, OutlineData, VariableRange, ranges_of, ranges_by, with_ranges, listed_relations, scopes_stated, Parts, outline_refusal, parts_from, refusal_after, IsFrameOf, IsLanguageOf}
use Rattle.std.proofs.Common.{option_map}
use Rattle.language.specs.Building as build

-- what was read, over these values
pub record AreRead (o : OutlineData) (frame set : build.Frame) (least_value : ℤ) (value_count : ℕ) (found : List VariableRange) (given : List Given) (listed : Option (List (List ℕ))) : Type 0 where
  pub named : names_refusal o.names ≡ None
  pub outlined : outline_refusal o ≡ None
  pub framed : IsFrameOf o frame
  pub least : least_value ≡ frame.least_value
  pub count : value_count ≡ frame.value_count
  pub ranges : ranges_of least_value value_count o.names o.ranges ≡ Ok found
  pub relations : listed_relations least_value value_count o.relations ≡ Ok given
  pub scopes : scopes_stated o.names o.listed ≡ Ok listed
  pub sets : set ≡ with_ranges frame found

module _ (o : OutlineData) (frame set : build.Frame) (least_value : ℤ) (value_count : ℕ) (found : List VariableRange) (given : List Given) (listed : Option (List (List ℕ)))
    (read : AreRead o frame set least_value value_count found given listed) where
  values : ℕ
  values = build.values_between o.least_value o.greatest_value

  parts : Parts
  parts = record { names = o.names; least_value = o.least_value; greatest_value = o.greatest_value; ranges = found; given = given; listed = listed }

  same_names : set.names ≡ o.names
  same_names = ap (λ (f : build.Frame). f.names) read.sets ∙ read.framed.names

  are_parts : parts_from o ≡ Ok parts
  unfolding parts values
  are_parts =
      let low : least_value ≡ o.least_value = read.least ∙ read.framed.least_value in
      let many : value_count ≡ values = read.count ∙ read.framed.value_count in
      let ranges : ranges_of o.least_value values o.names o.ranges ≡ Ok found =
      subst (λ n. ranges_of o.least_value n o.names o.ranges ≡ Ok found) many (subst (λ x. ranges_of x value_count o.names o.ranges ≡ Ok found) low read.ranges) in
      let relations : listed_relations o.least_value values o.relations ≡ Ok given =
      subst (λ n. listed_relations o.least_value n o.relations ≡ Ok given) many (subst (λ x. listed_relations x value_count o.relations ≡ Ok given) low read.relations) in
      rw (read.named, read.outlined, ranges, relations, read.scopes) refl

  no_fault : (fault : Option LangFault) → option_map Lang fault ≡ None → fault ≡ None
  no_fault None h = refl
  no_fault (Some fault) h = absurd (cc)

  pub is_language : (l : Language) → build.build_refusal (length set.names) given listed ≡ None → build.IsBuilt set given listed l → IsLanguageOf (parts_from o) l
  unfolding parts values
  is_language l made built =
      let as_set : build.IsBuilt (with_ranges frame found) given listed l = subst (λ (f : build.Frame). build.IsBuilt f given listed l) read.sets built in
      record {
        parts = parts;
        read = are_parts;
        framed = no_fault (build.frame_refusal o.names o.least_value o.greatest_value) read.outlined;
        buildable = subst (λ names. build.build_refusal (length names) given listed ≡ None) same_names made;
        built = record {
          names = as_set.names ∙ read.framed.names;
          least_value = as_set.least_value ∙ read.framed.least_value;
          value_count = as_set.value_count ∙ read.framed.value_count;
          ranges = as_set.ranges ∙ (λ i. ranges_by (length (read.framed.names i)) (read.framed.least_value i) (read.framed.value_count i) found);
          given = as_set.given;
          scopes = as_set.scopes ∙ ap (λ names. build.scopes_of (length names) given listed) read.framed.names;
          each = as_set.each;
          lawful = as_set.lawful;
        };
      }

  pub is_refused : (fault : LangFault) → build.build_refusal (length set.names) given listed ≡ Some fault → refusal_after (parts_from o) ≡ Some (Lang fault)
  unfolding parts
  is_refused fault refused =
      let stated : build.build_refusal (length o.names) given listed ≡ Some fault = subst (λ names. build.build_refusal (length names) given listed ≡ Some fault) same_names refused in
      ap refusal_after are_parts ∙ ap (λ f. option_map Lang f) stated

-- ---- why nothing was built

pub names_refused : (o : OutlineData) (fault : VocFault) → names_refusal o.names ≡ Some fault → refusal_after (parts_from o) ≡ Some fault
names_refused o fault refused = rw refused refl

pub outline_refused : (o : OutlineData) (fault : VocFault) → names_refusal o.names ≡ None → outline_refusal o ≡ Some fault → refusal_after (parts_from o) ≡ Some fault
outline_refused o fault named refused = rw (named, refused) refl

module _ (o : OutlineData) (frame : build.Frame) (least_value : ℤ) (value_count : ℕ) (fault : VocFault)
    (named : names_refusal o.names ≡ None) (outlined : outline_refusal o ≡ None) (framed : IsFrameOf o frame) (least : least_value ≡ frame.least_value) (count : value_count ≡ frame.value_count) where
  same_values : {A : Type 0} (f : ℤ → ℕ → Result A VocFault) (r : Result A VocFault) → f least_value value_count ≡ r → f o.least_value (build.values_between o.least_value o.greatest_value) ≡ r
  same_values f r is =
      subst (λ n. f o.least_value n ≡ r) (count ∙ framed.value_count) (subst (λ x. f x value_count ≡ r) (least ∙ framed.least_value) is)

  pub ranges_refused : ranges_of least_value value_count o.names o.ranges ≡ Err fault → refusal_after (parts_from o) ≡ Some fault
  ranges_refused refused =
      let here = same_values (λ x n. ranges_of x n o.names o.ranges) (Err fault) refused in
      rw (named, outlined, here) refl

  pub relations_refused : (found : List VariableRange) → ranges_of least_value value_count o.names o.ranges ≡ Ok found → listed_relations least_value value_count o.relations ≡ Err fault → refusal_after (parts_from o) ≡ Some fault
  relations_refused found ranges refused =
      let before = same_values (λ x n. ranges_of x n o.names o.ranges) (Ok found) ranges in
      let here = same_values (λ x n. listed_relations x n o.relations) (Err fault) refused in
      rw (named, outlined, before, here) refl

  pub scopes_refused : (found : List VariableRange) (given : List Given) → ranges_of least_value value_count o.names o.ranges ≡ Ok found → listed_relations least_value value_count o.relations ≡ Ok given →
      scopes_stated o.names o.listed ≡ Err fault → refusal_after (parts_from o) ≡ Some fault
  scopes_refused found given ranges relations refused =
      let before = same_values (λ x n. ranges_of x n o.names o.ranges) (Ok found) ranges in
      let between = same_values (λ x n. listed_relations x n o.relations) (Ok given) relations in
      rw (named, outlined, before, between, refused) refl
