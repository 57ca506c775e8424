-- Each list of bytes is the text of a language, or is refused.
use Rattle.voc_read.proofs.Prelude.{◌≡◌, ℕ, ◌≤◌, ◌==◌, Bool, true, false, cond, ◌&&◌, nat_lt, List, [], ◌∷◌, length, get_or, Option, Some, None, ℤ, pos, negsuc, Result, Ok, Err, refl, ap, ◌∙◌, subst, arith, ◌⊎◌, inl, inr, All, int_le, ◌≤ℤ◌, ◌<ℤ◌, ◌+ℤ◌, ◌-ℤ◌, unsigned_abs, passes, range_with_len, ok_or, option_map, option_or, and_parts, ltb-false, ints, All-head, All-tail, All-map, length-map-range_with_len, Items, Language, Given, IsRange, IsFrame, AreKnown, is_domain, values_between, range_between, frame_refusal, build_refusal, closing_refusal, scopes_refusal, scopes_built, has_too_many, ValueRange, LangFault, VocFault, TooLong, NotJson, Lang, then_on, unless, EachVocabularyIsReadOrRefused, names_refusal, OutlineData, held_by, outline_of, VariableRange, values_for, ranges_of, IsKnown, listed_relations, scopes_from, scopes_stated, Parts, outline_refusal, parts_from, parts_in, vocabulary_parts, json_of, frame_of, MOST_VOCABULARY, refusal_after, refusal_of_vocabulary, IsLanguageOf, lang_wants, wants_memory}
use Rattle.language.specs.declared.parts.LangFault.TheVariants.{TooManyVariables, BadDomain, TooManyScopes}
use Rattle.language.proofs.Arities.{each_arity}
use Rattle.language.proofs.Lawful.{are_scopes, known_in, taken}
use Rattle.language.proofs.Domains.{domain_is}
use Rattle.voc_read.proofs.Buildable.{IsBuildable, built}
use Rattle.voc_read.proofs.Faults.{NoWant, OfErr, real, build_read}
use Rattle.voc_read.proofs.KnownRanges.{are_known}
use Rattle.voc_read.proofs.KnownScopes.{known}
use Rattle.voc_read.proofs.NameForms.{AreNames-accepted}
use Rattle.voc_read.proofs.Readings.{OfOk, AreGiven, given_right}
use Rattle.shared_lemmas.proofs.Read.{map_none, or_none}

-- ---- What was read before the end

then_ok : {A B : Type 0} (r : Result A VocFault) (next : A → Result B VocFault) (b : B) → then_on r next ≡ Ok b → (a : A) × (r ≡ Ok a) × (next a ≡ Ok b)
then_ok (Ok a) next b h = (a, refl, h)
then_ok (Err fault) next b h = absurd (cc)

unless_ok : {A : Type 0} (refusal : Option VocFault) (next : Result A VocFault) (a : A) → unless refusal next ≡ Ok a → (refusal ≡ None) × (next ≡ Ok a)
unless_ok None next a h = (refl, h)
unless_ok (Some fault) next a h = absurd (cc)

no_fault : (fault : Option LangFault) → option_map Lang fault ≡ None → fault ≡ None
no_fault None h = refl
no_fault (Some fault) h = absurd (cc)

-- what was read as parts of a language
record AreParts (parts : Parts) : Type 0 where
  pub names : names_refusal parts.names ≡ None
  pub framed : frame_refusal parts.names parts.least_value parts.greatest_value ≡ None
  pub ranges : All (IsKnown parts.names parts.least_value (values_between parts.least_value parts.greatest_value)) parts.ranges
  pub given : AreGiven (values_between parts.least_value parts.greatest_value) parts.given
  pub known : AreKnown (length parts.names) parts.listed

listed_known : (names : List (List ℕ)) (items : Option Items) (listed : Option (List (List ℕ))) → scopes_stated names items ≡ Ok listed → AreKnown (length names) listed
listed_known names None listed is =
    let none : None ≡ listed = (let e : (let r : Result (Option (List (List ℕ))) VocFault = Ok None in r) ≡ Ok listed = is in cc) in
    subst (AreKnown (length names)) none tt
listed_known names (Some items) listed is =
    let read = then_ok (scopes_from 0 names items) _ listed is in
    let some : Some read.0 ≡ listed = (let e : (let r : Result (Option (List (List ℕ))) VocFault = Ok (Some read.0) in r) ≡ Ok listed = read.2 in cc) in
    subst (AreKnown (length names)) some (known names items read.0 read.1)

same_parts : (one other : Parts) → (let read : Result Parts VocFault = Ok one in read) ≡ Ok other → one ≡ other
same_parts one other is = cc

are_parts : (o : OutlineData) (parts : Parts) → parts_from o ≡ Ok parts → AreParts parts
are_parts o parts is =
    let d : ℕ = values_between o.least_value o.greatest_value in
    let named = unless_ok (names_refusal o.names) _ parts is in
    let framed = unless_ok (outline_refusal o) _ parts named.1 in
    let ranges = then_ok (ranges_of o.least_value d o.names o.ranges) _ parts framed.1 in
    let given = then_ok (listed_relations o.least_value d o.relations) _ parts ranges.2 in
    let listed = then_ok (scopes_stated o.names o.listed) _ parts given.2 in
    let whole : Parts = record { names = o.names; least_value = o.least_value; greatest_value = o.greatest_value; ranges = ranges.0; given = given.0; listed = listed.0 } in
    let all : AreParts whole = record {
      names = named.0;
      framed = no_fault (frame_refusal o.names o.least_value o.greatest_value) framed.0;
      ranges = (are_known o.least_value d o.names o.ranges ranges.0 ranges.1).0;
      given = subst (OfOk (AreGiven d)) given.1 (given_right o.least_value d o.relations);
      known = listed_known o.names o.listed listed.0 listed.1;
    } in
    subst AreParts (same_parts whole parts listed.2) all

when_short : (b : Bool) (fault : VocFault) (rest : Result Parts VocFault) (parts : Parts) → cond b (Err fault) rest ≡ Ok parts → rest ≡ Ok parts
when_short true fault rest parts h = absurd (cc)
when_short false fault rest parts h = h

parts_read : (bytes : List ℕ) (parts : Parts) → vocabulary_parts bytes ≡ Ok parts → AreParts parts
unfolding vocabulary_parts
parts_read bytes parts is =
    let text = then_ok (ok_or (json_of bytes) NotJson) parts_in parts (when_short (nat_lt MOST_VOCABULARY (length bytes)) TooLong (then_on (ok_or (json_of bytes) NotJson) parts_in) parts is) in
    let held = then_ok (held_by text.0) _ parts text.2 in
    let outline = then_ok (outline_of held.0) parts_from parts held.2 in
    are_parts outline.0 parts outline.2

-- ---- The frame

as_pos : (z : ℤ) → pos 0 ≤ℤ z → pos (unsigned_abs z) ≡ z
as_pos (pos n) h = refl
as_pos (negsuc n) h = absurd (omega (arith, ints, h))

-- a value's number is how far it lies above the least one
above : (lo x : ℤ) → lo ≤ℤ x → (lo +ℤ pos (unsigned_abs (x -ℤ lo))) ≡ x
above lo x h = let is = as_pos (x -ℤ lo) (omega (arith, ints, h)) in omega (arith, ints, is)

record HasFewValues (lo hi : ℤ) : Type 0 where
  pub some_value : 1 ≤ values_between lo hi
  pub few_values : values_between lo hi ≤ 64
  pub low : negsuc 999999 ≤ℤ lo
  pub high : (lo +ℤ pos (values_between lo hi)) ≤ℤ pos 1000001

few_values_in : (lo hi : ℤ) → is_domain lo hi ≡ true → HasFewValues lo hi
few_values_in lo hi h =
    let is = domain_is lo hi h in
    let few = is.few in
    let below = is.high in
    let size : (lo +ℤ pos (unsigned_abs (hi -ℤ lo))) ≡ hi = above lo hi is.rises in
    record { some_value = omega arith; few_values = omega (arith, ints, size, few); low = is.low; high = omega (arith, ints, size, below) }

no_frame : (many right : Bool) → cond many (Some TooManyVariables) (cond right None (Some BadDomain)) ≡ None → (many ≡ false) × (right ≡ true)
no_frame true right h = absurd (cc)
no_frame false true h = (refl, refl)
no_frame false false h = absurd (cc)

record HasFrame (names : List (List ℕ)) (lo hi : ℤ) : Type 0 where
  pub some : 1 ≤ length names
  pub few : length names ≤ 128
  pub values : HasFewValues lo hi

frame_right : (names : List (List ℕ)) (lo hi : ℤ) → frame_refusal names lo hi ≡ None → HasFrame names lo hi
frame_right [] lo hi h = absurd (cc)
frame_right (name ∷ names) lo hi h =
    let right = no_frame (nat_lt 128 (length (name ∷ names))) (is_domain lo hi) h in
    record { some = omega arith; few = ltb-false 128 (length (name ∷ names)) right.0; values = few_values_in lo hi right.1 }

between : (lo : ℤ) (count : ℕ) (first last : ℤ) → lo ≤ℤ first → first ≤ℤ last → last <ℤ (lo +ℤ pos count) → IsRange count (range_between lo first last)
between lo count first last low some high =
    let one = above lo first low in
    let other = above lo last (omega (arith, ints, low, some)) in
    record { some = omega (arith, ints, one, other, some); known = omega (arith, ints, other, high) }

either : (b : Bool) (count : ℕ) (one other : ValueRange) → IsRange count one → IsRange count other → IsRange count (cond b one other)
either true count one other is was = is
either false count one other is was = was

range_right : (names : List (List ℕ)) (lo : ℤ) (count : ℕ) (ranges : List VariableRange) → 1 ≤ count → All (IsKnown names lo count) ranges → (v : ℕ) → IsRange count (values_for lo count ranges v)
range_right names lo count [] some known v = record { some = omega arith; known = omega (arith, some) }
range_right names lo count (range ∷ ranges) some known v =
    let here = All-head (IsKnown names lo count) range ranges known in
    either (range.variable == v) count _ _ (between lo count range.lowest range.highest here.low here.some here.high)
    (range_right names lo count ranges some (All-tail (IsKnown names lo count) range ranges known) v)

is_frame : (parts : Parts) → AreParts parts → IsFrame (frame_of parts)
is_frame parts read =
    let count : ℕ = values_between parts.least_value parts.greatest_value in
    let frame = frame_right parts.names parts.least_value parts.greatest_value read.framed in
    let n : ℕ = length parts.names in
    record {
      some_variable = frame.some;
      few_variables = frame.few;
      names = AreNames-accepted parts.names read.names;
      some_value = frame.values.some_value;
      few_values = frame.values.few_values;
      low = frame.values.low;
      high = frame.values.high;
      ranged = length-map-range_with_len (values_for parts.least_value count parts.ranges) 0 n;
      ranges = All-map (IsRange count) (values_for parts.least_value count parts.ranges) (range_with_len 0 n)
          (λ k d low. range_right parts.names parts.least_value count parts.ranges frame.values.some_value read.ranges (get_or (range_with_len 0 n) k d));
    }

-- ---- The language

none_found : {X : Type 0} (b : Bool) (x : X) (rest : Option X) → cond b (Some x) rest ≡ None → (b ≡ false) × (rest ≡ None)
none_found true x rest h = absurd (cc)
none_found false x rest h = (refl, h)

few : (given : List Given) → closing_refusal given ≡ None → (arity : ℕ) → 1 ≤ arity → arity ≤ 4 → has_too_many given arity ≡ false
few given h =
    let one = none_found (has_too_many given 1) 1 _ (map_none _ _ h) in
    let two = none_found (has_too_many given 2) 2 _ one.1 in
    let three = none_found (has_too_many given 3) 3 _ two.1 in
    let four = none_found (has_too_many given 4) 4 _ three.1 in
    each_arity (λ arity. has_too_many given arity ≡ false) one.0 two.0 three.0 four.0

record IsUnrefused (n : ℕ) (given : List Given) (listed : Option (List (List ℕ))) : Type 0 where
  pub scopes : scopes_refusal given (scopes_built n given listed) ≡ None
  pub closing : closing_refusal given ≡ None

unrefused : (n : ℕ) (given : List Given) (listed : Option (List (List ℕ))) → build_refusal n given listed ≡ None → IsUnrefused n given listed
unrefused n [] listed h = absurd (cc)
unrefused n (g ∷ given) listed h = let both = or_none _ _ h in record { scopes = both.0; closing = both.1 }

buildable : (parts : Parts) → AreParts parts → build_refusal (length parts.names) parts.given parts.listed ≡ None
    → IsBuildable (frame_of parts) parts.given (scopes_built (length parts.names) parts.given parts.listed)
buildable parts read h =
    let n : ℕ = length parts.names in
    let scopes : List (List ℕ) = scopes_built n parts.given parts.listed in
    let right = unrefused n parts.given parts.listed h in
    let order = or_none _ _ right.scopes in
    let count = none_found (nat_lt 8192 (length scopes)) TooManyScopes _ order.1 in
    let kept = taken parts.given scopes order.1 in
    record {
      is_frame = is_frame parts read;
      names = read.given.names;
      right = read.given.right;
      few_scopes = ltb-false 8192 (length scopes) count.0;
      scopes = are_scopes n scopes (map_none _ _ order.0) (known_in n parts.given parts.listed read.known);
      apart = kept.apart;
      used = kept.used;
      few = few parts.given right.closing;
    }

-- ---- The whole

abbrev IsTold : Result Parts VocFault → Type 0
IsTold stated = ((l : Language) × IsLanguageOf stated l) ⊎ ((fault : VocFault) × (wants_memory fault ≡ false) × (refusal_after stated ≡ Some fault))

when_parts : (stated : Result Parts VocFault) (parts : Parts) → stated ≡ Ok parts → AreParts parts → (fault : Option LangFault) → build_refusal (length parts.names) parts.given parts.listed ≡ fault → IsTold stated
when_parts stated parts is read (Some fault) refused = inr (Lang fault, subst (NoWant lang_wants) refused (build_read (length parts.names) parts.given parts.listed), ap refusal_after is ∙ ap (λ f. option_map Lang f) refused)
when_parts stated parts is read None unrefused =
    let language = built (frame_of parts) parts.given parts.listed (buildable parts read unrefused) in
    inl (language.0, record { parts = parts; read = is; framed = read.framed; buildable = unrefused; built = language.1 })

told : (stated answer : Result Parts VocFault) → stated ≡ answer → OfErr answer → ((parts : Parts) → stated ≡ Ok parts → AreParts parts) → IsTold stated
told stated (Err fault) is own read = inr (fault, own, ap refusal_after is)
told stated (Ok parts) is own read = when_parts stated parts is (read parts is) (build_refusal (length parts.names) parts.given parts.listed) refl

pub each_text : EachVocabularyIsReadOrRefused
unfolding refusal_of_vocabulary
each_text bytes = told (vocabulary_parts bytes) (vocabulary_parts bytes) refl (real bytes) (parts_read bytes)
