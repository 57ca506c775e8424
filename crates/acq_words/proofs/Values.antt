-- The values that the options have in a parse that succeeds.
use Rattle.acq_words.proofs.Prelude.{◌≡◌, ◌∙◌, ◌<◌, ◌≤◌, ◌==◌, ℕ, Bool, true, false, cond, List, [], ◌∷◌, length, drop, map, Option, Some, None, option_map, refl, sym, subst, ap, inl, inr, arith, codes, Bor, Err, Ok, Result, find, option_and_then, pos, slice_get, unwrap_or, All, list_all, slice_index_or, bytes_eq, IsNumeral, ParsesUnsigned, digits_value, starts_with_minus, without_leading_plus, cases_lt, ne_eqb, All-from_recursion, All-get_or, digit_from_value, Entry, EntryPasses, HasReading, IsParsed, PassesArg, args_of, groups_of, parser_of, parser_of_value, without_minus, found_of, Row, Rule, Text, first_of, one_of, row_text, rows_of, rule_of, app_of, Reading, ArgMatches, line, HasNumber, HaveNumbers, IsNumberIn, digits_number, Name, budget, id_of, number, plan, rule_named}
use Rattle.std.proofs.lemmas.Int.{ints}
use Rattle.std.proofs.lemmas.List.{get_or-map, length-map}
use Rattle.std.proofs.lemmas.Slice.Eq.{bytes_eq-Decides}
use Rattle.clap.specs.Built.{IsAuto, IsParsedFrom, SameRules}
use Rattle.clap.specs.Matches.{ReadsOne, first_value, has_subcommand, matched_of, one_text}
use Rattle.clap.specs.Values.{Accepts, IsSignedIn, read_as, reading_of}
use Rattle.clap.specs.Walk.{row_of}
use Rattle.clap.specs.declared.builder.arg.Arg.{Arg}
use Rattle.clap.specs.declared.builder.command.Command.{Command}
use Rattle.clap.specs.declared.builder.value_parser.ValueParser.{ValueParser}
use Rattle.clap.specs.declared.builder.value_parser.ValueParser.TheVariants as vp
use Rattle.clap.specs.declared.parser.matches.Found.{Found}
use Rattle.clap.specs.declared.parser.matches.MatchedArg.{MatchedArg}
use Rattle.clap.proofs.CallerLemmas.{entry_by_id}
use Rattle.clap.proofs.SimpleLemmas.{plain_fields, simple_groups}

-- ---- What the getters read is in the rows

head_text : (vs : List (Bor Text)) → slice_get (map (λ s. s.now) vs) 0 ≡ option_map (λ s. s.now) (slice_get vs 0)
head_text [] = refl
head_text (v ∷ vs) = refl

read_head : (how : Reading) (vs : List (Bor Text)) → option_map (read_as how) (slice_get (map (λ s. s.now) vs) 0) ≡ option_map (λ s. read_as how s.now) (slice_get vs 0)
read_head how [] = refl
read_head how (v ∷ vs) = refl

abbrev entry_in : Option Entry → Option MatchedArg
entry_in o = option_map (λ e. e.1) o

abbrev first_in : Option Row → Option Text
first_in o = option_and_then (λ r. slice_get r.values 0) o

abbrev first_at : Option MatchedArg → Option Text
first_at o = option_and_then (λ a. option_map (λ s. s.now) (slice_get a.vals.items 0)) o

abbrev one_at : Option MatchedArg → Option Text
one_at o = option_and_then (λ a. option_map (λ s. read_as a.reading s.now) (slice_get a.vals.items 0)) o

first_link : (es : List Entry) (id : Text) → first_in (find (λ r. bytes_eq r.id id) (map row_of es)) ≡ first_at (entry_in (find (λ e. bytes_eq e.0.now id) es))
first_link [] id = refl
first_link (e ∷ es) id = go (bytes_eq e.0.now id) (find (λ r. bytes_eq r.id id) (map row_of es)) (find (λ e. bytes_eq e.0.now id) es) (first_link es id)
  where
    go : (b : Bool) (rows : Option Row) (entries : Option Entry) → first_in rows ≡ first_at (entry_in entries) → first_in (cond b (Some (row_of e)) rows) ≡ first_at (entry_in (cond b (Some e) entries))
    go true rows entries rest = head_text e.1.vals.items
    go false rows entries rest = rest

one_link : (es : List Entry) (id : Text) → option_and_then row_text (find (λ r. bytes_eq r.id id) (map row_of es)) ≡ one_at (entry_in (find (λ e. bytes_eq e.0.now id) es))
one_link [] id = refl
one_link (e ∷ es) id = go (bytes_eq e.0.now id) (find (λ r. bytes_eq r.id id) (map row_of es)) (find (λ e. bytes_eq e.0.now id) es) (one_link es id)
  where
    go : (b : Bool) (rows : Option Row) (entries : Option Entry) → option_and_then row_text rows ≡ one_at (entry_in entries) → option_and_then row_text (cond b (Some (row_of e)) rows) ≡ one_at (entry_in (cond b (Some e) entries))
    go true rows entries rest = read_head e.1.reading e.1.vals.items
    go false rows entries rest = rest

pub first_value_is : (f : Found) (id : Text) → first_value f id ≡ first_of id (rows_of f)
first_value_is f id = sym (first_link f.entries.items id)

pub one_text_is : (f : Found) (id : Text) → one_text f id ≡ one_of id (rows_of f)
one_text_is f id = sym (one_link f.entries.items id)

-- ---- Which parser an argument has

-- an argument of this name has its parser
abbrev HasParser : Name → Rule → Type 0
HasParser name r = bytes_eq r.id (id_of name) ≡ true → (r.parser ≡ (rule_named name).parser) × (r.ignore_case ≡ false)

line_parsers : (name : Name) → All (HasParser name) line.top.rules
line_parsers plan = All-from_recursion (HasParser plan) line.top.rules ((λ e. cc), ((λ e. cc), ((λ e. (refl, refl)), ((λ e. cc), ((λ e. cc), tt)))))
line_parsers budget = All-from_recursion (HasParser budget) line.top.rules ((λ e. cc), ((λ e. cc), ((λ e. cc), ((λ e. (refl, refl)), ((λ e. cc), tt)))))
line_parsers number = All-from_recursion (HasParser number) line.top.rules ((λ e. cc), ((λ e. cc), ((λ e. cc), ((λ e. cc), ((λ e. (refl, refl)), tt)))))

help_differs : (name : Name) → bytes_eq (codes "help") (id_of name) ≡ true → ⊥
help_differs plan e = cc
help_differs budget e = cc
help_differs number e = cc

version_differs : (name : Name) → bytes_eq (codes "version") (id_of name) ≡ true → ⊥
version_differs plan e = cc
version_differs budget e = cc
version_differs number e = cc

id_not_empty : (name : Name) → bytes_eq (id_of name) [] ≡ true → ⊥
id_not_empty plan e = cc
id_not_empty budget e = cc
id_not_empty number e = cc

module _ (old : Command) (m : ArgMatches) (p : IsParsedFrom old m) (is : app_of old ≡ line) (name : Name) where
  old_has : (k : ℕ) (d : Arg) → k < length (args_of old) → HasParser name (rule_of (slice_index_or (args_of old) k d))
  old_has k d inside =
      let all : All (HasParser name) (map rule_of (args_of old)) = subst (All (HasParser name)) (sym (ap (λ a. a.top.rules) is)) (line_parsers name) in
      let inside' : k < length (map rule_of (args_of old)) = subst (λ n. k < n) (sym (length-map (args_of old) rule_of)) inside in
      subst (HasParser name) (get_or-map rule_of (args_of old) k d (rule_of d) inside) (All-get_or (HasParser name) (map rule_of (args_of old)) k (rule_of d) inside' all)

  same_has : (a b : Arg) → SameRules a b → HasParser name (rule_of a) → (q : ValueParser) → (rule_named name).parser ≡ Some q → bytes_eq b.id.now (id_of name) ≡ true → (parser_of b ≡ q) × (b.ignore_case ≡ false)
  same_has a b s has q parser id =
      let h = has (ap (λ i. bytes_eq i.now (id_of name)) (sym s.id) ∙ id) in
      (ap parser_of_value (s.parser q (h.0 ∙ parser)), s.ignore_case ∙ h.1)

  built_has : (q : ValueParser) → (rule_named name).parser ≡ Some q → (j : ℕ) (x : Arg) → j < length (args_of p.built) → slice_index_or (args_of p.built) j x ≡ x → bytes_eq x.id.now (id_of name) ≡ true
      → (parser_of x ≡ q) × (x.ignore_case ≡ false)
  built_has q parser j x inside at id =
      elim (cases_lt j (length (args_of old))) [
        | inl under ↦ same_has (slice_index_or (args_of old) j x) x (subst (λ w. SameRules (slice_index_or (args_of old) j x) w) at (p.from.kept j x under).1) (old_has j x under) q parser id
        | inr over ↦
            let flag = subst IsAuto at (p.from.extra j x over inside) in
            absurd (elim flag [
              | inl help ↦ help_differs name (ap (λ i. bytes_eq i (id_of name)) (sym help) ∙ id)
              | inr version ↦ version_differs name (ap (λ i. bytes_eq i (id_of name)) (sym version) ∙ id)
            ])
      ]

  no_groups : groups_of p.built ≡ []
  no_groups =
      let plain = plain_fields old (ap (λ a. a.top.is_plain) is) in
      (p.from.same_groups (simple_groups old (ap (λ a. list_all (λ r. r.is_simple) a.top.rules) is))).1 ∙ plain.groups

  parsed : IsParsed p.built (found_of m) (has_subcommand m)
  parsed = p.parsed (p.from.globals ∙ (plain_fields old (ap (λ a. a.top.is_plain) is)).globals)

  named : id_of name ≡ [] → ⊥
  named e =
      let differ : bytes_eq (id_of name) [] ≡ true = ap (λ i. bytes_eq i []) e in
      id_not_empty name differ

  not_a_group : (e : Entry) → e.0.now ≡ id_of name → EntryPasses p.built e → e.1.is_group ≡ true → ⊥
  not_a_group e key pass g = elim (pass.3 g) [
    | inl empty ↦ named (sym key ∙ empty)
    | inr lots ↦
        let bad : 0 < 0 = rw no_groups at lots in
        absurd (omega arith)
  ]

  entry_passes : (x : MatchedArg) (e : Entry) → e.1 ≡ x → e.0.now ≡ id_of name → EntryPasses p.built e → All (λ v. PassesArg p.built (id_of name) v.now) x.vals.items
  entry_passes x e same key pass = elim pass.0 [
    | inl g ↦ absurd (not_a_group e key pass g)
    | inr vals ↦ subst (λ (w : Text). All (λ v. PassesArg p.built w v.now) x.vals.items) key (rw same at vals)
  ]

  reading_has : (q : ValueParser) → (rule_named name).parser ≡ Some q → (r : Reading) → HasReading p.built (id_of name) r → r ≡ reading_of q
  reading_has q parser r any = sym any.4.1 ∙ ap reading_of (built_has q parser any.0 any.1 any.2 any.3 any.4.0).0

  entry_reading : (q : ValueParser) → (rule_named name).parser ≡ Some q → (x : MatchedArg) (e : Entry) → e.1 ≡ x → e.0.now ≡ id_of name → EntryPasses p.built e → x.reading ≡ reading_of q
  entry_reading q parser x e same key pass = elim pass.4 [
    | inl g ↦ absurd (not_a_group e key pass g)
    | inr h ↦ ap (λ (y : MatchedArg). y.reading) (sym same) ∙ reading_has q parser e.1.reading (subst (λ (w : Text). HasReading p.built w e.1.reading) key h)
  ]

  passes_has : (q : ValueParser) → (rule_named name).parser ≡ Some q → (v : Text) → PassesArg p.built (id_of name) v → Accepts false q v
  passes_has q parser v any =
      let has = built_has q parser any.0 any.1 any.2 any.3 any.4.0 in
      subst (λ (b : Bool). Accepts b q v) has.1 (subst (λ (w : ValueParser). Accepts any.1.ignore_case w v) has.0 any.4.1)

  -- what the entry of the option gives: its text passed its parser, and is read as that parser says
  entry_gives : (q : ValueParser) → (rule_named name).parser ≡ Some q → (how : Reading) → how ≡ reading_of q → (vs : List (Bor Text)) → All (λ v. PassesArg p.built (id_of name) v.now) vs
      → (t : Text) → option_map (λ s. read_as how s.now) (slice_get vs 0) ≡ Some t → (v : Text) × (t ≡ read_as (reading_of q) v) × Accepts false q v
  entry_gives q parser how is [] all t first = cc
  entry_gives q parser how is (v ∷ vs) all t first = (
    v.now,
    ap (λ o. unwrap_or o t) (sym first) ∙ ap (λ r. read_as r v.now) is,
    passes_has q parser v.now (All-get_or (λ v. PassesArg p.built (id_of name) v.now) (v ∷ vs) 0 v (omega arith) all),
  )

  pub option_gives : (q : ValueParser) → (rule_named name).parser ≡ Some q → (t : Text) → one_of (id_of name) (rows_of (found_of m)) ≡ Some t → (v : Text) × (t ≡ read_as (reading_of q) v) × Accepts false q v
  option_gives q parser t is_text = go (matched_of (found_of m) (id_of name)) refl (one_text_is (found_of m) (id_of name) ∙ is_text)
    where
      go : (o : Option MatchedArg) → matched_of (found_of m) (id_of name) ≡ o → one_text (found_of m) (id_of name) ≡ Some t → (v : Text) × (t ≡ read_as (reading_of q) v) × Accepts false q v
      go None found text =
          let bad : None ≡ Some t = rw found at text in
          cc
      go (Some x) found text =
          let got = entry_by_id (EntryPasses p.built) (found_of m).entries.items (id_of name) x parsed.values found in
          let key : got.0.0.now ≡ id_of name = (bytes_eq-Decides got.0.0.now (id_of name)).0 got.2 in
          entry_gives q parser x.reading (entry_reading q parser x got.0 got.1 key got.3) x.vals.items (entry_passes x got.0 got.1 key got.3) t (rw found at text)

-- ---- Numbers

without_minus-cond : (t : Text) → without_minus t ≡ cond (starts_with_minus t) (drop 1 t) t
without_minus-cond [] = refl
without_minus-cond (x ∷ xs) = go (x == 45)
  where
    go : (b : Bool) → unwrap_or (cond b (Some xs) None) (x ∷ xs) ≡ cond b xs (x ∷ xs)
    go true = refl
    go false = refl

-- digits begin with no plus
no_plus : (ds : Text) → IsNumeral 10 ds → without_leading_plus ds ≡ ds
no_plus [] h = refl
no_plus (d ∷ ds) h =
    let plus : (d == 43) ≡ false = ne_eqb _ _ (λ e. omega (arith, digit_from_value d h.1.0)) in
    ap (λ (b : Bool). drop (cond b 1 0) (d ∷ ds)) plus

-- a text that passed limits of which the lower is no negative number, read without a minus, is a number within them
signed_number : (low high : ℕ) (v : Text) → IsSignedIn (pos low) (pos high) v → IsNumberIn low high (without_minus v)
signed_number low high v passed = subst (IsNumberIn low high) (sym (without_minus-cond v)) (go (starts_with_minus v) refl)
  where
    go : (b : Bool) → starts_with_minus v ≡ b → IsNumberIn low high (cond (starts_with_minus v) (drop 1 v) v)
    go true minus =
        let low_ok = rw minus at passed.2 in
        let numeral : IsNumeral 10 (drop 1 v) = rw minus at passed.0 in
        let same = no_plus (drop 1 v) numeral in
        let low_is : low ≤ digits_value 10 (drop 1 v) = omega (arith, ints) in
        let high_is : digits_value 10 (drop 1 v) ≤ high = omega (arith, ints) in
        rw (minus, same) (numeral, low_is, high_is)
    go false minus =
        let low_ok = rw minus at passed.2 in
        let high_ok = rw minus at passed.3 in
        let numeral : IsNumeral 10 (without_leading_plus v) = rw minus at passed.0 in
        let low_is : low ≤ digits_value 10 (without_leading_plus v) = omega (arith, ints) in
        let high_is : digits_value 10 (without_leading_plus v) ≤ high = omega (arith, ints) in
        rw minus (numeral, low_is, high_is)

module _ (old : Command) (m : ArgMatches) (p : IsParsedFrom old m) (is : app_of old ≡ line) where
  has_number : (name : Name) (low high : ℕ) → (rule_named name).parser ≡ Some (vp.Signed (pos low) (pos high)) → HasNumber name low high (rows_of (found_of m))
  has_number name low high parser t found =
      let given = option_gives old m p is name (vp.Signed (pos low) (pos high)) parser t found in
      subst (IsNumberIn low high) (sym given.1) (signed_number low high given.0 given.2)

  pub have_numbers : HaveNumbers (rows_of (found_of m))
  have_numbers = record { budget_in = has_number budget 1 1000000000 refl; number_in = has_number number 0 4294967295 refl }

-- what the typed getter reads, where the text is a number
pub number_read : {E : Type 0} (G : Text → Result ℕ E → Type 0) → ((u : Text) (x : Result ℕ E) → G u x → ParsesUnsigned 32 10 u x) → (f : Found) (id : Text) (r : Option ℕ)
    → (one_text f id ≡ None → r ≡ None) → ((t : Text) → one_text f id ≡ Some t → ReadsOne G t r) → ((t : Text) → one_of id (rows_of f) ≡ Some t → IsNumberIn 0 4294967295 t)
    → r ≡ option_map digits_number (one_of id (rows_of f))
number_read {E} G parses f id r none some is_number = go (one_of id (rows_of f)) refl
  where
    read : (t : Text) (o : Option ℕ) → ReadsOne G t o → IsNumberIn 0 4294967295 t → o ≡ Some (digits_number t)
    read t (Some v) h is = ap (λ n. Some n) (parses t (Ok v) h).1
    read t None h is = absurd (parses t (Err h.0) h.1 (is.0, omega (arith, is.2)))

    go : (o : Option Text) → one_of id (rows_of f) ≡ o → r ≡ option_map digits_number (one_of id (rows_of f))
    go None e = rw e (none (one_text_is f id ∙ e))
    go (Some t) e = rw e (read t r (some t (one_text_is f id ∙ e)) (is_number t e))
