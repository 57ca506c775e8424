-- A part of a value has no larger arrays than the value.
use Rattle.voc_read.proofs.Prelude.{◌≡◌, ℕ, zero, suc, ◌<◌, ◌≤◌, List, [], ◌∷◌, length, get_or, Option, Some, None, Ordering, Less, Equal, Greater, sym, subst, arith, IfOk, option_map, ok_or, nat_cmp, match_ordering, Data, null, boolean, number, string, array, object, Items, Members, no_members, member, items_len, get, get_member, as_array, view, items_view, Value, VocFault, widest, items_widest, members_widest, widest_in}
use Rattle.std.specs.Borrow.{Bor}
use Rattle.std.specs.Cmp.Lexicographic.{slice_cmp}
use Rattle.serde_json.proofs.Views.{items_len-items_view}

either : (o : Ordering) (rest : Option Data) (d e : Data) (n : ℕ) → (rest ≡ Some e → widest e ≤ n) → widest d ≤ n → match_ordering o rest (Some d) rest ≡ Some e → widest e ≤ n
either Less rest d e n more here h = more h
either Equal rest d e n more here h = let same : d ≡ e = cc in let P : Data → Type 0 = λ x. widest x ≤ n in subst P same here
either Greater rest d e n more here h = more h

widest-get_member : (key : List ℕ) (members : Members) (found : Data) → get_member key members ≡ Some found → widest found ≤ members_widest members
widest-get_member key no_members found h = absurd (cc)
widest-get_member key (member name value members) found h =
    either (slice_cmp nat_cmp key name) (get_member key members) value found (members_widest (member name value members))
    (λ e. omega (arith, widest-get_member key members found e)) (omega arith) h

-- what stands under a key
pub widest-get : (key : List ℕ) (value found : Data) → get key value ≡ Some found → widest found ≤ widest value
widest-get key null found h = absurd (cc)
widest-get key (boolean b) found h = absurd (cc)
widest-get key (number n) found h = absurd (cc)
widest-get key (string s) found h = absurd (cc)
widest-get key (array ds) found h = absurd (cc)
widest-get key (object ms) found h = widest-get_member key ms found h

pub widest-found : (key : List ℕ) (value : Data) (found : Option (Bor Value)) (fault : VocFault) → option_map (λ v. view v.now) found ≡ get key value
    → IfOk (ok_or found fault) (λ v. widest (view v.now) ≤ widest value)
widest-found key value None fault h = tt
widest-found key value (Some v) fault h = widest-get key value (view v.now) (sym h)

pub widest-found_in : (key : List ℕ) (value : Data) (found : Option (Bor Value)) → option_map (λ v. view v.now) found ≡ get key value → widest_in (option_map (λ v. view v.now) found) ≤ widest value
widest-found_in key value None h = omega arith
widest-found_in key value (Some v) h = widest-get key value (view v.now) (sym h)

-- an array has at most so many values, and each has no larger array
pub widest-as_array : (value : Data) (items : Items) → as_array value ≡ Some items → (items_len items ≤ widest value) × (items_widest items ≤ widest value)
widest-as_array null items h = absurd (cc)
widest-as_array (boolean b) items h = absurd (cc)
widest-as_array (number n) items h = absurd (cc)
widest-as_array (string s) items h = absurd (cc)
widest-as_array (array ds) items h =
    let same : ds ≡ items = cc in
    let P : Items → Type 0 = λ x. (items_len x ≤ widest (array ds)) × (items_widest x ≤ widest (array ds)) in
    subst P same (omega arith, omega arith)
widest-as_array (object ms) items h = absurd (cc)

pub length-as_array : (value : Data) (list : List Value) → Some (items_view list) ≡ as_array value → length list ≤ widest value
length-as_array value list h = omega (arith, (widest-as_array value (items_view list) (sym h)).0, items_len-items_view list)

-- a value of a list
pub widest-get_or : (list : List Value) (i : ℕ) (d : Value) → i < length list → widest (view (get_or list i d)) ≤ items_widest (items_view list)
widest-get_or [] i d h = absurd (omega arith)
widest-get_or (v ∷ list) zero d h = omega arith
widest-get_or (v ∷ list) (suc i) d h = omega (arith, widest-get_or list i d (omega arith))
