-- Items are read one after another.
use Rattle.network.proofs.Prelude.{◌≡◌, ℕ, suc, ◌+◌, ◌-◌, ◌<◌, ◌≤◌, ◌++◌, ◌||◌, true, false, cond, Bor, List, [], ◌∷◌, length, drop, get_or, Option, Some, None, Result, Ok, Err, refl, sym, ap, ◌∙◌, append_assoc, arith, ◌==◌, ◌&&◌, nat_le, take, ok_or, option_map, option_and_then, le-leb, and_from, take_all, drop-map, length-map, length-drop, get_or-map, Data, texts_of, BadItem, drop-cons, as_str, view, items_view, Candidate, Language, has_scope, position_nowhere, NetFault, then_on, Stated, stated_by, stated_in, each_text, text_list, candidate_of, candidate_in, network_from, repeat_of}
use Rattle.serde_json.specs.declared.value.Value.{Value}

-- ---- one item

from_here : (l : Language) (before : List Candidate) (items : List Value) (i : ℕ) (value : Value) → i < length items → value ≡ get_or items i value →
    network_from l before (items_view (drop i items)) ≡ then_on (candidate_in l before (view value)) (λ c. network_from l (before ++ c ∷ []) (items_view (drop (i + 1) items)))
from_here l before items i value low is =
    let next : i + 1 ≡ suc i = omega arith in
    let here : drop i items ≡ value ∷ drop (i + 1) items = rw next (drop-cons items i value low ∙ ap (λ v. v ∷ drop (suc i) items) (sym is)) in
    ap (λ vs. network_from l before (items_view vs)) here

pub read_more : (l : Language) (before after : List Candidate) (items : List Value) (i : ℕ) (value : Value) (c : Candidate) (whole : Result (List Candidate) NetFault) →
    i < length items → value ≡ get_or items i value → candidate_in l before (view value) ≡ Ok c → after ≡ before ++ c ∷ [] →
    network_from l before (items_view (drop i items)) ≡ whole → network_from l after (items_view (drop (i + 1) items)) ≡ whole
read_more l before after items i value c whole low is read new so_far =
    ap (λ b. network_from l b (items_view (drop (i + 1) items))) new
    ∙ sym (from_here l before items i value low is ∙ ap (λ r. then_on r (λ c. network_from l (before ++ c ∷ []) (items_view (drop (i + 1) items)))) read) ∙ so_far

pub refused_here : (l : Language) (before : List Candidate) (items : List Value) (i : ℕ) (value : Value) (fault : NetFault) (whole : Result (List Candidate) NetFault) →
    i < length items → value ≡ get_or items i value → candidate_in l before (view value) ≡ Err fault →
    network_from l before (items_view (drop i items)) ≡ whole → whole ≡ Err fault
refused_here l before items i value fault whole low is read so_far =
    sym so_far ∙ from_here l before items i value low is ∙ ap (λ r. then_on r (λ c. network_from l (before ++ c ∷ []) (items_view (drop (i + 1) items)))) read

-- ---- its strings

put_behind : (before : List (List ℕ)) (text : List ℕ) (rest : Option (List (List ℕ))) →
    option_map (λ more. (before ++ text ∷ []) ++ more) rest ≡ option_map (λ more. before ++ more) (option_map (λ texts. text ∷ texts) rest)
put_behind before text None = refl
put_behind before text (Some more) = ap Some (append_assoc before (text ∷ []) more)

pub text_more : (list : List Value) (j : ℕ) (value : Value) (text : List ℕ) (before after : List (List ℕ)) (whole : Option (List (List ℕ))) → j < length list → value ≡ get_or list j value →
    as_str (view value) ≡ Some text → after ≡ before ++ text ∷ [] → option_map (λ more. before ++ more) (each_text (items_view (drop j list))) ≡ whole →
    option_map (λ more. after ++ more) (each_text (items_view (drop (j + 1) list))) ≡ whole
text_more list j value text before after whole low is some grown so_far =
    let next : j + 1 ≡ suc j = omega arith in
    let rest = each_text (items_view (drop (j + 1) list)) in
    let here : drop j list ≡ value ∷ drop (j + 1) list = rw next (drop-cons list j value low ∙ ap (λ v. v ∷ drop (suc j) list) (sym is)) in
    ap (λ b. option_map (λ more. b ++ more) rest) grown ∙ put_behind before text rest
    ∙ sym (ap (λ o. option_map (λ more. before ++ more) (option_and_then (λ first. option_map (λ texts. first ∷ texts) rest) o)) some)
    ∙ sym (ap (λ vs. option_map (λ more. before ++ more) (each_text (items_view vs))) here) ∙ so_far

-- ---- an item's form

pub some_of_ok : {A : Type 0} (o : Option A) (fault : NetFault) (x : A) → ok_or o fault ≡ Ok x → o ≡ Some x
some_of_ok None fault x h = absurd (cc)
some_of_ok (Some y) fault x h = cc

rest_of : (texts all : List (Bor (List ℕ))) → all ≡ texts → texts_of (take (length all - 1) (drop 1 all)) ≡ drop 1 (texts_of texts)
rest_of texts all same =
    ap texts_of (take_all (length all - 1) (drop 1 all) (omega (arith, length-drop 1 all)) ∙ ap (drop 1) same) ∙ sym (drop-map (λ (text : Bor (List ℕ)). text.now) 1 texts)

stated_here : (value : Data) (texts all : List (Bor (List ℕ))) (fault : NetFault) (first : Bor (List ℕ)) → ok_or (text_list value) fault ≡ Ok (texts_of texts) → 2 ≤ length texts → length texts ≤ 5 →
    first ≡ get_or texts 0 first → all ≡ texts → stated_in value ≡ Some (record { relation = first.now; variables = texts_of (take (length all - 1) (drop 1 all)) })
stated_here value texts all fault first read least most is same =
    let long : length (texts_of texts) ≡ length texts = length-map texts (λ (text : Bor (List ℕ)). text.now) in
    let low : nat_le 2 (length (texts_of texts)) ≡ true = le-leb 2 _ (omega (arith, long)) in
    let high : nat_le (length (texts_of texts)) 5 ≡ true = le-leb _ 5 (omega (arith, long)) in
    let head : get_or (texts_of texts) 0 [] ≡ first.now = get_or-map (λ (text : Bor (List ℕ)). text.now) texts 0 first [] (omega arith) ∙ ap (λ (text : Bor (List ℕ)). text.now) (sym is) in
    let both : (nat_le 2 (length (texts_of texts)) && nat_le (length (texts_of texts)) 5) ≡ true = and_from (nat_le 2 (length (texts_of texts))) (nat_le (length (texts_of texts)) 5) low high in
    let whole : Stated = record { relation = get_or (texts_of texts) 0 []; variables = drop 1 (texts_of texts) } in
    ap (λ o. option_and_then stated_by o) (some_of_ok (text_list value) fault (texts_of texts) read)
    ∙ ap (λ b. cond b (Some whole) None) both
    ∙ (λ i. Some (record { relation = head i; variables = sym (rest_of texts all same) i }))

pub item_here : (l : Language) (before : List Candidate) (value : Data) (texts all : List (Bor (List ℕ))) (fault : NetFault) (first : Bor (List ℕ)) → ok_or (text_list value) fault ≡ Ok (texts_of texts) →
    2 ≤ length texts → length texts ≤ 5 → first ≡ get_or texts 0 first → all ≡ texts →
    candidate_in l before value ≡ candidate_of l before (record { relation = first.now; variables = texts_of (take (length all - 1) (drop 1 all)) })
item_here l before value texts all fault first read least most is same =
    ap (λ o. then_on (ok_or o (BadItem (length before))) (candidate_of l before)) (stated_here value texts all fault first read least most is same)

-- ---- nothing on a scope

pub no_repeat : (list : List Candidate) (s i : ℕ) → length list ≤ i → ((k : ℕ) (d : Candidate) → k < i → ((get_or list k d).scope == s) ≡ false) → repeat_of list s ≡ None
no_repeat [] s i past before = refl
no_repeat (c ∷ list) s i past before = position_nowhere (λ (x : Candidate). x.scope == s) (c ∷ list) i c past (λ k low. before k c low)

pub no_scope : (list : List Candidate) (s : ℕ) → ((k : ℕ) (d : Candidate) → k < length list → ((get_or list k d).scope == s) ≡ false) → has_scope list s ≡ false
no_scope [] s before = refl
no_scope (c ∷ list) s before =
    let here : (c.scope == s) ≡ false = before 0 c (omega arith) in
    let rest : has_scope list s ≡ false = no_scope list s (λ k d low. before (suc k) d (omega arith)) in
    (λ i. here i || rest i)
