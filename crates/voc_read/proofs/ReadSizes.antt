-- A value that is read of a text has no array with more values than the text has tokens.
use Rattle.voc_read.proofs.Prelude.{◌≡◌, ℕ, zero, suc, ◌+◌, ◌≤◌, max, List, [], ◌∷◌, length, Option, Some, None, option_and_then, Ordering, Less, Equal, Greater, subst, arith, ⊤, match_ordering, Token, tokens, Data, number, array, object, Items, item, Members, no_members, member, put, items_len, of_json, of_items, of_members, max_depth, read, widest, items_widest, members_widest}
use Rattle.std.proofs.Common.{option_map}
use Rattle.json.specs.Json as json
use Rattle.serde_json.specs.Read.{number_of}
use Rattle.voc_read.proofs.TokenCounts.{length-tokens}

-- ---- The trees of the grammar

abbrev count : json.Items → ℕ
count json.no_items = 0
count (json.item j js) = suc (count js)

abbrev mutual
  tree_widest : json.Json → ℕ
  tree_widest json.null = 0
  tree_widest (json.boolean b) = 0
  tree_widest (json.number s) = 0
  tree_widest (json.string s) = 0
  tree_widest (json.array js) = max (count js) (trees_widest js)
  tree_widest (json.object ms) = branches_widest ms

  trees_widest : json.Items → ℕ
  trees_widest json.no_items = 0
  trees_widest (json.item j js) = max (tree_widest j) (trees_widest js)

  branches_widest : json.Members → ℕ
  branches_widest json.no_members = 0
  branches_widest (json.member k j ms) = max (tree_widest j) (branches_widest ms)

-- ---- What is parsed, and what is left

abbrev Fits : {A : Type 0} → (A → ℕ) → ℕ → ℕ → Option (A × List Token) → Type 0
Fits size most left None = ⊤
Fits size most left (Some p) = (size p.0 ≤ most) × (length p.1 ≤ left)

-- where at most N tokens come in
abbrev Keeps : {A : Type 0} → (A → ℕ) → ℕ → json.Parse A → Type 0
Keeps size N parse = (ts : List Token) → length ts ≤ N → Fits size N (length ts) (parse ts)

mapped : {A B : Type 0} (f : A → ℕ) (g : B → ℕ) (m n left : ℕ) (h : A → B) → ((a : A) → f a ≤ m → g (h a) ≤ n) → (o : Option (A × List Token)) → Fits f m left o → Fits g n left (json.parse_map h o)
mapped f g m n left h k None x = tt
mapped f g m n left h k (Some p) x = (k p.0 x.0, x.1)

-- what is left of a front is no more than there was
abbrev IsLeft : ℕ → Option (List Token) → Type 0
IsLeft n None = ⊤
IsLeft n (Some rest) = length rest ≤ n

closing : (ts : List Token) → IsLeft (length ts) (json.after_end_array ts)
closing [] = tt
closing (Token.begin_object ∷ ts) = tt
closing (Token.end_object ∷ ts) = tt
closing (Token.begin_array ∷ ts) = tt
closing (Token.end_array ∷ ts) = omega arith
closing (Token.key s ∷ ts) = tt
closing (Token.string s ∷ ts) = tt
closing (Token.number s ∷ ts) = tt
closing (Token.boolean b ∷ ts) = tt
closing (Token.null ∷ ts) = tt
closing (Token.bad ∷ ts) = tt

abbrev IsKeyLeft : ℕ → Option (Option (List ℕ) × List Token) → Type 0
IsKeyLeft n None = ⊤
IsKeyLeft n (Some p) = length p.1 ≤ n

naming : (ts : List Token) → IsKeyLeft (length ts) (json.read_key ts)
naming [] = tt
naming (Token.begin_object ∷ ts) = tt
naming (Token.end_object ∷ ts) = omega arith
naming (Token.begin_array ∷ ts) = tt
naming (Token.end_array ∷ ts) = tt
naming (Token.key s ∷ ts) = omega arith
naming (Token.string s ∷ ts) = tt
naming (Token.number s ∷ ts) = tt
naming (Token.boolean b ∷ ts) = tt
naming (Token.null ∷ ts) = tt
naming (Token.bad ∷ ts) = tt

-- ---- Items and members

-- so many items at most, none of them wider than N
abbrev FitItems : ℕ → ℕ → ℕ → Option (json.Items × List Token) → Type 0
FitItems most N left None = ⊤
FitItems most N left (Some p) = (count p.0 ≤ most) × (trees_widest p.0 ≤ N) × (length p.1 ≤ left)

module _ (N : ℕ) (parse : json.Parse json.Json) (keeps : Keeps tree_widest N parse) where
  one_item_more : (j : json.Json) (n left : ℕ) (o : Option (json.Items × List Token)) → tree_widest j ≤ N → FitItems n N left o → FitItems (suc n) N left (json.parse_map (json.item j) o)
  one_item_more j n left None w x = tt
  one_item_more j n left (Some p) w x = (omega (arith, x.0), omega (arith, x.1), x.2)

  fewer_left : (n m left : ℕ) (o : Option (json.Items × List Token)) → m ≤ left → FitItems n N m o → FitItems n N left o
  fewer_left n m left None h x = tt
  fewer_left n m left (Some p) h x = (x.0, x.1, omega (arith, x.2))

  first_item : (n left : ℕ) (more : json.Parse json.Items) → ((ts : List Token) → length ts ≤ N → FitItems n N (length ts) (more ts)) → left ≤ N
      → (o : Option (json.Json × List Token)) → Fits tree_widest N left o → FitItems (suc n) N left (option_and_then (λ p. json.parse_map (json.item p.0) (more p.1)) o)
  first_item n left more again within None x = tt
  first_item n left more again within (Some p) x =
      one_item_more p.0 n left (more p.1) x.0 (fewer_left n (length p.1) left (more p.1) x.1 (again p.1 (omega (arith, x.1))))

  item_turn : (n : ℕ) (more : json.Parse json.Items) → ((ts : List Token) → length ts ≤ N → FitItems n N (length ts) (more ts)) → (ts : List Token) → length ts ≤ N
      → (o : Option (List Token)) → IsLeft (length ts) o → FitItems (suc n) N (length ts) (json.items_step parse more ts o)
  item_turn n more again ts within (Some rest) x = (omega arith, omega arith, x)
  item_turn n more again ts within None x = first_item n (length ts) more again within (parse ts) (keeps ts within)

  fit_items : (n : ℕ) (ts : List Token) → length ts ≤ N → FitItems n N (length ts) (json.items parse n ts)
  unfolding json.items
  fit_items zero ts within = tt
  fit_items (suc n) ts within = item_turn n (json.items parse n) (fit_items n) ts within (json.after_end_array ts) (closing ts)

  one_member_more : (k : List ℕ) (j : json.Json) (left m : ℕ) (o : Option (json.Members × List Token)) → tree_widest j ≤ N → m ≤ left → Fits branches_widest N m o → Fits branches_widest N left (json.parse_map (json.member k j) o)
  one_member_more k j left m None w h x = tt
  one_member_more k j left m (Some p) w h x = (omega (arith, x.0), omega (arith, x.1))

  first_member : (k : List ℕ) (left m : ℕ) (more : json.Parse json.Members) → Keeps branches_widest N more → m ≤ left → left ≤ N
      → (o : Option (json.Json × List Token)) → Fits tree_widest N m o → Fits branches_widest N left (option_and_then (λ p. json.parse_map (json.member k p.0) (more p.1)) o)
  first_member k left m more again h within None x = tt
  first_member k left m more again h within (Some p) x = one_member_more k p.0 left (length p.1) (more p.1) x.0 (omega (arith, x.1)) (again p.1 (omega (arith, x.1)))

  member_turn : (more : json.Parse json.Members) → Keeps branches_widest N more → (left : ℕ) → left ≤ N
      → (o : Option (Option (List ℕ) × List Token)) → IsKeyLeft left o → Fits branches_widest N left (option_and_then (λ p. json.members_step parse more p.0 p.1) o)
  member_turn more again left within None x = tt
  member_turn more again left within (Some (None, rest)) x = (omega arith, x)
  member_turn more again left within (Some (Some k, rest)) x = first_member k left (length rest) more again x within (parse rest) (keeps rest (omega (arith, x)))

  fit_members : (n : ℕ) → Keeps branches_widest N (json.members parse n)
  unfolding json.members
  fit_members zero ts within = tt
  fit_members (suc n) ts within = member_turn (json.members parse n) (fit_members n) (length ts) within (json.read_key ts) (naming ts)

-- ---- Values

wider : (N left : ℕ) (o : Option (json.Json × List Token)) → Fits tree_widest N left o → Fits tree_widest N (suc left) o
wider N left None x = tt
wider N left (Some p) x = (x.0, omega (arith, x.1))

one_level : (N : ℕ) (a : json.Parse json.Items) (o : json.Parse json.Members) → ((ts : List Token) → length ts ≤ N → Fits tree_widest N (length ts) (json.parse_map json.array (a ts)))
    → ((ts : List Token) → length ts ≤ N → Fits tree_widest N (length ts) (json.parse_map json.object (o ts))) → Keeps tree_widest N (json.value_with a o)
one_level N a o p q [] within = tt
one_level N a o p q (Token.begin_object ∷ ts) within = wider N (length ts) _ (q ts (omega arith))
one_level N a o p q (Token.end_object ∷ ts) within = tt
one_level N a o p q (Token.begin_array ∷ ts) within = wider N (length ts) _ (p ts (omega arith))
one_level N a o p q (Token.end_array ∷ ts) within = tt
one_level N a o p q (Token.key s ∷ ts) within = tt
one_level N a o p q (Token.string s ∷ ts) within = (omega arith, omega arith)
one_level N a o p q (Token.number s ∷ ts) within = (omega arith, omega arith)
one_level N a o p q (Token.boolean b ∷ ts) within = (omega arith, omega arith)
one_level N a o p q (Token.null ∷ ts) within = (omega arith, omega arith)
one_level N a o p q (Token.bad ∷ ts) within = tt

as_array : (N left : ℕ) (o : Option (json.Items × List Token)) → FitItems N N left o → Fits tree_widest N left (json.parse_map json.array o)
as_array N left None x = tt
as_array N left (Some p) x = (omega (arith, x.0, x.1), x.2)

fewer : (n m N left : ℕ) (o : Option (json.Items × List Token)) → n ≤ m → FitItems n N left o → FitItems m N left o
fewer n m N left None h x = tt
fewer n m N left (Some p) h x = (omega (arith, x.0), x.1, x.2)

fit_value : (N depth : ℕ) → Keeps tree_widest N (json.value depth)
unfolding json.value
fit_value N zero = one_level N (λ ts. None) (λ ts. None) (λ ts within. tt) (λ ts within. tt)
fit_value N (suc depth) =
    one_level N (λ ts. json.items (json.value depth) (length ts) ts) (λ ts. json.members (json.value depth) (length ts) ts)
    (λ ts within. as_array N (length ts) _ (fewer (length ts) N N (length ts) _ within (fit_items N (json.value depth) (fit_value N depth) (length ts) ts within)))
    (λ ts within. mapped branches_widest tree_widest N N (length ts) json.object (λ ms x. x) _ (fit_members N (json.value depth) (fit_value N depth) (length ts) ts within))

-- ---- What the trees become

abbrev AtMost : {A : Type 0} → (A → ℕ) → ℕ → Option A → Type 0
AtMost size n None = ⊤
AtMost size n (Some a) = size a ≤ n

AtMost-map : {A B : Type 0} (f : A → ℕ) (g : B → ℕ) (m n : ℕ) (h : A → B) → ((a : A) → f a ≤ m → g (h a) ≤ n) → (o : Option A) → AtMost f m o → AtMost g n (option_map h o)
AtMost-map f g m n h k None x = tt
AtMost-map f g m n h k (Some a) x = k a x

AtMost-and_then : {A B : Type 0} (f : A → ℕ) (g : B → ℕ) (m n : ℕ) (h : A → Option B) → ((a : A) → f a ≤ m → AtMost g n (h a)) → (o : Option A) → AtMost f m o → AtMost g n (option_and_then h o)
AtMost-and_then f g m n h k None x = tt
AtMost-and_then f g m n h k (Some a) x = k a x

flat : {A : Type 0} (o : Option A) → AtMost (λ _. 0) 0 o
flat None = tt
flat (Some a) = omega arith

-- as many items as the tree has
count-of_items : (js : json.Items) → AtMost items_len (count js) (of_items js)
count-of_items json.no_items = omega arith
count-of_items (json.item j js) =
    AtMost-and_then (λ _. 0) items_len 0 (suc (count js)) _ (λ d x. AtMost-map items_len items_len (count js) (suc (count js)) (item d) (λ ds y. omega arith) _ (count-of_items js)) (of_json j) (flat _)

members_widest-match_ordering : (o : Ordering) (a b c : Members) (n : ℕ) → members_widest a ≤ n → members_widest b ≤ n → members_widest c ≤ n → members_widest (match_ordering o a b c) ≤ n
members_widest-match_ordering Less a b c n p q r = p
members_widest-match_ordering Equal a b c n p q r = q
members_widest-match_ordering Greater a b c n p q r = r

members_widest-put : (k : List ℕ) (d : Data) (ms : Members) (n : ℕ) → widest d ≤ n → members_widest ms ≤ n → members_widest (put k d ms) ≤ n
members_widest-put k d no_members n p q = omega arith
members_widest-put k d (member l e ms) n p q =
    members_widest-match_ordering _ (member k d (member l e ms)) (member l d ms) (member l e (put k d ms)) n (omega arith) (omega arith) (omega (arith, members_widest-put k d ms n p (omega arith)))

both_sizes : (n m : ℕ) (o : Option Items) → m ≤ n → AtMost items_len m o → AtMost items_widest n o → AtMost widest n (option_map array o)
both_sizes n m None h x y = tt
both_sizes n m (Some ds) h x y = omega (arith, x, y)

mutual
  widest-of_json : (j : json.Json) (n : ℕ) → tree_widest j ≤ n → AtMost widest n (of_json j)
  widest-of_json json.null n h = omega arith
  widest-of_json (json.boolean b) n h = omega arith
  widest-of_json (json.number s) n h = AtMost-map (λ _. 0) widest 0 n number (λ a x. omega arith) (number_of s) (flat _)
  widest-of_json (json.string s) n h = omega arith
  widest-of_json (json.array js) n h = both_sizes n (count js) (of_items js) (omega arith) (count-of_items js) (widest-of_items js n (omega arith))
  widest-of_json (json.object ms) n h = AtMost-map members_widest widest n n object (λ a x. omega arith) _ (widest-of_members ms no_members n (omega arith) (omega arith))

  widest-of_items : (js : json.Items) (n : ℕ) → trees_widest js ≤ n → AtMost items_widest n (of_items js)
  widest-of_items json.no_items n h = omega arith
  widest-of_items (json.item j js) n h =
      AtMost-and_then widest items_widest n n _ (λ d x. AtMost-map items_widest items_widest n n (item d) (λ ds y. omega arith) _ (widest-of_items js n (omega arith))) _ (widest-of_json j n (omega arith))

  widest-of_members : (ms : json.Members) (found : Members) (n : ℕ) → branches_widest ms ≤ n → members_widest found ≤ n → AtMost members_widest n (of_members ms found)
  widest-of_members json.no_members found n h k = k
  widest-of_members (json.member name j ms) found n h k =
      AtMost-and_then widest members_widest n n _ (λ d x. widest-of_members ms (put name d found) n (omega arith) (members_widest-put name d found n x k)) _ (widest-of_json j n (omega arith))

last_within : (n left : ℕ) (o : Option (json.Json × List Token)) → Fits tree_widest n left o → AtMost tree_widest n (option_and_then (λ p. json.if_last p.0 p.1) o)
last_within n left None x = tt
last_within n left (Some (j, [])) x = x.0
last_within n left (Some (j, t ∷ rest)) x = tt

widest-tokens : (text : List ℕ) → AtMost widest (length (tokens text)) (read text)
widest-tokens text =
    let n = length (tokens text) in
    AtMost-and_then tree_widest widest n n of_json (λ j x. widest-of_json j n x) _ (last_within n n (json.value max_depth (tokens text)) (fit_value n max_depth (tokens text) (omega arith)))

-- no array of a value that is read has more values than the text has bytes and one
pub widest-read : (text : List ℕ) (d : Data) → read text ≡ Some d → widest d ≤ length text + 1
widest-read text d e =
    let within : widest d ≤ length (tokens text) = subst (AtMost widest (length (tokens text))) e (widest-tokens text) in
    omega (arith, within, length-tokens text)
