-- Reading records one after the other, from a piece of the bytes.
use Rattle.answer_journal.proofs.Prelude.{◌≡◌, ◌⊎◌, ℕ, ◌+◌, ◌-◌, ◌<◌, ◌≤◌, Bool, false, List, [], ◌∷◌, ◌++◌, length, get_or, take, drop, flat_map, inl, inr, refl, sym, ◌∙◌, ap, subst, arith, append_assoc, length-append, take-append-drop, take_at, take_all, drop_at, Option, Some, None, drop_more, drop-drop, take-append-le, Event, JFault, Record, MOST_RECORDS, record_tail, record_bytes, with_record, is_raised_by, MayFollow, IsClosedAfter, AreRecordsRead, WereRead, BeginsWith, ReachesGate, BreaksOff, HoldsTooMany, EventsRefused}
use Rattle.std.specs.Option.{ForSome}
use Rattle.answer_journal.specs.declared.fault.JFault.TheVariants as faults
use Rattle.answer_journal.proofs.RecordLists.{bytes-push, events_among-push, is_raised_after-push, AreInOrder-push, with_record-many}
use Rattle.answer_journal.proofs.Sizes.{tail_size}

-- the bytes behind the first one, as a slice's pattern shows them
abbrev pub behind_first : List ℕ → List ℕ
behind_first rest = take (length rest - 1) (drop 1 rest)

pub one_gate : (rest : List ℕ) → 0 < length rest → rest ≡ get_or rest 0 0 ∷ behind_first rest
one_gate [] some = absurd (omega arith)
one_gate (g ∷ rest) some = ap (λ (l : List ℕ). g ∷ l) (sym (take_all (length (g ∷ rest) - 1) rest (omega arith)))

-- a record that begins in a piece stands whole in it, and a gate behind it, if the piece is longer
pub seen : (tail rest piece more : List ℕ) → length tail < length piece → piece ++ more ≡ tail ++ rest → piece ≡ tail ++ get_or piece (length tail) 0 ∷ drop (length tail + 1) piece
seen tail rest piece more lt e =
    let front : take (length tail) piece ≡ tail = sym (take-append-le (length tail) piece more (omega arith)) ∙ ap (λ (l : List ℕ). take (length tail) l) e ∙ take_at tail rest (length tail) refl in
    sym (take-append-drop (length tail) piece) ∙ (λ i. front i ++ drop_more piece (length tail) 0 lt i)

-- the piece is the last, or it is longer than this
abbrev pub IsWide : ℕ → List ℕ → List ℕ → Type 0
IsWide n piece more = (more ≡ []) ⊎ (n < length piece)

pub wide_enough : (tail rest piece more : List ℕ) (n : ℕ) → IsWide n piece more → length tail ≤ n → 0 < length rest → piece ++ more ≡ tail ++ rest → length tail < length piece
wide_enough tail rest piece more n (inl last) few some e = omega (arith, ap length e, length-append piece more, ap length last, length-append tail rest)
wide_enough tail rest piece more n (inr wide) few some e = omega arith

-- one record more was read
pub one_read : (records : List Record) (start at : ℕ) (events : List Event) (raised : Bool) (r : Record) (next : ℕ) (more : List Event) (now : Bool) → AreRecordsRead records start at events raised → MayFollow raised r
    → more ≡ with_record events r → now ≡ is_raised_by raised r → length more < MOST_RECORDS → next ≡ at + length (record_bytes r) → AreRecordsRead (records ++ r ∷ []) start next more now
one_read records start at events raised r next more now s may events_are raised_is few next_is = record {
  in_order = AreInOrder-push false records r s.in_order (subst (λ (b : Bool). MayFollow b r) (sym s.raises) may);
  few = few;
  are = events_among-push records r ∙ ap (λ (l : List Event). with_record l r) s.are ∙ sym events_are;
  raises = is_raised_after-push false records r ∙ ap (λ (b : Bool). is_raised_by b r) s.raises ∙ sym raised_is;
  place = omega (arith, s.place, next_is, ap length (bytes-push records r), length-append (flat_map record_bytes records) (record_bytes r));
}

module _ (bytes : List ℕ) (records : List Record) (rest more : List ℕ) (s : BeginsWith bytes records (rest ++ more)) (some : 0 < length rest) where
  split : rest ++ more ≡ get_or rest 0 0 ∷ (behind_first rest ++ more)
  split = ap (λ (l : List ℕ). l ++ more) (one_gate rest some)

  pub closes : (get_or rest 0 0 ≡ 1 → ⊥) → IsClosedAfter (flat_map record_bytes records) bytes
  closes shut = record { gate = get_or rest 0 0; behind = behind_first rest ++ more; closed = shut; is = s.is ∙ ap (λ (l : List ℕ). flat_map record_bytes records ++ l) split }

  pub breaks_off : (start at : ℕ) (events : List Event) (raised : Bool) → AreRecordsRead records start at events raised → get_or rest 0 0 ≡ 1 → IsWide 263 (behind_first rest) more
      → ((r : Record) (gate : ℕ) (after : List ℕ) → MayFollow raised r → behind_first rest ≡ record_tail r ++ gate ∷ after → ⊥) → BreaksOff start at bytes
  breaks_off start at events raised read is_open wide none = record {
    records = records;
    behind = behind_first rest ++ more;
    in_order = read.in_order;
    few = subst (λ (l : List Event). length l < MOST_RECORDS) (sym read.are) read.few;
    place = read.place;
    is = s.is ∙ ap (λ (l : List ℕ). flat_map record_bytes records ++ l) (split ∙ ap (λ g. g ∷ (behind_first rest ++ more)) is_open);
    stuck = λ r gate after may is.
        let here = subst (λ (b : Bool). MayFollow b r) read.raises may in
        let same : behind_first rest ++ more ≡ record_tail r ++ gate ∷ after = ap (λ (l : List ℕ). drop 1 l) is in
        none r _ _ here (seen (record_tail r) (gate ∷ after) (behind_first rest) more (wide_enough (record_tail r) (gate ∷ after) (behind_first rest) more 263 wide (tail_size raised r here) (omega arith) same) same);
  }

  module _ (r : Record) (after : List ℕ) (is_open : get_or rest 0 0 ≡ 1) (spelled : behind_first rest ≡ record_tail r ++ after) (left : 0 < length after) where
    more_is : bytes ≡ flat_map record_bytes (records ++ r ∷ []) ++ (after ++ more)
    more_is =
        s.is ∙ ap (λ (l : List ℕ). flat_map record_bytes records ++ l) (split ∙ (λ i. is_open i ∷ (spelled i ++ more)) ∙ ap (λ (l : List ℕ). 1 ∷ l) (append_assoc (record_tail r) after more))
        ∙ sym (append_assoc (flat_map record_bytes records) (record_bytes r) (after ++ more))
        ∙ ap (λ (l : List ℕ). l ++ (after ++ more)) (sym (bytes-push records r))

    pub one_more : BeginsWith bytes (records ++ r ∷ []) (after ++ more)
    one_more = record { some = omega (arith, left, length-append after more); is = more_is }

    pub overflows : (start at : ℕ) (events : List Event) (raised : Bool) → AreRecordsRead records start at events raised → MayFollow raised r → MOST_RECORDS ≤ length (with_record events r) → HoldsTooMany bytes
    overflows start at events raised read may many = record {
      records = records ++ r ∷ [];
      in_order = AreInOrder-push false records r read.in_order (subst (λ (b : Bool). MayFollow b r) (sym read.raises) may);
      many = ap length (events_among-push records r ∙ ap (λ (l : List Event). with_record l r) read.are) ∙ with_record-many events r read.few many;
      rest = record { gate = get_or after 0 0; behind = behind_first after ++ more; is = more_is ∙ ap (λ (l : List ℕ). flat_map record_bytes (records ++ r ∷ []) ++ (l ++ more)) (one_gate after left) };
    }

-- From the records that were read before a piece, what is read with those of the piece in front of the rest.
pub record Went (start : ℕ) (before : List Record) (piece rest : List ℕ) (at : ℕ) (events : List Event) (raised : Bool) : Type 0 where
  pub records : List Record
  pub read : AreRecordsRead records start at events raised
  pub begins : (bytes more : List ℕ) → BeginsWith bytes before (piece ++ more) → BeginsWith bytes records (rest ++ more)

-- What was read up to a place, and where the disk tells, what stands there.
pub record HasRead (start at : ℕ) (events : List Event) (raised : Bool) (content : Option (List ℕ)) : Type 0 where
  pub records : List Record
  pub read : AreRecordsRead records start at events raised
  pub begins : ForSome content (λ bytes. BeginsWith (drop start bytes) records (drop at bytes))

-- the records are behind the start, so the rest stands at the place behind them
pub rest_at : (file : List ℕ) (start place : ℕ) (records : List Record) (rest : List ℕ) → BeginsWith (drop start file) records rest → place ≡ start + length (flat_map record_bytes records) → BeginsWith (drop start file) records (drop place file)
rest_at file start place records rest b is =
    let there : drop place file ≡ rest =
    ap (λ n. drop n file) is ∙ sym (drop-drop (length (flat_map record_bytes records)) start file) ∙ ap (λ (l : List ℕ). drop (length (flat_map record_bytes records)) l) b.is ∙ drop_at (flat_map record_bytes records) rest (length (flat_map record_bytes records)) refl in
    subst (λ (l : List ℕ). BeginsWith (drop start file) records l) (sym there) b

pub has_read : (content : Option (List ℕ)) (start at : ℕ) (events : List Event) (raised : Bool) → WereRead start at events raised → ForSome content (λ bytes. ReachesGate start at events raised (drop start bytes)) → HasRead start at events raised content
has_read None start at events raised (records, read) told = record { records = records; read = read; begins = λ bytes is. absurd cc }
has_read (Some file) start at events raised were told =
    let g = told file refl in
    record {
      records = g.records;
      read = g.read;
      begins = λ bytes is.
          let same : file ≡ bytes = cc in
          subst (λ (l : List ℕ). BeginsWith (drop start l) g.records (drop at l)) same (rest_at file start at g.records g.rest g.begins g.read.place);
    }

-- ---- refusals of a record that was read

pub not_noted : (start : ℕ) (bytes : List ℕ) (e : JFault) (Q : Type 0) → (e ≡ faults.Memory) ⊎ ((e ≡ faults.TooManyRecords) × Q) → (Q → HoldsTooMany bytes) → EventsRefused start bytes e
not_noted start bytes e Q (inl none) over = subst (EventsRefused start bytes) (sym none) tt
not_noted start bytes e Q (inr many) over = subst (EventsRefused start bytes) (sym many.0) (over many.1)

pub not_noted_somewhere : (start : ℕ) (e : JFault) (Q : Type 0) → (e ≡ faults.Memory) ⊎ ((e ≡ faults.TooManyRecords) × Q) → (Q → (bytes : List ℕ) × HoldsTooMany bytes) → (bytes : List ℕ) × EventsRefused start bytes e
not_noted_somewhere start e Q (inl none) over = ([], subst (EventsRefused start []) (sym none) tt)
not_noted_somewhere start e Q (inr many) over = let o = over many.1 in (o.0, subst (EventsRefused start o.0) (sym many.0) o.1)
