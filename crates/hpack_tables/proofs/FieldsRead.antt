-- Written fields are read again, item after item.
use Rattle.std.proofs.Common.{◌≡◌, ℕ, zero, suc, ◌+◌, ◌^◌, ◌<◌, ◌≤◌, Bool, true, false, List, [], ◌∷◌, ◌++◌, length, sum_by, refl, sym, ap, subst, ◌∙◌, arith, inl, inr, append_assoc, Ok, Result, Option, Some, None}
use Rattle.std.proofs.lemmas.Bool.{cases_lt, lt-ltb, le-ltb, le-leb, lt-leb}
use Rattle.std.proofs.lemmas.List.{append-nil}
use Rattle.std.proofs.lemmas.List.Elements.{All-head, All-tail}
use Rattle.std.proofs.lemmas.List.Sums.{sum_by-cons, sum_by_push}
use Rattle.hpack_huffman.specs.Faults.{IsText}
use Rattle.hpack_tables.specs.declared.field.Field.{Field}
use Rattle.hpack_tables.specs.declared.encoder.Style.{Style}
use Rattle.hpack_tables.specs.declared.encoder.Style.TheVariants.{Plain, Indexed}
use Rattle.hpack_tables.specs.declared.fault.HpackFault.{HpackFault}
use Rattle.hpack_tables.specs.declared.fault.HpackFault.TheVariants.{BadInteger}
use Rattle.hpack_tables.specs.EntrySizes.{size_of, fitting}
use Rattle.hpack_tables.specs.Reading.{State, integer_at, entry_at, with_field, before, NameAt, IndexedAt, LiteralAt, ItemAt, BlockAt, StringAt}
use Rattle.hpack_tables.specs.Reading.BlockAt.{ends, goes}
use Rattle.hpack_tables.specs.Writing.{Encoder, integer_text, index_of, first_bits, prefix, update_text, IsString, IsName, IsFieldAs, AreFieldTexts}
use Rattle.hpack_tables.specs.Laws.{AreBytes, HasEntries, WrittenIsRead, StaysInStep}
use Rattle.hpack_tables.proofs.NumbersRead.{integer_read, headed, string_read}
use Rattle.hpack_tables.proofs.EntriesFound.{entry_of, same_name, same_field}
use Rattle.hpack_tables.proofs.Rooms.{fitting_room, fitting_twice, count_room}

-- the state behind a field, which its table took or not
abbrev pub after_field : Bool → State → Field → State
after_field kept s f = record { entries = if_kept kept s f; max = s.max; fields = s.fields ++ f ∷ [] }
  where
    if_kept : Bool → State → Field → List Field
    if_kept true s f = fitting s.max (f ∷ s.entries)
    if_kept false s f = s.entries

has_room : (kept : Bool) (s : State) (f : Field) → sum_by size_of s.fields + size_of f ≤ 65536 → with_field kept s f ≡ Ok (after_field kept s f)
has_room true s f le = rw (le-ltb 65536 (sum_by size_of s.fields + size_of f) le) refl
has_room false s f le = rw (le-ltb 65536 (sum_by size_of s.fields + size_of f) le) refl

-- ---- fields by their index

indexed_read : (s : State) (f : Field) (j : ℕ) (rest : List ℕ) → entry_at s.entries j ≡ Some f → j < 2 ^ 32 → sum_by size_of s.fields + size_of f ≤ 65536 →
    IndexedAt s (integer_text 128 7 j ++ rest) (Ok (after_field false s f, rest))
indexed_read s f j rest at lt le =
    let index : integer_at BadInteger 7 (integer_text 128 7 j ++ rest) ≡ Ok (j, rest) = integer_read BadInteger 1 7 j rest lt in
    rw (index, at, has_room false s f le) refl

-- ---- literals

-- the index or the string of a name
record NameRead (style : Style) (s : State) (f : Field) (name rest : List ℕ) : Type 0 where
  index : ℕ
  behind : List ℕ
  number : integer_at BadInteger (prefix style) (name ++ rest) ≡ Ok (index, behind)
  text : NameAt s index behind (Ok (f.name, rest))

literal_index : (style : Style) (n : ℕ) (rest : List ℕ) → n < 2 ^ 32 → integer_at BadInteger (prefix style) (integer_text (first_bits style) (prefix style) n ++ rest) ≡ Ok (n, rest)
literal_index Plain n rest lt = integer_read BadInteger 0 4 n rest lt
literal_index Indexed n rest lt = integer_read BadInteger 1 6 n rest lt

name_at : (s : State) (f g : Field) (j : ℕ) (rest : List ℕ) → 1 ≤ j → entry_at s.entries j ≡ Some g → g.name ≡ f.name → NameAt s j rest (Ok (f.name, rest))
name_at s f g zero rest some at name = absurd (omega arith)
name_at s f g (suc j) rest some at name = rw at (ap (λ (n : List ℕ). ok_of n rest) (sym name))
  where
    ok_of : List ℕ → List ℕ → Result (List ℕ × List ℕ) HpackFault
    ok_of n rest = Ok (n, rest)

name_read : (style : Style) (s : State) (f : Field) (name rest : List ℕ) (o : Option ℕ) → index_of style false f s.entries ≡ o → IsName style f.name o name →
    IsText f.name → length f.name < 2 ^ 32 → length s.entries < 2 ^ 31 → NameRead style s f name rest
name_read style s f name rest (Some j) e is bytes len few =
    let r = entry_of style false f s.entries j e in
    record {
      index = j;
      behind = rest;
      number = rw is (literal_index style j rest (omega (arith, r.upto, few)));
      text = name_at s f r.entry j rest r.some r.at (same_name false f r.entry r.passes);
    }
name_read style s f name rest None e (text, is, whole) bytes len few =
    record {
      index = 0;
      behind = text ++ rest;
      number = rw (whole, append_assoc (integer_text (first_bits style) (prefix style) 0) text rest) (literal_index style 0 (text ++ rest) (omega arith));
      text = string_read style f.name text rest is bytes len;
    }

literal_read : (kept : Bool) (style : Style) (s : State) (f : Field) (name value rest : List ℕ) → NameRead style s f name (value ++ rest) → StringAt (value ++ rest) (Ok (f.value, rest)) →
    sum_by size_of s.fields + size_of f ≤ 65536 → LiteralAt kept (prefix style) s (name ++ (value ++ rest)) (Ok (after_field kept s f, rest))
literal_read kept style s f name value rest n v le =
    rw n.number (Ok (f.name, value ++ rest), n.text, (Ok (f.value, rest), v, rw (has_room kept s f le) refl))

-- ---- items

-- the first byte of an item, and what it gives
record ItemRead (limit : ℕ) (s : State) (text : List ℕ) (next : State) (rest : List ℕ) : Type 0 where
  first : ℕ
  more : List ℕ
  text_is : text ≡ first ∷ more
  item : ItemAt limit s first text (Ok (next, rest))

goes_on : (limit : ℕ) (s : State) (text : List ℕ) (next : State) (rest : List ℕ) (out : Result State HpackFault) → ItemRead limit s text next rest → BlockAt limit next rest out → BlockAt limit s text out
goes_on limit s text next rest out r h =
    let item : ItemAt limit s r.first (r.first ∷ r.more) (Ok (next, rest)) = subst (λ (x : List ℕ). ItemAt limit s r.first x (Ok (next, rest))) r.text_is r.item in
    subst (λ (x : List ℕ). BlockAt limit s x out) (sym r.text_is) (goes s r.first r.more next rest out item h)

indexed_item : (limit : ℕ) (s : State) (f : Field) (j : ℕ) (rest : List ℕ) → entry_at s.entries j ≡ Some f → j < 2 ^ 32 → sum_by size_of s.fields + size_of f ≤ 65536 →
    ItemRead limit s (integer_text 128 7 j ++ rest) (after_field false s f) rest
indexed_item limit s f j rest at lt le =
    let h = headed 128 7 j in
    record {
      first = 128 + h.low;
      more = h.more ++ rest;
      text_is = ap (λ (x : List ℕ). x ++ rest) h.text;
      item = rw (le-leb 128 (128 + h.low) (omega arith)) (indexed_read s f j rest at lt le);
    }

is_kept : Style → Bool
is_kept Plain = false
is_kept Indexed = true

name_head : (style : Style) (f : Field) (o : Option ℕ) (name : List ℕ) → IsName style f.name o name → (low : ℕ) × (more : List ℕ) × (low < 2 ^ prefix style) × (name ≡ (first_bits style + low) ∷ more)
name_head style f (Some j) name is = let h = headed (first_bits style) (prefix style) j in (h.low, h.more, h.below, is ∙ h.text)
name_head style f None name (text, is, whole) = let h = headed (first_bits style) (prefix style) 0 in (h.low, h.more ++ text, h.below, whole ∙ ap (λ (x : List ℕ). x ++ text) h.text)

literal_kind : (style : Style) (limit : ℕ) (s : State) (low : ℕ) (text : List ℕ) (out : Result (State × List ℕ) HpackFault) → low < 2 ^ prefix style → LiteralAt (is_kept style) (prefix style) s text out → ItemAt limit s (first_bits style + low) text out
unfolding is_kept
literal_kind Plain limit s low text out lt h = rw (lt-leb 128 (0 + low) (omega (arith, lt)), lt-leb 64 (0 + low) (omega (arith, lt)), lt-leb 32 (0 + low) (omega (arith, lt))) h
literal_kind Indexed limit s low text out lt h = rw (lt-leb 128 (64 + low) (omega (arith, lt)), le-leb 64 (64 + low) (omega arith)) h

literal_item : (limit : ℕ) (style : Style) (s : State) (f : Field) (name value rest : List ℕ) → IsName style f.name (index_of style false f s.entries) name → IsString style f.value value →
    IsText f.name → IsText f.value → size_of f < 2 ^ 32 → length s.entries < 2 ^ 31 → sum_by size_of s.fields + size_of f ≤ 65536 →
    ItemRead limit s ((name ++ value) ++ rest) (after_field (is_kept style) s f) rest
literal_item limit style s f name value rest is_name is_value name_bytes value_bytes small few le =
    let h = name_head style f (index_of style false f s.entries) name is_name in
    let n = name_read style s f name (value ++ rest) (index_of style false f s.entries) refl is_name name_bytes (omega (arith, small)) few in
    let v = string_read style f.value value rest is_value value_bytes (omega (arith, small)) in
    let parts : (name ++ value) ++ rest ≡ name ++ (value ++ rest) = append_assoc name value rest in
    record {
      first = first_bits style + h.0;
      more = h.1 ++ (value ++ rest);
      text_is = parts ∙ ap (λ (x : List ℕ). x ++ (value ++ rest)) h.3;
      item = rw parts (literal_kind style limit s h.0 (name ++ (value ++ rest)) (Ok (after_field (is_kept style) s f, rest)) h.2 (literal_read (is_kept style) style s f name value rest n v le));
    }

-- ---- fields

abbrev state_of : List Field → ℕ → List Field → State
state_of entries max fields = record { entries = entries; max = max; fields = fields }

-- a field, with the entries behind it
record FieldRead (limit max : ℕ) (entries fields : List Field) (f : Field) (text : List ℕ) (after : List Field) (rest : List ℕ) : Type 0 where
  item : ItemRead limit (state_of entries max fields) (text ++ rest) (state_of after max (fields ++ f ∷ [])) rest
  room : sum_by size_of after ≤ max

field_read_as : (limit : ℕ) (style : Style) (max : ℕ) (entries fields : List Field) (f : Field) (text : List ℕ) (after : List Field) (rest : List ℕ) (o : Option ℕ) → index_of style true f entries ≡ o → IsFieldAs style max f entries o text after →
    IsText f.name → IsText f.value → max ≤ 4096 → sum_by size_of entries ≤ max → sum_by size_of fields + size_of f ≤ 65536 → FieldRead limit max entries fields f text after rest
unfolding is_kept
field_read_as limit style max entries fields f text after rest (Some j) e (is, same) name_bytes value_bytes small room le =
    let r = entry_of style true f entries j e in
    let at : entry_at entries j ≡ Some f = r.at ∙ ap (λ (g : Field). some_of g) (same_field f r.entry r.passes) in
    let few : length entries ≤ 4096 = omega (arith, count_room entries, room, small) in
    rw (is, same) (record { item = indexed_item limit (state_of entries max fields) f j rest at (omega (arith, r.upto, few)) le; room = room })
  where
    some_of : Field → Option Field
    some_of g = Some g
field_read_as limit Plain max entries fields f text after rest None e (name, value, is_name, is_value, whole, same) name_bytes value_bytes small room le =
    let few : length entries ≤ 4096 = omega (arith, count_room entries, room, small) in
    rw (whole, same) (record { item = literal_item limit Plain (state_of entries max fields) f name value rest is_name is_value name_bytes value_bytes (omega (arith, le)) (omega (arith, few)) le; room = room })
field_read_as limit Indexed max entries fields f text after rest None e (name, value, is_name, is_value, whole, same) name_bytes value_bytes small room le =
    let few : length entries ≤ 4096 = omega (arith, count_room entries, room, small) in
    rw (whole, same) (record { item = literal_item limit Indexed (state_of entries max fields) f name value rest is_name is_value name_bytes value_bytes (omega (arith, le)) (omega (arith, few)) le; room = fitting_room max (f ∷ entries) })

abbrev result_of : List Field → ℕ → List Field → Result State HpackFault
result_of entries max fields = Ok (state_of entries max fields)

fields_read : (limit : ℕ) (style : Style) (max : ℕ) (fields entries before : List Field) (text : List ℕ) (after : List Field) → AreFieldTexts style max fields entries text after →
    AreBytes fields → max ≤ 4096 → sum_by size_of entries ≤ max → sum_by size_of before + sum_by size_of fields ≤ 65536 →
    BlockAt limit (state_of entries max before) text (result_of after max (before ++ fields)) × (sum_by size_of after ≤ max)
fields_read limit style max [] entries before text after (none, same) bytes small room le =
    rw (none, same, append-nil before) (ends (state_of entries max before), room)
fields_read limit style max (f ∷ fs) entries before text after (first, more, between, is, are, whole) bytes small room le =
    let b = All-head (λ (g : Field). IsText g.name × IsText g.value) f fs bytes in
    let sizes = sum_by-cons size_of f fs in
    let pushed = sum_by_push size_of before f in
    let r = field_read_as limit style max entries before f first between more (index_of style true f entries) refl is b.0 b.1 small room (omega (arith, le, sizes)) in
    let h = fields_read limit style max fs between (before ++ f ∷ []) more after are (All-tail (λ (g : Field). IsText g.name × IsText g.value) f fs bytes) small r.room (omega (arith, le, sizes, pushed)) in
    let all : (before ++ f ∷ []) ++ fs ≡ before ++ f ∷ fs = append_assoc before (f ∷ []) fs in
    (rw (whole, ← all) (goes_on limit (state_of entries max before) (first ++ more) (state_of between max (before ++ f ∷ [])) more (result_of after max ((before ++ f ∷ []) ++ fs)) r.item h.0), h.1)

-- ---- blocks

update_item : (limit size : ℕ) (entries : List Field) (max : ℕ) (rest : List ℕ) → size ≤ limit → size < 2 ^ 32 → ItemRead limit (state_of entries max []) (integer_text 32 5 size ++ rest) (state_of (fitting size entries) size []) rest
update_item limit size entries max rest le lt =
    let h = headed 32 5 size in
    let number : integer_at BadInteger 5 (integer_text 32 5 size ++ rest) ≡ Ok (size, rest) = integer_read BadInteger 1 5 size rest lt in
    record {
      first = 32 + h.low;
      more = h.more ++ rest;
      text_is = ap (λ (x : List ℕ). x ++ rest) h.text;
      item = rw (lt-leb 128 (32 + h.low) (omega (arith, h.below)), lt-leb 64 (32 + h.low) (omega (arith, h.below)), le-leb 32 (32 + h.low) (omega arith), number, le-ltb limit size le) refl;
    }

block_read : (limit : ℕ) (style : Style) (is_lowered : Bool) (own : List Field) (size : ℕ) (fields : List Field) (text : List ℕ) (entries : List Field) (max : ℕ) (after : List Field) →
    AreBytes fields → sum_by size_of fields ≤ 65536 → size ≤ limit → size ≤ 4096 → sum_by size_of own ≤ size →
    HasEntries is_lowered (record { style = style; entries = own; max = size; is_lowered = is_lowered }) entries max → AreFieldTexts style size fields own text after →
    BlockAt limit (state_of entries max []) (update_text is_lowered size ++ text) (result_of after size fields) × (sum_by size_of after ≤ size)
block_read limit style false own size fields text entries max after bytes sum le small room (same, same_max) are =
    rw (← same, ← same_max) (fields_read limit style size fields own [] text after are bytes small room (omega (arith, sum)))
block_read limit style true own size fields text entries max after bytes sum le small room same are =
    let r = fields_read limit style size fields own [] text after are bytes small room (omega (arith, sum)) in
    let h : BlockAt limit (state_of (fitting size entries) size []) text (result_of after size fields) = subst (λ (x : List Field). BlockAt limit (state_of x size []) text (result_of after size fields)) same r.0 in
    (goes_on limit (state_of entries max []) (integer_text 32 5 size ++ text) (state_of (fitting size entries) size []) text (result_of after size fields) (update_item limit size entries max text le (omega (arith, small))) h, r.1)

pub written_is_read : WrittenIsRead
written_is_read limit old new fields text entries max bytes sum le step w =
    let r = block_read limit old.style old.is_lowered old.entries old.max fields w.text entries max new.entries bytes sum le step.small step.room step.same w.fields_are in
    let block : BlockAt limit (state_of entries max []) text (result_of new.entries new.max fields) = rw (w.out_is, w.max_is) r.0 in
    (block, record { room = rw w.max_is r.1; small = rw w.max_is step.small; same = rw w.lowered_is (refl, refl) })

-- ---- announced sizes

lowered_again : (was : Bool) (e : Encoder) (entries : List Field) (max size : ℕ) → size < e.max → HasEntries was e entries max → fitting size e.entries ≡ fitting size entries
lowered_again true e entries max size lt same = ap (fitting size) same ∙ fitting_twice size e.max entries (omega arith)
lowered_again false e entries max size lt (same, same_max) = ap (fitting size) same

pub stays_in_step : StaysInStep
stays_in_step e entries max size step =
    elim (cases_lt size e.max) [
      | inl lower ↦ rw (lt-ltb size e.max lower) (record { room = fitting_room size e.entries; small = omega (arith, step.small); same = lowered_again e.is_lowered e entries max size lower step.same })
      | inr higher ↦ rw (le-ltb size e.max higher) step
    ]
