-- How many bytes messages take, and what is left behind them.
use Rattle.std.proofs.Common.{◌≡◌, ℕ, zero, suc, ◌+◌, ◌≤◌, Bool, false, true, List, [], ◌∷◌, ◌++◌, length, take, drop, Option, Some, None, refl, sym, ap, ◌∙◌, arith, ltb, sum_by}
use Rattle.std.specs.List.{list_any}
use Rattle.std.specs.Int.{w32, from_be_bytes, to_be_bytes}
use Rattle.std.proofs.lemmas.Bool.{le-ltb}
use Rattle.std.proofs.lemmas.List.Sums.{sum_by-append}
use Rattle.std.proofs.lemmas.List.{append-nil, length-append, length-drop, length-take, nil_from_length, take_at, drop_at}
use Rattle.grpc_framing.specs.declared.front.Front.{Front}
use Rattle.grpc_framing.specs.declared.front.Front.TheVariants as front
use Rattle.grpc_framing.specs.declared.front.Front.TheVariants.{NeedMore}
use Rattle.grpc_framing.specs.Framing.{Messages, item_at, front_at, first_of, messages_upto, messages_of, item, items}
use Rattle.grpc_framing.proofs.Fronts.{front_at-len}
use Rattle.grpc_framing.proofs.Again.{messages_of-ending}
use Rattle.h2_exchange.specs.StreamParts.{Item, Message, Finish, IsPrefixOf, IsAllOf}

-- ---- a cut

pub item_length : (message : List ℕ) → length (item message) ≡ 5 + length message
item_length message = omega arith

count_first : (n limit : ℕ) (bytes : List ℕ) (f : Front) → front_at limit bytes ≡ f → ((rest : List ℕ) → length (items (messages_upto n limit rest).messages) + length (messages_upto n limit rest).rest ≡ length rest) →
    length (items (first_of (messages_upto n limit) bytes f).messages) + length (first_of (messages_upto n limit) bytes f).rest ≡ length bytes
count_first n limit bytes (front.Message k) e others =
    let cut : Messages = messages_upto n limit (drop (5 + k) bytes) in
    let len = front_at-len limit bytes k e in
    omega (
      arith,
      len,
      length-append (item (take k (drop 5 bytes))) (items cut.messages),
      item_length (take k (drop 5 bytes)),
      length-take k (drop 5 bytes),
      length-drop 5 bytes,
      length-drop (5 + k) bytes,
      others (drop (5 + k) bytes),
    )
count_first n limit bytes front.NeedMore e others = omega arith
count_first n limit bytes front.Compressed e others = omega arith
count_first n limit bytes front.TooLong e others = omega arith

count_upto : (n limit : ℕ) (bytes : List ℕ) → length (items (messages_upto n limit bytes).messages) + length (messages_upto n limit bytes).rest ≡ length bytes
unfolding messages_upto
count_upto zero limit bytes = omega arith
count_upto (suc n) limit bytes = count_first n limit bytes (front_at limit bytes) refl (λ rest. count_upto n limit rest)

count_of : (limit : ℕ) (bytes : List ℕ) → length (items (messages_of limit bytes).messages) + length (messages_of limit bytes).rest ≡ length bytes
unfolding messages_of
count_of limit bytes = count_upto (length bytes) limit bytes

-- a cut has all bytes, and no message at the front of its rest
pub record IsCut (messages : List (List ℕ)) (rest bytes : List ℕ) : Type 0 where
  pub count : length (items messages) + length rest ≡ length bytes
  pub open_rest : front_at 4294967295 rest ≡ NeedMore

pub is_cut : (messages : List (List ℕ)) (rest bytes : List ℕ) → messages_of 4294967295 bytes ≡ record { messages = messages; rest = rest; ending = NeedMore } → IsCut messages rest bytes
is_cut messages rest bytes e = record {
  count = sym (ap (λ (c : Messages). length (items c.messages) + length c.rest) e) ∙ count_of 4294967295 bytes;
  open_rest = sym (ap (λ (c : Messages). front_at 4294967295 c.rest) e) ∙ messages_of-ending 4294967295 bytes ∙ ap (λ (c : Messages). c.ending) e;
}

-- ---- a whole item

-- the number in four bytes is at most the one that was written
low_count : (n : ℕ) → from_be_bytes w32 (to_be_bytes w32 n) ≤ n
low_count n = omega arith

small_count : (n : ℕ) → from_be_bytes w32 (to_be_bytes w32 n) ≤ 4294967295
small_count n = omega arith

no_need : (head message : List ℕ) → length head ≡ 4 → from_be_bytes w32 head ≤ length message → from_be_bytes w32 head ≤ 4294967295 → item_at 4294967295 (head ++ message) ≡ NeedMore → ⊥
unfolding item_at
no_need head message four low small e =
    let a : ltb (length (head ++ message)) 4 ≡ false = le-ltb _ _ (omega (arith, length-append head message, four)) in
    let text : take 4 (head ++ message) ≡ head = take_at head message 4 four in
    let rest : drop 4 (head ++ message) ≡ message = drop_at head message 4 four in
    let b : ltb 4294967295 (from_be_bytes w32 head) ≡ false = le-ltb _ _ small in
    let d : ltb (length message) (from_be_bytes w32 head) ≡ false = le-ltb _ _ low in
    never (rw (a, text, b, rest, d) at e)
  where
    never : {n : ℕ} → front.Message n ≡ NeedMore → ⊥
    never e = cc

-- at a message that is whole no more is needed
whole_item : (message : List ℕ) → front_at 4294967295 (item message) ≡ NeedMore → ⊥
unfolding front_at
whole_item message e = no_need (to_be_bytes w32 (length message)) message refl (low_count (length message)) (small_count (length message)) e

-- ---- all of what is owed

at_item : (message rest more : List ℕ) → rest ++ more ≡ item message → length (item message) ≤ length rest → front_at 4294967295 rest ≡ NeedMore → ⊥
at_item message rest more e le open_rest =
    let none : more ≡ [] = nil_from_length more (omega (arith, ap length e, length-append rest more, le)) in
    let same : rest ≡ item message = sym (append-nil rest) ∙ ap (λ (m : List ℕ). rest ++ m) (sym none) ∙ e in
    whole_item message (sym (ap (front_at 4294967295) same) ∙ open_rest)

module _ {E : Type 0} where
  abbrev pub item_size : Item E → ℕ
  item_size (Message message) = length (item message)
  item_size (Finish close) = 0

  abbrev pub ends : Item E → Bool
  ends (Message message) = false
  ends (Finish close) = true

  pub one_more : (first : Item E) (owed : List (Item E)) → sum_by item_size (first ∷ owed) ≡ item_size first + sum_by item_size owed
  one_more first owed =
      let alone : sum_by item_size (first ∷ []) ≡ 0 + item_size first = refl in
      omega (arith, alone, sum_by-append item_size (first ∷ []) owed)

  -- A first part of the items that has as many bytes as they have, and their end, is all of them.
  pub all_of : (messages : List (List ℕ)) (rest : List ℕ) (end : Option E) (owed : List (Item E)) → IsPrefixOf messages rest end owed → sum_by item_size owed ≤ length (items messages) + length rest →
      front_at 4294967295 rest ≡ NeedMore → (list_any ends owed ≡ true → end ≡ None → ⊥) → IsAllOf messages rest end owed
  all_of (m ∷ ms) rest end (Message n ∷ owed) (same, others) le open_rest ended =
      (same, all_of ms rest end owed others (omega (arith, le, one_more (Message n) owed, length-append (item m) (items ms), ap (λ (x : List ℕ). length (item x)) same)) open_rest ended)
  all_of (m ∷ ms) rest end (Finish e ∷ owed) h le open_rest ended = absurd h
  all_of (m ∷ ms) rest end [] h le open_rest ended = absurd h
  all_of [] rest None [] h le open_rest ended = h
  all_of [] rest None (Message n ∷ owed) (more, same) le open_rest ended = absurd (at_item n rest more same (omega (arith, le, one_more (Message n) owed)) open_rest)
  all_of [] rest None (Finish e ∷ owed) h le open_rest ended = absurd (ended refl refl)
  all_of [] rest (Some end) [] h le open_rest ended = absurd h
  all_of [] rest (Some end) (Message n ∷ owed) h le open_rest ended = absurd h
  all_of [] rest (Some end) (Finish e ∷ []) h le open_rest ended = h
  all_of [] rest (Some end) (Finish e ∷ i ∷ owed) h le open_rest ended = absurd h
