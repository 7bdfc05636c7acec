-- How the messages of bytes grow: with more bytes, and with a wider limit.
use Rattle.std.proofs.Common.{◌≡◌, ℕ, zero, suc, ◌+◌, ◌≤◌, Bool, false, true, cond, ltb, eqb, List, [], ◌∷◌, ◌++◌, length, take, drop, refl, sym, ap, ◌∙◌, arith}
use Rattle.std.proofs.lemmas.Bool.{ltb-false, le-ltb}
use Rattle.std.proofs.lemmas.List.{length-drop}
use Rattle.grpc_framing.specs.declared.front.Front.{Front}
use Rattle.grpc_framing.specs.declared.front.Front.TheVariants.{Message, NeedMore, Compressed, TooLong}
use Rattle.grpc_framing.specs.Framing.{Messages, item_at, front_at, first_then, stopped, messages_of}
use Rattle.grpc_framing.proofs.Fronts.{front_at-len, item_at-message, count_at}
use Rattle.grpc_framing.proofs.Streams.{messages_of-message, messages_of-compressed, messages_of-too_long, messages_of-at}
use Rattle.h2_exchange.specs.Calls.{is_refused_cut}
use Rattle.h2_exchange.specs.Sending.{IsPrefix}

-- ---- more bytes

pub record Grows (old new : Messages) : Type 0 where
  pub further : List (List ℕ)
  pub all : new.messages ≡ old.messages ++ further
  -- behind a refusal comes nothing
  pub refused : is_refused_cut false old ≡ true → (further ≡ []) × (is_refused_cut false new ≡ true)

not_refused : (rest : List ℕ) → is_refused_cut false (stopped rest NeedMore) ≡ true → ⊥
not_refused [] e = absurd cc
not_refused (b ∷ rest) e = absurd cc

by_equal : (old new to : Messages) (from : Messages) → old ≡ from → new ≡ to → Grows from to → Grows old new
by_equal old new to from was is g = rw (was, is) g

behind_first : (message : List ℕ) (old new : Messages) → Grows old new → Grows (first_then message old) (first_then message new)
behind_first message old new g = record { further = g.further; all = ap (λ (ms : List (List ℕ)). message ∷ ms) g.all; refused = g.refused }

grows_at : (n limit : ℕ) (old more : List ℕ) (f : Front) → front_at limit old ≡ f → length old ≤ n →
    ((rest : List ℕ) → suc (length rest) ≤ n → Grows (messages_of limit rest) (messages_of limit (rest ++ more))) →
    Grows (messages_of limit old) (messages_of limit (old ++ more))
grows_at n limit old more (Message k) e le others =
    let len = front_at-len limit old k e in
    by_equal (messages_of limit old) (messages_of limit (old ++ more)) _ _
    (messages_of-at limit old (Message k) e) (messages_of-message limit k old more e)
    (behind_first (take k (drop 5 old)) _ _ (others (drop (5 + k) old) (omega (arith, len, le, length-drop (5 + k) old))))
grows_at n limit old more NeedMore e le others =
    by_equal (messages_of limit old) (messages_of limit (old ++ more)) _ _ (messages_of-at limit old NeedMore e) refl
    (record { further = (messages_of limit (old ++ more)).messages; all = refl; refused = λ refusal. absurd (not_refused old refusal) })
grows_at n limit old more Compressed e le others =
    by_equal (messages_of limit old) (messages_of limit (old ++ more)) _ _ (messages_of-at limit old Compressed e) (messages_of-compressed limit old more e)
    (record { further = []; all = refl; refused = λ refusal. (refl, refl) })
grows_at n limit old more TooLong e le others =
    by_equal (messages_of limit old) (messages_of limit (old ++ more)) _ _ (messages_of-at limit old TooLong e) (messages_of-too_long limit old more e)
    (record { further = []; all = refl; refused = λ refusal. (refl, refl) })

grows_within : (n limit : ℕ) (old more : List ℕ) → length old ≤ n → Grows (messages_of limit old) (messages_of limit (old ++ more))
grows_within zero limit old more le = grows_at zero limit old more (front_at limit old) refl le (λ rest small. absurd (omega (arith, small)))
grows_within (suc n) limit old more le =
    grows_at (suc n) limit old more (front_at limit old) refl le (λ rest small. grows_within n limit rest more (omega (arith, small)))

pub grows : (limit : ℕ) (old more : List ℕ) → Grows (messages_of limit old) (messages_of limit (old ++ more))
grows limit old more = grows_within (length old) limit old more (omega arith)

-- ---- a wider limit

item_wider : (low high : ℕ) (bytes : List ℕ) (n : ℕ) → low ≤ high → item_at low bytes ≡ Message n → item_at high bytes ≡ Message n
unfolding item_at
item_wider low high bytes n le e =
    let p = item_at-message low bytes n e in
    let within : count_at bytes ≤ low = ltb-false _ _ p.1 in
    let short : ltb (length bytes) 4 ≡ false = p.0 in
    let part : ltb (length (drop 4 bytes)) (count_at bytes) ≡ false = p.2 in
    let long : ltb high (count_at bytes) ≡ false = le-ltb _ _ (omega (arith, within, le)) in
    rw (short, long, part) (ap Message p.3)

by_flag : (t : Bool) (a b : Front) (n : ℕ) → (a ≡ Message n → b ≡ Message n) → cond t a Compressed ≡ Message n → cond t b Compressed ≡ Message n
by_flag true a b n h e = h e
by_flag false a b n h e = absurd cc

front_wider : (low high : ℕ) (bytes : List ℕ) (n : ℕ) → low ≤ high → front_at low bytes ≡ Message n → front_at high bytes ≡ Message n
unfolding front_at
front_wider low high [] n le e = absurd cc
front_wider low high (flag ∷ bytes) n le e = by_flag (eqb flag 0) (item_at low bytes) (item_at high bytes) n (item_wider low high bytes n le) e

wider_at : (n low high : ℕ) (bytes : List ℕ) (f : Front) → low ≤ high → front_at low bytes ≡ f → length bytes ≤ n →
    ((rest : List ℕ) → suc (length rest) ≤ n → IsPrefix (messages_of low rest).messages (messages_of high rest).messages) →
    IsPrefix (messages_of low bytes).messages (messages_of high bytes).messages
wider_at n low high bytes (Message k) wide e le others =
    let len = front_at-len low bytes k e in
    let rest = drop (5 + k) bytes in
    let first = take k (drop 5 bytes) in
    let behind = others rest (omega (arith, len, le, length-drop (5 + k) bytes)) in (
      behind.0,
      ap (λ (c : Messages). c.messages) (messages_of-at high bytes (Message k) (front_wider low high bytes k wide e))
          ∙ ap (λ (ms : List (List ℕ)). first ∷ ms) behind.1
          ∙ ap (λ (c : Messages). c.messages ++ behind.0) (sym (messages_of-at low bytes (Message k) e)),
    )
wider_at n low high bytes NeedMore wide e le others =
    ((messages_of high bytes).messages, ap (λ (c : Messages). c.messages ++ (messages_of high bytes).messages) (sym (messages_of-at low bytes NeedMore e)))
wider_at n low high bytes Compressed wide e le others =
    ((messages_of high bytes).messages, ap (λ (c : Messages). c.messages ++ (messages_of high bytes).messages) (sym (messages_of-at low bytes Compressed e)))
wider_at n low high bytes TooLong wide e le others =
    ((messages_of high bytes).messages, ap (λ (c : Messages). c.messages ++ (messages_of high bytes).messages) (sym (messages_of-at low bytes TooLong e)))

wider_within : (n low high : ℕ) (bytes : List ℕ) → low ≤ high → length bytes ≤ n → IsPrefix (messages_of low bytes).messages (messages_of high bytes).messages
wider_within zero low high bytes wide le = wider_at zero low high bytes (front_at low bytes) wide refl le (λ rest small. absurd (omega (arith, small)))
wider_within (suc n) low high bytes wide le =
    wider_at (suc n) low high bytes (front_at low bytes) wide refl le (λ rest small. wider_within n low high rest wide (omega (arith, small)))

pub wider : (low high : ℕ) (bytes : List ℕ) → low ≤ high → IsPrefix (messages_of low bytes).messages (messages_of high bytes).messages
wider low high bytes wide = wider_within (length bytes) low high bytes wide (omega arith)
