-- Behind a pump each stream is answered, unless its window or the connection's is used up; and no more waits than streams are owed.
use Rattle.std.proofs.Common.{◌≡◌, ◌⊎◌, inl, inr, ℕ, ◌+◌, ◌-◌, ◌≤◌, ◌<◌, Bool, false, true, List, [], ◌∷◌, ◌++◌, length, Option, Some, None, refl, sym, ap, subst, ◌∙◌, arith, sum_by, append-nil, length-append}
use Rattle.std.specs.Prelude.{nat_lt}
use Rattle.std.specs.List.{flat_map, list_any}
use Rattle.std.proofs.lemmas.Bool.{ltb-true, ltb-false}
use Rattle.std.proofs.lemmas.List.Concat.{flat_map-append}
use Rattle.std.proofs.lemmas.List.Sums.{sum_by-append}
use Rattle.grpc_heads.specs.CallEnd.{CallEnd, call_end_of}
use Rattle.grpc_heads.specs.Written.{response_fields}
use Rattle.hpack_tables.specs.declared.field.Field.{Field}
use Rattle.schema_numbers.specs.Numbers.{Numbers}
use Rattle.h2_exchange.specs.declared.role.Role.{Role}
use Rattle.h2_exchange.specs.declared.role.Role.TheVariants.{Server}
use Rattle.h2_exchange.specs.Exchange.{Step, received, sent}
use Rattle.h2_exchange.specs.StreamParts.{Item, Message, Finish, StreamEnd, Trailers, AnswersAre, IsAllOf, IsPrefixOf, end_by, parts}
use Rattle.h2_exchange.specs.Streams.{is_begun, is_ended_by, is_live, is_reset, live}
use Rattle.h2_exchange.specs.Windows.{may_send, spent_on}
use Rattle.h2_exchange.proofs.Compressing.{written_blocks_are_read}
use Rattle.h2_exchange.proofs.Places.{clash}
use Rattle.http_connection.specs.ConnectionTrace.{is_alive}
use Rattle.grpc_stream.specs.CallTrace.{CallTrace, CarriesResponseOn, is_end, is_ended, queued_on, text_of, unsent_on, waiting_in}
use Rattle.grpc_stream.specs.Sends.{Pumps}
use Rattle.grpc_stream.proofs.Entire.{all_is_answered}
use Rattle.grpc_stream.proofs.Pieces.{as_many, parts_end, response_end}
use Rattle.grpc_stream.proofs.Spoken.{read, spelled_as}
use Rattle.call_answers.specs.declared.orders.Setting.{Setting}
use Rattle.call_orders.specs.Calls as call
use Rattle.call_orders.specs.Calls.{Action, answers, standing}
use Rattle.server_turns.specs.Past.{Past}
use Rattle.server_turns.specs.Serving.{IsAnswered}
use Rattle.server_turns.specs.Turning.{unsent}
use Rattle.server_account.specs.Agreeing.{IsServer, IsTaken, account_of}
use Rattle.server_account.proofs.Resets.{reset_stays}

-- ---- a stream that no side reset

data StateOf (x : List Step) (id : ℕ) : Type 0 where
  lives : is_live Server x id ≡ true → StateOf x id
  idle : is_begun Server x id ≡ false → StateOf x id
  was_ended : is_ended_by (sent x) id ≡ true → StateOf x id

state_of : (x : List Step) (id : ℕ) → is_reset x id ≡ false → StateOf x id
state_of x id kept = by (is_begun Server x id) (is_reset x id) (is_ended_by (received x) id) (is_ended_by (sent x) id) refl refl refl refl kept
  where
    by : (b r e f : Bool) → is_begun Server x id ≡ b → is_reset x id ≡ r → is_ended_by (received x) id ≡ e → is_ended_by (sent x) id ≡ f → r ≡ false → StateOf x id
    by false r e f is_b is_r is_e is_f kept = idle is_b
    by true true e f is_b is_r is_e is_f kept = absurd cc
    by true false e true is_b is_r is_e is_f kept = was_ended is_f
    by true false true false is_b is_r is_e is_f kept = lives (rw (is_b, is_r, is_e, is_f) refl)
    by true false false false is_b is_r is_e is_f kept = lives (rw (is_b, is_r, is_e) refl)

all_before : (messages : List (List ℕ)) (rest : List ℕ) (end : Option CallEnd) (e : CallEnd) (owed : List (Item CallEnd)) → end ≡ Some e → IsPrefixOf messages rest end owed → IsAllOf messages rest end owed
all_before (m ∷ ms) rest end e (Message n ∷ owed) is (same, others) = (same, all_before ms rest end e owed is others)
all_before (m ∷ ms) rest end e (Finish f ∷ owed) is h = absurd h
all_before (m ∷ ms) rest end e [] is h = absurd h
all_before [] rest None e owed is h = absurd cc
all_before [] rest (Some end) e [] is h = absurd h
all_before [] rest (Some end) e (Message n ∷ owed) is h = absurd h
all_before [] rest (Some end) e (Finish f ∷ []) is h = h
all_before [] rest (Some end) e (Finish f ∷ i ∷ owed) is h = absurd h

end_read : (read_end : List Field → CallEnd) (end : Option CallEnd) (close : StreamEnd) (fields : List Field) → end ≡ end_by response_fields read_end close → close ≡ Trailers fields → end ≡ Some (read_end fields)
end_read read_end end close fields e is = e ∙ ap (end_by response_fields read_end) is

module _ (s : Setting) (t u : CallTrace) (later : List ℕ) (h : IsServer s u later) (pumps : Pumps t u) (alive : is_alive t.connection_trace ≡ true) (id : ℕ) where
  abbrev AllIsTaken : Type 0
  AllIsTaken = AnswersAre response_fields (call_end_of u.numbers) u.connection_trace.frames id (queued_on u id)

  abbrev HasNoRoom : Type 0
  HasNoRoom = (is_live Server u.connection_trace.frames id ≡ true) × (may_send u.connection_trace.frames id ≡ 0) × (0 < unsent_on u id)

  answered_idle : is_begun Server u.connection_trace.frames id ≡ false → AllIsTaken
  answered_idle unbegun =
      let none : queued_on u id ≡ [] = h.sound.begun_first id (ap (λ (r : Role). is_begun r u.connection_trace.frames id) h.role ∙ unbegun) in
      let empty : length (flat_map text_of (queued_on u id)) ≡ 0 = ap (λ (owed : List (Item CallEnd)). length (flat_map text_of owed)) none in
      all_is_answered written_blocks_are_read u later h.sound h.suited h.role id (omega (arith, empty)) (λ ended. never ended none)
    where
      never : {A : Type 0} → is_ended u id ≡ true → queued_on u id ≡ [] → A
      never ended none = let wrong : true ≡ false = sym ended ∙ ap (list_any is_end) none in absurd cc

  answered_ended : is_ended_by (sent u.connection_trace.frames) id ≡ true → AllIsTaken
  answered_ended e =
      let fs = sent u.connection_trace.frames in
      let heads = u.connection_trace.written in
      let blocks_read = read written_blocks_are_read u later h.sound in
      let on : CarriesResponseOn u id = spelled_as Server u later h.sound h.suited h.role id in
      let last = response_end response_fields (parts id heads fs) on.spells.bytes on.spells.close on.spells.response (parts_end id heads fs (as_many fs heads blocks_read) e) in
      (heads, blocks_read, on.messages, on.rest, on.end, on.spells, all_before on.messages on.rest on.end (call_end_of u.numbers last.0) (queued_on u id) (end_read (call_end_of u.numbers) on.end on.spells.close last.0 on.spells.end_is last.1) on.front)

  answered_live : is_live Server u.connection_trace.frames id ≡ true → AllIsTaken ⊎ HasNoRoom
  answered_live l = by (nat_lt 0 (unsent_on u id)) refl
    where
      live_as : is_live u.connection_trace.role u.connection_trace.frames id ≡ true
      live_as = ap (λ (r : Role). is_live r u.connection_trace.frames id) h.role ∙ l

      by : (b : Bool) → nat_lt 0 (unsent_on u id) ≡ b → AllIsTaken ⊎ HasNoRoom
      by true some = let waits : 0 < unsent_on u id = ltb-true 0 (unsent_on u id) some in inr (l, pumps.full alive id live_as waits, waits)
      by false none =
          let nothing : unsent_on u id ≡ 0 = omega (arith, ltb-false 0 (unsent_on u id) none) in
          inl (all_is_answered written_blocks_are_read u later h.sound h.suited h.role id nothing (pumps.ended alive id live_as nothing))

  all_taken : is_reset u.connection_trace.frames id ≡ false → AllIsTaken ⊎ HasNoRoom
  all_taken kept = by (state_of u.connection_trace.frames id kept)
    where
      by : StateOf u.connection_trace.frames id → AllIsTaken ⊎ HasNoRoom
      by (lives l) = answered_live l
      by (idle i) = inl (answered_idle i)
      by (was_ended e) = inl (answered_ended e)

  -- all that a call is owed that waits for nothing more is spelled, or its stream has no room
  pub pumped : (past : Past) (rest : List ℕ) (actions : List Action) → IsTaken u id (standing s actions id).items [] → call.waiting_in (standing s actions id).state ≡ [] → is_reset u.connection_trace.frames id ≡ false →
      IsAnswered s past (account_of u later rest actions) id ⊎ HasNoRoom
  pumped past rest actions (inr cut) none kept =
      absurd (clash (is_reset u.connection_trace.frames id) (ap (λ (x : List Step). is_reset x id) cut.frames_are ∙ reset_stays cut.early cut.later id cut.reset) kept)
  pumped past rest actions (inl all) none kept = elim (all_taken kept) [
    | inr short ↦ inr short
    | inl said ↦ inl (subst (λ (n : Numbers). AnswersAre response_fields (call_end_of n) u.connection_trace.frames id (answers s actions id)) h.numbers
        (subst (AnswersAre response_fields (call_end_of u.numbers) u.connection_trace.frames id) owed said))
  ]
    where
      owed : queued_on u id ≡ answers s actions id
      owed = sym (append-nil (queued_on u id)) ∙ all ∙ sym (append-nil (standing s actions id).items) ∙ ap (λ (l : List (Item CallEnd)). (standing s actions id).items ++ l) (sym none)

-- ---- how much waits

abbrev size : List (Item CallEnd) → ℕ
size items = length (flat_map text_of items)

size_more : (xs ys : List (Item CallEnd)) → size (xs ++ ys) ≡ size xs + size ys
size_more xs ys = ap length (flat_map-append text_of xs ys) ∙ length-append (flat_map text_of xs) (flat_map text_of ys)

taken_fits : (t : CallTrace) (id : ℕ) (items left waiting : List (Item CallEnd)) → IsTaken t id items left → size (queued_on t id) ≤ size (items ++ waiting)
taken_fits t id items left waiting (inl all) = omega (arith, size_more (queued_on t id) left, ap size all, size_more items waiting)
taken_fits t id items left waiting (inr cut) = by cut.queued
  where
    fits : size cut.taken ≤ size (items ++ waiting)
    fits = omega (arith, size_more cut.taken cut.missing, ap size cut.items_are, size_more items waiting)

    by : (queued_on t id ≡ cut.taken) ⊎ ((answer : CallEnd) × (queued_on t id ≡ cut.taken ++ Finish answer ∷ [])) → size (queued_on t id) ≤ size (items ++ waiting)
    by (inl same) = omega (arith, ap size same, fits)
    by (inr (answer, same)) = let none : size (Finish answer ∷ []) ≡ 0 = refl in omega (arith, ap size same, size_more cut.taken (Finish answer ∷ []), none, fits)

sums_fit : (f g : ℕ → ℕ) → ((n : ℕ) → f n ≤ g n) → (ids : List ℕ) → sum_by f ids ≤ sum_by g ids
sums_fit f g fits [] = omega arith
sums_fit f g fits (i ∷ ids) =
    let one_f : sum_by f (i ∷ []) ≡ 0 + f i = refl in
    let one_g : sum_by g (i ∷ []) ≡ 0 + g i = refl in
    omega (arith, one_f, one_g, sum_by-append f (i ∷ []) ids, sum_by-append g (i ∷ []) ids, fits i, sums_fit f g fits ids)

-- no more waits than streams are owed
pub waits_fit : (s : Setting) (t : CallTrace) (output rest : List ℕ) (actions : List Action) (left : ℕ → List (Item CallEnd)) → t.connection_trace.role ≡ Server → ((id : ℕ) → IsTaken t id (standing s actions id).items (left id)) →
    waiting_in t ≤ unsent s (account_of t output rest actions)
waits_fit s t output rest actions left is taken =
    subst (λ (r : Role). sum_by (unsent_on t) (live r t.connection_trace.frames) ≤ unsent s (account_of t output rest actions)) (sym is)
    (sums_fit (unsent_on t) (λ id. length (flat_map text_of (answers s actions id)) - spent_on id (sent t.connection_trace.frames)) one (live Server t.connection_trace.frames))
  where
    one : (id : ℕ) → unsent_on t id ≤ length (flat_map text_of (answers s actions id)) - spent_on id (sent t.connection_trace.frames)
    one id = omega (arith, taken_fits t id (standing s actions id).items (left id) (call.waiting_in (standing s actions id).state) (taken id))
