-- What stands on a stream stays so where nothing is sent on it.
use Rattle.std.proofs.Common.{◌≡◌, ℕ, true, false, List, [], ◌∷◌, length, refl, sym, ap, subst, ◌∙◌, arith}
use Rattle.std.specs.List.{All, flat_map}
use Rattle.hpack_tables.specs.declared.field.Field.{Field}
use Rattle.h2_exchange.specs.declared.role.Role.{Role}
use Rattle.h2_exchange.specs.declared.role.Role.TheVariants.{Client, Server}
use Rattle.h2_exchange.specs.Exchange.{sent}
use Rattle.h2_exchange.specs.Requests.{IsRequest}
use Rattle.h2_exchange.specs.StreamParts.{Finish, Item, IsMessageFirst, IsResponse, Part, end_by, has_begun}
use Rattle.h2_exchange.specs.Streams.{is_begun, is_ended_by, is_open}
use Rattle.h2_exchange.specs.Windows.{spent_on}
use Rattle.grpc_heads.specs.CallEnd.{CallEnd, call_end_of}
use Rattle.grpc_heads.specs.Written.{response_fields}
use Rattle.schema_numbers.specs.Numbers.{Numbers}
use Rattle.grpc_stream.specs.CallTrace.{CallTrace, asked_on, is_end, queued_on, suits, text_of}
use Rattle.std.specs.List.{list_any}
use Rattle.kept_calls.specs.declared.call.Ending.{Ending}
use Rattle.kept_calls.specs.declared.call.Ending.TheVariants as end
use Rattle.kept_calls.specs.CallState.{CallState}
use Rattle.call_sending.specs.Spelling.{AreSuited, AreTaken, EndsIn, IsAhead, IsHeaded, Prepares, Sends, Speaks, Spells, parts_on}

-- nothing is sent on a stream, or taken for it
pub record IsUntouched (t u : CallTrace) (id : ℕ) : Type 0 where
  pub role_is : u.connection_trace.role ≡ t.connection_trace.role
  pub numbers_are : u.numbers ≡ t.numbers
  pub queued_is : queued_on u id ≡ queued_on t id
  pub head_is : (asked_on u id).head ≡ (asked_on t id).head
  pub parts_are : parts_on u id ≡ parts_on t id
  pub spent_is : spent_on id (sent u.connection_trace.frames) ≡ spent_on id (sent t.connection_trace.frames)
  pub ended_is : is_ended_by (sent u.connection_trace.frames) id ≡ is_ended_by (sent t.connection_trace.frames) id
  pub begun : is_begun u.connection_trace.role u.connection_trace.frames id ≡ false → is_begun t.connection_trace.role t.connection_trace.frames id ≡ false
  pub begun_before : u.connection_trace.role ≡ Client → is_begun Client u.connection_trace.frames id ≡ true → is_begun Client t.connection_trace.frames id ≡ true
  pub opened : is_open u.connection_trace.role u.connection_trace.frames id ≡ true → is_open t.connection_trace.role t.connection_trace.frames id ≡ true

-- the end that is prepared for a stream depends on what was taken for it alone
pub prepared_same : (role : Role) (t u : CallTrace) (id : ℕ) (ending : Ending) (fields : List Field) → u.numbers ≡ t.numbers → queued_on u id ≡ queued_on t id → Prepares role t id ending fields → Prepares role u id ending fields
prepared_same Client t u id ending fields numbers queued h = h
prepared_same Server t u id end.Open fields numbers queued h = tt
prepared_same Server t u id end.Sent fields numbers queued h = tt
prepared_same Server t u id end.HalfClose fields numbers queued h = absurd h
prepared_same Server t u id end.Block fields numbers queued (all, sound) =
    (queued ∙ all ∙ ap (λ (n : Numbers). Finish (call_end_of n fields) ∷ []) (sym numbers), sound)
prepared_same Server t u id end.Trailers fields numbers queued (ends, first, sound) = (
  subst (λ (items : List (Item CallEnd)). EndsIn (call_end_of u.numbers fields) items) (sym queued) (subst (λ (n : Numbers). EndsIn (call_end_of n fields) (queued_on t id)) (sym numbers) ends),
  subst IsMessageFirst (sym queued) first,
  sound,
)

module _ (t u : CallTrace) (id : ℕ) (same : IsUntouched t u id) where
  pub suited_before : AreSuited u id → AreSuited t id
  suited_before h =
      subst (λ (r : Role). All (λ what. suits r what ≡ true) (queued_on t id)) same.role_is
      (subst (λ (items : List (Item CallEnd)). All (λ what. suits u.connection_trace.role what ≡ true) items) same.queued_is h)

  spells_same : (role : Role) (rest : List ℕ) → u.connection_trace.role ≡ role → Spells role t id rest → Spells role u id rest
  spells_same Server rest role_is h = record {
    bytes = h.bytes;
    close = h.close;
    response = subst (λ (ps : List Part). IsResponse response_fields ps h.bytes h.close) (sym same.parts_are) h.response;
    text = ap (flat_map text_of) same.queued_is ∙ h.text;
    begins = λ e. subst IsMessageFirst (sym same.queued_is) (h.begins (ap has_begun (sym same.parts_are) ∙ e));
    closes = λ e q.
        let k = h.closes e (ap (λ (n : Numbers). end_by response_fields (call_end_of n) h.close) (sym same.numbers_are) ∙ q) in
        (k.0, subst (EndsIn e) (sym same.queued_is) k.1);
  }
  spells_same Client rest role_is h = record {
    bytes = h.bytes;
    is_last = h.is_last;
    headed = λ e. subst IsHeaded (sym same.parts_are) (h.headed (same.begun_before role_is e));
    request = subst (λ (head : List Field). IsRequest head (parts_on u id) h.bytes h.is_last) (sym same.head_is)
        (subst (λ (ps : List Part). IsRequest (asked_on t id).head ps h.bytes h.is_last) (sym same.parts_are) h.request);
    text = ap (flat_map text_of) same.queued_is ∙ h.text;
    closes = λ e. let k = h.closes e in (k.0, (k.1.0, subst (EndsIn k.1.0) (sym same.queued_is) k.1.1));
  }

  pub speaks_same : (rest : List ℕ) → Speaks t id rest → Speaks u id rest
  speaks_same rest h = record {
    taken = subst AreTaken (sym same.queued_is) h.taken;
    begun_first = λ e. let none = h.begun_first (same.begun e) in (same.queued_is ∙ none.0, same.parts_are ∙ none.1);
    count = omega (arith, h.count, same.spent_is, ap (λ (items : List (Item CallEnd)). length (flat_map text_of items)) same.queued_is);
    whole = λ e. h.whole (sym same.ended_is ∙ e);
    spelled = λ suited. spells_same u.connection_trace.role rest refl (subst (λ (r : Role). Spells r t id rest) (sym same.role_is) (h.spelled (suited_before suited)));
  }

pub sends_kept : (t u : CallTrace) (c : CallState) → IsUntouched t u c.stream → Sends t c → Sends u c
sends_kept t u c same h = record {
  speaks = speaks_same t u c.stream same c.unsent h.speaks;
  ended_is = ap (list_any is_end) same.queued_is ∙ h.ended_is;
  sent_is = λ e. same.ended_is ∙ h.sent_is e;
  fits = h.fits;
  message_is = λ e. ap (flat_map text_of) same.queued_is ∙ h.message_is e;
  first_is = λ e. subst IsMessageFirst (sym same.queued_is) (h.first_is e);
  ahead = λ o. subst (IsAhead c.has_head) (sym same.parts_are) (h.ahead (same.opened o));
  prepared = λ suited.
      subst (λ (r : Role). Prepares r u c.stream c.ending c.fields) (sym same.role_is)
      (prepared_same t.connection_trace.role t u c.stream c.ending c.fields same.numbers_are same.queued_is (h.prepared (suited_before t u c.stream same suited)));
}
