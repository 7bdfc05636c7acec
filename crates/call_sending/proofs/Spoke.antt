-- What a head, a DATA and a last header block leave of what is spelled.
use Rattle.std.proofs.Common.{◌≡◌, ℕ, ◌+◌, ◌<◌, ◌≤◌, ◌==◌, Bool, true, false, ◌&&◌, ◌||◌, List, [], ◌∷◌, ◌++◌, length, take, drop, Option, Some, None, refl, sym, ap, subst, ◌∙◌, append_assoc, arith}
use Rattle.std.specs.Prelude.{if◌then◌else◌}
use Rattle.std.specs.List.{flat_map}
use Rattle.std.proofs.lemmas.List.{append-nil, length-append, length-drop, take-append-drop}
use Rattle.hpack_tables.specs.declared.field.Field.{Field}
use Rattle.h2_frames.specs.declared.frame.Frame.{Frame}
use Rattle.h2_exchange.specs.declared.role.Role.{Role}
use Rattle.h2_exchange.specs.declared.role.Role.TheVariants.{Client, Server}
use Rattle.h2_exchange.specs.Exchange.{sent}
use Rattle.h2_exchange.specs.StreamParts.{Fields, Finish, IsMessageFirst, IsResponse, Item, Message, Part, StreamEnd, Trailers, Unclosed, has_begun}
use Rattle.h2_exchange.specs.Requests.{IsRequest}
use Rattle.h2_exchange.specs.Streams.{is_begun, is_ended_by, is_open}
use Rattle.h2_exchange.specs.Windows.{spent_on}
use Rattle.h2_exchange.proofs.Looking.{or_nothing}
use Rattle.h2_exchange.proofs.Places.{and_parts, clash, not_true, same_self}
use Rattle.grpc_heads.specs.CallEnd.{CallEnd, call_end_of}
use Rattle.grpc_heads.specs.Written.{response_fields}
use Rattle.http_connection.specs.ConnectionTrace.{wrote}
use Rattle.grpc_stream.specs.CallTrace.{CallTrace, asked_on, changed, queued_on, text_of}
use Rattle.grpc_stream.proofs.Counted.{item_length}
use Rattle.kept_calls.specs.declared.call.Ending.{Ending}
use Rattle.kept_calls.specs.declared.call.Ending.TheVariants as end
use Rattle.kept_calls.specs.CallState.{CallState, ended, is_sent}
use Rattle.call_sending.specs.Moves.{Moves}
use Rattle.call_sending.specs.Pumping.{closed_if, is_half_close, placed_in}
use Rattle.call_sending.specs.Spelling.{AreSuited, EndsIn, IsAhead, IsHeaded, Prepares, Sends, Speaks, Spells, parts_on}
use Rattle.call_sending.proofs.Joined.{begun_ahead, ends_in, piece_parts, request_piece, response_piece, response_trailers, ahead_join}
use Rattle.call_sending.proofs.Kept.{IsUntouched, prepared_same}
use Rattle.call_sending.proofs.Moved.{open_back}
use Rattle.call_sending.proofs.Turning.{zero_of}

pub not_ended : (t : CallTrace) (id : ℕ) → is_open t.connection_trace.role t.connection_trace.frames id ≡ true → is_ended_by (sent t.connection_trace.frames) id ≡ false
not_ended t id o = not_true _ (and_parts _ _ o).1

and_none : (a : Bool) → (a && false) ≡ false
and_none true = refl
and_none false = refl

and_all : (a : Bool) → (a && true) ≡ a
and_all true = refl
and_all false = refl

module _ (t : CallTrace) (id : ℕ) (ps : List Part) (n : ℕ) (ends : Bool) (fs : List Frame) (lists : List (List Field))
    (m : Moves t.connection_trace.role t.connection_trace.frames t.connection_trace.written id ps n ends fs lists) where
  abbrev next : CallTrace
  next = changed (wrote fs lists) t

  pub parts_here : parts_on next id ≡ parts_on t id ++ ps
  parts_here = m.parts_are id ∙ ap (λ (b : Bool). parts_on t id ++ (if b then ps else [])) (same_self id)

  pub spent_here : spent_on id (sent next.connection_trace.frames) ≡ spent_on id (sent t.connection_trace.frames) + n
  spent_here = m.spent_is id ∙ ap (λ (b : Bool). spent_on id (sent t.connection_trace.frames) + (if b then n else 0)) (same_self id)

  pub ended_here : is_ended_by (sent next.connection_trace.frames) id ≡ (is_ended_by (sent t.connection_trace.frames) id || ends)
  ended_here = m.ended_is id ∙ ap (λ (b : Bool). is_ended_by (sent t.connection_trace.frames) id || (ends && b)) (same_self id) ∙ ap (λ (b : Bool). is_ended_by (sent t.connection_trace.frames) id || b) (and_all ends)

  pub was_open : (k : ℕ) → is_open next.connection_trace.role next.connection_trace.frames k ≡ true → is_open t.connection_trace.role t.connection_trace.frames k ≡ true
  was_open k o = open_back t.connection_trace.role t.connection_trace.frames fs k (m.begun_is k) o

  pub untouched : (k : ℕ) → (id == k) ≡ false → IsUntouched t next k
  untouched k other = record {
    role_is = refl;
    numbers_are = refl;
    queued_is = refl;
    head_is = refl;
    parts_are = m.parts_are k ∙ ap (λ (b : Bool). parts_on t k ++ (if b then ps else [])) other ∙ append-nil (parts_on t k);
    spent_is = omega (arith, m.spent_is k, ap (λ (b : Bool). if b then n else 0) other);
    ended_is = m.ended_is k ∙ ap (λ (b : Bool). is_ended_by (sent t.connection_trace.frames) k || (ends && b)) other
        ∙ ap (λ (b : Bool). is_ended_by (sent t.connection_trace.frames) k || b) (and_none ends) ∙ or_nothing (is_ended_by (sent t.connection_trace.frames) k);
    begun = λ e. sym (m.begun_is k) ∙ e;
    begun_before = λ role_is e. subst (λ (r : Role). is_begun r t.connection_trace.frames k ≡ is_begun r next.connection_trace.frames k) role_is (sym (m.begun_is k)) ∙ e;
    opened = was_open k;
  }

  module _ (begun : is_begun t.connection_trace.role t.connection_trace.frames id ≡ true) (opened : is_open t.connection_trace.role t.connection_trace.frames id ≡ true) where
    pub ends_now : is_ended_by (sent next.connection_trace.frames) id ≡ true → ends ≡ true
    ends_now e = sym (ap (λ (b : Bool). b || ends) (not_ended t id opened)) ∙ sym ended_here ∙ e

    pub speaks_moved : (rest behind : List ℕ) → length rest ≡ n + length behind → (ends ≡ true → behind ≡ []) →
        (AreSuited t id → Spells t.connection_trace.role t id rest → Spells t.connection_trace.role next id behind) → Speaks t id rest → Speaks next id behind
    speaks_moved rest behind count last spell h = record {
      taken = h.taken;
      begun_first = λ e. absurd (clash _ (m.begun_is id ∙ begun) e);
      count = omega (arith, h.count, count, spent_here);
      whole = λ e. last (ends_now e);
      spelled = λ suited. spell suited (h.spelled suited);
    }

abbrev pub is_block_end : Ending → Bool
is_block_end end.Block = true
is_block_end end.Trailers = true
is_block_end other = false

no_half : (t : CallTrace) (id : ℕ) (ending : Ending) (fields : List Field) → is_half_close ending ≡ true → Prepares Server t id ending fields → ⊥
no_half t id end.HalfClose fields e h = h
no_half t id end.Open fields e h = absurd cc
no_half t id end.Sent fields e h = absurd cc
no_half t id end.Block fields e h = absurd cc
no_half t id end.Trailers fields e h = absurd cc

client_ahead : (b : Bool) (ps : List Part) → IsAhead b ps → IsHeaded ps → IsAhead true ps
client_ahead true ps h headed = h
client_ahead false ps h headed = absurd (subst IsHeaded h headed)

headed_more : (ps qs : List Part) → IsHeaded ps → IsHeaded (ps ++ qs)
headed_more [] qs h = absurd h
headed_more (p ∷ ps) qs h = tt

half_ended : (e : Ending) → is_half_close e ≡ true → ended e ≡ true
half_ended end.HalfClose h = refl
half_ended end.Open h = absurd cc
half_ended end.Sent h = refl
half_ended end.Block h = refl
half_ended end.Trailers h = refl

ended_closed : (b : Bool) (e : Ending) → (b ≡ true → is_half_close e ≡ true) → ended (closed_if b e) ≡ ended e
ended_closed true e k = sym (half_ended e (k refl))
ended_closed false e k = refl

pub none_left : (xs : List ℕ) → length xs ≡ 0 → xs ≡ []
none_left [] e = refl
none_left (x ∷ xs) e = absurd cc

or_true : (a : Bool) → (a || true) ≡ true
or_true true = refl
or_true false = refl

the : {A : Type 0} → A → Option A → A
the d None = d
the d (Some x) = x

same_some : {A : Type 0} (x y : A) → Some x ≡ Some y → x ≡ y
unfolding the
same_some x y e = ap (the x) e

first_text : (items : List (Item CallEnd)) → IsMessageFirst items → 0 < length (flat_map text_of items)
first_text [] h = absurd h
first_text (Message m ∷ items) h = omega (arith, item_length m, length-append (text_of (Message m)) (flat_map text_of items))
first_text (Finish e ∷ items) h = absurd h

sent_prepared : (role : Role) (t : CallTrace) (id : ℕ) (fields : List Field) → Prepares role t id end.Sent fields
sent_prepared Server t id fields = tt
sent_prepared Client t id fields = tt

block_ended : (e : Ending) → is_block_end e ≡ true → ended e ≡ true
block_ended end.Block h = refl
block_ended end.Trailers h = refl
block_ended end.HalfClose h = absurd cc
block_ended end.Open h = absurd cc
block_ended end.Sent h = absurd cc

module _ (t : CallTrace) (c : CallState) (fs : List Frame) (lists : List (List Field)) (begun : is_begun t.connection_trace.role t.connection_trace.frames c.stream ≡ true)
    (opened : is_open t.connection_trace.role t.connection_trace.frames c.stream ≡ true) (h : Sends t c) where
  abbrev then_on : CallTrace
  then_on = changed (wrote fs lists) t

  abbrev here : List Part
  here = parts_on t c.stream

  ahead_here : IsAhead c.has_head here
  ahead_here = h.ahead opened

  client_begun : t.connection_trace.role ≡ Client → is_begun Client t.connection_trace.frames c.stream ≡ true
  client_begun role_is = subst (λ (r : Role). is_begun r t.connection_trace.frames c.stream ≡ true) role_is begun

  -- ---- the head of a response

  message_taken : (b : Bool) → c.has_message ≡ b → 0 < length c.unsent → c.has_message ≡ true
  message_taken true e some = e
  message_taken false e some = absurd (omega (arith, some, h.speaks.count, ap length (h.message_is e)))

  head_spells : (role : Role) → t.connection_trace.role ≡ role → here ≡ [] → parts_on then_on c.stream ≡ Fields response_fields false ∷ [] → IsMessageFirst (queued_on t c.stream) → Spells role t c.stream c.unsent → Spells role then_on c.stream c.unsent
  head_spells Server role_is none are first a =
      let empty : IsResponse response_fields [] a.bytes a.close = subst (λ (ps : List Part). IsResponse response_fields ps a.bytes a.close) none a.response in
      record {
        bytes = a.bytes;
        close = Unclosed;
        response = subst (λ (ps : List Part). IsResponse response_fields ps a.bytes Unclosed) (sym are) (refl, (empty.0, refl));
        text = a.text;
        begins = λ e. first;
        closes = λ e q. absurd cc;
      }
  head_spells Client role_is none are first a = absurd (subst IsHeaded none (a.headed (client_begun role_is)))

  pub head_sends : Moves t.connection_trace.role t.connection_trace.frames t.connection_trace.written c.stream (Fields response_fields false ∷ []) 0 false fs lists → c.has_head ≡ false → 0 < length c.unsent → Sends then_on (record c { has_head = true })
  head_sends m no_head some =
      let none : here ≡ [] = subst (λ (b : Bool). IsAhead b here) no_head ahead_here in
      let are : parts_on then_on c.stream ≡ Fields response_fields false ∷ [] = parts_here t c.stream _ 0 false fs lists m ∙ ap (λ (ps : List Part). ps ++ Fields response_fields false ∷ []) none in
      let first = h.first_is (message_taken c.has_message refl some) in
      record {
        speaks = speaks_moved t c.stream _ 0 false fs lists m begun opened c.unsent c.unsent (omega arith) (λ e. absurd cc) (λ suited. head_spells t.connection_trace.role refl none are first) h.speaks;
        ended_is = h.ended_is;
        sent_is = λ e. ended_here t c.stream _ 0 false fs lists m ∙ ap (λ (b : Bool). b || false) (h.sent_is e);
        fits = h.fits;
        message_is = h.message_is;
        first_is = h.first_is;
        ahead = λ o. subst (IsAhead true) (sym are) tt;
        prepared = λ suited. prepared_same t.connection_trace.role t then_on c.stream c.ending c.fields refl refl (h.prepared suited);
      }

  -- ---- a DATA

  module _ (n : ℕ) where
    text_split : (bytes : List ℕ) → bytes ++ c.unsent ≡ (bytes ++ take n c.unsent) ++ drop n c.unsent
    text_split bytes = ap (λ (l : List ℕ). bytes ++ l) (sym (take-append-drop n c.unsent)) ∙ sym (append_assoc bytes (take n c.unsent) (drop n c.unsent))

    piece_spells : (role : Role) (e : Bool) → t.connection_trace.role ≡ role → parts_on then_on c.stream ≡ here ++ piece_parts e (take n c.unsent) → (e ≡ true → is_half_close c.ending ≡ true) → (e ≡ true → drop n c.unsent ≡ []) →
        (e ≡ false → c.has_head ≡ true) → Prepares role t c.stream c.ending c.fields → Spells role t c.stream c.unsent → Spells role then_on c.stream (drop n c.unsent)
    piece_spells Server true role_is are half gone headed prepares a = absurd (no_half t c.stream c.ending c.fields (half refl) prepares)
    piece_spells Server false role_is are half gone headed prepares a =
        let front : IsAhead true here = subst (λ (b : Bool). IsAhead b here) (headed refl) ahead_here in
        record {
          bytes = a.bytes ++ take n c.unsent;
          close = Unclosed;
          response = subst (λ (ps : List Part). IsResponse response_fields ps (a.bytes ++ take n c.unsent) Unclosed) (sym are) (response_piece response_fields here a.bytes (take n c.unsent) a.close front a.response);
          text = a.text ∙ text_split a.bytes;
          begins = λ e. a.begins (begun_ahead here front);
          closes = λ e q. absurd cc;
        }
    piece_spells Client e role_is are half gone headed prepares a =
        let first : IsHeaded here = a.headed (client_begun role_is) in
        record {
          bytes = a.bytes ++ take n c.unsent;
          is_last = e;
          headed = λ k. subst IsHeaded (sym are) (headed_more here (piece_parts e (take n c.unsent)) first);
          request = subst (λ (ps : List Part). IsRequest (asked_on t c.stream).head ps (a.bytes ++ take n c.unsent) e) (sym are)
              (request_piece (asked_on t c.stream).head here a.bytes (take n c.unsent) a.is_last e (client_ahead c.has_head here ahead_here first) a.request);
          text = a.text ∙ text_split a.bytes;
          closes = λ k. (gone k, ends_in (queued_on t c.stream) h.speaks.taken (h.ended_is ∙ half_ended c.ending (half k)));
        }

    piece_ahead : (e : Bool) → parts_on then_on c.stream ≡ here ++ piece_parts e (take n c.unsent) → (e ≡ true → is_ended_by (sent then_on.connection_trace.frames) c.stream ≡ true) → (e ≡ false → c.has_head ≡ true) →
        is_open then_on.connection_trace.role then_on.connection_trace.frames c.stream ≡ true → IsAhead c.has_head (parts_on then_on c.stream)
    piece_ahead true are over headed o = absurd (clash _ (over refl) (not_ended then_on c.stream o))
    piece_ahead false are over headed o =
        subst (λ (b : Bool). IsAhead b (parts_on then_on c.stream)) (sym (headed refl)) (subst (IsAhead true) (sym are) (ahead_join here (take n c.unsent) (subst (λ (b : Bool). IsAhead b here) (headed refl) ahead_here)))

    piece_sent_is : (e : Bool) → (e ≡ true → is_ended_by (sent then_on.connection_trace.frames) c.stream ≡ true) → is_sent (closed_if e c.ending) ≡ true → is_ended_by (sent then_on.connection_trace.frames) c.stream ≡ true
    piece_sent_is true over s = over refl
    piece_sent_is false over s = absurd (clash _ (h.sent_is s) (not_ended t c.stream opened))

    piece_prepared : (role : Role) (e : Bool) → Prepares role t c.stream c.ending c.fields → Prepares role then_on c.stream (closed_if e c.ending) c.fields
    piece_prepared role true p = sent_prepared role then_on c.stream c.fields
    piece_prepared role false p = prepared_same role t then_on c.stream c.ending c.fields refl refl p

    pub piece_sends : (ends : Bool) → n ≤ length c.unsent → ends ≡ (length (drop n c.unsent) == 0 && is_half_close c.ending) → (ends ≡ false → c.has_head ≡ true) →
        Moves t.connection_trace.role t.connection_trace.frames t.connection_trace.written c.stream (piece_parts ends (take n c.unsent)) n ends fs lists → Sends then_on (placed_in n c)
    piece_sends ends within closing headed m =
        let counts : length c.unsent ≡ n + length (drop n c.unsent) = omega (arith, length-drop n c.unsent, within) in
        let half : ends ≡ true → is_half_close c.ending ≡ true = λ e. (and_parts _ _ (sym closing ∙ e)).1 in
        let gone : ends ≡ true → drop n c.unsent ≡ [] = λ e. none_left (drop n c.unsent) (zero_of _ (and_parts _ _ (sym closing ∙ e)).0) in
        let are = parts_here t c.stream _ n ends fs lists m in
        let over : ends ≡ true → is_ended_by (sent then_on.connection_trace.frames) c.stream ≡ true =
        λ e. ended_here t c.stream _ n ends fs lists m ∙ ap (λ (b : Bool). is_ended_by (sent t.connection_trace.frames) c.stream || b) e ∙ or_true _ in
        subst (λ (b : Bool). Sends then_on (record c { unsent = drop n c.unsent; ending = closed_if b c.ending })) closing
        (record {
          speaks = speaks_moved t c.stream _ n ends fs lists m begun opened c.unsent (drop n c.unsent) counts gone
              (λ suited. piece_spells t.connection_trace.role ends refl are half gone headed (h.prepared suited)) h.speaks;
          ended_is = h.ended_is ∙ sym (ended_closed ends c.ending half);
          sent_is = piece_sent_is ends over;
          fits = h.fits;
          message_is = h.message_is;
          first_is = h.first_is;
          ahead = piece_ahead ends are over headed;
          prepared = λ suited. piece_prepared t.connection_trace.role ends (h.prepared suited);
        })

  -- ---- a last header block

  block_first : (b : Bool) → IsAhead b here → (has_begun here ≡ true → IsMessageFirst (queued_on t c.stream)) → (x : CallEnd) → queued_on t c.stream ≡ Finish x ∷ [] → here ≡ []
  block_first false front begins x all = front
  block_first true front begins x all = absurd (subst IsMessageFirst all (begins (begun_ahead here front)))

  behind_head : (b : Bool) → IsAhead b here → (bytes : List ℕ) (close : StreamEnd) → IsResponse response_fields here bytes close → (bytes ≡ [] → ⊥) → IsAhead true here
  behind_head true front bytes close r some = front
  behind_head false front bytes close r some = absurd (some (subst (λ (ps : List Part). IsResponse response_fields ps bytes close) front r).0)

  block_spells : (role : Role) (e : Ending) → is_block_end e ≡ true → t.connection_trace.role ≡ role → length c.unsent ≡ 0 → parts_on then_on c.stream ≡ here ++ Fields c.fields true ∷ [] → Prepares role t c.stream e c.fields →
      Spells role t c.stream c.unsent → Spells role then_on c.stream c.unsent
  block_spells role end.Open is role_is none are p a = absurd cc
  block_spells role end.Sent is role_is none are p a = absurd cc
  block_spells role end.HalfClose is role_is none are p a = absurd cc
  block_spells Client end.Block is role_is none are p a = absurd p
  block_spells Client end.Trailers is role_is none are p a = absurd p
  block_spells Server end.Block is role_is none are (all, sound) a =
      let alone : here ≡ [] = block_first c.has_head ahead_here a.begins (call_end_of t.numbers c.fields) all in
      let now : parts_on then_on c.stream ≡ Fields c.fields true ∷ [] = are ∙ ap (λ (ps : List Part). ps ++ Fields c.fields true ∷ []) alone in
      let empty : IsResponse response_fields [] a.bytes a.close = subst (λ (ps : List Part). IsResponse response_fields ps a.bytes a.close) alone a.response in
      record {
        bytes = a.bytes;
        close = Trailers c.fields;
        response = subst (λ (ps : List Part). IsResponse response_fields ps a.bytes (Trailers c.fields)) (sym now) (empty.0, refl, sound, tt);
        text = a.text;
        begins = λ e. absurd (clash _ e (ap has_begun now));
        closes = λ e q. (none_left c.unsent none, subst (EndsIn e) (sym all) (sym (same_some _ _ q)));
      }
  block_spells Server end.Trailers is role_is none are (ends, first, sound) a =
      let some : a.bytes ≡ [] → ⊥ = λ e. omega (arith, first_text (queued_on t c.stream) first, ap length a.text, length-append a.bytes c.unsent, ap length e, none) in
      let front : IsAhead true here = behind_head c.has_head ahead_here a.bytes a.close a.response some in
      record {
        bytes = a.bytes;
        close = Trailers c.fields;
        response = subst (λ (ps : List Part). IsResponse response_fields ps a.bytes (Trailers c.fields)) (sym are) (response_trailers response_fields here a.bytes a.close c.fields sound some front a.response);
        text = a.text;
        begins = λ e. first;
        closes = λ e q. (none_left c.unsent none, subst (λ (x : CallEnd). EndsIn x (queued_on t c.stream)) (same_some _ _ q) ends);
      }

  pub block_sends : Moves t.connection_trace.role t.connection_trace.frames t.connection_trace.written c.stream (Fields c.fields true ∷ []) 0 true fs lists → length c.unsent ≡ 0 → is_block_end c.ending ≡ true → Sends then_on (record c { ending = end.Sent })
  block_sends m none is =
      let are = parts_here t c.stream _ 0 true fs lists m in
      let over : is_ended_by (sent then_on.connection_trace.frames) c.stream ≡ true = ended_here t c.stream _ 0 true fs lists m ∙ or_true _ in
      record {
        speaks = speaks_moved t c.stream _ 0 true fs lists m begun opened c.unsent c.unsent (omega arith) (λ e. none_left c.unsent none)
            (λ suited. block_spells t.connection_trace.role c.ending is refl none are (h.prepared suited)) h.speaks;
        ended_is = h.ended_is ∙ block_ended c.ending is;
        sent_is = λ e. over;
        fits = h.fits;
        message_is = h.message_is;
        first_is = h.first_is;
        ahead = λ o. absurd (clash _ over (not_ended then_on c.stream o));
        prepared = λ suited. sent_prepared t.connection_trace.role then_on c.stream c.fields;
      }
