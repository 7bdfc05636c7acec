-- A call of which nothing more may be sent.
use Rattle.std.proofs.Common.{◌≡◌, ℕ, ◌<◌, ◌==◌, Bool, true, false, ◌&&◌, List, ◌++◌, length, drop, map, inl, inr, refl, sym, ap, ◌∙◌, arith}
use Rattle.std.specs.Prelude.{not, nat_lt}
use Rattle.std.proofs.lemmas.Bool.{false≢true}
use Rattle.std.proofs.lemmas.Bool.Decides.{nat_tests}
use Rattle.std.proofs.lemmas.List.{length-drop}
use Rattle.hpack_tables.specs.declared.field.Field.{Field}
use Rattle.h2_frames.specs.declared.frame.Frame.{Frame}
use Rattle.h2_exchange.specs.Exchange.{Sent, sent}
use Rattle.h2_exchange.specs.Streams.{is_begun, is_ended_by, is_live}
use Rattle.h2_exchange.specs.Windows.{may_send}
use Rattle.http_connection.specs.ConnectionTrace.{ConnectionTrace, wrote}
use Rattle.grpc_stream.specs.CallTrace.{CallTrace}
use Rattle.kept_calls.specs.declared.call.Ending.{Ending}
use Rattle.kept_calls.specs.declared.call.Ending.TheVariants as end
use Rattle.kept_calls.specs.CallState.{CallState, ended, is_sent}
use Rattle.call_sending.specs.Laws.{TurnsEnd}
use Rattle.call_sending.specs.Moves.{IsDone}
use Rattle.call_sending.specs.Pumping as pump
use Rattle.call_sending.specs.Pumping.{Closes, Pieces, PumpsBytes, PumpsCall, has_no_end, is_open_in}
use Rattle.call_sending.specs.Spelling.{Sends}
use Rattle.call_sending.proofs.Moved.{ended_still, live_back, room_falls}
use Rattle.call_sending.proofs.Turned.{at_behind, call_turn, sends_behind}

ended_sent : (e : Ending) → has_no_end e ≡ true → ended e ≡ true → is_sent e ≡ true
ended_sent end.Open e k = absurd cc
ended_sent end.Sent e k = refl
ended_sent end.Block e k = absurd cc
ended_sent end.Trailers e k = absurd cc
ended_sent end.HalfClose e k = absurd cc

-- nothing of it is left
done_empty : (t : CallTrace) (new : CallState) (d : ConnectionTrace) → Sends (at_behind t d) new → length new.unsent ≡ 0 → has_no_end new.ending ≡ true → IsDone d new
done_empty t new d h none over = record {
  full = λ lives some. absurd (omega (arith, some, none));
  closed = λ lives e k. h.sent_is (ended_sent new.ending over k);
}

-- its stream is live and not open, so its side is ended
shut_ended : (live was : Bool) → live ≡ true → (live && not was) ≡ false → was ≡ true
shut_ended live true l o = refl
shut_ended live false l o = absurd (false≢true (sym o ∙ ap (λ (b : Bool). b && true) l))

done_shut : (t : CallTrace) (c : CallState) → Sends t c → is_open_in t.connection_trace c.stream ≡ false → IsDone t.connection_trace c
done_shut t c h shut =
    let over : is_live t.connection_trace.role t.connection_trace.frames c.stream ≡ true → is_ended_by (sent t.connection_trace.frames) c.stream ≡ true =
    λ lives. shut_ended (is_live t.connection_trace.role t.connection_trace.frames c.stream) (is_ended_by (sent t.connection_trace.frames) c.stream) lives shut in
    record {
      full = λ lives some. absurd (omega (arith, some, ap length (h.speaks.whole (over lives))));
      closed = λ lives none k. over lives;
    }

closes_over : (e : Ending) (c : ConnectionTrace) (old new : CallState) (d : ConnectionTrace) → old.ending ≡ e → Closes e c old new d → (new.unsent ≡ old.unsent) × (has_no_end new.ending ≡ true)
closes_over end.Open c old new d is (same, still) = (ap (λ (v : CallState). v.unsent) same, ap (λ (v : CallState). has_no_end v.ending) same ∙ ap has_no_end is)
closes_over end.Sent c old new d is (same, still) = (ap (λ (v : CallState). v.unsent) same, ap (λ (v : CallState). has_no_end v.ending) same ∙ ap has_no_end is)
closes_over end.Block c old new d is (same, s) = (ap (λ (v : CallState). v.unsent) same, ap (λ (v : CallState). has_no_end v.ending) same)
closes_over end.Trailers c old new d is (same, s) = (ap (λ (v : CallState). v.unsent) same, ap (λ (v : CallState). has_no_end v.ending) same)
closes_over end.HalfClose c old new d is (same, s) = (ap (λ (v : CallState). v.unsent) same, ap (λ (v : CallState). has_no_end v.ending) same)

no_room : (n left : ℕ) → false ≡ (nat_lt 0 n && not (left == 0)) → 0 < left → n ≡ 0
no_room n left e some = grind (arith, nat_tests)

-- no byte was placed, since there is no room
piece_full : (c : ConnectionTrace) (old new : CallState) (d : ConnectionTrace) → Pieces c old false new d → 0 < length new.unsent → (new.stream ≡ old.stream) × (may_send d.frames old.stream ≡ 0)
piece_full c old new d p some =
    let left : 0 < length (drop p.n old.unsent) = omega (arith, some, ap (λ (v : CallState). length v.unsent) p.new_is) in
    let none : p.n ≡ 0 = no_room p.n (length (drop p.n old.unsent)) p.goes_on_is left in
    let room : may_send c.frames old.stream ≡ 0 = omega (arith, none, p.sends.placed, left, length-drop p.n old.unsent) in
    (ap (λ (v : CallState). v.stream) p.new_is, ap (λ (k : ConnectionTrace). may_send k.frames old.stream) p.sends.goes_on ∙ room_falls c.frames p.sends.fs old.stream room)

bytes_done : (t : CallTrace) (c : ConnectionTrace) (old new : CallState) (d : ConnectionTrace) → PumpsBytes c old false new d → Sends (at_behind t d) new → IsDone d new
bytes_done t c old new d (pump.piece _ _ _ p (inl e)) h = absurd (false≢true e)
bytes_done t c old new d (pump.piece _ _ _ p (inr some)) h =
    let got = piece_full c old new d p some in
    record {
      full = λ lives left. ap (may_send d.frames) got.0 ∙ got.1;
      closed = λ lives none k. absurd (omega (arith, some, none));
    }
bytes_done t c old new d (pump.whole next _ at _ p none closes) h =
    let got = closes_over next.ending at next new d refl closes in
    done_empty t new d h (omega (arith, ap length got.0, none)) got.1

pub turn_done : (t : CallTrace) (old new : CallState) (d : ConnectionTrace) → PumpsCall t.connection_trace old false new d → Sends t old → Sends (at_behind t d) new → IsDone d new
turn_done t old _ _ (pump.idle none over) h k = done_empty t old t.connection_trace k none over
turn_done t old _ _ (pump.shut shut) h k = done_shut t old h shut
turn_done t old new d (pump.bytes mid _ at _ _ opened some heads behind) h k = bytes_done t at mid new d behind k
turn_done t old new d (pump.close _ _ opened none closes) h k =
    let got = closes_over old.ending t.connection_trace old new d refl closes in
    done_empty t new d k (omega (arith, ap length got.0, none)) got.1

-- it stays so, whatever else is sent
pub done_kept : (c : ConnectionTrace) (fs : List Frame) (lists : List (List Field)) (call : CallState) → ((k : ℕ) → is_begun c.role (c.frames ++ map Sent fs) k ≡ is_begun c.role c.frames k) → IsDone c call → IsDone (wrote fs lists c) call
done_kept c fs lists call begun_is h = record {
  full = λ lives some. room_falls c.frames fs call.stream (h.full (live_back c.role c.frames fs call.stream (begun_is call.stream) lives) some);
  closed = λ lives none k. ended_still c.frames fs call.stream (h.closed (live_back c.role c.frames fs call.stream (begun_is call.stream) lives) none k);
}

pub turns_end : TurnsEnd
turns_end = λ t old new d ready turn h.
    let turned = call_turn t old false new d ready turn h in (
      turn_done t old new d turn h (sends_behind t old new d turned),
      λ call fs lists begun_is done. done_kept d fs lists call begun_is done,
    )
