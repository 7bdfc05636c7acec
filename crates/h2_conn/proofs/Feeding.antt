-- A connection that is fed, emptied and asked.
use Rattle.std.proofs.Common.{◌≡◌, ℕ, ◌≤◌, List, [], ◌∷◌, ◌++◌, length, length-append, take, drop, None, sym, ap, subst, ◌∙◌, arith}
use Rattle.std.proofs.lemmas.List.{append_assoc, drop-append-le, length-drop, take-append-drop}
use Rattle.h2_frames.specs.declared.frame.Frame.{Frame}
use Rattle.h2_frames.specs.Reader.{Reader}
use Rattle.h2_frames.specs.Stream.{CarriesPiece, Reads}
use Rattle.h2_frames.proofs.Prefixes.{MatchesPreface-append}
use Rattle.h2_frames.proofs.Streams.{Reads-append}
use Rattle.h2_exchange.specs.Exchange.{received}
use Rattle.h2_exchange.specs.Order.{peer_preface}
use Rattle.h2_exchange.specs.Outcomes.{BeginWithFrames}
use Rattle.http_connection.specs.ConnectionTrace.{ConnectionTrace, fed_more, dropped_more}
use Rattle.h2_conn.specs.State.{State}
use Rattle.h2_conn.specs.Standing.{Stands}

stand_first : (due bytes piece : List ℕ) (fs : List Frame) → BeginWithFrames due bytes fs → BeginWithFrames due (bytes ++ piece) fs
stand_first due bytes piece [] h = tt
stand_first due bytes piece (f ∷ fs) h =
    let long : length due ≤ length bytes = omega (arith, h.2.0, length-drop (length due) bytes) in (
      h.0 ++ piece,
      MatchesPreface-append due bytes piece long h.1,
      subst (λ (b : List ℕ). Reads b (f ∷ fs) (h.0 ++ piece)) (sym (drop-append-le (length due) bytes piece long)) (Reads-append (drop (length due) bytes) (f ∷ fs) h.0 piece h.2),
    )

pub feeds : (s : State) (c : ConnectionTrace) (new : Reader) (piece : List ℕ) → CarriesPiece s.reader piece new → (s.reader.refusal ≡ None → new.refusal ≡ None) → Stands s c → Stands (record s { reader = new }) (fed_more piece c)
feeds s c new piece carries goes h = record {
  role_is = h.role_is;
  limits_are = h.limits_are;
  refusal_is = h.refusal_is;
  holding_is = h.holding_is;
  last = h.last;
  encoder_is = h.encoder_is;
  kept = record {
    front = stand_first (peer_preface c.role) c.fed piece (received c.frames) h.kept.front;
    within = λ some. omega (arith, h.kept.within some, length-append c.fed piece);
    text = h.kept.text;
    read = h.kept.read;
    spelled = h.kept.spelled;
    writable = h.kept.writable;
    closed = h.kept.closed;
    given = h.kept.given;
    placed = h.kept.placed;
    acknowledged = h.kept.acknowledged;
    windows = h.kept.windows;
  };
  resets = h.resets;
  credited = h.credited;
  goes = λ e.
      let a = h.goes e in
      record {
        reader_goes = goes a.reader_goes;
        reads = carries (peer_preface c.role) c.fed (received c.frames) a.reads;
        place_is = a.place_is;
        set_is = a.set_is;
        set_role = a.set_role;
        set_limits = a.set_limits;
        decodes = a.decodes;
        block_is = a.block_is;
        given_is = a.given_is;
        acknowledged = a.acknowledged;
        stays = a.stays;
        watched = a.watched;
        stop_is = a.stop_is;
        last_is = a.last_is;
      };
}

pub drops : (s : State) (c : ConnectionTrace) (n : ℕ) → Stands s c → Stands (record s { output = drop n s.output }) (dropped_more (take n s.output) c)
drops s c n h = record {
  role_is = h.role_is;
  limits_are = h.limits_are;
  refusal_is = h.refusal_is;
  holding_is = h.holding_is;
  last = h.last;
  encoder_is = h.encoder_is;
  kept = record {
    front = h.kept.front;
    within = h.kept.within;
    text =
        h.kept.text ∙ ap (λ (b : List ℕ). c.dropped ++ b) (sym (take-append-drop n s.output))
        ∙ sym (append_assoc c.dropped (take n s.output) (drop n s.output));
    read = h.kept.read;
    spelled = h.kept.spelled;
    writable = h.kept.writable;
    closed = h.kept.closed;
    given = h.kept.given;
    placed = h.kept.placed;
    acknowledged = h.kept.acknowledged;
    windows = h.kept.windows;
  };
  resets = h.resets;
  credited = h.credited;
  goes = λ e.
      let a = h.goes e in
      record {
        reader_goes = a.reader_goes;
        reads = a.reads;
        place_is = a.place_is;
        set_is = a.set_is;
        set_role = a.set_role;
        set_limits = a.set_limits;
        decodes = a.decodes;
        block_is = a.block_is;
        given_is = a.given_is;
        acknowledged = a.acknowledged;
        stays = a.stays;
        watched = a.watched;
        stop_is = a.stop_is;
        last_is = a.last_is;
      };
}
