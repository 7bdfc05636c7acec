-- A connection that ends, by GOAWAY or for want of memory.
use Rattle.std.proofs.Common.{◌≡◌, ℕ, List, [], ◌∷◌, ◌++◌, length, Some, None, refl, sym, ap, subst, ◌∙◌, arith}
use Rattle.std.specs.Int.{w32, to_be_bytes}
use Rattle.std.proofs.lemmas.List.{append-nil}
use Rattle.h2_frames.specs.declared.code.ErrorCode.{ErrorCode}
use Rattle.h2_frames.specs.declared.frame.Frame.TheVariants.{GoAway}
use Rattle.h2_frames.specs.declared.frame.FrameBody.{FrameBody}
use Rattle.h2_frames.specs.Layout.{text_of, frame_text}
use Rattle.hpack_tables.specs.Writing.{Encoder}
use Rattle.h2_exchange.specs.Content.{Outcome}
use Rattle.h2_exchange.specs.Events.{Event}
use Rattle.h2_exchange.specs.Exchange.{Sent, sent}
use Rattle.h2_exchange.specs.Sending.{acks_in, ResetsErrors}
use Rattle.h2_exchange.specs.Stops.{Stop}
use Rattle.http_connection.specs.Answers.{GivesEvents, Stops, RunsOutOfMemory, HasWork, after, code_of}
use Rattle.http_connection.specs.ConnectionTrace.{ConnectionTrace, Refusal, Stopped, NoMemory}
use Rattle.h2_conn.specs.State.{State}
use Rattle.h2_conn.specs.Standing.{Kept, Stands}
use Rattle.h2_conn.specs.Steps.{Halted, with_goaway}
use Rattle.h2_conn.specs.Texts.{body}
use Rattle.h2_conn.proofs.Sounds.{sends_kept, one_more, no_ack}
use Rattle.h2_conn.proofs.Splits.{resets_push}

abbrev goaway_body : ℕ → ErrorCode → FrameBody
goaway_body last why = body 0 0 (to_be_bytes w32 last ++ to_be_bytes w32 why.0) (omega arith) (let e : length (to_be_bytes w32 last ++ to_be_bytes w32 why.0) ≡ 8 = refl in omega (arith, e))

-- what is left of a connection that has refused
dead : (s : State) (c : ConnectionTrace) (why : Refusal) (enc : Encoder) → c.role ≡ s.role → c.limits ≡ s.limits → c.is_holding ≡ s.is_holding → Kept c s.output enc → ResetsErrors c.role c.limits c.heads c.frames →
    Stands (record s { refusal = Some why }) (record c { refusal = Some why })
dead s c why enc role limits holding kept resets = record {
  role_is = role;
  limits_are = limits;
  refusal_is = refl;
  holding_is = holding;
  last = enc;
  encoder_is = λ e. absurd cc;
  kept = record {
    front = kept.front;
    within = kept.within;
    text = kept.text;
    read = kept.read;
    spelled = kept.spelled;
    writable = kept.writable;
    closed = kept.closed;
    given = kept.given;
    placed = kept.placed;
    acknowledged = kept.acknowledged;
    windows = kept.windows;
  };
  resets = resets;
  credited = λ e. absurd cc;
  goes = λ e. absurd cc;
}

pub halts : (s : State) (c0 c : ConnectionTrace) (stop : Stop) (last : ℕ) → GivesEvents c0 [] c → Halted s last stop c → (d : ConnectionTrace) × Stands (with_goaway last stop s) d × Stops c0 stop d
halts s c0 c stop last goes h =
    let why = code_of stop in
    let g = GoAway (goaway_body last why) in
    let acks : acks_in (sent (c.frames ++ Sent g ∷ [])) ≡ acks_in (sent c.frames) = no_ack c.frames g refl in
    let kept = sends_kept c s.output h.enc g h.kept refl refl h.stays
    (h.kept.acknowledged.0, h.kept.acknowledged.1 ∙ ap (λ (t : List (List ℕ)). t ++ h.kept.acknowledged.0) (sym acks)) (λ b e. absurd cc) in
    let stands = dead (record s { output = s.output ++ frame_text g }) (one_more g c) (Stopped stop) h.enc h.role_is h.limits_are h.holding_is kept (resets_push c.role c.limits c.heads c.frames g h.resets) in (
      after (Sent g ∷ []) [] [] (Some (Stopped stop)) c,
      subst (λ (hs : List Outcome). Stands (with_goaway last stop s) (record c { frames = c.frames ++ Sent g ∷ []; heads = hs; given = c.given ++ []; refusal = Some (Stopped stop) })) (sym (append-nil c.heads))
          (subst (λ (gs : List Event). Stands (with_goaway last stop s) (record c { frames = c.frames ++ Sent g ∷ []; given = gs; refusal = Some (Stopped stop) })) (sym (append-nil c.given)) stands),
      record {
        at = c;
        goes = goes;
        given = h.given;
        cause = h.cause;
        goaway = g;
        text = ap (λ (n : ℕ). text_of 7 0 0 (to_be_bytes w32 n ++ to_be_bytes w32 why.0)) (sym h.last_is);
        ends = refl;
      },
    )

-- no memory is left for the next step
pub runs_out : (s : State) (c0 c : ConnectionTrace) (enc : Encoder) → GivesEvents c0 [] c → HasWork c → c.role ≡ s.role → c.limits ≡ s.limits → c.is_holding ≡ s.is_holding → Kept c s.output enc → ResetsErrors c.role c.limits c.heads c.frames →
    (d : ConnectionTrace) × Stands (record s { refusal = Some NoMemory }) d × RunsOutOfMemory c0 d
runs_out s c0 c enc goes work role limits holding kept resets =
    let stands = dead s c NoMemory enc role limits holding kept resets in
    let at : c ≡ after goes.more goes.outcomes [] None c0 = goes.goes_on in
    let same : record c { refusal = Some NoMemory } ≡ after goes.more goes.outcomes [] (Some NoMemory) c0 = ap (λ (q : ConnectionTrace). record q { refusal = Some NoMemory }) at in (
      record c { refusal = Some NoMemory },
      stands,
      record {
        alive = goes.alive;
        more = goes.more;
        outcomes = goes.outcomes;
        receives = goes.receives;
        work = subst HasWork at work;
        ends = same;
      },
    )
