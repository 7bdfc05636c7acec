-- A connection that resets a live stream.
use Rattle.std.proofs.Common.{◌≡◌, ℕ, ◌<◌, ◌^◌, Bool, true, false, ◌&&◌, List, [], ◌∷◌, ◌++◌, None, refl, sym, ap, ◌∙◌, arith}
use Rattle.std.specs.Prelude.{not, length}
use Rattle.std.specs.Int.{w32, to_be_bytes}
use Rattle.h2_frames.specs.declared.code.ErrorCode.{ErrorCode}
use Rattle.h2_frames.specs.declared.frame.Frame.TheVariants.{RstStream}
use Rattle.h2_frames.specs.declared.frame.FrameBody.{FrameBody}
use Rattle.h2_exchange.specs.declared.role.Role.{Role}
use Rattle.h2_exchange.specs.Exchange.{Sent, sent}
use Rattle.h2_exchange.specs.Sending.{acks_in, reset_text}
use Rattle.h2_exchange.specs.Streams.{is_begun, is_live, is_over}
use Rattle.h2_streams.proofs.Resets.{resets}
use Rattle.h2_streams.proofs.SentFrames.{none_begins}
use Rattle.h2_streams.specs.Set.{dropped}
use Rattle.http_connection.specs.ConnectionTrace.{ConnectionTrace}
use Rattle.h2_conn.specs.State.{State}
use Rattle.h2_conn.specs.Standing.{Stands, ends_of}
use Rattle.h2_conn.specs.Steps.{with_reset}
use Rattle.h2_conn.specs.Texts.{body}
use Rattle.h2_conn.specs.Watching.{cut_on}
use Rattle.h2_conn.proofs.NextMessage.{cut_watched}
use Rattle.h2_conn.proofs.Lives.{going_push, credited_push}
use Rattle.h2_conn.proofs.Sounds.{sends_kept, one_more, no_ack}
use Rattle.h2_conn.proofs.Splits.{resets_push}

front_true : (a b : Bool) → (a && b) ≡ true → a ≡ true
front_true true b e = refl
front_true false b e = absurd cc

abbrev pub reset_body : (k : ℕ) → ErrorCode → k < 2 ^ 31 → FrameBody
reset_body k why small = body 0 k (to_be_bytes w32 why.0) small (let e : length (to_be_bytes w32 why.0) ≡ 4 = refl in omega (arith, e))

pub reset_goes : (s : State) (c : ConnectionTrace) (k : ℕ) (why : ErrorCode) (small : k < 2 ^ 31) → Stands s c → s.refusal ≡ None → is_live c.role c.frames k ≡ true →
    Stands (with_reset k why s) (one_more (RstStream (reset_body k why small)) c)
reset_goes s c k why small h none live =
    let a = h.goes none in
    let f = RstStream (reset_body k why small) in
    let watch = cut_watched c.role c.limits c.heads c.frames k (reset_body k why small) refl h.kept.closed (front_true (is_begun c.role c.frames k) (not (is_over c.frames k)) live) s.watch (a.watched.requests k live) a.stop_is a.watched in
    let acks : acks_in (sent (c.frames ++ Sent f ∷ [])) ++ [] ≡ acks_in (sent c.frames) ++ [] = ap (λ (t : List (List ℕ)). t ++ []) (no_ack c.frames f refl) in
    record {
      role_is = h.role_is;
      limits_are = h.limits_are;
      refusal_is = h.refusal_is;
      holding_is = h.holding_is;
      last = h.last;
      encoder_is = h.encoder_is;
      kept = sends_kept c s.output h.last f h.kept refl refl a.stays ([], sym a.acknowledged ∙ sym acks) (λ b e. absurd cc);
      resets = resets_push c.role c.limits c.heads c.frames f h.resets;
      credited = λ e. credited_push s.is_holding c.role c.limits c.frames f refl (λ id. none_begins c.role c.frames f id refl) (h.credited e);
      goes = λ e. going_push s c f (reset_text k why) (dropped k s.set) (cut_on k s.watch) (ends_of s.ended) [] [] a
          (resets s.set c.frames k (reset_body k why small) a.set_is (front_true (is_begun s.set.role c.frames k) (not (is_over c.frames k)) (ap (λ (r : Role). is_live r c.frames k) a.set_role ∙ live)) refl)
          a.set_role a.set_limits acks refl watch.0 watch.1;
    }
