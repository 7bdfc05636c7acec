-- A connection that sends an acknowledgement, or credit.
use Rattle.std.proofs.Common.{◌≡◌, ℕ, ◌≤◌, true, false, ◌⊎◌, inl, inr, List, [], ◌∷◌, ◌++◌, length, None, refl, sym, ap, ◌∙◌, arith}
use Rattle.std.proofs.lemmas.List.{append_assoc}
use Rattle.h2_frames.specs.declared.frame.Frame.{Frame}
use Rattle.h2_frames.specs.declared.frame.Frame.TheVariants.{Settings, Ping, GoAway}
use Rattle.h2_frames.specs.declared.frame.FrameBody.{FrameBody}
use Rattle.h2_frames.specs.Layout.{frame_text}
use Rattle.hpack_tables.specs.Writing.{Encoder}
use Rattle.h2_exchange.specs.declared.limits.H2Limits.{H2Limits}
use Rattle.h2_exchange.specs.declared.role.Role.{Role}
use Rattle.h2_exchange.specs.declared.role.Role.TheVariants.{Client, Server}
use Rattle.h2_exchange.specs.Blocks.{open_block, block_with}
use Rattle.h2_exchange.specs.Content.{Outcome}
use Rattle.h2_exchange.specs.Events.{Event}
use Rattle.h2_exchange.specs.Exchange.{Step, Sent, sent}
use Rattle.h2_exchange.specs.Frames.{is_data, is_headers, is_rst_stream, is_window_update, is_goaway}
use Rattle.h2_exchange.specs.Rules.{breaks_block_on}
use Rattle.h2_exchange.specs.Sending.{acks_in}
use Rattle.h2_exchange.specs.Stops.{ends_call}
use Rattle.h2_streams.proofs.Quiet.{control_frames_change_nothing}
use Rattle.h2_streams.proofs.SentFrames.{none_begins}
use Rattle.http_connection.specs.ConnectionTrace.{ConnectionTrace}
use Rattle.h2_conn.specs.State.{State}
use Rattle.h2_conn.specs.Standing.{Going, Kept, HasCredit}
use Rattle.h2_conn.specs.Texts.{body}
use Rattle.h2_conn.proofs.Lives.{going_push, credited_push, live_back}
use Rattle.h2_conn.proofs.Sounds.{is_ack, one_ack, sends_kept, one_more, none_completed}
use Rattle.h2_conn.proofs.Watched.{quiet_watched, bytes_sent}

-- a frame that only acknowledges: SETTINGS or PING with ACK
pub record IsAck (f : Frame) (b : FrameBody) : Type 0 where
  pub kind : (f ≡ Settings b) ⊎ (f ≡ Ping b)
  pub part : block_with None f ≡ None
  pub outside : breaks_block_on None f ≡ false
  pub ack : is_ack f ≡ true
  pub no_data : is_data f ≡ false
  pub no_headers : is_headers f ≡ false
  pub no_reset : is_rst_stream f ≡ false
  pub no_update : is_window_update f ≡ false
  pub no_goaway : is_goaway f ≡ false

abbrev pub settings_body : FrameBody
settings_body = body 1 0 [] (omega arith) (omega arith)

abbrev pub ping_body : (payload : List ℕ) → length payload ≤ 16384 → FrameBody
ping_body payload small = body 1 0 payload (omega arith) small

pub settings_ack : IsAck (Settings settings_body) settings_body
settings_ack = record { kind = inl refl; part = refl; outside = refl; ack = refl; no_data = refl; no_headers = refl; no_reset = refl; no_update = refl; no_goaway = refl }

pub ping_ack : (payload : List ℕ) (small : length payload ≤ 16384) → IsAck (Ping (ping_body payload small)) (ping_body payload small)
ping_ack payload small = record { kind = inr refl; part = refl; outside = refl; ack = refl; no_data = refl; no_headers = refl; no_reset = refl; no_update = refl; no_goaway = refl }

-- it ends no call
no_end : (role : Role) (limits : H2Limits) (heads : List Outcome) (x : List Step) (f : Frame) (b : FrameBody) → IsAck f b → open_block (sent x) ≡ None → ends_call limits heads role x (Sent f) ≡ false
no_end Server limits heads x f b k closed = refl
no_end Client limits heads x f b k closed = rw (none_completed x f closed k.part, k.no_data) refl

three : (f : Frame) (b : FrameBody) → IsAck f b → (f ≡ Settings b) ⊎ ((f ≡ Ping b) ⊎ (f ≡ GoAway b))
three f b k = by k.kind
  where
    by : (f ≡ Settings b) ⊎ (f ≡ Ping b) → (f ≡ Settings b) ⊎ ((f ≡ Ping b) ⊎ (f ≡ GoAway b))
    by (inl e) = inl e
    by (inr e) = inr (inl e)

pub record Acked (s : State) (c : ConnectionTrace) (f : Frame) (es : List Event) (more : List (List ℕ)) (enc : Encoder) : Type 0 where
  pub kept : Kept (one_more f c) (s.output ++ frame_text f) enc
  pub goes : Going (record s { output = s.output ++ frame_text f }) (one_more f c) es more
  pub credited : HasCredit s.is_holding c.role c.limits c.frames → HasCredit s.is_holding c.role c.limits (c.frames ++ Sent f ∷ [])

pub acks_go : (s : State) (c : ConnectionTrace) (f : Frame) (b : FrameBody) (es : List Event) (more : List (List ℕ)) (enc : Encoder) → IsAck f b → Kept c s.output enc → Going s c es (frame_text f ∷ more) → Acked s c f es more enc
acks_go s c f b es more enc k kept a =
    let acks : acks_in (sent (c.frames ++ Sent f ∷ [])) ++ more ≡ acks_in (sent c.frames) ++ frame_text f ∷ more =
    ap (λ (t : List (List ℕ)). t ++ more) (one_ack c.frames f k.ack) ∙ append_assoc (acks_in (sent c.frames)) (frame_text f ∷ []) more in
    let begun = λ (id : ℕ). none_begins c.role c.frames f id k.no_headers in
    let watch = quiet_watched c.role c.limits c.heads c.frames f k.no_reset (no_end c.role c.limits c.heads c.frames f b k kept.closed) s.watch
    (λ id. bytes_sent c.role c.limits c.heads c.frames f id k.no_data) (λ id. live_back c.role c.frames f id (begun id)) a.stop_is a.watched in
    record {
      kept = sends_kept c s.output enc f kept k.part k.outside a.stays (more, sym a.acknowledged ∙ sym acks) (λ d e. absurd (let t : true ≡ false = sym (ap is_data e) ∙ k.no_data in cc));
      goes = going_push s c f (frame_text f) s.set s.watch es (frame_text f ∷ more) more a (control_frames_change_nothing s.set c.frames b f (three f b k) a.set_is) a.set_role a.set_limits acks k.no_goaway watch.0 watch.1;
      credited = λ h. credited_push s.is_holding c.role c.limits c.frames f k.no_update begun h;
    }
