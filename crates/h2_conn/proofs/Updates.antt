-- A connection that sends credit.
use Rattle.std.proofs.Common.{◌≡◌, ℕ, ◌%◌, ◌<◌, ◌^◌, true, false, List, [], ◌∷◌, ◌++◌, length, Option, Some, None, refl, sym, ap, ◌∙◌, arith}
use Rattle.std.specs.Int.{w32, to_be_bytes}
use Rattle.std.proofs.lemmas.Nat.{from_be_bytes-to_be_bytes_4}
use Rattle.h2_frames.specs.declared.frame.Frame.{Frame}
use Rattle.h2_frames.specs.declared.frame.Frame.TheVariants.{WindowUpdate}
use Rattle.h2_frames.specs.declared.frame.FrameBody.{FrameBody}
use Rattle.h2_frames.specs.Layout.{frame_text}
use Rattle.hpack_tables.specs.Writing.{Encoder}
use Rattle.h2_exchange.specs.declared.limits.H2Limits.{H2Limits}
use Rattle.h2_exchange.specs.declared.role.Role.{Role}
use Rattle.h2_exchange.specs.declared.role.Role.TheVariants.{Client, Server}
use Rattle.h2_exchange.specs.Blocks.{open_block}
use Rattle.h2_exchange.specs.Content.{Outcome}
use Rattle.h2_exchange.specs.Events.{Event}
use Rattle.h2_exchange.specs.Exchange.{Step, Sent, sent}
use Rattle.h2_exchange.specs.Frames.{increment_of}
use Rattle.h2_exchange.specs.Sending.{acks_in}
use Rattle.h2_exchange.specs.Stops.{ends_call}
use Rattle.h2_exchange.specs.Streams.{is_live}
use Rattle.h2_streams.specs.declared.live.Stream.{Stream}
use Rattle.h2_streams.specs.Set.{Set, at, credited, credited_at, credited_on}
use Rattle.h2_streams.specs.Stands as streams
use Rattle.h2_streams.proofs.Credits.{credits_all, credits_stream}
use Rattle.h2_streams.proofs.SentFrames.{none_begins}
use Rattle.http_connection.specs.ConnectionTrace.{ConnectionTrace}
use Rattle.h2_conn.specs.State.{State}
use Rattle.h2_conn.specs.Standing.{Going, Kept}
use Rattle.h2_conn.specs.Texts.{body}
use Rattle.h2_conn.proofs.Lives.{going_push, live_back}
use Rattle.h2_conn.proofs.Sounds.{no_ack, sends_kept, one_more, none_completed}
use Rattle.h2_conn.proofs.Watched.{quiet_watched, bytes_sent}

abbrev pub update_body : (id n : ℕ) → id < 2 ^ 31 → FrameBody
update_body id n fits = body 0 id (to_be_bytes w32 n) fits (let e : length (to_be_bytes w32 n) ≡ 4 = refl in omega (arith, e))

pub increments : (id n : ℕ) (fits : id < 2 ^ 31) → n < 2 ^ 31 → increment_of (WindowUpdate (update_body id n fits)) ≡ n
increments id n fits small = ap (λ (w : ℕ). w % 2 ^ 31) (from_be_bytes-to_be_bytes_4 n (omega (arith, small))) ∙ omega (arith, small)

no_end : (role : Role) (limits : H2Limits) (heads : List Outcome) (x : List Step) (b : FrameBody) → open_block (sent x) ≡ None → ends_call limits heads role x (Sent (WindowUpdate b)) ≡ false
no_end Server limits heads x b closed = refl
no_end Client limits heads x b closed = rw (none_completed x (WindowUpdate b) closed refl) refl

pub record Updated (s : State) (c : ConnectionTrace) (f : Frame) (set : Set) (es : List Event) (owed_credit : List (List ℕ)) (enc : Encoder) : Type 0 where
  pub kept : Kept (one_more f c) (s.output ++ frame_text f) enc
  pub goes : Going (record s { output = s.output ++ frame_text f; set = set }) (one_more f c) es owed_credit

pub updates : (s : State) (c : ConnectionTrace) (b : FrameBody) (set : Set) (es : List Event) (owed_credit : List (List ℕ)) (enc : Encoder) → Kept c s.output enc → Going s c es owed_credit → streams.StandsFor set (c.frames ++ Sent (WindowUpdate b) ∷ []) → set.role ≡ c.role → set.limits ≡ c.limits →
    Updated s c (WindowUpdate b) set es owed_credit enc
updates s c b set es owed_credit enc kept a stands role limits =
    let f = WindowUpdate b in
    let acks : acks_in (sent (c.frames ++ Sent f ∷ [])) ++ owed_credit ≡ acks_in (sent c.frames) ++ owed_credit = ap (λ (t : List (List ℕ)). t ++ owed_credit) (no_ack c.frames f refl) in
    let watch = quiet_watched c.role c.limits c.heads c.frames f refl (no_end c.role c.limits c.heads c.frames b kept.closed) s.watch
    (λ id. bytes_sent c.role c.limits c.heads c.frames f id refl) (λ id. live_back c.role c.frames f id (none_begins c.role c.frames f id refl)) a.stop_is a.watched in
    record {
      kept = sends_kept c s.output enc f kept refl refl a.stays (owed_credit, sym a.acknowledged ∙ sym acks) (λ d e. absurd cc);
      goes = going_push s c f (frame_text f) set s.watch es owed_credit owed_credit a stands role limits acks refl watch.0 watch.1;
    }

-- for the connection
pub updates_all : (s : State) (c : ConnectionTrace) (n : ℕ) (es : List Event) (owed_credit : List (List ℕ)) (enc : Encoder) → n < 2 ^ 31 → Kept c s.output enc → Going s c es owed_credit →
    Updated s c (WindowUpdate (update_body 0 n (omega arith))) (credited n s.set) es owed_credit enc
updates_all s c n es owed_credit enc small kept a =
    let fits : 0 < 2 ^ 31 = omega arith in
    updates s c (update_body 0 n (omega arith)) (credited n s.set) es owed_credit enc kept a (credits_all s.set c.frames n (update_body 0 n (omega arith)) a.set_is refl (increments 0 n (omega arith) small)) a.set_role a.set_limits

-- for a live stream
pub updates_on : (s : State) (c : ConnectionTrace) (id n : ℕ) (fits : id < 2 ^ 31) (es : List Event) (owed_credit : List (List ℕ)) (enc : Encoder) → n < 2 ^ 31 → is_live c.role c.frames id ≡ true → Kept c s.output enc → Going s c es owed_credit →
    Updated s c (WindowUpdate (update_body id n fits)) (credited_on id n s.set) es owed_credit enc
updates_on s c id n fits es owed_credit enc small live kept a =
    updates s c (update_body id n fits) (credited_on id n s.set) es owed_credit enc kept a
    (credits_stream s.set c.frames id n (update_body id n fits) a.set_is (ap (λ (r : Role). is_live r c.frames id) a.set_role ∙ live) refl (increments id n fits small))
    (role_same s.set id n (at id s.set) ∙ a.set_role) (limits_same s.set id n (at id s.set) ∙ a.set_limits)
  where
    role_same : (set : Set) (k m : ℕ) (o : Option Stream) → (credited_at k m set o).role ≡ set.role
    role_same set k m None = refl
    role_same set k m (Some stream) = refl

    limits_same : (set : Set) (k m : ℕ) (o : Option Stream) → (credited_at k m set o).limits ≡ set.limits
    limits_same set k m None = refl
    limits_same set k m (Some stream) = refl
