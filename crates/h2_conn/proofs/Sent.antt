-- A connection that sends data on an open stream.
use Rattle.std.proofs.Common.{◌≡◌, ℕ, ◌+◌, ◌<◌, ◌≤◌, ◌^◌, ◌||◌, Bool, true, false, ◌&&◌, List, [], ◌∷◌, ◌++◌, length, Option, Some, None, refl, sym, ap, subst, ◌∙◌, arith}
use Rattle.std.specs.Prelude.{not, ◌==◌, if◌then◌else◌}
use Rattle.h2_frames.specs.declared.frame.Frame.{Frame}
use Rattle.h2_frames.specs.declared.frame.Frame.TheVariants.{Content}
use Rattle.h2_frames.specs.declared.frame.FrameBody.{FrameBody}
use Rattle.h2_exchange.specs.declared.limits.H2Limits.{H2Limits}
use Rattle.h2_exchange.specs.declared.role.Role.{Role}
use Rattle.h2_exchange.specs.declared.role.Role.TheVariants.{Client, Server}
use Rattle.h2_exchange.specs.Content.{Outcome}
use Rattle.h2_exchange.specs.Exchange.{Step, Sent, sent}
use Rattle.h2_exchange.specs.Frames.{has_end_stream}
use Rattle.h2_exchange.specs.Sending.{acks_in}
use Rattle.h2_exchange.specs.Stops.{Calm, stop_of, ends_call, cuts_request, request_bytes}
use Rattle.h2_exchange.specs.Streams.{is_begun, is_live, is_over, is_open, is_ended_by}
use Rattle.h2_exchange.specs.Windows.{may_send}
use Rattle.h2_streams.specs.declared.live.Stream.{Stream}
use Rattle.h2_streams.specs.Live.{replaced}
use Rattle.h2_streams.specs.Set.{Set, at, room_of, spent, spent_at, dropped, closed_local}
use Rattle.h2_streams.specs.Stands as streams
use Rattle.h2_streams.proofs.Ends.{ends_with_data}
use Rattle.h2_streams.proofs.Sends.{sends}
use Rattle.h2_streams.proofs.SentFrames.{none_begins}
use Rattle.h2_streams.proofs.Standing.{room_says}
use Rattle.http_connection.specs.ConnectionTrace.{ConnectionTrace}
use Rattle.http_connection.specs.Sends.{last_flag}
use Rattle.h2_conn.specs.State.{State}
use Rattle.h2_conn.specs.Standing.{Stands, ends_of}
use Rattle.h2_conn.specs.Steps.{spent_to, sent_on, with_data}
use Rattle.h2_conn.specs.Texts.{body}
use Rattle.h2_conn.specs.Watching.{Watch, IsWatched, stop_by}
use Rattle.h2_conn.proofs.Lives.{going_push, credited_push, live_back}
use Rattle.h2_conn.proofs.Sounds.{sends_kept, one_more, no_ack}
use Rattle.h2_conn.proofs.Splits.{resets_push}
use Rattle.h2_conn.proofs.Sounds.{none_completed}
use Rattle.h2_conn.proofs.Watched.{begun_more, front_true, unbegun, quiet_watched, server_bytes, quiet_count, count_push, stop_sent, by_counts, cuts, ends as ended_calls}
use Rattle.h2_conn.proofs.Watching.{more_watched, same_passed}
use Rattle.h2_exchange.specs.Blocks.{open_block, data_of}
use Rattle.h2_exchange.specs.Frames.{is_data, stream_of}
use Rattle.h2_exchange.specs.declared.limits.CalmCause.TheVariants.{Resets}
use Rattle.h2_exchange.proofs.Staying.{stop_stays}
use Rattle.h2_exchange.proofs.Steps.{sent_push}
use Rattle.h2_streams.proofs.Lists.{self_eq, isnt}
use Rattle.std.specs.List.{flat_map}
use Rattle.std.proofs.lemmas.List.{append-nil}
use Rattle.std.proofs.lemmas.List.Concat.{flat_map-append}

abbrev pub data_body : (id : ℕ) (part : List ℕ) (ends : Bool) → id < 2 ^ 31 → length part ≤ 16384 → FrameBody
data_body id part ends fits small = body (last_flag ends) id part fits small

ends_flag : (id : ℕ) (part : List ℕ) (ends : Bool) (fits : id < 2 ^ 31) (small : length part ≤ 16384) → has_end_stream (Content (data_body id part ends fits small)) ≡ ends
ends_flag id part true fits small = refl
ends_flag id part false fits small = refl

set_goes : (set : Set) (x : List Step) (id : ℕ) (part : List ℕ) (ends : Bool) (fits : id < 2 ^ 31) (small : length part ≤ 16384) → streams.StandsFor set x → is_open set.role x id ≡ true → length part ≤ room_of set (at id set) →
    streams.StandsFor (spent_to id (length part) ends set) (x ++ Sent (Content (data_body id part ends fits small)) ∷ [])
set_goes set x id part true fits small h live room = ends_with_data set x id (data_body id part true fits small) h live refl room refl
set_goes set x id part false fits small h live room = sends set x id (length part) (data_body id part false fits small) h live refl refl refl room

record IsSame (s t : Set) : Type 0 where
  pub role : t.role ≡ s.role
  pub limits : t.limits ≡ s.limits

spent_same : (id n : ℕ) (set : Set) (o : Option Stream) → IsSame set (spent_at id n set o)
spent_same id n set None = record { role = refl; limits = refl }
spent_same id n set (Some stream) = record { role = refl; limits = refl }

ended_same : (id : ℕ) (set : Set) (o : Option Stream) → IsSame set (closed_local id set o)
ended_same id set None = record { role = refl; limits = refl }
ended_same id set (Some stream) = by stream.is_closed_remote
  where
    by : (b : Bool) → IsSame set (if b then dropped id set else record set { live = replaced id (record stream { is_closed_local = true }) set.live })
    by true = record { role = refl; limits = refl }
    by false = record { role = refl; limits = refl }

all_same : (id n : ℕ) (ends : Bool) (set : Set) → IsSame set (spent_to id n ends set)
all_same id n false set = spent_same id n set (at id set)
all_same id n true set =
    let a = spent_same id n set (at id set) in
    let b = ended_same id (spent id n set) (at id (spent id n set)) in
    record { role = b.role ∙ a.role; limits = b.limits ∙ a.limits }

same_role : (id n : ℕ) (ends : Bool) (set : Set) → (spent_to id n ends set).role ≡ set.role
same_role id n ends set = (all_same id n ends set).role

same_limits : (id n : ℕ) (ends : Bool) (set : Set) → (spent_to id n ends set).limits ≡ set.limits
same_limits id n ends set = (all_same id n ends set).limits

-- what a client's data are of its requests
no_padding : (id : ℕ) (part : List ℕ) (ends : Bool) (fits : id < 2 ^ 31) (small : length part ≤ 16384) → data_of (Content (data_body id part ends fits small)) ≡ part
no_padding id part true fits small = refl
no_padding id part false fits small = refl

or_false : (b : Bool) → (b || false) ≡ b
or_false true = refl
or_false false = refl

abbrev on : ℕ → Frame → List ℕ
on k g = if is_data g && stream_of g == k then data_of g else []

module _ (limits : H2Limits) (heads : List Outcome) (x : List Step) (id : ℕ) (part : List ℕ) (ends : Bool) (fits : id < 2 ^ 31) (small : length part ≤ 16384) where
  abbrev f : Frame
  f = Content (data_body id part ends fits small)

  abbrev behind : List Step
  behind = x ++ Sent f ∷ []

  ends_one : open_block (sent x) ≡ None → ends_call limits heads Client x (Sent f) ≡ ends
  ends_one closed = rw (none_completed x f closed refl) (or_false (has_end_stream f) ∙ ends_flag id part ends fits small)

  client_bytes : (k : ℕ) → request_bytes limits heads Client behind k ≡ request_bytes limits heads Client x k ++ (if id == k then part else [])
  client_bytes k =
      ap (flat_map (on k)) (sent_push x f) ∙ flat_map-append (on k) (sent x) (f ∷ [])
      ∙ ap (λ (b : List ℕ). flat_map (on k) (sent x) ++ b) (append-nil (on k f) ∙ ap (λ (b : List ℕ). if id == k then b else []) (no_padding id part ends fits small))

  pub client_watched : (w : Watch) → open_block (sent x) ≡ None → is_open Client x id ≡ true → stop_of Client limits heads x ≡ stop_by w.is_passed → IsWatched Client limits heads x w →
      IsWatched Client limits heads behind (sent_on Client id part ends w) × (stop_of Client limits heads behind ≡ stop_by (sent_on Client id part ends w).is_passed)
  client_watched w closed live stop h =
      let c : cuts Client limits heads behind ≡ cuts Client limits heads x = quiet_count Client limits heads (cuts_request Client limits heads) x (Sent f) refl in
      let n : ended_calls Client limits heads behind ≡ ended_calls Client limits heads x + (if ends then 1 else 0) =
      count_push (ends_call limits heads Client) x (Sent f) ∙ ap (λ (b : Bool). ended_calls Client limits heads x + (if b then 1 else 0)) (ends_one closed) in
      let watched = more_watched Client limits heads x behind id part ends w c n
      (client_bytes id ∙ ap (λ (b : Bool). request_bytes limits heads Client x id ++ (if b then part else [])) (self_eq id))
      (λ k other. client_bytes k ∙ ap (λ (b : Bool). request_bytes limits heads Client x k ++ (if b then part else [])) (isnt k id (λ e. other (sym e))) ∙ append-nil (request_bytes limits heads Client x k))
      (λ k. live_back Client x f k (none_begins Client x f k refl))
      (begun_more Client x (Sent f) id (front_true (is_begun Client x id) (not (is_over x id)) (front_true (is_live Client x id) (not (is_ended_by (sent x) id)) live))) (λ k. unbegun Client x (Sent f) k) h in
      (watched, stop_more w.is_passed w.left stop (h.counts) c n ∙ ap stop_by (sym (same_passed ends id part w)))
    where
      stop_more : (passed : Bool) (left : ℕ) → stop_of Client limits heads x ≡ stop_by passed → (passed ≡ false → left + cuts Client limits heads x ≡ 1000 + ended_calls Client limits heads x) →
          cuts Client limits heads behind ≡ cuts Client limits heads x → ended_calls Client limits heads behind ≡ ended_calls Client limits heads x + (if ends then 1 else 0) → stop_of Client limits heads behind ≡ stop_by passed
      stop_more true left e k c n = stop_stays Client limits heads x (Sent f ∷ []) (Calm Resets) e
      stop_more false left e k c n = stop_sent Client limits heads x f e ∙ by_counts Client limits heads (left + (if ends then 1 else 0)) 0 behind (omega (arith, c, n, k refl))

watch_goes : (role : Role) (limits : H2Limits) (heads : List Outcome) (x : List Step) (id : ℕ) (part : List ℕ) (ends : Bool) (fits : id < 2 ^ 31) (small : length part ≤ 16384) (w : Watch) → open_block (sent x) ≡ None → is_open role x id ≡ true →
    stop_of role limits heads x ≡ stop_by w.is_passed → IsWatched role limits heads x w →
    IsWatched role limits heads (x ++ Sent (Content (data_body id part ends fits small)) ∷ []) (sent_on role id part ends w)
    × (stop_of role limits heads (x ++ Sent (Content (data_body id part ends fits small)) ∷ []) ≡ stop_by (sent_on role id part ends w).is_passed)
watch_goes Client limits heads x id part ends fits small w closed live stop h = client_watched limits heads x id part ends fits small w closed live stop h
watch_goes Server limits heads x id part ends fits small w closed live stop h =
    let f = Content (data_body id part ends fits small) in
    quiet_watched Server limits heads x f refl refl w (server_bytes limits heads x f) (λ k. live_back Server x f k (none_begins Server x f k refl)) stop h

pub data_goes : (s : State) (c : ConnectionTrace) (id : ℕ) (part : List ℕ) (ends : Bool) (fits : id < 2 ^ 31) (small : length part ≤ 16384) → Stands s c → s.refusal ≡ None → is_open c.role c.frames id ≡ true →
    length part ≤ room_of s.set (at id s.set) → Stands (with_data id part ends s) (one_more (Content (data_body id part ends fits small)) c)
data_goes s c id part ends fits small h none live room =
    let a = h.goes none in
    let f = Content (data_body id part ends fits small) in
    let here : is_open s.set.role c.frames id ≡ true = ap (λ (r : Role). is_open r c.frames id) a.set_role ∙ live in
    let within : length part ≤ may_send c.frames id = subst (λ (n : ℕ). length part ≤ n) (room_says s.set c.frames id (room_of s.set (at id s.set)) refl a.set_is here) room in
    let acks : acks_in (sent (c.frames ++ Sent f ∷ [])) ++ [] ≡ acks_in (sent c.frames) ++ [] = ap (λ (t : List (List ℕ)). t ++ []) (no_ack c.frames f refl) in
    let watch = watch_goes c.role c.limits c.heads c.frames id part ends fits small s.watch h.kept.closed live a.stop_is a.watched in
    let same : sent_on c.role id part ends s.watch ≡ sent_on s.role id part ends s.watch = ap (λ (r : Role). sent_on r id part ends s.watch) h.role_is in
    record {
      role_is = h.role_is;
      limits_are = h.limits_are;
      refusal_is = h.refusal_is;
      holding_is = h.holding_is;
      last = h.last;
      encoder_is = h.encoder_is;
      kept = sends_kept c s.output h.last f h.kept refl refl a.stays ([], sym a.acknowledged ∙ sym acks) (λ b e. by_body b e within);
      resets = resets_push c.role c.limits c.heads c.frames f h.resets;
      credited = λ e. credited_push s.is_holding c.role c.limits c.frames f refl (λ k. none_begins c.role c.frames f k refl) (h.credited e);
      goes = λ e. going_push s c f _ (spent_to id (length part) ends s.set) (sent_on s.role id part ends s.watch) (ends_of s.ended) [] [] a
          (set_goes s.set c.frames id part ends fits small a.set_is here room)
          (same_role id (length part) ends s.set ∙ a.set_role) (same_limits id (length part) ends s.set ∙ a.set_limits) acks refl
          (subst (λ (w : Watch). IsWatched c.role c.limits c.heads (c.frames ++ Sent f ∷ []) w) same watch.0)
          (watch.1 ∙ ap (λ (w : Watch). stop_by w.is_passed) same);
    }
  where
    body_or : Frame → FrameBody
    body_or (Content k) = k
    body_or other = data_body id part ends fits small

    by_body : (b : FrameBody) → Content (data_body id part ends fits small) ≡ Content b → length part ≤ may_send c.frames id → length b.payload ≤ may_send c.frames b.stream
    by_body b e within =
        let same : data_body id part ends fits small ≡ b = ap body_or e in
        subst (λ (k : FrameBody). length k.payload ≤ may_send c.frames k.stream) same within
