-- A connection that has taken a frame, its streams apart: the joint step of a frame that is a stream error and its reset.
use Rattle.std.proofs.Common.{◌≡◌, ℕ, Bool, true, false, ◌||◌, List, [], ◌∷◌, ◌++◌, Option, None, refl, sym, ap, subst, ◌∙◌}
use Rattle.std.specs.List.{list_any}
use Rattle.std.proofs.lemmas.List.{append-nil, append_assoc}
use Rattle.std.proofs.lemmas.List.Folds.{list_any-append}
use Rattle.h2_frames.specs.declared.frame.Frame.{Frame}
use Rattle.h2_frames.specs.Reader.{Reader}
use Rattle.h2_frames.specs.Stream as bytes
use Rattle.h2_frames.specs.Stream.{place_after}
use Rattle.hpack_tables.specs.Decoder.{Decoder}
use Rattle.hpack_tables.specs.Writing.{Encoder}
use Rattle.h2_exchange.specs.Blocks.{Block, blocks, open_block}
use Rattle.h2_exchange.specs.Content.{Outcome}
use Rattle.h2_exchange.specs.Events.{Event, events_of}
use Rattle.h2_exchange.specs.Exchange.{Received, Sent, received, sent}
use Rattle.h2_exchange.specs.Frames.{is_goaway}
use Rattle.h2_exchange.specs.Order.{peer_preface}
use Rattle.h2_exchange.specs.Outcomes.{AreEnough}
use Rattle.h2_exchange.specs.Sending.{acks_in, acks_for, last_begun}
use Rattle.h2_exchange.specs.Stops.{stop_at, stop_of, before_stop}
use Rattle.h2_exchange.proofs.Looking.{front_whole}
use Rattle.h2_exchange.proofs.Staying.{events_go_on}
use Rattle.h2_exchange.proofs.Steps.{received_push, received_sent, sent_push, sent_received}
use Rattle.h2_streams.specs.Set.{Set}
use Rattle.h2_streams.specs.Stands as streams
use Rattle.http_connection.specs.ConnectionTrace.{ConnectionTrace, events_in, stop_in}
use Rattle.h2_conn.specs.State.{State}
use Rattle.h2_conn.specs.Standing.{Decodes, Going}
use Rattle.h2_conn.specs.Watching.{Watch, IsWatched, stop_by}
use Rattle.h2_conn.proofs.Further.{stop_known, events_known}
use Rattle.h2_conn.proofs.Hearing.{heard, acks_of, acks_more}
use Rattle.h2_conn.proofs.Lives.{events_sent, going_sent, last_by}
use Rattle.h2_conn.proofs.Sounds.{one_more}

-- the parts of a connection that goes on, its streams apart
pub record Mid (s : State) (c : ConnectionTrace) (es : List Event) (owed : List (List ℕ)) : Type 0 where
  pub reader_goes : s.reader.refusal ≡ None
  pub reads : bytes.Stands (peer_preface c.role) s.reader c.fed (received c.frames)
  pub place_is : s.place ≡ place_after (peer_preface c.role) (received c.frames)
  pub decodes : Decodes s.decoder (blocks (received c.frames)) c.heads
  pub block_is : s.block ≡ open_block (received c.frames)
  pub given_is : events_in c ≡ c.given ++ es
  pub acknowledged : acks_in (sent c.frames) ++ owed ≡ acks_for (received c.frames)
  pub stays : list_any is_goaway (sent c.frames) ≡ false
  pub watched : IsWatched c.role c.limits c.heads c.frames s.watch
  pub stop_is : stop_in c ≡ stop_by s.watch.is_passed
  pub last_is : last_begun c.role (before_stop c.role c.limits c.heads c.frames) ≡ last_begun c.role c.frames

pub mid_of : (s : State) (c : ConnectionTrace) (es : List Event) (owed : List (List ℕ)) → Going s c es owed → Mid s c es owed
mid_of s c es owed a = record {
  reader_goes = a.reader_goes;
  reads = a.reads;
  place_is = a.place_is;
  decodes = a.decodes;
  block_is = a.block_is;
  given_is = a.given_is;
  acknowledged = a.acknowledged;
  stays = a.stays;
  watched = a.watched;
  stop_is = a.stop_is;
  last_is = a.last_is;
}

-- with its streams
pub going_of : (s : State) (c : ConnectionTrace) (es : List Event) (owed : List (List ℕ)) → Mid s c es owed → streams.StandsFor s.set c.frames → s.set.role ≡ c.role → s.set.limits ≡ c.limits → Going s c es owed
going_of s c es owed a stands role limits = record {
  reader_goes = a.reader_goes;
  reads = a.reads;
  place_is = a.place_is;
  set_is = stands;
  set_role = role;
  set_limits = limits;
  decodes = a.decodes;
  block_is = a.block_is;
  given_is = a.given_is;
  acknowledged = a.acknowledged;
  stays = a.stays;
  watched = a.watched;
  stop_is = a.stop_is;
  last_is = a.last_is;
}

-- nothing but the output, the streams and what is still to be told differs
pub mid_as : (s : State) (c : ConnectionTrace) (es : List Event) (owed : List (List ℕ)) (output : List ℕ) (set : Set) (ended : Option ℕ) (encoder : Encoder) → Mid s c es owed → Mid (record s { output = output; set = set; ended = ended; encoder = encoder }) c es owed
mid_as s c es owed output set ended encoder a = record {
  reader_goes = a.reader_goes;
  reads = a.reads;
  place_is = a.place_is;
  decodes = a.decodes;
  block_is = a.block_is;
  given_is = a.given_is;
  acknowledged = a.acknowledged;
  stays = a.stays;
  watched = a.watched;
  stop_is = a.stop_is;
  last_is = a.last_is;
}

-- another watch says the same of the exchange
pub mid_watch : (s : State) (c : ConnectionTrace) (es : List Event) (owed : List (List ℕ)) (watch : Watch) → Mid s c es owed → IsWatched c.role c.limits c.heads c.frames watch → watch.is_passed ≡ s.watch.is_passed → Mid (record s { watch = watch }) c es owed
mid_watch s c es owed watch a watched same = record {
  reader_goes = a.reader_goes;
  reads = a.reads;
  place_is = a.place_is;
  decodes = a.decodes;
  block_is = a.block_is;
  given_is = a.given_is;
  acknowledged = a.acknowledged;
  stays = a.stays;
  watched = watched;
  stop_is = a.stop_is ∙ ap stop_by (sym same);
  last_is = a.last_is;
}

-- ---- a frame is received that stops nothing

pub mid_heard : (s : State) (c : ConnectionTrace) (f : Frame) (outcomes : List Outcome) (reader : Reader) (place : ℕ) (decoder : Decoder) (block : Option Block) (watch : Watch) (es : List Event) →
    Mid s c es [] → AreEnough c.role c.limits c.heads c.frames → stop_of c.role c.limits c.heads c.frames ≡ None → reader.refusal ≡ None → bytes.Stands (peer_preface c.role) reader c.fed (received c.frames ++ f ∷ []) →
    place ≡ place_after (peer_preface c.role) (received c.frames ++ f ∷ []) →
    Decodes decoder (blocks (received c.frames ++ f ∷ [])) (c.heads ++ outcomes) → block ≡ open_block (received c.frames ++ f ∷ []) →
    stop_at c.role c.limits (c.heads ++ outcomes) c.frames (Received f) ≡ None → IsWatched c.role c.limits (c.heads ++ outcomes) (c.frames ++ Received f ∷ []) watch → watch.is_passed ≡ false →
    Mid (record s { reader = reader; place = place; decoder = decoder; block = block; watch = watch }) (heard f outcomes c)
    (es ++ events_of c.role c.limits (c.heads ++ outcomes) c.frames (Received f)) (acks_of f)
mid_heard s c f outcomes reader place decoder block watch es h enough none reader_goes reads place_is decodes block_is clear watched passed =
    let known = stop_known c.role c.limits c.heads outcomes c.frames (enough, none) in
    let on = events_go_on c.role c.limits (c.heads ++ outcomes) c.frames (Received f) known clear in
    record {
      reader_goes = reader_goes;
      reads = subst (λ (fs : List Frame). bytes.Stands (peer_preface c.role) reader c.fed fs) (sym (received_push c.frames f)) reads;
      place_is = place_is ∙ ap (place_after (peer_preface c.role)) (sym (received_push c.frames f));
      decodes = subst (λ (fs : List Frame). Decodes decoder (blocks fs) (c.heads ++ outcomes)) (sym (received_push c.frames f)) decodes;
      block_is = block_is ∙ ap open_block (sym (received_push c.frames f));
      given_is =
          on.1
          ∙ ap (λ (l : List Event). l ++ events_of c.role c.limits (c.heads ++ outcomes) c.frames (Received f)) (events_known c.role c.limits c.heads outcomes c.frames (enough, none) ∙ h.given_is)
          ∙ append_assoc c.given es (events_of c.role c.limits (c.heads ++ outcomes) c.frames (Received f));
      acknowledged =
          ap (λ (fs : List Frame). acks_in fs ++ acks_of f) (sent_received c.frames f)
          ∙ ap (λ (l : List (List ℕ)). l ++ acks_of f) (sym (append-nil (acks_in (sent c.frames))) ∙ h.acknowledged)
          ∙ sym (acks_more (received c.frames) f) ∙ ap acks_for (sym (received_push c.frames f));
      stays = ap (list_any is_goaway) (sent_received c.frames f) ∙ h.stays;
      watched = watched;
      stop_is = on.0 ∙ sym (ap stop_by passed);
      last_is = ap (last_begun c.role) (front_whole (stop_at c.role c.limits (c.heads ++ outcomes)) [] (c.frames ++ Received f ∷ []) on.0);
    }

-- ---- a frame is sent

both_false : (a b : Bool) → a ≡ false → b ≡ false → (a || (b || false)) ≡ false
both_false true b p q = absurd cc
both_false false true p q = absurd cc
both_false false false p q = refl

pub mid_push : (s : State) (c : ConnectionTrace) (f : Frame) (watch : Watch) (es : List Event) (owed left : List (List ℕ)) → Mid s c es owed →
    acks_in (sent (c.frames ++ Sent f ∷ [])) ++ left ≡ acks_in (sent c.frames) ++ owed → is_goaway f ≡ false →
    IsWatched c.role c.limits c.heads (c.frames ++ Sent f ∷ []) watch → stop_of c.role c.limits c.heads (c.frames ++ Sent f ∷ []) ≡ stop_by watch.is_passed →
    Mid (record s { watch = watch }) (one_more f c) es left
mid_push s c f watch es owed left h acks away watched stop = record {
  reader_goes = h.reader_goes;
  reads = subst (λ (fs : List Frame). bytes.Stands (peer_preface c.role) s.reader c.fed fs) (sym (received_sent c.frames f)) h.reads;
  place_is = h.place_is ∙ ap (place_after (peer_preface c.role)) (sym (received_sent c.frames f));
  decodes = subst (λ (fs : List Frame). Decodes s.decoder (blocks fs) c.heads) (sym (received_sent c.frames f)) h.decodes;
  block_is = h.block_is ∙ ap open_block (sym (received_sent c.frames f));
  given_is = events_sent c.role c.limits c.heads c.frames f ∙ h.given_is;
  acknowledged = acks ∙ h.acknowledged ∙ ap acks_for (sym (received_sent c.frames f));
  stays = ap (list_any is_goaway) (sent_push c.frames f) ∙ list_any-append is_goaway (sent c.frames) (f ∷ []) ∙ both_false (list_any is_goaway (sent c.frames)) (is_goaway f) h.stays away;
  watched = watched;
  stop_is = stop;
  last_is =
      last_by c.role (before_stop c.role c.limits c.heads (c.frames ++ Sent f ∷ [])) (before_stop c.role c.limits c.heads c.frames) (going_sent c.role c.limits c.heads c.frames f)
      ∙ h.last_is ∙ last_by c.role c.frames (c.frames ++ Sent f ∷ []) (sym (received_sent c.frames f));
}
