-- A connection that receives a frame that stops nothing.
use Rattle.std.proofs.Common.{◌≡◌, ℕ, ◌<◌, ◌≤◌, false, List, [], ◌∷◌, ◌++◌, length, Option, None, refl, sym, ap, subst, ◌∙◌, arith}
use Rattle.std.specs.Prelude.{Ok, Err}
use Rattle.std.specs.List.{list_any, flat_map}
use Rattle.std.proofs.lemmas.List.{append-nil, append_assoc}
use Rattle.std.proofs.lemmas.List.Concat.{flat_map-append}
use Rattle.h2_frames.specs.declared.frame.Frame.{Frame}
use Rattle.h2_frames.specs.Layout.{frame_text}
use Rattle.h2_frames.specs.Reader.{Reader}
use Rattle.h2_frames.specs.Stream as bytes
use Rattle.h2_frames.specs.Stream.{place_after}
use Rattle.h2_frames.proofs.Streams.{front_of, front_within, IsPrefix as StandsIn}
use Rattle.hpack_tables.specs.declared.field.Field.{Field}
use Rattle.hpack_tables.specs.Decoder.{Decoder}
use Rattle.hpack_tables.specs.Writing.{Encoder, fresh}
use Rattle.h2_exchange.specs.declared.limits.H2Limits.{H2Limits}
use Rattle.h2_exchange.specs.declared.role.Role.{Role}
use Rattle.h2_exchange.specs.Blocks.{Block, blocks, open_block}
use Rattle.h2_exchange.specs.Compression.{limited_by}
use Rattle.h2_exchange.specs.Content.{Outcome}
use Rattle.h2_exchange.specs.Events.{Event, events_of}
use Rattle.h2_exchange.specs.Exchange.{Step, Received, received, sent, sent_text}
use Rattle.h2_exchange.specs.Frames.{is_goaway}
use Rattle.h2_exchange.specs.Order.{peer_preface, own_preface, end_of}
use Rattle.h2_exchange.specs.Outcomes.{AreKnown, AreEnough, ReadFirst, BeginWithFrames}
use Rattle.h2_exchange.specs.Sending.{acks_in, acks_for, last_begun, IsPrefix}
use Rattle.h2_exchange.specs.Stops.{stop_at, stop_of, events}
use Rattle.h2_exchange.proofs.Heads.{all_enough}
use Rattle.h2_exchange.proofs.Looking.{front_whole}
use Rattle.h2_exchange.proofs.Staying.{events_go_on}
use Rattle.h2_exchange.proofs.Steps.{received_push, sent_received}
use Rattle.h2_streams.specs.Set.{Set}
use Rattle.h2_streams.specs.Stands as streams
use Rattle.http_connection.specs.ConnectionTrace.{ConnectionTrace, style_of}
use Rattle.h2_conn.specs.State.{State}
use Rattle.h2_conn.specs.Standing.{AreAllRead, Decodes, Going, Kept}
use Rattle.h2_conn.specs.Watching.{Watch, IsWatched, stop_by}
use Rattle.h2_conn.proofs.Further.{stop_known, events_known}
use Rattle.h2_conn.proofs.Splits.{placed_heard, windows_heard}
use Rattle.h2_conn.proofs.Written.{written_heard}

-- ---- header blocks

read_first : (entries : List Field) (max : ℕ) (bs : List Block) (heads : List Outcome) (last : List Field) (size : ℕ) → AreAllRead entries max bs heads last size → ReadFirst entries max bs heads
read_first entries max [] [] last size h = tt
read_first entries max [] (outcome ∷ heads) last size h = absurd h
read_first entries max (b ∷ bs) [] last size h = absurd h
read_first entries max (b ∷ bs) (Ok fields ∷ heads) last size h = (h.0, h.1, h.2, read_first h.0.entries h.0.max bs heads last size h.3)
read_first entries max (b ∷ bs) (Err fault ∷ heads) last size h = absurd h

pub as_many : (entries : List Field) (max : ℕ) (bs : List Block) (heads : List Outcome) (last : List Field) (size : ℕ) → AreAllRead entries max bs heads last size → length bs ≡ length heads
as_many entries max [] [] last size h = refl
as_many entries max [] (outcome ∷ heads) last size h = absurd h
as_many entries max (b ∷ bs) [] last size h = absurd h
as_many entries max (b ∷ bs) (Ok fields ∷ heads) last size h = let k = as_many h.0.entries h.0.max bs heads last size h.3 in omega (arith, k)
as_many entries max (b ∷ bs) (Err fault ∷ heads) last size h = absurd h

pub known_by : (role : Role) (limits : H2Limits) (heads : List Outcome) (x : List Step) (d : Decoder) → Decodes d (blocks (received x)) heads → AreKnown role limits heads x
known_by role limits heads x d h = record {
  read = read_first [] 4096 (blocks (received x)) heads d.entries d.max h.read;
  enough = all_enough role limits heads x (let k = as_many [] 4096 (blocks (received x)) heads d.entries d.max h.read in omega (arith, k));
}

-- ---- the exchange

abbrev pub heard : Frame → List Outcome → ConnectionTrace → ConnectionTrace
heard f outcomes c = record c { frames = c.frames ++ Received f ∷ []; heads = c.heads ++ outcomes }

-- what a frame asks for, as one acknowledgement or none
abbrev pub acks_of : Frame → List (List ℕ)
acks_of f = acks_for (f ∷ [])

pub acks_more : (fs : List Frame) (f : Frame) → acks_for (fs ++ f ∷ []) ≡ acks_for fs ++ acks_of f
acks_more fs f = flat_map-append _ fs (f ∷ [])

sent_text_same : (x : List Step) (f : Frame) → sent_text (x ++ Received f ∷ []) ≡ sent_text x
sent_text_same x f = ap (λ (fs : List Frame). flat_map frame_text fs) (sent_received x f)

pub hears_kept : (c : ConnectionTrace) (output : List ℕ) (enc : Encoder) (f : Frame) (outcomes : List Outcome) (reader : Reader) → Kept c output enc → bytes.Stands (peer_preface c.role) reader c.fed (received c.frames ++ f ∷ []) →
    AreKnown c.role c.limits (c.heads ++ outcomes) (c.frames ++ Received f ∷ []) → IsPrefix c.given (events c.role c.limits (c.heads ++ outcomes) (c.frames ++ Received f ∷ [])) →
    Kept (heard f outcomes c) output (limited_by f enc)
hears_kept c output enc f outcomes reader h reads known given =
    let stands = front_of (peer_preface c.role) reader c.fed (received c.frames ++ f ∷ []) reads in
    record {
      front = subst (λ (fs : List Frame). BeginWithFrames (peer_preface c.role) c.fed fs) (sym (received_push c.frames f)) (as_first (received c.frames ++ f ∷ []) stands);
      within = λ some. subst (λ (fs : List Frame). end_of (peer_preface c.role) fs ≤ length c.fed) (sym (received_push c.frames f))
          (front_within (peer_preface c.role) c.fed (received c.frames ++ f ∷ []) stands (subst (λ (fs : List Frame). 0 < length fs) (received_push c.frames f) some));
      text = ap (λ (t : List ℕ). own_preface c.role ++ t) (sent_text_same c.frames f) ∙ h.text;
      read = known;
      spelled = written_heard (fresh (style_of c.role)) [] c.frames f c.written enc h.spelled;
      writable = h.writable;
      closed = ap open_block (sent_received c.frames f) ∙ h.closed;
      given = given;
      placed = placed_heard c.frames f h.placed;
      acknowledged = (
        h.acknowledged.0 ++ acks_of f,
        ap acks_for (received_push c.frames f) ∙ acks_more (received c.frames) f ∙ ap (λ (l : List (List ℕ)). l ++ acks_of f) h.acknowledged.1
            ∙ append_assoc (acks_in (sent c.frames)) h.acknowledged.0 (acks_of f) ∙ ap (λ (fs : List Frame). acks_in fs ++ (h.acknowledged.0 ++ acks_of f)) (sym (sent_received c.frames f)),
      );
      windows = windows_heard c.frames f h.windows;
    }
  where
    as_first : (fs : List Frame) → StandsIn (peer_preface c.role) c.fed fs → BeginWithFrames (peer_preface c.role) c.fed fs
    as_first [] k = tt
    as_first (g ∷ fs) k = (k.0, k.1, k.2)

pub hears_going : (s : State) (c : ConnectionTrace) (f : Frame) (outcomes : List Outcome) (reader : Reader) (place : ℕ) (set : Set) (decoder : Decoder) (encoder : Encoder) (block : Option Block) (watch : Watch) (es : List Event) →
    Going s c es [] → AreEnough c.role c.limits c.heads c.frames → stop_of c.role c.limits c.heads c.frames ≡ None → reader.refusal ≡ None → bytes.Stands (peer_preface c.role) reader c.fed (received c.frames ++ f ∷ []) →
    place ≡ place_after (peer_preface c.role) (received c.frames ++ f ∷ []) → streams.StandsFor set (c.frames ++ Received f ∷ []) → set.role ≡ c.role → set.limits ≡ c.limits →
    Decodes decoder (blocks (received c.frames ++ f ∷ [])) (c.heads ++ outcomes) → block ≡ open_block (received c.frames ++ f ∷ []) →
    stop_at c.role c.limits (c.heads ++ outcomes) c.frames (Received f) ≡ None → IsWatched c.role c.limits (c.heads ++ outcomes) (c.frames ++ Received f ∷ []) watch → watch.is_passed ≡ false →
    Going (record s { reader = reader; place = place; set = set; decoder = decoder; encoder = encoder; block = block; watch = watch }) (heard f outcomes c)
    (es ++ events_of c.role c.limits (c.heads ++ outcomes) c.frames (Received f)) (acks_of f)
hears_going s c f outcomes reader place set decoder encoder block watch es h enough none reader_goes reads place_is stands set_role set_limits decodes block_is clear watched passed =
    let known = stop_known c.role c.limits c.heads outcomes c.frames (enough, none) in
    let on = events_go_on c.role c.limits (c.heads ++ outcomes) c.frames (Received f) known clear in
    record {
      reader_goes = reader_goes;
      reads = subst (λ (fs : List Frame). bytes.Stands (peer_preface c.role) reader c.fed fs) (sym (received_push c.frames f)) reads;
      place_is = place_is ∙ ap (place_after (peer_preface c.role)) (sym (received_push c.frames f));
      set_is = stands;
      set_role = set_role;
      set_limits = set_limits;
      decodes = subst (λ (fs : List Frame). Decodes decoder (blocks fs) (c.heads ++ outcomes)) (sym (received_push c.frames f)) decodes;
      block_is = block_is ∙ ap open_block (sym (received_push c.frames f));
      given_is =
          on.1
          ∙ ap (λ (l : List Event). l ++ events_of c.role c.limits (c.heads ++ outcomes) c.frames (Received f)) (events_known c.role c.limits c.heads outcomes c.frames (enough, none) ∙ h.given_is)
          ∙ append_assoc c.given es (events_of c.role c.limits (c.heads ++ outcomes) c.frames (Received f));
      acknowledged =
          ap (λ (fs : List Frame). acks_in fs ++ acks_of f) (sent_received c.frames f)
          ∙ ap (λ (l : List (List ℕ)). l ++ acks_of f) (sym (append-nil (acks_in (sent c.frames))) ∙ h.acknowledged)
          ∙ sym (acks_more (received c.frames) f) ∙ ap acks_for (sym (received_push c.frames f));
      stays = ap (list_any is_goaway) (sent_received c.frames f) ∙ h.stays;
      watched = watched;
      stop_is = on.0 ∙ sym (ap stop_by passed);
      last_is = ap (last_begun c.role) (front_whole (stop_at c.role c.limits (c.heads ++ outcomes)) [] (c.frames ++ Received f ∷ []) on.0);
    }
