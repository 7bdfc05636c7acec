-- A connection that sends one more frame stays sound.
use Rattle.std.proofs.Common.{◌≡◌, ℕ, ◌<◌, ◌≤◌, Bool, true, false, ◌||◌, ◌&&◌, List, [], ◌∷◌, ◌++◌, length, Option, Some, None, refl, sym, ap, subst, ◌∙◌, map}
use Rattle.std.specs.Prelude.{option_map, filter, if◌then◌else◌}
use Rattle.std.specs.List.{list_any, flat_map}
use Rattle.std.proofs.lemmas.List.{append-nil, append_assoc, map-append}
use Rattle.std.proofs.lemmas.List.Concat.{flat_map-append}
use Rattle.std.proofs.lemmas.List.Elements.{filter-append}
use Rattle.h2_frames.specs.declared.frame.Frame.{Frame}
use Rattle.h2_frames.specs.Layout.{frame_text}
use Rattle.hpack_tables.specs.Writing.{Encoder, fresh}
use Rattle.h2_exchange.specs.declared.limits.H2Limits.{H2Limits}
use Rattle.h2_exchange.specs.declared.role.Role.{Role}
use Rattle.h2_exchange.specs.Blocks.{Block, block_with, blocks, open_block, left_open, completed, completed_by}
use Rattle.h2_exchange.specs.Content.{Outcome}
use Rattle.h2_exchange.specs.Exchange.{Step, Received, Sent, received, sent, sent_text}
use Rattle.h2_exchange.specs.Frames.{is_goaway, is_settings, is_ping, has_ack, has_end_headers}
use Rattle.h2_exchange.specs.Order.{peer_preface, own_preface, end_of}
use Rattle.h2_exchange.specs.Outcomes.{AreEnough, ReadFirst, BeginWithFrames, is_looked_at}
use Rattle.h2_exchange.specs.Rules.{breaks_block_on}
use Rattle.h2_exchange.specs.Sending.{IsPrefix, acks_in, acks_for}
use Rattle.h2_exchange.specs.Stops.{events}
use Rattle.h2_exchange.proofs.Staying.{events_stay}
use Rattle.h2_exchange.proofs.Steps.{received_sent, sent_push, header_blocks_grow}
use Rattle.http_connection.specs.ConnectionTrace.{ConnectionTrace, style_of}
use Rattle.h2_conn.specs.Standing.{Kept}
use Rattle.h2_conn.proofs.Splits.{Cut, last, within, cut_push, is_sent, Fits, placed_push, windows_push}
use Rattle.h2_conn.proofs.Written.{written_push}

-- ---- a sent frame and the received ones

enough_at : (role : Role) (limits : H2Limits) (heads : List Outcome) (x : List Step) (g : Frame) → AreEnough role limits heads x → (past behind : List Step) (f : Frame) (b : Block) → Cut x (Sent g) past (Received f) behind →
    is_looked_at role limits heads past f ≡ true → completed (received past) f ≡ Some b → length (blocks (received past)) < length heads
enough_at role limits heads x g h past behind f b (last a e c) p q = let no : false ≡ true = ap is_sent e in absurd cc
enough_at role limits heads x g h past behind f b (within more a e) p q = h past more f b e p q

pub enough_push : (role : Role) (limits : H2Limits) (heads : List Outcome) (x : List Step) (g : Frame) → AreEnough role limits heads x → AreEnough role limits heads (x ++ Sent g ∷ [])
enough_push role limits heads x g h past behind f b e p q = enough_at role limits heads x g h past behind f b (cut_push x (Sent g) past (Received f) behind e) p q

pub text_push : (x : List Step) (f : Frame) → sent_text (x ++ Sent f ∷ []) ≡ sent_text x ++ frame_text f
text_push x f =
    ap (flat_map frame_text) (sent_push x f) ∙ flat_map-append frame_text (sent x) (f ∷ []) ∙ ap (λ (t : List ℕ). sent_text x ++ t) (append-nil (frame_text f))

-- ---- a frame of no header block

if_none : (b : Bool) (o : Option Block) → o ≡ None → (if b then None else o) ≡ None
if_none true o e = refl
if_none false o e = e

if_none_then : (b : Bool) (o : Option Block) → o ≡ None → (if b then o else None) ≡ None
if_none_then true o e = e
if_none_then false o e = refl

pub still_closed : (x : List Step) (f : Frame) → open_block (sent x) ≡ None → block_with None f ≡ None → open_block (sent (x ++ Sent f ∷ [])) ≡ None
still_closed x f closed part =
    ap open_block (sent_push x f) ∙ header_blocks_grow.open_push (sent x) f ∙ ap (λ (o : Option Block). left_open o f) closed ∙ if_none (has_end_headers f) (block_with None f) part

pub none_completed : (x : List Step) (f : Frame) → open_block (sent x) ≡ None → block_with None f ≡ None → completed (sent x) f ≡ None
none_completed x f closed part = ap (λ (o : Option Block). completed_by o f) closed ∙ if_none_then (has_end_headers f) (block_with None f) part

-- ---- acknowledgements

abbrev pub is_ack : Frame → Bool
is_ack f = (is_settings f || is_ping f) && has_ack f

acks_by : (fs : List Frame) (f : Frame) (b : Bool) → is_ack f ≡ b → acks_in (fs ++ f ∷ []) ≡ acks_in fs ++ (if b then frame_text f ∷ [] else [])
acks_by fs f b e =
    ap (map frame_text) (filter-append is_ack fs (f ∷ [])) ∙ map-append frame_text (filter is_ack fs) (filter is_ack (f ∷ []))
    ∙ ap (λ (gs : List (List ℕ)). acks_in fs ++ gs) (one (is_ack f) b e)
  where
    one : (a b : Bool) → a ≡ b → map frame_text (if a then f ∷ [] else []) ≡ (if b then frame_text f ∷ [] else [])
    one true true e = refl
    one false false e = refl
    one true false e = absurd cc
    one false true e = absurd cc

pub no_ack : (x : List Step) (f : Frame) → is_ack f ≡ false → acks_in (sent (x ++ Sent f ∷ [])) ≡ acks_in (sent x)
no_ack x f e = ap acks_in (sent_push x f) ∙ acks_by (sent x) f false e ∙ append-nil (acks_in (sent x))

pub one_ack : (x : List Step) (f : Frame) → is_ack f ≡ true → acks_in (sent (x ++ Sent f ∷ [])) ≡ acks_in (sent x) ++ frame_text f ∷ []
one_ack x f e = ap acks_in (sent_push x f) ∙ acks_by (sent x) f true e

-- ---- all of it

abbrev pub one_more : Frame → ConnectionTrace → ConnectionTrace
one_more f c = record c { frames = c.frames ++ Sent f ∷ [] }

front_more : {A : Type 0} (xs ys zs : List A) → IsPrefix xs ys → IsPrefix ys zs → IsPrefix xs zs
front_more xs ys zs h k = (h.0 ++ k.0, k.1 ∙ ap (λ (l : List _). l ++ k.0) h.1 ∙ append_assoc xs h.0 k.0)

pub sends_kept : (c : ConnectionTrace) (output : List ℕ) (enc : Encoder) (f : Frame) → Kept c output enc → block_with None f ≡ None → breaks_block_on None f ≡ false → list_any is_goaway (sent c.frames) ≡ false →
    IsPrefix (acks_in (sent (c.frames ++ Sent f ∷ []))) (acks_for (received c.frames)) → Fits c.frames f → Kept (one_more f c) (output ++ frame_text f) enc
sends_kept c output enc f h part outside alive acks fits = record {
  front = subst (λ (fs : List Frame). BeginWithFrames (peer_preface c.role) c.fed fs) (sym (received_sent c.frames f)) h.front;
  within = subst (λ (fs : List Frame). 0 < length fs → end_of (peer_preface c.role) fs ≤ length c.fed) (sym (received_sent c.frames f)) h.within;
  text =
      ap (λ (t : List ℕ). own_preface c.role ++ t) (text_push c.frames f) ∙ sym (append_assoc (own_preface c.role) (sent_text c.frames) (frame_text f))
      ∙ ap (λ (t : List ℕ). t ++ frame_text f) h.text ∙ append_assoc c.dropped output (frame_text f);
  read = record {
    read = subst (λ (fs : List Frame). ReadFirst [] 4096 (blocks fs) c.heads) (sym (received_sent c.frames f)) h.read.read;
    enough = enough_push c.role c.limits c.heads c.frames f h.read.enough;
  };
  spelled = written_push (fresh (style_of c.role)) [] c.frames f c.written enc h.spelled (none_completed c.frames f h.closed part);
  writable = h.writable;
  closed = still_closed c.frames f h.closed part;
  given = front_more c.given (events c.role c.limits c.heads c.frames) (events c.role c.limits c.heads (c.frames ++ Sent f ∷ [])) h.given (events_stay c.role c.limits c.heads c.frames (Sent f ∷ []));
  placed = placed_push c.frames f h.placed (record { block = ap (λ (o : Option Block). breaks_block_on (option_map (λ (b : Block). b.stream) o) f) h.closed ∙ outside; alive = alive });
  acknowledged = subst (λ (fs : List Frame). IsPrefix (acks_in (sent (c.frames ++ Sent f ∷ []))) (acks_for fs)) (sym (received_sent c.frames f)) acks;
  windows = windows_push c.frames f h.windows fits;
}
