-- A frame that is no part of a header block is received and breaks no rule of the connection.
use Rattle.std.proofs.Common.{◌≡◌, ℕ, ◌+◌, ◌-◌, ◌≤◌, Bool, true, false, List, [], ◌∷◌, ◌++◌, map, Option, Some, None, refl, sym, ap, subst, ◌∙◌, arith}
use Rattle.std.specs.Prelude.{◌==◌, if◌then◌else◌}
use Rattle.std.proofs.lemmas.List.{append-nil, append_assoc}
use Rattle.h2_frames.specs.declared.frame.Frame.{Frame}
use Rattle.h2_exchange.specs.declared.limits.H2Limits.{H2Limits}
use Rattle.h2_exchange.specs.declared.role.Role.{Role}
use Rattle.h2_exchange.specs.Blocks.{Block, blocks, open_block}
use Rattle.h2_exchange.specs.Content.{Outcome, is_malformed, outcome_for, stream_error}
use Rattle.h2_exchange.specs.Exchange.{Step, Received, Sent, received, sent}
use Rattle.h2_exchange.specs.Frames.{stream_of, is_headers, counted}
use Rattle.h2_exchange.specs.Rules.{frame_error}
use Rattle.h2_exchange.specs.Sending.{credit_text, IsCredited}
use Rattle.h2_exchange.specs.StreamErrors.{stream_error_of}
use Rattle.h2_exchange.specs.Stops.{frame_stop}
use Rattle.h2_exchange.specs.Streams.{is_live}
use Rattle.h2_exchange.specs.Windows.{granted_on, spent, spent_on}
use Rattle.h2_exchange.proofs.Steps.{received_push, received_sent, sent_received, window_sums_grow}
use Rattle.h2_streams.specs.declared.live.Stream.{Stream}
use Rattle.h2_streams.specs.Set.{Set, at, owed_in}
use Rattle.h2_streams.specs.Stands as streams
use Rattle.h2_streams.specs.Stands.{stream_at}
use Rattle.h2_streams.proofs.Lists.{self_eq}
use Rattle.h2_streams.proofs.Standing.{at_is}
use Rattle.http_connection.specs.ConnectionTrace.{ConnectionTrace}
use Rattle.h2_conn.specs.Credit.{owed_by}
use Rattle.h2_conn.specs.State.{State}
use Rattle.h2_conn.specs.Standing.{Decodes, HasCredit, IsWithinCredit}
use Rattle.h2_conn.specs.Steps.{Waiting}
use Rattle.h2_conn.proofs.Controls.{outside}
use Rattle.h2_conn.proofs.Granting.{Grants, sym_eq}
use Rattle.h2_conn.proofs.Loose.{live_back}
use Rattle.h2_conn.proofs.Plain.{IsLoose, blocks_stay, frame_goes, none_completed, still_closed}
use Rattle.h2_conn.proofs.Received.{before}

-- ---- the received sides of sums

pub spent_behind : (x : List Step) (f : Frame) → spent (received (x ++ Received f ∷ [])) ≡ spent (received x) + counted f
spent_behind x f = ap spent (received_push x f) ∙ window_sums_grow.spent_push (received x) f

pub spent_on_behind : (x : List Step) (f : Frame) (k : ℕ) → spent_on k (received (x ++ Received f ∷ [])) ≡ spent_on k (received x) + (if stream_of f == k then counted f else 0)
spent_on_behind x f k = ap (spent_on k) (received_push x f) ∙ window_sums_grow.spent_on_push k (received x) f

pub granted_behind : (x : List Step) (f : Frame) (k : ℕ) → granted_on k (sent (x ++ Received f ∷ [])) ≡ granted_on k (sent x)
granted_behind x f k = ap (granted_on k) (sent_received x f)

-- ---- what is owed behind a frame

-- where all was credited before, the connection is owed what the frame counts
pub owed_all : (role : Role) (limits : H2Limits) (x : List Step) (f : Frame) (set : Set) → IsCredited role limits x → streams.StandsFor set (x ++ Received f ∷ []) → set.limits ≡ limits → owed_by set ≡ counted f
owed_all role limits x f set h stands same =
    omega (arith, stands.receive_is, h.whole, spent_behind x f, granted_behind x f 0, ap (λ (l : H2Limits). l.window) same)

owed_by_live : (limits own : H2Limits) (x : List Step) (id n : ℕ) (live : Bool) (o : Option Stream) → own ≡ limits → o ≡ (if live then Some (stream_at own x id) else None) →
    (live ≡ true → limits.window + granted_on id (sent x) - spent_on id (received x) ≡ limits.window - n) → n ≤ limits.window → owed_in own o ≡ (if live then n else 0)
owed_by_live limits own x id n false o same e room small = ap (owed_in own) e
owed_by_live limits own x id n true o same e room small =
    ap (owed_in own) e ∙ ap (λ (l : H2Limits). l.window - (l.window + granted_on id (sent x) - spent_on id (received x))) same
    ∙ ap (λ (m : ℕ). limits.window - m) (room refl) ∙ twice limits.window n small
  where
    twice : (a b : ℕ) → b ≤ a → a - (a - b) ≡ b
    twice a b le = omega arith

-- and so is its stream, where it is live
pub owed_stream : (role : Role) (limits : H2Limits) (x : List Step) (f : Frame) (set : Set) → IsCredited role limits x → streams.StandsFor set (x ++ Received f ∷ []) → set.role ≡ role → set.limits ≡ limits → is_headers f ≡ false → counted f ≤ 16384 →
    owed_in set.limits (at (stream_of f) set) ≡ (if is_live role (x ++ Received f ∷ []) (stream_of f) then counted f else 0)
owed_stream role limits x f set h stands same_role same no_headers small =
    let id = stream_of f in
    let y = x ++ Received f ∷ [] in
    owed_by_live limits set.limits y id (counted f) (is_live role y id) (at id set) same
    (at_is set y stands id ∙ ap (λ (r : Role). if is_live r y id then Some (stream_at set.limits y id) else None) same_role)
    (λ live.
    let whole : granted_on id (sent x) ≡ spent_on id (received x) = h.streams id (live_back role x f id no_headers live) in
    let more : spent_on id (received y) ≡ spent_on id (received x) + counted f = spent_on_behind x f id ∙ ap (λ (b : Bool). spent_on id (received x) + (if b then counted f else 0)) (self_eq id) in
    omega (arith, whole, more, granted_behind x f id))
    (let raised : 65536 ≤ limits.window = limits.window_is_raised in omega (arith, raised, small))

-- what was granted behind the frame makes the windows whole
credited_again : (role : Role) (limits : H2Limits) (x : List Step) (f : Frame) (fs : List Frame) → IsCredited role limits x → is_headers f ≡ false → Grants role (x ++ Received f ∷ []) (stream_of f) (counted f) fs →
    ((k : ℕ) → is_live role ((x ++ Received f ∷ []) ++ map Sent fs) k ≡ is_live role (x ++ Received f ∷ []) k) → IsCredited role limits ((x ++ Received f ∷ []) ++ map Sent fs)
credited_again role limits x f fs h no_headers g same = record {
  whole = omega (arith, g.all, h.whole, granted_behind x f 0, spent_behind x f, ap spent (heard_same (x ++ Received f ∷ []) fs));
  streams = λ k live.
      let alive : is_live role (x ++ Received f ∷ []) k ≡ true = sym (same k) ∙ live in
      let old : granted_on k (sent x) ≡ spent_on k (received x) = h.streams k (live_back role x f k no_headers alive) in
      g.on k alive ∙ ap (λ (m : ℕ). m + (if k == stream_of f then counted f else 0)) (granted_behind x f k ∙ old)
      ∙ ap (λ (b : Bool). spent_on k (received x) + (if b then counted f else 0)) (turned k (stream_of f) (k == stream_of f) refl)
      ∙ sym (ap (spent_on k) (heard_same (x ++ Received f ∷ []) fs) ∙ spent_on_behind x f k);
}
  where
    heard_same : (y : List Step) (gs : List Frame) → received (y ++ map Sent gs) ≡ received y
    heard_same y [] = ap received (append-nil y)
    heard_same y (g ∷ gs) = ap received (sym (append_assoc y (Sent g ∷ []) (map Sent gs))) ∙ heard_same (y ++ Sent g ∷ []) gs ∙ received_sent y g

    turned : (a b : ℕ) (t : Bool) → (a == b) ≡ t → (a == b) ≡ (b == a)
    turned a b t e = e ∙ sym (sym_eq a b t e)

-- while credit is held, nothing is granted
within_again : (role : Role) (limits : H2Limits) (x : List Step) (f : Frame) → IsWithinCredit role limits x → is_headers f ≡ false → IsWithinCredit role limits (x ++ Received f ∷ [])
within_again role limits x f h no_headers = record {
  whole = omega (arith, h.whole, granted_behind x f 0, spent_behind x f);
  streams = λ k live. omega (arith, h.streams k (live_back role x f k no_headers live), granted_behind x f k, spent_on_behind x f k);
}

pub credit_again : (holds : Bool) (role : Role) (limits : H2Limits) (x : List Step) (f : Frame) (fs : List Frame) → HasCredit holds role limits x → is_headers f ≡ false → (holds ≡ false → Grants role (x ++ Received f ∷ []) (stream_of f) (counted f) fs) →
    (holds ≡ true → fs ≡ []) → ((k : ℕ) → is_live role ((x ++ Received f ∷ []) ++ map Sent fs) k ≡ is_live role (x ++ Received f ∷ []) k) → HasCredit holds role limits ((x ++ Received f ∷ []) ++ map Sent fs)
credit_again true role limits x f fs h no_headers g none same =
    subst (λ (gs : List Frame). IsWithinCredit role limits ((x ++ Received f ∷ []) ++ map Sent gs)) (sym (none refl))
    (subst (IsWithinCredit role limits) (sym (append-nil (x ++ Received f ∷ []))) (within_again role limits x f h no_headers))
credit_again false role limits x f fs h no_headers g none same = credited_again role limits x f fs h no_headers (g refl) same

-- a frame that counts nothing changes no credit
pub credit_stays : (holds : Bool) (role : Role) (limits : H2Limits) (x : List Step) (f : Frame) → HasCredit holds role limits x → is_headers f ≡ false → counted f ≡ 0 → HasCredit holds role limits (x ++ Received f ∷ [])
credit_stays true role limits x f h no_headers none = within_again role limits x f h no_headers
credit_stays false role limits x f h no_headers none = record {
  whole = omega (arith, h.whole, granted_behind x f 0, spent_behind x f, none);
  streams = λ k live.
      granted_behind x f k ∙ h.streams k (live_back role x f k no_headers live)
      ∙ sym (spent_on_behind x f k ∙ ap (λ (n : ℕ). spent_on k (received x) + (if stream_of f == k then n else 0)) none ∙ plus_none (stream_of f == k) (spent_on k (received x)));
}
  where
    plus_none : (b : Bool) (m : ℕ) → m + (if b then 0 else 0) ≡ m
    plus_none true m = omega arith
    plus_none false m = omega arith

pub no_credit : (role : Role) (x : List Step) (f : Frame) (holds : Bool) → counted f ≡ 0 → (if holds then [] else credit_text role x (stream_of f) (counted f)) ≡ []
no_credit role x f true none = refl
no_credit role x f false none = ap (credit_text role x (stream_of f)) none

-- ---- the parts of it

module _ (s : State) (c : ConnectionTrace) (f : Frame) (w : Waiting s c f) (p : IsLoose f) (sound : frame_error c.role c.frames f ≡ None) where
  abbrev pub heads : List Outcome
  heads = c.heads ++ []

  pub opened : open_block (received c.frames) ≡ None
  opened = outside c.role c.frames f p sound

  pub error_is : stream_error c.role c.limits heads c.frames f ≡ stream_error_of c.role c.limits c.frames f false
  error_is = ap (λ (o : Option Block). stream_error_of c.role c.limits c.frames f (is_malformed c.role c.frames f (outcome_for heads (received c.frames) o))) (none_completed c.role c.limits heads c.frames f p sound opened)

  pub decodes : Decodes s.decoder (blocks (received c.frames ++ f ∷ [])) heads
  decodes =
      subst (λ (bs : List Block). Decodes s.decoder bs heads) (sym (blocks_stay c.role c.limits heads c.frames f p sound opened))
      (subst (λ (hs : List Outcome). Decodes s.decoder (blocks (received c.frames)) hs) (sym (append-nil c.heads)) (before s c f [] w).decodes)

  pub block_is : s.block ≡ open_block (received c.frames ++ f ∷ [])
  block_is = (before s c f [] w).block_is ∙ opened ∙ sym (still_closed c.role c.limits heads c.frames f p sound opened)

  pub goes : frame_stop c.role c.limits heads c.frames f ≡ None
  goes = frame_goes c.role c.limits heads c.frames f p sound opened
