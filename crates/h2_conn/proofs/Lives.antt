-- A connection that has not refused, and sends one more frame of no header block.
use Rattle.std.proofs.Common.{◌≡◌, ℕ, ◌+◌, Bool, true, false, ◌||◌, ◌&&◌, List, [], ◌∷◌, ◌++◌, Option, Some, None, refl, sym, ap, subst, ◌∙◌, arith}
use Rattle.std.specs.Prelude.{not, is_some, ◌==◌, if◌then◌else◌}
use Rattle.std.specs.List.{list_any}
use Rattle.std.proofs.lemmas.List.{append-nil}
use Rattle.std.proofs.lemmas.List.Folds.{list_any-append}
use Rattle.h2_frames.specs.declared.frame.Frame.{Frame}
use Rattle.h2_frames.specs.Stream as bytes
use Rattle.h2_frames.specs.Stream.{place_after}
use Rattle.h2_exchange.specs.declared.limits.H2Limits.{H2Limits}
use Rattle.h2_exchange.specs.declared.role.Role.{Role}
use Rattle.h2_exchange.specs.declared.role.Role.TheVariants.{Client, Server}
use Rattle.h2_exchange.specs.Blocks.{blocks, open_block}
use Rattle.h2_exchange.specs.Content.{Outcome}
use Rattle.h2_exchange.specs.Events.{Event, events_of}
use Rattle.h2_exchange.specs.Exchange.{Step, Sent, received, sent, collect}
use Rattle.h2_exchange.specs.Frames.{stream_of, is_goaway, is_window_update, increment_of}
use Rattle.h2_exchange.specs.Order.{peer_preface}
use Rattle.h2_exchange.specs.Sending.{acks_in, acks_for, last_begun}
use Rattle.h2_exchange.specs.Stops.{Stop, stop_at, stop_of, before_stop, events}
use Rattle.h2_exchange.specs.Streams.{begins, is_begun, is_over, is_live, highest}
use Rattle.h2_exchange.specs.Windows.{granted_on, spent_on, spent}
use Rattle.h2_exchange.proofs.Looking.{front_stays, front_goes_on, front_whole}
use Rattle.h2_exchange.proofs.Staying.{events_stopped, events_more}
use Rattle.h2_exchange.proofs.Steps.{received_sent, sent_push, begun_push, over_stays, window_sums_grow}
use Rattle.h2_streams.specs.Set.{Set}
use Rattle.h2_streams.specs.Stands as streams
use Rattle.http_connection.specs.ConnectionTrace.{ConnectionTrace}
use Rattle.h2_conn.specs.State.{State}
use Rattle.h2_conn.specs.Standing.{Going, Decodes, HasCredit}
use Rattle.h2_conn.specs.Watching.{Watch, IsWatched, stop_by}
use Rattle.h2_conn.proofs.Sounds.{one_more}

-- ---- events and the last stream

module _ (role : Role) (limits : H2Limits) (heads : List Outcome) where
  nothing_of : (past : List Step) (f : Frame) (b : Bool) → collect (events_of role limits heads) past (if b then [] else Sent f ∷ []) ≡ []
  nothing_of past f true = refl
  nothing_of past f false = refl

  events_by : (x : List Step) (f : Frame) (o : Option Stop) → stop_of role limits heads x ≡ o → events role limits heads (x ++ Sent f ∷ []) ≡ events role limits heads x
  events_by x f None e =
      events_more role limits heads x (Sent f ∷ []) e
      ∙ ap (λ (es : List Event). events role limits heads x ++ es) (nothing_of x f (is_some (stop_at role limits heads x (Sent f)))) ∙ append-nil (events role limits heads x)
  events_by x f (Some stop) e = events_stopped role limits heads x (Sent f ∷ []) stop e

  pub events_sent : (x : List Step) (f : Frame) → events role limits heads (x ++ Sent f ∷ []) ≡ events role limits heads x
  events_sent x f = events_by x f (stop_of role limits heads x) refl

  received_if : (x : List Step) (f : Frame) (b : Bool) → received (x ++ (if b then [] else Sent f ∷ [])) ≡ received x
  received_if x f true = ap received (append-nil x)
  received_if x f false = received_sent x f

  going_by : (x : List Step) (f : Frame) (o : Option Stop) → stop_of role limits heads x ≡ o → received (before_stop role limits heads (x ++ Sent f ∷ [])) ≡ received (before_stop role limits heads x)
  going_by x f None e =
      ap received (front_goes_on (stop_at role limits heads) [] x (Sent f ∷ []) e) ∙ received_if x f (is_some (stop_at role limits heads x (Sent f)))
      ∙ sym (ap received (front_whole (stop_at role limits heads) [] x e))
  going_by x f (Some stop) e = ap received (front_stays (stop_at role limits heads) [] x (Sent f ∷ []) stop e)

  pub going_sent : (x : List Step) (f : Frame) → received (before_stop role limits heads (x ++ Sent f ∷ [])) ≡ received (before_stop role limits heads x)
  going_sent x f = going_by x f (stop_of role limits heads x) refl

pub last_by : (role : Role) (x y : List Step) → received x ≡ received y → last_begun role x ≡ last_begun role y
last_by Server x y e = ap highest e
last_by Client x y e = refl

-- ---- credit

live_or : (b n o p : Bool) → n ≡ false → (o ≡ true → p ≡ true) → ((b || n) && not p) ≡ true → (b && not o) ≡ true
live_or true n true p e stays h = let q : p ≡ true = stays refl in absurd cc
live_or true n false p e stays h = refl
live_or false true o p e stays h = absurd cc
live_or false false o p e stays h = absurd cc

pub live_back : (role : Role) (x : List Step) (f : Frame) (id : ℕ) → begins role id x (Sent f) ≡ false → is_live role (x ++ Sent f ∷ []) id ≡ true → is_live role x id ≡ true
live_back role x f id none live =
    live_or (is_begun role x id) (begins role id x (Sent f)) (is_over x id) (is_over (x ++ Sent f ∷ []) id) none (over_stays x (Sent f ∷ []) id)
    (sym (ap (λ (b : Bool). b && not (is_over (x ++ Sent f ∷ []) id)) (begun_push role x (Sent f) id)) ∙ live)

if_not : (a b : Bool) (n m : ℕ) → a ≡ false → n + (if a && b then m else 0) ≡ n
if_not true b n m e = absurd cc
if_not false b n m e = omega arith

pub grants_none : (x : List Step) (f : Frame) (id : ℕ) → is_window_update f ≡ false → granted_on id (sent (x ++ Sent f ∷ [])) ≡ granted_on id (sent x)
grants_none x f id e =
    ap (granted_on id) (sent_push x f) ∙ window_sums_grow.granted_push id (sent x) f ∙ if_not (is_window_update f) (stream_of f == id) (granted_on id (sent x)) (increment_of f) e

pub credited_push : (holds : Bool) (role : Role) (limits : H2Limits) (x : List Step) (f : Frame) → is_window_update f ≡ false → ((id : ℕ) → begins role id x (Sent f) ≡ false) → HasCredit holds role limits x → HasCredit holds role limits (x ++ Sent f ∷ [])
credited_push true role limits x f e none h = record {
  whole = omega (arith, h.whole, grants_none x f 0 e, ap spent (received_sent x f));
  streams = λ id live. omega (arith, h.streams id (live_back role x f id (none id) live), grants_none x f id e, ap (spent_on id) (received_sent x f));
}
credited_push false role limits x f e none h = record {
  whole = ap (λ (n : ℕ). 65535 + n) (grants_none x f 0 e) ∙ h.whole ∙ ap (λ (fs : List Frame). limits.window + spent fs) (sym (received_sent x f));
  streams = λ id live. grants_none x f id e ∙ h.streams id (live_back role x f id (none id) live) ∙ ap (spent_on id) (sym (received_sent x f));
}

-- ---- all of it

pub going_push : (s : State) (c : ConnectionTrace) (f : Frame) (text : List ℕ) (set : Set) (watch : Watch) (es : List Event) (owed_credit left : List (List ℕ)) → Going s c es owed_credit →
    streams.StandsFor set (c.frames ++ Sent f ∷ []) → set.role ≡ c.role → set.limits ≡ c.limits → acks_in (sent (c.frames ++ Sent f ∷ [])) ++ left ≡ acks_in (sent c.frames) ++ owed_credit → is_goaway f ≡ false →
    IsWatched c.role c.limits c.heads (c.frames ++ Sent f ∷ []) watch → stop_of c.role c.limits c.heads (c.frames ++ Sent f ∷ []) ≡ stop_by watch.is_passed →
    Going (record s { output = s.output ++ text; set = set; watch = watch }) (one_more f c) es left
going_push s c f text set watch es owed_credit left h stands set_role set_limits acks away watched stop = record {
  reader_goes = h.reader_goes;
  reads = subst (λ (fs : List Frame). bytes.Stands (peer_preface c.role) s.reader c.fed fs) (sym (received_sent c.frames f)) h.reads;
  place_is = h.place_is ∙ ap (place_after (peer_preface c.role)) (sym (received_sent c.frames f));
  set_is = stands;
  set_role = set_role;
  set_limits = set_limits;
  decodes = subst (λ (fs : List Frame). Decodes s.decoder (blocks fs) c.heads) (sym (received_sent c.frames f)) h.decodes;
  block_is = h.block_is ∙ ap open_block (sym (received_sent c.frames f));
  given_is = events_sent c.role c.limits c.heads c.frames f ∙ h.given_is;
  acknowledged = acks ∙ h.acknowledged ∙ ap acks_for (sym (received_sent c.frames f));
  stays = ap (list_any is_goaway) (sent_push c.frames f) ∙ list_any-append is_goaway (sent c.frames) (f ∷ []) ∙ both (list_any is_goaway (sent c.frames)) (is_goaway f) h.stays away;
  watched = watched;
  stop_is = stop;
  last_is =
      last_by c.role (before_stop c.role c.limits c.heads (c.frames ++ Sent f ∷ [])) (before_stop c.role c.limits c.heads c.frames) (going_sent c.role c.limits c.heads c.frames f)
      ∙ h.last_is ∙ last_by c.role c.frames (c.frames ++ Sent f ∷ []) (sym (received_sent c.frames f));
}
  where
    both : (a b : Bool) → a ≡ false → b ≡ false → (a || (b || false)) ≡ false
    both true b p q = absurd cc
    both false true p q = absurd cc
    both false false p q = refl
