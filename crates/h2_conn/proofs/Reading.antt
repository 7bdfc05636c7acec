-- What a connection reads.
use Rattle.std.proofs.Common.{◌≡◌, ℕ, true, false, inl, inr, List, [], ◌∷◌, ◌++◌, Option, None, refl, sym, ap, subst, ◌∙◌}
use Rattle.std.proofs.lemmas.List.{append-nil}
use Rattle.h2_frames.specs.declared.code.ErrorCode.{ErrorCode}
use Rattle.h2_frames.specs.declared.frame.Frame.{Frame}
use Rattle.h2_frames.specs.Reader.{Reader}
use Rattle.h2_frames.specs.Stream as bytes
use Rattle.h2_frames.specs.Stream.{HasAnother, Frames}
use Rattle.h2_exchange.specs.declared.limits.CalmCause.TheVariants.{Resets}
use Rattle.h2_exchange.specs.declared.role.Role.{Role}
use Rattle.h2_exchange.specs.declared.role.Role.TheVariants.{Client, Server}
use Rattle.h2_exchange.specs.Content.{Outcome}
use Rattle.h2_exchange.specs.Events.{Event}
use Rattle.h2_exchange.specs.Exchange.{Step, received}
use Rattle.h2_exchange.specs.Order.{peer_preface}
use Rattle.h2_exchange.specs.Sending.{last_begun}
use Rattle.h2_exchange.specs.Stops.{Stop, Error, Calm, stop_of}
use Rattle.h2_exchange.specs.Streams.{of_client, highest}
use Rattle.http_connection.specs.Answers.{GivesEvents, IsCause, ends}
use Rattle.http_connection.specs.ConnectionTrace.{ConnectionTrace}
use Rattle.h2_conn.specs.declared.heard.End.TheVariants as by
use Rattle.h2_conn.specs.declared.heard.Heard.{Heard}
use Rattle.h2_conn.specs.declared.heard.Took.{Took}
use Rattle.h2_conn.specs.declared.heard.Took.TheVariants as take
use Rattle.h2_conn.specs.Hears.{TookSo, HeardSo, Ends, Ending, Idle, Starved, last_in, last_by}
use Rattle.h2_conn.specs.State.{State}
use Rattle.h2_conn.specs.Standing.{Going, Stands, ends_of}
use Rattle.h2_conn.specs.Steps.{Halted, Waiting}
use Rattle.h2_conn.specs.Watching.{stop_by}

pub heard_by : (c : ConnectionTrace) (f : Frame) (took : Took) (heard : Heard) (s : State) → Ends took f heard → TookSo c f took s → HeardSo c heard s
heard_by c f take.Quiet heard s e h = subst (λ (x : Heard). HeardSo c x s) (sym e) h
heard_by c f (take.Data id) heard s e h = subst (λ (x : Heard). HeardSo c x s) (sym e) h
heard_by c f (take.Head id fields last) heard s e h = subst (λ (x : Heard). HeardSo c x s) (sym e) h
heard_by c f (take.Ended id) heard s e h = subst (λ (x : Heard). HeardSo c x s) (sym e) h
heard_by c f (take.Reset id why) heard s e h = subst (λ (x : Heard). HeardSo c x s) (sym e) h
heard_by c f (take.GoneAway id why) heard s e h = subst (λ (x : Heard). HeardSo c x s) (sym e) h
heard_by c f (take.Stopped end last) heard s e h = subst (λ (x : Heard). HeardSo c x s) (sym e) h
heard_by c f take.NoMemory heard s e h = subst (λ (x : Heard). HeardSo c x s) (sym e) h

-- nothing was taken
pub stays : (c : ConnectionTrace) → c.refusal ≡ None → GivesEvents c [] c
stays c alive = record {
  alive = alive;
  more = [];
  outcomes = [];
  receives = ends c.frames;
  goes_on =
      ap (λ (r : Option _). record c { refusal = r }) alive
      ∙ ap (λ (x : List Step). record c { frames = x; refusal = None }) (sym (append-nil c.frames))
      ∙ ap (λ (hs : List Outcome). record c { frames = c.frames ++ []; heads = hs; refusal = None }) (sym (append-nil c.heads))
      ∙ ap (λ (gs : List Event). record c { frames = c.frames ++ []; heads = c.heads ++ []; given = gs; refusal = None }) (sym (append-nil c.given));
}

last_of : (role : Role) (x : List Step) (greatest : ℕ) → greatest ≡ highest (of_client role x) → last_begun role x ≡ last_by role greatest
last_of Client x greatest e = refl
last_of Server x greatest e = sym e

module _ (s : State) (c : ConnectionTrace) (h : Stands s c) (alive : s.refusal ≡ None) (none : s.ended ≡ None) where
  pub a : Going s c [] []
  a = subst (λ (o : Option ℕ). Going s c (ends_of o) []) none (h.goes alive)

  pub unrefused : c.refusal ≡ None
  unrefused = h.refusal_is ∙ alive

  pub last_is : last_begun c.role c.frames ≡ last_in s
  last_is =
      last_of c.role c.frames s.set.highest (a.set_is.highest_is ∙ ap (λ (r : Role). highest (of_client r c.frames)) a.set_role) ∙ ap (λ (r : Role). last_by r s.set.highest) h.role_is

  halted : (reader : Reader) (stop : Stop) → IsCause c stop → Halted (record s { reader = reader }) (last_in s) stop c
  halted reader stop cause = record {
    role_is = h.role_is;
    limits_are = h.limits_are;
    holding_is = h.holding_is;
    enc = h.last;
    kept = h.kept;
    resets = h.resets;
    stays = a.stays;
    given = sym (a.given_is ∙ append-nil c.given);
    cause = cause;
    last_is = a.last_is ∙ last_is;
  }

  -- more requests were cut off than may be
  pub passed : s.watch.is_passed ≡ true → Halted s (last_in s) (Calm Resets) c
  passed p = halted s.reader (Calm Resets) (a.stop_is ∙ ap stop_by p)

  -- what is held can't become a frame
  pub refused : (new : Reader) (why : ErrorCode) (place : ℕ) → s.watch.is_passed ≡ false → bytes.IsBroken (peer_preface c.role) c.fed (received c.frames) why place → Ending (record s { reader = new }) c (by.Broken why place) (last_in s)
  refused new why place p broken = record { at = c; goes = stays c unrefused; halted = halted new (Error why place) (cause broken) }
    where
      clear : stop_of c.role c.limits c.heads c.frames ≡ None
      clear = a.stop_is ∙ ap stop_by p

      cause : bytes.IsBroken (peer_preface c.role) c.fed (received c.frames) why place → IsCause c (Error why place)
      cause (inl b) = (c.fed, inr (clear, inl (b.0, b.2, b.3)), λ e. inr (b.0, b.1, refl))
      cause (inr b) = (b.0, inr (clear, inr (b.1, b.3, b.4, b.5)), λ e. inl (b.1, b.2, inr b.3))

  pub idle : (new : Reader) → new ≡ s.reader → s.watch.is_passed ≡ false → (rest : List ℕ) × Frames (peer_preface c.role) c.fed (received c.frames) rest → Idle (record s { reader = new }) c
  idle new e p r = record { stands = subst (λ (x : Reader). Stands (record s { reader = x }) c) (sym e) h; rest = r.0; whole = r.1; unpassed = p }

  pub starved : (new : Reader) → HasAnother (peer_preface c.role) c.fed (received c.frames) → Starved (record s { reader = new }) c
  starved new work = record { alive = unrefused; role_is = h.role_is; limits_are = h.limits_are; holding_is = h.holding_is; enc = h.last; kept = h.kept; resets = h.resets; work = inl work }

  pub waiting : (new : Reader) (f : Frame) → s.watch.is_passed ≡ false → new.refusal ≡ None → bytes.Stands (peer_preface c.role) new c.fed (received c.frames ++ f ∷ []) → Waiting (record s { reader = new }) c f
  waiting new f p goes reads = record { before = s.reader; stands = h; alive = alive; none_ended = none; unpassed = p; reader_goes = goes; reads = reads }

-- the peer's last stream, where a frame waits to be taken
pub last_waiting : (s : State) (c : ConnectionTrace) (f : Frame) → Waiting s c f → last_begun c.role c.frames ≡ last_in s
last_waiting s c f w = last_is (record s { reader = w.before }) c w.stands w.alive w.none_ended
