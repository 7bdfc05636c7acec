-- What a frame that stops nothing leaves, the streams apart, and what is taken with it.
use Rattle.std.proofs.Common.{◌≡◌, ℕ, ◌+◌, true, false, List, [], ◌∷◌, ◌++◌, map, Option, None, refl, sym, ap, subst, ◌∙◌}
use Rattle.std.proofs.lemmas.List.{append-nil}
use Rattle.h2_frames.specs.declared.frame.Frame.{Frame}
use Rattle.h2_frames.specs.declared.frame.Frame.TheVariants as kind
use Rattle.h2_frames.specs.Layout.{size_of}
use Rattle.h2_frames.specs.Stream.{place_at}
use Rattle.hpack_tables.specs.Decoder.{Decoder}
use Rattle.hpack_tables.specs.Writing.{Encoder}
use Rattle.h2_exchange.specs.Blocks.{Block, blocks, open_block}
use Rattle.h2_exchange.specs.Compression.{limited_by}
use Rattle.h2_exchange.specs.Content.{Outcome}
use Rattle.h2_exchange.specs.Events.{Event, events_of}
use Rattle.h2_exchange.specs.Exchange.{Step, Received, Sent, received}
use Rattle.h2_exchange.specs.Frames.{is_ping, is_settings}
use Rattle.h2_exchange.specs.Order.{peer_preface}
use Rattle.h2_exchange.specs.Sending.{ack_for, ResetsErrors}
use Rattle.h2_exchange.specs.Stops.{stop_at, stop_of}
use Rattle.h2_exchange.proofs.Staying.{none_more}
use Rattle.http_connection.specs.Answers.{AreReply, after}
use Rattle.http_connection.specs.Answers as answer
use Rattle.http_connection.specs.ConnectionTrace.{ConnectionTrace}
use Rattle.h2_conn.specs.Hears.{Taken}
use Rattle.h2_conn.specs.State.{State}
use Rattle.h2_conn.specs.Standing.{Decodes, Going, HasCredit, Kept, Stands, ends_of}
use Rattle.h2_conn.specs.Steps.{Waiting}
use Rattle.h2_conn.specs.Watching.{Watch, IsWatched, stop_by}
use Rattle.h2_conn.proofs.Closing.{closes, told}
use Rattle.h2_conn.proofs.Controls.{place_push}
use Rattle.h2_conn.proofs.Further.{stop_known, watched_known}
use Rattle.h2_conn.proofs.Hearing.{heard, acks_of, known_by, hears_kept}
use Rattle.h2_conn.proofs.Midway.{Mid, mid_of, mid_heard}

-- ---- frames that want no acknowledgement

-- neither SETTINGS nor PING
pub record IsQuiet (f : Frame) : Type 0 where
  pub no_ack : ack_for f ≡ None
  pub no_acks : acks_of f ≡ []
  pub same_limit : (e : Encoder) → limited_by f e ≡ e

pub quiet_is : (f : Frame) → is_settings f ≡ false → is_ping f ≡ false → IsQuiet f
quiet_is (kind.Content b) p q = record { no_ack = refl; no_acks = refl; same_limit = λ e. refl }
quiet_is (kind.Headers b) p q = record { no_ack = refl; no_acks = refl; same_limit = λ e. refl }
quiet_is (kind.Priority b) p q = record { no_ack = refl; no_acks = refl; same_limit = λ e. refl }
quiet_is (kind.RstStream b) p q = record { no_ack = refl; no_acks = refl; same_limit = λ e. refl }
quiet_is (kind.Settings b) p q = absurd (let t : true ≡ false = p in cc)
quiet_is (kind.PushPromise b) p q = record { no_ack = refl; no_acks = refl; same_limit = λ e. refl }
quiet_is (kind.Ping b) p q = absurd (let t : true ≡ false = q in cc)
quiet_is (kind.GoAway b) p q = record { no_ack = refl; no_acks = refl; same_limit = λ e. refl }
quiet_is (kind.WindowUpdate b) p q = record { no_ack = refl; no_acks = refl; same_limit = λ e. refl }
quiet_is (kind.Continuation b) p q = record { no_ack = refl; no_acks = refl; same_limit = λ e. refl }
quiet_is (kind.Unknown other b) p q = record { no_ack = refl; no_acks = refl; same_limit = λ e. refl }

-- ---- behind the frame

module _ (s : State) (c : ConnectionTrace) (f : Frame) (outcomes : List Outcome) (w : Waiting s c f) where
  abbrev pub heads : List Outcome
  heads = c.heads ++ outcomes

  abbrev pub behind : List Step
  behind = c.frames ++ Received f ∷ []

  pub before : Going (record s { reader = w.before }) c [] []
  before = subst (λ (o : Option ℕ). Going (record s { reader = w.before }) c (ends_of o) []) w.none_ended (w.stands.goes w.alive)

  pub clear : stop_of c.role c.limits c.heads c.frames ≡ None
  clear = before.stop_is ∙ ap stop_by w.unpassed

  pub clear_known : stop_of c.role c.limits heads c.frames ≡ None
  clear_known = stop_known c.role c.limits c.heads outcomes c.frames (w.stands.kept.read.enough, clear)

  pub watched_before : IsWatched c.role c.limits heads c.frames s.watch
  watched_before = watched_known c.role c.limits c.heads outcomes c.frames s.watch (w.stands.kept.read.enough, clear) before.watched

  pub unrefused : c.refusal ≡ None
  unrefused = w.stands.refusal_is ∙ w.alive

  module _ (decoder : Decoder) (block : Option Block) (watch : Watch) (quiet : IsQuiet f) (decodes : Decodes decoder (blocks (received c.frames ++ f ∷ [])) heads) (block_is : block ≡ open_block (received c.frames ++ f ∷ []))
      (goes : stop_at c.role c.limits heads c.frames (Received f) ≡ None) (watched : IsWatched c.role c.limits heads behind watch) (passed : watch.is_passed ≡ false) where
    pub clear_behind : stop_of c.role c.limits heads behind ≡ None
    clear_behind = none_more c.role c.limits heads c.frames (Received f) clear_known goes

    pub mid : Mid (record s { place = place_at (s.place + size_of f); decoder = decoder; block = block; watch = watch }) (heard f outcomes c) (events_of c.role c.limits heads c.frames (Received f)) []
    mid =
        subst (λ (owed : List (List ℕ)). Mid (record s { place = place_at (s.place + size_of f); decoder = decoder; block = block; watch = watch }) (heard f outcomes c) (events_of c.role c.limits heads c.frames (Received f)) owed) quiet.no_acks
        (mid_heard (record s { reader = w.before }) c f outcomes s.reader (place_at (s.place + size_of f)) decoder block watch [] (mid_of (record s { reader = w.before }) c [] [] before) w.stands.kept.read.enough clear w.reader_goes w.reads
        (place_push (peer_preface c.role) (received c.frames) f s.place before.place_is) decodes block_is goes watched passed)

    pub kept : Kept (heard f outcomes c) s.output s.encoder
    kept =
        subst (λ (e : Encoder). Kept (heard f outcomes c) s.output e) (quiet.same_limit s.encoder)
        (subst (λ (e : Encoder). Kept (heard f outcomes c) s.output (limited_by f e)) (sym (w.stands.encoder_is w.alive))
        (hears_kept c s.output w.stands.last f outcomes s.reader w.stands.kept w.reads (known_by c.role c.limits heads behind decoder mid.decodes) (events_of c.role c.limits heads c.frames (Received f), mid.given_is)))

-- ---- what is taken

-- a frame was received, and these sent
abbrev pub answered : Frame → List Outcome → List Frame → ConnectionTrace → ConnectionTrace
answered f outcomes fs c = record c { frames = c.frames ++ (Received f ∷ map Sent fs); heads = c.heads ++ outcomes }

pub takes : (t : State) (c : ConnectionTrace) (f : Frame) (outcomes : List Outcome) (fs : List Frame) (es : List Event) → c.refusal ≡ None → c.role ≡ t.role → c.limits ≡ t.limits → t.refusal ≡ None → c.is_holding ≡ t.is_holding →
    Kept (answered f outcomes fs c) t.output t.encoder → Going t (answered f outcomes fs c) (es ++ ends_of t.ended) [] → ResetsErrors c.role c.limits (c.heads ++ outcomes) (c.frames ++ (Received f ∷ map Sent fs)) →
    HasCredit t.is_holding c.role c.limits (c.frames ++ (Received f ∷ map Sent fs)) → stop_of c.role c.limits (c.heads ++ outcomes) (c.frames ++ Received f ∷ []) ≡ None →
    AreReply c.role c.limits c.is_holding (c.heads ++ outcomes) c.frames f fs → Taken t c es
takes t c f outcomes fs es alive role limits unrefused holding kept going resets credited clear reply =
    let same : c.frames ++ (Received f ∷ map Sent fs) ≡ c.frames ++ (Received f ∷ (map Sent fs ++ [])) = ap (λ (l : List Step). c.frames ++ (Received f ∷ l)) (sym (append-nil (map Sent fs))) in
    record {
      next = after (Received f ∷ (map Sent fs ++ [])) outcomes es None c;
      stands = subst (λ (x : List Step). Stands t (record (told es (answered f outcomes fs c)) { frames = x })) same
          (closes t (answered f outcomes fs c) es role limits unrefused holding kept going resets credited);
      goes = record {
        alive = alive;
        more = Received f ∷ (map Sent fs ++ []);
        outcomes = outcomes;
        receives = answer.goes c.frames [] f fs clear reply (answer.ends (c.frames ++ (Received f ∷ map Sent fs)));
        goes_on = refl;
      };
    }
