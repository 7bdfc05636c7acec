-- A set stands for its exchange behind a sent frame that changes nothing.
use Rattle.std.proofs.Common.{◌≡◌, inl, inr, ℕ, ◌+◌, Bool, true, false, not, ◌&&◌, List, [], ◌∷◌, ◌++◌, map, Option, Some, None, refl, sym, ap, ◌∙◌, arith, subst}
use Rattle.std.specs.Prelude.{filter, option_map, length, ◌==◌, if◌then◌else◌}
use Rattle.h2_frames.specs.declared.frame.Frame.{Frame}
use Rattle.h2_frames.specs.declared.frame.Frame.TheVariants.{Settings, Ping, GoAway}
use Rattle.h2_frames.specs.declared.frame.FrameBody.{FrameBody}
use Rattle.h2_exchange.specs.Blocks.{Block, block_with, open_block}
use Rattle.h2_exchange.specs.Exchange.{Step, Sent, received, sent}
use Rattle.h2_exchange.specs.Frames.{stream_of, is_window_update, increment_of, counted}
use Rattle.h2_exchange.specs.Streams.{of_client, highest, begun, is_begun, is_live, is_reset, is_ended_by}
use Rattle.h2_exchange.specs.Windows.{initial_window, granted_on, spent_on, spent}
use Rattle.h2_exchange.proofs.Steps.{received_sent, sent_push, window_sums_grow}
use Rattle.h2_streams.specs.declared.live.Stream.{Stream}
use Rattle.h2_streams.specs.Laws.{ControlFramesChangeNothing}
use Rattle.h2_streams.specs.Set.{Set}
use Rattle.h2_streams.specs.Stands.{stream_at, StandsFor, is_on}
use Rattle.h2_streams.proofs.SentFrames.{or_false, plus_if_zero, nothing_new, begun_same, highest_same, stream_sent, reset_sent, live_by}

same_cell : {A B : Type 0} (t : Bool) (g h : A → B) (x : A) (xs ys : List A) → h x ≡ g x → map h xs ≡ map g ys → map h (if t then x ∷ xs else xs) ≡ map g (if t then x ∷ ys else ys)
same_cell {A} {B} true g h x xs ys e f = ap (λ (b : B). b ∷ map h xs) e ∙ ap (λ (l : List B). g x ∷ l) f
same_cell false g h x xs ys e f = f

same_lists : {A B : Type 0} (p q : A → Bool) (g h : A → B) (xs : List A) → ((a : A) → q a ≡ p a) → ((a : A) → h a ≡ g a) → map h (filter q xs) ≡ map g (filter p xs)
same_lists p q g h [] e f = refl
same_lists p q g h (x ∷ xs) e f = ap (λ (t : Bool). map h (if t then x ∷ filter q xs else filter q xs)) (e x) ∙ same_cell (p x) g h x (filter q xs) (filter p xs) (f x) (same_lists p q g h xs e f)

module _ (s : Set) (x : List Step) (f : Frame) (stands : StandsFor s x) where
  abbrev pub after : List Step
  after = x ++ Sent f ∷ []

  -- what does not change
  pub record Stays : Type 0 where
    pub streams : (id : ℕ) → stream_at s.limits after id ≡ stream_at s.limits x id
    pub resets : (id : ℕ) → is_reset after id ≡ is_reset x id
    pub begun_one : (id : ℕ) → is_begun s.role after id ≡ is_begun s.role x id
    pub begun_all : begun s.role after ≡ begun s.role x
    pub greatest : highest (of_client s.role after) ≡ highest (of_client s.role x)
    pub update : is_window_update f ≡ false
    pub empty : counted f ≡ 0

  pub stays_standing : Stays → StandsFor s after
  stays_standing t =
      record {
        live_is = stands.live_is ∙ sym (ap (λ (ids : List ℕ). map (stream_at s.limits after) (filter (is_live s.role after) ids)) t.begun_all ∙ same_lists (is_live s.role x) (is_live s.role after) (stream_at s.limits x) (stream_at s.limits after) (begun s.role x) live_same t.streams);
        highest_is = stands.highest_is ∙ sym t.greatest;
        started_is = stands.started_is ∙ ap (λ (fs : List Frame). not (length fs == 0)) (sym rs);
        block_is = stands.block_is ∙ ap (λ (fs : List Frame). option_map (λ (c : Block). (c.stream, c.last)) (open_block fs)) (sym rs);
        initial_is = stands.initial_is ∙ ap initial_window (sym rs);
        send_is = omega (arith, stands.send_is, ap spent ss, window_sums_grow.spent_push (sent x) f, t.empty, ap (granted_on 0) rs);
        receive_is = omega (arith, stands.receive_is, ap (granted_on 0) ss, window_sums_grow.granted_push 0 (sent x) f, no_update 0, ap spent rs);
        initial_small = stands.initial_small;
        covered = λ id e. omega (arith, stands.covered id (sym (live_same id) ∙ e), ap (spent_on id) ss, window_sums_grow.spent_on_push id (sent x) f, no_data id, ap (granted_on id) rs);
        within = λ id e. omega (arith, stands.within id (sym (live_same id) ∙ e), ap (spent_on id) rs, ap (granted_on id) ss, window_sums_grow.granted_push id (sent x) f);
        untouched = λ id lt e. record { as_new = t.streams id ∙ (stands.untouched id lt e).as_new; no_reset = t.resets id ∙ (stands.untouched id lt e).no_reset; no_block = ap (λ (fs : List Frame). is_on id (open_block fs)) rs ∙ (stands.untouched id lt e).no_block };
      }
    where
      rs : received after ≡ received x
      rs = received_sent x f

      ss : sent after ≡ sent x ++ f ∷ []
      ss = sent_push x f

      live_same : (id : ℕ) → is_live s.role after id ≡ is_live s.role x id
      live_same id = live_by s.role x after id (is_begun s.role x id) (is_reset x id) (is_ended_by (received x) id) (is_ended_by (sent x) id) (t.begun_one id) (t.resets id) (ap (λ (z : Stream). z.is_closed_remote) (t.streams id)) (ap (λ (z : Stream). z.is_closed_local) (t.streams id))

      unless : (a b : Bool) (n : ℕ) → a ≡ false → ◌≡◌ {A = ℕ} (if a && b then n else 0) 0
      unless true b n e = absurd cc
      unless false b n e = refl

      no_update : (id : ℕ) → ◌≡◌ {A = ℕ} (if is_window_update f && stream_of f == id then increment_of f else 0) 0
      no_update id = unless (is_window_update f) (stream_of f == id) (increment_of f) t.update

      when_zero : (b : Bool) (n : ℕ) → n ≡ 0 → ◌≡◌ {A = ℕ} (if b then n else 0) 0
      when_zero true n e = e
      when_zero false n e = refl

      no_data : (id : ℕ) → ◌≡◌ {A = ℕ} (if stream_of f == id then counted f else 0) 0
      no_data id = when_zero (stream_of f == id) (counted f) t.empty

-- ---- SETTINGS, PING and GOAWAY

settings_no_block : (o : Option Block) (b : FrameBody) → block_with o (Settings b) ≡ None
settings_no_block None b = refl
settings_no_block (Some block) b = refl

ping_no_block : (o : Option Block) (b : FrameBody) → block_with o (Ping b) ≡ None
ping_no_block None b = refl
ping_no_block (Some block) b = refl

goaway_no_block : (o : Option Block) (b : FrameBody) → block_with o (GoAway b) ≡ None
goaway_no_block None b = refl
goaway_no_block (Some block) b = refl

zero_more : (n : ℕ) → n + 0 ≡ n
zero_more n = omega arith

settings_stay : (s : Set) (x : List Step) (b : FrameBody) (h : StandsFor s x) → Stays s x (Settings b) h
settings_stay s x b h = record {
  streams = λ id. stream_sent s.limits x (Settings b) id (is_ended_by (sent x) id) (spent_on id (sent x)) (granted_on id (sent x)) (settings_no_block (open_block (sent x)) b) (or_false (is_ended_by (sent x) id) false refl) (plus_if_zero (spent_on id (sent x)) (b.stream == id)) (zero_more (granted_on id (sent x)));
  resets = λ id. reset_sent x (Settings b) id ∙ or_false (is_reset x id) false refl;
  begun_one = λ id. begun_same s.role x (Settings b) id refl;
  begun_all = nothing_new s.role x (Settings b) refl;
  greatest = highest_same s.role x (Settings b) refl;
  update = refl;
  empty = refl;
}

ping_stays : (s : Set) (x : List Step) (b : FrameBody) (h : StandsFor s x) → Stays s x (Ping b) h
ping_stays s x b h = record {
  streams = λ id. stream_sent s.limits x (Ping b) id (is_ended_by (sent x) id) (spent_on id (sent x)) (granted_on id (sent x)) (ping_no_block (open_block (sent x)) b) (or_false (is_ended_by (sent x) id) false refl) (plus_if_zero (spent_on id (sent x)) (b.stream == id)) (zero_more (granted_on id (sent x)));
  resets = λ id. reset_sent x (Ping b) id ∙ or_false (is_reset x id) false refl;
  begun_one = λ id. begun_same s.role x (Ping b) id refl;
  begun_all = nothing_new s.role x (Ping b) refl;
  greatest = highest_same s.role x (Ping b) refl;
  update = refl;
  empty = refl;
}

goaway_stays : (s : Set) (x : List Step) (b : FrameBody) (h : StandsFor s x) → Stays s x (GoAway b) h
goaway_stays s x b h = record {
  streams = λ id. stream_sent s.limits x (GoAway b) id (is_ended_by (sent x) id) (spent_on id (sent x)) (granted_on id (sent x)) (goaway_no_block (open_block (sent x)) b) (or_false (is_ended_by (sent x) id) false refl) (plus_if_zero (spent_on id (sent x)) (b.stream == id)) (zero_more (granted_on id (sent x)));
  resets = λ id. reset_sent x (GoAway b) id ∙ or_false (is_reset x id) false refl;
  begun_one = λ id. begun_same s.role x (GoAway b) id refl;
  begun_all = nothing_new s.role x (GoAway b) refl;
  greatest = highest_same s.role x (GoAway b) refl;
  update = refl;
  empty = refl;
}

pub control_frames_change_nothing : ControlFramesChangeNothing
control_frames_change_nothing s x b f (inl e) h = subst (λ (g : Frame). StandsFor s (x ++ Sent g ∷ [])) (sym e) (stays_standing s x (Settings b) h (settings_stay s x b h))
control_frames_change_nothing s x b f (inr (inl e)) h = subst (λ (g : Frame). StandsFor s (x ++ Sent g ∷ [])) (sym e) (stays_standing s x (Ping b) h (ping_stays s x b h))
control_frames_change_nothing s x b f (inr (inr e)) h = subst (λ (g : Frame). StandsFor s (x ++ Sent g ∷ [])) (sym e) (stays_standing s x (GoAway b) h (goaway_stays s x b h))
