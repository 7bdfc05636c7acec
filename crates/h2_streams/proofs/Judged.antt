-- What a set says of a received frame is what its exchange says.
use Rattle.std.proofs.Common.{◌≡◌, ℕ, ◌+◌, ◌-◌, ◌<◌, ◌≤◌, Bool, true, false, not, ◌&&◌, ◌||◌, List, [], ◌∷◌, map, Option, Some, None, refl, ap, ◌∙◌, arith}
use Rattle.std.specs.Prelude.{filter, option_map, length, nat_lt, ◌==◌, if◌then◌else◌}
use Rattle.std.specs.List.{list_any}
use Rattle.std.specs.Option.{option_or}
use Rattle.std.proofs.lemmas.Bool.Decides.{nat_tests}
use Rattle.h2_frames.specs.declared.code.ErrorCode.{ErrorCode}
use Rattle.h2_frames.specs.declared.code.TheConstants.ErrorCode as code
use Rattle.h2_frames.specs.declared.frame.Frame.{Frame}
use Rattle.h2_frames.specs.declared.frame.Frame.TheVariants.{Content, Headers, Priority, RstStream, Settings, PushPromise, Ping, GoAway, WindowUpdate, Continuation, Unknown}
use Rattle.h2_frames.specs.declared.frame.FrameBody.{FrameBody}
use Rattle.h2_exchange.specs.declared.limits.H2Limits.{H2Limits}
use Rattle.h2_exchange.specs.Blocks.{Block, open_block}
use Rattle.h2_exchange.specs.Exchange.{Step, received, sent, first_broken}
use Rattle.h2_exchange.specs.Frames.{stream_of, payload_of, payload_length, is_window_update, is_setting, increment_of, counted, is_data, is_priority}
use Rattle.h2_exchange.specs.Rules.{breaks_start, breaks_block_on, breaks_number, breaks_length, breaks_padding, shape_error, value_error, frame_error, exceeds_connection, overfills_connection, raises_stream, raises_streams}
use Rattle.h2_exchange.specs.Streams.{of_client, highest, begun, is_live, live}
use Rattle.h2_exchange.specs.Windows.{settings_of, granted_on, spent_on, spent, initial_window}
use Rattle.h2_streams.specs.Live.{is_raised, is_raising}
use Rattle.h2_streams.specs.Set.{Set}
use Rattle.h2_exchange.specs.StreamErrors.{live_error, overfills_stream}
use Rattle.h2_streams.specs.ConnectionErrors.{shape_error_in, window_error_in, frame_error_in, live_error_in}
use Rattle.h2_streams.specs.Stands.{stream_at, StandsFor}

-- ---- a WINDOW_UPDATE that no rule on its shape bars has four bytes

fifth : (a b c d e g : Bool) (p q : ErrorCode) → first_broken ((a, p) ∷ (b, p) ∷ (c, p) ∷ (d, p) ∷ (e, q) ∷ (g, p) ∷ []) ≡ None → e ≡ false
fifth true b c d e g p q h = absurd cc
fifth false true c d e g p q h = absurd cc
fifth false false true d e g p q h = absurd cc
fifth false false false true e g p q h = absurd cc
fifth false false false false true g p q h = absurd cc
fifth false false false false false g p q h = refl

four : (greatest : ℕ) (b : FrameBody) → breaks_length greatest (WindowUpdate b) ≡ false → length b.payload ≡ 4
four greatest b h = by (length b.payload == 4) refl
  where
    by : (t : Bool) → (length b.payload == 4) ≡ t → length b.payload ≡ 4
    by true e = grind (arith, nat_tests)
    by false e = absurd (clash (rw e at h))
      where
        clash : true ≡ false → ⊥
        clash z = cc

pub four_long : (s : Set) (f : Frame) → shape_error_in s f ≡ None → is_window_update f ≡ true → payload_length f ≡ 4
four_long s (WindowUpdate b) h e =
    four s.highest b (
    fifth (not s.is_started && not (is_setting (WindowUpdate b))) false (breaks_block_on (option_map (λ (p : ℕ × Bool). p.0) s.block) (WindowUpdate b)) (breaks_number s.role s.highest (WindowUpdate b))
    (breaks_length s.highest (WindowUpdate b)) (breaks_padding (WindowUpdate b)) code.PROTOCOL_ERROR code.FRAME_SIZE_ERROR h
    )
four_long s (Content b) h e = absurd cc
four_long s (Headers b) h e = absurd cc
four_long s (Priority b) h e = absurd cc
four_long s (RstStream b) h e = absurd cc
four_long s (Settings b) h e = absurd cc
four_long s (PushPromise b) h e = absurd cc
four_long s (Ping b) h e = absurd cc
four_long s (GoAway b) h e = absurd cc
four_long s (Continuation b) h e = absurd cc
four_long s (Unknown other b) h e = absurd cc

-- ---- shapes

twice : (t : Bool) → not (not t) ≡ t
twice true = refl
twice false = refl

pub streams_of : (o : Option Block) → option_map (λ (p : ℕ × Bool). p.0) (option_map (λ (b : Block). (b.stream, b.last)) o) ≡ option_map (λ (b : Block). b.stream) o
streams_of None = refl
streams_of (Some b) = refl

shape_says : (s : Set) (x : List Step) (f : Frame) → StandsFor s x → shape_error_in s f ≡ shape_error s.role (breaks_start x f) (option_map (λ (b : Block). b.stream) (open_block (received x))) (highest (of_client s.role x)) f
shape_says s x f h =
    ap (λ (t : Bool). shape_error s.role (t && not (is_setting f)) (option_map (λ (p : ℕ × Bool). p.0) s.block) s.highest f) (ap not h.started_is ∙ twice (length (received x) == 0))
    ∙ ap (λ (o : Option ℕ). shape_error s.role (breaks_start x f) o s.highest f) (ap (option_map (λ (p : ℕ × Bool). p.0)) h.block_is ∙ streams_of (open_block (received x)))
    ∙ ap (λ (n : ℕ). shape_error s.role (breaks_start x f) (option_map (λ (b : Block). b.stream) (open_block (received x))) n f) h.highest_is

-- ---- windows

exceeds : (receive used granted c : ℕ) → receive + used ≡ 65535 + granted → nat_lt receive c ≡ nat_lt (65535 + granted) (used + c)
exceeds receive used granted c e = grind (arith, nat_tests)

overfills : (send used granted inc : ℕ) → send + used ≡ 65535 + granted → nat_lt 2147483647 (send + inc) ≡ nat_lt (2147483647 + used) (65535 + granted + inc)
overfills send used granted inc e = grind (arith, nat_tests)

raised_same : (size used granted : ℕ) → used < 2147483648 + granted → nat_lt 4294967295 (size + (2147483648 + granted - used)) ≡ nat_lt (2147483647 + used) (size + granted)
raised_same size used granted lt = grind (arith, nat_tests)

pub any_same : {A : Type 0} (p q : A → Bool) (xs : List A) → ((a : A) → p a ≡ q a) → list_any p xs ≡ list_any q xs
any_same p q [] e = refl
any_same p q (x ∷ xs) e = ap (λ (t : Bool). t || list_any p xs) (e x) ∙ ap (λ (t : Bool). q x || t) (any_same p q xs e)

module _ (limits : H2Limits) (x : List Step) (size : ℕ) where
  any_live : (p : ℕ → Bool) (ids : List ℕ) → ((id : ℕ) → p id ≡ true → spent_on id (sent x) < 2147483648 + granted_on id (received x)) → list_any (is_raised size) (map (stream_at limits x) (filter p ids)) ≡ list_any (raises_stream x size) (filter p ids)
  any_live p [] covered = refl
  any_live p (id ∷ ids) covered = by (p id) refl (any_live p ids covered)
    where
      by : (t : Bool) → p id ≡ t → list_any (is_raised size) (map (stream_at limits x) (filter p ids)) ≡ list_any (raises_stream x size) (filter p ids) → list_any (is_raised size) (map (stream_at limits x) (if t then id ∷ filter p ids else filter p ids)) ≡ list_any (raises_stream x size) (if t then id ∷ filter p ids else filter p ids)
      by true e r =
          ap (λ (b : Bool). b || list_any (is_raised size) (map (stream_at limits x) (filter p ids))) (raised_same size (spent_on id (sent x)) (granted_on id (received x)) (covered id e))
          ∙ ap (λ (b : Bool). raises_stream x size id || b) r
      by false e r = r

raises_says : (s : Set) (x : List Step) (size : ℕ) → StandsFor s x → list_any (is_raised size) s.live ≡ list_any (raises_stream x size) (live s.role x)
raises_says s x size h = ap (list_any (is_raised size)) h.live_is ∙ any_live s.limits x size (is_live s.role x) (begun s.role x) h.covered

raising_says : (s : Set) (x : List Step) (f : Frame) → StandsFor s x → (is_setting f && list_any (is_raising s.live) (settings_of (payload_of f))) ≡ raises_streams s.role x f
raising_says s x f h =
    ap (λ (t : Bool). is_setting f && t) (
    any_same (is_raising s.live) (λ t. t.0 == 4 && list_any (raises_stream x t.1) (live s.role x)) (settings_of (payload_of f))
    (λ t. ap (λ (u : Bool). t.0 == 4 && u) (raises_says s x t.1 h))
    )

window_says : (s : Set) (x : List Step) (f : Frame) → StandsFor s x →
    window_error_in s f ≡ first_broken ((exceeds_connection x f, code.FLOW_CONTROL_ERROR) ∷ (overfills_connection x f, code.FLOW_CONTROL_ERROR) ∷ (raises_streams s.role x f, code.FLOW_CONTROL_ERROR) ∷ [])
window_says s x f h = same
    (nat_lt s.receive (counted f)) (exceeds_connection x f) (is_window_update f && stream_of f == 0 && nat_lt 2147483647 (s.send + increment_of f)) (overfills_connection x f)
    (is_setting f && list_any (is_raising s.live) (settings_of (payload_of f))) (raises_streams s.role x f)
    (exceeds s.receive (spent (received x)) (granted_on 0 (sent x)) (counted f) h.receive_is)
    (ap (λ (t : Bool). is_window_update f && stream_of f == 0 && t) (overfills s.send (spent (sent x)) (granted_on 0 (received x)) (increment_of f) h.send_is))
    (raising_says s x f h)
  where
    three : Bool → Bool → Bool → Option ErrorCode
    three a b c = first_broken ((a, code.FLOW_CONTROL_ERROR) ∷ (b, code.FLOW_CONTROL_ERROR) ∷ (c, code.FLOW_CONTROL_ERROR) ∷ [])

    same : (a d b e c g : Bool) → a ≡ d → b ≡ e → c ≡ g → three a b c ≡ three d e g
    same a d b e c g p q r = ap (λ (t : Bool). three t b c) p ∙ ap (λ (t : Bool). three d t c) q ∙ ap (λ (t : Bool). three d e t) r

pub frame_says : (s : Set) (x : List Step) (f : Frame) (answer : Option ErrorCode) → answer ≡ frame_error_in s f → StandsFor s x → answer ≡ frame_error s.role x f
frame_says s x f answer e h =
    e ∙ ap (λ (o : Option ErrorCode). option_or o (option_or (value_error s.role f) (window_error_in s f))) (shape_says s x f h)
    ∙ ap (λ (o : Option ErrorCode). option_or (shape_error s.role (breaks_start x f) (option_map (λ (b : Block). b.stream) (open_block (received x))) (highest (of_client s.role x)) f) (option_or (value_error s.role f) o)) (window_says s x f h)

-- ---- stream errors

overfills_one : (initial used granted inc : ℕ) → used < 2147483648 + granted → nat_lt 4294967295 (initial + (2147483648 + granted - used) + inc) ≡ nat_lt (2147483647 + used) (initial + granted + inc)
overfills_one initial used granted inc lt = grind (arith, nat_tests)

exceeds_one : (window used granted c : ℕ) → used ≤ window + granted → nat_lt (window + granted - used) c ≡ nat_lt (window + granted) (used + c)
exceeds_one window used granted c le = grind (arith, nat_tests)

five_rules : Bool → Bool → Bool → Bool → Bool → Option ErrorCode
five_rules a b c d e = first_broken ((a, code.FRAME_SIZE_ERROR) ∷ (b, code.PROTOCOL_ERROR) ∷ (c, code.FLOW_CONTROL_ERROR) ∷ (d, code.FLOW_CONTROL_ERROR) ∷ (e, code.STREAM_CLOSED) ∷ [])

pub live_says : (s : Set) (x : List Step) (f : Frame) → StandsFor s x → is_live s.role x (stream_of f) ≡ true → live_error_in s f (stream_at s.limits x (stream_of f)) ≡ live_error s.limits x f
unfolding five_rules
live_says s x f h alive =
    ap (λ (c : Bool). five_rules (is_priority f && not (payload_length f == 5)) (is_window_update f && increment_of f == 0) (is_window_update f && c) (is_data f && nat_lt (stream_at s.limits x (stream_of f)).receive (counted f)) (is_data f && (stream_at s.limits x (stream_of f)).is_closed_remote))
    (ap (λ (i : ℕ). nat_lt 4294967295 (i + (stream_at s.limits x (stream_of f)).room + increment_of f)) h.initial_is ∙ overfills_one (initial_window (received x)) (spent_on (stream_of f) (sent x)) (granted_on (stream_of f) (received x)) (increment_of f) (h.covered (stream_of f) alive))
    ∙ ap (λ (d : Bool). five_rules (is_priority f && not (payload_length f == 5)) (is_window_update f && increment_of f == 0) (is_window_update f && overfills_stream x f) (is_data f && d) (is_data f && (stream_at s.limits x (stream_of f)).is_closed_remote))
    (exceeds_one s.limits.window (spent_on (stream_of f) (received x)) (granted_on (stream_of f) (sent x)) (counted f) (h.within (stream_of f) alive))
