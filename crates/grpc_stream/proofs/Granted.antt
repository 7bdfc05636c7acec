-- Frames by their text, and streams that were not begun: none is granted anything.
use Rattle.std.proofs.Common.{◌≡◌, ℕ, ◌+◌, ◌<◌, ◌≤◌, ◌^◌, Bool, ◌||◌, ◌&&◌, true, false, List, [], ◌∷◌, ◌++◌, length, refl, sym, ap, ◌∙◌, subst, inl, arith, append_assoc}
use Rattle.std.specs.Prelude.{nat_lt, not, slice_index, if◌then◌else◌, ◌==◌}
use Rattle.std.specs.List.{flat_map}
use Rattle.std.specs.Int.{w32, to_be_bytes}
use Rattle.std.proofs.lemmas.List.{append-nil}
use Rattle.std.proofs.lemmas.Bool.Decides.{nat_tests}
use Rattle.h2_frames.specs.declared.code.ErrorCode.{ErrorCode}
use Rattle.h2_frames.specs.declared.frame.Frame.{Frame}
use Rattle.h2_frames.specs.declared.frame.Frame.TheVariants.{WindowUpdate}
use Rattle.h2_frames.specs.declared.frame.FrameBody.{FrameBody}
use Rattle.h2_frames.specs.Layout.{body_of, frame_text, text_of}
use Rattle.h2_frames.specs.Laws.{Waiting}
use Rattle.h2_frames.specs.Stream.{Frames}
use Rattle.h2_frames.proofs.Uniqueness.{read_again, unique}
use Rattle.h2_exchange.specs.declared.limits.H2Limits.{H2Limits}
use Rattle.h2_exchange.specs.declared.role.Role.{Role}
use Rattle.h2_exchange.specs.declared.role.Role.TheVariants.{Client, Server}
use Rattle.h2_exchange.specs.Content.{Outcome}
use Rattle.h2_exchange.specs.Exchange.{Step, Received, Sent, received, sent, some_step}
use Rattle.h2_exchange.specs.Frames.{stream_of, is_headers, is_window_update, increment_of}
use Rattle.h2_exchange.specs.Outgoing.{MaySend, SendsOnly, opens, acknowledges, credits, credits_stream, resets_error, resets, begins_stream, carries, goes_away}
use Rattle.h2_exchange.specs.Streams.{begins, highest, is_begun, is_live, is_odd, is_over}
use Rattle.h2_exchange.specs.Windows.{granted_on}
use Rattle.h2_exchange.proofs.Looking.{some_more}
use Rattle.h2_exchange.proofs.Steps.{sent_push, sent_received, window_sums_grow}

-- ---- a frame from its text

pub same_frames : (fs gs : List Frame) → flat_map frame_text fs ≡ flat_map frame_text gs → fs ≡ gs
same_frames fs gs e =
    (unique [] (flat_map frame_text fs ++ []) fs gs (Waiting []) (Waiting []) (read_again [] [] fs (inl (omega arith)))
    (subst (λ (bytes : List ℕ). Frames [] (bytes ++ []) gs []) (sym e) (read_again [] [] gs (inl (omega arith))))).0

abbrev pub body : (flags stream : ℕ) (payload : List ℕ) → stream < 2 ^ 31 → length payload ≤ 16384 → FrameBody
body flags stream payload s p = record { flags = flags; stream = stream; payload = payload; stream_in_range = s; payload_in_range = p }

-- the frame that grants so much to a stream, or with 0 to the connection
abbrev pub update : (id n : ℕ) → id < 2 ^ 31 → Frame
update id n small = WindowUpdate (body 0 id (to_be_bytes w32 n) small (omega arith))

pub zero_small : 0 < 2 ^ 31
zero_small = omega arith

pub one_frame : (f g : Frame) → frame_text f ≡ frame_text g → f ≡ g
one_frame f g e = head (same_frames (f ∷ []) (g ∷ []) (ap (λ (bytes : List ℕ). bytes ++ []) e))
  where
    head : f ∷ [] ≡ g ∷ [] → f ≡ g
    head same = cc

-- ---- the number of a stream

or_cases : (P : Type 0) (a b : Bool) → (a ≡ true → P) → (b ≡ true → P) → (a || b) ≡ true → P
or_cases P true b p q e = p refl
or_cases P false b p q e = q e

new_number : (h o : Bool) (m n id : ℕ) → n < 2 ^ 31 → ((h && o && nat_lt m n && n == id) || false) ≡ true → (0 < id) × (id < 2 ^ 31)
new_number true true m n id small e = (grind (arith, nat_tests), grind (arith, nat_tests))
new_number true false m n id small e = absurd cc
new_number false o m n id small e = absurd cc

begins_number : (role : Role) (past : List Step) (s : Step) (id : ℕ) → begins role id past s ≡ true → (0 < id) × (id < 2 ^ 31)
begins_number Server past (Received f) id e = new_number (is_headers f) (is_odd (stream_of f)) (highest (received past)) (stream_of f) id (body_of f).stream_in_range e
begins_number Server past (Sent f) id e = absurd cc
begins_number Client past (Received f) id e = absurd cc
begins_number Client past (Sent f) id e = new_number (is_headers f) (is_odd (stream_of f)) (highest (sent past)) (stream_of f) id (body_of f).stream_in_range e

number_from : (role : Role) (past x : List Step) (id : ℕ) → some_step (begins role id) past x ≡ true → (0 < id) × (id < 2 ^ 31)
number_from role past [] id e = absurd cc
number_from role past (s ∷ x) id e =
    or_cases ((0 < id) × (id < 2 ^ 31)) (begins role id past s) (some_step (begins role id) (past ++ s ∷ []) x) (begins_number role past s id) (number_from role (past ++ s ∷ []) x id) e

pub begun_number : (role : Role) (x : List Step) (id : ℕ) → is_begun role x id ≡ true → (0 < id) × (id < 2 ^ 31)
begun_number role x id e = number_from role [] x id e

pub both_of : (a b : Bool) → (a && b) ≡ true → (a ≡ true) × (b ≡ true)
both_of true b e = (refl, e)
both_of false b e = absurd cc

pub live_number : (role : Role) (x : List Step) (id : ℕ) → is_live role x id ≡ true → (0 < id) × (id < 2 ^ 31)
live_number role x id e = begun_number role x id (both_of (is_begun role x id) (not (is_over x id)) e).0

-- ---- what is granted to a stream that was not begun

pub plus_if_zero : (n : ℕ) (b : Bool) → n + (if b then 0 else 0) ≡ n
plus_if_zero n true = omega arith
plus_if_zero n false = omega arith

not_begun_front : (a b : Bool) → (a || b) ≡ false → a ≡ false
not_begun_front true b e = absurd cc
not_begun_front false b e = refl

abbrev pub granted_by : ℕ → Frame → ℕ
granted_by k f = if is_window_update f && stream_of f == k then increment_of f else 0

other_stream : (stream k n : ℕ) → (stream ≡ k → ⊥) → (if stream == k then n else 0) ≡ 0
other_stream stream k n apart = by (stream == k) refl
  where
    by : (b : Bool) → (stream == k) ≡ b → (if b then n else 0) ≡ 0
    by true e = absurd (apart (grind (arith, nat_tests)))
    by false e = refl

stream_says : (b : FrameBody) (id n : ℕ) (small : id < 2 ^ 31) → frame_text (WindowUpdate b) ≡ text_of 8 0 id (to_be_bytes w32 n) → b.stream ≡ id
stream_says b id n small e = ap stream_of (one_frame (WindowUpdate b) (update id n small) e)

module _ (role : Role) (limits : H2Limits) (heads : List Outcome) (is_asked : List Step → ℕ → ErrorCode → Bool) (bytes rest : List ℕ) (k : ℕ) (above : 0 < k) where
  update_is_late : (past : List Step) (b : FrameBody) → MaySend role limits heads is_asked bytes rest past (WindowUpdate b) → is_begun role past k ≡ false → b.stream ≡ k → ⊥
  update_is_late past b (opens first text) unbegun on = let n : 8 ≡ 4 = ap (λ (l : List ℕ). slice_index l 3) text in omega (arith, n)
  update_is_late past b (acknowledges is in_turn) unbegun on = absurd cc
  update_is_late past b (credits n text some within) unbegun on = omega (arith, above, on, stream_says b 0 n zero_small text)
  update_is_late past b (credits_stream id n text some lives within) unbegun on =
      let same : id ≡ k = sym (stream_says b id n (live_number role past id lives).1 text) ∙ on in
      let begun : is_begun role past id ≡ true = (both_of (is_begun role past id) (not (is_over past id)) lives).0 in
      let clash : true ≡ false = sym begun ∙ ap (is_begun role past) same ∙ unbegun in absurd cc
  update_is_late past b (resets_error (before, g, why, split, clear, error, text)) unbegun on = let n : 8 ≡ 3 = ap (λ (l : List ℕ). slice_index l 3) text in omega (arith, n)
  update_is_late past b (resets id why lives asked text) unbegun on = let n : 8 ≡ 3 = ap (λ (l : List ℕ). slice_index l 3) text in omega (arith, n)
  update_is_late past b (begins_stream e) unbegun on = no_head role e
    where
      no_head : (r : Role) → begins r b.stream past (Sent (WindowUpdate b)) ≡ true → ⊥
      no_head Client e = absurd cc
      no_head Server e = absurd cc
  update_is_late past b (carries is opened) unbegun on = absurd cc
  update_is_late past b (goes_away why ends text) unbegun on = let n : 8 ≡ 7 = ap (λ (l : List ℕ). slice_index l 3) text in omega (arith, n)

  grants_nothing : (past : List Step) (f : Frame) → MaySend role limits heads is_asked bytes rest past f → is_begun role past k ≡ false → granted_by k f ≡ 0
  grants_nothing past (WindowUpdate b) allowed unbegun = other_stream b.stream k (increment_of (WindowUpdate b)) (update_is_late past b allowed unbegun)
  grants_nothing past other allowed unbegun = refl

  ungranted_from : (w past x : List Step) → w ≡ past ++ x → SendsOnly role limits heads is_asked bytes rest w → is_begun role w k ≡ false → granted_on k (sent past) ≡ 0 → granted_on k (sent w) ≡ 0
  ungranted_from w past [] e sends unbegun none = ap (λ (y : List Step). granted_on k (sent y)) (e ∙ append-nil past) ∙ none
  ungranted_from w past (Received f ∷ x) e sends unbegun none =
      ungranted_from w (past ++ Received f ∷ []) x (e ∙ sym (append_assoc past (Received f ∷ []) x)) sends unbegun (ap (granted_on k) (sent_received past f) ∙ none)
  ungranted_from w past (Sent f ∷ x) e sends unbegun none =
      let front : is_begun role past k ≡ false =
      not_begun_front (is_begun role past k) (some_step (begins role k) past (Sent f ∷ x))
      (sym (some_more (begins role k) [] past (Sent f ∷ x)) ∙ sym (ap (λ (y : List Step). is_begun role y k) e) ∙ unbegun) in
      ungranted_from w (past ++ Sent f ∷ []) x (e ∙ sym (append_assoc past (Sent f ∷ []) x)) sends unbegun
      (omega (arith, ap (granted_on k) (sent_push past f), window_sums_grow.granted_push k (sent past) f, none, grants_nothing past f (sends past x f e).0 front))

  pub ungranted : (w : List Step) → SendsOnly role limits heads is_asked bytes rest w → is_begun role w k ≡ false → granted_on k (sent w) ≡ 0
  ungranted w sends unbegun = ungranted_from w [] w refl sends unbegun refl
