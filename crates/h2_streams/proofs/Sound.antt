-- What is known of a frame that is no connection error.
use Rattle.std.proofs.Common.{◌≡◌, ℕ, ◌+◌, ◌^◌, ◌<◌, Bool, true, false, ◌&&◌, [], ◌∷◌, Option, Some, None, refl, ap, ◌∙◌, arith}
use Rattle.std.specs.Prelude.{not, nat_lt, option_map, ◌==◌, if◌then◌else◌}
use Rattle.std.specs.List.{list_any}
use Rattle.std.specs.Option.{option_or}
use Rattle.std.proofs.lemmas.Bool.Decides.{nat_tests}
use Rattle.h2_frames.specs.declared.code.ErrorCode.{ErrorCode}
use Rattle.h2_frames.specs.declared.code.TheConstants.ErrorCode as code
use Rattle.h2_frames.specs.declared.frame.Frame.{Frame}
use Rattle.h2_exchange.specs.Exchange.{first_broken}
use Rattle.h2_exchange.specs.Frames.{stream_of, payload_of, payload_length, is_push_promise, is_window_update, is_setting, increment_of, counted}
use Rattle.h2_exchange.specs.Rules.{breaks_block_on, breaks_number, breaks_length, breaks_padding, value_error}
use Rattle.h2_exchange.specs.Windows.{settings_of}
use Rattle.h2_streams.specs.ConnectionErrors.{shape_error_in, window_error_in, frame_error_in}
use Rattle.h2_streams.specs.Live.{is_raising}
use Rattle.h2_streams.specs.Receiving.{granted_by}
use Rattle.h2_streams.specs.Set.{Set}
use Rattle.h2_streams.proofs.Judged.{four_long}

pub record IsSound (s : Set) (f : Frame) : Type 0 where
  pub no_promise : is_push_promise f ≡ false
  pub block : breaks_block_on (option_map (λ b. b.0) s.block) f ≡ false
  pub number : breaks_number s.role s.highest f ≡ false
  pub value : value_error s.role f ≡ None
  pub within : nat_lt s.receive (counted f) ≡ false
  pub fits : (is_window_update f && stream_of f == 0 && nat_lt 2147483647 (s.send + increment_of f)) ≡ false

first_none : (a b : Option ErrorCode) → option_or a b ≡ None → a ≡ None
first_none None b e = refl
first_none (Some v) b e = absurd cc

second_none : (a b : Option ErrorCode) → option_or a b ≡ None → b ≡ None
second_none None b e = e
second_none (Some v) b e = absurd cc

shapes : (a b c d e g : Bool) (p q : ErrorCode) → first_broken ((a, p) ∷ (b, p) ∷ (c, p) ∷ (d, p) ∷ (e, q) ∷ (g, p) ∷ []) ≡ None → (b ≡ false) × (c ≡ false) × (d ≡ false)
shapes true b c d e g p q h = absurd cc
shapes false true c d e g p q h = absurd cc
shapes false false true d e g p q h = absurd cc
shapes false false false true e g p q h = absurd cc
shapes false false false false e g p q h = (refl, refl, refl)

windows : (a b c : Bool) (p : ErrorCode) → first_broken ((a, p) ∷ (b, p) ∷ (c, p) ∷ []) ≡ None → (a ≡ false) × (b ≡ false)
windows true b c p h = absurd cc
windows false true c p h = absurd cc
windows false false c p h = (refl, refl)

pub is_sound : (s : Set) (f : Frame) → frame_error_in s f ≡ None → IsSound s f
is_sound s f e =
    let shape : shape_error_in s f ≡ None = first_none (shape_error_in s f) (option_or (value_error s.role f) (window_error_in s f)) e in
    let rest : option_or (value_error s.role f) (window_error_in s f) ≡ None = second_none (shape_error_in s f) (option_or (value_error s.role f) (window_error_in s f)) e in
    let three : (is_push_promise f ≡ false) × (breaks_block_on (option_map (λ (b : ℕ × Bool). b.0) s.block) f ≡ false) × (breaks_number s.role s.highest f ≡ false) =
    shapes (not s.is_started && not (is_setting f)) (is_push_promise f) (breaks_block_on (option_map (λ (b : ℕ × Bool). b.0) s.block) f) (breaks_number s.role s.highest f) (breaks_length s.highest f) (breaks_padding f) code.PROTOCOL_ERROR code.FRAME_SIZE_ERROR shape in
    let two : (nat_lt s.receive (counted f) ≡ false) × ((is_window_update f && stream_of f == 0 && nat_lt 2147483647 (s.send + increment_of f)) ≡ false) =
    windows (nat_lt s.receive (counted f)) (is_window_update f && stream_of f == 0 && nat_lt 2147483647 (s.send + increment_of f)) (is_setting f && list_any (is_raising s.live) (settings_of (payload_of f))) code.FLOW_CONTROL_ERROR
    (second_none (value_error s.role f) (window_error_in s f) rest) in
    record {
      no_promise = three.0;
      block = three.1;
      number = three.2;
      value = first_none (value_error s.role f) (window_error_in s f) rest;
      within = two.0;
      fits = two.1;
    }

pub four : (s : Set) (f : Frame) → frame_error_in s f ≡ None → is_window_update f ≡ true → payload_length f ≡ 4
four s f e = four_long s f (first_none (shape_error_in s f) (option_or (value_error s.role f) (window_error_in s f)) e)

-- what may be sent still fits
pub send_fits : (s t : Set) (f : Frame) → s ≡ t → s.send < 2 ^ 32 → frame_error_in t f ≡ None → s.send + (if stream_of f == 0 then granted_by f else 0) < 2 ^ 32
send_fits s t f same lt e = by (is_window_update f) (stream_of f == 0) (is_sound s f (ap (λ (u : Set). frame_error_in u f) same ∙ e)).fits
  where
    by : (w z : Bool) → (w && z && nat_lt 2147483647 (s.send + increment_of f)) ≡ false → s.send + (if z then (if w then increment_of f else 0) else 0) < 2 ^ 32
    by true true g = grind (arith, nat_tests)
    by true false g = omega (arith, lt)
    by false true g = omega (arith, lt)
    by false false g = omega (arith, lt)
