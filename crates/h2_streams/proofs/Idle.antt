-- A frame on a stream that may still begin, and that begins none, changes nothing there.
use Rattle.std.proofs.Common.{◌≡◌, ℕ, Bool, true, false, not, ◌&&◌, ◌||◌, Option, Some, None, refl, sym, ap, ◌∙◌}
use Rattle.std.specs.Prelude.{option_map, nat_lt, ◌==◌}
use Rattle.h2_frames.specs.declared.frame.Frame.{Frame}
use Rattle.h2_frames.specs.declared.frame.Frame.TheVariants.{Content, Headers, Priority, RstStream, Settings, PushPromise, Ping, GoAway, WindowUpdate, Continuation, Unknown}
use Rattle.h2_exchange.specs.declared.role.Role.{Role}
use Rattle.h2_exchange.specs.Blocks.{Block, block_with}
use Rattle.h2_exchange.specs.Frames.{stream_of, is_data, is_headers, is_rst_stream, is_window_update, counted}
use Rattle.h2_exchange.specs.Rules.{is_client, breaks_block_on, breaks_number}
use Rattle.h2_exchange.specs.Streams.{is_odd}
use Rattle.h2_streams.specs.Stands.{is_on}
use Rattle.h2_streams.proofs.Credits.{odd_not_zero}
use Rattle.h2_streams.proofs.Lists.{eqb_is, isnt, self_eq}

pub record IsQuiet (o : Option Block) (f : Frame) : Type 0 where
  pub no_data : is_data f ≡ false
  pub no_part : block_with o f ≡ None
  pub no_reset : is_rst_stream f ≡ false
  pub no_update : is_window_update f ≡ false
  pub no_count : counted f ≡ 0

clash_idle : (z o l : Bool) → (((z || false) || false) || (not z && (not o || l))) ≡ false → o ≡ true → l ≡ true → ⊥
clash_idle true o l e f g = cc
clash_idle false true true e f g = cc
clash_idle false true false e f g = cc
clash_idle false false l e f g = cc

clash_update : (z o l : Bool) → (not z && (not o || l)) ≡ false → z ≡ false → o ≡ true → l ≡ true → ⊥
clash_update true o l e z f g = cc
clash_update false true true e z f g = cc
clash_update false true false e z f g = cc
clash_update false false l e z f g = cc

clash_head : (z o l c : Bool) → (((z || false) || ((not o || l) && (c || not o))) || false) ≡ false → o ≡ true → l ≡ true → (not c && (o && l)) ≡ false → ⊥
clash_head true o l c e f g i = cc
clash_head false true true true e f g i = cc
clash_head false true true false e f g i = cc
clash_head false true false c e f g i = cc
clash_head false false l c e f g i = cc

clash_block : (n m : ℕ) → not (true && n == m) ≡ false → (m == n) ≡ false → ⊥
clash_block n m e f = by (n == m) refl e
  where
    clash : true ≡ false → ⊥
    clash z = cc

    by : (t : Bool) → (n == m) ≡ t → not (true && t) ≡ false → ⊥
    by true g i = clash (sym (ap (λ (j : ℕ). m == j) (eqb_is n m g) ∙ self_eq m) ∙ f)
    by false g i = clash i

nothing : (o : Option Block) (f : Frame) → is_data f ≡ false → is_rst_stream f ≡ false → is_window_update f ≡ false → counted f ≡ 0 → block_with o f ≡ None → IsQuiet o f
nothing o f a b c d e = record { no_data = a; no_part = e; no_reset = b; no_update = c; no_count = d }

pub is_quiet : (role : Role) (greatest : ℕ) (o : Option Block) (f : Frame) → breaks_number role greatest f ≡ false → breaks_block_on (option_map (λ (b : Block). b.stream) o) f ≡ false →
    nat_lt greatest (stream_of f) ≡ true → is_odd (stream_of f) ≡ true → (not (is_client role) && (is_headers f && is_odd (stream_of f) && nat_lt greatest (stream_of f))) ≡ false → is_on (stream_of f) o ≡ false → IsQuiet o f
is_quiet role greatest o (Content b) n e l odd new off = absurd (clash_idle (b.stream == 0) (is_odd b.stream) (nat_lt greatest b.stream) n odd l)
is_quiet role greatest o (RstStream b) n e l odd new off = absurd (clash_idle (b.stream == 0) (is_odd b.stream) (nat_lt greatest b.stream) n odd l)
is_quiet role greatest o (WindowUpdate b) n e l odd new off = absurd (clash_update (b.stream == 0) (is_odd b.stream) (nat_lt greatest b.stream) n (isnt 0 b.stream (odd_not_zero b.stream odd)) odd l)
is_quiet role greatest o (Headers b) n e l odd new off = absurd (clash_head (b.stream == 0) (is_odd b.stream) (nat_lt greatest b.stream) (is_client role) n odd l new)
is_quiet role greatest None (Continuation b) n e l odd new off = absurd cc
is_quiet role greatest (Some block) (Continuation b) n e l odd new off = absurd (clash_block b.stream block.stream e off)
is_quiet role greatest None (Priority b) n e l odd new off = nothing None (Priority b) refl refl refl refl refl
is_quiet role greatest (Some block) (Priority b) n e l odd new off = nothing (Some block) (Priority b) refl refl refl refl refl
is_quiet role greatest None (Settings b) n e l odd new off = nothing None (Settings b) refl refl refl refl refl
is_quiet role greatest (Some block) (Settings b) n e l odd new off = nothing (Some block) (Settings b) refl refl refl refl refl
is_quiet role greatest None (PushPromise b) n e l odd new off = nothing None (PushPromise b) refl refl refl refl refl
is_quiet role greatest (Some block) (PushPromise b) n e l odd new off = nothing (Some block) (PushPromise b) refl refl refl refl refl
is_quiet role greatest None (Ping b) n e l odd new off = nothing None (Ping b) refl refl refl refl refl
is_quiet role greatest (Some block) (Ping b) n e l odd new off = nothing (Some block) (Ping b) refl refl refl refl refl
is_quiet role greatest None (GoAway b) n e l odd new off = nothing None (GoAway b) refl refl refl refl refl
is_quiet role greatest (Some block) (GoAway b) n e l odd new off = nothing (Some block) (GoAway b) refl refl refl refl refl
is_quiet role greatest None (Unknown other b) n e l odd new off = nothing None (Unknown other b) refl refl refl refl refl
is_quiet role greatest (Some block) (Unknown other b) n e l odd new off = nothing (Some block) (Unknown other b) refl refl refl refl refl
