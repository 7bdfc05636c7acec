-- The stream error of a malformed header block.
use Rattle.std.proofs.Common.{◌≡◌, Bool, true, false, ◌&&◌, [], ◌∷◌, Option, Some, None, refl, sym, ap, ◌∙◌}
use Rattle.std.specs.Prelude.{not, ◌==◌, if◌then◌else◌}
use Rattle.std.specs.Option.{option_or}
use Rattle.h2_frames.specs.declared.code.ErrorCode.{ErrorCode}
use Rattle.h2_frames.specs.declared.code.TheConstants.ErrorCode as code
use Rattle.h2_exchange.specs.Blocks.{Block}
use Rattle.h2_exchange.specs.Exchange.{received, first_broken}
use Rattle.h2_exchange.specs.Frames.{stream_of, payload_length, is_data, is_priority, is_window_update, increment_of}
use Rattle.h2_exchange.specs.StreamErrors.{overfills_stream, exceeds_stream, live_error, is_full, block_error, completed_error}
use Rattle.h2_exchange.specs.Streams.{is_live, is_ended_by, has_head}
use Rattle.h2_streams.specs.Laws.{with_malformed, MalformedBlocks}

-- the rules of a block
of_block : (a b c : Bool) →
    first_broken ((a, code.STREAM_CLOSED) ∷ (b, code.PROTOCOL_ERROR) ∷ (true, code.PROTOCOL_ERROR) ∷ (c, code.REFUSED_STREAM) ∷ [])
    ≡ Some (with_malformed (first_broken ((a, code.STREAM_CLOSED) ∷ (b, code.PROTOCOL_ERROR) ∷ (false, code.PROTOCOL_ERROR) ∷ (c, code.REFUSED_STREAM) ∷ [])))
of_block true b c = refl
of_block false true c = refl
of_block false false true = refl
of_block false false false = refl

-- behind those of a live stream, which refuse none
behind : (a b c d e : Bool) (one other : Option ErrorCode) → one ≡ Some (with_malformed other) →
    option_or (first_broken ((a, code.FRAME_SIZE_ERROR) ∷ (b, code.PROTOCOL_ERROR) ∷ (c, code.FLOW_CONTROL_ERROR) ∷ (d, code.FLOW_CONTROL_ERROR) ∷ (e, code.STREAM_CLOSED) ∷ [])) one
    ≡ Some (with_malformed (option_or (first_broken ((a, code.FRAME_SIZE_ERROR) ∷ (b, code.PROTOCOL_ERROR) ∷ (c, code.FLOW_CONTROL_ERROR) ∷ (d, code.FLOW_CONTROL_ERROR) ∷ (e, code.STREAM_CLOSED) ∷ [])) other))
behind true b c d e one other p = refl
behind false true c d e one other p = refl
behind false false true d e one other p = refl
behind false false false true e one other p = refl
behind false false false false true one other p = refl
behind false false false false false one other p = p

pub malformed_blocks : MalformedBlocks
malformed_blocks role limits x f b whole alive =
    ap (λ (o : Option Block). option_or (if is_live role x (stream_of f) then live_error limits x f else None) (completed_error role limits x f true o)) whole
    ∙ by (is_live role x (stream_of f))
    ∙ ap (λ (o : Option Block). Some (with_malformed (option_or (if is_live role x (stream_of f) then live_error limits x f else None) (completed_error role limits x f false o)))) (sym whole)
  where
    block : completed_error role limits x f true (Some b) ≡ Some (with_malformed (completed_error role limits x f false (Some b)))
    block =
        ap (λ (t : Bool). if t then block_error role limits x b true else None) alive
        ∙ of_block (is_ended_by (received x) b.stream) (has_head (received x) b.stream && not b.last) (not (has_head (received x) b.stream) && is_full role limits x b.stream)
        ∙ ap (λ (t : Bool). Some (with_malformed (if t then block_error role limits x b false else None))) (sym alive)

    by : (t : Bool) → option_or (if t then live_error limits x f else None) (completed_error role limits x f true (Some b)) ≡ Some (with_malformed (option_or (if t then live_error limits x f else None) (completed_error role limits x f false (Some b))))
    by true =
        behind (is_priority f && not (payload_length f == 5)) (is_window_update f && increment_of f == 0) (is_window_update f && overfills_stream x f) (is_data f && exceeds_stream limits x f) (is_data f && is_ended_by (received x) (stream_of f))
        (completed_error role limits x f true (Some b)) (completed_error role limits x f false (Some b)) block
    by false = block
