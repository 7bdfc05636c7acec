-- The examples compute.
use Rattle.std.proofs.Common.{◌≡◌, true, false, ℕ, List, [], length, take, refl, ap, arith, inl, inr}
use Rattle.std.specs.Prelude.{slice_index, codes}
use Rattle.h2_frames.specs.declared.code.TheConstants.ErrorCode as code
use Rattle.h2_frames.specs.Stream.{preface}
use Rattle.grpc_framing.specs.Framing.{item_at, front_at, messages_upto, messages_of}
use Rattle.h2_exchange.specs.Samples.{request, response, trailers, head}
use Rattle.h2_exchange.specs.Outgoing as may
use Rattle.h2_exchange.specs.Examples.{LoweredWindow, FirstFrames, StreamLife, RefusedStream, StreamNumbers, SecondHead, Stops, RestStops, BlockLimits, CutRequests, bad_preface, QuietFrames, BadHeads, CallsOfEvents, AnswersOfEvents, FullServer, Responses, Requests, LastStreams, SentFrames, asked, status_alone}

pub lowered_window : LoweredWindow
lowered_window = record { ten = refl; below_zero = refl; nothing = refl; five = refl }

pub first_frames : FirstFrames
first_frames = record { server = refl; client = refl }

pub stream_life : StreamLife
stream_life = record { idle = refl; not_live = refl; begins = refl; next_is_idle = refl; half = refl; may_answer = refl; ends = refl; answered_first = refl; closed = refl; cut_head_ends_nothing = refl; whole_head_ends = refl; reset = refl; skipped = refl; skipped_not_live = refl }

pub refused_stream : RefusedStream
unfolding item_at front_at messages_upto messages_of
refused_stream = record { refused = refl; malformed_first = refl; taken = refl; not_by_a_client = refl; event = refl }

pub stream_numbers : StreamNumbers
stream_numbers = record { even = refl; data_on_idle = refl; data_on_zero = refl; settings_on_one = refl; head_to_client = refl; answer_to_client = refl; skipped = refl }

pub second_head : SecondHead
unfolding item_at front_at messages_upto messages_of
second_head = record { no_end = refl; as_trailers = refl; in_two_frames = refl; malformed = refl; behind_the_end = refl }

pub stops : Stops
unfolding item_at front_at messages_upto messages_of
stops = record { no_settings_first = refl; half_a_setting = refl; data_on_idle = refl; update_of_nothing = refl; large_update = refl; bad_index = refl; long_list = refl; lone_continuation = refl; inside_a_block = refl; long_padding = refl; large_window = refl; push_promise = refl; many_frames = refl; enough_frames = refl; raised_window = refl; nothing = refl }

-- its twelfth byte is another one
no_preface : take 24 bad_preface ≡ take (length bad_preface) preface → ⊥
no_preface e = let n : 49 ≡ 50 = ap (λ (l : List ℕ). slice_index l 11) e in omega (arith, n)

pub rest_stops : RestStops
rest_stops = record {
  preface_is_none = inr (refl, inl (no_preface, refl, refl));
  long_length = inr (refl, inr (refl, (omega arith, omega arith), refl, refl));
}

pub block_limits : BlockLimits
block_limits = record {
  full = λ b text frames. rw (text, frames) refl;
  long = λ b text. rw text refl;
  many = λ b text frames. rw (text, frames) refl;
}

pub cut_requests : CutRequests
unfolding item_at front_at messages_upto messages_of
cut_requests = record { one = refl; two = refl; sent_too = refl; one_stream_twice = refl; after_an_end = refl; end_of_a_dead_stream = refl; whole_request = refl }

pub quiet_frames : QuietFrames
unfolding item_at front_at messages_upto messages_of
quiet_frames = record { skipped = refl; behind_an_error = refl; reset_by_client = refl; trailers_to_client = refl; goes_away = refl }

pub bad_heads : BadHeads
bad_heads = record { request_is_sound = refl; response_is_sound = refl; no_method = refl; late = refl; doubled = refl; unknown = refl; upper_case = refl; line_break = refl; upgrade = refl; te = refl; trailers_are_sound = refl; pseudo_trailer = refl }

pub spelled_calls : CallsOfEvents
unfolding item_at front_at messages_upto messages_of
spelled_calls = record { two_messages = refl; cut_message = refl; flag = refl; long_message = refl; refused_head = refl; reset = refl; shown_refusal = refl; hidden_refusal = refl }

pub spelled_answers : AnswersOfEvents
unfolding item_at front_at messages_upto messages_of
spelled_answers = record { message = refl; end_alone = refl; flag = refl; no_trailers = refl }

pub full_server : FullServer
full_server = record { taken = refl; refused = refl }

no_lie : true ≡ false → ⊥
no_lie e = cc

-- a response head has two fields, and these trailers one
other_length : trailers ≡ response → ⊥
other_length e = let n : 1 ≡ 2 = ap length e in omega (arith, n)

one_field : status_alone (codes "405") ≡ response → ⊥
one_field e = let n : 1 ≡ 2 = ap length e in omega (arith, n)

pub responses : Responses
responses = record {
  whole = (refl, ([], refl, (refl, refl, refl, tt)));
  then_reset = (refl, ([], refl, (refl, refl, refl, tt)));
  unfinished = (refl, ([], refl, (refl, refl)));
  reset = (refl, ([], refl, (refl, refl)));
  head_alone = (refl, refl, refl, tt);
  wrong_method = (refl, refl, refl, tt);
  wrong_type = (refl, refl, refl, tt);
  not_ended = λ h. one_field h.0;
  other_stream = refl;
  no_head = λ h. other_length h.0;
  behind_the_end = λ h. h.3;
  no_message = λ h. h;
  no_status = λ h. no_lie h.2;
  pseudo_trailers = λ h. no_lie h.1.2.2;
}

other_request : response ≡ request → ⊥
other_request e = let n : 2 ≡ 5 = ap length e in omega (arith, n)

pub requests : Requests
requests = record {
  whole = (refl, ([], refl, (refl, refl, tt)));
  then_reset = (refl, ([], refl, (refl, refl, tt)));
  cut_off = (refl, ([], refl, (refl, refl)));
  other_head = λ h. other_request h.0;
  trailers_behind = λ h. h.1;
}

pub last_streams : LastStreams
last_streams = record { server = refl; before_the_break = refl; client = refl }

pub sent_frames : SentFrames
unfolding item_at front_at messages_upto messages_of
sent_frames = record {
  settings = may.opens refl refl;
  window = may.credits 983041 refl (omega arith) (omega arith);
  acknowledgement = may.acknowledges refl ([], refl);
  credit = may.credits 30 refl (omega arith) (omega arith);
  stream_credit = may.credits_stream 1 30 refl (omega arith) refl (omega arith);
  response = may.carries refl refl;
  reset = may.resets_error (asked, head, code.PROTOCOL_ERROR, refl, refl, refl, refl);
  goaway = may.goes_away code.PROTOCOL_ERROR (inl (81, inl refl)) refl;
}
