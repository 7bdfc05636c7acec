-- What answers the frames of a peer ends no stream.
use Rattle.std.proofs.Common.{◌≡◌, ℕ, ◌<◌, ◌^◌, ◌==◌, Bool, ◌||◌, true, false, List, [], ◌∷◌, ◌++◌, map, Option, Some, None, refl, sym, ap, subst, ◌∙◌, append_assoc, append-nil, arith}
use Rattle.std.specs.Prelude.{if◌then◌else◌, not}
use Rattle.std.specs.List.{flat_map}
use Rattle.std.proofs.lemmas.List.Concat.{flat_map-append}
use Rattle.h2_frames.specs.declared.code.ErrorCode.{ErrorCode}
use Rattle.h2_frames.specs.declared.frame.Frame.{Frame}
use Rattle.h2_frames.specs.declared.frame.Frame.TheVariants.{Ping, Settings}
use Rattle.h2_frames.specs.Layout.{body_of, frame_text, text_of}
use Rattle.h2_exchange.specs.declared.limits.H2Limits.{H2Limits}
use Rattle.h2_exchange.specs.declared.role.Role.{Role}
use Rattle.h2_exchange.specs.Content.{Outcome, stream_error}
use Rattle.h2_exchange.specs.Exchange.{Step, Received, Sent, sent}
use Rattle.h2_exchange.specs.Frames.{counted, has_ack, stream_of}
use Rattle.h2_exchange.specs.Sending.{ack_for, update_text}
use Rattle.h2_exchange.specs.Streams.{is_ended_by, is_live}
use Rattle.h2_exchange.proofs.Looking.{or_nothing}
use Rattle.h2_exchange.proofs.Steps.{sent_more, sent_received}
use Rattle.http_connection.specs.Answers.{AreReplyBy, Receives, ends, goes, stops, text_or_none}
use Rattle.http_connection.proofs.Unheard.{all_sent}
use Rattle.grpc_stream.proofs.Granted.{body, same_frames, update, zero_small}
use Rattle.server_account.proofs.Resets.{ended_push, is_part, other_ends_none, part_by_type, type_from}

-- frames of no stream's content
abbrev pub AreQuiet : List Frame → Type 0
AreQuiet [] = Unit {0}
AreQuiet (f ∷ fs) = (is_part f ≡ false) × AreQuiet fs

quiet_append : (fs gs : List Frame) → AreQuiet fs → AreQuiet gs → AreQuiet (fs ++ gs)
quiet_append [] gs h k = k
quiet_append (f ∷ fs) gs (now, others) k = (now, quiet_append fs gs others k)

-- such frames have this text
abbrev QuietText : List ℕ → Type 0
QuietText text = (gs : List Frame) × (flat_map frame_text gs ≡ text) × AreQuiet gs

none_said : QuietText []
none_said = ([], refl, tt)

both_said : (a b : List ℕ) → QuietText a → QuietText b → QuietText (a ++ b)
both_said a b (fs, as_a, h) (gs, as_b, k) =
    (fs ++ gs, flat_map-append frame_text fs gs ∙ ap (λ (l : List ℕ). l ++ flat_map frame_text gs) as_a ∙ ap (λ (l : List ℕ). a ++ l) as_b, quiet_append fs gs h k)

frames_quiet : (text : List ℕ) (fs : List Frame) → QuietText text → flat_map frame_text fs ≡ text → AreQuiet fs
frames_quiet text fs (gs, is, quiet) same = subst AreQuiet (sym (same_frames fs gs (same ∙ sym is))) quiet

update_said : (id n : ℕ) → id < 2 ^ 31 → QuietText (update_text id n)
update_said id n small = (update id n small ∷ [], append-nil (update_text id n), (refl, tt))

acks_said : (f : Frame) → QuietText (text_or_none (ack_for f))
acks_said (Ping b) = by (has_ack (Ping b))
  where
    by : (acked : Bool) → QuietText (text_or_none (if not acked then Some (text_of 6 1 0 b.payload) else None))
    by true = none_said
    by false = (Ping (body 1 0 b.payload (omega arith) b.payload_in_range) ∷ [], append-nil (text_of 6 1 0 b.payload), (refl, tt))
acks_said (Settings b) = by (has_ack (Settings b))
  where
    by : (acked : Bool) → QuietText (text_or_none (if not acked then Some (text_of 4 1 0 []) else None))
    by true = none_said
    by false = (Settings (body 1 0 [] (omega arith) (omega arith)) ∷ [], append-nil (text_of 4 1 0 []), (refl, tt))
acks_said other = none_said

credit_said : (held nothing lives : Bool) (id n : ℕ) → id < 2 ^ 31 → QuietText (if held then [] else if nothing then [] else update_text 0 n ++ (if lives then update_text id n else []))
credit_said true nothing lives id n small = none_said
credit_said false true lives id n small = none_said
credit_said false false true id n small = both_said (update_text 0 n) (update_text id n) (update_said 0 n zero_small) (update_said id n small)
credit_said false false false id n small = both_said (update_text 0 n) [] (update_said 0 n zero_small) none_said

reply_quiet : (o : Option ErrorCode) (role : Role) (held : Bool) (past : List Step) (f : Frame) (fs : List Frame) → AreReplyBy o role held past f fs → AreQuiet fs
reply_quiet None role held past f fs text =
    let now : List Step = past ++ Received f ∷ [] in
    frames_quiet _ fs
    (both_said (text_or_none (ack_for f)) _ (acks_said f) (credit_said held (counted f == 0) (is_live role now (stream_of f)) (stream_of f) (counted f) (body_of f).stream_in_range)) text
reply_quiet (Some why) role held past f fs (reset, more, all, text, texts) =
    let now : List Step = past ++ Received f ∷ Sent reset ∷ [] in
    subst AreQuiet (sym all) (
      part_by_type reset 3 (type_from reset _ text) refl,
      frames_quiet _ more (credit_said held (counted f == 0) (is_live role now (stream_of f)) (stream_of f) (counted f) (body_of f).stream_in_range) texts,
    )

-- ---- no stream is ended by them

module _ (id : ℕ) where
  pub quiet_ends_none : (past fs : List Frame) → AreQuiet fs → is_ended_by (past ++ fs) id ≡ is_ended_by past id
  quiet_ends_none past [] h = ap (λ (l : List Frame). is_ended_by l id) (append-nil past)
  quiet_ends_none past (f ∷ fs) (now, others) =
      sym (ap (λ (l : List Frame). is_ended_by l id) (append_assoc past (f ∷ []) fs)) ∙ quiet_ends_none (past ++ f ∷ []) fs others ∙ ended_push id past f
      ∙ ap (λ (b : Bool). is_ended_by past id || b) (other_ends_none id past f now) ∙ or_nothing (is_ended_by past id)

  module _ (role : Role) (limits : H2Limits) (held : Bool) (heads : List Outcome) where
    pub replies_end_none : (past more : List Step) → Receives role limits held heads past more → is_ended_by (sent (past ++ more)) id ≡ is_ended_by (sent past) id
    replies_end_none past more (ends _) = ap (λ (x : List Step). is_ended_by (sent x) id) (append-nil past)
    replies_end_none past more (stops _ f stop clear is) = ap (λ (fs : List Frame). is_ended_by fs id) (sent_received past f)
    replies_end_none past more (goes _ later f fs clear reply rest) =
        sym (ap (λ (x : List Step). is_ended_by (sent x) id) (append_assoc past (Received f ∷ map Sent fs) later)) ∙ replies_end_none (past ++ (Received f ∷ map Sent fs)) later rest
        ∙ ap (λ (l : List Frame). is_ended_by l id) (sent_more past (Received f ∷ map Sent fs) ∙ ap (λ (l : List Frame). sent past ++ l) (all_sent fs))
        ∙ quiet_ends_none (sent past) fs (reply_quiet (stream_error role limits heads past f) role held past f fs reply)
