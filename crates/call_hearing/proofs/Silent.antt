-- Streams on which nothing comes.
use Rattle.std.proofs.Common.{◌≡◌, ℕ, Bool, ◌&&◌, ◌||◌, false, true, not, List, [], ◌∷◌, ◌++◌, refl, sym, ap, subst, ◌∙◌, append_assoc, Option, Some, None, Ok, Err}
use Rattle.std.specs.Prelude.{if◌then◌else◌, ◌==◌, is_some}
use Rattle.std.proofs.lemmas.Bool.{eqb-true}
use Rattle.std.proofs.lemmas.List.Folds.{list_any-append}
use Rattle.h2_frames.specs.declared.code.ErrorCode.{ErrorCode}
use Rattle.h2_frames.specs.declared.frame.Frame.{Frame}
use Rattle.hpack_tables.specs.declared.field.Field.{Field}
use Rattle.h2_exchange.specs.declared.limits.H2Limits.{H2Limits}
use Rattle.h2_exchange.specs.declared.role.Role.{Role}
use Rattle.h2_exchange.specs.declared.role.Role.TheVariants.{Client, Server}
use Rattle.h2_exchange.specs.Blocks.{Block, completed}
use Rattle.h2_exchange.specs.Content.{Outcome, outcome_for, stream_error}
use Rattle.h2_exchange.specs.Events.{Event, Head, Ended, Reset, GoneAway, block_events, data_events, events_by, events_of, read_events, sound_events, trailers_events}
use Rattle.h2_exchange.specs.Exchange.{Step, Received, Sent, collect, front_before, received}
use Rattle.h2_exchange.specs.Frames.{stream_of, is_data, is_goaway, is_rst_stream, has_end_stream, code_of, last_stream_of, goaway_code_of}
use Rattle.h2_exchange.specs.Stops.{Stop, stop_at}
use Rattle.h2_exchange.specs.Streams.{begins, has_head, is_begun, is_live, is_live_at, is_over}
use Rattle.h2_exchange.proofs.Answered.{error_live}
use Rattle.h2_exchange.proofs.EventOrder.{is_false}
use Rattle.h2_exchange.proofs.Looking.{some_more}
use Rattle.h2_exchange.proofs.Places.{clash, first_true, neither, or_parts}
use Rattle.h2_exchange.proofs.Staying.{events_more}
use Rattle.h2_exchange.proofs.Steps.{begins_once, begun_push, over_stays}
use Rattle.call_hearing.specs.Laws.{OthersAreSilent}
use Rattle.call_hearing.specs.Listening.{has_event, is_on}

module _ (role : Role) (limits : H2Limits) (heads : List Outcome) (id : ℕ) where
  module _ (past : List Step) (f : Frame) (dead : is_live_at role past f id ≡ false) where
    other : (s : ℕ) → is_live_at role past f s ≡ true → (s == id) ≡ false
    other s live = is_false (s == id) (λ same. clash (is_live_at role past f id) (subst (λ (k : ℕ). is_live_at role past f k ≡ true) (eqb-true s id same) live) dead)

    now_live : (s : ℕ) → is_live role past s ≡ true → is_live_at role past f s ≡ true
    now_live s live = first_true (is_live role past s) (begins role s past (Received f)) live

    trailers_quiet : (r : Role) (s : ℕ) (fields : List Field) → (s == id) ≡ false → has_event (trailers_events r s fields) id ≡ false
    trailers_quiet Server s fields off = neither (s == id) false off refl
    trailers_quiet Client s fields off = neither (s == id) false off refl

    read_quiet : (b : Block) (o : Option Outcome) → (b.stream == id) ≡ false → has_event (read_events role past b o) id ≡ false
    read_quiet b None off = refl
    read_quiet b (Some (Err fault)) off = refl
    read_quiet b (Some (Ok fields)) off = by (has_head (received past) b.stream)
      where
        by : (t : Bool) → has_event (if t then trailers_events role b.stream fields else Head b.stream fields b.last ∷ []) id ≡ false
        by true = trailers_quiet role b.stream fields off
        by false = neither (b.stream == id) false off refl

    block_quiet : (o : Option Block) → has_event (block_events role heads past f o) id ≡ false
    block_quiet None = refl
    block_quiet (Some b) = by (is_live_at role past f b.stream) refl
      where
        by : (t : Bool) → is_live_at role past f b.stream ≡ t → has_event (if t then read_events role past b (outcome_for heads (received past) (Some b)) else []) id ≡ false
        by false live = refl
        by true live = read_quiet b (outcome_for heads (received past) (Some b)) (other b.stream live)

    data_quiet : (stream_of f == id) ≡ false → has_event (data_events f) id ≡ false
    data_quiet off = neither (stream_of f == id) (has_event (if has_end_stream f then Ended (stream_of f) ∷ [] else []) id) off (by (has_end_stream f))
      where
        by : (t : Bool) → has_event (if t then Ended (stream_of f) ∷ [] else []) id ≡ false
        by true = neither (stream_of f == id) false off refl
        by false = refl

    sound_quiet : has_event (sound_events role heads past f) id ≡ false
    sound_quiet = by (is_data f) (is_rst_stream f) (is_goaway f) (is_live role past (stream_of f)) refl
      where
        by : (d r g l : Bool) → is_live role past (stream_of f) ≡ l →
            has_event (if d then (if l then data_events f else []) else if r then (if l then Reset (stream_of f) (code_of f) ∷ [] else []) else if g then GoneAway (last_stream_of f) (goaway_code_of f) ∷ [] else block_events role heads past f (completed (received past) f)) id ≡ false
        by true r g true live = data_quiet (other (stream_of f) (now_live (stream_of f) live))
        by true r g false live = refl
        by false true g true live = neither (stream_of f == id) false (other (stream_of f) (now_live (stream_of f) live)) refl
        by false true g false live = refl
        by false false true l live = refl
        by false false false l live = block_quiet (completed (received past) f)

    pub frame_quiet : stop_at role limits heads past (Received f) ≡ None → has_event (events_of role limits heads past (Received f)) id ≡ false
    frame_quiet clear = by (stream_error role limits heads past f) refl
      where
        by : (o : Option ErrorCode) → stream_error role limits heads past f ≡ o → has_event (events_by (sound_events role heads past f) (stream_of f) o) id ≡ false
        by None is = sound_quiet
        by (Some why) is = neither (stream_of f == id) false (other (stream_of f) (error_live limits heads role past f why clear is)) refl

  -- ---- all frames

  abbrev given : List Step → List Step → List Event
  given past x = collect (events_of role limits heads) past (front_before (stop_at role limits heads) past x)

  step_quiet : (past x : List Step) (s : Step) → stop_at role limits heads past s ≡ None → has_event (events_of role limits heads past s) id ≡ false →
      has_event (given (past ++ s ∷ []) x) id ≡ false → has_event (events_of role limits heads past s ++ given (past ++ s ∷ []) x) id ≡ false
  step_quiet past x s clear now later =
      list_any-append (is_on id) (events_of role limits heads past s) (given (past ++ s ∷ []) x) ∙ neither (has_event (events_of role limits heads past s) id) (has_event (given (past ++ s ∷ []) x) id) now later

  over_not_live : (b o : Bool) → o ≡ true → (b && not o) ≡ false
  over_not_live true true e = refl
  over_not_live true false e = absurd cc
  over_not_live false o e = refl

  over_dead : (past : List Step) (f : Frame) → is_begun role past id ≡ true → is_over past id ≡ true → is_live_at role past f id ≡ false
  over_dead past f begun over =
      neither (is_live role past id) (begins role id past (Received f)) (over_not_live (is_begun role past id) (is_over past id) over)
      (is_false (begins role id past (Received f)) (λ new. clash (is_begun role past id) begun (begins_once role past (Received f) id new)))

  over_step : (past : List Step) (s : Step) → is_begun role past id ≡ true → is_over past id ≡ true → stop_at role limits heads past s ≡ None → has_event (events_of role limits heads past s) id ≡ false
  over_step past (Sent f) begun over clear = refl
  over_step past (Received f) begun over clear = frame_quiet past f (over_dead past f begun over) clear

  over_from : (past x : List Step) → is_begun role past id ≡ true → is_over past id ≡ true → has_event (given past x) id ≡ false
  over_from past [] begun over = refl
  over_from past (s ∷ x) begun over =
      by (stop_at role limits heads past s) refl
      (over_from (past ++ s ∷ []) x (begun_push role past s id ∙ first_true (is_begun role past id) (begins role id past s) begun) (over_stays past (s ∷ []) id over))
    where
      by : (o : Option Stop) → stop_at role limits heads past s ≡ o → has_event (given (past ++ s ∷ []) x) id ≡ false →
          has_event (collect (events_of role limits heads) past (if is_some o then [] else s ∷ front_before (stop_at role limits heads) (past ++ s ∷ []) x)) id ≡ false
      by (Some stop) is later = refl
      by None is later = step_quiet past x s is (over_step past s begun over is) later

-- ---- at a client

module _ (limits : H2Limits) (heads : List Outcome) (id : ℕ) where
  unbegun_step : (past : List Step) (s : Step) → is_begun Client past id ≡ false → stop_at Client limits heads past s ≡ None → has_event (events_of Client limits heads past s) id ≡ false
  unbegun_step past (Sent f) unbegun clear = refl
  unbegun_step past (Received f) unbegun clear =
      frame_quiet Client limits heads id past f (ap (λ (t : Bool). (t && not (is_over past id)) || false) unbegun) clear

  unbegun_from : (past x : List Step) → is_begun Client (past ++ x) id ≡ false → has_event (given Client limits heads id past x) id ≡ false
  unbegun_from past [] unbegun = refl
  unbegun_from past (s ∷ x) unbegun =
      by (stop_at Client limits heads past s) refl
      (unbegun_from (past ++ s ∷ []) x (ap (λ (y : List Step). is_begun Client y id) (append_assoc past (s ∷ []) x) ∙ unbegun))
    where
      before : is_begun Client past id ≡ false
      before = (or_parts (is_begun Client past id) _ (sym (some_more (begins Client id) [] past (s ∷ x)) ∙ unbegun)).0

      by : (o : Option Stop) → stop_at Client limits heads past s ≡ o → has_event (given Client limits heads id (past ++ s ∷ []) x) id ≡ false →
          has_event (collect (events_of Client limits heads) past (if is_some o then [] else s ∷ front_before (stop_at Client limits heads) (past ++ s ∷ []) x)) id ≡ false
      by (Some stop) is later = refl
      by None is later = step_quiet Client limits heads id past x s is (unbegun_step past s before is) later

pub others_are_silent : OthersAreSilent
others_are_silent = record {
  over = λ role limits heads x more id clear begun over. (given role limits heads id x more, events_more role limits heads x more clear, over_from role limits heads id x more begun over);
  unbegun = λ limits heads x id unbegun. unbegun_from limits heads id [] x unbegun;
}
