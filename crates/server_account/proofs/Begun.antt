-- A call that was told has a stream that was begun.
use Rattle.std.proofs.Common.{◌≡◌, inl, inr, ℕ, ◌==◌, Bool, ◌||◌, true, false, List, [], ◌∷◌, ◌++◌, map, Option, Some, None, Result, Ok, Err, refl, sym, ap, subst, ◌∙◌, append_assoc, append-nil, eqb-true}
use Rattle.std.specs.Prelude.{if◌then◌else◌, is_some}
use Rattle.std.specs.List.{list_any}
use Rattle.std.proofs.lemmas.List.Folds.{list_any-append}
use Rattle.grpc_framing.specs.declared.front.Front.{Front}
use Rattle.grpc_framing.specs.declared.front.Front.TheVariants as front
use Rattle.grpc_heads.specs.declared.head.Method.{Method}
use Rattle.grpc_heads.specs.CallEnd.{CallEnd, compressed, method_by, too_long, truncated}
use Rattle.grpc_heads.specs.Heads.{head_of}
use Rattle.hpack_tables.specs.declared.field.Field.{Field}
use Rattle.h2_frames.specs.declared.code.ErrorCode.{ErrorCode}
use Rattle.h2_frames.specs.declared.frame.Frame.{Frame}
use Rattle.h2_exchange.specs.declared.limits.H2Limits.{H2Limits}
use Rattle.h2_exchange.specs.declared.role.Role.{Role}
use Rattle.h2_exchange.specs.declared.role.Role.TheVariants.{Server}
use Rattle.h2_exchange.specs.Blocks.{Block, completed, data_of}
use Rattle.h2_exchange.specs.Calls.{Call, Begun, Request, Finished, Dropped, Declined, calls, calls_of, cut, end_calls, further, head_calls, is_begun_call, is_going, refusals}
use Rattle.h2_exchange.specs.Content.{Outcome, outcome_for, stream_error}
use Rattle.h2_exchange.specs.Events.{Event, Head, Data, Ended, Reset, GoneAway, block_events, bytes_on, events_by, events_of, read_events, sound_events}
use Rattle.h2_exchange.specs.Exchange.{Step, Received, Sent, collect, front_before, received}
use Rattle.h2_exchange.specs.Frames.{code_of, goaway_code_of, has_end_stream, is_data, is_goaway, is_rst_stream, last_stream_of, stream_of}
use Rattle.h2_exchange.specs.Sending.{IsPrefix}
use Rattle.h2_exchange.specs.Stops.{before_stop, events, stop_at}
use Rattle.h2_exchange.specs.Streams.{begins, has_head, is_begun, is_live, is_live_at}
use Rattle.h2_exchange.proofs.EventOrder.{at_begun}
use Rattle.h2_exchange.proofs.Places.{first_true, heads_on, one_of}
use Rattle.h2_exchange.proofs.Steps.{begun_push}
use Rattle.grpc_stream.specs.CallTrace.{CallTrace, Asked, IsSoundCallTrace, begins_on, reported_by, reported_in}

-- ---- a call begins with a head

module _ (method_of : List Field → Result Method CallEnd) (id : ℕ) where
  abbrev spells : List Event → Event → List (Call Method CallEnd)
  spells past e = calls_of method_of compressed too_long truncated past e

  abbrev begins_in : List (Call Method CallEnd) → Bool
  begins_in cs = list_any (is_begun_call id) cs

  if_begins : (t : Bool) (cs : List (Call Method CallEnd)) → begins_in (if t then cs else []) ≡ true → begins_in cs ≡ true
  if_begins true cs e = e
  if_begins false cs e = absurd cc

  refusal_begins_none : (stream : ℕ) (f : Front) → begins_in (refusals method_of compressed too_long truncated stream f) ≡ true → ⊥
  refusal_begins_none stream (front.Message n) e = absurd cc
  refusal_begins_none stream front.NeedMore e = absurd cc
  refusal_begins_none stream front.Compressed e = absurd cc
  refusal_begins_none stream front.TooLong e = absurd cc

  requests_begin_none : (stream : ℕ) (ms : List (List ℕ)) (f : Front) → begins_in (map (Request stream) ms ++ refusals method_of compressed too_long truncated stream f) ≡ true → ⊥
  requests_begin_none stream [] f e = refusal_begins_none stream f e
  requests_begin_none stream (m ∷ ms) f e = requests_begin_none stream ms f e

  end_begins_none : (stream : ℕ) (rest : List ℕ) → begins_in (end_calls method_of compressed too_long truncated stream rest) ≡ true → ⊥
  end_begins_none stream [] e = absurd cc
  end_begins_none stream (b ∷ rest) e = absurd cc

  or_none : (b : Bool) → (b || false) ≡ true → b ≡ true
  or_none true e = refl
  or_none false e = absurd cc

  head_begins : (stream : ℕ) (last : Bool) (m : Result Method CallEnd) → begins_in (head_calls method_of compressed too_long truncated stream last m) ≡ true → (stream == id) ≡ true
  head_begins stream last (Err answer) e = absurd cc
  head_begins stream true (Ok method) e = or_none (stream == id) e
  head_begins stream false (Ok method) e = or_none (stream == id) e

  begins_at_head : (past : List Event) (e : Event) → begins_in (spells past e) ≡ true → heads_on id e ≡ true
  begins_at_head past (Head stream fields last) e = head_begins stream last (method_of fields) e
  begins_at_head past (Data stream bytes) e =
      absurd (requests_begin_none stream (further (bytes_on stream past) bytes) (cut (bytes_on stream past ++ bytes)).ending
      (if_begins (is_going method_of compressed too_long truncated stream past) (map (Request stream) (further (bytes_on stream past) bytes) ++ refusals method_of compressed too_long truncated stream (cut (bytes_on stream past ++ bytes)).ending) e))
  begins_at_head past (Ended stream) e =
      absurd (end_begins_none stream (cut (bytes_on stream past)).rest
      (if_begins (is_going method_of compressed too_long truncated stream past) (end_calls method_of compressed too_long truncated stream (cut (bytes_on stream past)).rest) e))
  begins_at_head past (Reset stream why) e = let wrong : false ≡ true = if_begins (is_going method_of compressed too_long truncated stream past) (Dropped stream ∷ []) e in absurd cc
  begins_at_head past (GoneAway stream why) e = absurd cc

  begun_has_head : (past es : List Event) → begins_in (collect spells past es) ≡ true → list_any (heads_on id) es ≡ true
  begun_has_head past [] e = absurd cc
  begun_has_head past (v ∷ es) e = elim (one_of (begins_in (spells past v)) (begins_in (collect spells (past ++ v ∷ []) es)) (sym (list_any-append (is_begun_call id) (spells past v) (collect spells (past ++ v ∷ []) es)) ∙ e)) [
    | inl now ↦ first_true (heads_on id v) (list_any (heads_on id) es) (begins_at_head past v now)
    | inr later ↦ second (heads_on id v) (list_any (heads_on id) es) (begun_has_head (past ++ v ∷ []) es later)
  ]
    where
      second : (a b : Bool) → b ≡ true → (a || b) ≡ true
      second true b e = refl
      second false b e = e

-- ---- a head stands on a stream that was begun

pub begun_more : (x more : List Step) (id : ℕ) → is_begun Server x id ≡ true → is_begun Server (x ++ more) id ≡ true
begun_more x [] id e = ap (λ (y : List Step). is_begun Server y id) (append-nil x) ∙ e
begun_more x (s ∷ more) id e =
    sym (ap (λ (y : List Step). is_begun Server y id) (append_assoc x (s ∷ []) more))
    ∙ begun_more (x ++ s ∷ []) more id (begun_push Server x s id ∙ first_true (is_begun Server x id) (begins Server id x s) e)

module _ (limits : H2Limits) (heads : List Outcome) (id : ℕ) where
  abbrev head_in : List Event → Type 0
  head_in es = list_any (heads_on id) es ≡ true

  read_head : (past : List Step) (f : Frame) (b : Block) (o : Option Outcome) → is_live_at Server past f b.stream ≡ true → head_in (read_events Server past b o) → is_begun Server (past ++ Received f ∷ []) id ≡ true
  read_head past f b None live e = absurd cc
  read_head past f b (Some (Err fault)) live e = absurd cc
  read_head past f b (Some (Ok fields)) live e = by (has_head (received past) b.stream) e
    where
      by : (t : Bool) → head_in (if t then Ended b.stream ∷ [] else Head b.stream fields b.last ∷ []) → is_begun Server (past ++ Received f ∷ []) id ≡ true
      by true e = absurd cc
      by false e = subst (λ (k : ℕ). is_begun Server (past ++ Received f ∷ []) k ≡ true) (eqb-true b.stream id (alone (b.stream == id) e)) (at_begun past f b.stream live)
        where
          alone : (t : Bool) → (t || false) ≡ true → t ≡ true
          alone true e = refl
          alone false e = absurd cc

  block_head : (past : List Step) (f : Frame) (o : Option Block) → head_in (block_events Server heads past f o) → is_begun Server (past ++ Received f ∷ []) id ≡ true
  block_head past f None e = absurd cc
  block_head past f (Some b) e = by (is_live_at Server past f b.stream) refl e
    where
      by : (t : Bool) → is_live_at Server past f b.stream ≡ t → head_in (if t then read_events Server past b (outcome_for heads (received past) (Some b)) else []) → is_begun Server (past ++ Received f ∷ []) id ≡ true
      by true live e = read_head past f b (outcome_for heads (received past) (Some b)) live e
      by false live e = absurd cc

  sound_head : (past : List Step) (f : Frame) → head_in (sound_events Server heads past f) → is_begun Server (past ++ Received f ∷ []) id ≡ true
  sound_head past f e = by (is_data f) (is_rst_stream f) (is_goaway f) (is_live Server past (stream_of f)) (has_end_stream f) e
    where
      by : (carries rst away live ends : Bool) → head_in (
          if carries then (if live then Data (stream_of f) (data_of f) ∷ (if ends then Ended (stream_of f) ∷ [] else []) else [])
          else if rst then (if live then Reset (stream_of f) (code_of f) ∷ [] else [])
          else if away then GoneAway (last_stream_of f) (goaway_code_of f) ∷ [] else block_events Server heads past f (completed (received past) f)) → is_begun Server (past ++ Received f ∷ []) id ≡ true
      by true rst away true true e = absurd cc
      by true rst away true false e = absurd cc
      by true rst away false ends e = absurd cc
      by false true away true ends e = absurd cc
      by false true away false ends e = absurd cc
      by false false true live ends e = absurd cc
      by false false false live ends e = block_head past f (completed (received past) f) e

  step_head : (past : List Step) (s : Step) → head_in (events_of Server limits heads past s) → is_begun Server (past ++ s ∷ []) id ≡ true
  step_head past (Sent f) e = absurd cc
  step_head past (Received f) e = by (stream_error Server limits heads past f) e
    where
      by : (why : Option ErrorCode) → head_in (events_by (sound_events Server heads past f) (stream_of f) why) → is_begun Server (past ++ Received f ∷ []) id ≡ true
      by None e = sound_head past f e
      by (Some why) e = absurd cc

  heads_begun : (past x : List Step) → head_in (collect (events_of Server limits heads) past x) → is_begun Server (past ++ x) id ≡ true
  heads_begun past [] e = absurd cc
  heads_begun past (s ∷ x) e =
      let split : (past ++ s ∷ []) ++ x ≡ past ++ s ∷ x = append_assoc past (s ∷ []) x in
      sym (ap (λ (y : List Step). is_begun Server y id) split)
      ∙ elim (one_of (list_any (heads_on id) (events_of Server limits heads past s)) (list_any (heads_on id) (collect (events_of Server limits heads) (past ++ s ∷ []) x))
      (sym (list_any-append (heads_on id) (events_of Server limits heads past s) (collect (events_of Server limits heads) (past ++ s ∷ []) x)) ∙ e)) [
        | inl now ↦ begun_more (past ++ s ∷ []) x id (step_head past s now)
        | inr later ↦ heads_begun (past ++ s ∷ []) x later
      ]

  front_is_first : (past x : List Step) → IsPrefix (front_before (stop_at Server limits heads) past x) x
  front_is_first past [] = ([], refl)
  front_is_first past (s ∷ x) = by (is_some (stop_at Server limits heads past s)) (front_is_first (past ++ s ∷ []) x)
    where
      by : (t : Bool) → IsPrefix (front_before (stop_at Server limits heads) (past ++ s ∷ []) x) x → IsPrefix (if t then [] else s ∷ front_before (stop_at Server limits heads) (past ++ s ∷ []) x) (s ∷ x)
      by true h = (s ∷ x, refl)
      by false (more, e) = (more, ap (λ (l : List Step). s ∷ l) e)

  pub event_begun : (x : List Step) → head_in (events Server limits heads x) → is_begun Server x id ≡ true
  event_begun x e =
      let first = front_is_first [] x in
      ap (λ (y : List Step). is_begun Server y id) first.1 ∙ begun_more (before_stop Server limits heads x) first.0 id (heads_begun [] (before_stop Server limits heads x) e)

-- ---- what was told

asked_begins : (id : ℕ) (cs : List (Call Method CallEnd)) → list_any (begins_on id) (map Asked cs) ≡ list_any (is_begun_call id) cs
asked_begins id [] = refl
asked_begins id (Begun stream method ∷ cs) = ap (λ (b : Bool). stream == id || b) (asked_begins id cs)
asked_begins id (Request stream message ∷ cs) = asked_begins id cs
asked_begins id (Finished stream ∷ cs) = asked_begins id cs
asked_begins id (Dropped stream ∷ cs) = asked_begins id cs
asked_begins id (Declined stream answer ∷ cs) = asked_begins id cs

pub told_is_begun : (t : CallTrace) (output : List ℕ) (id : ℕ) → IsSoundCallTrace t output → t.connection_trace.role ≡ Server → list_any (begins_on id) t.reported ≡ true → is_begun Server t.connection_trace.frames id ≡ true
told_is_begun t output id sound is told =
    let c = t.connection_trace in
    let more = sound.reported in
    let all : list_any (begins_on id) (reported_in t) ≡ true = ap (list_any (begins_on id)) more.1 ∙ list_any-append (begins_on id) t.reported more.0 ∙ first_true (list_any (begins_on id) t.reported) (list_any (begins_on id) more.0) told in
    let as_server : list_any (begins_on id) (reported_by Server t.numbers (record c { role = Server })) ≡ true = subst (λ (r : Role). list_any (begins_on id) (reported_by r t.numbers (record c { role = r })) ≡ true) is all in
    let spelled : list_any (is_begun_call id) (calls (λ fields. method_by (head_of fields)) compressed too_long truncated (events Server c.limits c.heads c.frames)) ≡ true =
    sym (asked_begins id (calls (λ fields. method_by (head_of fields)) compressed too_long truncated (events Server c.limits c.heads c.frames))) ∙ as_server in
    event_begun c.limits c.heads id c.frames (begun_has_head (λ fields. method_by (head_of fields)) id [] (events Server c.limits c.heads c.frames) spelled)
