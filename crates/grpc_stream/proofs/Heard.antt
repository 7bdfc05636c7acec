-- What a client hears of a stream's DATA.
use Rattle.std.proofs.Common.{◌≡◌, ◌⊎◌, inl, inr, ℕ, ◌<◌, ◌≤◌, ◌^◌, max, Bool, ◌&&◌, ◌||◌, false, true, not, List, [], ◌∷◌, ◌++◌, take, drop, get_or, Option, Some, None, refl, sym, ap, subst, ◌∙◌, arith, append_assoc}
use Rattle.std.specs.Prelude.{if◌then◌else◌, ◌==◌, is_some, option_map, nat_lt, Ok, Err}
use Rattle.std.specs.Int.{w32, from_be_bytes}
use Rattle.std.specs.Option.{option_or}
use Rattle.std.proofs.lemmas.Bool.{ltb-false}
use Rattle.std.proofs.lemmas.Bool.Decides.{nat_tests}
use Rattle.std.proofs.lemmas.Nat.{from_be_bytes-to_be_bytes_4}
use Rattle.std.proofs.lemmas.List.{append-nil}
use Rattle.std.proofs.lemmas.List.Concat.{flat_map-append}
use Rattle.std.proofs.lemmas.List.Folds.{list_any-append}
use Rattle.h2_frames.specs.declared.code.ErrorCode.{ErrorCode}
use Rattle.h2_frames.specs.declared.code.TheConstants.ErrorCode as code
use Rattle.h2_frames.specs.declared.frame.Frame.{Frame}
use Rattle.h2_frames.specs.declared.frame.Frame.TheVariants.{RstStream, Unknown}
use Rattle.h2_frames.specs.Layout.{type_of, body_of, frame_text}
use Rattle.h2_exchange.specs.declared.limits.H2Limits.{H2Limits}
use Rattle.h2_exchange.specs.declared.role.Role.TheVariants.{Client}
use Rattle.h2_exchange.specs.Blocks.{Block, completed, data_of, open_block}
use Rattle.h2_exchange.specs.Content.{Outcome, outcome_for, stream_error}
use Rattle.h2_exchange.specs.Events.{Event, Head, Data, Ended, Reset, GoneAway, block_events, bytes_on, bytes_of, data_events, events_by, events_of, read_events, sound_events}
use Rattle.h2_exchange.specs.Exchange.{Step, Received, Sent, collect, first_broken, front_before, received, sent}
use Rattle.h2_exchange.specs.Frames.{stream_of, is_data, is_goaway, is_headers, is_push_promise, is_rst_stream, has_end_stream, code_of, last_stream_of, goaway_code_of}
use Rattle.h2_exchange.specs.Rules.{breaks_block_on, breaks_length, breaks_number, breaks_padding, breaks_start, exceeds_connection, frame_error, overfills_connection, raises_streams, shape_error, value_error}
use Rattle.h2_exchange.specs.Sending.{IsPrefix, ResetsErrors, reset_text}
use Rattle.h2_exchange.specs.Stops.{Stop, events, frame_stop, stop_at, stop_of}
use Rattle.h2_exchange.specs.Streams.{begins, has_rst_stream, highest, is_begun, is_live, is_live_at, is_odd, is_over, is_reset, is_ended_by, has_head}
use Rattle.h2_exchange.proofs.Staying.{none_more}
use Rattle.h2_exchange.proofs.Steps.{begun_push, highest_push, over_stays, sent_more}
use Rattle.grpc_stream.specs.ClientReads.{data_on}

-- ---- a reset

rst_is : (f : Frame) → type_of f ≡ 3 → is_rst_stream f ≡ true
rst_is (RstStream b) e = refl
rst_is (Unknown o b) e = let above : 9 < o.number = o.is_other in absurd (omega (arith, above, e))
rst_is f e = absurd (omega (arith, e))

same_test : (a b : ℕ) → a ≡ b → (a == b) ≡ true
same_test a b e = grind (arith, nat_tests)

is_reset_of : (r : Frame) (k : ℕ) (why : ErrorCode) → k < 2 ^ 31 → frame_text r ≡ reset_text k why → (is_rst_stream r && stream_of r == k) ≡ true
is_reset_of r k why small e =
    let own : (body_of r).stream < 2 ^ 31 = (body_of r).stream_in_range in
    let kind : type_of r ≡ 3 = ap (λ (x : List ℕ). get_or x 3 0) e in
    let stream : stream_of r ≡ k =
    sym (from_be_bytes-to_be_bytes_4 (stream_of r) (omega (arith, own))) ∙ ap (λ (x : List ℕ). from_be_bytes w32 (take 4 (drop 5 x))) e
    ∙ from_be_bytes-to_be_bytes_4 k (omega (arith, small)) in
    ap (λ (t : Bool). t && stream_of r == k) (rst_is r kind) ∙ same_test (stream_of r) k stream

-- ---- tests

not_live : (b o : Bool) → o ≡ true → (b && not o) ≡ false
not_live true true e = refl
not_live false o e = refl
not_live true false e = absurd cc

not_begun : (b o : Bool) → (b && not o) ≡ false → o ≡ false → b ≡ false
not_begun false o e f = refl
not_begun true true e f = absurd cc
not_begun true false e f = absurd cc

or_right : (a b : Bool) → b ≡ true → (a || b) ≡ true
or_right true b e = refl
or_right false b e = e

or_left : (a b : Bool) → a ≡ true → (a || b) ≡ true
or_left true b e = refl
or_left false b e = absurd cc

both_false : (a b : Bool) → a ≡ false → b ≡ false → (a || b) ≡ false
both_false false false e f = refl
both_false true b e f = absurd cc
both_false false true e f = absurd cc

is_false : (a : Bool) → (a ≡ true → ⊥) → a ≡ false
is_false true k = absurd (k refl)
is_false false k = refl

first_none : {A : Type 0} (o later : Option A) → option_or o later ≡ None → o ≡ None
first_none None later e = refl
first_none (Some x) later e = absurd cc

map_none : {A B : Type 0} (f : A → B) (o : Option A) → option_map f o ≡ None → o ≡ None
map_none f None e = refl
map_none f (Some x) e = absurd cc

fourth : {A : Type 0} (a b c d : Bool) (w x y z : A) (rules : List (Bool × A)) → first_broken ((a, w) ∷ (b, x) ∷ (c, y) ∷ (d, z) ∷ rules) ≡ None → d ≡ false
fourth true b c d w x y z rules e = absurd cc
fourth false true c d w x y z rules e = absurd cc
fourth false false true d w x y z rules e = absurd cc
fourth false false false true w x y z rules e = absurd cc
fourth false false false false w x y z rules e = refl

shaped : (bad : Bool) (opened : Option ℕ) (greatest : ℕ) (f : Frame) → shape_error Client bad opened greatest f ≡ None → breaks_number Client greatest f ≡ false
shaped bad opened greatest f e =
    fourth bad (is_push_promise f) (breaks_block_on opened f) (breaks_number Client greatest f) code.PROTOCOL_ERROR code.PROTOCOL_ERROR code.PROTOCOL_ERROR code.PROTOCOL_ERROR
    ((breaks_length greatest f, code.FRAME_SIZE_ERROR) ∷ (breaks_padding f, code.PROTOCOL_ERROR) ∷ []) e

-- zero, parity, idle: the number of a frame of data
number_is : (d h p r c z w m o l par : Bool) → d ≡ true → (((d || h || p || r || c) && z || (m && not z)) || par || ((d || r || w) && not z && (not o || l))) ≡ false → l ≡ false
number_is true h p r c true w m o l par e k = absurd cc
number_is true h p r c false w true o l par e k = absurd cc
number_is true h p r c false w false o l true e k = absurd cc
number_is true h p r c false w false false l false e k = absurd cc
number_is true h p r c false w false true true false e k = absurd cc
number_is true h p r c false w false true false false e k = refl
number_is false h p r c z w m o l par e k = absurd cc

low_number : (greatest : ℕ) (f : Frame) → is_data f ≡ true → breaks_number Client greatest f ≡ false → stream_of f ≤ greatest
low_number greatest f content e = ltb-false _ _ (number_is (is_data f) _ _ _ _ _ _ _ _ (nat_lt greatest (stream_of f)) _ content e)

-- ---- what is begun no more

module _ (id : ℕ) where
  abbrev Dead : List Step → Type 0
  Dead past = (more : List Step) → is_live Client (past ++ more) id ≡ false

  dead_push : (past : List Step) (s : Step) → Dead past → Dead (past ++ s ∷ [])
  dead_push past s d = λ more. ap (λ (y : List Step). is_live Client y id) (append_assoc past (s ∷ []) more) ∙ d (s ∷ more)

  dead_over : (past : List Step) → is_over past id ≡ true → Dead past
  dead_over past h = λ more. not_live (is_begun Client (past ++ more) id) (is_over (past ++ more) id) (over_stays past more id h)

  new_high : (h o : Bool) (m n : ℕ) → ((h && o && nat_lt m n && n == id) || false) ≡ true → m < id
  new_high true true m n e = grind (arith, nat_tests)
  new_high true false m n e = absurd cc
  new_high false o m n e = absurd cc

  begins_high : (past : List Step) (s : Step) → begins Client id past s ≡ true → highest (sent past) < id
  begins_high past (Received f) e = absurd cc
  begins_high past (Sent f) e = new_high (is_headers f) (is_odd (stream_of f)) (highest (sent past)) (stream_of f) e

  raised : (h o : Bool) (m n : ℕ) → m ≤ (if h && o then max m n else m)
  raised true true m n = omega arith
  raised true false m n = omega arith
  raised false o m n = omega arith

  still_low : (past : List Step) (s : Step) → id ≤ highest (sent past) → id ≤ highest (sent (past ++ s ∷ []))
  still_low past (Received f) le = omega (arith, le, ap highest (sent_more past (Received f ∷ []) ∙ append-nil (sent past)))
  still_low past (Sent f) le =
      omega (arith, le, ap highest (sent_more past (Sent f ∷ [])), highest_push (sent past) f, raised (is_headers f) (is_odd (stream_of f)) (highest (sent past)) (stream_of f))

  never_begun : (past more : List Step) → id ≤ highest (sent past) → is_begun Client past id ≡ false → is_begun Client (past ++ more) id ≡ false
  never_begun past [] le none = ap (λ (y : List Step). is_begun Client y id) (append-nil past) ∙ none
  never_begun past (s ∷ more) le none =
      ap (λ (y : List Step). is_begun Client y id) (sym (append_assoc past (s ∷ []) more))
      ∙ never_begun (past ++ s ∷ []) more (still_low past s le)
      (begun_push Client past s id ∙ both_false (is_begun Client past id) (begins Client id past s) none (is_false (begins Client id past s) (λ b. omega (arith, le, begins_high past s b))))

  dead_low : (past : List Step) → id ≤ highest (sent past) → is_begun Client past id ≡ false → Dead past
  dead_low past le none = λ more. ap (λ (b : Bool). b && not (is_over (past ++ more) id)) (never_begun past more le none)

  by_over : (past : List Step) (o : Bool) → is_over past id ≡ o → id ≤ highest (sent past) → is_live Client past id ≡ false → Dead past
  by_over past true is le unlive = dead_over past is
  by_over past false is le unlive = dead_low past le (not_begun (is_begun Client past id) (is_over past id) unlive is)

  dead_reset : (past : List Step) (r : Frame) → (is_rst_stream r && stream_of r == id) ≡ true → Dead (past ++ Sent r ∷ [])
  dead_reset past r is =
      let now = past ++ Sent r ∷ [] in
      let stands : has_rst_stream (sent now) id ≡ true =
      ap (λ (fs : List Frame). has_rst_stream fs id) (sent_more past (Sent r ∷ [])) ∙ list_any-append _ (sent past) (r ∷ [])
      ∙ or_right (has_rst_stream (sent past) id) _ (or_left (is_rst_stream r && stream_of r == id) false is) in
      dead_over now (or_left (is_reset now id) (is_ended_by (received now) id && is_ended_by (sent now) id) (or_right (has_rst_stream (received now) id) (has_rst_stream (sent now) id) stands))

-- ---- one frame

if_reset : (id : ℕ) (t : Bool) (stream : ℕ) (why : ErrorCode) → bytes_on id (if t then Reset stream why ∷ [] else []) ≡ []
if_reset id true stream why = refl
if_reset id false stream why = refl

if_both : (id : ℕ) (t : Bool) (a b : List Event) → bytes_on id a ≡ [] → bytes_on id b ≡ [] → bytes_on id (if t then a else b) ≡ []
if_both id true a b p q = p
if_both id false a b p q = q

one_data : (id stream : ℕ) (bytes : List ℕ) (e : Bool) → bytes_on id (Data stream bytes ∷ (if e then Ended stream ∷ [] else [])) ≡ (if stream == id then bytes else [])
one_data id stream bytes true = append-nil (if stream == id then bytes else [])
one_data id stream bytes false = append-nil (if stream == id then bytes else [])

if_data : (id : ℕ) (d l t : Bool) (own others : List Event) (bytes : List ℕ) → bytes_on id own ≡ (if t then bytes else []) → bytes_on id others ≡ [] →
    bytes_on id (if d then (if l then own else []) else others) ≡ (if d && t then (if l then bytes else []) else [])
if_data id false l t own others bytes e f = f
if_data id true true true own others bytes e f = e
if_data id true true false own others bytes e f = e
if_data id true false true own others bytes e f = refl
if_data id true false false own others bytes e f = refl

from_test : (a b : ℕ) → (a == b) ≡ true → a ≡ b
from_test a b e = grind (arith, nat_tests)

both_true : (a b : Bool) → (a && b) ≡ true → (a ≡ true) × (b ≡ true)
both_true true b e = (refl, e)
both_true false b e = absurd cc

both_empty : (t : Bool) (a b : List ℕ) → a ≡ [] → b ≡ [] → (if t then [] else a ++ b) ≡ []
both_empty true a b e f = refl
both_empty false a b e f = rw (e, f) refl

by_stop : (o : Option Stop) (got all : List ℕ) → (o ≡ None → IsPrefix got all) → IsPrefix (if is_some o then [] else got) all
by_stop (Some why) got all k = (all, refl)
by_stop None got all k = k refl

prefix_of : (a b all : List ℕ) → a ≡ b → IsPrefix b all → IsPrefix a all
prefix_of a b all e p = (p.0, p.1 ∙ ap (λ (l : List ℕ). l ++ p.0) (sym e))

chosen : (got later piece rest : List ℕ) → ((got ≡ piece) ⊎ ((got ≡ []) × (later ≡ []))) → IsPrefix later rest → IsPrefix (got ++ later) (piece ++ rest)
chosen got later piece rest (inl same) q =
    (q.0, ap (λ (l : List ℕ). piece ++ l) q.1 ∙ sym (append_assoc piece later q.0) ∙ ap (λ (l : List ℕ). (l ++ later) ++ q.0) (sym same))
chosen got later piece rest (inr (none, nothing)) q = (piece ++ rest, sym (ap (λ (l : List ℕ). (l ++ later) ++ (piece ++ rest)) none ∙ ap (λ (l : List ℕ). l ++ (piece ++ rest)) nothing))

-- ---- all frames

module _ (limits : H2Limits) (outcomes : List Outcome) (id : ℕ) where
  abbrev heard : List Step → List Step → List ℕ
  heard past x = bytes_on id (collect (events_of Client limits outcomes) past (front_before (stop_at Client limits outcomes) past x))

  read_none : (past : List Step) (b : Block) (o : Option Outcome) → bytes_on id (read_events Client past b o) ≡ []
  read_none past b None = refl
  read_none past b (Some (Ok fields)) = if_both id (has_head (received past) b.stream) (Head b.stream fields true ∷ []) (Head b.stream fields b.last ∷ []) refl refl
  read_none past b (Some (Err fault)) = refl

  block_none : (past : List Step) (f : Frame) (o : Option Block) → bytes_on id (block_events Client outcomes past f o) ≡ []
  block_none past f None = refl
  block_none past f (Some b) =
      let read = read_events Client past b (outcome_for outcomes (received past) (Some b)) in
      if_both id (is_live_at Client past f b.stream) read [] (read_none past b (outcome_for outcomes (received past) (Some b))) refl

  sound_bytes : (past : List Step) (f : Frame) →
      bytes_on id (sound_events Client outcomes past f) ≡ (if is_data f && stream_of f == id then (if is_live Client past (stream_of f) then data_of f else []) else [])
  sound_bytes past f =
      if_data id (is_data f) (is_live Client past (stream_of f)) (stream_of f == id) (data_events f) _ (data_of f)
      (one_data id (stream_of f) (data_of f) (has_end_stream f))
      (if_both id (is_rst_stream f) (if is_live Client past (stream_of f) then Reset (stream_of f) (code_of f) ∷ [] else []) _
      (if_reset id (is_live Client past (stream_of f)) (stream_of f) (code_of f))
      (if_both id (is_goaway f) (GoneAway (last_stream_of f) (goaway_code_of f) ∷ []) _ refl (block_none past f (completed (received past) f))))

  live_here : (past : List Step) → Dead id past → is_live Client past id ≡ false
  live_here past dead = ap (λ (y : List Step). is_live Client y id) (sym (append-nil past)) ∙ dead []

  quiet_piece : (p l : Bool) (bytes : List ℕ) → (p ≡ true → l ≡ false) → (if p then (if l then bytes else []) else []) ≡ []
  quiet_piece false l bytes k = refl
  quiet_piece true false bytes k = refl
  quiet_piece true true bytes k = let wrong = k refl in absurd cc

  quiet_by : (past : List Step) (f : Frame) (o : Option ErrorCode) → Dead id past → bytes_on id (events_by (sound_events Client outcomes past f) (stream_of f) o) ≡ []
  quiet_by past f (Some why) dead = refl
  quiet_by past f None dead =
      sound_bytes past f
      ∙ quiet_piece (is_data f && stream_of f == id) (is_live Client past (stream_of f)) (data_of f)
      (λ p. ap (is_live Client past) (from_test (stream_of f) id (both_true (is_data f) (stream_of f == id) p).1) ∙ live_here past dead)

  quiet : (past : List Step) (s : Step) → Dead id past → bytes_on id (events_of Client limits outcomes past s) ≡ []
  quiet past (Sent f) dead = refl
  quiet past (Received f) dead = quiet_by past f (stream_error Client limits outcomes past f) dead

  first_step : (past : List Step) (s : Step) (front : List Step) (o : Option Stop) →
      bytes_on id (collect (events_of Client limits outcomes) past (if is_some o then [] else s ∷ front))
      ≡ (if is_some o then [] else bytes_on id (events_of Client limits outcomes past s) ++ bytes_on id (collect (events_of Client limits outcomes) (past ++ s ∷ []) front))
  first_step past s front (Some why) = refl
  first_step past s front None = flat_map-append (bytes_of id) (events_of Client limits outcomes past s) (collect (events_of Client limits outcomes) (past ++ s ∷ []) front)

  goes_from : (past : List Step) (s : Step) (x : List Step) →
      heard past (s ∷ x) ≡ (if is_some (stop_at Client limits outcomes past s) then [] else bytes_on id (events_of Client limits outcomes past s) ++ heard (past ++ s ∷ []) x)
  goes_from past s x = first_step past s (front_before (stop_at Client limits outcomes) (past ++ s ∷ []) x) (stop_at Client limits outcomes past s)

  heard_dead : (past x : List Step) → Dead id past → heard past x ≡ []
  heard_dead past [] dead = refl
  heard_dead past (s ∷ x) dead =
      goes_from past s x
      ∙ both_empty (is_some (stop_at Client limits outcomes past s)) (bytes_on id (events_of Client limits outcomes past s)) (heard (past ++ s ∷ []) x)
      (quiet past s dead) (heard_dead (past ++ s ∷ []) x (dead_push id past s dead))

  well_numbered : (past : List Step) (f : Frame) → stop_at Client limits outcomes past (Received f) ≡ None → breaks_number Client (highest (sent past)) f ≡ false
  well_numbered past f e =
      let a : frame_stop Client limits outcomes past f ≡ None = first_none _ _ e in
      let b : frame_error Client past f ≡ None = map_none _ (frame_error Client past f) (first_none _ _ a) in
      let c = first_none (shape_error Client (breaks_start past f) (option_map (λ (b : Block). b.stream) (open_block (received past))) (highest (sent past)) f)
      (option_or (value_error Client f)
      (first_broken ((exceeds_connection past f, code.FLOW_CONTROL_ERROR) ∷ (overfills_connection past f, code.FLOW_CONTROL_ERROR) ∷ (raises_streams Client past f, code.FLOW_CONTROL_ERROR) ∷ [])))
      b in
      shaped (breaks_start past f) (option_map (λ (b : Block). b.stream) (open_block (received past))) (highest (sent past)) f c

  module _ (y : List Step) (resets : ResetsErrors Client limits outcomes y) where
    abbrev piece : Frame → List ℕ
    piece f = if is_data f && stream_of f == id then data_of f else []

    abbrev Chooses : List Step → Frame → List Step → List ℕ → Type 0
    Chooses past f x got = (got ≡ piece f) ⊎ ((got ≡ []) × (heard (past ++ Received f ∷ []) x ≡ []))

    live_piece : (past : List Step) (f : Frame) (x : List Step) (l : Bool) → is_live Client past (stream_of f) ≡ l → stop_at Client limits outcomes past (Received f) ≡ None →
        (is_data f && stream_of f == id) ≡ true → Chooses past f x (if is_data f && stream_of f == id then (if l then data_of f else []) else [])
    live_piece past f x true is calm p = inl refl
    live_piece past f x false is calm p =
        let t = both_true (is_data f) (stream_of f == id) p in
        let same : stream_of f ≡ id = from_test (stream_of f) id t.1 in
        let low : stream_of f ≤ highest (sent past) = low_number (highest (sent past)) f t.0 (well_numbered past f calm) in
        let dead : Dead id past = by_over id past (is_over past id) refl (omega (arith, same, low)) (ap (is_live Client past) (sym same) ∙ is) in
        inr (ap (λ (b : Bool). if b then [] else []) p, heard_dead (past ++ Received f ∷ []) x (dead_push id past (Received f) dead))

    choose : (past : List Step) (f : Frame) (x : List Step) (o : Option ErrorCode) (p : Bool) → y ≡ past ++ Received f ∷ x → stop_of Client limits outcomes past ≡ None →
        stop_at Client limits outcomes past (Received f) ≡ None → stream_error Client limits outcomes past f ≡ o → (is_data f && stream_of f == id) ≡ p →
        Chooses past f x (bytes_on id (events_by (sound_events Client outcomes past f) (stream_of f) o))
    choose past f x (Some why) false all before calm e p = inl (sym (ap (λ (b : Bool). if b then data_of f else []) p))
    choose past f x None false all before calm e p =
        inl (sound_bytes past f ∙ ap (λ (b : Bool). if b then (if is_live Client past (stream_of f) then data_of f else []) else []) p
        ∙ sym (ap (λ (b : Bool). if b then data_of f else []) p))
    choose past f x None true all before calm e p =
        subst (Chooses past f x) (sym (sound_bytes past f)) (live_piece past f x (is_live Client past (stream_of f)) refl calm p)
    choose past f x (Some why) true all before calm e p =
        let now = past ++ Received f ∷ [] in
        let same : stream_of f ≡ id = from_test (stream_of f) id (both_true (is_data f) (stream_of f == id) p).1 in
        let small : (body_of f).stream < 2 ^ 31 = (body_of f).stream_in_range in
        let r = resets past x f why all (none_more Client limits outcomes past (Received f) before calm) e in
        let is : (is_rst_stream r.0 && stream_of r.0 == id) ≡ true = ap (λ (k : ℕ). is_rst_stream r.0 && stream_of r.0 == k) (sym same) ∙ is_reset_of r.0 (stream_of f) why small r.3 in
        inr (
          refl,
          ap (heard now) r.2 ∙ goes_from now (Sent r.0) r.1
              ∙ both_empty (is_some (stop_at Client limits outcomes now (Sent r.0))) [] (heard (now ++ Sent r.0 ∷ []) r.1) refl
              (heard_dead (now ++ Sent r.0 ∷ []) r.1 (dead_reset id now r.0 is)),
        )

    goes : (past x : List Step) → y ≡ past ++ x → stop_of Client limits outcomes past ≡ None → IsPrefix (heard past x) (data_on id (received x))
    goes past [] all before = ([], refl)
    goes past (Sent f ∷ x) all before =
        prefix_of (heard past (Sent f ∷ x)) _ (data_on id (received x)) (goes_from past (Sent f) x)
        (by_stop (stop_at Client limits outcomes past (Sent f)) (heard (past ++ Sent f ∷ []) x) (data_on id (received x))
        (λ calm. goes (past ++ Sent f ∷ []) x (all ∙ sym (append_assoc past (Sent f ∷ []) x)) (none_more Client limits outcomes past (Sent f) before calm)))
    goes past (Received f ∷ x) all before =
        let got = bytes_on id (events_of Client limits outcomes past (Received f)) in
        let later = heard (past ++ Received f ∷ []) x in
        prefix_of (heard past (Received f ∷ x)) _ (data_on id (received (Received f ∷ x))) (goes_from past (Received f) x)
        (by_stop (stop_at Client limits outcomes past (Received f)) (got ++ later) (data_on id (received (Received f ∷ x)))
        (λ calm.
        chosen got later (piece f) (data_on id (received x))
        (choose past f x (stream_error Client limits outcomes past f) (is_data f && stream_of f == id) all before calm refl refl)
        (goes (past ++ Received f ∷ []) x (all ∙ sym (append_assoc past (Received f ∷ []) x)) (none_more Client limits outcomes past (Received f) before calm))))

-- the bytes that a client is given on a stream begin those of the DATA that it received
pub heard_front : (limits : H2Limits) (outcomes : List Outcome) (id : ℕ) (y : List Step) → ResetsErrors Client limits outcomes y →
    IsPrefix (bytes_on id (events Client limits outcomes y)) (data_on id (received y))
heard_front limits outcomes id y resets = goes limits outcomes id y resets [] y refl refl
