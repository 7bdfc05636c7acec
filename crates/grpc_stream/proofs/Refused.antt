-- What is sent with events, and up to a refusal, may be sent.
use Rattle.std.proofs.Common.{◌≡◌, ℕ, ◌+◌, ◌≤◌, Bool, ◌&&◌, true, false, List, [], ◌∷◌, ◌++◌, length, Option, Some, None, refl, sym, ap, ◌∙◌, subst, arith, append_assoc}
use Rattle.std.specs.Prelude.{nat_lt, slice_index, if◌then◌else◌}
use Rattle.std.specs.Option.{option_or}
use Rattle.std.proofs.lemmas.List.{append-nil, length-append}
use Rattle.std.proofs.lemmas.Bool.{and_left}
use Rattle.std.proofs.lemmas.Bool.Decides.{nat_tests}
use Rattle.h2_frames.specs.declared.code.ErrorCode.{ErrorCode}
use Rattle.h2_frames.specs.declared.frame.Frame.{Frame}
use Rattle.h2_frames.specs.declared.frame.Frame.TheVariants.{RstStream}
use Rattle.h2_frames.specs.Layout.{frame_text}
use Rattle.h2_exchange.specs.declared.limits.CalmCause.TheVariants.{Resets}
use Rattle.h2_exchange.specs.declared.limits.H2Limits.{H2Limits}
use Rattle.h2_exchange.specs.declared.role.Role.{Role}
use Rattle.h2_exchange.specs.Content.{Outcome}
use Rattle.h2_exchange.specs.Events.{Event}
use Rattle.h2_exchange.specs.Exchange.{Step, Sent, received, sent, collect, first_given}
use Rattle.h2_exchange.specs.Frames.{stream_of, is_rst_stream}
use Rattle.h2_exchange.specs.Order.{AreFrames, peer_preface}
use Rattle.h2_exchange.specs.Sending.{acks_for, acks_in, goaway_text}
use Rattle.h2_exchange.specs.Stops.{Calm, before_stop, count_steps, cuts_request, ends_call, has_many_resets, received_stop, stop_at, stop_of}
use Rattle.h2_exchange.specs.Streams.{is_begun}
use Rattle.h2_exchange.proofs.Looking.{collect_push}
use Rattle.h2_exchange.proofs.Staying.{events_go_on}
use Rattle.h2_exchange.proofs.Steps.{received_sent}
use Rattle.http_connection.specs.Answers.{GivesEvents, Receives, after, code_of}
use Rattle.http_connection.specs.ConnectionTrace.{ConnectionTrace, IsSound, NoMemory, Refusal, stop_in}
use Rattle.http_connection.specs.Laws.{EventsSend, RefusalsSend, SendsIn}
use Rattle.grpc_stream.specs.Laws.{OutOfMemorySends}
use Rattle.grpc_stream.proofs.Kept.{sending_is_kept}
use Rattle.grpc_stream.proofs.Replied.{Owes, all_answered, nothing}
use Rattle.grpc_stream.proofs.Sending.{goaways_send}

-- ---- events

begins_owing : (is_asked : List Step → ℕ → ErrorCode → Bool) (rest : List ℕ) (c : ConnectionTrace) (outcomes : List Outcome) (output : List ℕ) → IsSound c output → c.refusal ≡ None → SendsIn is_asked rest c →
    Owes c.role c.limits (c.heads ++ outcomes) is_asked c.fed rest c.is_holding 0 nothing 0 c.frames
begins_owing is_asked rest c outcomes output sound alive sends = record {
  sends = sending_is_kept c.role c.limits c.heads outcomes is_asked c.fed rest c.frames sound.read.enough sends;
  asked = fewer (acks_in (sent c.frames)) (acks_for (received c.frames)) sound.acknowledged.0 sound.acknowledged.1;
  whole = λ free. omega (arith, (sound.credited alive free).whole);
  streams = λ free id lives. omega (arith, (sound.credited alive free).streams id lives);
}
  where
    fewer : (xs ys more : List (List ℕ)) → ys ≡ xs ++ more → length xs + 0 ≤ length ys
    fewer xs ys more e = omega (arith, ap length e, length-append xs more)

-- up to a front of the frames of a connection that is sound
received_before : (is_asked : List Step → ℕ → ErrorCode → Bool) (rest : List ℕ) (c d e : ConnectionTrace) (more behind : List Step) (outcomes : List Outcome) (es : List Event) (refusal : Option Refusal) (output later : List ℕ) → IsSound c output → IsSound e later →
    c.refusal ≡ None → Receives c.role c.limits c.is_holding (c.heads ++ outcomes) c.frames more → d ≡ after more outcomes es refusal c → e.frames ≡ d.frames ++ behind → SendsIn is_asked rest c → SendsIn is_asked rest d
received_before is_asked rest c d e more behind outcomes es refusal output later sound whole alive receives goes_on split sends =
    let at : e.frames ≡ c.frames ++ (more ++ behind) = split ∙ ap (λ (v : ConnectionTrace). v.frames ++ behind) goes_on ∙ append_assoc c.frames more behind in
    subst (SendsIn is_asked rest) (sym goes_on)
    (all_answered c.role c.limits (c.heads ++ outcomes) is_asked c.fed rest c.is_holding e.frames whole.placed whole.acknowledged c.frames more behind receives at
    (begins_owing is_asked rest c outcomes output sound alive sends))

events_before : (is_asked : List Step → ℕ → ErrorCode → Bool) (rest : List ℕ) (c d e : ConnectionTrace) (es : List Event) (behind : List Step) (output later : List ℕ) → IsSound c output → IsSound e later → GivesEvents c es d →
    e.frames ≡ d.frames ++ behind → SendsIn is_asked rest c → SendsIn is_asked rest d
events_before is_asked rest c d e es behind output later sound whole h split sends = received_before is_asked rest c d e h.more behind h.outcomes es None output later sound whole h.alive h.receives h.goes_on split sends

pub events_send : EventsSend
events_send = λ is_asked rest c d es output later sound whole h sends. events_before is_asked rest c d d es [] output later sound whole h (sym (append-nil d.frames)) sends

pub out_of_memory_sends : OutOfMemorySends
out_of_memory_sends = λ is_asked rest c d output later sound whole h sends.
    received_before is_asked rest c d d h.more [] h.outcomes [] (Some NoMemory) output later sound whole h.alive h.receives h.ends (sym (append-nil d.frames)) sends

-- ---- a refusal

module _ (role : Role) (limits : H2Limits) (heads : List Outcome) where
  none_of : {A : Type 0} (o later : Option A) → option_or o later ≡ None → (o ≡ None) × (later ≡ None)
  none_of None later e = (refl, e)
  none_of (Some a) later e = absurd cc

  unset : (b : Bool) → (if b then Some (Calm Resets) else None) ≡ None → b ≡ false
  unset true e = absurd cc
  unset false e = refl

  few_from : (past x : List Step) → has_many_resets role limits heads past ≡ false → first_given (stop_at role limits heads) past x ≡ None → has_many_resets role limits heads (past ++ x) ≡ false
  few_from past [] few clear = ap (has_many_resets role limits heads) (append-nil past) ∙ few
  few_from past (s ∷ x) few clear =
      let both = none_of (stop_at role limits heads past s) (first_given (stop_at role limits heads) (past ++ s ∷ []) x) clear in
      let now = none_of (received_stop role limits heads past s) (if has_many_resets role limits heads (past ++ s ∷ []) then Some (Calm Resets) else None) both.0 in
      sym (ap (has_many_resets role limits heads) (append_assoc past (s ∷ []) x)) ∙ few_from (past ++ s ∷ []) x (unset (has_many_resets role limits heads (past ++ s ∷ [])) now.1) both.1

  count_push : (test : List Step → Step → Bool) (x : List Step) (s : Step) → count_steps test (x ++ s ∷ []) ≡ count_steps test x + (if test x s then 1 else 0)
  count_push test x s =
      ap length (collect_push (λ (past : List Step) (t : Step). if test past t then t ∷ [] else []) x s)
      ∙ length-append (collect (λ (past : List Step) (t : Step). if test past t then t ∷ [] else []) [] x) (if test x s then s ∷ [] else []) ∙ ap (λ (n : ℕ). count_steps test x + n) (one (test x s))
    where
      one : (b : Bool) → length (if b then s ∷ [] else []) ≡ (if b then 1 else 0)
      one true = refl
      one false = refl

  still_few : (ends more cuts later : ℕ) → nat_lt (1000 + ends) cuts ≡ false → ends ≤ more → later ≡ cuts → nat_lt (1000 + more) later ≡ false
  still_few ends more cuts later few le e = grind (arith, nat_tests)

  -- a frame that resets no stream stops nothing where it is sent
  stays_clear : (x : List Step) (f : Frame) → is_rst_stream f ≡ false → stop_of role limits heads x ≡ None → stop_of role limits heads (x ++ Sent f ∷ []) ≡ None
  stays_clear x f no_reset clear =
      let few : has_many_resets role limits heads x ≡ false = few_from [] x refl clear in
      let no_cut : cuts_request role limits heads x (Sent f) ≡ false = and_left (is_rst_stream f && is_begun role x (stream_of f)) _ (and_left (is_rst_stream f) (is_begun role x (stream_of f)) no_reset) in
      let cuts : count_steps (cuts_request role limits heads) (x ++ Sent f ∷ []) ≡ count_steps (cuts_request role limits heads) x =
      count_push (cuts_request role limits heads) x (Sent f) ∙ ap (λ (b : Bool). count_steps (cuts_request role limits heads) x + (if b then 1 else 0)) no_cut ∙ plus_zero (count_steps (cuts_request role limits heads) x) in
      let ends : count_steps (ends_call limits heads role) x ≤ count_steps (ends_call limits heads role) (x ++ Sent f ∷ []) = omega (arith, count_push (ends_call limits heads role) x (Sent f)) in
      let calm : has_many_resets role limits heads (x ++ Sent f ∷ []) ≡ false =
      still_few (count_steps (ends_call limits heads role) x) (count_steps (ends_call limits heads role) (x ++ Sent f ∷ [])) (count_steps (cuts_request role limits heads) x)
      (count_steps (cuts_request role limits heads) (x ++ Sent f ∷ [])) few ends cuts in
      (events_go_on role limits heads x (Sent f) clear (ap (λ (b : Bool). if b then Some (Calm Resets) else None) calm)).0
    where
      plus_zero : (n : ℕ) → n + 0 ≡ n
      plus_zero n = omega arith

goaway_is : (role : Role) (x : List Step) (why : ErrorCode) (f : Frame) → frame_text f ≡ goaway_text role x why → is_rst_stream f ≡ false
goaway_is role x why (RstStream b) text = let n : 3 ≡ 7 = ap (λ (l : List ℕ). slice_index l 3) text in absurd (omega (arith, n))
goaway_is role x why other text = refl

pub refusals_send : RefusalsSend
refusals_send = λ is_asked rest c d stop output later sound whole h frames sends.
    let a = h.at in
    let behind : d.frames ≡ a.frames ++ Sent h.goaway ∷ [] = ap (λ (v : ConnectionTrace). v.frames) h.ends in
    let before : SendsIn is_asked rest a = events_before is_asked rest c a d [] (Sent h.goaway ∷ []) output later sound whole h.goes behind sends in
    let no_reset : is_rst_stream h.goaway ≡ false = goaway_is a.role (before_stop a.role a.limits a.heads a.frames) (code_of stop) h.goaway h.text in
    let on : (stop_in d ≡ None → AreFrames (peer_preface d.role) d.fed (received d.frames) rest) → stop_in a ≡ None → AreFrames (peer_preface a.role) a.fed (received a.frames) rest =
    λ there clear.
    let unstopped : stop_in d ≡ None =
    ap stop_in h.ends ∙ ap (λ (hs : List Outcome). stop_of a.role a.limits hs (a.frames ++ Sent h.goaway ∷ [])) (append-nil a.heads) ∙ stays_clear a.role a.limits a.heads a.frames h.goaway no_reset clear in
    subst (λ (fs : List Frame). AreFrames (peer_preface a.role) a.fed fs rest) (received_sent a.frames h.goaway)
    (subst (λ (v : ConnectionTrace). AreFrames (peer_preface v.role) v.fed (received v.frames) rest) h.ends (there unstopped)) in
    goaways_send is_asked rest c d stop later whole h (on frames) before
