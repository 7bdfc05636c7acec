-- What a server sent before it may be sent whatever is received next.
use Rattle.std.proofs.Common.{inl, inr, ℕ, ◌<◌, ◌≤◌, List, [], ◌∷◌, ◌++◌, drop, length, sym, ap, subst, arith}
use Rattle.std.proofs.lemmas.List.{length-drop}
use Rattle.h2_frames.specs.declared.code.ErrorCode.{ErrorCode}
use Rattle.h2_frames.specs.declared.frame.Frame.{Frame}
use Rattle.h2_frames.specs.Stream.{Reads}
use Rattle.h2_frames.proofs.Prefixes.{MatchesPreface-append, MatchesPreface-cut}
use Rattle.h2_exchange.specs.declared.limits.H2Limits.{H2Limits}
use Rattle.h2_exchange.specs.declared.role.Role.{Role}
use Rattle.h2_exchange.specs.declared.role.Role.TheVariants.{Server}
use Rattle.h2_exchange.specs.Content.{Outcome}
use Rattle.h2_exchange.specs.Exchange.{Step, received}
use Rattle.h2_exchange.specs.Order.{AreFrames, RestBreaks, peer_preface}
use Rattle.h2_exchange.specs.Outgoing.{EndsWith, MaySend, SendsOnly, opens, acknowledges, credits, credits_stream, resets_error, resets, begins_stream, carries, goes_away}
use Rattle.http_connection.specs.ConnectionTrace.{fed_more}
use Rattle.grpc_stream.specs.CallTrace.{CallTrace, IsSoundCallTrace, changed}
use Rattle.call_answers.specs.declared.orders.Setting.{Setting}
use Rattle.server_turns.specs.Serving.{none_asked}
use Rattle.server_account.specs.Agreeing.{IsServer, IsSettled, MayBeRest}
use Rattle.server_account.proofs.Rests.{alive_rest, rests_of}
use Rattle.server_account.proofs.Serves.{sends_as}

-- ---- what the rest breaks

-- a wrong preface stays wrong, and nothing breaks no rule
nothing_breaks : (due bytes more next : List ℕ) (frames : List Frame) (why : ErrorCode) (place : ℕ) → RestBreaks due bytes frames [] why place → RestBreaks due (bytes ++ more) frames next why place
nothing_breaks due bytes more next frames why place (inl breaks) = inl ((λ p. breaks.0 (MatchesPreface-cut due bytes more p)), breaks.1, breaks.2)
nothing_breaks due bytes more next frames why place (inr breaks) = let long = breaks.1.0 in absurd (omega (arith, long))

long_due : (due bytes : List ℕ) (frames : List Frame) (rest : List ℕ) → Reads (drop (length due) bytes) frames rest → 0 < length rest → length due ≤ length bytes
long_due due bytes [] rest h some = omega (arith, length-drop (length due) bytes, ap length h)
long_due due bytes (f ∷ fs) rest h some = omega (arith, h.0, length-drop (length due) bytes)

-- and so does a rest behind all whole frames
rest_breaks : (due bytes more rest : List ℕ) (all frames : List Frame) (why : ErrorCode) (place : ℕ) → AreFrames due bytes all rest → RestBreaks due bytes frames rest why place → RestBreaks due (bytes ++ more) frames rest why place
rest_breaks due bytes more rest all frames why place whole (inl breaks) = inl ((λ p. breaks.0 (MatchesPreface-cut due bytes more p)), breaks.1, breaks.2)
rest_breaks due bytes more rest all frames why place (inl whole) (inr breaks) =
    let long = breaks.1.0 in
    inr (MatchesPreface-append due bytes more (long_due due bytes all rest whole.1 (omega (arith, long))) breaks.0, breaks.1, breaks.2, breaks.3)
rest_breaks due bytes more rest all frames why place (inr wrong) (inr breaks) = absurd (wrong.0 breaks.0)

-- ---- what may be sent

module _ (limits : H2Limits) (heads : List Outcome) (bytes rest later next : List ℕ) (past : List Step) (f : Frame)
    (on : (why : ErrorCode) (place : ℕ) → RestBreaks (peer_preface Server) bytes (received past) rest why place → RestBreaks (peer_preface Server) later (received past) next why place) where
  ends_on : (why : ErrorCode) → EndsWith Server limits heads bytes past rest why → EndsWith Server limits heads later past next why
  ends_on why (inl (place, inl stopped)) = inl (place, inl stopped)
  ends_on why (inl (place, inr breaks)) = inl (place, inr (breaks.0, on why place breaks.1))
  ends_on why (inr calm) = inr calm

  may_on : MaySend Server limits heads none_asked bytes rest past f → MaySend Server limits heads none_asked later next past f
  may_on (opens first text) = opens first text
  may_on (acknowledges is in_turn) = acknowledges is in_turn
  may_on (credits n text some within) = credits n text some within
  may_on (credits_stream id n text some lives within) = credits_stream id n text some lives within
  may_on (resets_error reset) = resets_error reset
  may_on (resets id why lives asked text) = resets id why lives asked text
  may_on (begins_stream begins) = begins_stream begins
  may_on (carries is opened) = carries is opened
  may_on (goes_away why ends text) = goes_away why (ends_on why ends) text

module _ (s : Setting) (t : CallTrace) (output : List ℕ) (h : IsServer s t output) where
  abbrev SendsNow : List ℕ → List ℕ → Type 0
  SendsNow bytes rest = SendsOnly Server t.connection_trace.limits t.connection_trace.heads none_asked bytes rest t.connection_trace.frames

  pub sends_any : ((rest : List ℕ) → MayBeRest t.connection_trace rest) → (more next : List ℕ) → SendsNow (t.connection_trace.fed ++ more) next
  sends_any any more next past behind f split =
      let may = sends_as s t output h [] (any []) past behind f split in (
        may_on t.connection_trace.limits t.connection_trace.heads t.connection_trace.fed [] (t.connection_trace.fed ++ more) next past f
            (λ why place breaks. nothing_breaks (peer_preface Server) t.connection_trace.fed more next (received past) why place breaks) may.0,
        may.1,
      )

  sends_behind : (rest : List ℕ) → MayBeRest t.connection_trace rest → AreFrames (peer_preface Server) t.connection_trace.fed (received t.connection_trace.frames) rest → (more : List ℕ) → SendsNow (t.connection_trace.fed ++ more) rest
  sends_behind rest may whole more past behind f split =
      let sends = sends_as s t output h rest may past behind f split in (
        may_on t.connection_trace.limits t.connection_trace.heads t.connection_trace.fed rest (t.connection_trace.fed ++ more) rest past f
            (λ why place breaks. rest_breaks (peer_preface Server) t.connection_trace.fed more rest (received t.connection_trace.frames) (received past) why place whole breaks) sends.0,
        sends.1,
      )

  pub sends_later : (rest : List ℕ) → MayBeRest t.connection_trace rest → (more : List ℕ) → SendsNow (t.connection_trace.fed ++ more) rest
  sends_later rest may more = elim (rests_of t.connection_trace) [
    | inl any ↦ sends_any any more rest
    | inr whole ↦ sends_behind rest may (subst (λ (r : Role). AreFrames (peer_preface r) t.connection_trace.fed (received t.connection_trace.frames) rest) h.role (whole rest may)) more
  ]

pub server_reads : (s : Setting) (t : CallTrace) (output rest : List ℕ) → IsServer s t output → IsSettled t rest → (piece later : List ℕ) → IsSoundCallTrace (changed (fed_more piece) t) later → IsServer s (changed (fed_more piece) t) later
server_reads s t output rest h settled piece later sound = record {
  sound = sound;
  role = h.role;
  numbers = h.numbers;
  limits = h.limits;
  first = h.first;
  sends = λ more _. subst (λ (r : Role). SendsOnly r t.connection_trace.limits t.connection_trace.heads none_asked (t.connection_trace.fed ++ piece) more t.connection_trace.frames) (sym h.role)
      (sends_any s t output h (λ left. alive_rest t.connection_trace left settled.alive) piece more);
  suited = h.suited;
}
