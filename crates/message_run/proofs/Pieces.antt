-- One more piece of the input.
use Rattle.std.specs.Prelude.{IfNone, IfSome, MatchOption}
use Rattle.std.specs.Result.{is_err}
use Rattle.std.proofs.Common.{Bool, false, cond, is_ok, Result, Ok, Err, ◌≡◌, ℕ, ◌≤◌, List, [], ◌++◌, length, Option, Some, None, sym, ap, subst, ◌∙◌, append_assoc, arith}
use Rattle.std.proofs.lemmas.List.{append-nil, length-append}
use Rattle.grpc_framing.specs.declared.front.Front.TheVariants.{NeedMore}
use Rattle.grpc_framing.specs.Framing.{front_at, messages_of, all_then}
use Rattle.message_run.specs.Behaviour.{Behaviour, trace_from}
use Rattle.message_run.specs.Outcomes.{Close, MAX_MESSAGE_SIZE}
use Rattle.message_run.specs.Written.{Wrote, WrotePart}
use Rattle.message_run.specs.Reading.{HandledSoFar, AnswersBegin, RunContinues, ClosesIfSome, RunStops, close_of}
use Rattle.message_run.specs.declared.stop.Stop.{Stop}
use Rattle.message_run.proofs.Sinks.{wrote_more}
use Rattle.message_run.proofs.Streams.{begins_so}

-- the piece is held too
pub holds_more : (f : Behaviour) (stands : List (List ℕ) → Type 0) (bytes held piece written : List ℕ) → HandledSoFar f stands bytes held written → HandledSoFar f stands (bytes ++ piece) (held ++ piece) written
holds_more f stands bytes held piece written h = record {
  messages = h.messages;
  leads = λ more. ap (messages_of MAX_MESSAGE_SIZE) (append_assoc bytes piece more) ∙ h.leads (piece ++ more) ∙ ap (λ (x : List ℕ). all_then h.messages (messages_of MAX_MESSAGE_SIZE x)) (sym (append_assoc held piece more));
  goes = h.goes;
  stood = h.stood;
  size = omega (arith, h.size, length-append bytes piece, length-append held piece);
}

-- no more is held than was taken
pub held_within : (f : Behaviour) (stands : List (List ℕ) → Type 0) (bytes held : List ℕ) (before now : Option (List ℕ)) → RunContinues f stands bytes held before now → length held ≤ length bytes
held_within f stands bytes held before now h = omega (arith, h.reads.size)

pub was_extended : {T E : Type 0} (r : Result T E) (b : Bool) (a x y : List ℕ) → b ≡ is_err r → b ≡ false → a ≡ cond (is_ok r) x y → a ≡ x
was_extended (Ok v) b a x y e off h = h
was_extended (Err v) b a x y e off h = absurd cc

-- what the answers are gathered in is empty
pub reads_empty : (f : Behaviour) (stands : List (List ℕ) → Type 0) (bytes held piece sent held' out : List ℕ) → held' ≡ held ++ piece → out ≡ [] → HandledSoFar f stands bytes held sent → HandledSoFar f stands (bytes ++ piece) held' (sent ++ out)
reads_empty f stands bytes held piece sent held' out all none h = rw (all, none, append-nil sent) (holds_more f stands bytes held piece sent h)

-- the first of the answers were written
part_of : (f : Behaviour) (bytes sent out : List ℕ) (before now after : Option (List ℕ)) → AnswersBegin f bytes (sent ++ out) → Wrote before sent now → WrotePart now out after
    → WrotePart before (trace_from f [] (messages_of MAX_MESSAGE_SIZE bytes).messages).written after
part_of f bytes sent out before now after b first w = record {
  written = sent ++ w.written;
  others = w.others ++ b.others;
  parts = b.begins ∙ ap (λ (x : List ℕ). (sent ++ x) ++ b.others) w.parts ∙ ap (λ (x : List ℕ). x ++ b.others) (sym (append_assoc sent w.written w.others)) ∙ append_assoc (sent ++ w.written) w.others b.others;
  wrote = wrote_more before now after sent w.written first w.wrote;
}

-- it stops where nothing closes it
pub stops_there : (f : Behaviour) (stands : List (List ℕ) → Type 0) (stop : Stop) (bytes sent out : List ℕ) (before now after : Option (List ℕ)) → close_of stop ≡ None → AnswersBegin f bytes (sent ++ out) → Wrote before sent now → WrotePart now out after
    → RunStops f stands bytes before stop after
stops_there f stands stop bytes sent out before now after none b first w = record {
  part = part_of f bytes sent out before now after b first w;
  closes = λ close e. let bad : None ≡ Some close = sym none ∙ e in absurd cc;
}

-- nothing was answered of the piece
pub stops_before : (f : Behaviour) (stands later : List (List ℕ) → Type 0) (stop : Stop) (bytes held piece : List ℕ) (before now : Option (List ℕ)) → close_of stop ≡ None → (g : RunContinues f stands bytes held before now) → WrotePart now [] now → RunStops f later (bytes ++ piece) before stop now
stops_before f stands later stop bytes held piece before now none g w =
    stops_there f later stop (bytes ++ piece) g.sent [] before now now none
    (subst (λ (x : List ℕ). AnswersBegin f (bytes ++ piece) x) (sym (append-nil g.sent)) (begins_so f stands (bytes ++ piece) (held ++ piece) g.sent (holds_more f stands bytes held piece g.sent g.reads))) g.wrote w

-- the answers were written
pub served : (f : Behaviour) (later : List (List ℕ) → Type 0) (result : Option Stop) (bytes held sent out : List ℕ) (before now after : Option (List ℕ)) → IfNone result (HandledSoFar f later bytes held (sent ++ out)) → IfNone result (front_at MAX_MESSAGE_SIZE held ≡ NeedMore)
    → IfSome result (λ stop. ClosesIfSome f later bytes (sent ++ out) (close_of stop)) → AnswersBegin f bytes (sent ++ out) → Wrote before sent now → Wrote now out after
    → MatchOption result (RunContinues f later bytes held before after) (λ stop. RunStops f later bytes before stop after)
served f later None bytes held sent out before now after reads partial stops b first w = record { sent = sent ++ out; reads = reads; partial = partial; wrote = wrote_more before now after sent out first w }
served f later (Some stop) bytes held sent out before now after reads partial stops b first w = record {
  part = part_of f bytes sent out before now after b first (record { written = out; others = []; parts = sym (append-nil out); wrote = w });
  closes = λ close e. (sent ++ out, subst (λ (x : Option Close). ClosesIfSome f later bytes (sent ++ out) x) e stops, wrote_more before now after sent out first w);
}
