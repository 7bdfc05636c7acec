-- What holds at each turn of a run, and what its end says of the bytes.
use Rattle.std.specs.Prelude.{IfSome, if◌then◌else◌}
use Rattle.std.specs.Option.{option_map}
use Rattle.std.proofs.Common.{◌≡◌, ℕ, ◌+◌, ◌-◌, ◌<◌, ◌≤◌, Bool, true, false, eqb, List, [], ◌++◌, length, take, Option, Some, None, refl, sym, ap, subst, ◌∙◌, append_assoc, arith}
use Rattle.std.proofs.lemmas.Bool.{lt-ltb, le-ltb}
use Rattle.std.proofs.Math.Seq.{take-append-add}
use Rattle.std.proofs.lemmas.List.{append-nil, length-append, take_all, take_at}
use Rattle.grpc_framing.specs.declared.front.Front.TheVariants.{NeedMore}
use Rattle.grpc_framing.specs.Framing.{Messages, messages_of, all_then, items}
use Rattle.grpc_framing.proofs.Fronts.{front_at-nil}
use Rattle.grpc_framing.proofs.Streams.{messages_of-need_more}
use Rattle.message_run.specs.Behaviour.{Behaviour, MessageTrace, trace_from}
use Rattle.message_run.specs.Outcomes.{Close, Complete, Unreadable, Outcome, messages_in, outcome_at, outcome_of, close_at_rest, IsGoingOn, MAX_MESSAGE_SIZE, MAX_INPUT_SIZE}
use Rattle.message_run.specs.Written.{Wrote, WrotePart}
use Rattle.message_run.specs.Reading.{RunContinues, RunStops, HandlesPiece, Stopped, IsOfPieces, close_of, with_prefix, stop_at}
use Rattle.message_run.specs.Runs.{Told}
use Rattle.message_run.specs.declared.stop.Stop.{Stop}
use Rattle.message_run.specs.declared.stop.Stop.TheVariants as why
use Rattle.message_run.proofs.MessageTraces.{trace_none, outcome_is}
use Rattle.message_run.proofs.Sinks.{wrote_nothing, wrote_whole}
use Rattle.message_run.proofs.Streams.{few_read}

-- the bytes so far are served
pub record IsRunning (f : Behaviour) (stands : List (List ℕ) → Type 0) (told : Told) (held : List ℕ) (taken : ℕ) : Type 0 where
  pub bytes : List ℕ
  pub on : RunContinues f stands bytes held told.sink.before told.sink.after
  pub taken_is : told.source.taken_after ≡ option_map (λ given. given ++ bytes) told.source.taken_before
  pub left_is : told.source.left_before ≡ option_map (λ rest. bytes ++ rest) told.source.left_after
  pub count : length bytes ≡ taken
  pub short : taken ≤ MAX_INPUT_SIZE

-- ---- bytes that are told

no_taken : (o : Option (List ℕ)) → o ≡ option_map (λ given. given ++ []) o
no_taken None = refl
no_taken (Some x) = ap Some (sym (append-nil x))

no_left : (o : Option (List ℕ)) → o ≡ option_map (λ rest. [] ++ rest) o
no_left None = refl
no_left (Some x) = refl

pub taken_more : (a b c : Option (List ℕ)) (v w : List ℕ) → b ≡ option_map (λ given. given ++ v) a → c ≡ option_map (λ given. given ++ w) b → c ≡ option_map (λ given. given ++ (v ++ w)) a
taken_more None b c v w p q = q ∙ ap (option_map (λ (given : List ℕ). given ++ w)) p
taken_more (Some x) b c v w p q = q ∙ ap (option_map (λ (given : List ℕ). given ++ w)) p ∙ ap Some (append_assoc x v w)

pub left_more : (a b c : Option (List ℕ)) (v w : List ℕ) → a ≡ option_map (λ rest. v ++ rest) b → b ≡ option_map (λ rest. w ++ rest) c → a ≡ option_map (λ rest. (v ++ w) ++ rest) c
left_more a b None v w p q = p ∙ ap (option_map (λ (rest : List ℕ). v ++ rest)) q
left_more a b (Some x) v w p q = p ∙ ap (option_map (λ (rest : List ℕ). v ++ rest)) q ∙ ap Some (sym (append_assoc v w x))

-- ---- messages of an input

pub short_messages : (input : List ℕ) → length input ≤ MAX_INPUT_SIZE → messages_in input ≡ messages_of MAX_MESSAGE_SIZE input
short_messages input le = ap (messages_of MAX_MESSAGE_SIZE) (take_all MAX_INPUT_SIZE input le)

-- the messages of an input that is too long
past_messages : (bytes more : List ℕ) → length bytes ≡ MAX_INPUT_SIZE → messages_in (bytes ++ more) ≡ messages_of MAX_MESSAGE_SIZE bytes
past_messages bytes more len = ap (messages_of MAX_MESSAGE_SIZE) (take_at bytes more MAX_INPUT_SIZE len)

take_short : (bytes rest : List ℕ) (limit : ℕ) → length bytes ≤ limit → take limit (bytes ++ rest) ≡ bytes ++ take (limit - length bytes) rest
take_short bytes rest limit le =
    let k : limit ≡ length bytes + (limit - length bytes) = omega arith in
    ap (λ (x : ℕ). take x (bytes ++ rest)) k ∙ take-append-add bytes rest (limit - length bytes)

more_messages : (bytes rest : List ℕ) → length bytes ≤ MAX_INPUT_SIZE → messages_in (bytes ++ rest) ≡ messages_of MAX_MESSAGE_SIZE (bytes ++ take (MAX_INPUT_SIZE - length bytes) rest)
more_messages bytes rest le = ap (messages_of MAX_MESSAGE_SIZE) (take_short bytes rest MAX_INPUT_SIZE le)

-- ---- where the bytes so far end

module _ (f : Behaviour) (stands : List (List ℕ) → Type 0) (bytes held : List ℕ) (before now : Option (List ℕ)) (h : RunContinues f stands bytes held before now) where
  cut_at_rest : messages_of MAX_MESSAGE_SIZE bytes ≡ record { messages = h.reads.messages; rest = held; ending = NeedMore }
  cut_at_rest =
      ap (messages_of MAX_MESSAGE_SIZE) (sym (append-nil bytes)) ∙ h.reads.leads [] ∙ ap (λ (x : List ℕ). all_then h.reads.messages (messages_of MAX_MESSAGE_SIZE x)) (append-nil held)
      ∙ ap (all_then h.reads.messages) (messages_of-need_more MAX_MESSAGE_SIZE held h.partial) ∙ ap (λ (x : List (List ℕ)). record { messages = x; rest = held; ending = NeedMore }) (append-nil h.reads.messages)

  trace_at_rest : trace_from f [] h.reads.messages ≡ record { done = h.reads.messages; written = h.sent; ending = None }
  trace_at_rest =
      ap (trace_from f []) (sym (append-nil h.reads.messages)) ∙ h.reads.goes [] ∙ ap (with_prefix h.sent) (trace_none f h.reads.messages)
      ∙ ap (λ (x : List ℕ). record { done = h.reads.messages; written = x; ending = None }) (append-nil h.sent)

  pub outcome_at_rest : (count : ℕ) → outcome_at f count (messages_of MAX_MESSAGE_SIZE bytes) ≡ record { done = h.reads.messages; written = h.sent; close = close_at_rest count (length (items h.reads.messages)) held NeedMore }
  outcome_at_rest count =
      ap (outcome_at f count) cut_at_rest
      ∙ outcome_is f count (record { messages = h.reads.messages; rest = held; ending = NeedMore }) (record { done = h.reads.messages; written = h.sent; ending = None }) trace_at_rest

-- ---- how a run stops

some_same : (a b : Close) → Some a ≡ Some b → a ≡ b
some_same a b e = cc

none_closes : (close : Close) → None ≡ Some close → ⊥
none_closes close e = cc

-- it closes with this outcome
stopped_with : (f : Behaviour) (stands : List (List ℕ) → Type 0) (stop : Stop) (told : Told) (bytes : List ℕ) (o : Outcome) → told.source.taken_after ≡ option_map (λ given. given ++ bytes) told.source.taken_before
    → told.source.left_before ≡ option_map (λ rest. bytes ++ rest) told.source.left_after → outcome_of f bytes ≡ o → close_of stop ≡ Some o.close → Wrote told.sink.before o.written told.sink.after → stands o.done → length o.done ≤ MAX_INPUT_SIZE
    → ((rest : List ℕ) → told.source.left_after ≡ Some rest → outcome_of f (bytes ++ rest) ≡ o) → (stop ≡ why.Finished → IfSome told.source.left_after (λ rest. rest ≡ [])) → Stopped f stands stop told
stopped_with f stands stop told bytes o taken_is left_is is close_is wrote stood few still over = record {
  taken = bytes;
  taken_is = taken_is;
  left_is = left_is;
  closes = λ close e. rw is (some_same o.close close (sym close_is ∙ e), wrote, stood, few);
  still = λ close e rest l. still rest l ∙ sym is;
  over = over;
  failed = λ e. absurd (none_closes o.close (sym (ap close_of e) ∙ close_is));
  answers = rw is (wrote_whole told.sink.before told.sink.after o.written wrote);
}

module _ (f : Behaviour) (stands : List (List ℕ) → Type 0) (told : Told) (held : List ℕ) (taken : ℕ) (h : IsRunning f stands told held taken) where
  outcome_now : (count : ℕ) → outcome_at f count (messages_in h.bytes) ≡ record { done = h.on.reads.messages; written = h.on.sent; close = close_at_rest count (length (items h.on.reads.messages)) held NeedMore }
  outcome_now count = ap (outcome_at f count) (short_messages h.bytes (omega (arith, h.count, h.short))) ∙ outcome_at_rest f stands h.bytes held told.sink.before told.sink.after h.on count

  cut_now : messages_in h.bytes ≡ record { messages = h.on.reads.messages; rest = held; ending = NeedMore }
  cut_now = short_messages h.bytes (omega (arith, h.count, h.short)) ∙ cut_at_rest f stands h.bytes held told.sink.before told.sink.after h.on

  going_now : IsGoingOn f h.bytes
  going_now = (ap (λ (x : Messages). (trace_from f [] x.messages).ending) cut_now ∙ ap (λ (x : MessageTrace). x.ending) (trace_at_rest f stands h.bytes held told.sink.before told.sink.after h.on), ap (λ (x : Messages). x.ending) cut_now)

  few_now : length h.on.reads.messages ≤ MAX_INPUT_SIZE
  few_now = omega (arith, few_read f stands h.bytes held h.on.sent h.on.reads, h.count, h.short)

  -- reading failed
  pub stopped_unread : Stopped f stands why.ReadFault told
  stopped_unread = record {
    taken = h.bytes;
    taken_is = h.taken_is;
    left_is = h.left_is;
    closes = λ close e. absurd cc;
    still = λ close e. absurd cc;
    over = λ e. absurd cc;
    failed = λ e. (rw (outcome_now (length h.bytes)) h.on.reads.stood, rw (outcome_now (length h.bytes)) h.on.wrote, going_now);
    answers = rw (outcome_now (length h.bytes)) (wrote_whole told.sink.before told.sink.after h.on.sent h.on.wrote);
  }

end_of : (b : Bool) (place offset : ℕ) → offset ≡ place → close_of (if b then why.Finished else why.Unreadable place) ≡ Some (if b then Complete else Unreadable offset)
end_of true place offset e = refl
end_of false place offset e = ap (λ (x : ℕ). Some (Unreadable x)) (sym e)

end_closes : (count taken offset : ℕ) (held : List ℕ) → count ≤ MAX_INPUT_SIZE → offset ≡ taken - length held → close_of (stop_at taken (length held)) ≡ Some (close_at_rest count offset held NeedMore)
end_closes count taken offset held le e = rw (le-ltb MAX_INPUT_SIZE count le) (end_of (eqb (length held) 0) (taken - length held) offset e)

nothing_left : (left : Option (List ℕ)) (rest : List ℕ) → left ≡ Some rest → IfSome left (λ l. l ≡ []) → rest ≡ []
nothing_left None rest e h = absurd cc
nothing_left (Some l) rest e h = let same : l ≡ rest = cc in sym same ∙ h

-- the input is over
pub stopped_at_end : (f : Behaviour) (stands : List (List ℕ) → Type 0) (told : Told) (held : List ℕ) (taken : ℕ) → IsRunning f stands told held taken → IfSome told.source.left_after (λ rest. rest ≡ []) → Stopped f stands (stop_at taken (length held)) told
stopped_at_end f stands told held taken h over =
    let count = length h.bytes in
    let offset = length (items h.on.reads.messages) in
    let o : Outcome = record { done = h.on.reads.messages; written = h.on.sent; close = close_at_rest count offset held NeedMore } in
    let now : outcome_of f h.bytes ≡ o = outcome_now f stands told held taken h count in
    stopped_with f stands (stop_at taken (length held)) told h.bytes o h.taken_is h.left_is now
    (end_closes count taken offset held (omega (arith, h.count, h.short)) (omega (arith, h.on.reads.size, h.count))) h.on.wrote h.on.reads.stood (few_now f stands told held taken h)
    (λ rest l. ap (λ (x : List ℕ). outcome_of f (h.bytes ++ x)) (nothing_left told.source.left_after rest l over) ∙ ap (outcome_of f) (append-nil h.bytes) ∙ now) (λ e. over)

-- ---- one piece more

-- what is told after a call that took a piece, and wrote up to here
abbrev pub then_told : Told → Option (List ℕ) → Option (List ℕ) → Option (List ℕ) → Told
then_told told taken left after = record { source = record { taken_before = told.source.taken_before; taken_after = taken; left_before = told.source.left_before; left_after = left }; sink = record { before = told.sink.before; after = after } }

past_closes : (count offset : ℕ) (held : List ℕ) → MAX_INPUT_SIZE < count → close_at_rest count offset held NeedMore ≡ Unreadable MAX_INPUT_SIZE
past_closes count offset held lt = rw (lt-ltb MAX_INPUT_SIZE count lt) refl

past_outcome : (f : Behaviour) (stands : List (List ℕ) → Type 0) (bytes more held : List ℕ) (before now : Option (List ℕ)) (h : RunContinues f stands bytes held before now) → length bytes ≡ MAX_INPUT_SIZE → 1 ≤ length more
    → outcome_of f (bytes ++ more) ≡ record { done = h.reads.messages; written = h.sent; close = Unreadable MAX_INPUT_SIZE }
past_outcome f stands bytes more held before now h len some =
    let count = length (bytes ++ more) in
    ap (outcome_at f count) (past_messages bytes more len) ∙ outcome_at_rest f stands bytes held before now h count
    ∙ ap (λ (x : Close). record { done = h.reads.messages; written = h.sent; close = x }) (past_closes count (length (items h.reads.messages)) held (omega (arith, length-append bytes more, len, some)))

-- a byte past the longest input
pub stopped_past : (f : Behaviour) (stands : List (List ℕ) → Type 0) (told : Told) (held piece : List ℕ) (count : ℕ) (taken left : Option (List ℕ)) (h : IsRunning f stands told held count) → count ≡ MAX_INPUT_SIZE
    → taken ≡ option_map (λ given. given ++ piece) told.source.taken_after → told.source.left_after ≡ option_map (λ rest. piece ++ rest) left → 1 ≤ length piece → Stopped f stands (why.Unreadable MAX_INPUT_SIZE) (then_told told taken left told.sink.after)
stopped_past f stands told held piece count taken left h full t l some =
    let bytes = h.bytes ++ piece in
    let len : length h.bytes ≡ MAX_INPUT_SIZE = h.count ∙ full in
    stopped_with f stands (why.Unreadable MAX_INPUT_SIZE) (then_told told taken left told.sink.after) bytes (record { done = h.on.reads.messages; written = h.on.sent; close = Unreadable MAX_INPUT_SIZE })
    (taken_more told.source.taken_before told.source.taken_after taken h.bytes piece h.taken_is t) (left_more told.source.left_before told.source.left_after left h.bytes piece h.left_is l)
    (past_outcome f stands h.bytes piece held told.sink.before told.sink.after h.on len some) refl h.on.wrote h.on.reads.stood (few_now f stands told held count h)
    (λ rest e. ap (outcome_of f) (append_assoc h.bytes piece rest) ∙ past_outcome f stands h.bytes (piece ++ rest) held told.sink.before told.sink.after h.on len (omega (arith, length-append piece rest, some))) (λ e. absurd cc)

pub not_finished : (stop : Stop) → IsOfPieces stop → stop ≡ why.Finished → ⊥
not_finished why.Finished h e = h
not_finished (why.Refused code) h e = absurd cc
not_finished (why.Unreadable place) h e = absurd cc
not_finished why.ReadFault h e = h
not_finished why.WriteFault h e = absurd cc
not_finished why.NoMemory h e = absurd cc

pub not_read_fault : (stop : Stop) → IsOfPieces stop → stop ≡ why.ReadFault → ⊥
not_read_fault why.Finished h e = h
not_read_fault (why.Refused code) h e = absurd cc
not_read_fault (why.Unreadable place) h e = absurd cc
not_read_fault why.ReadFault h e = h
not_read_fault why.WriteFault h e = absurd cc
not_read_fault why.NoMemory h e = absurd cc

written_is : (f : Behaviour) (count : ℕ) (cut : Messages) → (outcome_at f count cut).written ≡ (trace_from f [] cut.messages).written
written_is f count cut = ap (λ (x : Outcome). x.written) (outcome_is f count cut (trace_from f [] cut.messages) refl)

-- the messages of the piece stop the run
pub stopped_by : (g f : Behaviour) (stands later : List (List ℕ) → Type 0) (stop : Stop) (told : Told) (held piece : List ℕ) (count : ℕ) (taken left after : Option (List ℕ)) (h : IsRunning g stands told held count)
    → taken ≡ option_map (λ given. given ++ piece) told.source.taken_after → told.source.left_after ≡ option_map (λ rest. piece ++ rest) left → count + length piece ≤ MAX_INPUT_SIZE → RunStops f later (h.bytes ++ piece) told.sink.before stop after → IsOfPieces stop
    → Stopped f later stop (then_told told taken left after)
stopped_by g f stands later stop told held piece count taken left after h t l le s kind =
    let bytes = h.bytes ++ piece in
    let short : length bytes ≤ MAX_INPUT_SIZE = omega (arith, length-append h.bytes piece, h.count, le) in
    let written : (outcome_of f bytes).written ≡ (trace_from f [] (messages_of MAX_MESSAGE_SIZE bytes).messages).written
    = written_is f (length bytes) (messages_in bytes) ∙ ap (λ (x : Messages). (trace_from f [] x.messages).written) (short_messages bytes short) in
    record {
      taken = bytes;
      taken_is = taken_more told.source.taken_before told.source.taken_after taken h.bytes piece h.taken_is t;
      left_is = left_more told.source.left_before told.source.left_after left h.bytes piece h.left_is l;
      closes = λ close e.
          let c = s.closes close e in
          let is : outcome_of f bytes ≡ record { done = c.1.messages; written = c.0; close = close }
          = ap (outcome_at f (length bytes)) (short_messages bytes short ∙ ap (messages_of MAX_MESSAGE_SIZE) (sym (append-nil bytes))) ∙ c.1.closes (length bytes) [] in
          rw is (refl, c.2, c.1.stood, omega (arith, c.1.few, short));
      still = λ close e rest r.
          let c = s.closes close e in
          ap (outcome_at f (length (bytes ++ rest))) (more_messages bytes rest short) ∙ c.1.closes (length (bytes ++ rest)) (take (MAX_INPUT_SIZE - length bytes) rest)
          ∙ sym (ap (outcome_at f (length bytes)) (short_messages bytes short ∙ ap (messages_of MAX_MESSAGE_SIZE) (sym (append-nil bytes))) ∙ c.1.closes (length bytes) []);
      over = λ e. absurd (not_finished stop kind e);
      failed = λ e. absurd (not_read_fault stop kind e);
      answers = subst (λ (x : List ℕ). WrotePart told.sink.before x after) (sym written) s.part;
    }

pub running_on : (g f : Behaviour) (stands later : List (List ℕ) → Type 0) (told : Told) (held held' piece : List ℕ) (count : ℕ) (taken left after : Option (List ℕ)) (h : IsRunning g stands told held count)
    → taken ≡ option_map (λ given. given ++ piece) told.source.taken_after → told.source.left_after ≡ option_map (λ rest. piece ++ rest) left → count + length piece ≤ MAX_INPUT_SIZE → RunContinues f later (h.bytes ++ piece) held' told.sink.before after
    → IsRunning f later (then_told told taken left after) held' (count + length piece)
running_on g f stands later told held held' piece count taken left after h t l le more = record {
  bytes = h.bytes ++ piece;
  on = more;
  taken_is = taken_more told.source.taken_before told.source.taken_after taken h.bytes piece h.taken_is t;
  left_is = left_more told.source.left_before told.source.left_after left h.bytes piece h.left_is l;
  count = omega (arith, length-append h.bytes piece, h.count);
  short = le;
}

pub running_first : (f : Behaviour) (stands : List (List ℕ) → Type 0) (taken left placed : Option (List ℕ)) → stands [] → IsRunning f stands (record { source = record { taken_before = taken; taken_after = taken; left_before = left; left_after = left }; sink = record { before = placed; after = placed } }) [] 0
running_first f stands taken left placed h = record {
  bytes = [];
  on = record {
    sent = [];
    reads = record { messages = []; leads = λ more. refl; goes = λ others. refl; stood = h; size = refl };
    partial = front_at-nil MAX_MESSAGE_SIZE;
    wrote = wrote_nothing placed;
  };
  taken_is = no_taken taken;
  left_is = no_left left;
  count = refl;
  short = omega arith;
}

-- ---- with a behaviour that shows as messages are done

module _ (f : Behaviour) (stands : List (List ℕ) → Type 0) (shows : Behaviour → Type 0) (later : Behaviour → List (List ℕ) → Type 0) (told : Told) (held piece : List ℕ) (count : ℕ) (taken left after : Option (List ℕ)) (h : IsRunning f stands told held count)
    (t : taken ≡ option_map (λ given. given ++ piece) told.source.taken_after) (l : told.source.left_after ≡ option_map (λ rest. piece ++ rest) left) (le : count + length piece ≤ MAX_INPUT_SIZE) (held' : List ℕ) where
  pub stopped_by_piece : (stop : Stop) → HandlesPiece shows later (Some stop) (h.bytes ++ piece) held' told.sink.before after → IsOfPieces stop → (g : Behaviour) × shows g × Stopped g (later g) stop (then_told told taken left after)
  stopped_by_piece stop p kind = (p.behaviour, p.shown, stopped_by f p.behaviour stands (later p.behaviour) stop told held piece count taken left after h t l le p.cases kind)

  pub running_by_piece : HandlesPiece shows later None (h.bytes ++ piece) held' told.sink.before after → (g : Behaviour) × shows g × IsRunning g (later g) (then_told told taken left after) held' (count + length piece)
  running_by_piece p = (p.behaviour, p.shown, running_on f p.behaviour stands (later p.behaviour) told held held' piece count taken left after h t l le p.cases)
