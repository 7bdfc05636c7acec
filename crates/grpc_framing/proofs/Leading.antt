-- What a cutter gives is the front of the stream, whatever follows.
use Rattle.std.proofs.Common.{ℕ, ◌+◌, List, ◌++◌, length, drop, sym, ap, ◌∙◌}
use Rattle.grpc_framing.specs.declared.cutter.Cut.{Cut}
use Rattle.grpc_framing.specs.declared.cutter.Cut.TheVariants.{Message, NeedMore, Compressed, TooLong, NoMemory}
use Rattle.grpc_framing.specs.Framing.{first_then, messages_of}
use Rattle.grpc_framing.specs.CutterState.{CutterState}
use Rattle.grpc_framing.specs.NextMessage.{NextMessage, LeavesRest}
use Rattle.grpc_framing.proofs.Streams.{messages_of-message}

pub leads : (old : CutterState) (cut : Cut) (new : CutterState) → NextMessage old cut new → LeavesRest old cut new
leads old (Message message) new h = λ more.
    messages_of-message old.limit (length message) old.held more h.0
    ∙ ap (λ (x : List ℕ). first_then x (messages_of old.limit (drop (5 + length message) old.held ++ more))) (sym h.1)
    ∙ ap (λ (x : CutterState). first_then message (messages_of x.limit (x.held ++ more))) (sym h.2)
leads old NeedMore new h = ap (λ (x : CutterState). x.held) h.1
leads old Compressed new h = ap (λ (x : CutterState). x.held) h.dead
leads old TooLong new h = ap (λ (x : CutterState). x.held) h.dead
leads old NoMemory new h = ap (λ (x : CutterState). x.held) h.dead
