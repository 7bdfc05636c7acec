-- What is shown of calls, one after another.
use Rattle.std.proofs.Common.{◌≡◌, List, [], ◌∷◌, ◌++◌, refl, sym, ap, ◌∙◌, map}
use Rattle.std.specs.List.{flat_map}
use Rattle.grpc_heads.specs.declared.head.Method.{Method}
use Rattle.h2_exchange.specs.Calls.{Call, shown_of}
use Rattle.h2_exchange.specs.Exchange.{collect}
use Rattle.grpc_stream.specs.Laws.{ServersShow}
use Rattle.grpc_stream.specs.NextEvent.{asked_of, shown_events_of}
use Rattle.grpc_heads.specs.CallEnd.{CallEnd}
use Rattle.grpc_stream.specs.CallTrace.{PeerEvent, Asked}

asked : (cs : List (Call Method CallEnd)) → flat_map asked_of (map Asked cs) ≡ cs
asked [] = refl
asked (c ∷ cs) = ap (λ (more : List (Call Method CallEnd)). c ∷ more) (asked cs)

both : {A B : Type 0} (f : A → B) (xs ys : List A) → map f (xs ++ ys) ≡ map f xs ++ map f ys
both f [] ys = refl
both f (x ∷ xs) ys = ap (λ (more : List _). f x ∷ more) (both f xs ys)

behind : (past cs : List (Call Method CallEnd)) → collect shown_events_of (map Asked past) (map Asked cs) ≡ map Asked (collect shown_of past cs)
behind past [] = refl
behind past (c ∷ cs) =
    ap (λ (before : List (Call Method CallEnd)). map Asked (shown_of before c) ++ collect shown_events_of (map Asked past ++ Asked c ∷ []) (map Asked cs)) (asked past)
    ∙ ap (λ (before : List PeerEvent). map Asked (shown_of past c) ++ collect shown_events_of before (map Asked cs)) (sym (both Asked past (c ∷ [])))
    ∙ ap (λ (more : List PeerEvent). map Asked (shown_of past c) ++ more) (behind (past ++ c ∷ []) cs)
    ∙ sym (both Asked (shown_of past c) (collect shown_of (past ++ c ∷ []) cs))

pub servers_show : ServersShow
servers_show = λ cs. behind [] cs
