use Rattle.std.proofs.Common.{◌≡◌, ◌≤◌, List, ◌++◌, map, length}
use Rattle.std.specs.Prelude.{All}
use Rattle.std.specs.Vec.Iter.{into_iter_items, into_iter_len}
use Rattle.rig_io.specs.Link.{Piece}
use Rattle.grpc_heads.specs.CallEnd.{CallEnd}
use Rattle.h2_exchange.specs.StreamParts.{Item, Message}
use Rattle.grpc_stream.specs.CallTrace.{CallTrace}
use Rattle.table_model.specs.Event.{Event}
use Rattle.call_answers.specs.declared.orders.Setting.{Setting}
use Rattle.call_orders.specs.Calls.{Action}
use Rattle.server_conn.specs.Handing.{Hands}
use Rattle.server_conn.proofs.conn.ServerConn.give_messages.Given as goal

-- the messages to come are left to be given, before what stands behind them
abbrev pub invariant-messages : goal.invariant-messages
invariant-messages g l =
    All (λ bytes. length bytes.items ≤ 4194304) (into_iter_items l.coming)
    × (into_iter_len l.coming ≡ length (into_iter_items l.coming))
    × (l.self ≡ record l.fn.self { calls = l.self.calls })
    × (g.K.CallConnection.ahead l.self.calls ≡ g.K.CallConnection.ahead l.fn.self.calls)
    × ((s : Setting) (t : CallTrace) (actions : List Action) (pieces : List Piece) (own : List Event) (more : List (Item CallEnd)) →
    Hands g.K.CallConnection.stands g.K.CallConnection.output s l.fn.self.calls l.fn.self.engine l.fn.self.refused l.fn.stream t actions pieces own
    (map Message (map (λ bytes. bytes.items) l.fn.messages.items) ++ more) →
    Hands g.K.CallConnection.stands g.K.CallConnection.output s l.self.calls l.self.engine l.self.refused l.fn.stream t actions pieces own
    (map Message (map (λ bytes. bytes.items) (into_iter_items l.coming)) ++ more))

abbrev pub decreases-messages : goal.decreases-messages
decreases-messages g l = into_iter_len l.coming
