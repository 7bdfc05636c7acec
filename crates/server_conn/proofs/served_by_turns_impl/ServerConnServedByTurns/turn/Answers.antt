use Rattle.std.proofs.Common.{◌++◌, ◌∙◌}
use Rattle.server_conn.proofs.Ended.{comes_on, made_even}
use Rattle.server_conn.proofs.Kept.{over_goes_on, over_stands}
use Rattle.server_conn.proofs.Turning.{told_then}
use Rattle.server_conn.specs.Standing.{is_spent_by}
use Rattle.server_conn.proofs.served_by_turns_impl.ServerConnServedByTurns.turn.Goals as goal

pub returns-in-Ok-clause-serves : goal.returns-in-Ok-clause-serves
returns-in-Ok-clause-serves g c past before st last =
    (let x = c.in-Ok.ensures.goes past before st.0 last st.2 in
    let y = comes_on g.K.CallConnection.stands g.K.CallConnection.output c.args.setting.now c.args.lock.now.setup c.args.pass.now c.go.new.pass
    c.go.new.self.calls c.go.new.self.engine c.go.new.self.refused c.go.new.self.waiting c.go.new.self.is_ended c.go.new.self.may_wait c.go.new.self.outcome past before x.0 _ _
    c.in-Ok.has_moved c.answer_by.result c.answer_by.ensures (c.in-Ok.ensures.outcome ∙ st.1) x.2.0 x.2.1 in
    (x.0, x.2.0.after, x.1, y.0, y.1, y.2, y.3, y.4))

pub returns-in-Err-clause-serves : goal.returns-in-Err-clause-serves
returns-in-Err-clause-serves g c past before st last =
    (let x = c.in-Err.ensures.goes past before st.0 last st.2 in
    let y = c.turn_over.ensures.goes st.0.trace (past.pieces ++ x.0.pieces) (past.own ++ x.0.own) x.3.ends
    (made_even c.args.lock.now.setup (is_spent_by c.in-Err.cause) c.args.pass.now c.go.new.pass past.own x.0.own last x.3.made) in (
      record { pieces = x.0.pieces ++ y.0; own = x.0.own ++ y.2.did; is_ended = x.0.is_ended },
      y.2.kept.account,
      told_then _ _ _ x.0.pieces y.0 x.1 y.1,
      y.2.made c.args.pass.now x.0.own x.3.made,
      (
        over_stands g.K.CallConnection.stands g.K.CallConnection.output c.args.setting.now c.args.lock.now.setup past before c.args.self.now.calls
            c.args.self.now.engine c.args.self.now.refused c.args.self.now.is_ended st.0 c.args.pass.now c.go.new.pass c.turn_over.new.pass c.go.new.self.calls
            c.go.new.self.engine c.go.new.self.refused c.go.new.self.is_ended x.0 c.in-Err.cause _ _
            (record {
              reads = g.L.Link.read_idles c.turn_over.new.link;
              writes = g.L.Link.write_idles c.turn_over.new.link;
              ends = g.L.Link.ends
                  c.turn_over.new.link;
            }) _ _ c.turn_over.new.self.is_ended _ y.0 x.3 y.2
            c.turn_over.ensures.ended c.turn_over.ensures.ends_same,
        c.turn_over.ensures.outcome,
      ),
      over_goes_on g.K.CallConnection.stands g.K.CallConnection.output c.args.setting.now c.args.lock.now.setup past before c.args.self.now.calls
          c.args.self.now.engine c.args.self.now.refused c.args.self.now.is_ended st.0 c.args.pass.now c.go.new.pass c.turn_over.new.pass c.go.new.self.calls
          c.go.new.self.engine c.go.new.self.refused c.go.new.self.is_ended x.0 c.in-Err.cause _ _
          (record {
            reads = g.L.Link.read_idles c.turn_over.new.link;
            writes = g.L.Link.write_idles c.turn_over.new.link;
            ends = g.L.Link.ends
                c.turn_over.new.link;
          }) _ _ c.turn_over.new.self.is_ended _ y.0 x.3 y.2
          c.turn_over.ensures.ended c.turn_over.ensures.ends_same,
      tt,
      tt,
    ))
