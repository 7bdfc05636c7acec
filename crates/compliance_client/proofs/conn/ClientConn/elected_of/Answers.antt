use Rattle.std.proofs.Common.{sym, ap, ◌∙◌}
use Rattle.compliance_client.specs.Deeds.{call_name, elected_by, is_named}
use Rattle.compliance_client.proofs.Places.{found_here, found_none}
use Rattle.compliance_client.proofs.conn.ClientConn.elected_of.Goals as goal

pub returns-in-None : goal.returns-in-None
returns-in-None g c =
    sym (ap elected_by (found_none (is_named (call_name c.args.line.now)) c.args.self.now.kept.items (sym c.place_of.ensures ∙ c.in-None.is)))

pub returns-in-Some : goal.returns-in-Some
returns-in-Some g c =
    c.elected.ensures ∙ sym (ap elected_by (found_here (is_named (call_name c.args.line.now)) c.args.self.now.kept.items c.in-Some.at c.index.result.now
    (sym c.place_of.ensures ∙ c.in-Some.is) c.index.ensures))
