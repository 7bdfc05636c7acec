use Rattle.std.proofs.Common.{sym, ◌∙◌}
use Rattle.compliance_client.specs.Deeds.{ends, is_on}
use Rattle.compliance_client.proofs.Places.{changed_at, unchanged}
use Rattle.compliance_client.proofs.conn.ClientConn.hear_end.Goals as goal

pub returns-in-Some-clause-heard : goal.returns-in-Some-clause-heard
returns-in-Some-clause-heard g c =
    changed_at (is_on c.args.stream) (ends c.args.ending) c.args.self.now.kept.items c.in-Some.at c.index_mut.result.now
    c.end.new.self (sym c.place_on.ensures ∙ c.in-Some.is) c.index_mut.ensures.value c.end.ensures

pub returns-in_default-clause-heard : goal.returns-in_default-clause-heard
returns-in_default-clause-heard g c =
    unchanged (is_on c.args.stream) (ends c.args.ending) c.args.self.now.kept.items (sym c.place_on.ensures ∙ c.in_default.is)
