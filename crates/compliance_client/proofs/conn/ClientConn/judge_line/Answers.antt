use Rattle.std.proofs.Common.{sym, ap, ◌∙◌}
use Rattle.std.specs.Option.{option_and_then}
use Rattle.line_verdicts.specs.Verdicts.{judged}
use Rattle.compliance_client.specs.Deeds.{CallView, call_name, is_named, judges}
use Rattle.std.specs.Prelude.{slice_set}
use Rattle.compliance_client.proofs.Judged.{stands_judged}
use Rattle.compliance_client.proofs.Places.{changed_at, found_here, found_none, unchanged}
use Rattle.compliance_client.proofs.conn.ClientConn.judge_line.Goals as goal

pub returns-in-None-clause-verdict : goal.returns-in-None-clause-verdict
returns-in-None-clause-verdict g c =
    sym (ap (option_and_then (λ (x : CallView). judged c.args.line.now x.heard))
    (found_none (is_named (call_name c.args.line.now)) c.args.self.now.kept.items (sym c.place_of.ensures ∙ c.in-None.is)))

pub returns-in-None-clause-left : goal.returns-in-None-clause-left
returns-in-None-clause-left g c =
    unchanged (is_named (call_name c.args.line.now)) (judges c.args.line.now) c.args.self.now.kept.items (sym c.place_of.ensures ∙ c.in-None.is)

pub returns-in-Some-clause-verdict : goal.returns-in-Some-clause-verdict
returns-in-Some-clause-verdict g c =
    c.judge.ensures.verdict ∙ sym (ap (option_and_then (λ (x : CallView). judged c.args.line.now x.heard))
    (found_here (is_named (call_name c.args.line.now)) c.args.self.now.kept.items c.in-Some.at c.index_mut.result.now
    (sym c.place_of.ensures ∙ c.in-Some.is) c.index_mut.ensures.value))

pub returns-in-Some-clause-left : goal.returns-in-Some-clause-left
returns-in-Some-clause-left g c =
    changed_at (is_named (call_name c.args.line.now)) (judges c.args.line.now) c.args.self.now.kept.items c.in-Some.at c.index_mut.result.now
    c.judge.new.self (sym c.place_of.ensures ∙ c.in-Some.is) c.index_mut.ensures.value c.judge.ensures.left

pub returns-in-None-clause-goes : goal.returns-in-None-clause-goes
returns-in-None-clause-goes g c = λ n past h.
    stands_judged g.K.CallConnection.stands n c.args.self.now.over c.args.self.now.calls c.args.self.now.kept.items c.args.self.now.kept.items
    c.args.self.now.tally past c.args.line.now
    (unchanged (is_named (call_name c.args.line.now)) (judges c.args.line.now) c.args.self.now.kept.items (sym c.place_of.ensures ∙ c.in-None.is)) h

pub returns-in-Some-clause-goes : goal.returns-in-Some-clause-goes
returns-in-Some-clause-goes g c = λ n past h.
    stands_judged g.K.CallConnection.stands n c.args.self.now.over c.args.self.now.calls c.args.self.now.kept.items
    (slice_set c.args.self.now.kept.items c.in-Some.at c.judge.new.self) c.args.self.now.tally past c.args.line.now
    (changed_at (is_named (call_name c.args.line.now)) (judges c.args.line.now) c.args.self.now.kept.items c.in-Some.at c.index_mut.result.now
    c.judge.new.self (sym c.place_of.ensures ∙ c.in-Some.is) c.index_mut.ensures.value c.judge.ensures.left) h
