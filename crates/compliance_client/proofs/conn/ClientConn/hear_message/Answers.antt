use Rattle.std.proofs.Common.{sym, ap, ◌∙◌}
use Rattle.std.specs.Prelude.{is_some}
use Rattle.h2_exchange.specs.Calls as answer
use Rattle.compliance_client.specs.Deeds.{fault_in, hears_message, is_on, is_refused_by, tally_by, tally_message}
use Rattle.compliance_client.specs.declared.conn.ClientConn.{ClientConn}
use Rattle.compliance_client.proofs.Places.{changed_at, found_here, found_none, unchanged}
use Rattle.compliance_client.proofs.Results.{ok_map, on_ok}
use Rattle.compliance_client.proofs.conn.ClientConn.hear_message.Goals as goal

pub returns-in_default-clause-heard : goal.returns-in_default-clause-heard
returns-in_default-clause-heard g c =
    unchanged (is_on c.args.stream) (hears_message c.args.n.now c.args.message) c.args.self.now.kept.items (sym c.place_on.ensures ∙ c.in_default.is)

pub returns-in_default-clause-counted : goal.returns-in_default-clause-counted
returns-in_default-clause-counted g c =
    sym (ap (λ o. tally_by c.args.n.now (answer.Answered c.args.stream c.args.message) o c.args.self.now.tally)
    (found_none (is_on c.args.stream) c.args.self.now.kept.items (sym c.place_on.ensures ∙ c.in_default.is)))

pub returns-clause-heard : goal.returns-clause-heard
returns-clause-heard g c =
    on_ok c.reset_if.result (ap (λ (x : ClientConn g.row.K.Denot). x.kept.items) c.reset_if.ensures.same
    ∙ changed_at (is_on c.args.stream) (hears_message c.args.n.now c.args.message) c.args.self.now.kept.items c.in-Some.at c.index_mut.result.now
    c.hear.new.self (sym c.place_on.ensures ∙ c.in-Some.is) c.index_mut.ensures.value
    (c.in-Ok.ensures.heard ∙ ap (λ b. hears_message c.args.n.now b c.index_mut.result.now) c.as_slice.ensures))

pub returns-clause-counted : goal.returns-clause-counted
returns-clause-counted g c =
    on_ok c.reset_if.result (ap (λ (x : ClientConn g.row.K.Denot). x.tally) c.reset_if.ensures.same
    ∙ (c.in-Ok.ensures.counted ∙ ap (λ b. tally_message c.args.n.now c.index_mut.result.now.method b c.args.self.now.tally) c.as_slice.ensures)
    ∙ sym (ap (λ o. tally_by c.args.n.now (answer.Answered c.args.stream c.args.message) o c.args.self.now.tally)
    (found_here (is_on c.args.stream) c.args.self.now.kept.items c.in-Some.at c.index_mut.result.now
    (sym c.place_on.ensures ∙ c.in-Some.is) c.index_mut.ensures.value)))

pub returns-clause-refused : goal.returns-clause-refused
returns-clause-refused g c =
    ok_map c.reset_if.result (λ is_reset before e.
    ap (λ o. is_refused_by c.args.n.now (answer.Answered c.args.stream c.args.message) o)
    (found_here (is_on c.args.stream) c.args.self.now.kept.items c.in-Some.at c.index_mut.result.now
    (sym c.place_on.ensures ∙ c.in-Some.is) c.index_mut.ensures.value)
    ∙ sym (ap (λ b. is_some (fault_in c.args.n.now c.index_mut.result.now.method b)) c.as_slice.ensures)
    ∙ sym c.in-Ok.ensures.refused ∙ before e) c.reset_if.ensures.refused
