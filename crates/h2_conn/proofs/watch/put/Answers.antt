use Rattle.std.proofs.Common.{List, sym, ap, subst, ◌∙◌, arith}
use Rattle.h2_streams.specs.Live.{Rises}
use Rattle.h2_conn.specs.declared.asked.Asked.{Asked}
use Rattle.h2_conn.proofs.Requests.{found_at, put_found, put_new, next_id, ok_more, rises_by, rises_replaced, rises_placed}
use Rattle.h2_conn.proofs.watch.put.Goals as goal

pub returns-in-Some-clause-ok : goal.returns-in-Some-clause-ok
returns-in-Some-clause-ok c =
    c.replace_at.ensures
    ∙ put_found c.args.id c.args.bytes.now c.request_at-old.result _ c.next_of-next.result c.args.asked.now.items (found_at c.args.id c.args.place c.args.asked.now.items c.as_slice.result.now c.request_at-old.result c.request_at-old.ensures c.as_slice.ensures.value c.requires) c.in-Some.is c.next_of-next.ensures

pub returns-in-Some-clause-rises : goal.returns-in-Some-clause-rises
returns-in-Some-clause-rises c = λ h.
    subst (λ (l : List Asked). Rises (λ (a : Asked). a.id) 0 4294967296 l) (sym c.replace_at.ensures)
    (rises_replaced 0 4294967296 c.args.id c.next_of-next.result c.args.asked.now.items (ap (λ (a : Asked). a.id) c.next_of-next.ensures ∙ next_id c.args.id c.args.bytes.now c.request_at-old.result) h)

pub returns-in-None-clause-ok : goal.returns-in-None-clause-ok
returns-in-None-clause-ok c =
    ok_more c.insert.result
    (λ e. e ∙ put_new c.args.id c.args.bytes.now c.request_at-old.result c.next_of-next.result c.args.asked.now.items (found_at c.args.id c.args.place c.args.asked.now.items c.as_slice.result.now c.request_at-old.result c.request_at-old.ensures c.as_slice.ensures.value c.requires) c.in-None.is c.next_of-next.ensures)
    c.insert.ensures.ok

pub returns-in-None-clause-rises : goal.returns-in-None-clause-rises
returns-in-None-clause-rises c = λ h.
    rises_by c.insert.result c.insert.new.asked.items _ c.args.asked.now.items c.insert.ensures.ok c.insert.ensures.err
    (rises_placed 0 4294967296 c.args.id c.next_of-next.result c.args.asked.now.items (ap (λ (a : Asked). a.id) c.next_of-next.ensures ∙ next_id c.args.id c.args.bytes.now c.request_at-old.result) (omega arith) (omega (arith, c.ranges.id))
    (sym (found_at c.args.id c.args.place c.args.asked.now.items c.as_slice.result.now c.request_at-old.result c.request_at-old.ensures c.as_slice.ensures.value c.requires) ∙ c.in-None.is) h)
    h
