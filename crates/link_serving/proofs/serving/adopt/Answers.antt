use Rattle.std.proofs.Common.{refl, sym, ap, ◌∙◌, subst}
use Rattle.table_lock.specs.Passes.{PassView}
use Rattle.link_serving.specs.Serving.{links_of}
use Rattle.link_serving.proofs.Serves.{refuses_item, takes_item}
use Rattle.link_serving.proofs.serving.adopt.Goals as goal

pub returns-in-Ok-adopt-clause-serves : goal.returns-in-Ok-adopt-clause-serves
returns-in-Ok-adopt-clause-serves g c start before short spent s b =
    let links = links_of g.A.Acceptor.given_count g.A.Acceptor.retired_count g.A.Acceptor.given g.A.Acceptor.retired in
    takes_item g.V.Service.served g.V.Service.origin start c.args.root.now c.split-pass.new.pass before (links c.args.acceptor.now) c.args.turns.now c.adopt.new.self short spent c.args.link c.in-Ok.made
    c.split-pass.ensures.root b c.in-Ok-adopt.ensures.ok c.in-Ok-adopt.ensures.over c.in-Ok.ensures.opened.1 s

pub returns-in-Err-adopt-clause-serves : goal.returns-in-Err-adopt-clause-serves
returns-in-Err-adopt-clause-serves g c start before short spent s b =
    let links = links_of g.A.Acceptor.given_count g.A.Acceptor.retired_count g.A.Acceptor.given g.A.Acceptor.retired in
    let opened = subst (λ (m : g.row.T.Denot). g.V.Service.opened m c.args.link c.split-pass.result) (sym c.in-Err-adopt.ensures.err.0) c.in-Ok.ensures.opened.0 in
    let is = c.discard-link.ensures c.args.link c.split-pass.result opened in
    let none = ap (λ (p : PassView _ _ _). p.mine) is.1 ∙ ap (λ (p : PassView _ _ _). p.mine) c.split-pass.ensures.new in
    refuses_item g.V.Service.served g.V.Service.origin start c.args.root.now c.split-pass.new.pass c.take_back.new.root before (links c.args.acceptor.now) (links c.take_back.new.acceptor) c.args.turns.now c.adopt.new.self short spent
    c.args.link c.discard-link.result.0 c.discard-link.result.1 c.split-pass.ensures.root b is.0 none c.take_back.ensures.back c.in-Err-adopt.ensures.err.1 c.in-Err-adopt.ensures.over s

pub returns-in-Err-clause-serves : goal.returns-in-Err-clause-serves
returns-in-Err-clause-serves g c start before short spent s b =
    let links = links_of g.A.Acceptor.given_count g.A.Acceptor.retired_count g.A.Acceptor.given g.A.Acceptor.retired in
    let is = c.in-Err.ensures.back in
    let none = ap (λ (p : PassView _ _ _). p.mine) is.1 ∙ ap (λ (p : PassView _ _ _). p.mine) c.split-pass.ensures.new in
    refuses_item g.V.Service.served g.V.Service.origin start c.args.root.now c.split-pass.new.pass c.take_back-in-Err.new.root before (links c.args.acceptor.now) (links c.take_back-in-Err.new.acceptor) c.args.turns.now c.args.turns.now short spent
    c.args.link c.in-Err.link c.in-Err.pass c.split-pass.ensures.root b is.0 none c.take_back-in-Err.ensures.back refl refl s
