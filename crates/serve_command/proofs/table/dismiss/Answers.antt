use Rattle.std.proofs.Common.{rules, ◌≡◌, List, [], ◌∷◌, ◌++◌, ◌∙◌, ap, refl, sym, subst, append-nil}
use Rattle.std.proofs.lemmas.List.{nil_from_length}
use Rattle.table_lock.specs.Passes.{IsPassOf, PassView, item}
use Rattle.table_model.specs.declared.command.Command.{Command}
use Rattle.table_model.specs.declared.command.Config.{Config}
use Rattle.table_model.specs.declared.reply.Reply.{Reply}
use Rattle.table_lock.proofs.Lists.{prefix_refl, prefix_trans}
use Rattle.table_workers.specs.declared.threads.Worker.{Worker}
use Rattle.link_serving.specs.Serving.{Each}
use mathlib.Core.List.{IsPrefix}
use Rattle.serve_command.proofs.Hiring.{each_seen, front_is, joined, last_is, parted}
use Rattle.serve_command.proofs.table.dismiss.Goals as goal

pub workers-init : goal.workers-init
workers-init g c = (
  [],
  sym (append-nil c.args.workers.items),
  c.requires.root.0,
  c.requires.root.1,
  c.requires.passes,
  c.requires.out,
  c.requires.room,
  sym (append-nil c.args.root.now.ended),
  prefix_refl c.args.root.now.seen,
  tt,
  refl,
)

pub join-requires : goal.join-requires
join-requires g c =
    let inv = c.workers.invariant in
    (inv.2, inv.3, last_is (λ w. IsPassOf c.args.lock.now w.pass) c.pop.new.self.items c.workers.workers.items c.in-Some.worker c.in-Some.ensures.items inv.4)

pub workers-preserved : goal.workers-preserved
workers-preserved g c =
    let inv = c.workers.invariant in
    let is = c.in-Some.ensures.items in
    let worker = c.in-Some.worker in
    let same = c.join.ensures.same in
    let seen = c.join.ensures.seen in (
      worker ∷ inv.0,
      parted c.args.workers.items c.pop.new.self.items c.workers.workers.items inv.0 worker inv.1 is,
      search rules,
      search rules,
      front_is (λ w. IsPassOf c.args.lock.now w.pass) c.pop.new.self.items c.workers.workers.items worker is inv.4,
      search rules,
      search rules,
      ap (λ (p : PassView Command Reply Config). p.ended) same
          ∙ (ap (λ (l : List _). l ++ item worker.pass ∷ []) inv.7 ∙ joined (λ (w : Worker g.row.D.Denot g.row.C.Denot). item w.pass) c.args.root.now.ended inv.0 worker),
      prefix_trans c.args.root.now.seen c.workers.root.seen c.join.new.pass.seen inv.8 seen.mine,
      (seen.theirs, each_seen (λ (w : Worker g.row.D.Denot g.row.C.Denot). w.pass.seen) c.workers.root.seen c.join.new.pass.seen inv.0 seen.mine inv.9),
      c.in-Ok.ensures.items ∙ ap (λ (l : List g.row.D.Denot). worker.device ∷ l) inv.10,
    )

pub returns-clause-each_seen : goal.returns-clause-each_seen
returns-clause-each_seen g c =
    let inv = c.workers.invariant in
    let none : c.workers.workers.items ≡ [] = nil_from_length c.workers.workers.items (search rules) in
    subst (λ (l : List (Worker g.row.D.Denot g.row.C.Denot)). Each (λ w. IsPrefix w.pass.seen c.workers.root.seen) l)
    (sym (inv.1 ∙ ap (λ (l : List (Worker g.row.D.Denot g.row.C.Denot)). l ++ inv.0) none)) inv.9
