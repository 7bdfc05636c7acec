use Rattle.std.proofs.Common.{rules, ◌≡◌, List, [], ◌++◌, ◌∙◌, ap, refl, sym, subst, arith, length, All}
use Rattle.std.specs.Prelude.{map, slice_index_or}
use Rattle.std.specs.List.{remove}
use Rattle.table_lock.specs.Passes.{IsPassOf, PassView}
use Rattle.table_model.specs.declared.command.Command.{Command}
use Rattle.table_model.specs.declared.command.Config.{Config}
use Rattle.table_model.specs.declared.reply.Reply.{Reply}
use Rattle.table_workers.specs.declared.threads.Worker.{Worker}
use Rattle.serve_command.proofs.Hiring.{all_more, each_place, handed, some_left}
use Rattle.serve_command.proofs.table.hire.Goals as goal

pub workers-preserved : goal.workers-preserved
workers-preserved g c =
    let inv = c.workers.invariant in
    let before = c.workers.workers.items in
    let size : length before ≡ c.workers.number = inv.5 in
    let put = c.push_reserved.ensures.items in
    let left = some_left (λ (w : Worker g.row.D.Denot g.row.C.Denot). w.device) before c.args.devices.now.items c.workers.devices.items c.workers.number c.args.count inv.8 size
    c.workers-test.true c.requires.devices in (
      search rules,
      search rules,
      search rules,
      search rules,
      search rules,
      search rules,
      subst (λ (l : List (Worker g.row.D.Denot g.row.C.Denot)). All (λ w. IsPassOf c.args.lock.now w.pass) l) (sym put)
          (all_more (λ w. IsPassOf c.args.lock.now w.pass) before _ inv.6
          (ap (λ (p : PassView Command Reply Config). p.table) c.split-pass.ensures.new ∙ inv.0.0, ap (λ (p : PassView Command Reply Config). p.setup) c.split-pass.ensures.new ∙ inv.0.1)),
      λ i d lt.
          subst (λ (l : List (Worker g.row.D.Denot g.row.C.Denot)). ((slice_index_or l i d).number ≡ i) × ((slice_index_or l i d).pass.mine ≡ [])) (sym put)
          (each_place (λ k w. (w.number ≡ k) × (w.pass.mine ≡ [])) before _ (λ k e below. inv.7 k e (omega (arith, below, size)))
          (sym size, ap (λ (p : PassView Command Reply Config). p.mine) c.split-pass.ensures.new) i d (omega (arith, lt, size))),
      handed (λ (w : Worker g.row.D.Denot g.row.C.Denot). w.device) before c.args.devices.now.items c.workers.devices.items _ _ inv.8 left c.remove-device.ensures.value refl
          ∙ (ap (λ (l : List (Worker g.row.D.Denot g.row.C.Denot)). map (λ w. w.device) l ++ remove c.workers.devices.items 0) (sym put)
          ∙ ap (λ (l : List g.row.D.Denot). map (λ w. w.device) c.push_reserved.new.self.items ++ l) (sym c.remove-device.ensures.items)),
      search rules,
      search rules,
    )
