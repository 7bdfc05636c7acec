use Rattle.std.proofs.Common.{rules, ◌≡◌, ℕ, ◌+◌, false, List, ◌++◌, length, drop, All, refl, sym, ap, ◌∙◌, subst, arith}
use Rattle.std.specs.Prelude.{map, reverse, slice_index_or}
use Rattle.std.specs.List.{list_any}
use mathlib.Core.List.{IsPrefix}
use Rattle.table_lock.specs.Passes.{IsPassOf, PassView, item}
use Rattle.table_model.specs.declared.command.Command.{Command}
use Rattle.table_model.specs.declared.command.Config.{Config}
use Rattle.table_model.specs.declared.reply.Reply.{Reply}
use Rattle.table_model.specs.Event.{events}
use Rattle.rib_core.specs.Recorded.{recorded}
use Rattle.link_serving.specs.Serving.{Each}
use Rattle.table_workers.specs.declared.threads.Worker.{Worker}
use Rattle.table_workers.specs.Threads.{HasRun}
use Rattle.serve_command.proofs.Closing.{brought, line_is, none_spent, others_are, served_by}
use Rattle.serve_command.proofs.Hiring.{written}
use Rattle.serve_command.proofs.running.serve_room.Goals as goal

pub dismiss-requires-clause-passes : goal.dismiss-requires-clause-passes
dismiss-requires-clause-passes g c =
    let done = c.serve_connections-tally.new.workers in
    let hired = c.in_ok-workers.workers.items in
    let size : length done ≡ length hired = search rules in
    let len : length done ≡ c.in_ok-workers.workers.len = search rules in
    subst (λ (l : List (Worker g.row.D.Denot g.row.C.Denot)). All (λ w. IsPassOf c.args.lock w.pass) l)
    (sym (written (drop (length done) hired) done c.in_ok-workers.workers.len len))
    (λ k d lt. (c.serve_connections-tally.ensures.ran k d (omega (arith, lt, size))).pass)

pub returns-clause-closes : goal.returns-clause-closes
returns-clause-closes g c unspent =
    let done = c.serve_connections-tally.new.workers in
    let hired = c.in_ok-workers.workers.items in
    let links = c.serve_connections-tally.ensures in
    let count : length hired ≡ c.args.order.now.workers = c.in_ok-workers.ensures.count in
    let size : length done ≡ length hired = search rules in
    let len : length done ≡ c.in_ok-workers.workers.len = search rules in
    let lent : c.as_mut_slice.result.now ≡ hired = c.as_mut_slice.ensures.value in
    let whole = written (drop (length done) hired) done c.in_ok-workers.workers.len len in
    let of_tally : c.serve_connections-tally.result.is_spent ≡ false = search rules in
    let of_workers : c.any_spent-has_spent.result ≡ false = search rules in
    let device = λ (w : Worker g.row.D.Denot g.row.C.Denot). w.device in
    let given = c.in_ok-workers.ensures.given in
    let stands = c.close-core.ensures.machine.0 in (
      c.dismiss.new.root.seen,
      record {
        lock = c.args.lock;
        setup = c.requires.setup;
        begun = c.hire.new.root;
        served = c.serve_connections-tally.new.root;
        root = c.dismiss.new.root;
        fresh = (
          c.in_ok-workers.ensures.same.0 ∙ ap (λ (p : PassView Command Reply Config). p.seen) c.requires.root,
          c.in_ok-workers.ensures.same.1 ∙ ap (λ (p : PassView Command Reply Config). p.ended) c.requires.root,
        );
        serves = served_by g.A.Link.Link.pieces g.A.Link.Link.faults c.args.lock g.N.Naming.lock c.args.setting.now g.N.Naming.setting _ _ _ _ _ c.requires.lock
            c.requires.setting of_tally links.serves;
        hired = hired;
        done = done;
        number = count;
        unused = c.in_ok-workers.ensures.unused;
        given = brought device hired c.args.devices.now.items c.hire.new.devices.items c.args.order.now.workers given count;
        left = c.dismiss.ensures.devices
            ∙ (ap (λ (l : List (Worker g.row.D.Denot g.row.C.Denot)). map device l ++ c.hire.new.devices.items) whole
            ∙ ap (λ (l : List g.row.D.Denot). map device done ++ l) (others_are device hired c.args.devices.now.items c.hire.new.devices.items c.args.order.now.workers given count));
        ran = λ i d lt.
            subst (λ (l : List (Worker g.row.D.Denot g.row.C.Denot)). HasRun g.D.Device.contents g.D.Device.faults c.args.lock (slice_index_or l i d) (slice_index_or done i d))
            lent (links.ran i d (omega (arith, lt, count, ap length lent)));
        halted = λ i d lt.
            none_spent (λ (w : Worker g.row.D.Denot g.row.C.Denot). w.is_spent) done
            (ap (λ (l : List (Worker g.row.D.Denot g.row.C.Denot)). list_any (λ w. w.is_spent) l) (sym (c.as_slice.ensures.value ∙ whole)) ∙ (sym c.any_spent-has_spent.ensures ∙ of_workers))
            i d (omega (arith, lt, count, size));
        joined = c.dismiss.ensures.ended
            ∙ ap (λ (l : List (Worker g.row.D.Denot g.row.C.Denot)). c.serve_connections-tally.new.root.ended ++ map (λ w. item w.pass) (reverse l)) whole;
        seen = c.dismiss.ensures.seen;
        each_seen = subst (λ (l : List (Worker g.row.D.Denot g.row.C.Denot)). Each (λ w. IsPrefix w.pass.seen c.dismiss.new.root.seen) l) whole c.dismiss.ensures.each_seen;
        closed = c.close-core.ensures.history;
        history_is = refl;
        retired = omega (arith, links.serves.serves.count);
        all = λ f. links.accepts.all refl f ∙ ap (λ (p : ℕ × ℕ). p.1 + p.0) c.requires.asked;
        rose = links.accepts.rose;
        hidden = links.accepts.hidden;
      },
      line_is (events (recorded c.dismiss.new.root.seen)) _ _ _ (c.entries.ensures.stands _ stands) (c.installed.ensures.stands _ stands)
          (c.events.ensures.stands _ stands),
    )
