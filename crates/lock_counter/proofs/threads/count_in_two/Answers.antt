use Rattle.std.proofs.Common.{◌≡◌, ℕ, ◌∙◌, ap, List, [], ◌∷◌, ◌++◌, ◌+◌}
use denote.Param.Send.{sendable}
use Rattle.table_lock.specs.declared.view.Item.{Item}
use Rattle.table_lock.specs.Passes.{item}
use Rattle.lock_counter.specs.Totals.{added}
use Rattle.lock_counter.proofs.SendSync.{counter_pass, counter_lock}
use Rattle.lock_counter.proofs.Counts.{counted_by_two, opened_sum, added_more}
use Rattle.lock_counter.proofs.threads.count_in_two.Goals as goal

pub join-a-requires-send-F : goal.join-a-requires-send-F
join-a-requires-send-F g c κs within = search (sendable, counter_pass, counter_lock) depth 10

pub join-a-requires-send-A : goal.join-a-requires-send-A
join-a-requires-send-A g c κs within = search (sendable, counter_pass) depth 10

pub returns-then-b : goal.returns-then-b
returns-then-b g c =
    let e1 = c.in_ok-lock.ensures.root.1 in let e2 = c.split-one.ensures.root in let e3 = c.split-two.ensures.root in let e4 = c.join.ensures.same in let e5 = c.join-2.ensures.same in
    let a = c.join-a.result.0.0 in let b = c.join-a.result.1.0 in
    let fa = c.join-a.ensures.first in let fb = c.join-a.ensures.second in
    let ended : c.join-2.new.pass.ended ≡ item a ∷ item b ∷ [] = ap (λ p. p.ended) e5 ∙ ap (λ (l : List (Item ℕ ℕ)). l ++ item b ∷ []) (ap (λ p. p.ended) e4 ∙ ap (λ (l : List (Item ℕ ℕ)). l ++ item a ∷ []) (ap (λ p. p.ended) e3 ∙ (ap (λ p. p.ended) e2 ∙ ap (λ p. p.ended) e1))) in
    let made : c.split-one.new.pass.made ≡ 2 = ap (λ p. p.made) e2 ∙ ap (λ p. p.made + 1) e1 in
    let opened : added c.tell-note.new.pass.mine ≡ c.args.opening ∷ [] = ap (λ p. added p.mine) c.tell-note.ensures.same ∙ (added_more _ _ _ _ _ c.in-Ok.ensures.ok.0 ∙ ap (λ p. added p.mine ++ c.args.opening ∷ []) c.split-one.ensures.new) in
    let one : a.number ≡ 1 = fa.1 ∙ (ap (λ p. p.number) c.tell-note.ensures.same ∙ (c.add.ensures.same.1 ∙ (ap (λ p. p.number) c.split-one.ensures.new ∙ ap (λ p. p.made) e1))) in
    opened_sum c.args.opening c.args.first.now c.args.second.now c.close-counter.result.total
    (counted_by_two c.in_ok-lock.lock.setup c.close-counter.result.total c.close-counter.result.first c.join-2.new.pass a b (c.args.opening ∷ c.args.first.now) c.args.second.now
    (c.close-counter.ensures.machine.1 ∙ (c.in_ok-lock.ensures.root.0 ∙ c.new.ensures.0))
    (ap (λ p. p.number) e5 ∙ (ap (λ p. p.number) e4 ∙ (ap (λ p. p.number) e3 ∙ (ap (λ p. p.number) e2 ∙ ap (λ p. p.number) e1))))
    (ap (λ p. p.mine) e5 ∙ (ap (λ p. p.mine) e4 ∙ (ap (λ p. p.mine) e3 ∙ (ap (λ p. p.mine) e2 ∙ ap (λ p. p.mine) e1))))
    ended one
    (fb.1 ∙ (ap (λ p. p.number) c.split-two.ensures.new ∙ made))
    (fa.2 c.if-a.true ∙ ap (λ l. l ++ c.args.first.now) opened)
    (fb.2 c.if-b.true ∙ ap (λ p. added p.mine ++ c.args.second.now) c.split-two.ensures.new)
    c.close-counter.ensures.machine.0
    c.close-counter.ensures.history)
