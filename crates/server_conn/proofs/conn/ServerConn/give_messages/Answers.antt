use Rattle.std.proofs.Common.{◌≡◌, ◌+◌, ◌≤◌, [], ◌∷◌, ◌++◌, ◌∙◌, map, length, ap, refl, sym, arith}
use Rattle.std.specs.Vec.Iter.{into_iter_items}
use Rattle.std.proofs.lemmas.List.{nil_from_length}
use Rattle.std.proofs.lemmas.List.Elements.{All-tail}
use Rattle.h2_exchange.specs.StreamParts.{Message}
use Rattle.server_conn.specs.declared.conn.ServerConn.{ServerConn}
use Rattle.server_conn.proofs.conn.ServerConn.give_messages.Goals as goal

pub messages-init : goal.messages-init
messages-init g c = rw c.into_iter-coming.ensures.rest (
  c.requires.short,
  c.into_iter-coming.ensures.len ∙ c.args.messages.ok.0,
  refl,
  refl,
  λ s t actions pieces own more h. h,
)

pub messages-preserved : goal.messages-preserved
messages-preserved g c =
    let steps : into_iter_items c.messages.coming ≡ c.in-Some.message ∷ into_iter_items c.next.new.self = c.in-Some.ensures.cases.0 in (
      All-tail (λ bytes. length bytes.items ≤ 4194304) c.in-Some.message (into_iter_items c.next.new.self) (rw steps at c.messages.invariant.0),
      let was = c.messages.invariant.1 in
          let gone = c.in-Some.ensures.cases.1 in
          let short = ap length steps in
          omega arith,
      c.give_message.ensures.same
          ∙ ap {A = ServerConn g.row.K.Denot} (λ x. record x { calls = c.give_message.new.self.calls }) c.messages.invariant.2,
      c.give_message.ensures.ahead ∙ c.messages.invariant.3,
      λ s t actions pieces own more h.
          rw c.in-Ok-true.field-0-test at (c.in-Ok-true.ensures.goes s t actions pieces own
          (map Message (map (λ bytes. bytes.items) (into_iter_items c.next.new.self)) ++ more)
          (rw steps at c.messages.invariant.4 s t actions pieces own more h)).0,
    )

pub returns-in-Ok-false-clause-goes : goal.returns-in-Ok-false-clause-goes
returns-in-Ok-false-clause-goes g c = λ s t actions pieces own more h.
    let steps : into_iter_items c.messages.coming ≡ c.in-Some.message ∷ into_iter_items c.next.new.self = c.in-Some.ensures.cases.0 in (
      rw c.in-Ok-false.field-0-test at (c.in-Ok-false.ensures.goes s t actions pieces own
          (map Message (map (λ bytes. bytes.items) (into_iter_items c.next.new.self)) ++ more)
          (rw steps at c.messages.invariant.4 s t actions pieces own more h)).0,
      tt,
    )

pub returns-in-Err-clause-goes : goal.returns-in-Err-clause-goes
returns-in-Err-clause-goes g c = λ s t actions pieces own more h.
    let steps : into_iter_items c.messages.coming ≡ c.in-Some.message ∷ into_iter_items c.next.new.self = c.in-Some.ensures.cases.0 in (
      tt,
      (c.in-Err.ensures.goes s t actions pieces own (map Message (map (λ bytes. bytes.items) (into_iter_items c.next.new.self)) ++ more)
          (rw steps at c.messages.invariant.4 s t actions pieces own more h)).1,
    )

pub returns-clause-goes : goal.returns-clause-goes
returns-clause-goes g c = λ s t actions pieces own more h.
    let none : into_iter_items c.messages.coming ≡ [] = nil_from_length _ (sym c.messages.invariant.1 ∙ c.in_default.ensures.cases.0) in
    (rw none at c.messages.invariant.4 s t actions pieces own more h, tt)
