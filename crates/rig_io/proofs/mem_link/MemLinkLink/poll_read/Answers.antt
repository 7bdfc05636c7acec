use Rattle.std.proofs.Common.{rules, ◌≡◌, ◌+◌, ◌-◌, ◌≤◌, length, vec_len, subst, ℕ, List, ◌++◌, ◌∷◌, [], ap, sym, ◌∙◌, arith, Some, refl, take, drop}
use Rattle.rig_io.specs.Link.{Piece, received}
use Rattle.rig_io.specs.MemLinks.{MemLinkState, received_count, sent_count, pieces_of}
use Rattle.rig_io.proofs.Fronts.{front_and_rest}
use Rattle.rig_io.proofs.Pieces.{got_line, got_more, put_same}
use Rattle.rig_io.proofs.mem_link.MemLinkLink.poll_read.Goals as goal

pub invariant_of-self-2 : goal.invariant_of-self-2
invariant_of-self-2 c = let inv = c.self.invariant in let ok = c.if-not-note.ensures.ok refl in (
  omega (arith, c.min-count.ensures, c.deref.ensures.value),
  inv.1,
  inv.2,
  ap received_count ok ∙ (got_more c.self.inside.marks.items c.min-count.result ∙ ap (λ (n : ℕ). n + c.min-count.result) inv.3),
  ap sent_count ok ∙ (put_same c.self.inside.marks.items c.min-count.result ∙ inv.4),
)

pub returns-clause-bytes : goal.returns-clause-bytes
returns-clause-bytes c =
    let whole = c.deref.ensures.value in
    let after = subst (λ (b : List ℕ). c.copy_from_slice.new.self ≡ take c.min-count.result (take (length b - c.self.inside.given) (drop c.self.inside.given b))) whole c.copy_from_slice.ensures.after in
    let short = subst (λ (b : List ℕ). c.min-count.result ≤ length (take (length b - c.self.inside.given) (drop c.self.inside.given b))) whole (omega (arith, c.min-count.ensures)) in
    let left : c.args.self.now.left ≡ drop c.self.inside.given c.self.inside.input.items = sym (ap (λ (l : MemLinkState). l.left) c.step.ensures.same) ∙ sym (ap (λ (l : MemLinkState). l.left) c.self.view_is) in
    let over : c.args.self.now.over ≡ c.self.inside.is_over = sym (ap (λ (l : MemLinkState). l.over) c.step.ensures.same) ∙ sym (ap (λ (l : MemLinkState). l.over) c.self.view_is) in
    let bytes = front_and_rest c.self.inside.input.items c.self.inside.given c.min-count.result c.copy_from_slice.new.self (drop c.min-count.result c.args.buffer.now) after short in
    rw (left, over) (ap (λ (l : List ℕ). Some (record { bytes = l; over = c.self.inside.is_over })) bytes)

pub returns-clause-pieces : goal.returns-clause-pieces
returns-clause-pieces c =
    let whole = c.deref.ensures.value in
    let after = subst (λ (b : List ℕ). c.copy_from_slice.new.self ≡ take c.min-count.result (take (length b - c.self.inside.given) (drop c.self.inside.given b))) whole c.copy_from_slice.ensures.after in
    let short = subst (λ (b : List ℕ). c.min-count.result ≤ length (take (length b - c.self.inside.given) (drop c.self.inside.given b))) whole (omega (arith, c.min-count.ensures)) in
    let long : length c.self.inside.input.items ≡ vec_len c.self.inside.input = search rules in
    let pieces : c.args.self.now.pieces ≡ pieces_of c.self.inside.marks.items (take c.self.inside.given c.self.inside.input.items) c.self.inside.output.items = sym (ap (λ (l : MemLinkState). l.pieces) c.step.ensures.same) ∙ sym (ap (λ (l : MemLinkState). l.pieces) c.self.view_is) in
    let line = got_line c.self.inside.marks.items c.note.new.marks.items c.self.inside.input.items c.self.inside.output.items c.copy_from_slice.new.self (drop c.min-count.result c.args.buffer.now) c.self.inside.given c.min-count.result c.self.invariant.3 (omega (arith, long, c.self.invariant.0))
    (c.if-not-note.ensures.ok refl) after short in
    ap Some (line ∙ ap (λ (l : List Piece). l ++ received (take c.min-count.result (c.copy_from_slice.new.self ++ drop c.min-count.result c.args.buffer.now)) ∷ []) (sym pieces))
