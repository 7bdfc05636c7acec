use Rattle.std.proofs.Common.{rules, ◌≡◌, vec_len, refl, List, ◌++◌, ◌∷◌, [], ap, sym, ◌∙◌, arith, Some, take, length, length-append}
use Rattle.rig_io.specs.Link.{Piece, sent}
use Rattle.rig_io.specs.MemLinks.{MemLinkState, received_count, sent_count, pieces_of}
use Rattle.rig_io.proofs.Pieces.{put_line, put_more, got_same}
use Rattle.rig_io.proofs.mem_link.MemLinkLink.poll_write.Goals as goal

pub invariant_of-self-else-not-send : goal.invariant_of-self-else-not-send
invariant_of-self-else-not-send c = let inv = c.self.invariant in let bytes = c.if-not-send.ensures.bytes refl in let ok = c.if-not-send.ensures.ok refl in let old : length c.self.inside.output.items ≡ vec_len c.self.inside.output = search rules in let new : length c.send.new.output.items ≡ vec_len c.send.new.output = search rules in let longer = ap length bytes ∙ length-append c.self.inside.output.items (take c.match-step.limit c.args.piece.now) in (
  inv.0,
  inv.1,
  omega (arith, inv.2, longer, old, new),
  ap received_count ok ∙ (got_same c.self.inside.marks.items (length (take c.match-step.limit c.args.piece.now)) ∙ inv.3),
  ap sent_count ok ∙ (put_more c.self.inside.marks.items (length (take c.match-step.limit c.args.piece.now)) ∙ omega (arith, inv.4, longer, old, new)),
)

pub returns-clause-pieces : goal.returns-clause-pieces
returns-clause-pieces c =
    let pieces : c.args.self.now.pieces ≡ pieces_of c.self.inside.marks.items (take c.self.inside.given c.self.inside.input.items) c.self.inside.output.items = sym (ap (λ (l : MemLinkState). l.pieces) c.step.ensures.same) ∙ sym (ap (λ (l : MemLinkState). l.pieces) c.self.view_is) in
    let old : length c.self.inside.output.items ≡ vec_len c.self.inside.output = search rules in
    let line = put_line c.self.inside.marks.items c.send.new.marks.items (take c.self.inside.given c.self.inside.input.items) c.self.inside.output.items c.send.new.output.items _ (c.self.invariant.4 ∙ sym old) (c.if-not-send.ensures.bytes refl) (c.if-not-send.ensures.ok refl) in
    ap Some (line ∙ ap (λ (l : List Piece). l ++ sent (take c.match-step.limit c.args.piece.now) ∷ []) (sym pieces))
