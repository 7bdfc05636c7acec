use Rattle.std.proofs.Common.{◌≡◌, ℕ, suc, ◌-◌, ◌++◌, take, drop, [], refl, ap, ◌∙◌, arith}
use Rattle.h2_conn.specs.Blocks.{header_text, frames_text}
use Rattle.h2_conn.proofs.Framing.{one_frame}
use Rattle.h2_conn.proofs.blocks.+frame.Goals as goal

pub returns-clause-items : goal.returns-clause-items
returns-clause-items t c =
    let some : suc (c.args.more - 1) ≡ c.args.more = omega (arith, c.if-more-eq0.false) in
    one_frame (c.args.more - 1) c.args.at c.args.out.now.items c.put_header-2.new.out.items c.frame.new.out.items (header_text c.args.number c.args.flags c.args.stream 16384) [] c.args.number c.args.flags c.args.stream
    (omega (arith, c.requires.full, c.if-more-eq0.false)) refl refl c.put_header-2.ensures.items c.frame.ensures.items
    ∙ ap (λ (n : ℕ). take c.args.at c.args.out.now.items ++ frames_text n c.args.number c.args.flags c.args.stream (drop c.args.at c.args.out.now.items)) some
