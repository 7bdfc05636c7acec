use Rattle.std.proofs.Common.{refl}
use Rattle.hpack_huffman.proofs.Uniqueness.{only_text, no_fault}
use Rattle.hpack_huffman.proofs.decode.huff_decode.Goals as goal

pub returns-in-Ok-clause-only : goal.returns-in-Ok-clause-only
returns-in-Ok-clause-only c text t h =
    let d = c.in-Ok.ensures.decodes in
    (refl, only_text c.args.code.now c.args.out.now.items c.decode_all.new.out.items d.0 d.1 d.2 d.3 text t h)

pub returns-in-Err-clause-only : goal.returns-in-Err-clause-only
returns-in-Err-clause-only c text t h =
    let d = c.in-Err.ensures.decodes in
    absurd (no_fault c.args.code.now text c.in-Err.fault t h (d.0, d.1, d.3, d.4))
