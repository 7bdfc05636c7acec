use Rattle.std.proofs.Common.{◌≡◌, ◌≤◌, ◌*◌, ◌-◌, ◌⊎◌, [], vec_len}
use Rattle.std.specs.Vec.{vec_capacity}
use Rattle.hpack_huffman.specs.Bits.{left_of, size_of}
use Rattle.hpack_huffman.proofs.Texts.{Goes}
use Rattle.hpack_huffman.proofs.decode.decode_all.Given as goal

abbrev pub invariant-loop-symbol : goal.invariant-loop-symbol
invariant-loop-symbol l = record {
  goes : Goes l.code l.fn.out.items l.out.items (left_of l.bits);
  room : size_of l.bits ≤ 5 * (vec_capacity l.out - vec_len l.out);
  capacity : vec_capacity l.out ≡ vec_capacity l.fn.out;
  enough : (30 ≤ l.bits.count) ⊎ (l.bits.rest.now ≡ []);
}

abbrev pub decreases-loop-symbol : goal.decreases-loop-symbol
decreases-loop-symbol l = size_of l.bits
