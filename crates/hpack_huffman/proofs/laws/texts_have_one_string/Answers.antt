use Rattle.hpack_huffman.proofs.Uniqueness.{one_string}
use Rattle.hpack_huffman.proofs.laws.texts_have_one_string.Goals as goal

pub returns : goal.returns
returns c = one_string
