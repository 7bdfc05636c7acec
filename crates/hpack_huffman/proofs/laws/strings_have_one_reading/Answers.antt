use Rattle.hpack_huffman.proofs.Uniqueness.{unique}
use Rattle.hpack_huffman.proofs.laws.strings_have_one_reading.Goals as goal

pub returns : goal.returns
returns c = unique
