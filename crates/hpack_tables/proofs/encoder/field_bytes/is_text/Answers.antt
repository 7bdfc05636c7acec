use Rattle.std.proofs.Common.{◌<◌, ℕ, arith}
use Rattle.std.proofs.lemmas.List.Elements.{All-from_get_or}
use Rattle.hpack_tables.proofs.encoder.field_bytes.is_text.Goals as goal

pub returns : goal.returns
returns c = All-from_get_or (λ (symbol : ℕ). symbol < 256) c.args.text.now 0 (λ i within. omega (arith, c.type_inv.text i))
