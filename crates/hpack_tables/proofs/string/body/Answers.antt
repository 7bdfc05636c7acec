use Rattle.std.proofs.Common.{◌≡◌, ℕ, ◌≤◌, Bool, true, List, length, take, refl, subst, Err}
use Rattle.std.proofs.lemmas.Bool.{le-ltb}
use Rattle.hpack_huffman.specs.Faults.{Ends}
use Rattle.hpack_huffman.specs.declared.decode.HuffFault.{HuffFault}
use Rattle.hpack_tables.specs.declared.fault.HpackFault.TheVariants.{BadString}
use Rattle.hpack_tables.specs.Reading.{BodyAt}
use Rattle.hpack_tables.proofs.string.body.Goals as goal

bad_code : (coded : Bool) (len : ℕ) (bytes code : List ℕ) (fault : HuffFault) → len ≤ length bytes → coded ≡ true → code ≡ take len bytes → Ends code fault → BodyAt coded len bytes (Err BadString)
bad_code coded len bytes code fault le is e ends = rw (le-ltb (length bytes) len le, is) ((fault, subst (λ (x : List ℕ). Ends x fault) e ends), refl)

pub returns-clause-read : goal.returns-clause-read
returns-clause-read c = bad_code c.args.coded c.args.len c.args.bytes.now c.split_at.result.0.now c.in-Err.field-0 c.if-bytes-len.false c.if-not-coded.false c.split_at.ensures.front c.in-Err.ensures.fault
