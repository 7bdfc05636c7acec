use Rattle.std.proofs.Common.{◌≡◌, ◌-◌, ◌<◌, sym, refl, arith, length, take, drop}
use Rattle.std.proofs.lemmas.List.{take_rest, length-drop}
use Rattle.proto_wire.specs.Wire.{TaggedValue, value_of}
use Rattle.proto_wire.proofs.Cuts.{fields_from-first}
use Rattle.proto_wire.proofs.reader.FieldReader.next.Goals as goal

pub returns-in-Ok-clause-reads : goal.returns-in-Ok-clause-reads
returns-in-Ok-clause-reads c =
    let rest = c.self.inside.rest.now in
    let body : TaggedValue = record { number = c.in-Ok.number; value = value_of c.in-Ok.value; size = c.in-Ok.size } in
    let after : take (length rest - c.in-Ok.size) (drop c.in-Ok.size rest) ≡ drop c.in-Ok.size rest = take_rest rest c.in-Ok.size in
    let within = c.in-Ok.ensures.within in
    let some : 0 < length rest = grind arith in
    rw (← c.self.view_is, after) (fields_from-first c.self.inside.place rest (drop c.in-Ok.size rest) body some (sym c.in-Ok.ensures.value) refl, refl, omega (arith, length-drop c.in-Ok.size rest, within))
