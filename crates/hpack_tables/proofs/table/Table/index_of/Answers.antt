use Rattle.std.proofs.Common.{ap, sym, ◌∙◌, arith}
use Rattle.hpack_tables.specs.Entries.{Entries}
use Rattle.hpack_tables.proofs.Rooms.{count_room}
use Rattle.hpack_tables.proofs.EntriesFound.{static_found, nothing_found, dynamic_found}
use Rattle.hpack_tables.proofs.table.Table.index_of.Goals as goal

pub returns-in-Some : goal.returns-in-Some
returns-in-Some c = static_found c.args.style c.args.whole c.args.field.now c.args.self.now.items c.in-Some.index (sym c.static_index.ensures ∙ c.in-Some.is)

pub dynamic_index-requires : goal.dynamic_index-requires
dynamic_index-requires c = omega (arith, count_room c.self.inside.entries.items, c.self.invariant.0, c.self.invariant.1)

pub returns-in-Plain : goal.returns-in-Plain
returns-in-Plain c = rw c.in-Plain.is (nothing_found c.args.whole c.args.field.now c.args.self.now.items (sym c.static_index.ensures ∙ c.in_default.is))

pub returns-in-Indexed : goal.returns-in-Indexed
returns-in-Indexed c =
    rw c.in-Indexed.is
    (dynamic_found c.args.whole c.args.field.now c.self.inside.entries.items c.args.self.now.items c.dynamic_index.result (sym c.static_index.ensures ∙ c.in_default.is) c.dynamic_index.ensures (ap (λ (t : Entries). t.items) c.self.view_is))
