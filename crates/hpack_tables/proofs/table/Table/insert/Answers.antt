use Rattle.std.proofs.Common.{◌≡◌, ◌<◌, ℕ, List, ◌∷◌, ap, ◌∙◌, arith}
use Rattle.std.proofs.lemmas.Bool.{lt-leb}
use Rattle.hpack_tables.specs.declared.field.Field.{Field}
use Rattle.hpack_tables.specs.Entries.{Entries}
use Rattle.hpack_tables.specs.EntrySizes.{size_of, fitting}
use Rattle.hpack_tables.proofs.Rooms.{fitting_none}
use Rattle.hpack_tables.proofs.table.Table.insert.Goals as goal

-- an entry that is larger than the table empties it
too_large : (max : ℕ) (old new : List Field) (f : Field) → max < size_of f → new ≡ fitting 0 old → new ≡ fitting max (f ∷ old)
too_large max old new f lt e = rw (lt-leb (size_of f) max lt) (e ∙ fitting_none old)

pub returns-then-size-self : goal.returns-then-size-self
returns-then-size-self c =
    rw (← c.self.view_is) (ap (λ (x : List Field). entries_of x c.self.inside.max) (too_large c.self.inside.max c.self.inside.entries.items c.evict.new.entries.items c.args.field (omega (arith, c.if-size-self.true, c.size-size.ensures)) c.evict.ensures.entries))
  where
    entries_of : List Field → ℕ → Entries
    entries_of items max = record { items = items; max = max }
