-- The header blocks that a side sends: one encoder writes them all, under the table sizes that its peer announces
-- (RFC 7541, section 4.2; RFC 9113, section 4.3.1).
use Rattle.std.specs.Prelude.{◌≡◌, ◌≤◌, ◌==◌, sum_by, List, [], ◌∷◌, ◌++◌, fold, Option, Some, None, if◌then◌else◌}
use Rattle.h2_frames.specs.declared.frame.Frame.{Frame}
use Rattle.hpack_tables.specs.declared.field.Field.{Field}
use Rattle.hpack_tables.specs.Laws.{AreBytes}
use Rattle.hpack_tables.specs.EntrySizes.{size_of}
use Rattle.hpack_tables.specs.Writing.{Encoder, Writes, limited}
use Rattle.h2_exchange.specs.Blocks.{Block, completed}
use Rattle.h2_exchange.specs.Exchange.{Step, Received, Sent, sent}
use Rattle.h2_exchange.specs.Windows.{settings_in}

-- fields that a reader takes: their names and values are bytes, and their sizes are at most 65,536 together
abbrev pub IsWritable : List Field → Type 0
IsWritable fields = AreBytes fields × (sum_by size_of fields ≤ 65536)

-- each HEADER_TABLE_SIZE of a received frame bounds the encoder's table
abbrev pub limited_by : Frame → Encoder → Encoder
limited_by f e = fold (λ now s. if s.0 == 1 then limited s.1 now else now) e (settings_in f)

-- The block that a sent frame completes has the first of these fields, and this encoder stands behind it.
abbrev pub IsWritten : Encoder → Option Block → List (List Field) → List (List Field) → Encoder → Type 0
IsWritten e None lists more next = (more ≡ lists) × (next ≡ e)
IsWritten e (Some b) lists more next = (fields : List Field) × (lists ≡ fields ∷ more) × Writes e fields b.text next

-- The blocks that are sent in these steps, behind these earlier ones, have these fields.
abbrev pub AreWritten : Encoder → List Step → List Step → List (List Field) → Encoder → Type 0
AreWritten e past [] lists last = (lists ≡ []) × (last ≡ e)
AreWritten e past (Received f ∷ x) lists last = AreWritten (limited_by f e) (past ++ Received f ∷ []) x lists last
AreWritten e past (Sent f ∷ x) lists last =
    (more : List (List Field)) × (next : Encoder) × IsWritten e (completed (sent past) f) lists more next × AreWritten next (past ++ Sent f ∷ []) x more last
