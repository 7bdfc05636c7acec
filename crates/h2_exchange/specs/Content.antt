-- What the header blocks of a side say (RFC 7541): their fields, or the fault that ends the connection.
use Rattle.std.specs.Prelude.{◌≡◌, ℕ, Bool, false, List, [], ◌∷◌, length, slice_get, Option, Some, None, Result, Ok, Err, if◌then◌else◌}
use Rattle.h2_frames.specs.declared.frame.Frame.{Frame}
use Rattle.hpack_tables.specs.declared.fault.HpackFault.{HpackFault}
use Rattle.hpack_tables.specs.declared.field.Field.{Field}
use Rattle.hpack_tables.specs.Reading.{State, BlockAt}
use Rattle.h2_exchange.specs.declared.limits.H2Limits.{H2Limits}
use Rattle.h2_exchange.specs.declared.role.Role.{Role}
use Rattle.h2_exchange.specs.Blocks.{Block, blocks, completed}
use Rattle.h2_exchange.specs.Exchange.{Step, received}
use Rattle.h2_exchange.specs.Frames.{stream_of}
use Rattle.h2_exchange.specs.Malformed.{is_malformed_head, is_malformed_trailers}
use Rattle.h2_exchange.specs.StreamErrors.{stream_error_of}
use Rattle.h2_exchange.specs.Streams.{has_head}
use Rattle.h2_frames.specs.declared.code.ErrorCode.{ErrorCode}

-- the fields of a block, or its fault
abbrev pub Outcome : Type 0
Outcome = Result (List Field) HpackFault

-- blocks are read one after another over one table, up to the first that has a fault
abbrev pub ReadOver : List Field → ℕ → List Block → List Outcome → Type 0
ReadOver entries max [] [] = Unit {0}
ReadOver entries max (b ∷ bs) (Ok fields ∷ more) =
    (after : State) × BlockAt 4096 (record { entries = entries; max = max; fields = [] }) b.text (Ok after) × (after.fields ≡ fields)
    × ReadOver after.entries after.max bs more
ReadOver entries max (b ∷ bs) (Err fault ∷ more) = BlockAt 4096 (record { entries = entries; max = max; fields = [] }) b.text (Err fault) × (more ≡ [])
ReadOver entries max [] (outcome ∷ more) = ⊥
ReadOver entries max (b ∷ bs) [] = ⊥

-- The blocks of these frames have these outcomes, over a table of 4,096 bytes.
abbrev pub AreRead : List Frame → List Outcome → Type 0
AreRead fs heads = ReadOver [] 4096 (blocks fs) heads

-- the outcome of the block that a frame completes
abbrev pub outcome_for : List Outcome → List Frame → Option Block → Option Outcome
outcome_for heads past None = None
outcome_for heads past (Some b) = slice_get heads (length (blocks past))

abbrev pub outcome_at : List Outcome → List Step → Frame → Option Outcome
outcome_at heads past f = outcome_for heads (received past) (completed (received past) f)

-- the first block of a stream is its head, and later ones are trailers
abbrev pub is_malformed : Role → List Step → Frame → Option Outcome → Bool
is_malformed role past f (Some (Ok fields)) =
    if has_head (received past) (stream_of f) then is_malformed_trailers fields else is_malformed_head role fields
is_malformed role past f other = false

-- the stream error of a received frame that is no connection error
abbrev pub stream_error : Role → H2Limits → List Outcome → List Step → Frame → Option ErrorCode
stream_error role limits heads past f = stream_error_of role limits past f (is_malformed role past f (outcome_at heads past f))
