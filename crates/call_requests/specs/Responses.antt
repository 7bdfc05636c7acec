-- The messages that answer a Get and a Flush (gRIBI).
use Rattle.std.specs.Prelude.{◌≡◌, IfSome, ℕ, ℤ, zero, suc, Bool, false, List, [], ◌∷◌, if◌then◌else◌, take, drop, length}
use Rattle.schema_numbers.specs.Numbers.{Numbers, value_of}
use Rattle.schema_numbers.specs.declared.names.ValueName.TheVariants as value
use Rattle.aft_entries.specs.declared.entry.Payload.{Payload}
use Rattle.aft_entries.specs.declared.entry.Payload.TheVariants as payload
use Rattle.aft_entries.specs.declared.operation.Row.{Row}
use Rattle.gribi_messages.specs.declared.asks.FlushResponse.{FlushResponse}
use Rattle.gribi_messages.specs.Rows.{rows_bytes}
use Rattle.table_model.specs.Table.{is_bad_payload}

-- how many rows a message of an answer to a Get has at most
abbrev pub ROWS_A_RESPONSE : ℕ
ROWS_A_RESPONSE = 64

-- at most so many messages of the rows in their order, each of as many rows as it may have
abbrev pub responses_upto : ℕ → Numbers → List (List ℕ) → List Row → List (List ℕ)
responses_upto zero n names rows = []
responses_upto (suc most) n names [] = []
responses_upto (suc most) n names (row ∷ rows) =
    rows_bytes n names (take ROWS_A_RESPONSE (row ∷ rows)) ∷ responses_upto most n names (drop ROWS_A_RESPONSE (row ∷ rows))

-- The messages of an answer to a Get: none where there is no row. Each has a row at least, so they are no more than the rows.
unfoldable pub get_responses : Numbers → List (List ℕ) → List Row → List (List ℕ)
get_responses n names rows = responses_upto (length rows) n names rows

-- a payload that breaks no rule, with so many instances
abbrev pub RowIsSound : ℕ → Row → Type 0
RowIsSound count row = is_bad_payload count row.entry.payload ≡ false

-- the answer to a Flush: its moment, and whether an entry of a named instance remains
abbrev pub flush_answer : Numbers → ℤ → Bool → FlushResponse
flush_answer n now remains = record {
  timestamp = now;
  result = if remains then value_of n value.FlushResultNonZeroReferenceRemain else value_of n value.FlushResultOk;
}

-- a MAC address that is there has six octets
abbrev pub HasSixOctets : Payload → Type 0
HasSixOctets (payload.Hop hop) = IfSome hop.mac (λ octets. length octets ≡ 6)
HasSixOctets (payload.Group group) = Unit {0}
HasSixOctets (payload.Route route) = Unit {0}
