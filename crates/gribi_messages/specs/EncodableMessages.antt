-- Messages that fit on the wire: numbers of 64 bits, election ids of 128, texts of UTF-8.
use Rattle.std.specs.Prelude.{◌≡◌, ℕ, ◌<◌, ◌^◌, List, [], length, slice_index_or, All, IfSome, is_some, true, FitsSigned}
use Rattle.std.specs.Str.{IsUtf8}
use Rattle.std.specs.Int.{w64}
use Rattle.aft_entries.specs.Shapes.{fits}
use Rattle.aft_entries.specs.declared.operation.RawOperation.{RawOperation}
use Rattle.aft_entries.specs.declared.operation.Row.{Row}
use Rattle.aft_messages.specs.Printing.{raw_of}
use Rattle.aft_messages.specs.Encodable.{IsEncodable}
use Rattle.gribi_messages.specs.declared.request.RawParams.{RawParams}
use Rattle.gribi_messages.specs.declared.request.ModifyRequest.{ModifyRequest}
use Rattle.gribi_messages.specs.declared.asks.InstanceAsk.{InstanceAsk}
use Rattle.gribi_messages.specs.declared.asks.InstanceAsk.TheVariants as ask
use Rattle.gribi_messages.specs.declared.asks.FlushAsk.{FlushAsk}
use Rattle.gribi_messages.specs.declared.asks.FlushAsk.TheVariants as election
use Rattle.gribi_messages.specs.declared.asks.GetRequest.{GetRequest}
use Rattle.gribi_messages.specs.declared.asks.FlushRequest.{FlushRequest}
use Rattle.gribi_messages.specs.declared.response.AftResult.{AftResult}
use Rattle.gribi_messages.specs.declared.response.ModifyResponse.{ModifyResponse}

pub record IsEncodableResult (r : AftResult) : Type 0 where
  pub id : r.id < 2 ^ 64
  pub status : r.status < 2 ^ 64
  pub timestamp : FitsSigned w64 r.timestamp
  pub reason : r.reason < 2 ^ 64

pub record IsEncodableResponse (r : ModifyResponse) : Type 0 where
  pub results : All IsEncodableResult r.results
  pub params : IfSome r.params (λ status. status < 2 ^ 64)
  pub election : IfSome r.election (λ id. id < 2 ^ 128)

-- a name is a text, and not longer than any text can be
abbrev pub IsEncodableName : InstanceAsk → Type 0
IsEncodableName ask.All = Unit {0}
IsEncodableName (ask.Named text) = IsUtf8 text × (length text < 2 ^ 64)

pub record IsEncodableGet (r : GetRequest) : Type 0 where
  pub instance : IfSome r.instance IsEncodableName
  pub aft : r.aft < 2 ^ 64

abbrev pub IsEncodableElection : FlushAsk → Type 0
IsEncodableElection (election.Id id) = id < 2 ^ 128
IsEncodableElection election.Override = Unit {0}

pub record IsEncodableFlush (r : FlushRequest) : Type 0 where
  pub election : IfSome r.election IsEncodableElection
  pub instance : IfSome r.instance IsEncodableName

-- Each operation has an op: one without it is written without its number.
pub record IsEncodableOperation (o : RawOperation) : Type 0 where
  pub id : o.id < 2 ^ 64
  pub instance : IsUtf8 o.instance
  pub op : is_some o.op ≡ true
  pub entry : IfSome o.entry IsEncodable
  pub election : IfSome o.election (λ id. id < 2 ^ 128)

pub record IsEncodableParams (p : RawParams) : Type 0 where
  pub redundancy : p.redundancy < 2 ^ 64
  pub persistence : p.persistence < 2 ^ 64
  pub ack : p.ack < 2 ^ 64

pub record IsEncodableRequest (r : ModifyRequest) : Type 0 where
  pub operations : All IsEncodableOperation r.operations
  pub params : IfSome r.params IsEncodableParams
  pub election : IfSome r.election (λ id. id < 2 ^ 128)

-- A row's payload is of its key's kind, as that of each entry is. The instances have these names.
pub record IsEncodableRow (names : List (List ℕ)) (row : Row) : Type 0 where
  pub fits : fits row.entry.key.name row.entry.payload ≡ true
  pub sent : IsEncodable (raw_of names row.entry)
  pub instance : IsUtf8 (slice_index_or names row.entry.key.instance [])
