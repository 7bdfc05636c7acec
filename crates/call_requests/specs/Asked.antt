-- What the message of a Get or a Flush asks for, and the status that ends its call where it asks for nothing that is served
-- (gRIBI; codes of gRPC, texts of this server).
use Rattle.std.specs.Prelude.{◌≡◌, ℕ, Bool, true, false, List, [], ◌∷◌, ◌++◌, ◌==◌, if◌then◌else◌, Option, Some, None, Result, Ok, Err, is_none, codes}
use Rattle.std.specs.Fmt.{decimal}
use Rattle.std.specs.Option.{option_map, option_and_then}
use Rattle.schema_numbers.specs.Numbers.{Numbers, value_of}
use Rattle.schema_numbers.specs.declared.names.ValueName.TheVariants as value
use Rattle.proto_schema.specs.declared.schema.MessageKind.TheVariants as message
use Rattle.proto_schema.specs.declared.legal.MessageFault.{MessageFault}
use Rattle.proto_schema.specs.declared.legal.MessageFault.TheVariants.{Wire, Utf8, NoMemory}
use Rattle.proto_schema.specs.Legal.{first_fault}
use Rattle.aft_entries.specs.declared.key.Kind.TheVariants as kind
use Rattle.aft_entries.specs.InstanceNames.{first_that_holds, number_of}
use Rattle.gribi_messages.specs.declared.asks.InstanceAsk.{InstanceAsk}
use Rattle.gribi_messages.specs.declared.asks.InstanceAsk.TheVariants as instance
use Rattle.gribi_messages.specs.declared.asks.FlushAsk.{FlushAsk}
use Rattle.gribi_messages.specs.declared.asks.FlushAsk.TheVariants as election
use Rattle.gribi_messages.specs.declared.asks.GetRequest.{GetRequest}
use Rattle.gribi_messages.specs.declared.asks.FlushRequest.{FlushRequest}
use Rattle.gribi_messages.specs.GetAndFlush.{get_request, flush_request}
use Rattle.grpc_heads.specs.GrpcStatus.{GrpcStatus}
use Rattle.table_model.specs.declared.command.Which.{Which}
use Rattle.table_model.specs.declared.command.Which.TheVariants as which
use Rattle.table_model.specs.declared.command.KindAsk.{KindAsk}
use Rattle.table_model.specs.declared.command.KindAsk.TheVariants as kinds
use Rattle.table_model.specs.declared.command.FlushBy.{FlushBy}
use Rattle.table_model.specs.declared.command.FlushBy.TheVariants as by
use Rattle.call_answers.specs.declared.orders.Setting.{Setting}
use Rattle.call_requests.specs.declared.asks.AskFault.{AskFault}
use Rattle.call_requests.specs.declared.asks.AskFault.TheVariants as fault

-- ---- what is asked for, where it can be told

-- all instances, or the one of a name that is configured
abbrev pub which_of : List (List ℕ) → InstanceAsk → Option Which
which_of names instance.All = Some which.All
which_of names (instance.Named name) = option_map which.One (number_of names name)

abbrev pub which_asked : List (List ℕ) → Option InstanceAsk → Option Which
which_asked names ask = option_and_then (which_of names) ask

-- the kinds of entries of an AFT type that is in the table
abbrev pub kinds_of : Numbers → ℕ → Option KindAsk
kinds_of n aft =
    if aft == value_of n value.AftAll then Some kinds.All
    else if aft == value_of n value.AftIpv4 then Some (kinds.Only kind.V4)
    else if aft == value_of n value.AftIpv6 then Some (kinds.Only kind.V6)
    else if aft == value_of n value.AftMpls then Some (kinds.Only kind.Label)
    else if aft == value_of n value.AftNextHop then Some (kinds.Only kind.Hop)
    else if aft == value_of n value.AftNextHopGroup then Some (kinds.Only kind.Group)
    else None

abbrev pub allowed_by : FlushAsk → FlushBy
allowed_by (election.Id id) = by.Id id
allowed_by election.Override = by.Override

abbrev pub is_id_zero : Option FlushAsk → Bool
is_id_zero None = false
is_id_zero (Some (election.Id id)) = id == 0
is_id_zero (Some election.Override) = false

-- ---- refusals

-- INVALID_ARGUMENT with a text
abbrev pub invalid : List ℕ → GrpcStatus
invalid text = record { code = 3; message = text; reason = None }

-- the place is that of the tag of the field with the fault
abbrev pub bad_message : MessageFault → GrpcStatus
bad_message (Wire place found) = invalid (codes "bad message at " ++ decimal place)
bad_message (Utf8 place) = invalid (codes "bad message at " ++ decimal place)
bad_message NoMemory = invalid (codes "bad message at " ++ decimal 0)

-- what a decoder alone tells
abbrev pub is_out_of_memory : MessageFault → Bool
is_out_of_memory (Wire place found) = false
is_out_of_memory (Utf8 place) = false
is_out_of_memory NoMemory = true

-- the first that holds refuses a Get
abbrev pub get_refusal : Setting → GetRequest → Option GrpcStatus
get_refusal s request = first_that_holds (
    (is_none request.instance, invalid (codes "no network instance"))
    ∷ (is_none (which_asked s.instances request.instance), invalid (codes "unknown network instance"))
    ∷ (is_none (kinds_of s.numbering request.aft), invalid (codes "unknown AFT type"))
    ∷ [])

-- the first that holds refuses a Flush
abbrev pub flush_refusal : Setting → FlushRequest → Option GrpcStatus
flush_refusal s request = first_that_holds (
    (is_none request.instance, invalid (codes "no network instance"))
    ∷ (is_none (which_asked s.instances request.instance), invalid (codes "unknown network instance"))
    ∷ (is_none request.election, invalid (codes "no election"))
    ∷ (is_id_zero request.election, invalid (codes "election id is zero"))
    ∷ [])

-- a fault of the bytes comes before what they ask for
abbrev pub refusal_by : Option MessageFault → Option GrpcStatus → Option GrpcStatus
refusal_by None refusal = refusal
refusal_by (Some found) refusal = Some (bad_message found)

unfoldable pub get_message_refusal : Setting → List ℕ → Option GrpcStatus
get_message_refusal s bytes = refusal_by (first_fault s.numbering message.GetRequest bytes) (get_refusal s (get_request s.numbering bytes))

unfoldable pub flush_message_refusal : Setting → List ℕ → Option GrpcStatus
flush_message_refusal s bytes = refusal_by (first_fault s.numbering message.FlushRequest bytes) (flush_refusal s (flush_request s.numbering bytes))

-- ---- answers

-- what tells of a fault: the refusal for it, unless there is no memory for its text
abbrev pub IsBadMessage : AskFault → MessageFault → Type 0
IsBadMessage (fault.Refused status) found = (bad_message found ≡ status) × (is_out_of_memory found ≡ false)
IsBadMessage fault.NoMemory found = Unit {0}

-- What is asked for, where nothing refuses it, or the refusal. There may be no memory for either.
abbrev pub ReadsGet : Setting → Result (Which × KindAsk) AskFault → Option GrpcStatus → GetRequest → Type 0
ReadsGet s (Ok asked) refusal request =
    (refusal ≡ None) × (which_asked s.instances request.instance ≡ Some asked.0) × (kinds_of s.numbering request.aft ≡ Some asked.1)
ReadsGet s (Err (fault.Refused status)) refusal request = refusal ≡ Some status
ReadsGet s (Err fault.NoMemory) refusal request = Unit {0}

abbrev pub ReadsFlush : Setting → Result (FlushBy × Which) AskFault → Option GrpcStatus → FlushRequest → Type 0
ReadsFlush s (Ok asked) refusal request =
    (refusal ≡ None) × (option_map allowed_by request.election ≡ Some asked.0) × (which_asked s.instances request.instance ≡ Some asked.1)
ReadsFlush s (Err (fault.Refused status)) refusal request = refusal ≡ Some status
ReadsFlush s (Err fault.NoMemory) refusal request = Unit {0}
