-- The heads and trailers that are written (gRPC over HTTP/2).
use Rattle.std.specs.Prelude.{ℕ, ◌+◌, ◌/◌, ◌%◌, ◌==◌, ◌||◌, Bool, nat_lt, if◌then◌else◌, List, [], ◌∷◌, ◌++◌, Option, Some, None, codes}
use Rattle.std.specs.List.{flat_map}
use Rattle.base64.specs.Engines.{standard_no_pad_indifferent}
use Rattle.base64.specs.GeneralPurpose.{encode_of}
use Rattle.percent_encoding.specs.Percent.{percent_encode_byte}
use Rattle.proto_wire.specs.Written.{uint_field, bytes_field}
use Rattle.schema_numbers.specs.Numbers.{Numbers, field_of, value_of}
use Rattle.schema_numbers.specs.declared.names.FieldName.TheVariants.{ModifyRpcErrorDetailsReason}
use Rattle.schema_numbers.specs.declared.names.ValueName.{ValueName}
use Rattle.schema_numbers.specs.declared.names.ValueName.TheVariants.{ModifyReasonUnsupportedParams, ModifyReasonModifyNotAllowed, ModifyReasonParamsDifferFromOtherClients, ModifyReasonElectionIdInAllPrimary}
use Rattle.hpack_tables.specs.declared.field.Field.{Field}
use Rattle.grpc_heads.specs.declared.head.Method.{Method}
use Rattle.grpc_heads.specs.declared.head.Method.TheVariants.{Modify, Get, Flush}
use Rattle.grpc_heads.specs.declared.status.ModifyReason.{ModifyReason}
use Rattle.grpc_heads.specs.declared.status.ModifyReason.TheVariants.{UnsupportedParams, ModifyNotAllowed, ParamsDiffer, ElectionIdInAllPrimary}
use Rattle.grpc_heads.specs.GrpcStatus.{GrpcStatus}

abbrev pub field : List ℕ → List ℕ → Field
field name value = record { name = name; value = value }

-- Heads

abbrev pub path_of : Method → List ℕ
path_of Modify = codes "/gribi.gRIBI/Modify"
path_of Get = codes "/gribi.gRIBI/Get"
path_of Flush = codes "/gribi.gRIBI/Flush"

abbrev pub request_fields : Method → List Field
request_fields method =
    field (codes ":method") (codes "POST")
    ∷ field (codes ":scheme") (codes "http")
    ∷ field (codes ":path") (path_of method)
    ∷ field (codes ":authority") (codes "localhost")
    ∷ field (codes "content-type") (codes "application/grpc")
    ∷ field (codes "te") (codes "trailers")
    ∷ []

abbrev pub response_fields : List Field
response_fields = field (codes ":status") (codes "200") ∷ field (codes "content-type") (codes "application/grpc") ∷ []

-- Trailers

-- a number below 100 in digits
abbrev pub digits : ℕ → List ℕ
digits n = if nat_lt n 10 then (48 + n) ∷ [] else (48 + n / 10) ∷ (48 + n % 10) ∷ []

-- a byte outside visible ASCII and the space, or a percent sign
abbrev pub is_escaped : ℕ → Bool
is_escaped byte = nat_lt byte 32 || nat_lt 126 byte || byte == 37

-- a message with its escapes
unfoldable pub escaped : List ℕ → List ℕ
escaped message = flat_map (λ byte. if is_escaped byte then percent_encode_byte byte else byte ∷ []) message

abbrev pub message_fields : List ℕ → List Field
message_fields [] = []
message_fields (byte ∷ message) = field (codes "grpc-message") (escaped (byte ∷ message)) ∷ []

-- a number that is 0 and bytes that are empty are left out
abbrev pub uint_or_none : ℕ → ℕ → List ℕ
uint_or_none number value = if value == 0 then [] else uint_field number value

abbrev pub bytes_or_none : ℕ → List ℕ → List ℕ
bytes_or_none number [] = []
bytes_or_none number (byte ∷ bytes) = bytes_field number (byte ∷ bytes)

abbrev pub reason_name : ModifyReason → ValueName
reason_name UnsupportedParams = ModifyReasonUnsupportedParams
reason_name ModifyNotAllowed = ModifyReasonModifyNotAllowed
reason_name ParamsDiffer = ModifyReasonParamsDifferFromOtherClients
reason_name ElectionIdInAllPrimary = ModifyReasonElectionIdInAllPrimary

abbrev pub type_url : List ℕ
type_url = codes "type.googleapis.com/gribi.ModifyRPCErrorDetails"

-- a ModifyRPCErrorDetails of gRIBI
abbrev pub reason_bytes : Numbers → ModifyReason → List ℕ
reason_bytes n reason = uint_or_none (field_of n ModifyRpcErrorDetailsReason) (value_of n (reason_name reason))

-- it as a google.protobuf.Any
unfoldable pub any_bytes : Numbers → ModifyReason → List ℕ
any_bytes n reason = bytes_field 1 type_url ++ bytes_or_none 2 (reason_bytes n reason)

-- a google.rpc.Status whose one detail is that
unfoldable pub details : Numbers → ℕ → List ℕ → ModifyReason → List ℕ
details n code message reason =
    uint_or_none 1 code ++ bytes_or_none 2 message ++ bytes_field 3 (any_bytes n reason)

abbrev pub reason_fields : Numbers → ℕ → List ℕ → Option ModifyReason → List Field
reason_fields n code message None = []
reason_fields n code message (Some reason) =
    field (codes "grpc-status-details-bin") (encode_of standard_no_pad_indifferent (details n code message reason)) ∷ []

unfoldable pub trailer_fields : Numbers → GrpcStatus → List Field
trailer_fields n ending =
    field (codes "grpc-status") (digits ending.code)
    ∷ message_fields ending.message ++ reason_fields n ending.code ending.message ending.reason
