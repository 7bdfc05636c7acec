-- The status that trailers give (gRPC over HTTP/2, "Responses").
use Rattle.std.specs.Prelude.{ℕ, ◌==◌, ◌&&◌, Bool, if◌then◌else◌, List, [], ◌∷◌, Option, Some, None, is_none, option_and_then, Result, Ok, Err, codes}
use Rattle.std.specs.List.{find}
use Rattle.std.specs.Str.{bytes_eq}
use Rattle.std.specs.Result.{result_ok}
use Rattle.base64.specs.Engines.{standard_no_pad_indifferent}
use Rattle.base64.specs.GeneralPurpose.{decode_of}
use Rattle.percent_encoding.specs.Percent.{percent_decode}
use Rattle.proto_wire.specs.Fields.{fields}
use Rattle.proto_schema.specs.FieldValues.{number_at, text_at, pieces}
use Rattle.schema_numbers.specs.Numbers.{Numbers, field_of, value_of}
use Rattle.schema_numbers.specs.declared.names.FieldName.TheVariants.{ModifyRpcErrorDetailsReason}
use Rattle.hpack_tables.specs.declared.field.Field.{Field}
use Rattle.grpc_heads.specs.declared.status.ModifyReason.{ModifyReason}
use Rattle.grpc_heads.specs.declared.status.ModifyReason.TheVariants.{UnsupportedParams, ModifyNotAllowed, ParamsDiffer, ElectionIdInAllPrimary}
use Rattle.grpc_heads.specs.declared.reading.TrailerFault.{TrailerFault}
use Rattle.grpc_heads.specs.declared.reading.TrailerFault.TheVariants.{NoStatus, BadStatus}
use Rattle.grpc_heads.specs.GrpcStatus.{GrpcStatus}
use Rattle.grpc_heads.specs.Heads.{first_value}
use Rattle.grpc_heads.specs.Written.{digits, reason_name, type_url}

-- the status codes of gRPC
abbrev pub status_codes : List ℕ
status_codes = 0 ∷ 1 ∷ 2 ∷ 3 ∷ 4 ∷ 5 ∷ 6 ∷ 7 ∷ 8 ∷ 9 ∷ 10 ∷ 11 ∷ 12 ∷ 13 ∷ 14 ∷ 15 ∷ 16 ∷ []

-- the status code whose digits these are
unfoldable pub code_of : List ℕ → Option ℕ
code_of text = find (λ code. bytes_eq (digits code) text) status_codes

abbrev pub message_of : Option (List ℕ) → List ℕ
message_of None = []
message_of (Some text) = percent_decode text

-- the reason that has this number
unfoldable pub reason_numbered : Numbers → ℕ → Option ModifyReason
reason_numbered n number =
    find (λ reason. value_of n (reason_name reason) == number)
    (UnsupportedParams ∷ ModifyNotAllowed ∷ ParamsDiffer ∷ ElectionIdInAllPrimary ∷ [])

-- whether the bytes are those of fields of the Protocol Buffers encoding
abbrev pub is_message : List ℕ → Bool
is_message bytes = is_none (fields bytes).fault

-- the one of a list that has no other
abbrev pub only : {X : Type 0} → List X → Option X
only [] = None
only (x ∷ []) = Some x
only (x ∷ y ∷ others) = None

-- the reason of a ModifyRPCErrorDetails of gRIBI
abbrev pub reason_in : Numbers → List ℕ → Option ModifyReason
reason_in n bytes = if is_message bytes then reason_numbered n (number_at (field_of n ModifyRpcErrorDetailsReason) bytes) else None

-- of a google.protobuf.Any of that type
abbrev pub reason_in_any : Numbers → List ℕ → Option ModifyReason
reason_in_any n bytes = if is_message bytes && bytes_eq (text_at 1 bytes) type_url then reason_in n (text_at 2 bytes) else None

-- of a google.rpc.Status that has one detail
abbrev pub reason_in_status : Numbers → List ℕ → Option ModifyReason
reason_in_status n bytes = if is_message bytes then option_and_then (reason_in_any n) (only (pieces 3 (fields bytes).fields)) else None

-- of the base64 of that, with padding or without
abbrev pub reason_in_text : Numbers → List ℕ → Option ModifyReason
reason_in_text n text = option_and_then (reason_in_status n) (result_ok (decode_of standard_no_pad_indifferent text))

-- the status with a code, whose message and reason stand in these fields
abbrev pub status_from_fields : Numbers → ℕ → List Field → GrpcStatus
status_from_fields n code trailers = record {
  code = code;
  message = message_of (first_value (codes "grpc-message") trailers);
  reason = option_and_then (reason_in_text n) (first_value (codes "grpc-status-details-bin") trailers);
}

abbrev pub status_coded : Numbers → List Field → Option ℕ → Result GrpcStatus TrailerFault
status_coded n trailers None = Err BadStatus
status_coded n trailers (Some code) = Ok (status_from_fields n code trailers)

abbrev pub status_by_text : Numbers → List Field → Option (List ℕ) → Result GrpcStatus TrailerFault
status_by_text n trailers None = Err NoStatus
status_by_text n trailers (Some text) = status_coded n trailers (code_of text)

-- the status, or the fault of the trailers
unfoldable pub status_in_trailers : Numbers → List Field → Result GrpcStatus TrailerFault
status_in_trailers n trailers = status_by_text n trailers (first_value (codes "grpc-status") trailers)
