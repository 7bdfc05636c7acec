-- The schema: the fields of each message, by their numbers.
use Rattle.std.specs.Prelude.{ℕ, List, [], ◌∷◌, ◌==◌, if◌then◌else◌}
use Rattle.schema_numbers.specs.declared.names.FieldName.TheVariants as field
use Rattle.schema_numbers.specs.Numbers.{Numbers, field_of}
use Rattle.proto_schema.specs.declared.schema.MessageKind.{MessageKind}
use Rattle.proto_schema.specs.declared.schema.MessageKind.TheVariants as message
use Rattle.proto_schema.specs.declared.schema.FieldKind.{FieldKind}
use Rattle.proto_schema.specs.declared.schema.FieldKind.TheVariants.{Unknown, Number, Text, Unread, Message}

-- the fields that a message has
abbrev pub fields_of : Numbers → MessageKind → List (ℕ × FieldKind)
fields_of n message.ModifyRequest =
    (field_of n field.ModifyRequestOperation, Message message.AftOperation) ∷
    (field_of n field.ModifyRequestParams, Message message.SessionParameters) ∷
    (field_of n field.ModifyRequestElectionId, Message message.Uint128) ∷
    []
fields_of n message.AftOperation =
    (field_of n field.AftOperationId, Number) ∷
    (field_of n field.AftOperationNetworkInstance, Text) ∷
    (field_of n field.AftOperationOp, Number) ∷
    (field_of n field.AftOperationIpv4, Message message.Ipv4EntryKey) ∷
    (field_of n field.AftOperationIpv6, Message message.Ipv6EntryKey) ∷
    (field_of n field.AftOperationMpls, Message message.LabelEntryKey) ∷
    (field_of n field.AftOperationNextHopGroup, Message message.NextHopGroupKey) ∷
    (field_of n field.AftOperationNextHop, Message message.NextHopKey) ∷
    (field_of n field.AftOperationMacAddress, Unread) ∷
    (field_of n field.AftOperationPolicyForwardingEntry, Unread) ∷
    (field_of n field.AftOperationElectionId, Message message.Uint128) ∷
    []
fields_of n message.SessionParameters =
    (field_of n field.SessionParametersRedundancy, Number) ∷
    (field_of n field.SessionParametersPersistence, Number) ∷
    (field_of n field.SessionParametersAckType, Number) ∷
    []
fields_of n message.Uint128 =
    (field_of n field.Uint128High, Number) ∷
    (field_of n field.Uint128Low, Number) ∷
    []
fields_of n message.ModifyResponse =
    (field_of n field.ModifyResponseResult, Message message.AftResult) ∷
    (field_of n field.ModifyResponseSessionParamsResult, Message message.SessionParametersResult) ∷
    (field_of n field.ModifyResponseElectionId, Message message.Uint128) ∷
    []
fields_of n message.AftResult =
    (field_of n field.AftResultId, Number) ∷
    (field_of n field.AftResultStatus, Number) ∷
    (field_of n field.AftResultTimestamp, Number) ∷
    (field_of n field.AftResultReason, Number) ∷
    []
fields_of n message.SessionParametersResult =
    (field_of n field.SessionParametersResultStatus, Number) ∷
    []
fields_of n message.GetRequest =
    (field_of n field.GetRequestName, Text) ∷
    (field_of n field.GetRequestAll, Message message.Empty) ∷
    (field_of n field.GetRequestAft, Number) ∷
    []
fields_of n message.GetResponse =
    (field_of n field.GetResponseEntry, Message message.AftEntry) ∷
    []
fields_of n message.AftEntry =
    (field_of n field.AftEntryNetworkInstance, Text) ∷
    (field_of n field.AftEntryIpv4, Message message.Ipv4EntryKey) ∷
    (field_of n field.AftEntryIpv6, Message message.Ipv6EntryKey) ∷
    (field_of n field.AftEntryMpls, Message message.LabelEntryKey) ∷
    (field_of n field.AftEntryNextHopGroup, Message message.NextHopGroupKey) ∷
    (field_of n field.AftEntryNextHop, Message message.NextHopKey) ∷
    (field_of n field.AftEntryRibStatus, Number) ∷
    (field_of n field.AftEntryFibStatus, Number) ∷
    []
fields_of n message.FlushRequest =
    (field_of n field.FlushRequestId, Message message.Uint128) ∷
    (field_of n field.FlushRequestOverride, Message message.Empty) ∷
    (field_of n field.FlushRequestName, Text) ∷
    (field_of n field.FlushRequestAll, Message message.Empty) ∷
    []
fields_of n message.FlushResponse =
    (field_of n field.FlushResponseTimestamp, Number) ∷
    (field_of n field.FlushResponseResult, Number) ∷
    []
fields_of n message.ModifyRpcErrorDetails =
    (field_of n field.ModifyRpcErrorDetailsReason, Number) ∷
    []
fields_of n message.Ipv4EntryKey =
    (field_of n field.Ipv4EntryKeyPrefix, Text) ∷
    (field_of n field.Ipv4EntryKeyEntry, Message message.Ipv4Leaves) ∷
    []
fields_of n message.Ipv6EntryKey =
    (field_of n field.Ipv6EntryKeyPrefix, Text) ∷
    (field_of n field.Ipv6EntryKeyEntry, Message message.Ipv6Leaves) ∷
    []
fields_of n message.LabelEntryKey =
    (field_of n field.LabelEntryKeyLabelUint64, Number) ∷
    (field_of n field.LabelEntryKeyLabelEntry, Message message.LabelLeaves) ∷
    []
fields_of n message.Ipv4Leaves =
    (field_of n field.Ipv4LeavesNextHopGroup, Message message.UintValue) ∷
    (field_of n field.Ipv4LeavesNextHopGroupNetworkInstance, Message message.StringValue) ∷
    []
fields_of n message.Ipv6Leaves =
    (field_of n field.Ipv6LeavesNextHopGroup, Message message.UintValue) ∷
    (field_of n field.Ipv6LeavesNextHopGroupNetworkInstance, Message message.StringValue) ∷
    []
fields_of n message.LabelLeaves =
    (field_of n field.LabelLeavesNextHopGroup, Message message.UintValue) ∷
    (field_of n field.LabelLeavesNextHopGroupNetworkInstance, Message message.StringValue) ∷
    []
fields_of n message.NextHopGroupKey =
    (field_of n field.NextHopGroupKeyId, Number) ∷
    (field_of n field.NextHopGroupKeyNextHopGroup, Message message.NextHopGroup) ∷
    []
fields_of n message.NextHopGroup =
    (field_of n field.NextHopGroupNextHop, Message message.MemberKey) ∷
    (field_of n field.NextHopGroupBackupNextHopGroup, Message message.UintValue) ∷
    []
fields_of n message.MemberKey =
    (field_of n field.MemberKeyIndex, Number) ∷
    (field_of n field.MemberKeyNextHop, Message message.MemberLeaves) ∷
    []
fields_of n message.MemberLeaves =
    (field_of n field.MemberLeavesWeight, Message message.UintValue) ∷
    []
fields_of n message.NextHopKey =
    (field_of n field.NextHopKeyIndex, Number) ∷
    (field_of n field.NextHopKeyNextHop, Message message.NextHop) ∷
    []
fields_of n message.NextHop =
    (field_of n field.NextHopIpAddress, Message message.StringValue) ∷
    (field_of n field.NextHopMacAddress, Message message.StringValue) ∷
    (field_of n field.NextHopInterfaceRef, Message message.InterfaceRef) ∷
    (field_of n field.NextHopIpInIp, Message message.IpInIp) ∷
    (field_of n field.NextHopPushedMplsLabelStack, Message message.PushedLabel) ∷
    []
fields_of n message.InterfaceRef =
    (field_of n field.InterfaceRefInterface, Message message.StringValue) ∷
    (field_of n field.InterfaceRefSubinterface, Message message.UintValue) ∷
    []
fields_of n message.IpInIp =
    (field_of n field.IpInIpSrcIp, Message message.StringValue) ∷
    (field_of n field.IpInIpDstIp, Message message.StringValue) ∷
    []
fields_of n message.PushedLabel =
    (field_of n field.PushedLabelLabelUint64, Number) ∷
    []
fields_of n message.UintValue = (1, Number) ∷ []
fields_of n message.StringValue = (1, Text) ∷ []
fields_of n message.Empty = []

-- what the first row of this number says
abbrev pub listed : ℕ → List (ℕ × FieldKind) → FieldKind
listed number [] = Unknown
listed number (row ∷ rows) = if number == row.0 then row.1 else listed number rows

unfoldable pub kind_of : Numbers → MessageKind → ℕ → FieldKind
kind_of n m number = listed number (fields_of n m)
