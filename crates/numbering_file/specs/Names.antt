-- The names in a numbering file: messages with their fields, and enumerations with their enumerators (gRIBI's names).
use Rattle.std.specs.Prelude.{ℕ, List, [], ◌∷◌, Option, Some, None, codes, if◌then◌else◌}
use Rattle.std.specs.Str.{bytes_eq}
use Rattle.schema_numbers.specs.declared.names.FieldName.{FieldName}
use Rattle.schema_numbers.specs.declared.names.FieldName.TheVariants as field
use Rattle.schema_numbers.specs.declared.names.ValueName.{ValueName}
use Rattle.schema_numbers.specs.declared.names.ValueName.TheVariants as value
use Rattle.proto_schema.specs.declared.schema.MessageKind.{MessageKind}
use Rattle.proto_schema.specs.declared.schema.MessageKind.TheVariants as message
use Rattle.numbering_file.specs.declared.names.Enumeration.{Enumeration}
use Rattle.numbering_file.specs.declared.names.Enumeration.TheVariants as enumeration

-- what the first of these that has the name stands for
abbrev pub named : {A : Type 0} → List (List ℕ × A) → List ℕ → Option A
named [] key = None
named ((name, item) ∷ rest) key = if bytes_eq key name then Some item else named rest key

-- The messages in three parts. Wrappers and the empty message have no name here: their numbers are fixed.
-- of the calls
abbrev pub call_messages : List (List ℕ × MessageKind)
call_messages =
    (codes "ModifyRequest", message.ModifyRequest) ∷
    (codes "AFTOperation", message.AftOperation) ∷
    (codes "SessionParameters", message.SessionParameters) ∷
    (codes "Uint128", message.Uint128) ∷
    (codes "ModifyResponse", message.ModifyResponse) ∷
    (codes "AFTResult", message.AftResult) ∷
    (codes "SessionParametersResult", message.SessionParametersResult) ∷
    (codes "GetRequest", message.GetRequest) ∷
    (codes "GetResponse", message.GetResponse) ∷
    (codes "AFTEntry", message.AftEntry) ∷
    (codes "FlushRequest", message.FlushRequest) ∷
    (codes "FlushResponse", message.FlushResponse) ∷
    []

-- of keys and routes
abbrev pub key_messages : List (List ℕ × MessageKind)
key_messages =
    (codes "ModifyRPCErrorDetails", message.ModifyRpcErrorDetails) ∷
    (codes "Ipv4EntryKey", message.Ipv4EntryKey) ∷
    (codes "Ipv6EntryKey", message.Ipv6EntryKey) ∷
    (codes "LabelEntryKey", message.LabelEntryKey) ∷
    (codes "Ipv4Leaves", message.Ipv4Leaves) ∷
    (codes "Ipv6Leaves", message.Ipv6Leaves) ∷
    (codes "LabelLeaves", message.LabelLeaves) ∷
    []

-- of groups and next hops
abbrev pub payload_messages : List (List ℕ × MessageKind)
payload_messages =
    (codes "NextHopGroupKey", message.NextHopGroupKey) ∷
    (codes "NextHopGroup", message.NextHopGroup) ∷
    (codes "MemberKey", message.MemberKey) ∷
    (codes "MemberLeaves", message.MemberLeaves) ∷
    (codes "NextHopKey", message.NextHopKey) ∷
    (codes "NextHop", message.NextHop) ∷
    (codes "InterfaceRef", message.InterfaceRef) ∷
    (codes "IpInIp", message.IpInIp) ∷
    (codes "PushedLabel", message.PushedLabel) ∷
    []

-- the first of two that is there
abbrev pub or_else : {A : Type 0} → Option A → Option A → Option A
or_else None other = other
or_else (Some item) other = Some item

abbrev pub message_named : List ℕ → Option MessageKind
message_named key = or_else (named call_messages key) (or_else (named key_messages key) (named payload_messages key))

-- the fields of a message; the members of a oneof are named alone
abbrev pub field_names : MessageKind → List (List ℕ × FieldName)
field_names message.ModifyRequest =
    (codes "operation", field.ModifyRequestOperation) ∷
    (codes "params", field.ModifyRequestParams) ∷
    (codes "election_id", field.ModifyRequestElectionId) ∷
    []
field_names message.AftOperation =
    (codes "id", field.AftOperationId) ∷
    (codes "network_instance", field.AftOperationNetworkInstance) ∷
    (codes "op", field.AftOperationOp) ∷
    (codes "ipv4", field.AftOperationIpv4) ∷
    (codes "ipv6", field.AftOperationIpv6) ∷
    (codes "mpls", field.AftOperationMpls) ∷
    (codes "next_hop_group", field.AftOperationNextHopGroup) ∷
    (codes "next_hop", field.AftOperationNextHop) ∷
    (codes "mac_address", field.AftOperationMacAddress) ∷
    (codes "policy_forwarding_entry", field.AftOperationPolicyForwardingEntry) ∷
    (codes "election_id", field.AftOperationElectionId) ∷
    []
field_names message.SessionParameters =
    (codes "redundancy", field.SessionParametersRedundancy) ∷
    (codes "persistence", field.SessionParametersPersistence) ∷
    (codes "ack_type", field.SessionParametersAckType) ∷
    []
field_names message.Uint128 = (codes "high", field.Uint128High) ∷ (codes "low", field.Uint128Low) ∷ []
field_names message.ModifyResponse =
    (codes "result", field.ModifyResponseResult) ∷
    (codes "session_params_result", field.ModifyResponseSessionParamsResult) ∷
    (codes "election_id", field.ModifyResponseElectionId) ∷
    []
field_names message.AftResult =
    (codes "id", field.AftResultId) ∷
    (codes "status", field.AftResultStatus) ∷
    (codes "timestamp", field.AftResultTimestamp) ∷
    (codes "reason", field.AftResultReason) ∷
    []
field_names message.SessionParametersResult = (codes "status", field.SessionParametersResultStatus) ∷ []
field_names message.GetRequest = (codes "name", field.GetRequestName) ∷ (codes "all", field.GetRequestAll) ∷ (codes "aft", field.GetRequestAft) ∷ []
field_names message.GetResponse = (codes "entry", field.GetResponseEntry) ∷ []
field_names message.AftEntry =
    (codes "network_instance", field.AftEntryNetworkInstance) ∷
    (codes "ipv4", field.AftEntryIpv4) ∷
    (codes "ipv6", field.AftEntryIpv6) ∷
    (codes "mpls", field.AftEntryMpls) ∷
    (codes "next_hop_group", field.AftEntryNextHopGroup) ∷
    (codes "next_hop", field.AftEntryNextHop) ∷
    (codes "rib_status", field.AftEntryRibStatus) ∷
    (codes "fib_status", field.AftEntryFibStatus) ∷
    []
field_names message.FlushRequest =
    (codes "id", field.FlushRequestId) ∷
    (codes "override", field.FlushRequestOverride) ∷
    (codes "name", field.FlushRequestName) ∷
    (codes "all", field.FlushRequestAll) ∷
    []
field_names message.FlushResponse = (codes "timestamp", field.FlushResponseTimestamp) ∷ (codes "result", field.FlushResponseResult) ∷ []
field_names message.ModifyRpcErrorDetails = (codes "reason", field.ModifyRpcErrorDetailsReason) ∷ []
field_names message.Ipv4EntryKey = (codes "prefix", field.Ipv4EntryKeyPrefix) ∷ (codes "entry", field.Ipv4EntryKeyEntry) ∷ []
field_names message.Ipv6EntryKey = (codes "prefix", field.Ipv6EntryKeyPrefix) ∷ (codes "entry", field.Ipv6EntryKeyEntry) ∷ []
field_names message.LabelEntryKey = (codes "label_uint64", field.LabelEntryKeyLabelUint64) ∷ (codes "label_entry", field.LabelEntryKeyLabelEntry) ∷ []
field_names message.Ipv4Leaves =
    (codes "next_hop_group", field.Ipv4LeavesNextHopGroup) ∷
    (codes "next_hop_group_network_instance", field.Ipv4LeavesNextHopGroupNetworkInstance) ∷
    []
field_names message.Ipv6Leaves =
    (codes "next_hop_group", field.Ipv6LeavesNextHopGroup) ∷
    (codes "next_hop_group_network_instance", field.Ipv6LeavesNextHopGroupNetworkInstance) ∷
    []
field_names message.LabelLeaves =
    (codes "next_hop_group", field.LabelLeavesNextHopGroup) ∷
    (codes "next_hop_group_network_instance", field.LabelLeavesNextHopGroupNetworkInstance) ∷
    []
field_names message.NextHopGroupKey = (codes "id", field.NextHopGroupKeyId) ∷ (codes "next_hop_group", field.NextHopGroupKeyNextHopGroup) ∷ []
field_names message.NextHopGroup =
    (codes "next_hop", field.NextHopGroupNextHop) ∷
    (codes "backup_next_hop_group", field.NextHopGroupBackupNextHopGroup) ∷
    []
field_names message.MemberKey = (codes "index", field.MemberKeyIndex) ∷ (codes "next_hop", field.MemberKeyNextHop) ∷ []
field_names message.MemberLeaves = (codes "weight", field.MemberLeavesWeight) ∷ []
field_names message.NextHopKey = (codes "index", field.NextHopKeyIndex) ∷ (codes "next_hop", field.NextHopKeyNextHop) ∷ []
field_names message.NextHop =
    (codes "ip_address", field.NextHopIpAddress) ∷
    (codes "mac_address", field.NextHopMacAddress) ∷
    (codes "interface_ref", field.NextHopInterfaceRef) ∷
    (codes "ip_in_ip", field.NextHopIpInIp) ∷
    (codes "pushed_mpls_label_stack", field.NextHopPushedMplsLabelStack) ∷
    []
field_names message.InterfaceRef = (codes "interface", field.InterfaceRefInterface) ∷ (codes "subinterface", field.InterfaceRefSubinterface) ∷ []
field_names message.IpInIp = (codes "src_ip", field.IpInIpSrcIp) ∷ (codes "dst_ip", field.IpInIpDstIp) ∷ []
field_names message.PushedLabel = (codes "label_uint64", field.PushedLabelLabelUint64) ∷ []
field_names message.UintValue = []
field_names message.StringValue = []
field_names message.Empty = []

abbrev pub enumerations : List (List ℕ × Enumeration)
enumerations =
    (codes "op", enumeration.Op) ∷
    (codes "redundancy", enumeration.Redundancy) ∷
    (codes "persistence", enumeration.Persistence) ∷
    (codes "ack_type", enumeration.AckType) ∷
    (codes "aft_result_status", enumeration.AftResultStatus) ∷
    (codes "session_parameters_status", enumeration.SessionParametersStatus) ∷
    (codes "aft", enumeration.Aft) ∷
    (codes "entry_status", enumeration.EntryStatus) ∷
    (codes "flush_result", enumeration.FlushResult) ∷
    (codes "modify_reason", enumeration.ModifyReason) ∷
    []

-- the enumerators of an enumeration
abbrev pub value_names : Enumeration → List (List ℕ × ValueName)
value_names enumeration.Op = (codes "ADD", value.OpAdd) ∷ (codes "REPLACE", value.OpReplace) ∷ (codes "DELETE", value.OpDelete) ∷ []
value_names enumeration.Redundancy = (codes "ALL_PRIMARY", value.RedundancyAllPrimary) ∷ (codes "SINGLE_PRIMARY", value.RedundancySinglePrimary) ∷ []
value_names enumeration.Persistence = (codes "DELETE", value.PersistenceDelete) ∷ (codes "PRESERVE", value.PersistencePreserve) ∷ []
value_names enumeration.AckType = (codes "RIB_ACK", value.AckTypeRibAck) ∷ (codes "RIB_AND_FIB_ACK", value.AckTypeRibAndFibAck) ∷ []
value_names enumeration.AftResultStatus =
    (codes "FAILED", value.ResultStatusFailed) ∷
    (codes "RIB_PROGRAMMED", value.ResultStatusRibProgrammed) ∷
    (codes "FIB_PROGRAMMED", value.ResultStatusFibProgrammed) ∷
    (codes "FIB_FAILED", value.ResultStatusFibFailed) ∷
    []
value_names enumeration.SessionParametersStatus = (codes "OK", value.ParamsStatusOk) ∷ []
value_names enumeration.Aft =
    (codes "ALL", value.AftAll) ∷
    (codes "IPV4", value.AftIpv4) ∷
    (codes "IPV6", value.AftIpv6) ∷
    (codes "MPLS", value.AftMpls) ∷
    (codes "NEXTHOP", value.AftNextHop) ∷
    (codes "NEXTHOP_GROUP", value.AftNextHopGroup) ∷
    []
value_names enumeration.EntryStatus =
    (codes "PROGRAMMED", value.EntryStatusProgrammed) ∷
    (codes "NOT_PROGRAMMED", value.EntryStatusNotProgrammed) ∷
    []
value_names enumeration.FlushResult =
    (codes "OK", value.FlushResultOk) ∷
    (codes "NON_ZERO_REFERENCE_REMAIN", value.FlushResultNonZeroReferenceRemain) ∷
    []
value_names enumeration.ModifyReason =
    (codes "UNSUPPORTED_PARAMS", value.ModifyReasonUnsupportedParams) ∷
    (codes "MODIFY_NOT_ALLOWED", value.ModifyReasonModifyNotAllowed) ∷
    (codes "PARAMS_DIFFER_FROM_OTHER_CLIENTS", value.ModifyReasonParamsDifferFromOtherClients) ∷
    (codes "ELECTION_ID_IN_ALL_PRIMARY", value.ModifyReasonElectionIdInAllPrimary) ∷
    []
