-- What a numbering is, and which ones are valid: those whose messages and enumerations can be told apart on the wire
-- (Protocol Buffers: field numbers, and proto3's enumerators, whose absent value is 0).
use Rattle.std.specs.Prelude.{◌≡◌, ℕ, List, [], ◌∷◌, length, map, Bool, true, ◌==◌, ◌&&◌, ◌||◌, not, nat_le, nat_lt}
use Rattle.std.specs.List.{list_all, list_any}
use Rattle.schema_numbers.specs.declared.names.FieldName.{FieldName}
use Rattle.schema_numbers.specs.declared.names.FieldName.TheVariants as field
use Rattle.schema_numbers.specs.declared.names.ValueName.{ValueName}
use Rattle.schema_numbers.specs.declared.names.ValueName.TheVariants as value
use Rattle.schema_numbers.specs.Numbers.{Numbers, field_of, value_of}

-- the fields of each message
abbrev pub messages : List (List FieldName)
messages =
    (field.ModifyRequestOperation ∷ field.ModifyRequestParams ∷ field.ModifyRequestElectionId ∷ []) ∷
    (field.AftOperationId ∷ field.AftOperationNetworkInstance ∷ field.AftOperationOp ∷ field.AftOperationIpv4 ∷
    field.AftOperationIpv6 ∷ field.AftOperationMpls ∷ field.AftOperationNextHopGroup ∷ field.AftOperationNextHop ∷
    field.AftOperationMacAddress ∷ field.AftOperationPolicyForwardingEntry ∷ field.AftOperationElectionId ∷ []) ∷
    (field.SessionParametersRedundancy ∷ field.SessionParametersPersistence ∷ field.SessionParametersAckType ∷ []) ∷
    (field.Uint128High ∷ field.Uint128Low ∷ []) ∷
    (field.ModifyResponseResult ∷ field.ModifyResponseSessionParamsResult ∷ field.ModifyResponseElectionId ∷ []) ∷
    (field.AftResultId ∷ field.AftResultStatus ∷ field.AftResultTimestamp ∷ field.AftResultReason ∷ []) ∷
    (field.SessionParametersResultStatus ∷ []) ∷
    (field.GetRequestName ∷ field.GetRequestAll ∷ field.GetRequestAft ∷ []) ∷
    (field.GetResponseEntry ∷ []) ∷
    (field.AftEntryNetworkInstance ∷ field.AftEntryIpv4 ∷ field.AftEntryIpv6 ∷ field.AftEntryMpls ∷ field.AftEntryNextHopGroup ∷
    field.AftEntryNextHop ∷ field.AftEntryRibStatus ∷ field.AftEntryFibStatus ∷ []) ∷
    (field.FlushRequestId ∷ field.FlushRequestOverride ∷ field.FlushRequestName ∷ field.FlushRequestAll ∷ []) ∷
    (field.FlushResponseTimestamp ∷ field.FlushResponseResult ∷ []) ∷
    (field.ModifyRpcErrorDetailsReason ∷ []) ∷
    (field.Ipv4EntryKeyPrefix ∷ field.Ipv4EntryKeyEntry ∷ []) ∷
    (field.Ipv6EntryKeyPrefix ∷ field.Ipv6EntryKeyEntry ∷ []) ∷
    (field.LabelEntryKeyLabelUint64 ∷ field.LabelEntryKeyLabelEntry ∷ []) ∷
    (field.Ipv4LeavesNextHopGroup ∷ field.Ipv4LeavesNextHopGroupNetworkInstance ∷ []) ∷
    (field.Ipv6LeavesNextHopGroup ∷ field.Ipv6LeavesNextHopGroupNetworkInstance ∷ []) ∷
    (field.LabelLeavesNextHopGroup ∷ field.LabelLeavesNextHopGroupNetworkInstance ∷ []) ∷
    (field.NextHopGroupKeyId ∷ field.NextHopGroupKeyNextHopGroup ∷ []) ∷
    (field.NextHopGroupNextHop ∷ field.NextHopGroupBackupNextHopGroup ∷ []) ∷
    (field.MemberKeyIndex ∷ field.MemberKeyNextHop ∷ []) ∷
    (field.MemberLeavesWeight ∷ []) ∷
    (field.NextHopKeyIndex ∷ field.NextHopKeyNextHop ∷ []) ∷
    (field.NextHopIpAddress ∷ field.NextHopMacAddress ∷ field.NextHopInterfaceRef ∷ field.NextHopIpInIp ∷ field.NextHopPushedMplsLabelStack ∷ []) ∷
    (field.InterfaceRefInterface ∷ field.InterfaceRefSubinterface ∷ []) ∷
    (field.IpInIpSrcIp ∷ field.IpInIpDstIp ∷ []) ∷
    (field.PushedLabelLabelUint64 ∷ []) ∷
    []

-- the enumerators of each enumeration
abbrev pub enumerations : List (List ValueName)
enumerations =
    (value.OpAdd ∷ value.OpReplace ∷ value.OpDelete ∷ []) ∷
    (value.RedundancyAllPrimary ∷ value.RedundancySinglePrimary ∷ []) ∷
    (value.PersistenceDelete ∷ value.PersistencePreserve ∷ []) ∷
    (value.AckTypeRibAck ∷ value.AckTypeRibAndFibAck ∷ []) ∷
    (value.ResultStatusFailed ∷ value.ResultStatusRibProgrammed ∷ value.ResultStatusFibProgrammed ∷ value.ResultStatusFibFailed ∷ []) ∷
    (value.ParamsStatusOk ∷ []) ∷
    (value.AftAll ∷ value.AftIpv4 ∷ value.AftIpv6 ∷ value.AftMpls ∷ value.AftNextHop ∷ value.AftNextHopGroup ∷ []) ∷
    (value.EntryStatusProgrammed ∷ value.EntryStatusNotProgrammed ∷ []) ∷
    (value.FlushResultOk ∷ value.FlushResultNonZeroReferenceRemain ∷ []) ∷
    (value.ModifyReasonUnsupportedParams ∷ value.ModifyReasonModifyNotAllowed ∷ value.ModifyReasonParamsDifferFromOtherClients ∷
    value.ModifyReasonElectionIdInAllPrimary ∷ []) ∷
    []

-- no number stands twice
abbrev pub are_distinct : List ℕ → Bool
are_distinct [] = true
are_distinct (n ∷ ns) = not (list_any (λ m. m == n) ns) && are_distinct ns

-- the numbers that a field may have: 1 to 2^29 - 1, less those that Protocol Buffers keeps for itself
abbrev pub is_field_number : ℕ → Bool
is_field_number n = nat_le 1 n && nat_le n 536870911 && (nat_lt n 19000 || nat_lt 19999 n)

-- the numbers that an enumerator may have
abbrev pub is_enumerator_number : ℕ → Bool
is_enumerator_number n = nat_le n 2147483647

-- the enumerators that an absent field means
abbrev pub has_zeros : Numbers → Bool
has_zeros n = value_of n value.RedundancyAllPrimary == 0 && value_of n value.PersistenceDelete == 0 && value_of n value.AckTypeRibAck == 0

pub record IsValid (n : Numbers) : Type 0 where
  pub each_field : length n.fields ≡ 77
  pub each_value : length n.values ≡ 28
  pub fields_in_range : list_all is_field_number n.fields ≡ true
  pub values_in_range : list_all is_enumerator_number n.values ≡ true
  pub fields_distinct : list_all (λ m. are_distinct (map (field_of n) m)) messages ≡ true
  pub values_distinct : list_all (λ e. are_distinct (map (value_of n) e)) enumerations ≡ true
  pub zeros : has_zeros n ≡ true
