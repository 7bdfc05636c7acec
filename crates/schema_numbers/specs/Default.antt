-- The default numbers, which are this project's own.
use Rattle.std.specs.Prelude.{ℕ, List, [], ◌∷◌}
use Rattle.schema_numbers.specs.Numbers.{Numbers}

-- of the fields, in the order of their names
abbrev pub default_fields : List ℕ
default_fields =
    -- a ModifyRequest
    1 ∷ 2 ∷ 3 ∷
    -- an AFTOperation
    1 ∷ 2 ∷ 3 ∷ 4 ∷ 5 ∷ 6 ∷ 7 ∷ 8 ∷ 9 ∷ 10 ∷ 11 ∷
    -- SessionParameters
    1 ∷ 2 ∷ 3 ∷
    -- a Uint128
    1 ∷ 2 ∷
    -- a ModifyResponse
    1 ∷ 2 ∷ 3 ∷
    -- an AFTResult
    1 ∷ 2 ∷ 3 ∷ 4 ∷
    -- a SessionParametersResult
    1 ∷
    -- a GetRequest
    1 ∷ 2 ∷ 3 ∷
    -- a GetResponse
    1 ∷
    -- an AFTEntry
    1 ∷ 2 ∷ 3 ∷ 4 ∷ 5 ∷ 6 ∷ 7 ∷ 8 ∷
    -- a FlushRequest
    1 ∷ 2 ∷ 3 ∷ 4 ∷
    -- a FlushResponse
    1 ∷ 2 ∷
    -- ModifyRPCErrorDetails
    1 ∷
    -- an Ipv4EntryKey
    1 ∷ 2 ∷
    -- an Ipv6EntryKey
    1 ∷ 2 ∷
    -- a LabelEntryKey
    1 ∷ 2 ∷
    -- the RouteLeaves of an IPv4 entry
    1 ∷ 2 ∷
    -- the RouteLeaves of an IPv6 entry
    1 ∷ 2 ∷
    -- the RouteLeaves of a label entry
    1 ∷ 2 ∷
    -- a NextHopGroupKey
    1 ∷ 2 ∷
    -- a NextHopGroup
    1 ∷ 2 ∷
    -- a MemberKey
    1 ∷ 2 ∷
    -- MemberLeaves
    1 ∷
    -- a NextHopKey
    1 ∷ 2 ∷
    -- a NextHop
    1 ∷ 2 ∷ 3 ∷ 4 ∷ 5 ∷
    -- an InterfaceRef
    1 ∷ 2 ∷
    -- an IpInIp
    1 ∷ 2 ∷
    -- a PushedLabel
    1 ∷
    []

-- of the enumerators, in the order of their names
abbrev pub default_values : List ℕ
default_values =
    -- op
    1 ∷ 2 ∷ 3 ∷
    -- redundancy
    0 ∷ 1 ∷
    -- persistence
    0 ∷ 1 ∷
    -- ack_type
    0 ∷ 1 ∷
    -- the status of an AFTResult
    2 ∷ 3 ∷ 4 ∷ 5 ∷
    -- the status of session parameters
    1 ∷
    -- aft
    1 ∷ 2 ∷ 3 ∷ 4 ∷ 5 ∷ 6 ∷
    -- the status of an entry in the RIB or the FIB
    1 ∷ 2 ∷
    -- the result of a Flush
    1 ∷ 2 ∷
    -- the reason of a refused Modify
    1 ∷ 2 ∷ 3 ∷ 4 ∷
    []

abbrev pub default_numbers : Numbers
default_numbers = record { fields = default_fields; values = default_values }
