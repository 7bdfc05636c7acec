-- What a line of a script asks of its call.
use Rattle.std.specs.Prelude.{ℕ, List, [], ◌∷◌, codes, if◌then◌else◌, Option, Some, None}
use Rattle.schema_numbers.specs.Numbers.{Numbers, value_of}
use Rattle.schema_numbers.specs.declared.names.ValueName.TheVariants as value
use Rattle.script_lang.specs.Forms.{is}
use Rattle.script_lang.specs.declared.line.Line.{Line}
use Rattle.script_lang.specs.declared.line.Line.TheVariants as line
use Rattle.aft_entries.specs.declared.operation.Op.{Op}
use Rattle.aft_entries.specs.declared.operation.Op.TheVariants as op
use Rattle.aft_entries.specs.declared.operation.RawOperation.{RawOperation}
use Rattle.gribi_messages.specs.declared.request.RawParams.{RawParams}
use Rattle.gribi_messages.specs.declared.request.ModifyRequest.{ModifyRequest}
use Rattle.gribi_messages.specs.declared.asks.InstanceAsk.{InstanceAsk}
use Rattle.gribi_messages.specs.declared.asks.InstanceAsk.TheVariants as ask
use Rattle.gribi_messages.specs.declared.asks.FlushAsk.TheVariants as flush
use Rattle.line_requests.specs.declared.ask.LineAsk.{LineAsk}
use Rattle.line_requests.specs.declared.ask.LineAsk.TheVariants as asks
use Rattle.line_requests.specs.Numbers.{narrow, wide}
use Rattle.line_requests.specs.Entries.{entry_of, behind_entry}

-- ---- a Modify call's messages, each of one thing

abbrev pub params_request : RawParams → ModifyRequest
params_request params = record { operations = []; params = Some params; election = None }

abbrev pub elect_request : ℕ → ModifyRequest
elect_request id = record { operations = []; params = None; election = Some id }

abbrev pub operation_request : RawOperation → ModifyRequest
operation_request o = record { operations = o ∷ []; params = None; election = None }

abbrev pub params_of : Numbers → List ℕ → List ℕ → List ℕ → RawParams
params_of n redundancy persistence ack = record {
  redundancy = value_of n (if is (codes "single-primary") redundancy then value.RedundancySinglePrimary else value.RedundancyAllPrimary);
  persistence = value_of n (if is (codes "preserve") persistence then value.PersistencePreserve else value.PersistenceDelete);
  ack = value_of n (if is (codes "rib-and-fib-ack") ack then value.AckTypeRibAndFibAck else value.AckTypeRibAck);
}

-- behind the line's first two words
abbrev pub params_ask : Numbers → List (List ℕ) → LineAsk
params_ask n (redundancy ∷ persistence ∷ ack ∷ more) = asks.Send (params_request (params_of n redundancy persistence ack))
params_ask n other = asks.Nothing

abbrev pub elect_ask : List (List ℕ) → LineAsk
elect_ask (id ∷ more) = asks.Send (elect_request (wide id))
elect_ask other = asks.Nothing

abbrev pub op_of : List ℕ → Op
op_of word = if is (codes "add") word then op.Add else if is (codes "replace") word then op.Replace else op.Delete

-- the election id that `by` names, else the one that the call sent last
abbrev pub election_by : Option ℕ → List (List ℕ) → Option ℕ
election_by last (by ∷ id ∷ more) = if is (codes "none") id then None else Some (wide id)
election_by last other = last

abbrev pub operation_of : Option ℕ → List ℕ → List ℕ → List ℕ → List ℕ → List ℕ → List (List ℕ) → RawOperation
operation_of last first id instance kind key words = record {
  id = narrow id;
  instance = instance;
  op = Some (op_of first);
  entry = Some (entry_of kind key words);
  election = election_by last (behind_entry kind words);
}

abbrev pub operate_ask : Option ℕ → List ℕ → List (List ℕ) → LineAsk
operate_ask last first (id ∷ instance ∷ kind ∷ key ∷ words) =
    asks.Send (operation_request (operation_of last first id instance kind key words))
operate_ask last first other = asks.Nothing

abbrev pub close_ask : List ℕ → LineAsk
close_ask first = if is (codes "finish") first then asks.Finish else asks.Reset

-- ---- whole calls

abbrev pub instance_of : List ℕ → InstanceAsk
instance_of word = if is (codes "*") word then ask.All else ask.Named word

unfoldable pub aft_of : Numbers → List ℕ → ℕ
aft_of n kind =
    if is (codes "ipv4") kind then value_of n value.AftIpv4 else if is (codes "ipv6") kind then value_of n value.AftIpv6
    else if is (codes "mpls") kind then value_of n value.AftMpls else if is (codes "next-hop") kind then value_of n value.AftNextHop
    else if is (codes "group") kind then value_of n value.AftNextHopGroup else value_of n value.AftAll

abbrev pub get_ask : Numbers → List (List ℕ) → LineAsk
get_ask n (instance ∷ kind ∷ more) = asks.Get (record { instance = Some (instance_of instance); aft = aft_of n kind })
get_ask n other = asks.Nothing

abbrev pub flush_ask : List (List ℕ) → LineAsk
flush_ask (way ∷ instance ∷ []) = asks.Flush (record { election = Some flush.Override; instance = Some (instance_of instance) })
flush_ask (way ∷ id ∷ instance ∷ more) = asks.Flush (record { election = Some (flush.Id (wide id)); instance = Some (instance_of instance) })
flush_ask other = asks.Nothing

-- ---- any line, by its first word and those behind the call's name

abbrev pub operate_by : Option ℕ → List (List ℕ) → LineAsk
operate_by last (first ∷ call ∷ words) = operate_ask last first words
operate_by last other = asks.Nothing

abbrev pub close_by : List (List ℕ) → LineAsk
close_by (first ∷ words) = close_ask first
close_by other = asks.Nothing

abbrev pub behind_call : List (List ℕ) → List (List ℕ)
behind_call (first ∷ call ∷ words) = words
behind_call other = []

-- under the numbering, on a call that sent this election id last
abbrev pub asked : Numbers → Option ℕ → Line → LineAsk
asked n last (line.Modify words) = asks.Modify
asked n last (line.Params words) = params_ask n (behind_call words)
asked n last (line.Elect words) = elect_ask (behind_call words)
asked n last (line.Operate words) = operate_by last words
asked n last (line.Close words) = close_by words
asked n last (line.Get words) = get_ask n (behind_call words)
asked n last (line.Flush words) = flush_ask (behind_call words)
asked n last other = asks.Nothing
