-- The name that a Get or a Flush asks for is UTF-8, where the message has no fault.
use Rattle.std.proofs.Common.{◌≡◌, ℕ, List, arith, None}
use Rattle.std.specs.Prelude.{IfSome}
use Rattle.proto_wire.specs.Fields.{fields}
use Rattle.schema_numbers.specs.Numbers.{Numbers, field_of}
use Rattle.schema_numbers.specs.Valid.{IsValid}
use Rattle.schema_numbers.specs.declared.names.FieldName.TheVariants as field
use Rattle.proto_schema.specs.declared.schema.MessageKind.TheVariants as message
use Rattle.proto_schema.specs.declared.schema.FieldKind.TheVariants.{Unknown, Text}
use Rattle.proto_schema.specs.Schema.{fields_of, kind_of}
use Rattle.proto_schema.specs.Legal.{first_fault, fault_within, wire_fault}
use Rattle.gribi_messages.specs.GetAndFlush.{last_member_at, get_members, flush_instance_members}
use Rattle.gribi_messages.proofs.Texts.{IsText, last_member_good}
use Rattle.gribi_messages.proofs.Schemas.{listed_at, distinct_at}

get_name : (n : Numbers) → IsValid n → kind_of n message.GetRequest (field_of n field.GetRequestName) ≡ Text
unfolding kind_of
get_name n valid = listed_at (fields_of n message.GetRequest) 0 (0, Unknown) (distinct_at n valid 7 (omega arith)) (omega arith)

flush_name : (n : Numbers) → IsValid n → kind_of n message.FlushRequest (field_of n field.FlushRequestName) ≡ Text
unfolding kind_of
flush_name n valid = listed_at (fields_of n message.FlushRequest) 2 (0, Unknown) (distinct_at n valid 10 (omega arith)) (omega arith)

pub get_text : (n : Numbers) (bytes : List ℕ) → IsValid n → first_fault n message.GetRequest bytes ≡ None → IfSome (last_member_at (get_members n) bytes) (IsText (field_of n field.GetRequestName))
unfolding first_fault fault_within last_member_at
get_text n bytes valid h =
    last_member_good (fault_within 5 n) (kind_of n message.GetRequest) (get_members n) (field_of n field.GetRequestName) (fields bytes).fields (wire_fault (fields bytes).fault) (get_name n valid) h

pub flush_text : (n : Numbers) (bytes : List ℕ) → IsValid n → first_fault n message.FlushRequest bytes ≡ None → IfSome (last_member_at (flush_instance_members n) bytes) (IsText (field_of n field.FlushRequestName))
unfolding first_fault fault_within last_member_at
flush_text n bytes valid h =
    last_member_good (fault_within 5 n) (kind_of n message.FlushRequest) (flush_instance_members n) (field_of n field.FlushRequestName) (fields bytes).fields (wire_fault (fields bytes).fault) (flush_name n valid) h
