-- What a numbering file says, and why it is refused. The objects are walked in the byte order of their keys, each key before its
-- value; of equal keys the last counts. The first fault of the walk decides.
use Rattle.std.specs.Prelude.{◌≡◌, ℕ, Bool, true, false, List, [], ◌∷◌, length, nat_lt, Option, Some, None, Result, Ok, Err, codes, option_and_then}
use Rattle.std.specs.Str.{is_utf8}
use Rattle.serde_json.specs.Data.{Data, Members, no_members, member}
use Rattle.serde_json.specs.Find.{as_number, as_object, as_u64}
use Rattle.serde_json.specs.Read.{read}
use Rattle.schema_numbers.specs.declared.names.FieldName.{FieldName}
use Rattle.schema_numbers.specs.declared.names.ValueName.{ValueName}
use Rattle.schema_numbers.specs.Numbers.{Numbers}
use Rattle.schema_numbers.specs.Default.{default_numbers}
use Rattle.schema_numbers.specs.Draft.{with_field, with_value}
use Rattle.schema_numbers.specs.Valid.{IsValid}
use Rattle.proto_schema.specs.declared.schema.MessageKind.{MessageKind}
use Rattle.numbering_file.specs.declared.names.Enumeration.{Enumeration}
use Rattle.numbering_file.specs.declared.read.NumberingFault.{NumberingFault}
use Rattle.numbering_file.specs.declared.read.NumberingFault.TheVariants.{TooLong, NotJson, BadShape, UnknownName, Invalid, NoMemory}
use Rattle.numbering_file.specs.Names.{named, message_named, field_names, enumerations, value_names}

-- the numbers so far, or the first fault
abbrev pub Walked : Type 0
Walked = Result Numbers NumberingFault

abbrev pub then_walk : Walked → (Numbers → Walked) → Walked
then_walk (Ok numbers) more = more numbers
then_walk (Err fault) more = Err fault

abbrev pub number_in : Data → Option ℕ
number_in value = option_and_then as_u64 (as_number value)

-- ---- fields

-- a number for the field of a name
abbrev pub field_walked : Option FieldName → Option ℕ → Numbers → Walked
field_walked None number numbers = Err UnknownName
field_walked (Some item) None numbers = Err BadShape
field_walked (Some item) (Some number) numbers = Ok (with_field numbers item number)

abbrev pub fields_walked : MessageKind → Members → Numbers → Walked
fields_walked message no_members numbers = Ok numbers
fields_walked message (member key value rest) numbers =
    then_walk (field_walked (named (field_names message) key) (number_in value) numbers) (fields_walked message rest)

-- an object for the message of a name
abbrev pub message_walked : Option MessageKind → Option Members → Numbers → Walked
message_walked None fields numbers = Err UnknownName
message_walked (Some message) None numbers = Err BadShape
message_walked (Some message) (Some fields) numbers = fields_walked message fields numbers

abbrev pub messages_walked : Members → Numbers → Walked
messages_walked no_members numbers = Ok numbers
messages_walked (member key value rest) numbers =
    then_walk (message_walked (message_named key) (as_object value) numbers) (messages_walked rest)

-- ---- enumerators

abbrev pub value_walked : Option ValueName → Option ℕ → Numbers → Walked
value_walked None number numbers = Err UnknownName
value_walked (Some item) None numbers = Err BadShape
value_walked (Some item) (Some number) numbers = Ok (with_value numbers item number)

abbrev pub values_walked : Enumeration → Members → Numbers → Walked
values_walked enumeration no_members numbers = Ok numbers
values_walked enumeration (member key value rest) numbers =
    then_walk (value_walked (named (value_names enumeration) key) (number_in value) numbers) (values_walked enumeration rest)

abbrev pub enumeration_walked : Option Enumeration → Option Members → Numbers → Walked
enumeration_walked None values numbers = Err UnknownName
enumeration_walked (Some enumeration) None numbers = Err BadShape
enumeration_walked (Some enumeration) (Some values) numbers = values_walked enumeration values numbers

abbrev pub enumerations_walked : Members → Numbers → Walked
enumerations_walked no_members numbers = Ok numbers
enumerations_walked (member key value rest) numbers =
    then_walk (enumeration_walked (named enumerations key) (as_object value) numbers) (enumerations_walked rest)

-- ---- the whole

-- true where it has the fields, false where it has the enumerators
abbrev pub parts : List (List ℕ × Bool)
parts = (codes "fields", true) ∷ (codes "values", false) ∷ []

abbrev pub part_walked : Option Bool → Option Members → Numbers → Walked
part_walked None members numbers = Err UnknownName
part_walked (Some is_fields) None numbers = Err BadShape
part_walked (Some true) (Some members) numbers = messages_walked members numbers
part_walked (Some false) (Some members) numbers = enumerations_walked members numbers

abbrev pub parts_walked : Members → Numbers → Walked
parts_walked no_members numbers = Ok numbers
parts_walked (member key value rest) numbers =
    then_walk (part_walked (named parts key) (as_object value) numbers) (parts_walked rest)

abbrev pub file_walked : Option Members → Walked
file_walked None = Err BadShape
file_walked (Some members) = parts_walked members default_numbers

-- how many bytes a file has at most
abbrev pub MOST_BYTES : ℕ
MOST_BYTES = 1048576

abbrev pub text_walked : Option Data → Walked
text_walked None = Err NotJson
text_walked (Some value) = file_walked (as_object value)

-- a text in UTF-8 is read as JSON, and no other
abbrev pub value_of : List ℕ → Bool → Option Data
value_of text true = read text
value_of text false = None

abbrev pub walked_unless : Bool → List ℕ → Walked
walked_unless true text = Err TooLong
walked_unless false text = text_walked (value_of text (is_utf8 text))

-- the numbers that a file gives, or why it gives none
unfoldable pub file_numbers : List ℕ → Walked
file_numbers text = walked_unless (nat_lt MOST_BYTES (length text)) text

-- The numbering that has the numbers of a file, or the fault. They are refused as Invalid exactly where they would not be valid.
-- There may be no memory.
abbrev pub Reads : Walked → Result Numbers NumberingFault → Type 0
Reads walked (Ok numbers) = (walked ≡ Ok numbers) × IsValid numbers
Reads walked (Err TooLong) = walked ≡ Err TooLong
Reads walked (Err NotJson) = walked ≡ Err NotJson
Reads walked (Err BadShape) = walked ≡ Err BadShape
Reads walked (Err UnknownName) = walked ≡ Err UnknownName
Reads walked (Err Invalid) = (numbers : Numbers) × (walked ≡ Ok numbers) × (IsValid numbers → ⊥)
Reads walked (Err NoMemory) = Unit {0}

-- what a step of the walk leaves: the numbers, or a fault
abbrev pub Leaves : Walked → Numbers → Option NumberingFault → Type 0
Leaves walked after None = walked ≡ Ok after
Leaves walked after (Some fault) = walked ≡ Err fault
