-- What the walk of a file gives, and what is read of its text.
use Rattle.std.proofs.Common.{◌≡◌, ℕ, ◌≤◌, Bool, true, false, List, length, Option, Some, None, refl, sym, ap, subst, ◌∙◌, arith}
use Rattle.std.specs.Prelude.{Result, Ok, Err, nat_lt}
use Rattle.std.specs.Str.{is_utf8, IsUtf8}
use Rattle.std.proofs.lemmas.Bool.Decides.{nat_tests}
use Rattle.std.proofs.lemmas.Str.{IsUtf8-from_is_utf8}
use Rattle.serde_json.specs.Data.{Data, Members, no_members, member}
use Rattle.serde_json.specs.Find.{as_object}
use Rattle.serde_json.specs.Read.{read}
use Rattle.schema_numbers.specs.declared.names.FieldName.{FieldName}
use Rattle.schema_numbers.specs.declared.names.ValueName.{ValueName}
use Rattle.schema_numbers.specs.Numbers.{Numbers}
use Rattle.schema_numbers.specs.Default.{default_numbers}
use Rattle.proto_schema.specs.declared.schema.MessageKind.{MessageKind}
use Rattle.numbering_file.specs.declared.names.Enumeration.{Enumeration}
use Rattle.numbering_file.specs.declared.read.NumberingFault.{NumberingFault}
use Rattle.numbering_file.specs.declared.read.NumberingFault.TheVariants.{TooLong, NotJson, BadShape, UnknownName, Invalid, NoMemory}
use Rattle.numbering_file.specs.Names.{named, message_named, field_names, enumerations, value_names}
use Rattle.numbering_file.specs.File.{Walked, then_walk, number_in, field_walked, fields_walked, message_walked, messages_walked, value_walked, values_walked, enumeration_walked, enumerations_walked, parts, part_walked, parts_walked, file_walked, text_walked, value_of, walked_unless, file_numbers, MOST_BYTES, Reads}

-- ---- the walk never says that numbers aren't valid

then_never : (w : Walked) (more : Numbers → Walked) → (w ≡ Err Invalid → ⊥) → ((n : Numbers) → more n ≡ Err Invalid → ⊥) → then_walk w more ≡ Err Invalid → ⊥
then_never (Ok n) more first rest h = rest n h
then_never (Err fault) more first rest h = first h

field_never : (item : Option FieldName) (number : Option ℕ) (n : Numbers) → field_walked item number n ≡ Err Invalid → ⊥
field_never None number n h = cc
field_never (Some item) None n h = cc
field_never (Some item) (Some number) n h = cc

fields_never : (m : MessageKind) (ms : Members) (n : Numbers) → fields_walked m ms n ≡ Err Invalid → ⊥
fields_never m no_members n h = cc
fields_never m (member key value rest) n h =
    then_never (field_walked (named (field_names m) key) (number_in value) n) (fields_walked m rest) (field_never (named (field_names m) key) (number_in value) n) (fields_never m rest) h

message_never : (m : Option MessageKind) (fields : Option Members) (n : Numbers) → message_walked m fields n ≡ Err Invalid → ⊥
message_never None fields n h = cc
message_never (Some m) None n h = cc
message_never (Some m) (Some fields) n h = fields_never m fields n h

messages_never : (ms : Members) (n : Numbers) → messages_walked ms n ≡ Err Invalid → ⊥
messages_never no_members n h = cc
messages_never (member key value rest) n h =
    then_never (message_walked (message_named key) (as_object value) n) (messages_walked rest) (message_never (message_named key) (as_object value) n) (messages_never rest) h

value_never : (item : Option ValueName) (number : Option ℕ) (n : Numbers) → value_walked item number n ≡ Err Invalid → ⊥
value_never None number n h = cc
value_never (Some item) None n h = cc
value_never (Some item) (Some number) n h = cc

values_never : (e : Enumeration) (ms : Members) (n : Numbers) → values_walked e ms n ≡ Err Invalid → ⊥
values_never e no_members n h = cc
values_never e (member key value rest) n h =
    then_never (value_walked (named (value_names e) key) (number_in value) n) (values_walked e rest) (value_never (named (value_names e) key) (number_in value) n) (values_never e rest) h

enumeration_never : (e : Option Enumeration) (values : Option Members) (n : Numbers) → enumeration_walked e values n ≡ Err Invalid → ⊥
enumeration_never None values n h = cc
enumeration_never (Some e) None n h = cc
enumeration_never (Some e) (Some values) n h = values_never e values n h

enumerations_never : (ms : Members) (n : Numbers) → enumerations_walked ms n ≡ Err Invalid → ⊥
enumerations_never no_members n h = cc
enumerations_never (member key value rest) n h =
    then_never (enumeration_walked (named enumerations key) (as_object value) n) (enumerations_walked rest) (enumeration_never (named enumerations key) (as_object value) n) (enumerations_never rest) h

part_never : (part : Option Bool) (members : Option Members) (n : Numbers) → part_walked part members n ≡ Err Invalid → ⊥
part_never None members n h = cc
part_never (Some is_fields) None n h = cc
part_never (Some true) (Some members) n h = messages_never members n h
part_never (Some false) (Some members) n h = enumerations_never members n h

parts_never : (ms : Members) (n : Numbers) → parts_walked ms n ≡ Err Invalid → ⊥
parts_never no_members n h = cc
parts_never (member key value rest) n h =
    then_never (part_walked (named parts key) (as_object value) n) (parts_walked rest) (part_never (named parts key) (as_object value) n) (parts_never rest) h

fault_reads : (w : Walked) (fault : NumberingFault) → w ≡ Err fault → (w ≡ Err Invalid → ⊥) → Reads w (Err fault)
fault_reads w TooLong e never = e
fault_reads w NotJson e never = e
fault_reads w BadShape e never = e
fault_reads w UnknownName e never = e
fault_reads w Invalid e never = absurd (never e)
fault_reads w NoMemory e never = tt

-- the fault of the walk is read
pub walk_fault : (object : Option Members) (members : Members) (draft : Numbers) (fault : NumberingFault) → Some members ≡ object → draft ≡ default_numbers → parts_walked members draft ≡ Err fault → Reads (file_walked object) (Err fault)
walk_fault object members draft fault is start walked =
    subst (λ o. Reads (file_walked o) (Err fault)) is
    (fault_reads (parts_walked members default_numbers) fault (ap (λ n. parts_walked members n) (sym start) ∙ walked) (parts_never members default_numbers))

-- ---- the text

not_longer : (most n : ℕ) → n ≤ most → nat_lt most n ≡ false
not_longer most n h = grind (arith, nat_tests)

short_text : (text : List ℕ) → length text ≤ 1048576 → file_numbers text ≡ text_walked (value_of text (is_utf8 text))
unfolding file_numbers
short_text text short = ap (λ b. walked_unless b text) (not_longer MOST_BYTES (length text) short)

pub no_text : (text : List ℕ) → length text ≤ 1048576 → is_utf8 text ≡ false → file_numbers text ≡ Err NotJson
no_text text short bad = short_text text short ∙ ap (λ b. text_walked (value_of text b)) bad

pub no_json : (text : List ℕ) → length text ≤ 1048576 → is_utf8 text ≡ true → read text ≡ None → file_numbers text ≡ Err NotJson
no_json text short good none = short_text text short ∙ ap (λ b. text_walked (value_of text b)) good ∙ ap text_walked none

pub some_json : (text : List ℕ) (value : Data) → length text ≤ 1048576 → is_utf8 text ≡ true → read text ≡ Some value → file_numbers text ≡ file_walked (as_object value)
some_json text value short good some = short_text text short ∙ ap (λ b. text_walked (value_of text b)) good ∙ ap text_walked some

false_where : (b : Bool) → (b ≡ true → ⊥) → b ≡ false
false_where true h = absurd (h refl)
false_where false h = refl

pub not_utf8 : (text : List ℕ) → (IsUtf8 text → ⊥) → is_utf8 text ≡ false
not_utf8 text bad = false_where (is_utf8 text) (λ good. bad (IsUtf8-from_is_utf8 text good))

-- what is read of a text with these numbers is read of the file
pub same_reads : (w walked : Walked) (answer : Result Numbers NumberingFault) → w ≡ walked → Reads walked answer → Reads w answer
same_reads w walked answer e reads = subst (λ x. Reads x answer) (sym e) reads
