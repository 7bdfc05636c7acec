-- What a decoder answers.
use Rattle.std.specs.Prelude.{◌≡◌, Option, Some, None, Result, Ok, Err}
use Rattle.proto_schema.specs.declared.legal.MessageFault.{MessageFault}
use Rattle.proto_schema.specs.declared.legal.MessageFault.TheVariants.{Wire, Utf8, NoMemory}

-- A decoder gives the value where there is no fault, unless there is no memory for it, and else the first fault.
abbrev pub Decodes : {A : Type 0} → Result A MessageFault → Option MessageFault → A → Type 0
Decodes (Ok read) fault value = (fault ≡ None) × (read ≡ value)
Decodes (Err (Wire place found)) fault value = fault ≡ Some (Wire place found)
Decodes (Err (Utf8 place)) fault value = fault ≡ Some (Utf8 place)
Decodes (Err NoMemory) fault value = fault ≡ None
