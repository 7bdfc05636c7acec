-- A server that answers each message with its bytes.
use Rattle.std.specs.Prelude.{ℕ, List, [], ◌∷◌, Some, None, if◌then◌else◌}
use Rattle.std.specs.Str.{bytes_eq}
use Rattle.message_run.specs.Behaviour.{Behaviour, Reply, Field}

-- it ends the stream with 9 at the message of the byte 9, and can't read that of the byte 8, at place 2
abbrev pub echo : Behaviour
echo done message =
    if bytes_eq message (8 ∷ []) then record { written = []; ending = Some (Field 2) }
    else if bytes_eq message (9 ∷ []) then record { written = message; ending = Some (Reply 9) }
    else record { written = message; ending = None }
