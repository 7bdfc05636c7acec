-- The ends that a server's side refuses a call with.
use Rattle.std.specs.Prelude.{ℕ, ◌==◌, List, codes, if◌then◌else◌}

-- the text of a status of HTTP that stands alone
abbrev pub http_code : ℕ → List ℕ
http_code status =
    if status == 405 then codes "405" else if status == 415 then codes "415" else if status == 400 then codes "400" else codes "500"
