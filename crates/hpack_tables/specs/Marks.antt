-- The bytes of a header name in lower case.
use Rattle.std.specs.Prelude.{ℕ, Bool, ◌&&◌, ◌==◌, List}
use Rattle.std.specs.Char.{to_ascii_lowercase}
use Rattle.http_header.specs.Token.{AllPass, is_token_byte}

unfoldable pub is_name_byte : ℕ → Bool
is_name_byte b = is_token_byte b && to_ascii_lowercase b == b

abbrev pub AreNameBytes : List ℕ → Type 0
AreNameBytes bytes = AllPass is_name_byte bytes
