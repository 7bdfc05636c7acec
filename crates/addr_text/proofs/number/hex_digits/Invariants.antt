use Rattle.std.proofs.Common.{◌≡◌, ◌<◌, ◌^◌, drop}
use Rattle.addr_text.specs.AddressGrammar.{hex_digit}
use Rattle.addr_text.proofs.Scanning.{run}
use Rattle.addr_text.proofs.number.hex_digits.Given as goal

-- the number so far, and what is left to read
abbrev pub invariant-digits : goal.invariant-digits
invariant-digits l = (run hex_digit 16 0 l.text ≡ run hex_digit 16 l.number (drop l.place l.text)) × (l.number < 16 ^ l.place)
