use Rattle.std.proofs.Common.{◌≡◌, ◌<◌, ◌^◌, drop}
use Rattle.addr_text.specs.AddressGrammar.{digit}
use Rattle.addr_text.proofs.Scanning.{run}
use Rattle.gribi_words.proofs.number.digits.Given as goal

-- the number so far, and what is left to read
abbrev pub invariant-digits : goal.invariant-digits
invariant-digits l = (run digit 10 0 l.text ≡ run digit 10 l.number (drop l.place l.text)) × (l.number < 10 ^ l.place)
