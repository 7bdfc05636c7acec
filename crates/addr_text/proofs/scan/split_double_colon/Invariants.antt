use Rattle.std.proofs.Common.{◌≡◌, take, drop}
use Rattle.addr_text.specs.AddressGrammar.{at_double_colon}
use Rattle.addr_text.proofs.Scanning.{behind_all}
use Rattle.addr_text.proofs.scan.split_double_colon.Given as goal

-- no `::` begins before the place
abbrev pub invariant-places : goal.invariant-places
invariant-places l = at_double_colon l.text ≡ behind_all (take l.place l.text) (at_double_colon (drop l.place l.text))
