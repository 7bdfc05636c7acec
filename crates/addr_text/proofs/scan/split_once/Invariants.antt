use Rattle.std.proofs.Common.{◌≡◌, take, drop}
use Rattle.addr_text.specs.AddressGrammar.{parts}
use Rattle.addr_text.proofs.Scanning.{ahead}
use Rattle.addr_text.proofs.scan.split_once.Given as goal

-- no separator stands before the place
abbrev pub invariant-places : goal.invariant-places
invariant-places l = parts l.separator l.text ≡ ahead (take l.place l.text) (parts l.separator (drop l.place l.text))
