use Rattle.addr_text.specs.AddressGrammar as spec
use Rattle.addr_text.proofs.Scanning.{run_done}
use Rattle.addr_text.proofs.number.decimal_digits.Goals as goal

pub returns : goal.returns
returns c = run_done spec.digit 10 _ c.digits.place c.args.text.now c.digits-test.false c.digits.invariant.0
