use Rattle.std.proofs.Common.{sym}
use Rattle.addr_text.specs.AddressGrammar.{digit}
use Rattle.addr_text.proofs.Scanning.{run_done, run_fails}
use Rattle.gribi_words.proofs.number.digits.Goals as goal

pub returns-in-None : goal.returns-in-None
returns-in-None c = run_fails digit 10 c.digits.number c.digits.place c.args.text.now c.digits-test.true (sym c.in-None.ensures.value) c.digits.invariant.0

pub returns : goal.returns
returns c = run_done digit 10 _ c.digits.place c.args.text.now c.digits-test.false c.digits.invariant.0
