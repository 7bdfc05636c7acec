use Rattle.std.proofs.Common.{sym, arith}
use Rattle.addr_text.specs.AddressGrammar as spec
use Rattle.addr_text.proofs.Scanning.{run_done, run_fails, below_4096, below_65536, below_256}
use Rattle.addr_text.proofs.number.hex_digits.Goals as goal

pub returns-in-None-clause-value : goal.returns-in-None-clause-value
returns-in-None-clause-value c =
    run_fails spec.hex_digit 16 c.digits.number c.digits.place c.args.text.now c.digits-test.true (sym c.in-None.ensures.value) c.digits.invariant.0

pub overflow_mul-number : goal.overflow_mul-number
overflow_mul-number c = omega (arith, below_4096 c.digits.number c.digits.place c.digits.invariant.1 (omega arith))

pub overflow_add-number : goal.overflow_add-number
overflow_add-number c = omega (arith, c.in-Some.ensures.small, below_4096 c.digits.number c.digits.place c.digits.invariant.1 (omega arith))

pub returns-clause-value : goal.returns-clause-value
returns-clause-value c = run_done spec.hex_digit 16 _ c.digits.place c.args.text.now c.digits-test.false c.digits.invariant.0

pub returns-clause-small : goal.returns-clause-small
returns-clause-small c = below_65536 c.digits.number c.digits.place c.digits.invariant.1 (omega arith)

pub returns-clause-pair : goal.returns-clause-pair
returns-clause-pair c = λ two. below_256 c.digits.number c.digits.place c.digits.invariant.1 (omega arith)
