use Rattle.std.proofs.Common.{◌≡◌, drop, fold}
use Rattle.script_lang.proofs.Numbers.{digit_step}
use Rattle.line_requests.proofs.number.value_of.Given as goal

-- the number so far, and what is left to read
abbrev pub invariant-digits : goal.invariant-digits
invariant-digits l = fold digit_step 0 l.digits ≡ fold digit_step l.number (drop l.place l.digits)
