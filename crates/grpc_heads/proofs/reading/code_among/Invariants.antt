use Rattle.std.proofs.Common.{◌≡◌, drop}
use Rattle.std.specs.List.{find}
use Rattle.std.specs.Str.{bytes_eq}
use Rattle.grpc_heads.specs.Written.{digits}
use Rattle.grpc_heads.proofs.reading.code_among.Given as goal

-- the code is none so far
abbrev pub invariant-codes : goal.invariant-codes
invariant-codes l = find (λ code. bytes_eq (digits code) l.text) l.codes ≡ find (λ code. bytes_eq (digits code) l.text) (drop l.place l.codes)
