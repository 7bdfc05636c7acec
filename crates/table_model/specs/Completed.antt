-- What became of an operation in the forwarding table.
use Rattle.std.specs.Prelude.{ℕ, ℤ, Bool, true, ◌&&◌, nat_le, Option, Some, None}

-- the operation's id, why it failed, if it did, and when
pub record Completed : Type 0 where
  pub id : ℕ
  pub failed : Option ℕ
  pub now : ℤ

-- nothing failed, or for a reason that there is: 20 the device failed, 21 a reference wasn't there, 22 the key was in use
abbrev pub is_none_or_reason : Option ℕ → Bool
is_none_or_reason None = true
is_none_or_reason (Some reason) = nat_le 20 reason && nat_le reason 22
