-- A request's orders, read part by part.
use Rattle.std.proofs.Common.{◌≡◌, ℕ, List, [], ◌∷◌, map, refl, ap}
use Rattle.schema_numbers.specs.Numbers.{field_of}
use Rattle.schema_numbers.specs.declared.names.FieldName.TheVariants as field
use Rattle.proto_schema.specs.FieldValues.{repeated_at}
use Rattle.gribi_messages.specs.Request.{modify_request}
use Rattle.gribi_messages.specs.Request.{operation_of as raw_operation}
use Rattle.call_answers.specs.declared.orders.Setting.{Setting}
use Rattle.call_answers.specs.Orders.{operation_of, operation_at, orders_of}

read_then_checked : (s : Setting) (pieces : List (List ℕ)) → map (operation_at s) pieces ≡ map (operation_of s.instances) (map (raw_operation s.numbering) pieces)
read_then_checked s [] = refl
read_then_checked s (piece ∷ others) = ap (λ (l : List _). operation_at s piece ∷ l) (read_then_checked s others)

pub operations_are : (s : Setting) (bytes : List ℕ) → map (operation_at s) (repeated_at (field_of s.numbering field.ModifyRequestOperation) bytes) ≡ (orders_of s bytes).operations
unfolding orders_of modify_request
operations_are s bytes = read_then_checked s (repeated_at (field_of s.numbering field.ModifyRequestOperation) bytes)
