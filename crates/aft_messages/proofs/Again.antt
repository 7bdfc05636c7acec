-- Each entry that was written is read again.
use Rattle.std.proofs.Common.{◌^◌, ◌<◌, length}
use Rattle.std.specs.Prelude.{IfSome}
use Rattle.schema_numbers.specs.Numbers.{Numbers}
use Rattle.schema_numbers.specs.Valid.{IsValid}
use Rattle.aft_entries.specs.declared.operation.RawEntry.{RawEntry}
use Rattle.aft_entries.specs.declared.operation.RawEntry.TheVariants as entry
use Rattle.aft_messages.specs.Writing.{raw_bytes}
use Rattle.aft_messages.specs.Encodable.{IsEncodable, IsReadAgain, raw_kind}
use Rattle.aft_messages.proofs.Keys.{ipv4_again, ipv6_again, label_again}
use Rattle.aft_messages.proofs.Groups.{group_again}
use Rattle.aft_messages.proofs.Hops.{hop_again}

pub again : (n : Numbers) (raw : RawEntry) → IsValid n → IsEncodable raw → length (raw_bytes n raw) < 2 ^ 64 → IfSome (raw_kind raw) (λ kind. IsReadAgain n kind raw)
again n (entry.Hop index hop) valid h fits = hop_again n index hop valid h.0 h.1 fits
again n (entry.Group id group) valid h fits = group_again n id group valid h.0 h.1 fits
again n (entry.V4 prefix route) valid h fits = ipv4_again n prefix route valid h.0 h.1 fits
again n (entry.V6 prefix route) valid h fits = ipv6_again n prefix route valid h.0 h.1 fits
again n (entry.Label label route) valid h fits = label_again n label route valid h.0 h.1 fits
again n entry.Mac valid h fits = tt
again n entry.Policy valid h fits = tt
