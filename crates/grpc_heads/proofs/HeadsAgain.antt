-- The head of a request that was written is read again.
use Rattle.std.proofs.Common.{◌≡◌, refl}
use Rattle.http_header.specs.Token.{is_token_byte}
use Rattle.grpc_heads.specs.declared.head.Method.{Method}
use Rattle.grpc_heads.specs.declared.head.Method.TheVariants.{Modify, Get, Flush}
use Rattle.grpc_heads.specs.declared.head.HeadRead.TheVariants as head
use Rattle.grpc_heads.specs.Heads.{head_of}
use Rattle.grpc_heads.specs.Written.{request_fields}

pub head_again : (method : Method) → head_of (request_fields method) ≡ head.Method method
unfolding head_of is_token_byte
head_again Modify = refl
head_again Get = refl
head_again Flush = refl
