-- The end that is taken for a call, and the last header block that says it.
use Rattle.std.proofs.Common.{◌≡◌, ℕ, Bool, true, false, List, [], ◌∷◌, ◌++◌, Ok, refl, sym, ap, subst, ◌∙◌}
use Rattle.std.specs.List.{All}
use Rattle.std.proofs.lemmas.List.Elements.{All-head, All-tail}
use Rattle.grpc_heads.specs.CallEnd.{CallEnd, HalfClose, Status, call_end_of}
use Rattle.grpc_heads.specs.GrpcStatus.{GrpcStatus}
use Rattle.grpc_heads.specs.Trailers.{status_in_trailers}
use Rattle.grpc_heads.specs.Written.{response_fields, trailer_fields}
use Rattle.hpack_tables.specs.declared.field.Field.{Field}
use Rattle.schema_numbers.specs.Numbers.{Numbers}
use Rattle.h2_exchange.specs.declared.role.Role.{Role}
use Rattle.h2_exchange.specs.declared.role.Role.TheVariants.{Client, Server}
use Rattle.h2_exchange.specs.Malformed.{is_malformed_head}
use Rattle.h2_exchange.specs.StreamParts.{Item, Finish, IsMessageFirst}
use Rattle.grpc_stream.specs.CallTrace.{CallTrace, is_ended, queued_on, suits, took}
use Rattle.kept_calls.specs.declared.call.Ending.TheVariants as end
use Rattle.call_sending.specs.Spelling.{EndsIn, Prepares}
use Rattle.call_sending.proofs.Taking.{ends_with, first_more, queued_here}
use Rattle.call_standing.specs.Ends.{last_block, last_ending}
use Rattle.call_standing.proofs.Trailing.{head_says, trailers_plain, trailers_say}

pub last_all : (P : Item CallEnd → Type 0) (xs : List (Item CallEnd)) (x : Item CallEnd) → All P (xs ++ x ∷ []) → P x
last_all P [] x h = All-head P x [] h
last_all P (y ∷ xs) x h = last_all P xs x (All-tail P y (xs ++ x ∷ []) h)

last_suits : (role : Role) (t : CallTrace) (id : ℕ) (what : Item CallEnd) → All (λ w. suits role w ≡ true) (queued_on (took id what t) id) → suits role what ≡ true
last_suits role t id what suited =
    last_all (λ (w : Item CallEnd). suits role w ≡ true) (queued_on t id) what
    (subst (λ (items : List (Item CallEnd)). All (λ w. suits role w ≡ true) items) (queued_here t id what) suited)

-- a client's end is a half-close, which no server takes
pub half_prepared : (role : Role) (t : CallTrace) (id : ℕ) (fields : List Field) → All (λ what. suits role what ≡ true) (queued_on (took id (Finish HalfClose) t) id) →
    Prepares role (took id (Finish HalfClose) t) id end.HalfClose fields
half_prepared Client t id fields suited = tt
half_prepared Server t id fields suited =
    let last : false ≡ true = last_suits Server t id (Finish HalfClose) suited in
    absurd cc

-- a server's end is a status, which no client takes
module _ (n : Numbers) (status : GrpcStatus) (read : status_in_trailers n (trailer_fields n status) ≡ Ok status) (sound : is_malformed_head Client (response_fields ++ trailer_fields n status) ≡ false)
    (t : CallTrace) (id : ℕ) (numbers : t.numbers ≡ n) where
  abbrev next : CallTrace
  next = took id (Finish (Status status)) t

  says : (fields : List Field) → call_end_of n fields ≡ Status status → call_end_of t.numbers fields ≡ Status status
  says fields e = ap (λ (m : Numbers). call_end_of m fields) numbers ∙ e

  by_server : (is_alone : Bool) → is_ended t id ≡ false → (is_alone ≡ true → queued_on t id ≡ []) → (is_alone ≡ false → IsMessageFirst (queued_on t id)) →
      Prepares Server next id (last_ending is_alone) (last_block is_alone n status)
  by_server true none empty first = (
    queued_here t id (Finish (Status status)) ∙ ap (λ (items : List (Item CallEnd)). items ++ Finish (Status status) ∷ []) (empty refl)
        ∙ ap (λ (e : CallEnd). Finish e ∷ []) (sym (says (response_fields ++ trailer_fields n status) (head_says n status read))),
    sound,
  )
  by_server false none empty first = (
    subst (λ (items : List (Item CallEnd)). EndsIn (call_end_of t.numbers (trailer_fields n status)) items) (sym (queued_here t id (Finish (Status status))))
        (subst (λ (e : CallEnd). EndsIn e (queued_on t id ++ Finish (Status status) ∷ [])) (sym (says (trailer_fields n status) (trailers_say n status read))) (ends_with (queued_on t id) (Status status) none)),
    subst IsMessageFirst (sym (queued_here t id (Finish (Status status)))) (first_more (queued_on t id) (Finish (Status status)) (first refl)),
    trailers_plain n status,
  )

  pub status_prepared : (role : Role) (is_alone : Bool) → is_ended t id ≡ false → (is_alone ≡ true → queued_on t id ≡ []) → (is_alone ≡ false → IsMessageFirst (queued_on t id)) →
      All (λ what. suits role what ≡ true) (queued_on next id) → Prepares role next id (last_ending is_alone) (last_block is_alone n status)
  status_prepared Server is_alone none empty first suited = by_server is_alone none empty first
  status_prepared Client is_alone none empty first suited =
      let last : false ≡ true = last_suits Client t id (Finish (Status status)) suited in
      absurd cc
