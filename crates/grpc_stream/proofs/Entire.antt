-- Where nothing waits, frames spell all that is owed.
use Rattle.std.proofs.Common.{◌≡◌, Bool, false, true, List, [], ◌∷◌, ◌++◌, length, Option, None, map, refl, sym, ◌∙◌, arith, sum_by}
use Rattle.std.specs.List.{flat_map, list_any}
use Rattle.std.proofs.lemmas.List.{length-append}
use Rattle.grpc_framing.specs.Framing.{item}
use Rattle.grpc_heads.specs.Written.{response_fields}
use Rattle.hpack_tables.specs.declared.field.Field.{Field}
use Rattle.h2_exchange.specs.declared.role.Role.TheVariants.{Client, Server}
use Rattle.h2_exchange.specs.Exchange.{sent}
use Rattle.h2_exchange.specs.Laws.{WrittenBlocksAreRead}
use Rattle.h2_exchange.specs.Requests.{end_if}
use Rattle.h2_exchange.specs.StreamParts.{Item, Message, Finish, StreamEnd, Trailers, end_by, parts}
use Rattle.grpc_stream.specs.Laws.{AllIsAnswered, AllIsAsked}
use Rattle.grpc_heads.specs.CallEnd.{CallEnd, call_end_of}
use Rattle.grpc_stream.specs.CallTrace.{CarriesResponseOn, CarriesRequestOn, asked_on, half, is_end, queued_on, text_of}
use Rattle.grpc_stream.proofs.Begun.{head_stands}
use Rattle.grpc_stream.proofs.Counted.{IsCut, is_cut, item_size, one_more, ends, all_of}
use Rattle.grpc_stream.proofs.Pieces.{parts_size, parts_end, as_many, response_size, response_end, request_size, request_end}
use Rattle.grpc_stream.proofs.Spoken.{read, spelled_as}

sizes : (owed : List (Item CallEnd)) → sum_by item_size owed ≡ length (flat_map text_of owed)
sizes [] = refl
sizes (Message message ∷ owed) =
    let text : length (flat_map text_of (Message message ∷ owed)) ≡ length (item message ++ flat_map text_of owed) = refl in
    omega (arith, text, one_more (Message message) owed, sizes owed, length-append (item message) (flat_map text_of owed))
sizes (Finish close ∷ owed) = sizes owed

sizes_half : (owed : List (Item CallEnd)) → sum_by item_size (map half owed) ≡ length (flat_map text_of owed)
sizes_half [] = refl
sizes_half (Message message ∷ owed) =
    let text : length (flat_map text_of (Message message ∷ owed)) ≡ length (item message ++ flat_map text_of owed) = refl in
    omega (arith, text, one_more (Message message) (map half owed), sizes_half owed, length-append (item message) (flat_map text_of owed))
sizes_half (Finish close ∷ owed) = sizes_half owed

ends_same : (owed : List (Item CallEnd)) → list_any ends owed ≡ list_any is_end owed
ends_same [] = refl
ends_same (Message message ∷ owed) = ends_same owed
ends_same (Finish close ∷ owed) = refl

ends_half : (owed : List (Item CallEnd)) → list_any ends (map half owed) ≡ list_any is_end owed
ends_half [] = refl
ends_half (Message message ∷ owed) = ends_half owed
ends_half (Finish close ∷ owed) = refl

no_response_end : {E : Type 0} (read_end : List Field → E) (close : StreamEnd) (end : Option E) (fields : List Field) → end ≡ end_by response_fields read_end close → close ≡ Trailers fields → end ≡ None → ⊥
no_response_end read_end (Trailers fields) end others e is none = absurd cc
no_response_end read_end other end fields e is none = absurd cc

no_request_end : (ended : Bool) → ended ≡ true → end_if ended ≡ None → ⊥
no_request_end true is none = absurd cc
no_request_end false is none = absurd cc

pub all_is_answered : WrittenBlocksAreRead → AllIsAnswered
all_is_answered law = λ t output h suited is id none ended.
    let fs = sent t.connection_trace.frames in
    let heads = t.connection_trace.written in
    let blocks_read = read law t output h in
    let on : CarriesResponseOn t id = spelled_as Server t output h suited is id in
    let cut : IsCut on.messages on.rest on.spells.bytes = is_cut on.messages on.rest on.spells.bytes on.spells.cut in (
      heads,
      blocks_read,
      on.messages,
      on.rest,
      on.end,
      on.spells,
      all_of on.messages on.rest on.end (queued_on t id) on.front
          (omega (arith, none, sizes (queued_on t id), cut.count, response_size response_fields (parts id heads fs) on.spells.bytes on.spells.close on.spells.response, parts_size id heads t.connection_trace.frames h.unpadded)) cut.open_rest
          (λ owes open_end.
          let last = response_end response_fields (parts id heads fs) on.spells.bytes on.spells.close on.spells.response (parts_end id heads fs (as_many fs heads blocks_read) (ended (sym (ends_same (queued_on t id)) ∙ owes))) in
          no_response_end (call_end_of t.numbers) on.spells.close on.end last.0 on.spells.end_is last.1 open_end),
    )

pub all_is_asked : WrittenBlocksAreRead → AllIsAsked
all_is_asked law = λ t output h suited is id begun none ended.
    let fs = sent t.connection_trace.frames in
    let heads = t.connection_trace.written in
    let blocks_read = read law t output h in
    let on : CarriesRequestOn t id = spelled_as Client t output h suited is id in
    let cut : IsCut on.messages on.rest on.asks.bytes = is_cut on.messages on.rest on.asks.bytes on.asks.cut in
    let head = (asked_on t id).head in (
      heads,
      blocks_read,
      head_stands t.connection_trace.frames id h.connection_trace.placed h.connection_trace.closed begun,
      on.messages,
      on.rest,
      on.ended,
      on.asks,
      all_of on.messages on.rest (end_if on.ended) (asked_on t id).items on.front
          (omega (arith, none, sizes_half (queued_on t id), cut.count, request_size head (parts id heads fs) on.asks.bytes on.ended on.asks.request, parts_size id heads t.connection_trace.frames h.unpadded)) cut.open_rest
          (λ owes open_end.
          no_request_end on.ended (request_end head (parts id heads fs) on.asks.bytes on.ended on.asks.request (parts_end id heads fs (as_many fs heads blocks_read) (ended (sym (ends_half (queued_on t id)) ∙ owes)))) open_end),
    )
