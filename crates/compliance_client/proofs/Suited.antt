-- What lines ask is what a client asks.
use Rattle.std.proofs.Common.{◌≡◌, ℕ, ◌==◌, Bool, true, false, List, [], ◌∷◌, ◌++◌, map, refl, sym, ap, subst, ◌∙◌}
use Rattle.std.specs.Prelude.{cond, filter}
use Rattle.std.specs.List.{All, find}
use Rattle.std.proofs.lemmas.List.Elements.{All-cons, All-nil}
use Rattle.schema_numbers.specs.Numbers.{Numbers}
use Rattle.grpc_heads.specs.declared.head.Method.{Method}
use Rattle.grpc_heads.specs.CallEnd.{CallEnd}
use Rattle.h2_exchange.specs.declared.role.Role.{Role}
use Rattle.h2_exchange.specs.declared.role.Role.TheVariants.{Client}
use Rattle.h2_exchange.specs.Requests as request
use Rattle.h2_exchange.specs.Requests.{RequestIs, RequestsBegin}
use Rattle.h2_exchange.specs.Exchange.{sent}
use Rattle.h2_exchange.specs.StreamParts.{IsPrefixOf, Item}
use Rattle.grpc_stream.specs.CallTrace.{CallTrace, asked_on, half, head_by, queued_on, suits}
use Rattle.grpc_stream.specs.Laws.{AllIsAsked, AreSuited, ClientsAsk}
use Rattle.line_requests.specs.declared.ask.LineAsk.{LineAsk}
use Rattle.line_requests.specs.declared.ask.LineAsk.TheVariants as asks
use Rattle.compliance_client.specs.Deeds.{Deed, Hears, Judges, Sends, ask_of, calls_in}
use Rattle.compliance_client.specs.Asks.{asked_in, begun_in, items_of, on_stream, taken_in}
use Rattle.compliance_client.specs.Laws.{AllLinesAreAsked, AsksLines, LinesAreAsked}

abbrev Each : List (ℕ × Item CallEnd) → Type 0
Each [] = Unit {0}
Each (x ∷ xs) = (suits Client x.1 ≡ true) × Each xs

each_then : (xs ys : List (ℕ × Item CallEnd)) → Each xs → Each ys → Each (xs ++ ys)
each_then [] ys h k = k
each_then (x ∷ xs) ys h k = (h.0, each_then xs ys h.1 k)

items_suit : (n : Numbers) (stream : ℕ) (ask : LineAsk) → Each (map (on_stream stream) (items_of n ask))
items_suit n stream asks.Modify = tt
items_suit n stream (asks.Send request) = (refl, tt)
items_suit n stream asks.Finish = (refl, tt)
items_suit n stream asks.Reset = tt
items_suit n stream (asks.Get request) = (refl, (refl, tt))
items_suit n stream (asks.Flush request) = (refl, (refl, tt))
items_suit n stream asks.Nothing = tt

taken_suits : (n : Numbers) (deeds : List Deed) → Each (taken_in n deeds)
taken_suits n [] = tt
taken_suits n (Sends line stream ∷ earlier) =
    each_then (taken_in n earlier) (map (on_stream stream) (items_of n (ask_of n (calls_in n earlier) line))) (taken_suits n earlier)
    (items_suit n stream (ask_of n (calls_in n earlier) line))
taken_suits n (Hears answer is_reset ∷ earlier) = taken_suits n earlier
taken_suits n (Judges line ∷ earlier) = taken_suits n earlier

abbrev Fits : Item CallEnd → Type 0
Fits what = suits Client what ≡ true

on_suits : (id : ℕ) (xs : List (ℕ × Item CallEnd)) → Each xs → All Fits (map (λ x. x.1) (filter (λ x. x.0 == id) xs))
on_suits id [] h = All-nil Fits
on_suits id (x ∷ xs) h = by (x.0 == id) (on_suits id xs h.1)
  where
    by : (b : Bool) → All Fits (map (λ y. y.1) (filter (λ y. y.0 == id) xs)) →
        All Fits (map (λ y. y.1) (cond b (x ∷ filter (λ y. y.0 == id) xs) (filter (λ y. y.0 == id) xs)))
    by true rest = All-cons Fits x.1 (map (λ y. y.1) (filter (λ y. y.0 == id) xs)) h.0 rest
    by false rest = rest

module _ (n : Numbers) (t : CallTrace) (deeds : List Deed) (h : AsksLines n t deeds) where
  suited : AreSuited t
  suited = λ id. subst (λ (r : Role). All (λ what. suits r what ≡ true) (queued_on t id)) (sym h.role)
      (on_suits id t.taken (subst Each (sym h.taken) (taken_suits n deeds)))

  asked_is : (id : ℕ) → asked_on t id ≡ asked_in n deeds id
  asked_is id =
      ap (λ (l : List (ℕ × Method)). (let a : request.Asked = record { head = head_by (find (λ call. call.0 == id) l); items = map half (queued_on t id) } in a)) h.begun
      ∙ ap (λ (l : List (ℕ × Item CallEnd)). (let a : request.Asked = record {
        head = head_by (find (λ call. call.0 == id) (begun_in n deeds));
        items = map half (map (λ x. x.1) (filter (λ x. x.0 == id) l));
      } in a)) h.taken

  begin_as : (a b : ℕ → request.Asked) → ((id : ℕ) → a id ≡ b id) → RequestsBegin t.connection_trace.frames a → RequestsBegin t.connection_trace.frames b
  begin_as a b same (heads, read, each) = (
    heads,
    read,
    λ id. subst (λ (x : request.Asked). (messages : List (List ℕ)) × (rest : List ℕ) × (ended : Bool)
        × request.CarriesRequest heads (sent t.connection_trace.frames) id x.head messages rest ended
        × IsPrefixOf messages rest (request.end_if ended) x.items) (same id) (each id),
  )

pub lines_asked : ClientsAsk → LinesAreAsked
lines_asked law n t deeds output sound h =
    begin_as n t deeds h (asked_on t) (asked_in n deeds) (asked_is n t deeds h) (law t output sound (suited n t deeds h) h.role)

pub all_asked : AllIsAsked → AllLinesAreAsked
all_asked law n t deeds output sound h id begun none ended =
    subst (λ (x : request.Asked). RequestIs t.connection_trace.frames id x) (asked_is n t deeds h id)
    (law t output sound (suited n t deeds h) h.role id begun none ended)
