-- The messages that events answer on a stream.
use Rattle.std.proofs.Common.{◌≡◌, ◌≢◌, ◌⊎◌, inl, inr, ℕ, Bool, ◌&&◌, false, true, not, List, [], ◌∷◌, ◌++◌, length, drop, refl, sym, ap, subst, ◌∙◌, arith, append_assoc, map}
use Rattle.std.specs.Prelude.{if◌then◌else◌, ◌==◌}
use Rattle.std.specs.List.{list_any}
use Rattle.std.proofs.lemmas.Bool.Decides.{eqb_tells}
use Rattle.std.proofs.lemmas.List.{append-nil}
use Rattle.std.proofs.lemmas.List.Concat.{flat_map-append}
use Rattle.std.proofs.lemmas.List.Folds.{list_any-append}
use Rattle.grpc_framing.specs.declared.front.Front.{Front}
use Rattle.grpc_framing.specs.declared.front.Front.TheVariants as front
use Rattle.grpc_framing.specs.Framing.{messages_of, messages_upto}
use Rattle.grpc_heads.specs.GrpcStatus.{GrpcStatus}
use Rattle.hpack_tables.specs.declared.field.Field.{Field}
use Rattle.h2_exchange.specs.Calls.{Answer, Answered, answers, answers_of, answers_with, closes, cut, ending_answers, further, is_answering, is_refused_cut, stream_at}
use Rattle.h2_exchange.specs.Events.{Event, Head, Data, Ended, Reset, GoneAway, bytes_on, bytes_of}
use Rattle.h2_exchange.specs.Exchange.{collect}
use Rattle.h2_exchange.specs.Sending.{IsPrefix}
use Rattle.grpc_stream.specs.ClientReads.{AnswersBeginMessages, message_on, answered_on}
use Rattle.grpc_stream.proofs.Cuts.{Grows, grows, wider}

abbrev messages_on : ℕ → List Event → List (List ℕ)
messages_on id es = (cut (bytes_on id es)).messages

all_on : (id : ℕ) (ms : List (List ℕ)) → (id == id) ≡ true → answered_on id (map (Answered id) ms) ≡ ms
all_on id [] same = refl
all_on id (m ∷ ms) same =
    ap (λ (t : Bool). (if t then m ∷ [] else []) ++ answered_on id (map (Answered id) ms)) same ∙ ap (λ (l : List (List ℕ)). m ∷ l) (all_on id ms same)

none_on : (id stream : ℕ) (ms : List (List ℕ)) → (stream == id) ≡ false → answered_on id (map (Answered stream) ms) ≡ []
none_on id stream [] other = refl
none_on id stream (m ∷ ms) other =
    ap (λ (t : Bool). (if t then m ∷ [] else []) ++ answered_on id (map (Answered stream) ms)) other ∙ none_on id stream ms other

any_stays : (p : Event → Bool) (past more : List Event) → list_any p past ≡ true → list_any p (past ++ more) ≡ true
any_stays p past more h = list_any-append p past more ∙ rw h refl

both_stay : (a b c d : Bool) → (not a && not b) ≡ false → (a ≡ true → c ≡ true) → (b ≡ true → d ≡ true) → (not c && not d) ≡ false
both_stay a b true d e f g = refl
both_stay a b false true e f g = refl
both_stay true b false false e f g = let wrong = f refl in absurd cc
both_stay false true false false e f g = let wrong = g refl in absurd cc
both_stay false false false false e f g = absurd cc

in_place : (xs ys : List (List ℕ)) → drop (length xs) (xs ++ ys) ≡ ys
in_place [] ys = refl
in_place (x ∷ xs) ys = in_place xs ys

if_none : (id : ℕ) (t : Bool) (given : List (Answer GrpcStatus)) → answered_on id given ≡ [] → answered_on id (if t then given else []) ≡ []
if_none id true given h = h
if_none id false given h = refl

bytes_push : (id : ℕ) (past : List Event) (e : Event) → bytes_on id (past ++ e ∷ []) ≡ bytes_on id past ++ bytes_of id e
bytes_push id past e = flat_map-append (bytes_of id) past (e ∷ []) ∙ ap (λ (l : List ℕ). bytes_on id past ++ l) (append-nil (bytes_of id e))

module _ (status_of : List Field → GrpcStatus) (unknown : GrpcStatus) (id : ℕ) where
  closes_none : (stream : ℕ) (f : Front) → answered_on id (closes status_of unknown stream f) ≡ []
  closes_none stream front.Compressed = refl
  closes_none stream front.TooLong = refl
  closes_none stream front.NeedMore = refl
  closes_none stream (front.Message n) = refl

  ending_none : (e : Event) → answered_on id (ending_answers status_of unknown e) ≡ []
  ending_none (Head stream fields true) = refl
  ending_none (Head stream fields false) = refl
  ending_none (Data stream bytes) = refl
  ending_none (Ended stream) = refl
  ending_none (Reset stream why) = refl
  ending_none (GoneAway stream why) = refl

  abbrev given : List Event → Event → List (List ℕ)
  given past e = answered_on id (answers_of status_of unknown past e)

  record StepsOn (past : List Event) (e : Event) : Type 0 where
    pub goes_on : is_answering status_of unknown id past ≡ true → messages_on id (past ++ e ∷ []) ≡ messages_on id past ++ given past e
    pub quiet : is_answering status_of unknown id past ≡ false → given past e ≡ []

  same_stream : (past : List Event) (bytes : List ℕ) → (id == id) ≡ true → StepsOn past (Data id bytes)
  same_stream past bytes same =
      let old = bytes_on id past in
      let g : Grows (cut old) (cut (old ++ bytes)) = grows 4194304 old bytes in
      let ms = further old bytes in
      let pushed : bytes_on id (past ++ Data id bytes ∷ []) ≡ old ++ bytes =
      bytes_push id past (Data id bytes) ∙ ap (λ (t : Bool). old ++ (if t then bytes else [])) same in
      let comes : ms ≡ g.further = ap (λ (l : List (List ℕ)). drop (length (cut old).messages) l) g.all ∙ in_place (cut old).messages g.further in
      let said : answered_on id (answers_with status_of unknown past (Data id bytes)) ≡ ms =
      flat_map-append (message_on id) (map (Answered id) ms) (closes status_of unknown id (cut (old ++ bytes)).ending)
      ∙ ap (λ (l : List (List ℕ)). answered_on id (map (Answered id) ms) ++ l) (closes_none id (cut (old ++ bytes)).ending)
      ∙ append-nil (answered_on id (map (Answered id) ms)) ∙ all_on id ms same in
      record {
        goes_on = λ answering.
            ap (λ (b : List ℕ). (cut b).messages) pushed ∙ g.all ∙ ap (λ (l : List (List ℕ)). (cut old).messages ++ l) (sym comes)
            ∙ ap (λ (l : List (List ℕ)). (cut old).messages ++ l)
            (sym (ap (λ (t : Bool). answered_on id (if t then answers_with status_of unknown past (Data id bytes) else [])) answering ∙ said));
        quiet = λ over. ap (λ (t : Bool). answered_on id (if t then answers_with status_of unknown past (Data id bytes) else [])) over;
      }

  nothing : (past : List Event) (e : Event) → bytes_of id e ≡ [] → answered_on id (answers_with status_of unknown past e) ≡ [] → StepsOn past e
  nothing past e no_bytes no_messages =
      let none : given past e ≡ [] = if_none id (is_answering status_of unknown (stream_at status_of unknown e) past) (answers_with status_of unknown past e) no_messages in
      record {
        goes_on = λ answering.
            ap (λ (b : List ℕ). (cut b).messages) (bytes_push id past e ∙ ap (λ (l : List ℕ). bytes_on id past ++ l) no_bytes ∙ append-nil (bytes_on id past))
            ∙ sym (ap (λ (l : List (List ℕ)). messages_on id past ++ l) none ∙ append-nil (messages_on id past));
        quiet = λ over. none;
      }

  of_data : (past : List Event) (stream : ℕ) (bytes : List ℕ) → (((stream == id) ≡ true) × (stream ≡ id)) ⊎ (((stream == id) ≡ false) × (stream ≢ id)) →
      StepsOn past (Data stream bytes)
  of_data past stream bytes (inl (same, is)) = subst (λ (s : ℕ). (s == id) ≡ true → StepsOn past (Data s bytes)) (sym is) (same_stream past bytes) same
  of_data past stream bytes (inr (other, isnt)) =
      let ms = further (bytes_on stream past) bytes in
      nothing past (Data stream bytes) (ap (λ (t : Bool). if t then bytes else []) other)
      (flat_map-append (message_on id) (map (Answered stream) ms) (closes status_of unknown stream (cut (bytes_on stream past ++ bytes)).ending)
      ∙ ap (λ (l : List (List ℕ)). answered_on id (map (Answered stream) ms) ++ l) (closes_none stream (cut (bytes_on stream past ++ bytes)).ending)
      ∙ append-nil (answered_on id (map (Answered stream) ms)) ∙ none_on id stream ms other)

  steps_on : (past : List Event) (e : Event) → StepsOn past e
  steps_on past (Data stream bytes) = of_data past stream bytes (eqb_tells stream id)
  steps_on past (Head stream fields last) = nothing past (Head stream fields last) refl (ending_none (Head stream fields last))
  steps_on past (Ended stream) = nothing past (Ended stream) refl (ending_none (Ended stream))
  steps_on past (Reset stream why) = nothing past (Reset stream why) refl (ending_none (Reset stream why))
  steps_on past (GoneAway stream why) = nothing past (GoneAway stream why) refl (ending_none (GoneAway stream why))

  stays_over : (past : List Event) (e : Event) → is_answering status_of unknown id past ≡ false → is_answering status_of unknown id (past ++ e ∷ []) ≡ false
  stays_over past e over =
      both_stay _ (is_refused_cut false (cut (bytes_on id past))) _ (is_refused_cut false (cut (bytes_on id (past ++ e ∷ [])))) over (any_stays _ past (e ∷ []))
      (λ refused. ap (λ (b : List ℕ). is_refused_cut false (cut b)) (bytes_push id past e) ∙ ((grows 4194304 (bytes_on id past) (bytes_of id e)).refused refused).1)

  abbrev coming : List Event → List Event → List (List ℕ)
  coming past es = answered_on id (collect (answers_of status_of unknown) past es)

  first_and_others : (past : List Event) (e : Event) (es : List Event) → coming past (e ∷ es) ≡ given past e ++ coming (past ++ e ∷ []) es
  first_and_others past e es = flat_map-append (message_on id) (answers_of status_of unknown past e) (collect (answers_of status_of unknown) (past ++ e ∷ []) es)

  over : (past es : List Event) → is_answering status_of unknown id past ≡ false → coming past es ≡ []
  over past [] h = refl
  over past (e ∷ es) h =
      first_and_others past e es ∙ ap (λ (l : List (List ℕ)). l ++ coming (past ++ e ∷ []) es) ((steps_on past e).quiet h)
      ∙ over (past ++ e ∷ []) es (stays_over past e h)

  abbrev GoesOn : List Event → List Event → Type 0
  GoesOn past es = IsPrefix (messages_on id past ++ coming past es) (messages_on id (past ++ es))

  goes_on : (past es : List Event) (t : Bool) → is_answering status_of unknown id past ≡ t → GoesOn past es
  goes_on past es false h =
      let g = grows 4194304 (bytes_on id past) (bytes_on id es) in (
        g.further,
        ap (λ (b : List ℕ). (cut b).messages) (flat_map-append (bytes_of id) past es) ∙ g.all
            ∙ ap (λ (l : List (List ℕ)). l ++ g.further) (sym (ap (λ (l : List (List ℕ)). messages_on id past ++ l) (over past es h) ∙ append-nil (messages_on id past))),
      )
  goes_on past [] true h =
      ([], ap (messages_on id) (append-nil past) ∙ sym (append-nil (messages_on id past ++ []) ∙ append-nil (messages_on id past)))
  goes_on past (e ∷ es) true h =
      let now = past ++ e ∷ [] in
      let later : GoesOn now es = goes_on now es (is_answering status_of unknown id now) refl in (
        later.0,
        ap (messages_on id) (sym (append_assoc past (e ∷ []) es)) ∙ later.1
            ∙ ap (λ (l : List (List ℕ)). (l ++ coming now es) ++ later.0) ((steps_on past e).goes_on h)
            ∙ ap (λ (l : List (List ℕ)). l ++ later.0) (append_assoc (messages_on id past) (given past e) (coming now es)
            ∙ ap (λ (l : List (List ℕ)). messages_on id past ++ l) (sym (first_and_others past e es))),
      )

nothing_cut : (cut []).messages ≡ []
unfolding messages_of messages_upto
nothing_cut = refl

begins : (answered ms wide all : List (List ℕ)) (none : List (List ℕ)) → none ≡ [] → IsPrefix (none ++ answered) ms → IsPrefix ms wide → IsPrefix wide all → IsPrefix answered all
begins answered ms wide all none is_none (a, f) (b, g) (c, h) = (
  a ++ (b ++ c),
  h ∙ ap (λ (l : List (List ℕ)). l ++ c) (g ∙ ap (λ (l : List (List ℕ)). l ++ b) (f ∙ ap (λ (l : List (List ℕ)). (l ++ answered) ++ a) is_none)) ∙ associate answered a b c,
)
  where
    associate : (w x y z : List (List ℕ)) → ((w ++ x) ++ y) ++ z ≡ w ++ (x ++ (y ++ z))
    associate w x y z = append_assoc (w ++ x) y z ∙ append_assoc w x (y ++ z)

pub answers_begin_messages : AnswersBeginMessages
answers_begin_messages = λ status_of unknown id es more.
    let bytes = bytes_on id es in
    let g = grows 4294967295 bytes more in
    begins (answered_on id (answers status_of unknown es)) (messages_on id es) (messages_of 4294967295 bytes).messages
    (messages_of 4294967295 (bytes ++ more)).messages (messages_on id []) nothing_cut
    (goes_on status_of unknown id [] es (is_answering status_of unknown id []) refl) (wider 4194304 4294967295 bytes (omega arith)) (g.further, g.all)
