-- How a client goes on by a line that is sent.
use Rattle.std.proofs.Common.{◌⊎◌, ◌≡◌, inl, inr, ℕ, Bool, true, false, List, [], ◌∷◌, ◌++◌, map, Option, Some, Result, Ok, Err, refl, sym, ap, subst, ◌∙◌, append_assoc, append-nil}
use Rattle.std.specs.Prelude.{IfSome, OnErr, OnOk}
use Rattle.schema_numbers.specs.Numbers.{Numbers}
use Rattle.grpc_heads.specs.declared.head.Method.{Method}
use Rattle.grpc_heads.specs.declared.head.Method.TheVariants as method
use Rattle.grpc_heads.specs.CallEnd.{CallEnd, HalfClose}
use Rattle.gribi_messages.specs.declared.request.ModifyRequest.{ModifyRequest}
use Rattle.gribi_messages.specs.RequestEncoding.{request_bytes}
use Rattle.h2_frames.specs.declared.frame.Frame.{Frame}
use Rattle.http_connection.specs.Sends.{CarryBlock}
use Rattle.h2_exchange.specs.declared.fault.SendFault.{SendFault}
use Rattle.h2_exchange.specs.declared.fault.SendFault.TheVariants.{NotOpen, IdsSpent, NoMemory}
use Rattle.h2_exchange.specs.StreamParts.{Item, Message, Finish}
use Rattle.grpc_stream.specs.CallTrace.{CallTrace, Carries, Keeps, took}
use Rattle.script_lang.specs.declared.line.Line.{Line}
use Rattle.line_requests.specs.declared.ask.LineAsk.{LineAsk}
use Rattle.line_requests.specs.declared.ask.LineAsk.TheVariants as asks
use Rattle.line_verdicts.specs.declared.tally.Tally.{Tally}
use Rattle.compliance_client.specs.Deeds.{CallView, ask_of, call_name, call_of, calls_behind, calls_in, cancelled, change_first, elects, ends, is_named, new_call}
use Rattle.compliance_client.specs.Asks.{IsOwn, beginning, begun_by, begun_in, items_of, on_stream, reset_by, resets_in, taken_in}
use Rattle.compliance_client.specs.Sends.{Begins, BeginsPart, BeginsWhole, SendsLine, begun_with, took_all, with_line}
use Rattle.compliance_client.specs.Standing.{Past, Starves, Works}
use Rattle.compliance_client.specs.Turns.{MayReset, is_starved}
use Rattle.compliance_client.specs.declared.over.ClientOver.{ClientOver}
use Rattle.compliance_client.specs.declared.over.ClientOver.TheVariants as over

-- a trace goes on from another by what a line asks
pub record Asks (t u : CallTrace) (items : List (ℕ × Item CallEnd)) (beginnings : List (ℕ × Method)) (reset : List ℕ) : Type 0 where
  pub role : u.connection_trace.role ≡ t.connection_trace.role
  pub fed : u.connection_trace.fed ≡ t.connection_trace.fed
  pub dropped : u.connection_trace.dropped ≡ t.connection_trace.dropped
  pub numbers : u.numbers ≡ t.numbers
  pub reported : u.reported ≡ t.reported
  pub taken : u.taken ≡ t.taken ++ items
  pub begun : u.begun ≡ t.begun ++ beginnings
  pub resets : u.resets ≡ t.resets ++ reset

module _ {K : Type 0} (uses : K → CallTrace → Type 0) (n : Numbers) where
  pub works_keeps : (calls later : K) (kept kept_now : List CallView) (tally : Tally) (past : Past) → Works uses n calls kept tally past →
      Keeps (uses calls) (uses later) → kept_now ≡ kept → Works uses n later kept_now tally past
  works_keeps calls later kept kept_now tally past h keeps same = record {
    used = keeps past.trace h.used;
    role = h.role;
    numbers = h.numbers;
    kept_are = same ∙ h.kept_are;
    tally_is = h.tally_is;
    told = h.told;
    taken = h.taken;
    begun = h.begun;
    resets = h.resets;
    own = h.own;
    fed = h.fed;
    dropped = h.dropped;
  }

  module _ (calls later : K) (kept kept_now : List CallView) (tally : Tally) (past : Past) (h : Works uses n calls kept tally past) (line : Line)
      (ask : LineAsk) (is : ask ≡ ask_of n kept line) (id : ℕ) (u : CallTrace) (used : uses later u) where
    ask_is : ask ≡ ask_of n (calls_in n past.deeds) line
    ask_is = is ∙ ap (λ cs. ask_of n cs line) h.kept_are

    own_is : IsOwn ask id (call_of line kept) → IsOwn (ask_of n (calls_in n past.deeds) line) id (call_of line (calls_in n past.deeds))
    own_is own = subst (λ a. IsOwn a id (call_of line (calls_in n past.deeds))) ask_is
        (subst (λ cs. IsOwn ask id (call_of line cs)) h.kept_are own)

    pub works_sent : Asks past.trace u (map (on_stream id) (items_of n ask)) (beginning id (begun_by ask)) (reset_by ask id) →
        kept_now ≡ calls_behind ask line id kept → IsOwn ask id (call_of line kept) →
        Works uses n later kept_now tally (with_line uses n past line id u)
    works_sent asked kept_is own = record {
      used = used;
      role = asked.role ∙ h.role;
      numbers = asked.numbers ∙ h.numbers;
      kept_are = kept_is ∙ ap (calls_behind ask line id) h.kept_are ∙ ap (λ a. calls_behind a line id (calls_in n past.deeds)) ask_is;
      tally_is = h.tally_is;
      told = asked.reported ∙ h.told;
      taken = asked.taken ∙ ap (λ l. l ++ map (on_stream id) (items_of n ask)) h.taken
          ∙ ap (λ a. taken_in n past.deeds ++ map (on_stream id) (items_of n a)) ask_is;
      begun = asked.begun ∙ ap (λ l. l ++ beginning id (begun_by ask)) h.begun ∙ ap (λ a. begun_in n past.deeds ++ beginning id (begun_by a)) ask_is;
      resets = asked.resets ∙ ap (λ l. l ++ reset_by ask id) h.resets ∙ ap (λ a. resets_in n past.deeds ++ reset_by a id) ask_is;
      own = (own_is own, h.own);
      fed = asked.fed ∙ h.fed;
      dropped = asked.dropped ∙ h.dropped;
    }

    -- only the first of what it asks was taken
    pub starves_sent : (items rest : List (ℕ × Item CallEnd)) → map (on_stream id) (items_of n ask) ≡ items ++ rest →
        Asks past.trace u items (beginning id (begun_by ask)) (reset_by ask id) → IsOwn ask id (call_of line kept) →
        Starves uses n later (with_line uses n past line id u)
    starves_sent items rest first asked own = record {
      used = used;
      role = asked.role ∙ h.role;
      numbers = asked.numbers ∙ h.numbers;
      taken = (
        rest,
        ap (λ a. taken_in n past.deeds ++ map (on_stream id) (items_of n a)) (sym ask_is) ∙ ap (λ l. taken_in n past.deeds ++ l) first
            ∙ sym (append_assoc (taken_in n past.deeds) items rest) ∙ ap (λ l. (l ++ items) ++ rest) (sym h.taken) ∙ ap (λ l. l ++ rest) (sym asked.taken),
      );
      begun = asked.begun ∙ ap (λ l. l ++ beginning id (begun_by ask)) h.begun ∙ ap (λ a. begun_in n past.deeds ++ beginning id (begun_by a)) ask_is;
      resets = asked.resets ∙ ap (λ l. l ++ reset_by ask id) h.resets ∙ ap (λ a. resets_in n past.deeds ++ reset_by a id) ask_is;
      own = (own_is own, h.own);
      fed = ([], sym h.fed ∙ sym asked.fed ∙ sym (append-nil u.connection_trace.fed));
      dropped = asked.dropped ∙ h.dropped;
    }

  -- ---- lines that begin calls

  module _ (calls later : K) (kept kept_now : List CallView) (tally : Tally) (past : Past) (h : Works uses n calls kept tally past) (line : Line) (id : ℕ) where
    pub sends_modify : asks.Modify ≡ ask_of n kept line → kept_now ≡ kept ++ new_call line id method.Modify ∷ [] → Begins uses id method.Modify calls later →
        (u : CallTrace) × Works uses n later kept_now tally (with_line uses n past line id u)
    sends_modify is kept_is begins =
        let k = begins past.trace h.used in
        let u = begun_with k.0 id method.Modify past.trace in (
          u,
          works_sent calls later kept kept_now tally past h line asks.Modify is id u k.2
              (record {
                role = refl;
                fed = refl;
                dropped = refl;
                numbers = refl;
                reported = refl;
                taken = sym (append-nil past.trace.taken);
                begun = refl;
                resets = sym (append-nil past.trace.resets);
              }) kept_is tt,
        )

    module _ (ask : LineAsk) (kind : Method) (message : List ℕ) (is : ask ≡ ask_of n kept line) (items : items_of n ask ≡ Message message ∷ Finish HalfClose ∷ [])
        (begun : begun_by ask ≡ Some kind) (resets : reset_by ask id ≡ []) (behind : calls_behind ask line id kept ≡ kept ++ new_call line id kind ∷ [])
        (own : IsOwn ask id (call_of line kept)) where
      pub sends_whole : kept_now ≡ kept ++ new_call line id kind ∷ [] → BeginsWhole uses id kind message calls later →
          (u : CallTrace) × Works uses n later kept_now tally (with_line uses n past line id u)
      sends_whole kept_is begins =
          let k = begins past.trace h.used in
          let u = took_all id message (begun_with k.0 id kind past.trace) in (
            u,
            works_sent calls later kept kept_now tally past h line ask is id u k.2
                (record {
                  role = refl;
                  fed = refl;
                  dropped = refl;
                  numbers = refl;
                  reported = refl;
                  taken = append_assoc past.trace.taken ((id, Message message) ∷ []) ((id, Finish HalfClose) ∷ [])
                      ∙ ap (λ l. past.trace.taken ++ map (on_stream id) l) (sym items);
                  begun = ap (λ o. past.trace.begun ++ beginning id o) (sym begun);
                  resets = sym (append-nil past.trace.resets) ∙ ap (λ l. past.trace.resets ++ l) (sym resets);
                }) (kept_is ∙ sym behind) own,
          )

      pub sends_part : BeginsPart uses id kind message calls later → (u : CallTrace) × Starves uses n later (with_line uses n past line id u)
      sends_part begins = part (begins past.trace h.used)
        where
          part : (k : (fs : List Frame) × CarryBlock id false fs
              × (uses later (begun_with fs id kind past.trace) ⊎ uses later (took id (Message message) (begun_with fs id kind past.trace)))) →
              (u : CallTrace) × Starves uses n later (with_line uses n past line id u)
          part (fs, carry, inl used) = (
            begun_with fs id kind past.trace,
            starves_sent calls later kept kept_now tally past h line ask is id (begun_with fs id kind past.trace) used []
                ((id, Message message) ∷ (id, Finish HalfClose) ∷ []) (ap (map (on_stream id)) items)
                (record {
                  role = refl;
                  fed = refl;
                  dropped = refl;
                  numbers = refl;
                  reported = refl;
                  taken = sym (append-nil past.trace.taken);
                  begun = ap (λ o. past.trace.begun ++ beginning id o) (sym begun);
                  resets = sym (append-nil past.trace.resets) ∙ ap (λ l. past.trace.resets ++ l) (sym resets);
                }) own,
          )
          part (fs, carry, inr used) = (
            took id (Message message) (begun_with fs id kind past.trace),
            starves_sent calls later kept kept_now tally past h line ask is id (took id (Message message) (begun_with fs id kind past.trace)) used
                ((id, Message message) ∷ []) ((id, Finish HalfClose) ∷ []) (ap (map (on_stream id)) items)
                (record {
                  role = refl;
                  fed = refl;
                  dropped = refl;
                  numbers = refl;
                  reported = refl;
                  taken = refl;
                  begun = ap (λ o. past.trace.begun ++ beginning id o) (sym begun);
                  resets = sym (append-nil past.trace.resets) ∙ ap (λ l. past.trace.resets ++ l) (sym resets);
                }) own,
          )

  -- ---- lines on a call

  module _ (calls later : K) (kept kept_now : List CallView) (tally : Tally) (past : Past) (h : Works uses n calls kept tally past) (line : Line) (c : CallView)
      (found : call_of line kept ≡ Some c) where
    own_call : IfSome (call_of line kept) (λ x. x.stream ≡ c.stream)
    own_call = subst (λ o. IfSome o (λ (x : CallView). x.stream ≡ c.stream)) (sym found) refl

    pub sends_message : (request : ModifyRequest) → asks.Send request ≡ ask_of n kept line →
        kept_now ≡ change_first (is_named (call_name line)) (elects request.election) kept →
        Carries (uses calls) (uses later) (took c.stream (Message (request_bytes n request))) →
        (id : ℕ) × (u : CallTrace) × Works uses n later kept_now tally (with_line uses n past line id u)
    sends_message request is kept_is carries =
        let u = took c.stream (Message (request_bytes n request)) past.trace in (
          c.stream,
          u,
          works_sent calls later kept kept_now tally past h line (asks.Send request) is c.stream u (carries past.trace h.used)
              (record {
                role = refl;
                fed = refl;
                dropped = refl;
                numbers = refl;
                reported = refl;
                taken = refl;
                begun = sym (append-nil past.trace.begun);
                resets = sym (append-nil past.trace.resets);
              }) kept_is own_call,
        )

    pub sends_finish : asks.Finish ≡ ask_of n kept line → kept_now ≡ kept → Carries (uses calls) (uses later) (took c.stream (Finish HalfClose)) →
        (id : ℕ) × (u : CallTrace) × Works uses n later kept_now tally (with_line uses n past line id u)
    sends_finish is kept_is carries =
        let u = took c.stream (Finish HalfClose) past.trace in (
          c.stream,
          u,
          works_sent calls later kept kept_now tally past h line asks.Finish is c.stream u (carries past.trace h.used)
              (record {
                role = refl;
                fed = refl;
                dropped = refl;
                numbers = refl;
                reported = refl;
                taken = refl;
                begun = sym (append-nil past.trace.begun);
                resets = sym (append-nil past.trace.resets);
              }) kept_is own_call,
        )

    pub sends_reset : asks.Reset ≡ ask_of n kept line → kept_now ≡ change_first (is_named (call_name line)) (ends cancelled) kept →
        MayReset uses true c.stream calls later →
        (id : ℕ) × (u : CallTrace) × Works uses n later kept_now tally (with_line uses n past line id u)
    sends_reset is kept_is resets =
        let k = resets past.trace h.used in
        let same = k.2.2 in (
          c.stream,
          k.0,
          works_sent calls later kept kept_now tally past h line asks.Reset is c.stream k.0 k.1
              (record {
                role = ap (λ (x : CallTrace). x.connection_trace.role) same;
                fed = ap (λ (x : CallTrace). x.connection_trace.fed) same;
                dropped = ap (λ (x : CallTrace). x.connection_trace.dropped) same;
                numbers = ap (λ (x : CallTrace). x.numbers) same;
                reported = ap (λ (x : CallTrace). x.reported) same;
                taken = ap (λ (x : CallTrace). x.taken) same ∙ sym (append-nil past.trace.taken);
                begun = ap (λ (x : CallTrace). x.begun) same ∙ sym (append-nil past.trace.begun);
                resets = ap (λ (x : CallTrace). x.resets) same;
              }) kept_is own_call,
        )

  pub sends_nothing : (calls : K) (kept : List CallView) (tally : Tally) (past : Past) (line : Line) → Works uses n calls kept tally past →
      asks.Nothing ≡ ask_of n kept line → (id : ℕ) × (u : CallTrace) × Works uses n calls kept tally (with_line uses n past line id u)
  sends_nothing calls kept tally past line h is = (
    0,
    past.trace,
    works_sent calls calls kept kept tally past h line asks.Nothing is 0 past.trace h.used
        (record {
          role = refl;
          fed = refl;
          dropped = refl;
          numbers = refl;
          reported = refl;
          taken = sym (append-nil past.trace.taken);
          begun = sym (append-nil past.trace.begun);
          resets = sym (append-nil past.trace.resets);
        }) refl tt,
  )

  -- ---- by the answer

  module _ (calls later : K) (kept kept_now : List CallView) (tally : Tally) (past : Past) (h : Works uses n calls kept tally past) (line : Line) where
    pub line_goes : {A : Type 0} (result : Result (Unit {0}) SendFault) (is_over : Bool) →
        (A → (id : ℕ) × (u : CallTrace) × Works uses n later kept_now tally (with_line uses n past line id u)) → OnOk result A →
        OnErr result ((kept_now ≡ kept) × Keeps (uses calls) (uses later)) → SendsLine uses n line later kept_now tally is_over past result
    line_goes (Ok x) is_over f a e = f a
    line_goes (Err NotOpen) is_over f a e = works_keeps calls later kept kept_now tally past h e.1 e.0
    line_goes (Err IdsSpent) is_over f a e = works_keeps calls later kept kept_now tally past h e.1 e.0
    line_goes (Err NoMemory) is_over f a e = inl (works_keeps calls later kept kept_now tally past h e.1 e.0)

    module _ (ask : LineAsk) (kind : Method) (message : List ℕ) (is : ask ≡ ask_of n kept line) (items : items_of n ask ≡ Message message ∷ Finish HalfClose ∷ [])
        (begun : begun_by ask ≡ Some kind) (resets : (id : ℕ) → reset_by ask id ≡ [])
        (behind : (id : ℕ) → calls_behind ask line id kept ≡ kept ++ new_call line id kind ∷ []) (own : (id : ℕ) → IsOwn ask id (call_of line kept))
        (was now : Option ClientOver) where
      pub whole_goes : (result : Result (Unit {0}) SendFault) →
          OnOk result ((now ≡ was) × (id : ℕ) × (kept_now ≡ kept ++ new_call line id kind ∷ []) × BeginsWhole uses id kind message calls later) →
          OnErr result (((now ≡ was) × (kept_now ≡ kept) × Keeps (uses calls) (uses later))
          ⊎ ((result ≡ Err NoMemory) × (now ≡ Some over.NoMemory) × (id : ℕ) × BeginsPart uses id kind message calls later)) →
          SendsLine uses n line later kept_now tally (is_starved now) past result
      whole_goes (Ok x) (same, id, kept_is, begins) e =
          let k = sends_whole calls later kept kept_now tally past h line id ask kind message is items begun (resets id) (behind id) (own id) kept_is begins in
          (id, k.0, k.1)
      whole_goes (Err NotOpen) a (inl (same, kept_is, keeps)) = works_keeps calls later kept kept_now tally past h keeps kept_is
      whole_goes (Err NotOpen) a (inr (e, over_is, id, part)) = absurd cc
      whole_goes (Err IdsSpent) a (inl (same, kept_is, keeps)) = works_keeps calls later kept kept_now tally past h keeps kept_is
      whole_goes (Err IdsSpent) a (inr (e, over_is, id, part)) = absurd cc
      whole_goes (Err NoMemory) a (inl (same, kept_is, keeps)) = inl (works_keeps calls later kept kept_now tally past h keeps kept_is)
      whole_goes (Err NoMemory) a (inr (e, over_is, id, part)) =
          let k = sends_part calls later kept kept_now tally past h line id ask kind message is items begun (resets id) (behind id) (own id) part in
          inr (ap is_starved over_is, id, k.0, k.1)
