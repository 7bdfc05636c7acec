-- What Gets and Flushes are owed.
use Rattle.std.proofs.Common.{◌≡◌, ◌⊎◌, ℕ, ◌==◌, Bool, true, false, ◌||◌, List, [], ◌∷◌, ◌++◌, Option, Some, None, refl, sym, ap, ◌∙◌, subst, inl, inr, append-nil, append_assoc, eq-eqb, if◌then◌else◌}
use Rattle.std.specs.Prelude.{not, is_some, map, filter_map, Result, Ok, Err}
use Rattle.std.specs.List.{list_any, flat_map, cons_option}
use Rattle.std.proofs.lemmas.Bool.{or_left, or_right, or_parts, and_parts, both_ways, eqb-true}
use Rattle.std.proofs.lemmas.List.Elements.{filter_map-append}
use Rattle.grpc_heads.specs.GrpcStatus.{GrpcStatus}
use Rattle.grpc_heads.specs.CallEnd.{CallEnd, Status}
use Rattle.grpc_heads.specs.declared.head.Method.{Method}
use Rattle.grpc_heads.specs.declared.head.Method.TheVariants.{Modify, Get, Flush}
use Rattle.aft_entries.specs.declared.operation.Row.{Row}
use Rattle.h2_exchange.specs.Calls.{Call, Begun, Request, Finished, Dropped, Declined, ends_asking, is_begun_call, stream_in, ends_call as drops_call}
use Rattle.h2_exchange.specs.StreamParts.{Item, Message, Finish}
use Rattle.table_model.specs.declared.command.Command.{Command}
use Rattle.table_model.specs.declared.command.Command.TheVariants as command
use Rattle.table_model.specs.declared.reply.Reply.{Reply}
use Rattle.table_model.specs.declared.reply.Reply.TheVariants as reply
use Rattle.table_model.specs.Event.{Event}
use Rattle.call_answers.specs.declared.orders.Setting.{Setting}
use Rattle.call_requests.specs.Responses.{get_responses}
use Rattle.call_orders.specs.Owed.{end_items, ends_call, has_end, items_for, items_to, ok, selected_items}
use Rattle.call_orders.specs.Calls.{CallState, NotBegun, Modifies, Receives, Responds, Over, Standing, Action, Handles, Collects, Continues, asked_by, begun_by_reply, begun_state, command_of, continued, cut_of, handled, stream_of, events_of, calls_of, without_leaves, commands_for, next_state, refusal_for, refusal_of, selected_by_reply, selected_state, waiting_in, after, standing}
use Rattle.call_orders.specs.Actions.{AreActions, AreDone, AreDoneUnless, IsAction, IsHandled, session_in, timeless, calls_in, events_in}
use Rattle.call_orders.specs.Orders.{actions_on, events_on}
use Rattle.call_orders.specs.Laws.{IsOnceDone, SinglesAreAnswered, asked_with, ends_by, is_cut, is_finish_of, is_finished_in, is_single, message_in, messages_on, method_in, methods_on}
use Rattle.call_orders.proofs.Answered.{no_cut}
use Rattle.call_orders.proofs.Counts.{events_here, events_other, on_other, standing_here, standing_other}
use Rattle.call_orders.proofs.Doing.{in_part, none_done}
use Rattle.call_orders.proofs.Following.{proper}
use Rattle.call_orders.proofs.Holding.{Holds, HoldsUnbegun, Placed, any_more, calls_more, not_late, other_finish, placed_parts, without_leave}
use Rattle.call_orders.proofs.Idle.{idle_session, next_idle, no_last, over_stays}
use Rattle.call_orders.proofs.Open.{is_finish, is_good, open_after, open_with, state_behind}
use Rattle.call_orders.proofs.Standing.{Proper, actions_parts, any_over, holds, not_heard, proper_earlier}

-- ---- what is kept

-- the first message that came, and whether more did
abbrev first_of : List (List ℕ) → Option (List ℕ)
first_of [] = None
first_of (m ∷ more) = Some m

abbrev is_more_of : List (List ℕ) → Bool
is_more_of [] = false
is_more_of (m ∷ []) = false
is_more_of (m ∷ n ∷ more) = true

pub record HeldReceives (actions : List Action) (id : ℕ) (method : Method) (first : Option (List ℕ)) (is_more : Bool) (items : List (Item CallEnd)) : Type 0 where
  pub methods : methods_on (calls_in actions) id ≡ method ∷ []
  pub single : is_single method ≡ true
  pub first_is : first ≡ first_of (messages_on (calls_in actions) id)
  pub more_is : is_more ≡ is_more_of (messages_on (calls_in actions) id)
  pub nothing : events_on actions id ≡ []
  pub no_items : items ≡ []
  pub unfinished : is_finished_in actions id ≡ false

-- it is done, or refused, and is owed these items
pub record HeldDone (s : Setting) (actions : List Action) (id : ℕ) (items : List (Item CallEnd)) : Type 0 where
  pub method : Method
  pub methods : methods_on (calls_in actions) id ≡ method ∷ []
  pub single : is_single method ≡ true
  pub finished : is_finished_in actions id ≡ true
  pub once : IsOnceDone s true (asked_with s method (messages_on (calls_in actions) id)) (events_on actions id) items

-- responses, and then OK
pub record AreWaiting (waiting : List (Item CallEnd)) : Type 0 where
  pub messages : List (List ℕ)
  pub waiting_is : waiting ≡ map Message messages ++ Finish (Status ok) ∷ []

abbrev pub Held : Setting → List Action → ℕ → CallState → List (Item CallEnd) → Type 0
Held s actions id NotBegun items = (methods_on (calls_in actions) id ≡ []) × (items ≡ [])
Held s actions id (Modifies session f) items = methods_on (calls_in actions) id ≡ Modify ∷ []
Held s actions id (Receives method first is_more) items = HeldReceives actions id method first is_more items
Held s actions id (Responds waiting) items = HeldDone s actions id (items ++ waiting) × AreWaiting waiting
Held s actions id Over items = (methods_on (calls_in actions) id ≡ Modify ∷ []) ⊎ HeldDone s actions id items

-- ---- one more call

methods_more : (a : Action) (earlier : List Action) (id : ℕ) → methods_on (calls_in (a ∷ earlier)) id ≡ methods_on (calls_in earlier) id ++ methods_on (calls_of a) id
methods_more a earlier id = ap (filter_map (method_in id)) (calls_more a earlier) ∙ filter_map-append (method_in id) (calls_in earlier) (calls_of a)

messages_more : (a : Action) (earlier : List Action) (id : ℕ) → messages_on (calls_in (a ∷ earlier)) id ≡ messages_on (calls_in earlier) id ++ messages_on (calls_of a) id
messages_more a earlier id = ap (filter_map (message_in id)) (calls_more a earlier) ∙ filter_map-append (message_in id) (calls_in earlier) (calls_of a)

finished_more : (a : Action) (earlier : List Action) (id : ℕ) → is_finished_in (a ∷ earlier) id ≡ (is_finished_in earlier id || list_any (is_finish_of id) (calls_of a))
finished_more a earlier id = any_more (is_finish_of id) a earlier

-- calls of which one has a method were heard
heard_by : (id : ℕ) (cs : List (Call Method CallEnd)) (m : Method) (ms : List Method) → methods_on cs id ≡ m ∷ ms → list_any (λ c. stream_in c == id) cs ≡ true
heard_by id [] m ms e = absurd cc
heard_by id (Begun stream method ∷ cs) m ms e = by (stream == id) refl e (λ k. heard_by id cs m ms k)
  where
    by : (b : Bool) → (stream == id) ≡ b → cons_option (if b then Some method else None) (methods_on cs id) ≡ m ∷ ms → (methods_on cs id ≡ m ∷ ms → list_any (λ c. stream_in c == id) cs ≡ true) → ((stream == id) || list_any (λ c. stream_in c == id) cs) ≡ true
    by true at k more = or_left (stream == id) (list_any (λ c. stream_in c == id) cs) at
    by false at k more = or_right (stream == id) (list_any (λ c. stream_in c == id) cs) (more k)
heard_by id (Request stream n ∷ cs) m ms e = or_right (stream == id) (list_any (λ c. stream_in c == id) cs) (heard_by id cs m ms e)
heard_by id (Finished stream ∷ cs) m ms e = or_right (stream == id) (list_any (λ c. stream_in c == id) cs) (heard_by id cs m ms e)
heard_by id (Dropped stream ∷ cs) m ms e = or_right (stream == id) (list_any (λ c. stream_in c == id) cs) (heard_by id cs m ms e)
heard_by id (Declined stream answer ∷ cs) m ms e = or_right (stream == id) (list_any (λ c. stream_in c == id) cs) (heard_by id cs m ms e)

not_both : (b : Bool) → b ≡ true → not b ≡ true → ⊥
not_both true e f = cc
not_both false e f = cc

-- a call that has begun does not begin again
begun_once : (earlier : List Action) (id : ℕ) (method m : Method) (ms : List Method) → not (list_any (λ c. stream_in c == id) (calls_in earlier)) ≡ true → methods_on (calls_in earlier) id ≡ m ∷ ms → ⊥
begun_once earlier id method m ms placed e = not_both (list_any (λ c. stream_in c == id) (calls_in earlier)) (heard_by id (calls_in earlier) m ms e) placed

or_both : (b x y : Bool) → (b || x) ≡ true → (x ≡ true → y ≡ true) → (b || y) ≡ true
or_both true x y e k = refl
or_both false x y e k = k e

finish_asks : (id : ℕ) (cs : List (Call Method CallEnd)) → list_any (is_finish_of id) cs ≡ true → list_any (ends_asking id) cs ≡ true
finish_asks id [] e = absurd cc
finish_asks id (Finished stream ∷ cs) e = or_both (stream == id) (list_any (is_finish_of id) cs) (list_any (ends_asking id) cs) e (λ k. finish_asks id cs k)
finish_asks id (Begun stream method ∷ cs) e = finish_asks id cs e
finish_asks id (Request stream m ∷ cs) e = finish_asks id cs e
finish_asks id (Dropped stream ∷ cs) e = or_right (stream == id) (list_any (ends_asking id) cs) (finish_asks id cs e)
finish_asks id (Declined stream answer ∷ cs) e = or_right (stream == id) (list_any (ends_asking id) cs) (finish_asks id cs e)

-- once a client has ended its side nothing more comes of it
no_more : (earlier : List Action) (call : Call Method CallEnd) (did : List Event) (cut : Option ℕ) (m : Method) (ms : List Method) → Placed (calls_in earlier) (Handles call did cut)
    → methods_on (calls_in earlier) (stream_in call) ≡ m ∷ ms → is_finished_in earlier (stream_in call) ≡ true → list_any (drops_call (stream_in call)) (call ∷ []) ≡ false → ⊥
no_more earlier (Begun id method) did cut m ms placed begun finished drop = begun_once earlier id method m ms placed begun
no_more earlier (Request id n) did cut m ms placed begun finished drop =
    not_both (list_any (ends_asking id) (calls_in earlier)) (finish_asks id (calls_in earlier) finished) (and_parts (list_any (is_begun_call id) (calls_in earlier)) (not (list_any (ends_asking id) (calls_in earlier))) placed).1
no_more earlier (Finished id) did cut m ms placed begun finished drop =
    not_both (list_any (ends_asking id) (calls_in earlier)) (finish_asks id (calls_in earlier) finished) (and_parts (list_any (is_begun_call id) (calls_in earlier)) (not (list_any (ends_asking id) (calls_in earlier))) placed).1
no_more earlier (Dropped id) did cut m ms placed begun finished drop = both_ways (id == id) (or_parts (id == id) false drop).0 (eq-eqb id id refl)
no_more earlier (Declined id answer) did cut m ms placed begun finished drop = both_ways (id == id) (or_parts (id == id) false drop).0 (eq-eqb id id refl)

-- ---- what is asked

asked_same : (s : Setting) (method : Method) (first : Option (List ℕ)) (is_more : Bool) (ms : List (List ℕ)) → first ≡ first_of ms → is_more ≡ is_more_of ms → asked_by s method first is_more ≡ asked_with s method ms
asked_same s method first is_more [] e f = ap (λ (o : Option (List ℕ)). asked_by s method o is_more) e ∙ ap (λ (b : Bool). asked_by s method None b) f
asked_same s method first is_more (m ∷ []) e f = ap (λ (o : Option (List ℕ)). asked_by s method o is_more) e ∙ ap (λ (b : Bool). asked_by s method (Some m) b) f
asked_same s method first is_more (m ∷ n ∷ ms) e f = ap (λ (o : Option (List ℕ)). asked_by s method o is_more) e ∙ ap (λ (b : Bool). asked_by s method (Some m) b) f

-- entries that were selected owe nothing at once
selected_owes : (s : Setting) (c : Command) (rows : List Row) → items_to s c (reply.Selected rows) ≡ []
selected_owes s command.Begin rows = refl
selected_owes s (command.Select which kinds) rows = refl
selected_owes s (command.Flush by now which) rows = refl
selected_owes s (command.SetParams n asked) rows = refl
selected_owes s (command.Announce n id) rows = refl
selected_owes s (command.Operate n operation now) rows = refl
selected_owes s (command.Collect n) rows = refl
selected_owes s (command.Leave n) rows = refl
selected_owes s (command.Take worker now) rows = refl
selected_owes s (command.Report job verdict now) rows = refl
selected_owes s command.Halt rows = refl

one_done : (s : Setting) (c : Command) (w : List Event) → AreDone s (c ∷ []) w → (e : Event) × (w ≡ e ∷ []) × (timeless e.command ≡ timeless c)
one_done s c [] h = absurd h
one_done s c (e ∷ w) h = (e, ap (λ (l : List Event). e ∷ l) (none (ends_call s e) h.1), h.0)
  where
    none : (b : Bool) → AreDoneUnless b w (w ≡ []) → w ≡ []
    none true k = k
    none false k = k

no_items : (its l : List (Item CallEnd)) → its ≡ [] → its ++ l ≡ l
no_items its l e = ap (λ (x : List (Item CallEnd)). x ++ l) e

tails : (l : List (Item CallEnd)) → (l ++ []) ++ [] ≡ l
tails l = append-nil (l ++ []) ∙ append-nil l

-- ---- the client ends its side

module _ (s : Setting) (actions : List Action) (id : ℕ) (method : Method) (methods : methods_on (calls_in actions) id ≡ method ∷ []) (single : is_single method ≡ true) (finished : is_finished_in actions id ≡ true) where
  -- the command of a Get or a Flush is done
  done_held : (its : List (Item CallEnd)) (c d : Command) (said : Reply) → its ≡ [] → timeless d ≡ timeless c → asked_with s method (messages_on (calls_in actions) id) ≡ Ok c
      → events_on actions id ≡ record { command = d; reply = said } ∷ []
      → Held s actions id (if has_end ((items_to s d said ++ []) ++ []) then Over else selected_by_reply s said) (its ++ ((items_to s d said ++ []) ++ []))
  done_held its c d (reply.Selected rows) none same asked did =
      subst (λ (l : List (Item CallEnd)). Held s actions id (if has_end ((l ++ []) ++ []) then Over else Responds (selected_items s rows)) (its ++ ((l ++ []) ++ []))) (sym (selected_owes s d rows)) (
        record {
          method = method;
          methods = methods;
          single = single;
          finished = finished;
          once = subst (λ (r : Result Command GrpcStatus). IsOnceDone s true r (events_on actions id) ((its ++ []) ++ selected_items s rows)) (sym asked)
              (record { command = d; reply = reply.Selected rows }, did, same, no_items (its ++ []) (selected_items s rows) (append-nil its ∙ none));
        },
        record { messages = get_responses s.numbering s.instances rows; waiting_is = refl },
      )
  done_held its c d said none same asked did =
      subst (λ (x : CallState). Held s actions id x (its ++ ((items_to s d said ++ []) ++ []))) (sym (any_over (has_end ((items_to s d said ++ []) ++ [])) Over refl))
      (inr (record {
        method = method;
        methods = methods;
        single = single;
        finished = finished;
        once = subst (λ (r : Result Command GrpcStatus). IsOnceDone s true r (events_on actions id) (its ++ ((items_to s d said ++ []) ++ []))) (sym asked)
            (record { command = d; reply = said }, did, same, no_items its ((items_to s d said ++ []) ++ []) none ∙ tails (items_to s d said));
      }))

  -- or it is refused
  refused_held : (its : List (Item CallEnd)) (refusal : GrpcStatus) → its ≡ [] → asked_with s method (messages_on (calls_in actions) id) ≡ Err refusal → events_on actions id ≡ []
      → Held s actions id Over (its ++ ([] ++ end_items (Some refusal)))
  refused_held its refusal none asked did = inr (record {
    method = method;
    methods = methods;
    single = single;
    finished = finished;
    once = subst (λ (r : Result Command GrpcStatus). IsOnceDone s true r (events_on actions id) (its ++ end_items (Some refusal))) (sym asked) (did, no_items its (end_items (Some refusal)) none);
  })

  asked_held : (its : List (Item CallEnd)) (r : Result Command GrpcStatus) (w : List Event) → its ≡ [] → AreDone s (command_of r) w → asked_with s method (messages_on (calls_in actions) id) ≡ r → events_on actions id ≡ w
      → Held s actions id (if has_end (flat_map (items_for s) w ++ end_items (refusal_of r)) then Over else selected_state s w) (its ++ (flat_map (items_for s) w ++ end_items (refusal_of r)))
  asked_held its (Err refusal) w none done asked did =
      subst (λ (l : List Event). Held s actions id (if has_end (flat_map (items_for s) l ++ end_items (Some refusal)) then Over else selected_state s l) (its ++ (flat_map (items_for s) l ++ end_items (Some refusal)))) (sym done)
      (refused_held its refusal none asked (did ∙ done))
  asked_held its (Ok c) w none done asked did =
      let one = one_done s c w done in
      subst (λ (l : List Event). Held s actions id (if has_end (flat_map (items_for s) l ++ []) then Over else selected_state s l) (its ++ (flat_map (items_for s) l ++ []))) (sym one.1)
      (done_held its c one.0.command one.0.reply none one.2 asked (did ∙ one.1))

-- ---- a Get or a Flush that goes on

methods_kept : (a : Action) (earlier : List Action) (id : ℕ) (ms : List Method) → methods_on (calls_in earlier) id ≡ ms → methods_on (calls_of a) id ≡ [] → methods_on (calls_in (a ∷ earlier)) id ≡ ms
methods_kept a earlier id ms before none =
    methods_more a earlier id ∙ (ap (λ (l : List Method). methods_on (calls_in earlier) id ++ l) none ∙ (append-nil (methods_on (calls_in earlier) id) ∙ before))

messages_kept : (a : Action) (earlier : List Action) (id : ℕ) → messages_on (calls_of a) id ≡ [] → messages_on (calls_in (a ∷ earlier)) id ≡ messages_on (calls_in earlier) id
messages_kept a earlier id none = messages_more a earlier id ∙ (ap (λ (l : List (List ℕ)). messages_on (calls_in earlier) id ++ l) none ∙ append-nil (messages_on (calls_in earlier) id))

one_message : (id : ℕ) (m : List ℕ) → messages_on (Request id m ∷ []) id ≡ m ∷ []
one_message id m = ap (λ (b : Bool). cons_option (if b then Some m else None) (let l : List (List ℕ) = [] in l)) (eq-eqb id id refl)

or_kept : (a b : Bool) → a ≡ false → b ≡ false → (a || b) ≡ false
or_kept true b e f = absurd cc
or_kept false b e f = f

no_first_message : (ms : List (List ℕ)) → None ≡ first_of ms → ms ≡ []
no_first_message [] e = refl
no_first_message (m ∷ ms) e = absurd cc

first_kept : (ms : List (List ℕ)) (x m : List ℕ) → Some x ≡ first_of ms → (Some x ≡ first_of (ms ++ m ∷ [])) × (true ≡ is_more_of (ms ++ m ∷ []))
first_kept [] x m e = absurd cc
first_kept (y ∷ []) x m e = (e, refl)
first_kept (y ∷ z ∷ ms) x m e = (e, refl)

module _ (s : Setting) (earlier : List Action) (id : ℕ) (method : Method) (its : List (Item CallEnd)) (here : (id == id) ≡ true) where
  -- a further message
  request_held : (m : List ℕ) (did : List Event) (first next : Option (List ℕ)) (is_more then_more : Bool) → HeldReceives earlier id method first is_more its
      → next ≡ first_of (messages_on (calls_in earlier) id ++ m ∷ []) → then_more ≡ is_more_of (messages_on (calls_in earlier) id ++ m ∷ []) → did ≡ [] → (items : List (Item CallEnd)) → items ≡ []
      → HeldReceives (Handles (Request id m) did None ∷ earlier) id method next then_more items
  request_held m did first next is_more then_more h first_is more_is nothing items no_items =
      let a : Action = Handles (Request id m) did None in
      let messages : messages_on (calls_in (a ∷ earlier)) id ≡ messages_on (calls_in earlier) id ++ m ∷ [] =
      messages_more a earlier id ∙ ap (λ (l : List (List ℕ)). messages_on (calls_in earlier) id ++ l) (one_message id m) in
      record {
        methods = methods_kept a earlier id (method ∷ []) h.methods refl;
        single = h.single;
        first_is = first_is ∙ sym (ap first_of messages);
        more_is = more_is ∙ sym (ap is_more_of messages);
        nothing = events_here a earlier id here ∙ (ap (λ (l : List Event). l ++ did) h.nothing ∙ nothing);
        no_items = no_items;
        unfinished = finished_more a earlier id ∙ or_kept (is_finished_in earlier id) false h.unfinished refl;
      }

  quiet_did : (first : Option (List ℕ)) (is_more : Bool) (call : Call Method CallEnd) (did : List Event) → commands_for s (Receives method first is_more) call ≡ []
      → IsHandled s (record { state = Receives method first is_more; items = its }) call did None → (without_leaves did ≡ []) × (did ≡ without_leaves did)
  quiet_did first is_more call did none act =
      let st : Standing = record { state = Receives method first is_more; items = its } in
      let w = without_leaves did in
      let next = next_state s (Receives method first is_more) call w in (
        none_done s (commands_for s (Receives method first is_more) call) w none (in_part s None st call (commands_for s (Receives method first is_more) call) w (handled s st call w).items act.made),
        without_leave did act.last act.did_is (no_last (session_in next) (after s st (Handles call did None)).state act.last (idle_session next (next_idle s (Receives method first is_more) call w tt)) act.leaves),
      )

  -- no end comes of a message
  goes_receiving : (acts : List Action) (next : CallState) (w : List Event) → w ≡ [] → ((items : List (Item CallEnd)) → items ≡ [] → Held s acts id next items) → its ≡ []
      → Held s acts id (if has_end (flat_map (items_for s) w ++ []) then Over else next) (its ++ (flat_map (items_for s) w ++ []))
  goes_receiving acts next w none k nothing =
      subst (λ (l : List Event). Held s acts id (if has_end (flat_map (items_for s) l ++ []) then Over else next) (its ++ (flat_map (items_for s) l ++ []))) (sym none) (k (its ++ []) (append-nil its ∙ nothing))

  receives_request : (first : Option (List ℕ)) (is_more : Bool) (m : List ℕ) (did : List Event) → IsHandled s (record { state = Receives method first is_more; items = its }) (Request id m) did None
      → HeldReceives earlier id method first is_more its
      → Held s (Handles (Request id m) did None ∷ earlier) id (after s (record { state = Receives method first is_more; items = its }) (Handles (Request id m) did None)).state
      (after s (record { state = Receives method first is_more; items = its }) (Handles (Request id m) did None)).items
  receives_request None is_more m did act h =
      let q = quiet_did None is_more (Request id m) did refl act in
      let none : messages_on (calls_in earlier) id ≡ [] = no_first_message (messages_on (calls_in earlier) id) h.first_is in
      goes_receiving (Handles (Request id m) did None ∷ earlier) (Receives method (Some m) false) (without_leaves did) q.0
      (λ items e. request_held m did None (Some m) is_more false h (ap (λ (l : List (List ℕ)). first_of (l ++ m ∷ [])) (sym none)) (ap (λ (l : List (List ℕ)). is_more_of (l ++ m ∷ [])) (sym none)) (q.1 ∙ q.0) items e)
      h.no_items
  receives_request (Some x) is_more m did act h =
      let q = quiet_did (Some x) is_more (Request id m) did refl act in
      let k = first_kept (messages_on (calls_in earlier) id) x m h.first_is in
      goes_receiving (Handles (Request id m) did None ∷ earlier) (Receives method (Some x) true) (without_leaves did) q.0
      (λ items e. request_held m did (Some x) (Some x) is_more true h k.0 k.1 (q.1 ∙ q.0) items e)
      h.no_items

  receives_finished : (first : Option (List ℕ)) (is_more : Bool) (did : List Event) → IsHandled s (record { state = Receives method first is_more; items = its }) (Finished id) did None
      → HeldReceives earlier id method first is_more its → next_state s (Receives method first is_more) (Finished id) (without_leaves did) ≡ selected_state s (without_leaves did)
      → Held s (Handles (Finished id) did None ∷ earlier) id (after s (record { state = Receives method first is_more; items = its }) (Handles (Finished id) did None)).state
      (after s (record { state = Receives method first is_more; items = its }) (Handles (Finished id) did None)).items
  receives_finished first is_more did act h next_is =
      let a : Action = Handles (Finished id) did None in
      let acts = a ∷ earlier in
      let st : Standing = record { state = Receives method first is_more; items = its } in
      let w = without_leaves did in
      let next = next_state s (Receives method first is_more) (Finished id) w in
      let same : did ≡ w = without_leave did act.last act.did_is (no_last (session_in next) (after s st a).state act.last (idle_session next (next_idle s (Receives method first is_more) (Finished id) w tt)) act.leaves) in
      let finished : is_finished_in acts id ≡ true = finished_more a earlier id ∙ or_right (is_finished_in earlier id) ((id == id) || false) (or_left (id == id) false here) in
      let asked : asked_with s method (messages_on (calls_in acts) id) ≡ asked_by s method first is_more =
      ap (asked_with s method) (messages_kept a earlier id refl) ∙ sym (asked_same s method first is_more (messages_on (calls_in earlier) id) h.first_is h.more_is) in
      let did_is : events_on acts id ≡ w = events_here a earlier id here ∙ (ap (λ (l : List Event). l ++ did) h.nothing ∙ same) in
      let more = flat_map (items_for s) w ++ end_items (refusal_of (asked_by s method first is_more)) in
      subst (λ (x : CallState). Held s acts id (if has_end more then Over else x) (its ++ more)) (sym next_is)
      (asked_held s acts id method (methods_kept a earlier id (method ∷ []) h.methods refl) h.single finished its (asked_by s method first is_more) w h.no_items act.made asked did_is)

-- ---- the next response

module _ (s : Setting) (earlier : List Action) (id : ℕ) (its : List (Item CallEnd)) (here : (id == id) ≡ true) where
  still_done : (a : Action) (items : List (Item CallEnd)) (all : List (Item CallEnd)) → (stream_of a == id) ≡ true → calls_of a ≡ [] → events_of a ≡ [] → items ≡ all → HeldDone s earlier id all → HeldDone s (a ∷ earlier) id items
  still_done a items all e no_calls no_events same h =
      let methods_same = methods_kept a earlier id (h.method ∷ []) h.methods (ap (λ (l : List (Call Method CallEnd)). methods_on l id) no_calls) in
      let messages_same = messages_kept a earlier id (ap (λ (l : List (Call Method CallEnd)). messages_on l id) no_calls) in
      let finished_same : is_finished_in (a ∷ earlier) id ≡ true = finished_more a earlier id ∙ or_left (is_finished_in earlier id) (list_any (is_finish_of id) (calls_of a)) h.finished in
      let events_same : events_on (a ∷ earlier) id ≡ events_on earlier id = events_here a earlier id e ∙ (ap (λ (l : List Event). events_on earlier id ++ l) no_events ∙ append-nil (events_on earlier id)) in
      record {
        method = h.method;
        methods = methods_same;
        single = h.single;
        finished = finished_same;
        once = subst (λ (l : List (Item CallEnd)). IsOnceDone s true (asked_with s h.method (messages_on (calls_in (a ∷ earlier)) id)) (events_on (a ∷ earlier) id) l) (sym same)
            (subst (λ (l : List Event). IsOnceDone s true (asked_with s h.method (messages_on (calls_in (a ∷ earlier)) id)) l all) (sym events_same)
            (subst (λ (l : List (List ℕ)). IsOnceDone s true (asked_with s h.method l) (events_on earlier id) all) (sym messages_same) h.once));
      }

  continues_by : (ms : List (List ℕ)) → HeldDone s earlier id (its ++ (map Message ms ++ Finish (Status ok) ∷ []))
      → Held s (Continues id None ∷ earlier) id (continued (record { state = Responds (map Message ms ++ Finish (Status ok) ∷ []); items = its })).state (continued (record { state = Responds (map Message ms ++ Finish (Status ok) ∷ []); items = its })).items
  continues_by [] h = inr (still_done (Continues id None) (its ++ Finish (Status ok) ∷ []) (its ++ Finish (Status ok) ∷ []) here refl refl refl h)
  continues_by (m ∷ []) h = inr (still_done (Continues id None) (its ++ Message m ∷ Finish (Status ok) ∷ []) (its ++ Message m ∷ Finish (Status ok) ∷ []) here refl refl refl h)
  continues_by (m ∷ n ∷ []) h = (
    still_done (Continues id None) ((its ++ Message m ∷ []) ++ Message n ∷ Finish (Status ok) ∷ []) (its ++ Message m ∷ Message n ∷ Finish (Status ok) ∷ []) here refl refl
        (append_assoc its (Message m ∷ []) (Message n ∷ Finish (Status ok) ∷ [])) h,
    record { messages = n ∷ []; waiting_is = refl },
  )
  continues_by (m ∷ n ∷ x ∷ ms) h = (
    still_done (Continues id None) ((its ++ Message m ∷ []) ++ Message n ∷ Message x ∷ (map Message ms ++ Finish (Status ok) ∷ [])) (its ++ Message m ∷ Message n ∷ Message x ∷ (map Message ms ++ Finish (Status ok) ∷ [])) here refl refl
        (append_assoc its (Message m ∷ []) (Message n ∷ Message x ∷ (map Message ms ++ Finish (Status ok) ∷ []))) h,
    record { messages = n ∷ x ∷ ms; waiting_is = refl },
  )

  continues : (waiting : List (Item CallEnd)) → AreWaiting waiting → HeldDone s earlier id (its ++ waiting)
      → Held s (Continues id None ∷ earlier) id (continued (record { state = Responds waiting; items = its })).state (continued (record { state = Responds waiting; items = its })).items
  continues waiting k h =
      subst (λ (l : List (Item CallEnd)). Held s (Continues id None ∷ earlier) id (continued (record { state = Responds l; items = its })).state (continued (record { state = Responds l; items = its })).items) (sym k.waiting_is)
      (continues_by k.messages (subst (λ (l : List (Item CallEnd)). HeldDone s earlier id (its ++ l)) k.waiting_is h))

-- ---- all actions

no_drop : (a : Action) (earlier : List Action) (id : ℕ) → list_any (drops_call id) (calls_in (a ∷ earlier)) ≡ false → (list_any (drops_call id) (calls_in earlier) ≡ false) × (list_any (drops_call id) (calls_of a) ≡ false)
no_drop a earlier id e = or_parts (list_any (drops_call id) (calls_in earlier)) (list_any (drops_call id) (calls_of a)) (sym (any_more (drops_call id) a earlier) ∙ e)

one_method : (id : ℕ) (method : Method) → methods_on (Begun id method ∷ []) id ≡ method ∷ []
one_method id method = ap (λ (b : Bool). cons_option (if b then Some method else None) (let l : List Method = [] in l)) (eq-eqb id id refl)

method_first : (id : ℕ) (method : Method) (did : List Event) (cut : Option ℕ) (earlier : List Action) → methods_on (calls_in earlier) id ≡ [] → methods_on (calls_in (Handles (Begun id method) did cut ∷ earlier)) id ≡ method ∷ []
method_first id method did cut earlier none =
    methods_more (Handles (Begun id method) did cut) earlier id ∙ (ap (λ (l : List Method). l ++ methods_on (Begun id method ∷ []) id) none ∙ one_method id method)

none_asked : (id : ℕ) (cs : List (Call Method CallEnd)) → list_any (λ c. stream_in c == id) cs ≡ false → messages_on cs id ≡ []
none_asked id [] e = refl
none_asked id (Request stream m ∷ cs) e =
    let r = or_parts (stream == id) (list_any (λ c. stream_in c == id) cs) e in
    ap (λ (b : Bool). cons_option (if b then Some m else None) (messages_on cs id)) r.0 ∙ none_asked id cs r.1
none_asked id (Begun stream method ∷ cs) e = none_asked id cs (or_parts (stream == id) (list_any (λ c. stream_in c == id) cs) e).1
none_asked id (Finished stream ∷ cs) e = none_asked id cs (or_parts (stream == id) (list_any (λ c. stream_in c == id) cs) e).1
none_asked id (Dropped stream ∷ cs) e = none_asked id cs (or_parts (stream == id) (list_any (λ c. stream_in c == id) cs) e).1
none_asked id (Declined stream answer ∷ cs) e = none_asked id cs (or_parts (stream == id) (list_any (λ c. stream_in c == id) cs) e).1

none_ended : (id : ℕ) (cs : List (Call Method CallEnd)) → list_any (λ c. stream_in c == id) cs ≡ false → list_any (is_finish_of id) cs ≡ false
none_ended id [] e = refl
none_ended id (Finished stream ∷ cs) e = let r = or_parts (stream == id) (list_any (λ c. stream_in c == id) cs) e in or_kept (stream == id) (list_any (is_finish_of id) cs) r.0 (none_ended id cs r.1)
none_ended id (Request stream m ∷ cs) e = none_ended id cs (or_parts (stream == id) (list_any (λ c. stream_in c == id) cs) e).1
none_ended id (Begun stream method ∷ cs) e = none_ended id cs (or_parts (stream == id) (list_any (λ c. stream_in c == id) cs) e).1
none_ended id (Dropped stream ∷ cs) e = none_ended id cs (or_parts (stream == id) (list_any (λ c. stream_in c == id) cs) e).1
none_ended id (Declined stream answer ∷ cs) e = none_ended id cs (or_parts (stream == id) (list_any (λ c. stream_in c == id) cs) e).1

no_events : (earlier : List Action) (id : ℕ) → actions_on earlier id ≡ [] → events_on earlier id ≡ []
unfolding events_in
no_events earlier id e = ap events_in e

-- a Get or a Flush that begins
begins_single : (s : Setting) (earlier : List Action) (id : ℕ) (method : Method) (its : List (Item CallEnd)) (did : List Event) → is_single method ≡ true → HoldsUnbegun earlier id → methods_on (calls_in earlier) id ≡ [] → its ≡ []
    → commands_for s NotBegun (Begun id method) ≡ [] → ((done : List Event) → next_state s NotBegun (Begun id method) done ≡ Receives method None false)
    → (act : IsHandled s (record { state = NotBegun; items = its }) (Begun id method) did None) → refusal_for s NotBegun (Begun id method) ≡ []
    → Held s (Handles (Begun id method) did None ∷ earlier) id (after s (record { state = NotBegun; items = its }) (Handles (Begun id method) did None)).state (after s (record { state = NotBegun; items = its }) (Handles (Begun id method) did None)).items
begins_single s earlier id method its did single h none nothing no_command next act no_refusal =
    let a : Action = Handles (Begun id method) did None in
    let acts = a ∷ earlier in
    let st : Standing = record { state = NotBegun; items = its } in
    let w = without_leaves did in
    let w_none : w ≡ [] = none_done s (commands_for s NotBegun (Begun id method)) w no_command (in_part s None st (Begun id method) (commands_for s NotBegun (Begun id method)) w (handled s st (Begun id method) w).items act.made) in
    let last_none : act.last ≡ [] = no_last (session_in (next_state s NotBegun (Begun id method) w)) (after s st a).state act.last (ap session_in (next w)) act.leaves in
    let did_none : did ≡ [] = without_leave did act.last act.did_is last_none ∙ w_none in
    let here : (id == id) ≡ true = eq-eqb id id refl in
    let more : flat_map (items_for s) w ++ refusal_for s NotBegun (Begun id method) ≡ [] = ap (λ (l : List Event). flat_map (items_for s) l ++ refusal_for s NotBegun (Begun id method)) w_none ∙ no_refusal in
    let held : HeldReceives acts id method None false (its ++ []) = record {
      methods = method_first id method did None earlier none;
      single = single;
      first_is = sym (ap first_of (messages_kept a earlier id refl ∙ none_asked id (calls_in earlier) h.unheard));
      more_is = sym (ap is_more_of (messages_kept a earlier id refl ∙ none_asked id (calls_in earlier) h.unheard));
      nothing = events_here a earlier id here ∙ (ap (λ (l : List Event). l ++ did) (no_events earlier id h.none) ∙ did_none);
      no_items = append-nil its ∙ nothing;
      unfinished = finished_more a earlier id ∙ or_kept (is_finished_in earlier id) false (none_ended id (calls_in earlier) h.unheard) refl;
    } in
    subst (λ (l : List (Item CallEnd)). Held s acts id (if has_end l then Over else next_state s NotBegun (Begun id method) w) (its ++ l)) (sym more)
    (subst (λ (x : CallState). Held s acts id x (its ++ [])) (sym (next w)) held)

-- ---- each action

abbrev IsModify : CallState → Type 0
IsModify (Modifies session f) = Unit {0}
IsModify Over = Unit {0}
IsModify other = ⊥

modify_held : (s : Setting) (acts : List Action) (id : ℕ) (state : CallState) (items : List (Item CallEnd)) → IsModify state → methods_on (calls_in acts) id ≡ Modify ∷ [] → Held s acts id state items
modify_held s acts id (Modifies session f) items i e = e
modify_held s acts id Over items i e = inl e
modify_held s acts id NotBegun items i e = absurd i
modify_held s acts id (Receives method first is_more) items i e = absurd i
modify_held s acts id (Responds waiting) items i e = absurd i

begun_modify : (w : List Event) → IsModify (begun_state w)
begun_modify [] = tt
begun_modify (e ∷ []) = by e.reply
  where
    by : (said : Reply) → IsModify (begun_by_reply said)
    by (reply.Began session) = tt
    by said = tt
begun_modify (e ∷ d ∷ w) = tt

if_modify : (b : Bool) (state : CallState) → IsModify state → IsModify (if b then Over else state)
if_modify true state i = tt
if_modify false state i = i

behind_modify : (session : ℕ) (f b : Bool) → IsModify (state_behind session f b)
behind_modify session f true = tt
behind_modify session f false = tt

-- an action on a stream that has begun begins nothing
no_method : (earlier : List Action) (a : Action) (m : Method) (ms : List Method) → Placed (calls_in earlier) a → methods_on (calls_in earlier) (stream_of a) ≡ m ∷ ms → methods_on (calls_of a) (stream_of a) ≡ []
no_method earlier (Handles (Begun id method) did cut) m ms placed begun = absurd (begun_once earlier id method m ms placed begun)
no_method earlier (Handles (Request id n) did cut) m ms placed begun = refl
no_method earlier (Handles (Finished id) did cut) m ms placed begun = refl
no_method earlier (Handles (Dropped id) did cut) m ms placed begun = refl
no_method earlier (Handles (Declined id answer) did cut) m ms placed begun = refl
no_method earlier (Collects id did cut) m ms placed begun = refl
no_method earlier (Continues id cut) m ms placed begun = refl

self_drop : (id : ℕ) → ((id == id) || false) ≡ false → ⊥
self_drop id e = both_ways (id == id) (or_parts (id == id) false e).0 (eq-eqb id id refl)

unbegun_held : (s : Setting) (earlier : List Action) (a : Action) (its : List (Item CallEnd)) → Placed (calls_in earlier) a → IsAction s (record { state = NotBegun; items = its }) a → cut_of a ≡ None
    → list_any (drops_call (stream_of a)) (calls_of a) ≡ false → HoldsUnbegun earlier (stream_of a) → methods_on (calls_in earlier) (stream_of a) ≡ [] → its ≡ []
    → Held s (a ∷ earlier) (stream_of a) (after s (record { state = NotBegun; items = its }) a).state (after s (record { state = NotBegun; items = its }) a).items
unbegun_held s earlier (Collects id did cut) its placed act none drop h methods nothing = absurd (cc act.state_is)
unbegun_held s earlier (Continues id cut) its placed act none drop h methods nothing = absurd (cc act.state_is)
unbegun_held s earlier (Handles call did (Some made)) its placed act none drop h methods nothing = absurd cc
unbegun_held s earlier (Handles (Begun id Modify) did None) its placed act none drop h methods nothing =
    modify_held s (Handles (Begun id Modify) did None ∷ earlier) id (after s (record { state = NotBegun; items = its }) (Handles (Begun id Modify) did None)).state (after s (record { state = NotBegun; items = its }) (Handles (Begun id Modify) did None)).items
    (if_modify (has_end (flat_map (items_for s) (without_leaves did) ++ [])) (begun_state (without_leaves did)) (begun_modify (without_leaves did))) (method_first id Modify did None earlier methods)
unbegun_held s earlier (Handles (Begun id Get) did None) its placed act none drop h methods nothing = begins_single s earlier id Get its did refl h methods nothing refl (λ done. refl) act refl
unbegun_held s earlier (Handles (Begun id Flush) did None) its placed act none drop h methods nothing = begins_single s earlier id Flush its did refl h methods nothing refl (λ done. refl) act refl
unbegun_held s earlier (Handles (Request id m) did None) its placed act none drop h methods nothing = absurd (not_heard id (calls_in earlier) (not (list_any (ends_asking id) (calls_in earlier))) placed h.unheard)
unbegun_held s earlier (Handles (Finished id) did None) its placed act none drop h methods nothing = absurd (not_heard id (calls_in earlier) (not (list_any (ends_asking id) (calls_in earlier))) placed h.unheard)
unbegun_held s earlier (Handles (Dropped id) did None) its placed act none drop h methods nothing = absurd (self_drop id drop)
unbegun_held s earlier (Handles (Declined id answer) did None) its placed act none drop h methods nothing = absurd (self_drop id drop)

receives_held : (s : Setting) (earlier : List Action) (a : Action) (method : Method) (first : Option (List ℕ)) (is_more : Bool) (its : List (Item CallEnd)) → Placed (calls_in earlier) a
    → IsAction s (record { state = Receives method first is_more; items = its }) a → cut_of a ≡ None → list_any (drops_call (stream_of a)) (calls_of a) ≡ false → HeldReceives earlier (stream_of a) method first is_more its
    → Held s (a ∷ earlier) (stream_of a) (after s (record { state = Receives method first is_more; items = its }) a).state (after s (record { state = Receives method first is_more; items = its }) a).items
receives_held s earlier (Collects id did cut) method first is_more its placed act none drop h = absurd (cc act.state_is)
receives_held s earlier (Continues id cut) method first is_more its placed act none drop h = absurd (cc act.state_is)
receives_held s earlier (Handles call did (Some made)) method first is_more its placed act none drop h = absurd cc
receives_held s earlier (Handles (Begun id m) did None) method first is_more its placed act none drop h = absurd (begun_once earlier id m method [] placed h.methods)
receives_held s earlier (Handles (Request id m) did None) method first is_more its placed act none drop h = receives_request s earlier id method its (eq-eqb id id refl) first is_more m did act h
receives_held s earlier (Handles (Finished id) did None) method None is_more its placed act none drop h = receives_finished s earlier id method its (eq-eqb id id refl) None is_more did act h refl
receives_held s earlier (Handles (Finished id) did None) method (Some m) is_more its placed act none drop h = receives_finished s earlier id method its (eq-eqb id id refl) (Some m) is_more did act h refl
receives_held s earlier (Handles (Dropped id) did None) method first is_more its placed act none drop h = absurd (self_drop id drop)
receives_held s earlier (Handles (Declined id answer) did None) method first is_more its placed act none drop h = absurd (self_drop id drop)

responds_held : (s : Setting) (earlier : List Action) (a : Action) (waiting its : List (Item CallEnd)) → Placed (calls_in earlier) a → IsAction s (record { state = Responds waiting; items = its }) a → cut_of a ≡ None
    → list_any (drops_call (stream_of a)) (calls_of a) ≡ false → HeldDone s earlier (stream_of a) (its ++ waiting) → AreWaiting waiting
    → Held s (a ∷ earlier) (stream_of a) (after s (record { state = Responds waiting; items = its }) a).state (after s (record { state = Responds waiting; items = its }) a).items
responds_held s earlier (Collects id did cut) waiting its placed act none drop h k = absurd (cc act.state_is)
responds_held s earlier (Continues id (Some made)) waiting its placed act none drop h k = absurd cc
responds_held s earlier (Continues id None) waiting its placed act none drop h k = continues s earlier id its (eq-eqb id id refl) waiting k h
responds_held s earlier (Handles call did cut) waiting its placed act none drop h k = absurd (no_more earlier call did cut h.method [] placed h.methods h.finished drop)

over_held : (s : Setting) (earlier : List Action) (a : Action) (its : List (Item CallEnd)) → Placed (calls_in earlier) a → IsAction s (record { state = Over; items = its }) a
    → list_any (drops_call (stream_of a)) (calls_of a) ≡ false → (methods_on (calls_in earlier) (stream_of a) ≡ Modify ∷ []) ⊎ HeldDone s earlier (stream_of a) its
    → Held s (a ∷ earlier) (stream_of a) (after s (record { state = Over; items = its }) a).state (after s (record { state = Over; items = its }) a).items
over_held s earlier a its placed act drop (inl methods) =
    subst (λ (x : CallState). Held s (a ∷ earlier) (stream_of a) x (after s (record { state = Over; items = its }) a).items) (sym (over_stays s its a act))
    (inl (methods_kept a earlier (stream_of a) (Modify ∷ []) methods (no_method earlier a Modify [] placed methods)))
over_held s earlier (Collects id did cut) its placed act drop (inr h) = absurd (cc act.state_is)
over_held s earlier (Continues id cut) its placed act drop (inr h) = absurd (cc act.state_is)
over_held s earlier (Handles call did cut) its placed act drop (inr h) = absurd (no_more earlier call did cut h.method [] placed h.methods h.finished drop)

here_held : (s : Setting) (earlier : List Action) (a : Action) (state : CallState) (its : List (Item CallEnd)) → Placed (calls_in earlier) a → IsAction s (record { state = state; items = its }) a → cut_of a ≡ None
    → list_any (drops_call (stream_of a)) (calls_of a) ≡ false → Holds s earlier (stream_of a) state → Held s earlier (stream_of a) state its
    → Held s (a ∷ earlier) (stream_of a) (after s (record { state = state; items = its }) a).state (after s (record { state = state; items = its }) a).items
here_held s earlier a NotBegun its placed act none drop h k = unbegun_held s earlier a its placed act none drop h k.0 k.1
here_held s earlier a (Modifies session f) its placed act none drop h k =
    modify_held s (a ∷ earlier) (stream_of a) (after s (open_with session f its) a).state (after s (open_with session f its) a).items
    (subst IsModify (sym (open_after s session f its a act (not_late earlier a f placed h.finished))) (behind_modify session (f || is_finish a) (ends_by s a || is_good f a)))
    (methods_kept a earlier (stream_of a) (Modify ∷ []) k (no_method earlier a Modify [] placed k))
here_held s earlier a (Receives method first is_more) its placed act none drop h k = receives_held s earlier a method first is_more its placed act none drop k
here_held s earlier a (Responds waiting) its placed act none drop h k = responds_held s earlier a waiting its placed act none drop k.0 k.1
here_held s earlier a Over its placed act none drop h k = over_held s earlier a its placed act drop k

-- ---- an action for another stream

other_methods : (a : Action) (id : ℕ) → (stream_of a == id) ≡ false → methods_on (calls_of a) id ≡ []
other_methods (Handles (Begun stream method) did cut) id e = ap (λ (b : Bool). cons_option (if b then Some method else None) (let l : List Method = [] in l)) e
other_methods (Handles (Request stream m) did cut) id e = refl
other_methods (Handles (Finished stream) did cut) id e = refl
other_methods (Handles (Dropped stream) did cut) id e = refl
other_methods (Handles (Declined stream answer) did cut) id e = refl
other_methods (Collects stream did cut) id e = refl
other_methods (Continues stream cut) id e = refl

other_messages : (a : Action) (id : ℕ) → (stream_of a == id) ≡ false → messages_on (calls_of a) id ≡ []
other_messages (Handles (Request stream m) did cut) id e = ap (λ (b : Bool). cons_option (if b then Some m else None) (let l : List (List ℕ) = [] in l)) e
other_messages (Handles (Begun stream method) did cut) id e = refl
other_messages (Handles (Finished stream) did cut) id e = refl
other_messages (Handles (Dropped stream) did cut) id e = refl
other_messages (Handles (Declined stream answer) did cut) id e = refl
other_messages (Collects stream did cut) id e = refl
other_messages (Continues stream cut) id e = refl

or_same : (a b : Bool) → b ≡ false → (a || b) ≡ a
or_same true b e = refl
or_same false b e = e

finished_other : (a : Action) (earlier : List Action) (id : ℕ) → (stream_of a == id) ≡ false → is_finished_in (a ∷ earlier) id ≡ is_finished_in earlier id
finished_other a earlier id e = finished_more a earlier id ∙ or_same (is_finished_in earlier id) (list_any (is_finish_of id) (calls_of a)) (other_finish a id e)

done_other : (s : Setting) (earlier : List Action) (a : Action) (id : ℕ) (items : List (Item CallEnd)) → (stream_of a == id) ≡ false → HeldDone s earlier id items → HeldDone s (a ∷ earlier) id items
done_other s earlier a id items e h = record {
  method = h.method;
  methods = methods_kept a earlier id (h.method ∷ []) h.methods (other_methods a id e);
  single = h.single;
  finished = finished_other a earlier id e ∙ h.finished;
  once = subst (λ (l : List Event). IsOnceDone s true (asked_with s h.method (messages_on (calls_in (a ∷ earlier)) id)) l items) (sym (events_other a earlier id e))
      (subst (λ (l : List (List ℕ)). IsOnceDone s true (asked_with s h.method l) (events_on earlier id) items) (sym (messages_kept a earlier id (other_messages a id e))) h.once);
}

other_held : (s : Setting) (earlier : List Action) (a : Action) (id : ℕ) (state : CallState) (its : List (Item CallEnd)) → (stream_of a == id) ≡ false → Held s earlier id state its → Held s (a ∷ earlier) id state its
other_held s earlier a id NotBegun its e k = (methods_kept a earlier id [] k.0 (other_methods a id e), k.1)
other_held s earlier a id (Modifies session f) its e k = methods_kept a earlier id (Modify ∷ []) k (other_methods a id e)
other_held s earlier a id (Receives method first is_more) its e k = record {
  methods = methods_kept a earlier id (method ∷ []) k.methods (other_methods a id e);
  single = k.single;
  first_is = k.first_is ∙ sym (ap first_of (messages_kept a earlier id (other_messages a id e)));
  more_is = k.more_is ∙ sym (ap is_more_of (messages_kept a earlier id (other_messages a id e)));
  nothing = events_other a earlier id e ∙ k.nothing;
  no_items = k.no_items;
  unfinished = finished_other a earlier id e ∙ k.unfinished;
}
other_held s earlier a id (Responds waiting) its e k = (done_other s earlier a id (its ++ waiting) e k.0, k.1)
other_held s earlier a id Over its e (inl methods) = inl (methods_kept a earlier id (Modify ∷ []) methods (other_methods a id e))
other_held s earlier a id Over its e (inr h) = inr (done_other s earlier a id its e h)

nothing_held : (s : Setting) (id : ℕ) → Held s [] id (standing s [] id).state (standing s [] id).items
unfolding standing calls_in
nothing_held s id = (refl, refl)

more_held : (s : Setting) (a : Action) (earlier : List Action) → AreActions s (a ∷ earlier) → Proper (a ∷ earlier) → (id : ℕ) (b : Bool) → (stream_of a == id) ≡ b → is_cut (a ∷ earlier) id ≡ false
    → list_any (drops_call id) (calls_in (a ∷ earlier)) ≡ false → (is_cut earlier id ≡ false → list_any (drops_call id) (calls_in earlier) ≡ false → Held s earlier id (standing s earlier id).state (standing s earlier id).items)
    → Held s (a ∷ earlier) id (standing s (a ∷ earlier) id).state (standing s (a ∷ earlier) id).items
more_held s a earlier h p id false e none drop before =
    subst (λ (st : Standing). Held s (a ∷ earlier) id st.state st.items) (sym (standing_other s a earlier id e))
    (other_held s earlier a id (standing s earlier id).state (standing s earlier id).items e
    (before (sym (ap (list_any (λ (x : Action). is_some (cut_of x))) (on_other a earlier id e)) ∙ none) (no_drop a earlier id drop).0))
more_held s a earlier h p id true e none drop before =
    let at : stream_of a ≡ id = eqb-true (stream_of a) id e in
    let here : (stream_of a == stream_of a) ≡ true = eq-eqb (stream_of a) (stream_of a) refl in
    let cut = no_cut a earlier id e none in
    let drops = no_drop a earlier id drop in
    let parts = actions_parts s a earlier h in
    let st : Standing = standing s earlier (stream_of a) in
    let all = holds s earlier parts.1 (proper_earlier a earlier p) in
    let k : Held s earlier (stream_of a) st.state st.items = subst (λ (n : ℕ). Held s earlier n (standing s earlier n).state (standing s earlier n).items) (sym at) (before cut.1 drops.0) in
    let drop_here : list_any (drops_call (stream_of a)) (calls_of a) ≡ false = ap (λ (n : ℕ). list_any (drops_call n) (calls_of a)) at ∙ drops.1 in
    subst (λ (n : ℕ). Held s (a ∷ earlier) n (standing s (a ∷ earlier) n).state (standing s (a ∷ earlier) n).items) at
    (subst (λ (x : Standing). Held s (a ∷ earlier) (stream_of a) x.state x.items) (sym (standing_here s a earlier (stream_of a) here))
    (here_held s earlier a st.state st.items (placed_parts a earlier p.placed).0 parts.0 cut.0 drop_here (all (stream_of a)) k))

held : (s : Setting) (actions : List Action) → AreActions s actions → Proper actions → (id : ℕ) → is_cut actions id ≡ false → list_any (drops_call id) (calls_in actions) ≡ false
    → Held s actions id (standing s actions id).state (standing s actions id).items
held s [] h p id none drop = nothing_held s id
held s (a ∷ earlier) h p id none drop =
    more_held s a earlier h p id (stream_of a == id) refl none drop (λ k d. held s earlier (actions_parts s a earlier h).1 (proper_earlier a earlier p) id k d)

-- ---- the law

same_method : (a b : Method) → a ∷ [] ≡ b ∷ [] → a ≡ b
same_method a b e = cc

done_once : (s : Setting) (actions : List Action) (id : ℕ) (method : Method) (items : List (Item CallEnd)) → methods_on (calls_in actions) id ≡ method ∷ [] → HeldDone s actions id items
    → IsOnceDone s (is_finished_in actions id) (asked_with s method (messages_on (calls_in actions) id)) (events_on actions id) items
done_once s actions id method items methods h =
    subst (λ (b : Bool). IsOnceDone s b (asked_with s method (messages_on (calls_in actions) id)) (events_on actions id) items) (sym h.finished)
    (subst (λ (m : Method). IsOnceDone s true (asked_with s m (messages_on (calls_in actions) id)) (events_on actions id) items) (same_method h.method method (sym h.methods ∙ methods)) h.once)

no_modify : (method : Method) {l : List Method} → is_single method ≡ true → l ≡ method ∷ [] → l ≡ Modify ∷ [] → ⊥
no_modify Modify single e f = cc
no_modify Get single e f = cc
no_modify Flush single e f = cc

no_methods : {m : Method} {l : List Method} → l ≡ m ∷ [] → l ≡ [] → ⊥
no_methods e f = cc

by_state : (s : Setting) (actions : List Action) (id : ℕ) (method : Method) (state : CallState) (items : List (Item CallEnd)) → methods_on (calls_in actions) id ≡ method ∷ [] → is_single method ≡ true → Held s actions id state items
    → IsOnceDone s (is_finished_in actions id) (asked_with s method (messages_on (calls_in actions) id)) (events_on actions id) (items ++ waiting_in state)
by_state s actions id method NotBegun items methods single k = absurd (no_methods methods k.0)
by_state s actions id method (Modifies session f) items methods single k = absurd (no_modify method single methods k)
by_state s actions id method (Receives m first is_more) items methods single k =
    subst (λ (b : Bool). IsOnceDone s b (asked_with s method (messages_on (calls_in actions) id)) (events_on actions id) (items ++ [])) (sym k.unfinished) (k.nothing, append-nil items ∙ k.no_items)
by_state s actions id method (Responds waiting) items methods single k = done_once s actions id method (items ++ waiting) methods k.0
by_state s actions id method Over items methods single (inl m) = absurd (no_modify method single methods m)
by_state s actions id method Over items methods single (inr h) =
    subst (λ (l : List (Item CallEnd)). IsOnceDone s (is_finished_in actions id) (asked_with s method (messages_on (calls_in actions) id)) (events_on actions id) l) (sym (append-nil items)) (done_once s actions id method items methods h)

pub singles_are_answered : (s : Setting) → SinglesAreAnswered s
singles_are_answered s calls own end actions o u id method methods single none drop =
    by_state s actions id method (standing s actions id).state (standing s actions id).items methods single (held s actions o.each (proper s calls own end actions o u) id none drop)
