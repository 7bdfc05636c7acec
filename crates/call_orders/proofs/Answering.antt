-- What a Modify call is owed for an action.
use Rattle.std.proofs.Common.{◌≡◌, ◌⊎◌, ℕ, ◌≤◌, Bool, true, false, ◌||◌, ◌&&◌, length, List, [], ◌∷◌, ◌++◌, Option, Some, None, refl, sym, ap, ◌∙◌, subst, inl, inr, append-nil, append_assoc, arith, if◌then◌else◌}
use Rattle.std.specs.Prelude.{is_some, map, option_to_list}
use Rattle.std.specs.List.{list_any, flat_map}
use Rattle.std.specs.Option.{option_map}
use Rattle.std.proofs.lemmas.Bool.{or_parts, both_ways}
use Rattle.std.proofs.lemmas.List.{map-append}
use Rattle.proto_schema.specs.declared.schema.MessageKind.TheVariants as message
use Rattle.proto_schema.specs.declared.legal.MessageFault.{MessageFault}
use Rattle.proto_schema.specs.Legal.{first_fault}
use Rattle.grpc_heads.specs.GrpcStatus.{GrpcStatus}
use Rattle.grpc_heads.specs.CallEnd.{CallEnd, Status}
use Rattle.grpc_heads.specs.declared.head.Method.{Method}
use Rattle.h2_exchange.specs.Calls.{Call, Begun, Request, Finished, Dropped, Declined}
use Rattle.h2_exchange.specs.StreamParts.{Item, Message, Finish}
use Rattle.table_model.specs.declared.command.Command.{Command}
use Rattle.table_model.specs.declared.command.Command.TheVariants as command
use Rattle.table_model.specs.declared.reply.Reply.{Reply}
use Rattle.table_model.specs.declared.reply.Reply.TheVariants as reply
use Rattle.table_model.specs.Event.{Event}
use Rattle.call_answers.specs.Ends.{status_by}
use Rattle.call_answers.specs.declared.orders.Setting.{Setting}
use Rattle.call_requests.specs.Asked.{bad_message}
use Rattle.call_orders.specs.Owed.{end_items, ends_call, has_end, items_by, items_for, is_operate, ok}
use Rattle.call_orders.specs.Calls.{Modifies, Action, Handles, Collects, Continues, cut_of, stream_of, events_of, without_leaves, refusal_for, good_end, is_clear, after}
use Rattle.call_orders.specs.Actions.{AreDone, AreDoneUnless, IsAction, calls_in}
use Rattle.call_orders.specs.Laws.{call_ends, ends_by, ends_in, entry_ends, is_finish_of, refuses, responses_to, session_of}
use Rattle.call_orders.proofs.Closing.{done_of}
use Rattle.call_orders.proofs.Doing.{Bears, Each}
use Rattle.call_orders.proofs.Leaving.{and_split, finished_work, refused_work}
use Rattle.call_orders.proofs.Open.{asks_late, is_good, open_with, orders_own}

abbrev pub Responses : Setting → List Event → List (Item CallEnd)
Responses s w = map Message (flat_map (responses_to s) w)

abbrev pub Ends : List Event → List (Item CallEnd)
Ends w = map Finish (flat_map entry_ends w)

-- ---- one entry

end_is : (o : Option GrpcStatus) → end_items o ≡ map Finish (map Status (option_to_list o))
end_is None = refl
end_is (Some status) = refl

-- an entry of a session owes its responses and the end of its reply
entry_items : (s : Setting) (session : ℕ) (c : Command) (r : Reply) → session_of c ≡ Some session → items_for s (record { command = c; reply = r }) ≡ items_by (responses_to s (record { command = c; reply = r })) (status_by (is_operate c) r)
entry_items s session (command.SetParams n asked) r e = refl
entry_items s session (command.Announce n id) r e = refl
entry_items s session (command.Operate n operation now) r e = refl
entry_items s session (command.Collect n) r e = refl
entry_items s session (command.Leave n) r e = absurd cc
entry_items s session (command.Flush by which now) r e = absurd cc
entry_items s session command.Begin r e = absurd cc
entry_items s session (command.Select which kinds) r e = absurd cc
entry_items s session (command.Take worker now) r e = absurd cc
entry_items s session (command.Report job verdict now) r e = absurd cc
entry_items s session command.Halt r e = absurd cc

no_end_of : (ms : List (List ℕ)) → has_end (map Message ms) ≡ false
no_end_of [] = refl
no_end_of (m ∷ ms) = no_end_of ms

has_by : (ms : List (List ℕ)) (o : Option GrpcStatus) → has_end (items_by ms o) ≡ is_some o
has_by [] None = refl
has_by [] (Some status) = refl
has_by (m ∷ ms) o = has_by ms o

ends_is : (s : Setting) (session : ℕ) (e : Event) → session_of e.command ≡ Some session → ends_call s e ≡ is_some (status_by (is_operate e.command) e.reply)
ends_is s session e is = ap has_end (entry_items s session e.command e.reply is) ∙ has_by (responses_to s e) (status_by (is_operate e.command) e.reply)

no_status : (o : Option GrpcStatus) → is_some o ≡ false → map Status (option_to_list o) ≡ []
no_status None e = refl
no_status (Some status) e = absurd cc

-- ---- all entries

none_ends : (s : Setting) (session : ℕ) (w : List Event) → Each (λ (e : Event). Bears (Some session) e.command) w → list_any (ends_call s) w ≡ false → flat_map entry_ends w ≡ []
unfolding Each
none_ends s session [] each e = refl
none_ends s session (d ∷ w) each e =
    let r = or_parts (ends_call s d) (list_any (ends_call s) w) e in
    ap (λ (l : List CallEnd). l ++ flat_map entry_ends w) (no_status (status_by (is_operate d.command) d.reply) (sym (ends_is s session d each.0.0) ∙ r.0)) ∙ none_ends s session w each.1 r.1

first_nothing : (xs ys : List Event) → xs ++ ys ≡ [] → xs ≡ []
first_nothing [] ys e = refl
first_nothing (x ∷ xs) ys e = absurd cc

map_both : {X Y : Type 0} (f : X → Y) (a b : List X) → map f (a ++ b) ≡ map f a ++ map f b
map_both f a b = map-append f a b

entry_is : (s : Setting) (session : ℕ) (e : Event) → session_of e.command ≡ Some session → items_for s e ≡ map Message (responses_to s e) ++ map Finish (entry_ends e)
entry_is s session e is = entry_items s session e.command e.reply is ∙ ap (λ (l : List (Item CallEnd)). map Message (responses_to s e) ++ l) (end_is (status_by (is_operate e.command) e.reply))

entry_last : (s : Setting) (e : Event) (w : List Event) → items_for s e ≡ map Message (responses_to s e) ++ map Finish (entry_ends e) → w ≡ [] → flat_map (items_for s) (e ∷ w) ≡ Responses s (e ∷ w) ++ Ends (e ∷ w)
entry_last s e w is none =
    subst (λ (l : List Event). flat_map (items_for s) (e ∷ l) ≡ Responses s (e ∷ l) ++ Ends (e ∷ l)) (sym none)
    (append-nil (items_for s e) ∙ (is ∙ (ap (λ (l : List (List ℕ)). map Message l ++ map Finish (entry_ends e)) (sym (append-nil (responses_to s e)))
    ∙ ap (λ (l : List CallEnd). map Message (responses_to s e ++ []) ++ map Finish l) (sym (append-nil (entry_ends e))))))

entry_more : (s : Setting) (e : Event) (w : List Event) → items_for s e ≡ map Message (responses_to s e) ++ map Finish (entry_ends e) → entry_ends e ≡ [] → flat_map (items_for s) w ≡ Responses s w ++ Ends w
    → flat_map (items_for s) (e ∷ w) ≡ Responses s (e ∷ w) ++ Ends (e ∷ w)
entry_more s e w is none more =
    let r = map Message (responses_to s e) in
    let one : items_for s e ≡ r = is ∙ (ap (λ (l : List CallEnd). r ++ map Finish l) none ∙ append-nil r) in
    ap (λ (l : List (Item CallEnd)). l ++ flat_map (items_for s) w) one ∙ (ap (λ (l : List (Item CallEnd)). r ++ l) more
    ∙ (sym (append_assoc r (Responses s w) (Ends w)) ∙ (ap (λ (l : List (Item CallEnd)). l ++ Ends w) (sym (map_both Message (responses_to s e) (flat_map (responses_to s) w)))
    ∙ ap (λ (l : List CallEnd). Responses s (e ∷ w) ++ map Finish (l ++ flat_map entry_ends w)) (sym none))))

-- what entries that are done owe: their responses, and one end at most, behind the last
pub record Owes (s : Setting) (w : List Event) : Type 0 where
  pub items : flat_map (items_for s) w ≡ Responses s w ++ Ends w
  pub one : length (flat_map entry_ends w) ≤ 1

one_status : (o : Option GrpcStatus) → length (map Status (option_to_list o)) ≤ 1
one_status None = omega arith
one_status (Some status) = omega arith

owes_step : (s : Setting) (session : ℕ) (e : Event) (w b : List Event) (x : Bool) (more : Type 0) → session_of e.command ≡ Some session → ends_call s e ≡ x → AreDoneUnless x (w ++ b) more → (more → Owes s w) → Owes s (e ∷ w)
owes_step s session e w b true more is x_is h k =
    let none : w ≡ [] = first_nothing w b h in
    record {
      items = entry_last s e w (entry_is s session e is) none;
      one = subst (λ (l : List Event). length (flat_map entry_ends (e ∷ l)) ≤ 1) (sym none) (subst (λ (l : List CallEnd). length l ≤ 1) (sym (append-nil (entry_ends e))) (one_status (status_by (is_operate e.command) e.reply)));
    }
owes_step s session e w b false more is x_is h k =
    let o = k h in
    let none : entry_ends e ≡ [] = no_status (status_by (is_operate e.command) e.reply) (sym (ends_is s session e is) ∙ x_is) in
    record {
      items = entry_more s e w (entry_is s session e is) none o.items;
      one = subst (λ (l : List CallEnd). length (l ++ flat_map entry_ends w) ≤ 1) (sym none) o.one;
    }

owes : (s : Setting) (session : ℕ) (cs : List Command) (w b : List Event) → AreDone s cs (w ++ b) → Each (λ (e : Event). Bears (Some session) e.command) w → Owes s w
unfolding Each
owes s session cs [] b h each = record { items = refl; one = omega arith }
owes s session [] (e ∷ w) b h each = absurd cc
owes s session (c ∷ cs) (e ∷ w) b h each = owes_step s session e w b (ends_call s e) (AreDone s cs (w ++ b)) each.0.0 refl h.1 (λ done. owes s session cs w b done each.1)

pub owes_open : (s : Setting) (session : ℕ) (f : Bool) (its : List (Item CallEnd)) (a : Action) → IsAction s (open_with session f its) a → Owes s (without_leaves (events_of a))
owes_open s session f its a act = let d = done_of s session f its a act in owes s session d.cs (without_leaves (events_of a)) d.behind d.done (orders_own s session f its a act)

-- ---- an action

-- what a call is owed for an action of an open Modify call: the responses of its entries, and an end at most
pub record OwesAction (s : Setting) (earlier : List Action) (a : Action) (session : ℕ) (f : Bool) (its : List (Item CallEnd)) : Type 0 where
  pub items : (after s (open_with session f its) a).items ≡ its ++ (Responses s (without_leaves (events_of a)) ++ map Finish (ends_in s earlier a))
  pub one : length (ends_in s earlier a) ≤ 1

behind_entries : (s : Setting) (its : List (Item CallEnd)) (w : List Event) (more : List (Item CallEnd)) (ends : List CallEnd) → Owes s w → more ≡ map Finish ends
    → its ++ (flat_map (items_for s) w ++ more) ≡ its ++ (Responses s w ++ map Finish (flat_map entry_ends w ++ ends))
behind_entries s its w more ends o e =
    ap (λ (l : List (Item CallEnd)). its ++ l)
    (ap (λ (l : List (Item CallEnd)). l ++ more) o.items ∙ (append_assoc (Responses s w) (Ends w) more
    ∙ ap (λ (l : List (Item CallEnd)). Responses s w ++ l) (ap (λ (l : List (Item CallEnd)). Ends w ++ l) e ∙ sym (map_both Finish (flat_map entry_ends w) ends))))

fault_is : (o : Option MessageFault) → end_items (option_map bad_message o) ≡ map Finish (map (λ (fault : MessageFault). Status (bad_message fault)) (option_to_list o))
fault_is None = refl
fault_is (Some fault) = refl

-- the end that the client brings
refusal_is : (s : Setting) (session : ℕ) (f : Bool) (call : Call Method CallEnd) (did : List Event) (cut : Option ℕ) → asks_late f (Handles call did cut) ≡ false → refusal_for s (Modifies session f) call ≡ map Finish (call_ends s call)
refusal_is s session true (Request id m) did cut late = absurd cc
refusal_is s session false (Request id m) did cut late = fault_is (first_fault s.numbering message.ModifyRequest m)
refusal_is s session true (Begun id method) did cut late = refl
refusal_is s session false (Begun id method) did cut late = refl
refusal_is s session true (Finished id) did cut late = refl
refusal_is s session false (Finished id) did cut late = refl
refusal_is s session true (Dropped id) did cut late = refl
refusal_is s session false (Dropped id) did cut late = refl
refusal_is s session true (Declined id answer) did cut late = refl
refusal_is s session false (Declined id answer) did cut late = refl

good_is : (session : ℕ) (f : Bool) (w : List Event) (b : Bool) → b ≡ f → good_end (Modifies session f) w ≡ map Finish (if b && list_any (λ e. is_clear e.reply) w then Status ok ∷ [] else [])
good_is session true w true e = choose (list_any (λ e. is_clear e.reply) w)
  where
    choose : (c : Bool) → (if c then Finish (Status ok) ∷ [] else []) ≡ map Finish (if c then Status ok ∷ [] else [])
    choose true = refl
    choose false = refl
good_is session false w false e = refl
good_is session true w false e = absurd cc
good_is session false w true e = absurd cc

-- a call brings an end where it refuses, and then gives no command
one_call : (s : Setting) (w : List Event) (call : Call Method CallEnd) → length (flat_map entry_ends w) ≤ 1 → (refuses s call ≡ true → w ≡ []) → length (flat_map entry_ends w ++ call_ends s call) ≤ 1
one_call s w (Begun id method) one none = subst (λ (l : List CallEnd). length l ≤ 1) (sym (append-nil (flat_map entry_ends w))) one
one_call s w (Finished id) one none = subst (λ (l : List CallEnd). length l ≤ 1) (sym (append-nil (flat_map entry_ends w))) one
one_call s w (Dropped id) one none = subst (λ (l : List CallEnd). length l ≤ 1) (sym (append-nil (flat_map entry_ends w))) one
one_call s w (Declined id answer) one none = subst (λ (l : List Event). length (flat_map entry_ends l ++ answer ∷ []) ≤ 1) (sym (none refl)) (omega arith)
one_call s w (Request id m) one none = by (first_fault s.numbering message.ModifyRequest m) refl
  where
    by : (o : Option MessageFault) → first_fault s.numbering message.ModifyRequest m ≡ o → length (flat_map entry_ends w ++ map (λ (fault : MessageFault). Status (bad_message fault)) (option_to_list (first_fault s.numbering message.ModifyRequest m))) ≤ 1
    by None e =
        subst (λ (o : Option MessageFault). length (flat_map entry_ends w ++ map (λ (fault : MessageFault). Status (bad_message fault)) (option_to_list o)) ≤ 1) (sym e)
        (subst (λ (l : List CallEnd). length l ≤ 1) (sym (append-nil (flat_map entry_ends w))) one)
    by (Some fault) e =
        subst (λ (o : Option MessageFault). length (flat_map entry_ends w ++ map (λ (x : MessageFault). Status (bad_message x)) (option_to_list o)) ≤ 1) (sym e)
        (subst (λ (l : List Event). length (flat_map entry_ends l ++ Status (bad_message fault) ∷ []) ≤ 1) (sym (none (ap is_some e))) (omega arith))

-- a Collect that is clear brings no end by its reply
if_one : (b : Bool) → length (if b then Status ok ∷ [] else []) ≤ 1
if_one true = omega arith
if_one false = omega arith

alone : (o : Option GrpcStatus) (f : Bool) → length ((map Status (option_to_list o) ++ []) ++ (if f && false then Status ok ∷ [] else [])) ≤ 1
alone None true = omega arith
alone None false = omega arith
alone (Some status) true = omega arith
alone (Some status) false = omega arith

one_collect : (said : Reply) (session : ℕ) (f : Bool)
    → length (flat_map entry_ends (record { command = command.Collect session; reply = said } ∷ []) ++ (if f && (is_clear said || false) then Status ok ∷ [] else [])) ≤ 1
one_collect (reply.Collected given outstanding) session f = if_one (f && (is_clear (reply.Collected given outstanding) || false))
one_collect said session f = alone (status_by false said) f

pub owes_action : (s : Setting) (earlier : List Action) (a : Action) (session : ℕ) (f : Bool) (its : List (Item CallEnd)) → IsAction s (open_with session f its) a → asks_late f a ≡ false
    → list_any (is_finish_of (stream_of a)) (calls_in earlier) ≡ f → cut_of a ≡ None → OwesAction s earlier a session f its
owes_action s earlier (Continues id cut) session f its act late finished none = absurd (cc act.state_is)
owes_action s earlier (Handles call did (Some made)) session f its act late finished none = absurd cc
owes_action s earlier (Collects id did (Some made)) session f its act late finished none = absurd cc
owes_action s earlier (Handles call did None) session f its act late finished none =
    let w = without_leaves did in
    let o = owes_open s session f its (Handles call did None) act in
    record {
      items = behind_entries s its w (refusal_for s (Modifies session f) call) (call_ends s call) o (refusal_is s session f call did None late);
      one = one_call s w call o.one (λ r. refused_work s session f its (Handles call did None) act late r);
    }
owes_action s earlier (Collects id did None) session f its act late finished none =
    let w = without_leaves did in
    let finishing = list_any (is_finish_of id) (calls_in earlier) in
    let o = owes_open s session f its (Collects id did None) act in
    record {
      items = behind_entries s its w (good_end (Modifies session f) w) (if finishing && list_any (λ e. is_clear e.reply) w then Status ok ∷ [] else []) o (good_is session f w finishing finished);
      one = subst (λ (l : List Event). length (flat_map entry_ends l ++ (if finishing && list_any (λ e. is_clear e.reply) l then Status ok ∷ [] else [])) ≤ 1) (sym act.works_is) (one_collect act.said act.session finishing);
    }

-- ---- where no end comes

no_call_end : (s : Setting) (call : Call Method CallEnd) → refuses s call ≡ false → call_ends s call ≡ []
no_call_end s (Begun id method) e = refl
no_call_end s (Finished id) e = refl
no_call_end s (Dropped id) e = refl
no_call_end s (Declined id answer) e = absurd cc
no_call_end s (Request id m) e = by (first_fault s.numbering message.ModifyRequest m) e
  where
    by : (o : Option MessageFault) → is_some o ≡ false → map (λ (fault : MessageFault). Status (bad_message fault)) (option_to_list o) ≡ []
    by None k = refl
    by (Some fault) k = absurd cc

both_none : (a b : List CallEnd) → a ≡ [] → b ≡ [] → a ++ b ≡ []
both_none a b e f = ap (λ (l : List CallEnd). l ++ b) e ∙ f

-- a call that goes on is owed no end
pub goes_without : (s : Setting) (earlier : List Action) (a : Action) (session : ℕ) (f : Bool) (its : List (Item CallEnd)) → IsAction s (open_with session f its) a
    → list_any (is_finish_of (stream_of a)) (calls_in earlier) ≡ f → (ends_by s a || is_good f a) ≡ false → ends_in s earlier a ≡ []
goes_without s earlier (Continues id cut) session f its act finished e = refl
goes_without s earlier (Handles call did cut) session f its act finished e =
    let a : Action = Handles call did cut in
    let r = or_parts (ends_by s a) (is_good f a) e in
    let p = or_parts (refuses s call || is_some cut) (list_any (ends_call s) (without_leaves did)) r.0 in
    both_none (flat_map entry_ends (without_leaves did)) (call_ends s call) (none_ends s session (without_leaves did) (orders_own s session f its a act) p.1)
    (no_call_end s call (or_parts (refuses s call) (is_some cut) p.0).0)
goes_without s earlier (Collects id did cut) session f its act finished e =
    let a : Action = Collects id did cut in
    let w = without_leaves did in
    let r = or_parts (ends_by s a) (is_good f a) e in
    let p = or_parts (false || is_some cut) (list_any (ends_call s) w) r.0 in
    let c = list_any (λ x. is_clear x.reply) w in
    both_none (flat_map entry_ends w) (if list_any (is_finish_of id) (calls_in earlier) && c then Status ok ∷ [] else []) (none_ends s session w (orders_own s session f its a act) p.1)
    (ap (λ (b : Bool). if b then Status ok ∷ [] else []) (ap (λ (b : Bool). b && c) finished ∙ r.1))

-- ---- where an end comes, or a drop

abbrev pub is_drop : Action → Bool
is_drop (Handles (Dropped id) did cut) = true
is_drop a = false

no_first : (a b : List CallEnd) → a ++ b ≡ [] → (a ≡ []) × (b ≡ [])
no_first [] b e = (refl, e)
no_first (x ∷ a) b e = absurd cc

status_there : (o : Option GrpcStatus) → is_some o ≡ true → map Status (option_to_list o) ≡ [] → ⊥
status_there None e k = cc
status_there (Some status) e k = cc

one_there : (s : Setting) (session : ℕ) (d : Event) (w : List Event) (b : Bool) → session_of d.command ≡ Some session → ends_call s d ≡ b → (b || list_any (ends_call s) w) ≡ true → flat_map entry_ends (d ∷ w) ≡ []
    → (list_any (ends_call s) w ≡ true → flat_map entry_ends w ≡ [] → ⊥) → ⊥
one_there s session d w true is at any k more = status_there (status_by (is_operate d.command) d.reply) (sym (ends_is s session d is) ∙ at) (no_first (entry_ends d) (flat_map entry_ends w) k).0
one_there s session d w false is at any k more = more any (no_first (entry_ends d) (flat_map entry_ends w) k).1

entry_there : (s : Setting) (session : ℕ) (w : List Event) → Each (λ (e : Event). Bears (Some session) e.command) w → list_any (ends_call s) w ≡ true → flat_map entry_ends w ≡ [] → ⊥
unfolding Each
entry_there s session [] each e k = absurd cc
entry_there s session (d ∷ w) each e k = one_there s session d w (ends_call s d) each.0.0 refl e k (λ any none. entry_there s session w each.1 any none)

or_split : (a b : Bool) → (a || b) ≡ true → (a ≡ true) ⊎ (b ≡ true)
or_split true b e = inl refl
or_split false b e = inr e

call_there : (s : Setting) (call : Call Method CallEnd) (did : List Event) → refuses s call ≡ true → call_ends s call ≡ [] → is_drop (Handles call did None) ≡ true
call_there s (Begun id method) did e k = absurd cc
call_there s (Finished id) did e k = absurd cc
call_there s (Dropped id) did e k = refl
call_there s (Declined id answer) did e k = absurd cc
call_there s (Request id m) did e k = absurd (by (first_fault s.numbering message.ModifyRequest m) e k)
  where
    by : (o : Option MessageFault) → is_some o ≡ true → map (λ (fault : MessageFault). Status (bad_message fault)) (option_to_list o) ≡ [] → ⊥
    by None x y = cc
    by (Some fault) x y = cc

-- where a call is over without an end, its client dropped it
pub dropped_without : (s : Setting) (earlier : List Action) (a : Action) (session : ℕ) (f : Bool) (its : List (Item CallEnd)) → IsAction s (open_with session f its) a → cut_of a ≡ None
    → list_any (is_finish_of (stream_of a)) (calls_in earlier) ≡ f → (ends_by s a || is_good f a) ≡ true → ends_in s earlier a ≡ [] → is_drop a ≡ true
dropped_without s earlier (Continues id cut) session f its act none finished e k = absurd (cc act.state_is)
dropped_without s earlier (Handles call did (Some made)) session f its act none finished e k = absurd cc
dropped_without s earlier (Collects id did (Some made)) session f its act none finished e k = absurd cc
dropped_without s earlier (Handles call did None) session f its act none finished e k = over (or_split (ends_by s a) (is_good f a) e)
  where
    a : Action
    a = Handles call did None

    parts : (flat_map entry_ends (without_leaves did) ≡ []) × (call_ends s call ≡ [])
    parts = no_first (flat_map entry_ends (without_leaves did)) (call_ends s call) k

    refused : (refuses s call ≡ true) ⊎ (false ≡ true) → is_drop (Handles call did None) ≡ true
    refused (inl r) = call_there s call did r parts.1
    refused (inr r) = absurd cc

    ended : ((refuses s call || false) ≡ true) ⊎ (list_any (ends_call s) (without_leaves did) ≡ true) → is_drop (Handles call did None) ≡ true
    ended (inl r) = refused (or_split (refuses s call) false r)
    ended (inr any) = absurd (entry_there s session (without_leaves did) (orders_own s session f its (Handles call did None) act) any parts.0)

    no_good : (b : Bool) → f ≡ b → is_good f (Handles call did None) ≡ true → ⊥
    no_good false e1 g = both_ways (f && list_any (λ x. is_clear x.reply) (without_leaves did)) (ap (λ (b : Bool). b && list_any (λ x. is_clear x.reply) (without_leaves did)) e1) g
    no_good true e1 g =
        let work = finished_work s session its call did None (subst (λ (b : Bool). IsAction s (open_with session b its) (Handles call did None)) e1 act) in
        both_ways (list_any (λ x. is_clear x.reply) (without_leaves did)) (ap (list_any (λ x. is_clear x.reply)) work) (and_split f (list_any (λ x. is_clear x.reply) (without_leaves did)) g).1

    over : (ends_by s (Handles call did None) ≡ true) ⊎ (is_good f (Handles call did None) ≡ true) → is_drop (Handles call did None) ≡ true
    over (inl r) = ended (or_split (refuses s call || false) (list_any (ends_call s) (without_leaves did)) r)
    over (inr g) = absurd (no_good f refl g)
dropped_without s earlier (Collects id did None) session f its act none finished e k = absurd (over (or_split (ends_by s (Collects id did None)) (is_good f (Collects id did None)) e))
  where
    w : List Event
    w = without_leaves did

    parts : (flat_map entry_ends (without_leaves did) ≡ []) × ((if list_any (is_finish_of id) (calls_in earlier) && list_any (λ x. is_clear x.reply) (without_leaves did) then Status ok ∷ [] else []) ≡ [])
    parts = no_first (flat_map entry_ends (without_leaves did)) _ k

    never : (b : Bool) → b ≡ true → (if b then Status ok ∷ [] else []) ≡ [] → ⊥
    never true x y = cc
    never false x y = cc

    over : (ends_by s (Collects id did None) ≡ true) ⊎ (is_good f (Collects id did None) ≡ true) → ⊥
    over (inl r) = entry_there s session (without_leaves did) (orders_own s session f its (Collects id did None) act) r parts.0
    over (inr g) = never (list_any (is_finish_of id) (calls_in earlier) && list_any (λ x. is_clear x.reply) (without_leaves did))
        (ap (λ (b : Bool). b && list_any (λ x. is_clear x.reply) (without_leaves did)) finished ∙ g) parts.1
