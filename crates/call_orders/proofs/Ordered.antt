-- Laws on the commands of calls.
use Rattle.std.proofs.Common.{◌≡◌, ◌⊎◌, ℕ, pos, Bool, true, false, List, [], ◌∷◌, ◌++◌, Option, Some, None, refl, sym, ap, ◌∙◌, subst, inl, inr}
use Rattle.std.specs.Prelude.{is_some}
use Rattle.proto_schema.specs.declared.schema.MessageKind.TheVariants as message
use Rattle.proto_schema.specs.declared.legal.MessageFault.{MessageFault}
use Rattle.proto_schema.specs.Legal.{first_fault}
use Rattle.grpc_heads.specs.CallEnd.{CallEnd}
use Rattle.grpc_heads.specs.declared.head.Method.{Method}
use Rattle.grpc_heads.specs.declared.head.Method.TheVariants.{Modify, Get, Flush}
use Rattle.h2_exchange.specs.Calls.{Call, Begun, Request, Finished, Dropped, Declined}
use Rattle.h2_exchange.specs.StreamParts.{Item}
use Rattle.table_model.specs.declared.command.Command.{Command}
use Rattle.table_model.specs.declared.command.Command.TheVariants as command
use Rattle.table_model.specs.Event.{Event}
use Rattle.call_answers.specs.Orders.{orders_of, commands_of}
use Rattle.call_answers.specs.declared.orders.Setting.{Setting}
use Rattle.call_orders.specs.Calls.{CallState, NotBegun, Modifies, Receives, Responds, Over, Standing, Action, Handles, Collects, Continues, stream_of, events_of, without_leaves, commands_for, handled, unless_fault, standing}
use Rattle.call_orders.specs.Actions.{AreDone, AreDoneOrCut, IsAction, IsHandled, Leaves, leave, session_in}
use Rattle.call_orders.specs.Laws.{NothingElseOrders, RequestsAreDone, is_bad, session_of}
use Rattle.call_orders.proofs.Doing.{Bears, Each, Timeless, each_append, each_at, each_none, each_one, each_part, in_part, session_timeless}
use Rattle.call_orders.proofs.Following.{at_split, earlier_holds, is_open, opened}
use Rattle.call_orders.proofs.Holding.{Holds, HoldsOpen, not_late, placed_parts}
use Rattle.call_orders.proofs.Idle.{Idle, plain_commands}
use Rattle.call_orders.proofs.Open.{asks_late, orders_own, parted}
use Rattle.call_orders.proofs.Standing.{proper_earlier}

-- ---- a message that is done

whole : (s : Setting) (cut : Option ℕ) (st : Standing) (call : Call Method CallEnd) (cs : List Command) (done : List Event) (items : List (Item CallEnd)) → AreDoneOrCut s cut st call cs done items → cut ≡ None → AreDone s cs done
whole s None st call cs done items h e = h
whole s (Some made) st call cs done items h e = absurd cc

readable : (s : Setting) (session : ℕ) (m : List ℕ) (o : Option MessageFault) → is_some o ≡ false → unless_fault o (commands_of session (pos 0) (orders_of s m)) ≡ commands_of session (pos 0) (orders_of s m)
readable s session m None e = refl
readable s session m (Some fault) e = absurd cc

asked_of : (s : Setting) (session : ℕ) (f : Bool) (id : ℕ) (m : List ℕ) (did : List Event) (cut : Option ℕ) → asks_late f (Handles (Request id m) did cut) ≡ false → is_bad s m ≡ false
    → commands_for s (Modifies session f) (Request id m) ≡ commands_of session (pos 0) (orders_of s m)
asked_of s session true id m did cut late good = absurd cc
asked_of s session false id m did cut late good = readable s session m (first_fault s.numbering message.ModifyRequest m) good

pub requests_are_done : (s : Setting) → RequestsAreDone s
requests_are_done s calls own end actions o u later earlier id session m did cut e is_going good =
    let a : Action = Handles (Request id m) did cut in
    let k = at_split s calls own end actions o u later a earlier e in
    let at = opened s earlier (earlier_holds s a earlier k) id session is_going in
    let late = not_late earlier a at.f (placed_parts a earlier k.proper_with.placed).0 at.finished in
    let st : Standing = standing s earlier id in
    let same : commands_for s st.state (Request id m) ≡ commands_of session (pos 0) (orders_of s m) =
    ap (λ (x : CallState). commands_for s x (Request id m)) at.state_is ∙ asked_of s session at.f id m did cut late good in
    let items = (handled s st (Request id m) (without_leaves did)).items in
    let made = subst (λ (cs : List Command). AreDoneOrCut s cut st (Request id m) cs (without_leaves did) items) same k.act.made in (
      in_part s cut st (Request id m) (commands_of session (pos 0) (orders_of s m)) (without_leaves did) items made,
      λ none. whole s cut st (Request id m) (commands_of session (pos 0) (orders_of s m)) (without_leaves did) items made none,
    )

-- ---- whose commands they are

abbrev pub IsOf : Option ℕ → Command → Type 0
IsOf o c = session_of c ≡ o

of_timeless : (o : Option ℕ) → Timeless (IsOf o)
of_timeless o = record { carried = λ c d same h. sym (session_timeless c) ∙ (ap session_of same ∙ (session_timeless d ∙ h)) }

pub each_map : {A : Type 0} (P Q : A → Type 0) → ((x : A) → P x → Q x) → (xs : List A) → Each P xs → Each Q xs
unfolding Each
each_map P Q f [] h = tt
each_map P Q f (x ∷ xs) h = (f x h.0, each_map P Q f xs h.1)

-- of the session of the call, or of none
abbrev pub MayBe : Option ℕ → Event → Type 0
MayBe o e = (session_of e.command ≡ o) ⊎ (session_of e.command ≡ None)

pub last_of : (o : Option ℕ) (state : CallState) (last : List Event) → Leaves o state last → Each (λ (e : Event). session_of e.command ≡ None) last
last_of None state last h = subst (Each (λ (e : Event). session_of e.command ≡ None)) (sym h) (each_none (λ (e : Event). session_of e.command ≡ None))
last_of (Some session) Over last h = subst (Each (λ (e : Event). session_of e.command ≡ None)) (sym h.1) (each_one (λ (e : Event). session_of e.command ≡ None) (leave session h.0) refl)
last_of (Some session) NotBegun last h = subst (Each (λ (e : Event). session_of e.command ≡ None)) (sym h) (each_none (λ (e : Event). session_of e.command ≡ None))
last_of (Some session) (Modifies other f) last h = subst (Each (λ (e : Event). session_of e.command ≡ None)) (sym h) (each_none (λ (e : Event). session_of e.command ≡ None))
last_of (Some session) (Receives method first is_more) last h = subst (Each (λ (e : Event). session_of e.command ≡ None)) (sym h) (each_none (λ (e : Event). session_of e.command ≡ None))
last_of (Some session) (Responds waiting) last h = subst (Each (λ (e : Event). session_of e.command ≡ None)) (sym h) (each_none (λ (e : Event). session_of e.command ≡ None))

commands_idle : (s : Setting) (state : CallState) (call : Call Method CallEnd) → Idle state → Each (IsOf None) (commands_for s state call)
commands_idle s state call h = each_map (Bears None) (IsOf None) (λ c k. k.0) (commands_for s state call) (plain_commands s state call h)

unbegun_commands : (s : Setting) (call : Call Method CallEnd) → Each (IsOf None) (commands_for s NotBegun call)
unbegun_commands s (Begun id Modify) = each_one (IsOf None) command.Begin refl
unbegun_commands s (Begun id Get) = each_none (IsOf None)
unbegun_commands s (Begun id Flush) = each_none (IsOf None)
unbegun_commands s (Request id m) = each_none (IsOf None)
unbegun_commands s (Finished id) = each_none (IsOf None)
unbegun_commands s (Dropped id) = each_none (IsOf None)
unbegun_commands s (Declined id answer) = each_none (IsOf None)

joined : (o : Option ℕ) (w last did : List Event) → did ≡ w ++ last → Each (λ (e : Event). IsOf o e.command) w → Each (λ (e : Event). session_of e.command ≡ None) last → Each (MayBe o) did
joined o w last did e first rest =
    subst (Each (MayBe o)) (sym e)
    (each_append (MayBe o) w last (each_map (λ (x : Event). IsOf o x.command) (MayBe o) (λ x h. inl h) w first) (each_map (λ (x : Event). session_of x.command ≡ None) (MayBe o) (λ x h. inr h) last rest))

handled_of : (s : Setting) (st : Standing) (call : Call Method CallEnd) (did : List Event) (cut : Option ℕ) (o : Option ℕ) → Each (IsOf o) (commands_for s st.state call) → IsHandled s st call did cut → Each (MayBe o) did
handled_of s st call did cut o each h =
    joined o (without_leaves did) h.last did h.did_is
    (each_part s (IsOf o) (of_timeless o) (commands_for s st.state call) (without_leaves did) (in_part s cut st call (commands_for s st.state call) (without_leaves did) _ h.made) each)
    (last_of _ _ h.last h.leaves)

-- each entry of an action is of the session of its call, or of none
pub entries_of : (s : Setting) (state : CallState) (its : List (Item CallEnd)) (a : Action) → IsAction s (record { state = state; items = its }) a → Each (MayBe (session_in state)) (events_of a)
entries_of s (Modifies session f) its a h =
    let k = parted s session f its a h in
    joined (Some session) (without_leaves (events_of a)) k.last (events_of a) k.did_is
    (each_map (λ (x : Event). Bears (Some session) x.command) (λ (x : Event). IsOf (Some session) x.command) (λ x b. b.0) (without_leaves (events_of a)) (orders_own s session f its a h))
    (last_of (Some session) _ k.last k.leaves)
entries_of s state its (Continues id cut) h = each_none (MayBe (session_in state))
entries_of s NotBegun its (Collects id did cut) h = absurd (cc h.state_is)
entries_of s (Receives method first is_more) its (Collects id did cut) h = absurd (cc h.state_is)
entries_of s (Responds waiting) its (Collects id did cut) h = absurd (cc h.state_is)
entries_of s Over its (Collects id did cut) h = absurd (cc h.state_is)
entries_of s NotBegun its (Handles call did cut) h = handled_of s _ call did cut None (unbegun_commands s call) h
entries_of s (Receives method first is_more) its (Handles call did cut) h = handled_of s _ call did cut None (commands_idle s (Receives method first is_more) call tt) h
entries_of s (Responds waiting) its (Handles call did cut) h = handled_of s _ call did cut None (commands_idle s (Responds waiting) call tt) h
entries_of s Over its (Handles call did cut) h = handled_of s _ call did cut None (commands_idle s Over call tt) h

some_same : (a b : ℕ) → Some a ≡ Some b → a ≡ b
some_same a b e = cc

-- where an entry of a session stands
pub session_at : (s : Setting) (earlier : List Action) (id session : ℕ) (state : CallState) (o : Option ℕ) → Holds s earlier id state → o ≡ Some session → (o ≡ session_in state) ⊎ (o ≡ None)
    → (f : Bool) × (state ≡ Modifies session f) × HoldsOpen s earlier id session f
session_at s earlier id session state o h e (inr none) = absurd cc
session_at s earlier id session (Modifies other f) o h e (inl same) =
    let n : other ≡ session = some_same other session (sym same ∙ e) in
    (f, ap (λ (x : ℕ). Modifies x f) n, subst (λ (x : ℕ). HoldsOpen s earlier id x f) n h)
session_at s earlier id session NotBegun o h e (inl same) = absurd cc
session_at s earlier id session (Receives method first is_more) o h e (inl same) = absurd cc
session_at s earlier id session (Responds waiting) o h e (inl same) = absurd cc
session_at s earlier id session Over o h e (inl same) = absurd cc

pub nothing_else_orders : (s : Setting) → NothingElseOrders s
nothing_else_orders s calls own end actions o u later earlier a before behind e session split did_is of =
    let k = at_split s calls own end actions o u later a earlier split in
    let st : Standing = standing s earlier (stream_of a) in
    let all = earlier_holds s a earlier k in
    let each = entries_of s st.state st.items a k.act in
    let at = each_at (MayBe (session_in st.state)) before e behind (subst (Each (MayBe (session_in st.state))) did_is each) in
    let where_is = session_at s earlier (stream_of a) session st.state (session_of e.command) (all (stream_of a)) of at in
    is_open s earlier (proper_earlier a earlier k.proper_with) all (stream_of a) session where_is.0 where_is.2
