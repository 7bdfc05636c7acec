-- The Leave behind a reply that ends a call, and how often sessions leave.
use Rattle.std.proofs.Common.{◌≡◌, ◌≢◌, ◌⊎◌, ℕ, ◌==◌, ◌≤◌, ◌+◌, Bool, true, false, ◌||◌, filter, List, [], ◌∷◌, ◌++◌, Option, Some, None, refl, sym, ap, ◌∙◌, subst, inl, inr, append_assoc, arith, if◌then◌else◌}
use Rattle.std.specs.Prelude.{not, map}
use Rattle.std.specs.List.{list_any, cons_option}
use Rattle.std.proofs.lemmas.Bool.{or_left, or_right, or_parts, both_ways, eqb-true}
use Rattle.grpc_heads.specs.CallEnd.{CallEnd}
use Rattle.grpc_heads.specs.declared.head.Method.{Method}
use Rattle.h2_exchange.specs.Calls.{Call}
use Rattle.h2_exchange.specs.StreamParts.{Item}
use Rattle.table_model.specs.declared.command.Command.{Command}
use Rattle.table_model.specs.declared.command.Command.TheVariants as command
use Rattle.table_model.specs.declared.reply.Reply.{Reply}
use Rattle.table_model.specs.Event.{Event}
use Rattle.table_model.specs.Sessions.{leaving_session}
use Rattle.call_answers.specs.declared.orders.Setting.{Setting}
use Rattle.call_orders.specs.Owed.{ends_call}
use Rattle.call_orders.specs.Calls.{CallState, NotBegun, Modifies, Receives, Responds, Over, Standing, Action, Handles, Collects, Continues, stream_of, events_of, calls_of, without_leaves, collected, commands_for, cut_by, after, standing}
use Rattle.call_orders.specs.Actions.{AreActions, AreDone, AreDoneUnless, IsAction, Leaves, leave, timeless, calls_in, events_in}
use Rattle.call_orders.specs.Orders.{AllLeave, ConnectionEnd, GoesOn, AllHandled, Halted, NoMemory, Spent, IsOver, begun_by, begun_in, has, left_by, left_in, staying}
use Rattle.call_orders.specs.Laws.{EndsLeave, LeavesAreOnce, count, ends_by, is_stray, session_of}
use Rattle.call_orders.proofs.Counts.{counted, found, of_all, of_stream, one_stream, only_stream, two_streams}
use Rattle.call_orders.proofs.Doing.{Bears, Each, begun_nothing, each_first, in_part, left_nothing, stray_parts}
use Rattle.call_orders.proofs.Following.{AllHold, left_less, next_placed, proper}
use Rattle.call_orders.proofs.Holding.{Holds, Placed, not_late, placed_parts}
use Rattle.call_orders.proofs.Leaving.{AtBehind, Ends, Next, behind_none, behind_split, ends_done, ends_none, next_none}
use Rattle.call_orders.proofs.Open.{Parted, asks_late, is_finish, is_good, open_after, open_with, orders_own, parted, state_behind}
use Rattle.call_orders.proofs.Ordered.{entries_of, last_of}
use Rattle.call_orders.proofs.Owning.{leaves_none, none_of}
use Rattle.call_orders.proofs.Standing.{Proper, actions_parts, holds, proper_earlier}

-- ---- behind a reply that ends the call

some_ends : (s : Setting) (session : ℕ) (f : Bool) (its : List (Item CallEnd)) (a : Action) → IsAction s (open_with session f its) a → asks_late f a ≡ false
    → (k : Parted session (after s (open_with session f its) a).state (events_of a)) → list_any (ends_call s) (without_leaves (events_of a)) ≡ true → (said : Reply) × (k.last ≡ leave session said ∷ [])
some_ends s session f its a act late k any =
    let ended : ends_by s a ≡ true = or_right _ (list_any (ends_call s) (without_leaves (events_of a))) any in
    let over : (after s (open_with session f its) a).state ≡ Over = open_after s session f its a act late ∙ ap (state_behind session (f || is_finish a)) (or_left (ends_by s a) (is_good f a) ended) in
    subst (λ (x : CallState). Leaves (Some session) x k.last) over k.leaves

collect_done : (s : Setting) (e : Event) (c : Command) → timeless e.command ≡ timeless c → AreDone s (c ∷ []) (e ∷ [])
collect_done s e c same = (same, by (ends_call s e))
  where
    by : (b : Bool) → AreDoneUnless b [] (let l : List Event = [] in l ≡ [])
    by true = refl
    by false = refl

-- the commands that are done, with what might stand behind them
pub record DoneOf (s : Setting) (w : List Event) : Type 0 where
  pub cs : List Command
  pub behind : List Event
  pub done : AreDone s cs (w ++ behind)

pub done_of : (s : Setting) (session : ℕ) (f : Bool) (its : List (Item CallEnd)) (a : Action) → IsAction s (open_with session f its) a → DoneOf s (without_leaves (events_of a))
done_of s session f its (Continues id cut) act = absurd (cc act.state_is)
done_of s session f its (Collects id did cut) act = record {
  cs = command.Collect act.session ∷ [];
  behind = [];
  done = subst (λ (l : List Event). AreDone s (command.Collect act.session ∷ []) (l ++ [])) (sym act.works_is) (collect_done s (record { command = command.Collect act.session; reply = act.said }) (command.Collect act.session) refl);
}
done_of s session f its (Handles call did cut) act =
    let part = in_part s cut (open_with session f its) call (commands_for s (Modifies session f) call) (without_leaves did) _ act.made in
    record { cs = commands_for s (Modifies session f) call; behind = part.0; done = part.1 }

ends_open : (s : Setting) (session : ℕ) (f : Bool) (its : List (Item CallEnd)) (a : Action) → IsAction s (open_with session f its) a → asks_late f a ≡ false → AtBehind (Ends s) (events_of a)
ends_open s session f its a act late =
    let k = parted s session f its a act in
    let d = done_of s session f its a act in
    subst (AtBehind (Ends s)) (sym k.did_is)
    (ends_done s session k.last (last_of (Some session) _ k.last k.leaves) d.cs (without_leaves (events_of a)) d.behind d.done (orders_own s session f its a act) (some_ends s session f its a act late k))

pub ends_action : (s : Setting) (earlier : List Action) (a : Action) (state : CallState) (its : List (Item CallEnd)) → IsAction s (record { state = state; items = its }) a → Placed (calls_in earlier) a
    → Holds s earlier (stream_of a) state → AtBehind (Ends s) (events_of a)
ends_action s earlier a (Modifies session f) its act placed h = ends_open s session f its a act (not_late earlier a f placed h.finished)
ends_action s earlier a NotBegun its act placed h = behind_none (Ends s) (ends_none s) (events_of a) (none_of (events_of a) (entries_of s NotBegun its a act))
ends_action s earlier a (Receives method first is_more) its act placed h = behind_none (Ends s) (ends_none s) (events_of a) (none_of (events_of a) (entries_of s (Receives method first is_more) its a act))
ends_action s earlier a (Responds waiting) its act placed h = behind_none (Ends s) (ends_none s) (events_of a) (none_of (events_of a) (entries_of s (Responds waiting) its a act))
ends_action s earlier a Over its act placed h = behind_none (Ends s) (ends_none s) (events_of a) (none_of (events_of a) (entries_of s Over its a act))

next_append : (s : Setting) (end : ConnectionEnd) (xs ys : List Event) → AtBehind (Ends s) xs → AtBehind (Next s end) ys → AtBehind (Next s end) (xs ++ ys)
unfolding AtBehind
next_append s end [] ys h k = k
next_append s end (e ∷ xs) ys h k =
    (λ session is ends. (let l = h.0 session is ends in inl (l.0, ys, ap (λ (x : List Event). x ++ ys) l.1)), next_append s end xs ys h.1 k)

next_all : (s : Setting) (end : ConnectionEnd) (actions : List Action) (ys : List Event) → AreActions s actions → Proper actions → AtBehind (Next s end) ys → AtBehind (Next s end) (events_in actions ++ ys)
unfolding events_in
next_all s end [] ys h p k = k
next_all s end (a ∷ earlier) ys h p k =
    let parts = actions_parts s a earlier h in
    let q = proper_earlier a earlier p in
    let st : Standing = standing s earlier (stream_of a) in
    let one = ends_action s earlier a st.state st.items parts.0 (placed_parts a earlier p.placed).0 (holds s earlier parts.1 q (stream_of a)) in
    subst (AtBehind (Next s end)) (sym (append_assoc (events_in earlier) (events_of a) ys)) (next_all s end earlier (events_of a ++ ys) parts.1 q (next_append s end (events_of a) ys one k))

-- what a Spent call cuts off
cut_tail : (s : Setting) (xs : List Event) (d : Event) (ys : List Event) → AtBehind (Ends s) (xs ++ d ∷ ys) → AtBehind (Next s Spent) xs
unfolding AtBehind
cut_tail s [] d ys h = tt
cut_tail s (e ∷ xs) d ys h = (λ session is ends. inr (refl, first_of xs (h.0 session is ends).1), cut_tail s xs d ys h.1)
  where
    first_of : (l : List Event) {said : Event} → l ++ d ∷ ys ≡ said ∷ [] → l ≡ []
    first_of [] k = refl
    first_of (x ∷ []) k = absurd cc
    first_of (x ∷ y ∷ l) k = absurd cc

next_last : (s : Setting) (end : ConnectionEnd) (actions : List Action) (rest : List (Call Method CallEnd)) (last : List Event) → AllHold s actions
    → ((a : Action) (others : List (Call Method CallEnd)) → rest ≡ calls_of a ++ others → Placed (calls_in actions) a) → IsOver s end actions rest last → AtBehind (Next s end) last
next_last s GoesOn actions rest last all placed h = behind_none (Next s GoesOn) (next_none s GoesOn) last (leaves_none [] last (ap (map (λ (e : Event). e.command)) h.2))
next_last s AllHandled actions rest last all placed h = behind_none (Next s AllHandled) (next_none s AllHandled) last (leaves_none (staying (events_in actions)) last h.2)
next_last s Halted actions rest last all placed h = behind_none (Next s Halted) (next_none s Halted) last (leaves_none (staying (events_in actions)) last h.1)
next_last s NoMemory actions rest last all placed h = behind_none (Next s NoMemory) (next_none s NoMemory) last (leaves_none (staying (events_in actions)) last h.1)
next_last s Spent actions rest last all placed (inl h) =
    let a : Action = h.1 in
    let st : Standing = standing s actions (stream_of a) in
    cut_tail s last h.2 h.3 (subst (AtBehind (Ends s)) h.5 (ends_action s actions a st.state st.items h.6 (placed a h.4 h.7) (all (stream_of a))))
next_last s Spent actions rest last all placed (inr h) =
    behind_none (Next s Spent) (next_none s Spent) last (each_first (λ (e : Event). session_of e.command ≡ None) last (h.1 ∷ h.2) (leaves_none (staying (events_in actions)) (last ++ h.1 ∷ h.2) h.3))

pub ends_leave : (s : Setting) → EndsLeave s
ends_leave s calls own end actions o u before behind e session is of ends =
    let p = proper s calls own end actions o u in
    let all = holds s actions o.each p in
    let each : AtBehind (Next s end) own = subst (AtBehind (Next s end)) (sym o.did)
    (next_all s end actions o.last o.each p (next_last s end actions o.rest o.last all (λ a others r. next_placed s calls own end actions o u a others r) o.over)) in
    behind_split (Next s end) before e behind (subst (AtBehind (Next s end)) is each) session of ends

-- ---- how often sessions leave

-- no more leave than were begun
less_all : (s : Setting) (actions : List Action) → Proper actions → AllHold s actions → (k : ℕ) → count k (left_in (events_in actions)) ≤ count k (begun_in (events_in actions))
less_all s actions p all k = by (found begun_by k actions)
  where
    less : (id : ℕ) → of_stream left_by k actions id ≤ of_stream begun_by k actions id
    less id = left_less s actions k id (standing s actions id).state (all id)

    by : ((id : ℕ) × (1 ≤ of_stream begun_by k actions id)) ⊎ ((id : ℕ) → of_stream begun_by k actions id ≡ 0) → of_all left_by k actions ≤ of_all begun_by k actions
    by (inl one) =
        let alone = only_stream left_by k actions one.0 (λ (j : ℕ) (apart : (j == one.0) ≡ false).
        (let x = two_streams begun_by k actions j one.0 apart in let y = p.differ k in let z = less j in let w = one.1 in omega (arith, x, y, z, w))) in
        let x = less one.0 in
        let y = one_stream begun_by k actions one.0 in
        omega (arith, alone, x, y)
    by (inr none) =
        let alone = only_stream left_by k actions 0 (λ (j : ℕ) (apart : (j == 0) ≡ false). (let x = less j in let y = none j in omega (arith, x, y))) in
        let x = less 0 in
        let y = none 0 in
        omega (arith, alone, x, y)

leaves_are : (sessions : List ℕ) (last : List Event) → AllLeave sessions last → left_in last ≡ sessions
leaves_are [] [] h = refl
leaves_are (n ∷ sessions) [] h = absurd cc
leaves_are [] (e ∷ last) h = absurd cc
leaves_are (n ∷ sessions) (e ∷ last) h =
    ap (λ (c : Command). cons_option (leaving_session c) (left_in last)) (first_of e.command (command.Leave n) (map (λ (d : Event). d.command) last) (map command.Leave sessions) h)
    ∙ ap (λ (l : List ℕ). n ∷ l) (leaves_are sessions last (rest_of e.command (command.Leave n) (map (λ (d : Event). d.command) last) (map command.Leave sessions) h))
  where
    first_of : (c d : Command) (cs ds : List Command) → c ∷ cs ≡ d ∷ ds → c ≡ d
    first_of c d cs ds k = cc

    rest_of : (c d : Command) (cs ds : List Command) → c ∷ cs ≡ d ∷ ds → cs ≡ ds
    rest_of c d cs ds k = cc

-- whether a number stands in a list, and how often
none_there : (k : ℕ) (l : List ℕ) → has l k ≡ false → count k l ≡ 0
none_there k [] e = refl
none_there k (x ∷ xs) e =
    let r = or_parts (x == k) (has xs k) e in
    let one : ◌≡◌ {A = ℕ} (if x == k then 1 else 0) 0 = ap (λ (b : Bool). if b then 1 else 0) r.0 in
    let more = none_there k xs r.1 in
    omega (arith, one, more)

one_there : (k x : ℕ) (xs : List ℕ) (b : Bool) → (x == k) ≡ b → (has xs k ≡ true → 1 ≤ count k xs) → (b || has xs k) ≡ true → 1 ≤ count k (x ∷ xs)
one_there k x xs true e more h = let one : ◌≡◌ {A = ℕ} (if x == k then 1 else 0) 1 = ap (λ (b : Bool). if b then 1 else 0) e in omega (arith, one)
one_there k x xs false e more h = let m = more h in omega (arith, m)

some_there : (k : ℕ) (l : List ℕ) → has l k ≡ true → 1 ≤ count k l
some_there k [] e = absurd cc
some_there k (x ∷ xs) e = one_there k x xs (x == k) refl (some_there k xs) e

kept_step : (k x : ℕ) (fs xs : List ℕ) (b c h : Bool) → (x == k) ≡ b → (b ≡ true → c ≡ h) → count k fs ≡ (if h then 0 else count k xs) → count k (if not c then x ∷ fs else fs) ≡ (if h then 0 else count k (x ∷ xs))
kept_step k x fs xs true true true e same before = before
kept_step k x fs xs true true false e same before = absurd (both_ways true (same refl) refl)
kept_step k x fs xs true false true e same before = absurd (both_ways true (sym (same refl)) refl)
kept_step k x fs xs true false false e same before = omega (arith, before)
kept_step k x fs xs false true true e same before = before
kept_step k x fs xs false true false e same before = let none : ◌≡◌ {A = ℕ} (if x == k then 1 else 0) 0 = ap (λ (b : Bool). if b then 1 else 0) e in omega (arith, none, before)
kept_step k x fs xs false false true e same before = let none : ◌≡◌ {A = ℕ} (if x == k then 1 else 0) 0 = ap (λ (b : Bool). if b then 1 else 0) e in omega (arith, none, before)
kept_step k x fs xs false false false e same before = omega (arith, before)

zero_anyway : (b : Bool) → ◌≡◌ {A = ℕ} 0 (if b then 0 else 0)
zero_anyway true = refl
zero_anyway false = refl

count_kept : (k : ℕ) (l xs : List ℕ) → count k (filter (λ x. not (has l x)) xs) ≡ (if has l k then 0 else count k xs)
count_kept k l [] = zero_anyway (has l k)
count_kept k l (x ∷ xs) =
    kept_step k x (filter (λ (y : ℕ). not (has l y)) xs) xs (x == k) (has l x) (has l k) refl (λ e. ap (has l) (eqb-true x k e)) (count_kept k l xs)

-- with the Leaves of those that stayed, as many leave as were begun
balance : (k b : ℕ) (l : List ℕ) (h : Bool) → has l k ≡ h → count k l ≤ b → b ≤ 1 → count k l + (if h then 0 else b) ≡ b
balance k b l true e less one = let some = some_there k l e in omega (arith, some)
balance k b l false e less one = let none = none_there k l e in omega (arith, none)

leave_begins : (sessions : List ℕ) (last : List Event) → AllLeave sessions last → Each (λ (e : Event). Bears None e.command) last
unfolding Each
leave_begins sessions [] h = tt
leave_begins [] (e ∷ last) h = absurd cc
leave_begins (n ∷ sessions) (e ∷ last) h = (
  subst (Bears None) (sym (first_of e.command (command.Leave n) (map (λ (d : Event). d.command) last) (map command.Leave sessions) h)) (refl, refl),
  leave_begins sessions last (rest_of e.command (command.Leave n) (map (λ (d : Event). d.command) last) (map command.Leave sessions) h),
)
  where
    first_of : (c d : Command) (cs ds : List Command) → c ∷ cs ≡ d ∷ ds → c ≡ d
    first_of c d cs ds k = cc

    rest_of : (c d : Command) (cs ds : List Command) → c ∷ cs ≡ d ∷ ds → cs ≡ ds
    rest_of c d cs ds k = cc

-- what stands behind the actions, counted
pub record Counted (end : ConnectionEnd) (actions : List Action) (last : List Event) (k : ℕ) : Type 0 where
  pub less : count k (left_in (events_in actions)) + count k (left_in last) ≤ count k (begun_in (events_in actions)) + count k (begun_in last)
  pub all : end ≢ GoesOn → end ≢ Spent → count k (left_in (events_in actions)) + count k (left_in last) ≡ count k (begun_in (events_in actions)) + count k (begun_in last)

-- ---- a Leave is the last entry of an action

some_or_none : (o : Option ℕ) (state : CallState) (last : List Event) → Leaves o state last → (last ≡ []) ⊎ ((e : Event) × (last ≡ e ∷ []))
some_or_none None state last h = inl h
some_or_none (Some session) Over last h = inr (leave session h.0, h.1)
some_or_none (Some session) NotBegun last h = inl h
some_or_none (Some session) (Modifies other f) last h = inl h
some_or_none (Some session) (Receives method first is_more) last h = inl h
some_or_none (Some session) (Responds waiting) last h = inl h

pub record Shape (did : List Event) : Type 0 where
  pub last : List Event
  pub did_is : did ≡ without_leaves did ++ last
  pub one : (last ≡ []) ⊎ ((e : Event) × (last ≡ e ∷ []))

shape : (s : Setting) (st : Standing) (a : Action) → IsAction s st a → Shape (events_of a)
shape s st (Handles call did cut) h = record { last = h.last; did_is = h.did_is; one = some_or_none _ _ h.last h.leaves }
shape s st (Collects id did cut) h = record { last = h.last; did_is = h.did_is ∙ ap (λ (l : List Event). l ++ h.last) (sym h.works_is); one = some_or_none (Some h.session) (cut_by cut (collected s st (without_leaves did))).state h.last h.leaves }
shape s st (Continues id cut) h = record { last = []; did_is = refl; one = inl refl }

no_left : (o : Option ℕ) (l : List ℕ) → cons_option o l ≡ [] → (o ≡ None) × (l ≡ [])
no_left None l e = (refl, e)
no_left (Some n) l e = absurd cc

-- what stands before the last entry ends no session
before_last : (xs : List Event) (e : Event) (ys w last : List Event) → xs ++ e ∷ ys ≡ w ++ last → (last ≡ []) ⊎ ((d : Event) × (last ≡ d ∷ [])) → left_in w ≡ [] → left_in xs ≡ []
before_last [] e ys w last is one none = refl
before_last (x ∷ xs) e ys [] last is (inl empty) none = absurd cc
before_last (x ∷ xs) e ys [] last is (inr d) none = absurd (alone xs (is ∙ d.1))
  where
    alone : (l : List Event) {z : Event} → x ∷ (l ++ e ∷ ys) ≡ z ∷ [] → ⊥
    alone [] k = cc
    alone (y ∷ l) k = cc
before_last (x ∷ xs) e ys (v ∷ w) last is one none =
    let parts = no_left (left_by v) (left_in w) none in
    let head : x ≡ v = first_of x v (xs ++ e ∷ ys) (w ++ last) is in
    let rest = before_last xs e ys w last (rest_of x v (xs ++ e ∷ ys) (w ++ last) is) one parts.1 in
    ap (λ (d : Event). cons_option (left_by d) (left_in xs)) head ∙ (ap (λ (o : Option ℕ). cons_option o (left_in xs)) parts.0 ∙ rest)
  where
    first_of : (c d : Event) (cs ds : List Event) → c ∷ cs ≡ d ∷ ds → c ≡ d
    first_of c d cs ds k = cc

    rest_of : (c d : Event) (cs ds : List Event) → c ∷ cs ≡ d ∷ ds → cs ≡ ds
    rest_of c d cs ds k = cc

module _ (s : Setting) (actions : List Action) (p : Proper actions) (all : AllHold s actions) (k : ℕ) where
  all_left : (end : ConnectionEnd) (last : List Event) → list_any is_stray last ≡ false → AllLeave (staying (events_in actions)) last → Counted end actions last k
  all_left end last plain h =
      let left : count k (left_in last) ≡ (if has (left_in (events_in actions)) k then 0 else count k (begun_in (events_in actions))) =
      ap (count k) (leaves_are (staying (events_in actions)) last h) ∙ count_kept k (left_in (events_in actions)) (begun_in (events_in actions)) in
      let even = balance k (count k (begun_in (events_in actions))) (left_in (events_in actions)) (has (left_in (events_in actions)) k) refl (less_all s actions p all k) (p.differ k) in
      let begun : count k (begun_in last) ≡ 0 = ap (count k) (begun_nothing None last (leave_begins (staying (events_in actions)) last h) plain) in
      record {
        less = omega (arith, left, even, begun);
        all = λ goes spent. omega (arith, left, even, begun);
      }

  -- the first of the Leaves
  first_left : (last more : List Event) → AllLeave (staying (events_in actions)) (last ++ more) → Counted Spent actions last k
  first_left last more h =
      let left : count k (left_in (last ++ more)) ≡ (if has (left_in (events_in actions)) k then 0 else count k (begun_in (events_in actions))) =
      ap (count k) (leaves_are (staying (events_in actions)) (last ++ more) h) ∙ count_kept k (left_in (events_in actions)) (begun_in (events_in actions)) in
      let parts = counted left_by k last more in
      let even = balance k (count k (begun_in (events_in actions))) (left_in (events_in actions)) (has (left_in (events_in actions)) k) refl (less_all s actions p all k) (p.differ k) in
      record {
        less = omega (arith, left, parts, even);
        all = λ goes spent. absurd (spent refl);
      }

  counted_last : (end : ConnectionEnd) (rest : List (Call Method CallEnd)) (last : List Event) → list_any is_stray last ≡ false → IsOver s end actions rest last → Counted end actions last k
  counted_last GoesOn rest last plain h =
      let none : count k (left_in last) ≡ 0 = ap (λ (l : List Event). count k (left_in l)) h.2 in
      let less = less_all s actions p all k in
      record { less = omega (arith, none, less); all = λ goes spent. absurd (goes refl) }
  counted_last AllHandled rest last plain h = all_left AllHandled last plain h.2
  counted_last Halted rest last plain h = all_left Halted last plain h.1
  counted_last NoMemory rest last plain h = all_left NoMemory last plain h.1
  counted_last Spent rest last plain (inl h) =
      let a : Action = h.1 in
      let f = shape s (standing s actions (stream_of a)) a h.6 in
      let none : count k (left_in last) ≡ 0 = ap (count k) (before_last last h.2 h.3 (without_leaves (events_of a)) f.last (sym h.5 ∙ f.did_is) f.one (left_nothing (events_of a))) in
      let less = less_all s actions p all k in
      record { less = omega (arith, none, less); all = λ goes spent. absurd (spent refl) }
  counted_last Spent rest last plain (inr h) = first_left last (h.1 ∷ h.2) h.3

pub leaves_are_once : (s : Setting) → LeavesAreOnce s
leaves_are_once s calls own end actions o u session =
    let p = proper s calls own end actions o u in
    let plain = (stray_parts (events_in actions) o.last (subst (λ (l : List Event). list_any is_stray l ≡ false) o.did u.begins)).1 in
    let k = counted_last s actions p (holds s actions o.each p) session end o.rest o.last plain o.over in
    let left : count session (left_in own) ≡ count session (left_in (events_in actions)) + count session (left_in o.last) =
    ap (λ (l : List Event). count session (left_in l)) o.did ∙ counted left_by session (events_in actions) o.last in
    let begun : count session (begun_in own) ≡ count session (begun_in (events_in actions)) + count session (begun_in o.last) =
    ap (λ (l : List Event). count session (begun_in l)) o.did ∙ counted begun_by session (events_in actions) o.last in
    let less = k.less in
    let most = u.differ session in
    (omega (arith, left, begun, less, most), omega (arith, left, begun, less), λ goes spent. (let even = k.all goes spent in omega (arith, left, begun, even)))
