-- Each command of a session is on one that was begun before it and has not left.
use Rattle.std.proofs.Common.{◌≡◌, ℕ, ◌≤◌, List, [], ◌∷◌, ◌++◌, Option, Some, None, refl, sym, ap, ◌∙◌, subst, inl, inr, append-nil, append_assoc, arith}
use Rattle.std.specs.Prelude.{map}
use Rattle.std.specs.List.{cons_option}
use Rattle.grpc_heads.specs.CallEnd.{CallEnd}
use Rattle.grpc_heads.specs.declared.head.Method.{Method}
use Rattle.h2_exchange.specs.Calls.{Call}
use Rattle.h2_exchange.specs.StreamParts.{Item}
use Rattle.table_model.specs.declared.command.Command.{Command}
use Rattle.table_model.specs.declared.command.Command.TheVariants as command
use Rattle.table_model.specs.Event.{Event}
use Rattle.table_model.specs.Sessions.{leaving_session}
use Rattle.call_answers.specs.declared.orders.Setting.{Setting}
use Rattle.call_orders.specs.Calls.{CallState, NotBegun, Modifies, Receives, Responds, Over, Standing, Action, stream_of, events_of, without_leaves, standing}
use Rattle.call_orders.specs.Actions.{AreActions, IsAction, events_in}
use Rattle.call_orders.specs.Orders.{AllLeave, ConnectionEnd, GoesOn, AllHandled, Halted, NoMemory, Spent, IsOver, IsSpent, begun_by, begun_in, left_by, left_in, staying}
use Rattle.call_orders.specs.Laws.{SessionsAreOwn, count, session_of}
use Rattle.call_orders.proofs.Counts.{count_self, counted, one_stream}
use Rattle.call_orders.proofs.Doing.{Bears, Each, each_first}
use Rattle.call_orders.proofs.Following.{AllHold, proper, stays_there}
use Rattle.call_orders.proofs.Holding.{Holds}
use Rattle.call_orders.proofs.Open.{orders_own, parted}
use Rattle.call_orders.proofs.Ordered.{MayBe, each_map, entries_of, last_of}
use Rattle.call_orders.proofs.Standing.{Proper, actions_parts, holds, proper_earlier}

-- ---- a fact at each entry, in the light of those before it

pub AtEach : (List Event → Event → Type 0) → List Event → List Event → Type 0
AtEach P past [] = Unit {0}
AtEach P past (e ∷ xs) = P past e × AtEach P (past ++ e ∷ []) xs

module _ (P : List Event → Event → Type 0) where
  at_append : (past xs ys : List Event) → AtEach P past xs → AtEach P (past ++ xs) ys → AtEach P past (xs ++ ys)
  unfolding AtEach
  at_append past [] ys h k = subst (λ (l : List Event). AtEach P l ys) (append-nil past) k
  at_append past (e ∷ xs) ys h k = (h.0, at_append (past ++ e ∷ []) xs ys h.1 (subst (λ (l : List Event). AtEach P l ys) (sym (append_assoc past (e ∷ []) xs)) k))

  at_first : (past xs ys : List Event) → AtEach P past (xs ++ ys) → AtEach P past xs
  unfolding AtEach
  at_first past [] ys h = tt
  at_first past (e ∷ xs) ys h = (h.0, at_first (past ++ e ∷ []) xs ys h.1)

  at_split : (past before : List Event) (e : Event) (behind : List Event) → AtEach P past (before ++ e ∷ behind) → P (past ++ before) e
  unfolding AtEach
  at_split past [] e behind h = subst (λ (l : List Event). P l e) (sym (append-nil past)) h.0
  at_split past (d ∷ before) e behind h = subst (λ (l : List Event). P l e) (append_assoc past (d ∷ []) before) (at_split (past ++ d ∷ []) before e behind h.1)

  at_none : (past xs : List Event) → ((l : List Event) (e : Event) → session_of e.command ≡ None → P l e) → Each (λ (e : Event). session_of e.command ≡ None) xs → AtEach P past xs
  unfolding AtEach Each
  at_none past [] f h = tt
  at_none past (e ∷ xs) f h = (f past e h.0, at_none (past ++ e ∷ []) xs f h.1)

-- ---- the session of an entry

abbrev pub Own : List Event → Event → Type 0
Own past e = (session : ℕ) → session_of e.command ≡ Some session → (1 ≤ count session (begun_in past)) × (count session (left_in past) ≡ 0)

own_none : (past : List Event) (e : Event) → session_of e.command ≡ None → Own past e
own_none past e none session is = absurd cc

not_leaving : (c : Command) (session : ℕ) → session_of c ≡ Some session → leaving_session c ≡ None
not_leaving (command.Leave other) session e = absurd cc
not_leaving (command.Operate other operation now) session e = refl
not_leaving (command.Flush by which now) session e = refl
not_leaving command.Begin session e = refl
not_leaving (command.SetParams other asked) session e = refl
not_leaving (command.Announce other id) session e = refl
not_leaving (command.Collect other) session e = refl
not_leaving (command.Select which kinds) session e = refl
not_leaving (command.Take worker now) session e = refl
not_leaving (command.Report job verdict now) session e = refl
not_leaving command.Halt session e = refl

same_session : (a b : ℕ) → Some a ≡ Some b → a ≡ b
same_session a b e = cc

own_works : (session : ℕ) (past w : List Event) → Each (λ (e : Event). Bears (Some session) e.command) w → 1 ≤ count session (begun_in past) → count session (left_in past) ≡ 0 → AtEach Own past w
unfolding AtEach Each
own_works session past [] each begun left = tt
own_works session past (e ∷ w) each begun left =
    let not_left : left_in (e ∷ []) ≡ [] = ap (λ (o : Option ℕ). cons_option o []) (not_leaving e.command session each.0.0) in
    let none : count session (left_in (e ∷ [])) ≡ 0 = ap (count session) not_left in (
      λ (n : ℕ) (is : session_of e.command ≡ Some n). (let same : session ≡ n = same_session session n (sym each.0.0 ∙ is) in
          (subst (λ (k : ℕ). 1 ≤ count k (begun_in past)) same begun, subst (λ (k : ℕ). count k (left_in past) ≡ 0) same left)),
      own_works session (past ++ e ∷ []) w each.1
          (let x = counted begun_by session past (e ∷ []) in omega (arith, x, begun))
          (let y = counted left_by session past (e ∷ []) in omega (arith, y, left, none)),
    )

pub none_of : (xs : List Event) → Each (MayBe None) xs → Each (λ (e : Event). session_of e.command ≡ None) xs
none_of xs h = each_map (MayBe None) (λ (e : Event). session_of e.command ≡ None) either xs h
  where
    either : (e : Event) → MayBe None e → session_of e.command ≡ None
    either e (inl k) = k
    either e (inr k) = k

-- each entry of an action
pub own_action : (s : Setting) (earlier : List Action) (a : Action) (state : CallState) (its : List (Item CallEnd)) → IsAction s (record { state = state; items = its }) a → Proper earlier → AllHold s earlier
    → Holds s earlier (stream_of a) state → AtEach Own (events_in earlier) (events_of a)
own_action s earlier a (Modifies session f) its act p all h =
    let k = parted s session f its a act in
    let w = without_leaves (events_of a) in
    let past = events_in earlier in
    let begun : 1 ≤ count session (begun_in past) = (let x = one_stream begun_by session earlier (stream_of a) in let y = ap (count session) h.begun in let z = count_self session in omega (arith, x, y, z)) in
    subst (AtEach Own past) (sym k.did_is)
    (at_append Own past w k.last (own_works session past w (orders_own s session f its a act) begun (stays_there s earlier p all (stream_of a) session f h))
    (at_none Own (past ++ w) k.last own_none (last_of (Some session) _ k.last k.leaves)))
own_action s earlier a NotBegun its act p all h = at_none Own (events_in earlier) (events_of a) own_none (none_of (events_of a) (entries_of s NotBegun its a act))
own_action s earlier a (Receives method first is_more) its act p all h = at_none Own (events_in earlier) (events_of a) own_none (none_of (events_of a) (entries_of s (Receives method first is_more) its a act))
own_action s earlier a (Responds waiting) its act p all h = at_none Own (events_in earlier) (events_of a) own_none (none_of (events_of a) (entries_of s (Responds waiting) its a act))
own_action s earlier a Over its act p all h = at_none Own (events_in earlier) (events_of a) own_none (none_of (events_of a) (entries_of s Over its a act))

pub own_actions : (s : Setting) (actions : List Action) → AreActions s actions → Proper actions → AtEach Own [] (events_in actions)
unfolding AtEach events_in
own_actions s [] h p = tt
own_actions s (a ∷ earlier) h p =
    let parts = actions_parts s a earlier h in
    let q = proper_earlier a earlier p in
    let all = holds s earlier parts.1 q in
    let st : Standing = standing s earlier (stream_of a) in
    at_append Own [] (events_in earlier) (events_of a) (own_actions s earlier parts.1 q) (own_action s earlier a st.state st.items parts.0 q all (all (stream_of a)))

-- ---- what stands behind the actions

pub leaves_none : (sessions : List ℕ) (last : List Event) → AllLeave sessions last → Each (λ (e : Event). session_of e.command ≡ None) last
unfolding Each
leaves_none sessions [] h = tt
leaves_none [] (e ∷ last) h = absurd cc
leaves_none (n ∷ sessions) (e ∷ last) h = (ap session_of (first_of e.command (command.Leave n) (map (λ (d : Event). d.command) last) (map command.Leave sessions) h), leaves_none sessions last (rest_of e.command (command.Leave n) (map (λ (d : Event). d.command) last) (map command.Leave sessions) h))
  where
    first_of : (c d : Command) (cs ds : List Command) → c ∷ cs ≡ d ∷ ds → c ≡ d
    first_of c d cs ds e = cc

    rest_of : (c d : Command) (cs ds : List Command) → c ∷ cs ≡ d ∷ ds → cs ≡ ds
    rest_of c d cs ds e = cc

spent_own : (s : Setting) (actions : List Action) (rest : List (Call Method CallEnd)) (last : List Event) → Proper actions → AllHold s actions → IsSpent s actions rest last → AtEach Own (events_in actions) last
spent_own s actions rest last p all (inl h) =
    let a : Action = h.1 in
    let st : Standing = standing s actions (stream_of a) in
    at_first Own (events_in actions) last (h.2 ∷ h.3) (subst (AtEach Own (events_in actions)) h.5 (own_action s actions a st.state st.items h.6 p all (all (stream_of a))))
spent_own s actions rest last p all (inr h) =
    at_none Own (events_in actions) last own_none (each_first (λ (e : Event). session_of e.command ≡ None) last (h.1 ∷ h.2) (leaves_none (staying (events_in actions)) (last ++ h.1 ∷ h.2) h.3))

last_own : (s : Setting) (end : ConnectionEnd) (actions : List Action) (rest : List (Call Method CallEnd)) (last : List Event) → Proper actions → AllHold s actions → IsOver s end actions rest last → AtEach Own (events_in actions) last
last_own s GoesOn actions rest last p all h = at_none Own (events_in actions) last own_none (leaves_none [] last (ap (map (λ (e : Event). e.command)) h.2))
last_own s AllHandled actions rest last p all h = at_none Own (events_in actions) last own_none (leaves_none (staying (events_in actions)) last h.2)
last_own s Halted actions rest last p all h = at_none Own (events_in actions) last own_none (leaves_none (staying (events_in actions)) last h.1)
last_own s NoMemory actions rest last p all h = at_none Own (events_in actions) last own_none (leaves_none (staying (events_in actions)) last h.1)
last_own s Spent actions rest last p all h = spent_own s actions rest last p all h

pub sessions_are_own : (s : Setting) → SessionsAreOwn s
sessions_are_own s calls own end actions o u before behind e session is of =
    let p = proper s calls own end actions o u in
    let all = holds s actions o.each p in
    let each : AtEach Own [] own = subst (AtEach Own []) (sym o.did) (at_append Own [] (events_in actions) o.last (own_actions s actions o.each p) (last_own s end actions o.rest o.last p all o.over)) in
    at_split Own [] before e behind (subst (AtEach Own []) is each) session of
