-- Laws on the Leaves of sessions.
use Rattle.std.proofs.Common.{◌≡◌, ◌⊎◌, ℕ, pos, Bool, true, false, ◌||◌, ◌&&◌, List, [], ◌∷◌, ◌++◌, Option, Some, None, refl, sym, ap, ◌∙◌, subst, inl, inr}
use Rattle.std.specs.Prelude.{is_some}
use Rattle.std.specs.List.{list_any}
use Rattle.std.proofs.lemmas.Bool.{or_left, or_right, both_ways}
use Rattle.std.proofs.lemmas.List.Folds.{list_any-append}
use Rattle.proto_schema.specs.declared.schema.MessageKind.TheVariants as message
use Rattle.proto_schema.specs.declared.legal.MessageFault.{MessageFault}
use Rattle.proto_schema.specs.Legal.{first_fault}
use Rattle.grpc_heads.specs.CallEnd.{CallEnd}
use Rattle.grpc_heads.specs.declared.head.Method.{Method}
use Rattle.h2_exchange.specs.Calls.{Call, Begun, Request, Finished, Dropped, Declined}
use Rattle.h2_exchange.specs.StreamParts.{Item}
use Rattle.table_model.specs.declared.command.Command.{Command}
use Rattle.table_model.specs.declared.command.Command.TheVariants as command
use Rattle.table_model.specs.declared.reply.Reply.{Reply}
use Rattle.table_model.specs.Event.{Event}
use Rattle.call_answers.specs.Orders.{orders_of, commands_of}
use Rattle.call_answers.specs.declared.orders.Setting.{Setting}
use Rattle.call_orders.specs.Owed.{ends_call}
use Rattle.call_orders.specs.Calls.{CallState, Modifies, Over, Standing, Action, Handles, Collects, Continues, stream_of, events_of, without_leaves, commands_for, is_clear, unless_fault, after, standing}
use Rattle.call_orders.specs.Actions.{AreDone, AreDoneUnless, IsAction, Leaves, leave, calls_in}
use Rattle.call_orders.specs.Orders.{ConnectionEnd}
use Rattle.call_orders.specs.Laws.{FinishedLeave, IsOpen, LeaveIsNext, RefusalsLeave, ends_by, is_finish_of, is_last_collect, refuses, refuses_in, session_of}
use Rattle.call_orders.proofs.Doing.{Bears, Each, in_part, none_done}
use Rattle.call_orders.proofs.Following.{ActionAt, at_split, earlier_holds, opened}
use Rattle.call_orders.proofs.Holding.{not_late, placed_parts, without_leave}
use Rattle.call_orders.proofs.Open.{Parted, asks_late, is_finish, is_good, open_after, open_with, parted, state_behind}

-- ---- what ends a call

pub record OpenAction (s : Setting) (earlier : List Action) (a : Action) (session : ℕ) : Type 0 where
  pub f : Bool
  pub its : List (Item CallEnd)
  pub finished : list_any (is_finish_of (stream_of a)) (calls_in earlier) ≡ f
  pub act : IsAction s (open_with session f its) a
  pub late : asks_late f a ≡ false

-- an action for an open call
open_action : (s : Setting) (earlier : List Action) (a : Action) (session : ℕ) → ActionAt s a earlier → IsOpen s earlier (stream_of a) session → OpenAction s earlier a session
open_action s earlier a session k is_going =
    let at = opened s earlier (earlier_holds s a earlier k) (stream_of a) session is_going in
    let st : Standing = standing s earlier (stream_of a) in
    let same : st ≡ open_with session at.f st.items = ap (λ (x : CallState). (let y : Standing = record { state = x; items = st.items } in y)) at.state_is in
    record {
      f = at.f;
      its = st.items;
      finished = at.finished;
      act = subst (λ (x : Standing). IsAction s x a) same k.act;
      late = not_late earlier a at.f (placed_parts a earlier k.proper_with.placed).0 at.finished;
    }

pub leaving : (session : ℕ) (state : CallState) (did : List Event) → state ≡ Over → Parted session state did → (said : Reply) × (did ≡ without_leaves did ++ leave session said ∷ [])
leaving session state did over k =
    let l = subst (λ (x : CallState). Leaves (Some session) x k.last) over k.leaves in
    (l.0, k.did_is ∙ ap (λ (x : List Event). without_leaves did ++ x) l.1)

staying_on : (session : ℕ) (f : Bool) (state : CallState) (did : List Event) → state ≡ Modifies session f → Parted session state did → did ≡ without_leaves did
staying_on session f state did on k = without_leave did k.last k.did_is (subst (λ (x : CallState). Leaves (Some session) x k.last) on k.leaves)

-- what refuses gives no command
pub refused_work : (s : Setting) (session : ℕ) (f : Bool) (its : List (Item CallEnd)) (a : Action) → IsAction s (open_with session f its) a → asks_late f a ≡ false → refuses_in s a ≡ true → without_leaves (events_of a) ≡ []
refused_work s session f its (Collects id did cut) act late r = absurd cc
refused_work s session f its (Continues id cut) act late r = absurd cc
refused_work s session f its (Handles call did cut) act late r =
    none_done s (commands_for s (Modifies session f) call) (without_leaves did) (nothing f call late r) (in_part s cut (open_with session f its) call (commands_for s (Modifies session f) call) (without_leaves did) _ act.made)
  where
    bad : (o : Option MessageFault) (cs : List Command) → is_some o ≡ true → unless_fault o cs ≡ []
    bad None cs e = absurd cc
    bad (Some fault) cs e = refl

    nothing : (b : Bool) (c : Call Method CallEnd) → asks_late b (Handles c did cut) ≡ false → refuses s c ≡ true → commands_for s (Modifies session b) c ≡ []
    nothing true (Request id m) l e = absurd cc
    nothing false (Request id m) l e = bad (first_fault s.numbering message.ModifyRequest m) (commands_of session (pos 0) (orders_of s m)) e
    nothing true (Dropped id) l e = refl
    nothing false (Dropped id) l e = refl
    nothing true (Declined id answer) l e = refl
    nothing false (Declined id answer) l e = refl
    nothing b (Begun id method) l e = absurd cc
    nothing b (Finished id) l e = absurd cc

pub refusals_leave : (s : Setting) → RefusalsLeave s
refusals_leave s calls own end actions o u later earlier a session e is_going ends =
    let k = open_action s earlier a session (at_split s calls own end actions o u later a earlier e) is_going in
    let state : CallState = (after s (open_with session k.f k.its) a).state in
    let over : state ≡ Over = open_after s session k.f k.its a k.act k.late ∙ ap (state_behind session (k.f || is_finish a)) (or_left (ends_by s a) (is_good k.f a) ends) in
    (leaving session state (events_of a) over (parted s session k.f k.its a k.act), λ r. refused_work s session k.f k.its a k.act k.late r)

-- ---- the good end

any_first : (p : Event → Bool) (w last : List Event) → list_any p w ≡ true → list_any p (w ++ last) ≡ true
any_first p w last e = list_any-append p w last ∙ or_left (list_any p w) (list_any p last) e

pub and_split : (a b : Bool) → (a && b) ≡ true → (a ≡ true) × (b ≡ true)
and_split true b e = (refl, e)
and_split false b e = absurd cc

and_join : (a b : Bool) → a ≡ true → b ≡ true → (a && b) ≡ true
and_join true b e f = f
and_join false b e f = absurd cc

or_of : (a b : Bool) → a ≡ false → (a || b) ≡ b
or_of true b e = absurd cc
or_of false b e = refl

decide : (b : Bool) → (b ≡ true) ⊎ (b ≡ false)
decide true = inl refl
decide false = inr refl

pub finished_work : (s : Setting) (session : ℕ) (its : List (Item CallEnd)) (call : Call Method CallEnd) (did : List Event) (cut : Option ℕ) → IsAction s (open_with session true its) (Handles call did cut) → without_leaves did ≡ []
finished_work s session its call did cut act =
    none_done s (commands_for s (Modifies session true) call) (without_leaves did) (nothing call) (in_part s cut (open_with session true its) call (commands_for s (Modifies session true) call) (without_leaves did) _ act.made)
  where
    nothing : (c : Call Method CallEnd) → commands_for s (Modifies session true) c ≡ []
    nothing (Begun id method) = refl
    nothing (Request id m) = refl
    nothing (Finished id) = refl
    nothing (Dropped id) = refl
    nothing (Declined id answer) = refl

module _ (s : Setting) (session : ℕ) (f : Bool) (its : List (Item CallEnd)) (a : Action) (act : IsAction s (open_with session f its) a) (late : asks_late f a ≡ false) (unended : ends_by s a ≡ false) where
  abbrev behind_state : CallState
  behind_state = (after s (open_with session f its) a).state

  becomes : (b : Bool) → is_good f a ≡ b → behind_state ≡ state_behind session (f || is_finish a) b
  becomes b e = open_after s session f its a act late ∙ ap (state_behind session (f || is_finish a)) (or_of (ends_by s a) (is_good f a) unended ∙ e)

  keeps : is_good f a ≡ false → events_of a ≡ without_leaves (events_of a)
  keeps e = staying_on session (f || is_finish a) behind_state (events_of a) (becomes false e) (parted s session f its a act)

  leaves_good : is_good f a ≡ true → (said : Reply) × (events_of a ≡ without_leaves (events_of a) ++ leave session said ∷ [])
  leaves_good e = leaving session behind_state (events_of a) (becomes true e) (parted s session f its a act)

one_collect : (s : Setting) (session : ℕ) (f : Bool) (its : List (Item CallEnd)) (a : Action) → IsAction s (open_with session f its) a → f ≡ true → is_good f a ≡ true
    → (said : Reply) × (without_leaves (events_of a) ≡ record { command = command.Collect session; reply = said } ∷ [])
one_collect s session f its (Continues id cut) act e good = absurd (cc act.state_is)
one_collect s session f its (Handles call did cut) act e good =
    let work : without_leaves did ≡ [] = finished_work s session its call did cut (subst (λ (b : Bool). IsAction s (open_with session b its) (Handles call did cut)) e act) in
    let none : list_any (λ x. is_clear x.reply) (without_leaves did) ≡ false = ap (list_any (λ x. is_clear x.reply)) work in
    absurd (both_ways (list_any (λ x. is_clear x.reply) (without_leaves did)) none (and_split f (list_any (λ x. is_clear x.reply) (without_leaves did)) good).1)
one_collect s session f its (Collects id did cut) act e good =
    (act.said, act.works_is ∙ ap (λ (n : ℕ). record { command = command.Collect n; reply = act.said } ∷ []) (session_is session act.session f act.is_finished act.state_is))
  where
    session_is : (x y : ℕ) (b c : Bool) → Modifies x b ≡ Modifies y c → y ≡ x
    session_is x y b c k = cc

pub finished_leave : (s : Setting) → FinishedLeave s
finished_leave s calls own end actions o u later earlier a session e is_going unended =
    let k = open_action s earlier a session (at_split s calls own end actions o u later a earlier e) is_going in
    let same : is_last_collect earlier a ≡ is_good k.f a = ap (λ (b : Bool). b && list_any (λ x. is_clear x.reply) (without_leaves (events_of a))) k.finished in (
      λ none. keeps s session k.f k.its a k.act k.late unended (sym same ∙ none),
      λ last. (
          let is : is_good k.f a ≡ true = sym same ∙ last in
          let one = one_collect s session k.f k.its a k.act (and_split k.f (list_any (λ x. is_clear x.reply) (without_leaves (events_of a))) is).0 is in
          let l = leaves_good s session k.f k.its a k.act k.late unended is in
          (one.0, l.0, l.1 ∙ ap (λ (x : List Event). x ++ leave session l.0 ∷ []) one.1)),
    )

-- ---- a reply that ends the call

unfoldable pub AtBehind : (Event → List Event → Type 0) → List Event → Type 0
AtBehind Q [] = Unit {0}
AtBehind Q (e ∷ xs) = Q e xs × AtBehind Q xs

abbrev pub Ends : Setting → Event → List Event → Type 0
Ends s e behind = (session : ℕ) → session_of e.command ≡ Some session → ends_call s e ≡ true → (said : Reply) × (behind ≡ leave session said ∷ [])

abbrev pub Next : Setting → ConnectionEnd → Event → List Event → Type 0
Next s end e behind = (session : ℕ) → session_of e.command ≡ Some session → ends_call s e ≡ true → LeaveIsNext end session behind

pub behind_none : (Q : Event → List Event → Type 0) → ((e : Event) (l : List Event) → session_of e.command ≡ None → Q e l) → (xs : List Event) → Each (λ (e : Event). session_of e.command ≡ None) xs → AtBehind Q xs
unfolding AtBehind Each
behind_none Q f [] h = tt
behind_none Q f (e ∷ xs) h = (f e xs h.0, behind_none Q f xs h.1)

pub ends_none : (s : Setting) (e : Event) (l : List Event) → session_of e.command ≡ None → Ends s e l
ends_none s e l none session is ends = absurd cc

pub next_none : (s : Setting) (end : ConnectionEnd) (e : Event) (l : List Event) → session_of e.command ≡ None → Next s end e l
next_none s end e l none session is ends = absurd cc

pub behind_split : (Q : Event → List Event → Type 0) (before : List Event) (e : Event) (behind : List Event) → AtBehind Q (before ++ e ∷ behind) → Q e behind
unfolding AtBehind
behind_split Q [] e behind h = h.0
behind_split Q (d ∷ before) e behind h = behind_split Q before e behind h.1

first_nothing : (xs ys : List Event) → xs ++ ys ≡ [] → xs ≡ []
first_nothing [] ys e = refl
first_nothing (x ∷ xs) ys e = absurd cc

same_session : (a b : ℕ) → Some a ≡ Some b → a ≡ b
same_session a b e = cc

rest_done : (s : Setting) (last : List Event) → Each (λ (e : Event). session_of e.command ≡ None) last → (w b : List Event) (x : Bool) (more : Type 0) → AreDoneUnless x (w ++ b) more
    → (more → AtBehind (Ends s) (w ++ last)) → AtBehind (Ends s) (w ++ last)
rest_done s last none w b true more h k = subst (λ (l : List Event). AtBehind (Ends s) (l ++ last)) (sym (first_nothing w b h)) (behind_none (Ends s) (ends_none s) last none)
rest_done s last none w b false more h k = k h

pub ends_done : (s : Setting) (session : ℕ) (last : List Event) → Each (λ (e : Event). session_of e.command ≡ None) last → (cs : List Command) (w b : List Event) → AreDone s cs (w ++ b)
    → Each (λ (e : Event). Bears (Some session) e.command) w → (list_any (ends_call s) w ≡ true → (said : Reply) × (last ≡ leave session said ∷ [])) → AtBehind (Ends s) (w ++ last)
unfolding AtBehind Each
ends_done s session last none cs [] b h each over = behind_none (Ends s) (ends_none s) last none
ends_done s session last none [] (e ∷ w) b h each over = absurd cc
ends_done s session last none (c ∷ cs) (e ∷ w) b h each over = (
  λ n is ends. (
      let w_none : w ≡ [] = first_nothing w b (subst (λ (x : Bool). AreDoneUnless x (w ++ b) (AreDone s cs (w ++ b))) ends h.1) in
      let l = over (or_left (ends_call s e) (list_any (ends_call s) w) ends) in
      let same : session ≡ n = same_session session n (sym each.0.0 ∙ is) in
      (l.0, ap (λ (x : List Event). x ++ last) w_none ∙ (l.1 ∙ ap (λ (k : ℕ). leave k l.0 ∷ []) same))),
  rest_done s last none w b (ends_call s e) (AreDone s cs (w ++ b)) h.1
      (λ done. ends_done s session last none cs w b done each.1 (λ any. over (or_right (ends_call s e) (list_any (ends_call s) w) any))),
)
