-- What follows of the orders of a connection: what is usual of its actions, and which calls are open.
use Rattle.std.proofs.Common.{◌≡◌, ℕ, ◌==◌, ◌≤◌, Bool, true, false, List, [], ◌∷◌, ◌++◌, refl, sym, ap, ◌∙◌, subst, arith}
use Rattle.std.specs.Prelude.{not}
use Rattle.std.specs.List.{list_any}
use Rattle.std.proofs.lemmas.Bool.{or_parts}
use Rattle.grpc_heads.specs.CallEnd.{CallEnd}
use Rattle.grpc_heads.specs.declared.head.Method.{Method}
use Rattle.h2_exchange.specs.Calls.{Call, is_in_place, are_in_place}
use Rattle.h2_exchange.specs.Exchange.{some_step}
use Rattle.h2_exchange.proofs.Looking.{some_more}
use Rattle.table_model.specs.Event.{Event}
use Rattle.call_answers.specs.declared.orders.Setting.{Setting}
use Rattle.call_orders.specs.Calls.{CallState, NotBegun, Modifies, Receives, Responds, Over, Action, Handles, Collects, Continues, stream_of, calls_of, standing}
use Rattle.call_orders.specs.Actions.{AreActions, IsAction, calls_in, events_in}
use Rattle.call_orders.specs.Orders.{AreOrders, ConnectionEnd, begun_by, begun_in, left_by, left_in}
use Rattle.call_orders.specs.Laws.{AreUsual, IsOpen, count, is_finish_of, is_stray}
use Rattle.call_orders.proofs.Counts.{count_self, counted, of_stream, one_stream, only_stream, two_streams}
use Rattle.call_orders.proofs.Doing.{stray_parts}
use Rattle.call_orders.proofs.Holding.{ArePlaced, Holds, HoldsOpen, Placed, unbegun_begun, unbegun_left}
use Rattle.call_orders.proofs.Standing.{Proper, actions_parts, holds, proper_earlier}

-- ---- calls in their places

abbrev pub out_of_place : List (Call Method CallEnd) → Call Method CallEnd → Bool
out_of_place past c = not (is_in_place past c)

placed_by : (past : List (Call Method CallEnd)) (a : Action) → some_step out_of_place past (calls_of a) ≡ false → Placed past a
placed_by past (Handles call did cut) e = so (is_in_place past call) (or_parts (not (is_in_place past call)) false e).0
  where
    so : (b : Bool) → not b ≡ false → b ≡ true
    so true h = refl
    so false h = absurd cc
placed_by past (Collects id did cut) e = tt
placed_by past (Continues id cut) e = tt

pub placed_next : (past : List (Call Method CallEnd)) (a : Action) (more : List (Call Method CallEnd)) → some_step out_of_place [] (past ++ (calls_of a ++ more)) ≡ false → Placed past a
placed_next past a more e =
    let first = or_parts (some_step out_of_place [] past) (some_step out_of_place past (calls_of a ++ more)) (sym (some_more out_of_place [] past (calls_of a ++ more)) ∙ e) in
    placed_by past a (or_parts (some_step out_of_place past (calls_of a)) (some_step out_of_place (past ++ calls_of a) more) (sym (some_more out_of_place past (calls_of a) more) ∙ first.1)).0

all_placed : (actions : List Action) → some_step out_of_place [] (calls_in actions) ≡ false → ArePlaced actions
unfolding ArePlaced calls_in
all_placed [] e = tt
all_placed (a ∷ earlier) e =
    let parts = or_parts (some_step out_of_place [] (calls_in earlier)) (some_step out_of_place (calls_in earlier) (calls_of a)) (sym (some_more out_of_place [] (calls_in earlier) (calls_of a)) ∙ e) in
    (placed_by (calls_in earlier) a parts.1, all_placed earlier parts.0)

no_step : (cs : List (Call Method CallEnd)) → are_in_place cs ≡ true → some_step out_of_place [] cs ≡ false
no_step cs e = so (some_step out_of_place [] cs) e
  where
    so : (b : Bool) → not b ≡ true → b ≡ false
    so true h = absurd cc
    so false h = refl

-- ---- what is usual

pub proper : (s : Setting) (calls : List (Call Method CallEnd)) (own : List Event) (end : ConnectionEnd) (actions : List Action) → AreOrders s calls own end actions → AreUsual calls own → Proper actions
proper s calls own end actions o u = record {
  differ = λ session. (let x = u.differ session in let y = ap (λ (l : List Event). count session (begun_in l)) o.did in let z = counted begun_by session (events_in actions) o.last in omega (arith, x, y, z));
  begins = (stray_parts (events_in actions) o.last (subst (λ (l : List Event). list_any is_stray l ≡ false) o.did u.begins)).0;
  placed = all_placed actions (or_parts (some_step out_of_place [] (calls_in actions)) (some_step out_of_place (calls_in actions) o.rest)
      (sym (some_more out_of_place [] (calls_in actions) o.rest) ∙ no_step (calls_in actions ++ o.rest) (subst (λ (l : List (Call Method CallEnd)). are_in_place l ≡ true) o.handled u.in_place))).0;
}

-- the call of a next action stands in its place
pub next_placed : (s : Setting) (calls : List (Call Method CallEnd)) (own : List Event) (end : ConnectionEnd) (actions : List Action) (o : AreOrders s calls own end actions) → AreUsual calls own
    → (a : Action) (others : List (Call Method CallEnd)) → o.rest ≡ calls_of a ++ others → Placed (calls_in actions) a
next_placed s calls own end actions o u a others e =
    placed_next (calls_in actions) a others (no_step (calls_in actions ++ (calls_of a ++ others))
    (subst (λ (l : List (Call Method CallEnd)). are_in_place l ≡ true) (o.handled ∙ ap (λ (l : List (Call Method CallEnd)). calls_in actions ++ l) e) u.in_place))

-- ---- an action among all

pub record ActionAt (s : Setting) (a : Action) (earlier : List Action) : Type 0 where
  pub act : IsAction s (standing s earlier (stream_of a)) a
  pub each : AreActions s earlier
  pub proper_with : Proper (a ∷ earlier)

pub action_at : (s : Setting) (later : List Action) (a : Action) (earlier : List Action) → AreActions s (later ++ a ∷ earlier) → Proper (later ++ a ∷ earlier) → ActionAt s a earlier
action_at s [] a earlier h p = let parts = actions_parts s a earlier h in record { act = parts.0; each = parts.1; proper_with = p }
action_at s (b ∷ later) a earlier h p = action_at s later a earlier (actions_parts s b (later ++ a ∷ earlier) h).1 (proper_earlier b (later ++ a ∷ earlier) p)

pub at_split : (s : Setting) (calls : List (Call Method CallEnd)) (own : List Event) (end : ConnectionEnd) (actions : List Action) → AreOrders s calls own end actions → AreUsual calls own
    → (later : List Action) (a : Action) (earlier : List Action) → actions ≡ later ++ a ∷ earlier → ActionAt s a earlier
at_split s calls own end actions o u later a earlier e =
    action_at s later a earlier (subst (AreActions s) e o.each) (subst Proper e (proper s calls own end actions o u))

-- ---- which calls are open

-- no more sessions leave on a stream than were begun there
pub left_less : (s : Setting) (actions : List Action) (k id : ℕ) (state : CallState) → Holds s actions id state → of_stream left_by k actions id ≤ of_stream begun_by k actions id
left_less s actions k id NotBegun h = let x = ap (count k) (unbegun_left actions id h) in omega (arith, x)
left_less s actions k id (Modifies session f) h = let x = ap (count k) h.left in omega (arith, x)
left_less s actions k id (Receives method first is_more) h = let x = ap (count k) h.left in omega (arith, x)
left_less s actions k id (Responds waiting) h = let x = ap (count k) h.left in omega (arith, x)
left_less s actions k id Over h = let x = ap (count k) h.same in omega (arith, x)

abbrev pub AllHold : Setting → List Action → Type 0
AllHold s actions = (id : ℕ) → Holds s actions id (standing s actions id).state

-- a session that has not left on its own stream has left on none
pub stays_there : (s : Setting) (actions : List Action) → Proper actions → AllHold s actions → (id session : ℕ) (f : Bool) → HoldsOpen s actions id session f → count session (left_in (events_in actions)) ≡ 0
stays_there s actions p all id session f h =
    let here : of_stream begun_by session actions id ≡ 1 = ap (count session) h.begun ∙ count_self session in
    let none : of_stream left_by session actions id ≡ 0 = ap (count session) h.left in
    only_stream left_by session actions id (λ (j : ℕ) (apart : (j == id) ≡ false).
    (let x = two_streams begun_by session actions j id apart in let y = p.differ session in let z = left_less s actions session j (standing s actions j).state (all j) in omega (arith, x, y, z, here)))
    ∙ none

pub is_open : (s : Setting) (actions : List Action) → Proper actions → AllHold s actions → (id session : ℕ) (f : Bool) → HoldsOpen s actions id session f → IsOpen s actions id session
is_open s actions p all id session f h = record { begun = h.begun; stays = stays_there s actions p all id session f h; unended = h.unended }

pub record IsAt (s : Setting) (actions : List Action) (id session : ℕ) : Type 0 where
  pub f : Bool
  pub state_is : (standing s actions id).state ≡ Modifies session f
  pub finished : list_any (is_finish_of id) (calls_in actions) ≡ f

no_list : {l : List ℕ} {session : ℕ} → l ≡ [] → l ≡ session ∷ [] → ⊥
no_list e f = cc

opened_by : (s : Setting) (actions : List Action) (id session : ℕ) (state : CallState) → Holds s actions id state → IsOpen s actions id session
    → (f : Bool) × (state ≡ Modifies session f) × (list_any (is_finish_of id) (calls_in actions) ≡ f)
opened_by s actions id session NotBegun h o = absurd (no_list (unbegun_begun actions id h) o.begun)
opened_by s actions id session (Modifies other f) h o = (f, ap (λ (n : ℕ). Modifies n f) (same other session (sym h.begun ∙ o.begun)), h.finished)
  where
    same : (a b : ℕ) → a ∷ [] ≡ b ∷ [] → a ≡ b
    same a b e = cc
opened_by s actions id session (Receives method first is_more) h o = absurd (no_list h.begun o.begun)
opened_by s actions id session (Responds waiting) h o = absurd (no_list h.begun o.begun)
opened_by s actions id session Over h o =
    let one : of_stream left_by session actions id ≡ 1 = ap (count session) (h.same ∙ o.begun) ∙ count_self session in
    let less = one_stream left_by session actions id in
    let none = o.stays in
    absurd (omega (arith, one, less, none))

-- a Modify call that nothing has ended stands with its session
pub opened : (s : Setting) (actions : List Action) → AllHold s actions → (id session : ℕ) → IsOpen s actions id session → IsAt s actions id session
opened s actions all id session o =
    let k = opened_by s actions id session (standing s actions id).state (all id) o in
    record { f = k.0; state_is = k.1; finished = k.2 }

pub earlier_holds : (s : Setting) (a : Action) (earlier : List Action) → ActionAt s a earlier → AllHold s earlier
earlier_holds s a earlier k = holds s earlier k.each (proper_earlier a earlier k.proper_with)
