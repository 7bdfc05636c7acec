-- An action for a Modify call that nothing has ended: what becomes of the call, and its Leave.
use Rattle.std.proofs.Common.{◌≡◌, ℕ, pos, Bool, true, false, ◌||◌, ◌&&◌, List, [], ◌∷◌, ◌++◌, Option, Some, None, refl, sym, ap, ◌∙◌, subst}
use Rattle.std.specs.Prelude.{is_some, if◌then◌else◌}
use Rattle.std.specs.List.{list_any, flat_map}
use Rattle.std.specs.Option.{option_map}
use Rattle.std.proofs.lemmas.Bool.{or_left}
use Rattle.proto_schema.specs.declared.schema.MessageKind.TheVariants as message
use Rattle.proto_schema.specs.declared.legal.MessageFault.{MessageFault}
use Rattle.proto_schema.specs.Legal.{first_fault}
use Rattle.grpc_heads.specs.CallEnd.{CallEnd, Status}
use Rattle.grpc_heads.specs.declared.head.Method.{Method}
use Rattle.h2_exchange.specs.Calls.{Call, Begun, Request, Finished, Dropped, Declined}
use Rattle.h2_exchange.specs.StreamParts.{Item, Finish}
use Rattle.table_model.specs.Event.{Event}
use Rattle.call_answers.specs.Orders.{orders_of, commands_of}
use Rattle.call_answers.specs.declared.orders.Setting.{Setting}
use Rattle.call_orders.specs.Owed.{items_for, ends_call, has_end, end_items, ok}
use Rattle.call_requests.specs.Asked.{bad_message}
use Rattle.call_orders.specs.Calls.{CallState, Modifies, Over, Standing, Action, Handles, Collects, Continues, events_of, without_leaves, commands_for, refusal_for, unless_fault, is_clear, good_end, after}
use Rattle.call_orders.specs.Actions.{IsAction, IsHandled, Leaves}
use Rattle.call_orders.specs.Laws.{ends_by, refuses, is_bad}
use Rattle.call_orders.proofs.Doing.{Each, Bears, each_none, each_one, each_order, each_part, bears_timeless, end_behind, in_part, none_done}

abbrev pub open_with : ℕ → Bool → List (Item CallEnd) → Standing
open_with session f its = record { state = Modifies session f; items = its }

-- a client that has ended its side asks no more
abbrev pub asks_late : Bool → Action → Bool
asks_late true (Handles (Request id m) did cut) = true
asks_late f a = false

abbrev pub is_finish : Action → Bool
is_finish (Handles (Finished id) did cut) = true
is_finish a = false

-- nothing is outstanding of a call whose client has ended its side
abbrev pub is_good : Bool → Action → Bool
is_good f a = f && list_any (λ e. is_clear e.reply) (without_leaves (events_of a))

abbrev pub state_behind : ℕ → Bool → Bool → CallState
state_behind session f true = Over
state_behind session f false = Modifies session f

-- ---- want of memory

cut_ends : (x y : Bool) → ((x || true) || y) ≡ true
cut_ends true y = refl
cut_ends false y = refl

-- ---- what a message brings by itself

fault_ends : (o : Option MessageFault) → has_end (end_items (option_map bad_message o)) ≡ is_some o
fault_ends None = refl
fault_ends (Some fault) = refl

or_none : (a : Bool) → (a || false) ≡ a
or_none true = refl
or_none false = refl

or_turn : (a b : Bool) → (a || b) ≡ ((b || false) || a)
or_turn true true = refl
or_turn true false = refl
or_turn false true = refl
or_turn false false = refl

or_late : (a : Bool) → ((true || false) || a) ≡ true
or_late a = refl

state_by : (session : ℕ) (f e b : Bool) → e ≡ b → (if e then Over else Modifies session f) ≡ state_behind session f b
state_by session f e true is = ap (λ (x : Bool). if x then Over else Modifies session f) is
state_by session f e false is = ap (λ (x : Bool). if x then Over else Modifies session f) is

or_good : (e : Bool) → e ≡ (e || (false && true))
or_good true = refl
or_good false = refl

no_work : (s : Setting) (its : List (Item CallEnd)) (session : ℕ) (f : Bool) (call : Call Method CallEnd) (did : List Event) (cut : Option ℕ)
    → IsHandled s (open_with session f its) call did cut → commands_for s (Modifies session f) call ≡ [] → without_leaves did ≡ []
no_work s its session f call did cut h none =
    none_done s (commands_for s (Modifies session f) call) (without_leaves did) none (in_part s cut (open_with session f its) call _ (without_leaves did) _ h.made)

-- ---- what becomes of the call

abbrev Becomes : Setting → ℕ → Bool → List (Item CallEnd) → Action → Type 0
Becomes s session f its a = (after s (open_with session f its) a).state ≡ state_behind session (f || is_finish a) (ends_by s a || is_good f a)

-- a call without commands that goes on
quiet : (s : Setting) (session : ℕ) (f g : Bool) (w : List Event) → w ≡ []
    → (if has_end (flat_map (items_for s) w ++ []) then Over else Modifies session g) ≡ state_behind session g (list_any (ends_call s) w || (f && list_any (λ e. is_clear e.reply) w))
quiet s session f g w none =
    subst (λ (l : List Event). (if has_end (flat_map (items_for s) l ++ []) then Over else Modifies session g) ≡ state_behind session g (list_any (ends_call s) l || (f && list_any (λ e. is_clear e.reply) l)))
    (sym none) (by f)
  where
    by : (b : Bool) → Modifies session g ≡ state_behind session g (b && false)
    by true = refl
    by false = refl

same_state : (session : ℕ) (f y : Bool) → (if y then Over else Modifies session f) ≡ state_behind session f y
same_state session f true = refl
same_state session f false = refl

as_state : (session : ℕ) (f x y : Bool) → x ≡ y → (if x then Over else Modifies session f) ≡ state_behind session f y
as_state session f x y e = ap (λ (b : Bool). if b then Over else Modifies session f) e ∙ same_state session f y

over_anyway : (x : Bool) → (if x then Over else Over) ≡ Over
over_anyway true = refl
over_anyway false = refl

pub or_true : (a : Bool) → (a || true) ≡ true
or_true true = refl
or_true false = refl

good_is : (session : ℕ) (w : List Event) (b : Bool) → list_any (λ e. is_clear e.reply) w ≡ b → has_end (good_end (Modifies session true) w) ≡ b
good_is session w true e = ap (λ (x : Bool). has_end (if x then Finish (Status ok) ∷ [] else [])) e
good_is session w false e = ap (λ (x : Bool). has_end (if x then Finish (Status ok) ∷ [] else [])) e

or_turned : (a b : Bool) → (a || b) ≡ (((b || false) || a) || false)
or_turned true true = refl
or_turned true false = refl
or_turned false true = refl
or_turned false false = refl

over_by : (session : ℕ) (f : Bool) (b : Bool) → b ≡ true → Over ≡ state_behind session f b
over_by session f b e = ap (state_behind session f) (sym e)

pub open_after : (s : Setting) (session : ℕ) (f : Bool) (its : List (Item CallEnd)) (a : Action) → IsAction s (open_with session f its) a → asks_late f a ≡ false → Becomes s session f its a
open_after s session f its (Handles call did (Some made)) h late =
    over_by session (f || is_finish (Handles call did (Some made))) (ends_by s (Handles call did (Some made)) || is_good f (Handles call did (Some made)))
    (or_left (ends_by s (Handles call did (Some made))) (is_good f (Handles call did (Some made))) (cut_ends (refuses s call) (list_any (ends_call s) (without_leaves did))))
open_after s session f its (Collects id did (Some made)) h late =
    over_by session (f || false) (ends_by s (Collects id did (Some made)) || is_good f (Collects id did (Some made)))
    (or_left (ends_by s (Collects id did (Some made))) (is_good f (Collects id did (Some made))) refl)
open_after s session f its (Continues id cut) h late = absurd (cc h.state_is)
open_after s session true its (Collects id did None) h late =
    let w = without_leaves did in
    as_state session true (has_end (flat_map (items_for s) w ++ good_end (Modifies session true) w)) (list_any (ends_call s) w || list_any (λ e. is_clear e.reply) w)
    (end_behind s w (good_end (Modifies session true) w) ∙ ap (λ (b : Bool). list_any (ends_call s) w || b) (good_is session w (list_any (λ e. is_clear e.reply) w) refl))
open_after s session false its (Collects id did None) h late =
    let w = without_leaves did in
    as_state session false (has_end (flat_map (items_for s) w ++ [])) (list_any (ends_call s) w || false) (end_behind s w [])
open_after s session true its (Handles (Begun id method) did None) h late = quiet s session true true (without_leaves did) (no_work s its session true (Begun id method) did None h refl)
open_after s session false its (Handles (Begun id method) did None) h late = quiet s session false false (without_leaves did) (no_work s its session false (Begun id method) did None h refl)
open_after s session true its (Handles (Request id m) did None) h late = absurd (cc late)
open_after s session false its (Handles (Request id m) did None) h late =
    let w = without_leaves did in
    let refused = refusal_for s (Modifies session false) (Request id m) in
    as_state session false (has_end (flat_map (items_for s) w ++ refused)) (((is_bad s m || false) || list_any (ends_call s) w) || false)
    (end_behind s w refused
    ∙ (ap (λ (b : Bool). list_any (ends_call s) w || b) (fault_ends (first_fault s.numbering message.ModifyRequest m)) ∙ or_turned (list_any (ends_call s) w) (is_bad s m)))
open_after s session true its (Handles (Finished id) did None) h late = quiet s session true true (without_leaves did) (no_work s its session true (Finished id) did None h refl)
open_after s session false its (Handles (Finished id) did None) h late = quiet s session false true (without_leaves did) (no_work s its session false (Finished id) did None h refl)
open_after s session true its (Handles (Dropped id) did None) h late = over_anyway (has_end (flat_map (items_for s) (without_leaves did) ++ []))
open_after s session false its (Handles (Dropped id) did None) h late = over_anyway (has_end (flat_map (items_for s) (without_leaves did) ++ []))
open_after s session true its (Handles (Declined id answer) did None) h late =
    as_state session true (has_end (flat_map (items_for s) (without_leaves did) ++ Finish answer ∷ [])) true
    (end_behind s (without_leaves did) (Finish answer ∷ []) ∙ or_true (list_any (ends_call s) (without_leaves did)))
open_after s session false its (Handles (Declined id answer) did None) h late =
    as_state session false (has_end (flat_map (items_for s) (without_leaves did) ++ Finish answer ∷ [])) true
    (end_behind s (without_leaves did) (Finish answer ∷ []) ∙ or_true (list_any (ends_call s) (without_leaves did)))

-- ---- the Leave

-- what stands behind the commands of an action: the Leave of the session where the call is over, and else nothing
pub record Parted (session : ℕ) (state : CallState) (did : List Event) : Type 0 where
  pub last : List Event
  pub did_is : did ≡ without_leaves did ++ last
  pub leaves : Leaves (Some session) state last

pub parted : (s : Setting) (session : ℕ) (f : Bool) (its : List (Item CallEnd)) (a : Action) → IsAction s (open_with session f its) a → Parted session (after s (open_with session f its) a).state (events_of a)
parted s session f its (Handles call did cut) h = record { last = h.last; did_is = h.did_is; leaves = h.leaves }
parted s session f its (Collects id did cut) h = record {
  last = h.last;
  did_is = h.did_is ∙ ap (λ (l : List Event). l ++ h.last) (sym h.works_is);
  leaves = subst (λ (n : ℕ). Leaves (Some n) (after s (open_with session f its) (Collects id did cut)).state h.last) (session_is session h.session f h.is_finished h.state_is) h.leaves;
}
  where
    session_is : (a b : ℕ) (x y : Bool) → Modifies a x ≡ Modifies b y → b ≡ a
    session_is a b x y e = cc
parted s session f its (Continues id cut) h = absurd (cc h.state_is)

-- each command is one of the session
pub orders_own : (s : Setting) (session : ℕ) (f : Bool) (its : List (Item CallEnd)) (a : Action) → IsAction s (open_with session f its) a → Each (λ (e : Event). Bears (Some session) e.command) (without_leaves (events_of a))
orders_own s session f its (Continues id cut) h = absurd (cc h.state_is)
orders_own s session f its (Collects id did cut) h =
    subst (λ (l : List Event). Each (λ (e : Event). Bears (Some session) e.command) l) (sym h.works_is)
    (each_one (λ (e : Event). Bears (Some session) e.command) _ (session_is session h.session f h.is_finished h.state_is, refl))
  where
    session_is : (a b : ℕ) (x y : Bool) → Modifies a x ≡ Modifies b y → Some b ≡ Some a
    session_is a b x y e = cc
orders_own s session f its (Handles call did cut) h =
    each_part s (Bears (Some session)) (bears_timeless (Some session)) (commands_for s (Modifies session f) call) (without_leaves did)
    (in_part s cut (open_with session f its) call _ (without_leaves did) _ h.made) (bearing f call)
  where
    unless : (o : Option MessageFault) (m : List ℕ) → Each (Bears (Some session)) (unless_fault o (commands_of session (pos 0) (orders_of s m)))
    unless None m = each_order session (pos 0) (orders_of s m)
    unless (Some fault) m = each_none (Bears (Some session))

    bearing : (b : Bool) (c : Call Method CallEnd) → Each (Bears (Some session)) (commands_for s (Modifies session b) c)
    bearing false (Request id m) = unless (first_fault s.numbering message.ModifyRequest m) m
    bearing true (Request id m) = each_none (Bears (Some session))
    bearing false (Begun id method) = each_none (Bears (Some session))
    bearing true (Begun id method) = each_none (Bears (Some session))
    bearing false (Finished id) = each_none (Bears (Some session))
    bearing true (Finished id) = each_none (Bears (Some session))
    bearing false (Dropped id) = each_none (Bears (Some session))
    bearing true (Dropped id) = each_none (Bears (Some session))
    bearing false (Declined id answer) = each_none (Bears (Some session))
    bearing true (Declined id answer) = each_none (Bears (Some session))
