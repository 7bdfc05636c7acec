-- An action for a call without a session.
use Rattle.std.proofs.Common.{◌≡◌, ℕ, pos, Bool, true, false, List, [], ◌∷◌, ◌++◌, Option, Some, None, refl, sym, ap, ◌∙◌, subst, append-nil}
use Rattle.std.specs.Prelude.{if◌then◌else◌}
use Rattle.std.specs.List.{list_any, flat_map}
use Rattle.std.specs.Option.{option_map, option_or}
use Rattle.gribi_messages.specs.GetAndFlush.{get_request, flush_request}
use Rattle.grpc_heads.specs.GrpcStatus.{GrpcStatus}
use Rattle.grpc_heads.specs.CallEnd.{CallEnd}
use Rattle.grpc_heads.specs.declared.head.Method.{Method}
use Rattle.grpc_heads.specs.declared.head.Method.TheVariants.{Get, Flush}
use Rattle.h2_exchange.specs.Calls.{Call, Finished, Dropped}
use Rattle.h2_exchange.specs.StreamParts.{Item}
use Rattle.table_model.specs.declared.command.Command.TheVariants as command
use Rattle.table_model.specs.declared.command.FlushBy.{FlushBy}
use Rattle.table_model.specs.declared.command.KindAsk.{KindAsk}
use Rattle.table_model.specs.declared.command.Which.{Which}
use Rattle.table_model.specs.declared.reply.Reply.{Reply}
use Rattle.table_model.specs.declared.reply.Reply.TheVariants as reply
use Rattle.table_model.specs.Event.{Event}
use Rattle.call_answers.specs.declared.orders.Setting.{Setting}
use Rattle.call_requests.specs.Asked.{allowed_by, flush_message_refusal, get_message_refusal, kinds_of, which_asked}
use Rattle.call_orders.specs.Requests.{get_asked, flush_asked, select_of, flush_of, unless_refused}
use Rattle.call_orders.specs.Owed.{items_for, has_end}
use Rattle.call_orders.specs.Calls.{CallState, NotBegun, Modifies, Receives, Responds, Over, Standing, Action, Handles, Collects, Continues, events_of, without_leaves, commands_for, command_of, asked_by, selected_state, selected_by_reply, refusal_for, next_items, next_state, waiting_behind, waiting_in, after}
use Rattle.call_orders.specs.Actions.{IsAction, Leaves, session_in}
use Rattle.call_orders.specs.Orders.{begun_in, left_in}
use Rattle.call_orders.specs.Laws.{is_stray}
use Rattle.call_orders.proofs.Doing.{Each, Bears, bears_timeless, begun_nothing, each_none, each_one, each_part, in_part, left_nothing}

-- a call without a session, of which something was heard
abbrev pub Idle : CallState → Type 0
Idle NotBegun = ⊥
Idle (Modifies session f) = ⊥
Idle (Receives method first is_more) = Unit {0}
Idle (Responds waiting) = Unit {0}
Idle Over = Unit {0}

pub idle_session : (state : CallState) → Idle state → session_in state ≡ None
idle_session NotBegun h = absurd h
idle_session (Modifies session f) h = absurd h
idle_session (Receives method first is_more) h = refl
idle_session (Responds waiting) h = refl
idle_session Over h = refl

abbrev pub at_state : CallState → List (Item CallEnd) → Standing
at_state state its = record { state = state; items = its }

-- ---- what a Get and a Flush ask

plain_select : (w : Option Which) (k : Option KindAsk) (refusal : Option GrpcStatus) → Each (Bears None) (command_of (unless_refused refusal (select_of w k)))
plain_select w k (Some refusal) = each_none (Bears None)
plain_select None k None = each_none (Bears None)
plain_select (Some w) None None = each_none (Bears None)
plain_select (Some w) (Some k) None = each_one (Bears None) (command.Select w k) (refl, refl)

plain_flush : (b : Option FlushBy) (w : Option Which) (refusal : Option GrpcStatus) → Each (Bears None) (command_of (unless_refused refusal (flush_of b w)))
plain_flush b w (Some refusal) = each_none (Bears None)
plain_flush None w None = each_none (Bears None)
plain_flush (Some b) None None = each_none (Bears None)
plain_flush (Some b) (Some w) None = each_one (Bears None) (command.Flush b w (pos 0)) (refl, refl)

plain_get : (s : Setting) (m : List ℕ) → Each (Bears None) (command_of (get_asked s m))
unfolding get_asked
plain_get s m = plain_select (which_asked s.instances (get_request s.numbering m).instance) (kinds_of s.numbering (get_request s.numbering m).aft) (get_message_refusal s m)

plain_flushed : (s : Setting) (m : List ℕ) → Each (Bears None) (command_of (flush_asked s m))
unfolding flush_asked
plain_flushed s m = plain_flush (option_map allowed_by (flush_request s.numbering m).election) (which_asked s.instances (flush_request s.numbering m).instance) (flush_message_refusal s m)

plain_asked : (s : Setting) (method : Method) (first : Option (List ℕ)) (is_more : Bool) → Each (Bears None) (command_of (asked_by s method first is_more))
plain_asked s Get (Some m) false = plain_get s m
plain_asked s Flush (Some m) false = plain_flushed s m
plain_asked s method first is_more = each_none (Bears None)

pub plain_commands : (s : Setting) (state : CallState) (call : Call Method CallEnd) → Idle state → Each (Bears None) (commands_for s state call)
plain_commands s NotBegun call h = absurd h
plain_commands s (Modifies session f) call h = absurd h
plain_commands s (Receives method first is_more) (Finished id) h = plain_asked s method first is_more
plain_commands s (Receives method first is_more) call h = each_none (Bears None)
plain_commands s (Responds waiting) call h = each_none (Bears None)
plain_commands s Over call h = each_none (Bears None)

-- ---- where it goes

selected_idle : (s : Setting) (said : Reply) → Idle (selected_by_reply s said)
selected_idle s (reply.Selected rows) = tt
selected_idle s said = tt

selected_all : (s : Setting) (done : List Event) → Idle (selected_state s done)
selected_all s [] = tt
selected_all s (e ∷ []) = selected_idle s e.reply
selected_all s (e ∷ f ∷ more) = tt

pub next_idle : (s : Setting) (state : CallState) (call : Call Method CallEnd) (done : List Event) → Idle state → Idle (next_state s state call done)
next_idle s NotBegun call done h = absurd h
next_idle s (Modifies session f) call done h = absurd h
next_idle s (Receives method None is_more) (Finished id) done h = selected_all s done
next_idle s (Receives method (Some first) is_more) (Finished id) done h = selected_all s done
next_idle s (Receives method None is_more) call done h = tt
next_idle s (Receives method (Some first) is_more) call done h = tt
next_idle s (Responds waiting) (Dropped id) done h = tt
next_idle s (Responds waiting) call done h = tt
next_idle s Over call done h = tt

if_idle : (b : Bool) (next : CallState) → Idle next → Idle (if b then Over else next)
if_idle true next h = tt
if_idle false next h = h

-- ---- an action

pub no_last : (o : Option ℕ) (state : CallState) (last : List Event) → o ≡ None → Leaves o state last → last ≡ []
no_last None state last e h = h
no_last (Some session) state last e h = absurd cc

-- no session begins or leaves, and none is there behind it
pub record Idles (to : CallState) (did : List Event) : Type 0 where
  pub begun : begun_in did ≡ []
  pub left : left_in did ≡ []
  pub to_idle : Idle to
  pub each : Each (λ (e : Event). Bears None e.command) did

pub options_none : (a b : Option ℕ) → a ≡ None → b ≡ None → option_or a b ≡ None
options_none None b e f = f
options_none (Some n) b e f = absurd cc

nothing_behind : (w last did : List Event) → did ≡ w ++ last → last ≡ [] → did ≡ w
nothing_behind w last did e f = e ∙ (ap (λ (l : List Event). w ++ l) f ∙ append-nil w)

idle_state : (s : Setting) (state : CallState) (its : List (Item CallEnd)) (call : Call Method CallEnd) (did : List Event) (cut : Option ℕ) → Idle state → Idle (after s (at_state state its) (Handles call did cut)).state
idle_state s state its call did None h = if_idle (has_end (flat_map (items_for s) (without_leaves did) ++ refusal_for s state call)) (next_state s state call (without_leaves did)) (next_idle s state call (without_leaves did) h)
idle_state s state its call did (Some made) h = tt

pub idles : (s : Setting) (state : CallState) (its : List (Item CallEnd)) (a : Action) → Idle state → IsAction s (at_state state its) a → list_any is_stray (events_of a) ≡ false
    → Idles (after s (at_state state its) a).state (events_of a)
idles s state its (Handles call did cut) h act plain =
    let w = without_leaves did in
    let next = next_state s state call w in
    let last_none : act.last ≡ [] = no_last (option_or (session_in state) (session_in next)) (after s (at_state state its) (Handles call did cut)).state act.last
    (options_none (session_in state) (session_in next) (idle_session state h) (idle_session next (next_idle s state call w h))) act.leaves in
    let same : did ≡ w = nothing_behind w act.last did act.did_is last_none in
    let each = each_part s (Bears None) (bears_timeless None) (commands_for s state call) w (in_part s cut (at_state state its) call _ w _ act.made) (plain_commands s state call h) in
    record {
      begun = ap begun_in same ∙ begun_nothing None w each (subst (λ (l : List Event). list_any is_stray l ≡ false) same plain);
      left = ap left_in same ∙ left_nothing did;
      to_idle = idle_state s state its call did cut h;
      each = subst (λ (l : List Event). Each (λ (e : Event). Bears None e.command) l) (sym same) each;
    }
idles s state its (Collects id did cut) h act plain = absurd (not_open state its h act.state_is)
  where
    not_open : (st : CallState) (l : List (Item CallEnd)) → Idle st → st ≡ Modifies act.session act.is_finished → ⊥
    not_open NotBegun l i e = i
    not_open (Modifies session f) l i e = i
    not_open (Receives method first is_more) l i e = cc
    not_open (Responds waiting) l i e = cc
    not_open Over l i e = cc
idles s state its (Continues id None) h act plain = record { begun = refl; left = refl; to_idle = if_idle (has_end (next_items (waiting_in state))) (Responds (waiting_behind (waiting_in state))) tt; each = each_none (λ (e : Event). Bears None e.command) }
idles s state its (Continues id (Some made)) h act plain = record { begun = refl; left = refl; to_idle = tt; each = each_none (λ (e : Event). Bears None e.command) }

-- a call that is over stays so
pub over_stays : (s : Setting) (its : List (Item CallEnd)) (a : Action) → IsAction s (at_state Over its) a → (after s (at_state Over its) a).state ≡ Over
over_stays s its (Handles call did (Some made)) act = refl
over_stays s its (Handles call did None) act = same (has_end (flat_map (items_for s) (without_leaves did) ++ []))
  where
    same : (b : Bool) → (if b then Over else Over) ≡ Over
    same true = refl
    same false = refl
over_stays s its (Collects id did cut) act = absurd (cc act.state_is)
over_stays s its (Continues id cut) act = absurd (cc act.state_is)
