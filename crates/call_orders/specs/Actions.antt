-- Which actions a server may take for a call that stands so: the commands that the client's messages give, in their order up to the
-- first reply that ends the call, its session's Leave right behind what ends it, and no others (gRIBI).
use Rattle.std.specs.Prelude.{◌≡◌, ℕ, pos, ◌≤◌, Bool, true, false, take, length, IfSome, List, [], ◌∷◌, ◌++◌, Option, Some, None}
use Rattle.std.specs.Option.{option_or}
use Rattle.grpc_heads.specs.CallEnd.{CallEnd}
use Rattle.grpc_heads.specs.declared.head.Method.{Method}
use Rattle.h2_exchange.specs.Calls.{Call, Dropped, Declined}
use Rattle.h2_exchange.specs.StreamParts.{Item}
use Rattle.table_model.specs.declared.command.Command.{Command}
use Rattle.table_model.specs.declared.command.Command.TheVariants as command
use Rattle.table_model.specs.declared.reply.Reply.{Reply}
use Rattle.table_model.specs.Event.{Event}
use Rattle.call_answers.specs.declared.orders.Setting.{Setting}
use Rattle.call_orders.specs.Owed.{ends_call, has_end}
use Rattle.call_orders.specs.Calls.{CallState, Modifies, Responds, Over, Standing, Action, Handles, Collects, Continues, stream_of, events_of, calls_of, without_leaves, commands_for, next_state, handled, collected, continued, cut_by, after, standing}

-- ---- commands

-- the command but for its moment, which the clock gives
abbrev pub timeless : Command → Command
timeless (command.Operate session operation now) = command.Operate session operation (pos 0)
timeless (command.Flush by which now) = command.Flush by which (pos 0)
timeless other = other

abbrev pub AreDoneUnless : Bool → List Event → Type 0 → Type 0
AreDoneUnless true done more = done ≡ []
AreDoneUnless false done more = more

-- the commands are done, one after another, up to the first whose reply ends the call
abbrev pub AreDone : Setting → List Command → List Event → Type 0
AreDone s [] done = done ≡ []
AreDone s (c ∷ cs) [] = ⊥
AreDone s (c ∷ cs) (e ∷ done) = (timeless e.command ≡ timeless c) × AreDoneUnless (ends_call s e) done (AreDone s cs done)

-- the first of the commands are done
abbrev pub AreDoneInPart : Setting → List Command → List Event → Type 0
AreDoneInPart s cs done = (behind : List Event) × AreDone s cs (done ++ behind)

-- ---- want of memory

-- A call that is over isn't ended again, nor is one that its client drops or that is declined.
abbrev pub may_be_cut : CallState → Call Method CallEnd → Bool
may_be_cut Over call = false
may_be_cut (Responds waiting) call = false
may_be_cut state (Dropped id) = false
may_be_cut state (Declined id answer) = false
may_be_cut state call = true

-- So many of the items may stand before an end for want of memory: all that stood before the action, and no end.
abbrev pub MayBeMade : ℕ → List (Item CallEnd) → List (Item CallEnd) → Type 0
MayBeMade made before items = (length before ≤ made) × (made ≤ length items) × (has_end (take made items) ≡ false)

-- All commands are done. Or, where memory was wanting, the first of them are, and so many items were made.
abbrev pub AreDoneOrCut : Setting → Option ℕ → Standing → Call Method CallEnd → List Command → List Event → List (Item CallEnd) → Type 0
AreDoneOrCut s None st call cs done items = AreDone s cs done
AreDoneOrCut s (Some made) st call cs done items = (may_be_cut st.state call ≡ true) × AreDoneInPart s cs done × MayBeMade made st.items items

-- ---- the Leave

-- the session of a call
abbrev pub session_in : CallState → Option ℕ
session_in (Modifies session is_finished) = Some session
session_in other = None

abbrev pub leave : ℕ → Reply → Event
leave session said = record { command = command.Leave session; reply = said }

-- a session leaves right behind what its call is over by, and else not
abbrev pub Leaves : Option ℕ → CallState → List Event → Type 0
Leaves (Some session) Over last = (said : Reply) × (last ≡ leave session said ∷ [])
Leaves session state last = last ≡ []

-- ---- actions

-- what the client did was handled
pub record IsHandled (s : Setting) (st : Standing) (call : Call Method CallEnd) (did : List Event) (cut : Option ℕ) : Type 0 where
  pub last : List Event
  pub did_is : did ≡ without_leaves did ++ last
  pub made : AreDoneOrCut s cut st call (commands_for s st.state call) (without_leaves did) (handled s st call (without_leaves did)).items
  pub leaves : Leaves (option_or (session_in st.state) (session_in (next_state s st.state call (without_leaves did))))
      (after s st (Handles call did cut)).state last

-- results were collected for a session that has not left
pub record IsCollected (s : Setting) (st : Standing) (did : List Event) (cut : Option ℕ) : Type 0 where
  pub session : ℕ
  pub is_finished : Bool
  pub state_is : st.state ≡ Modifies session is_finished
  pub said : Reply
  pub last : List Event
  pub did_is : did ≡ record { command = command.Collect session; reply = said } ∷ last
  pub works_is : without_leaves did ≡ record { command = command.Collect session; reply = said } ∷ []
  pub made : IfSome cut (λ made. MayBeMade made st.items (collected s st (without_leaves did)).items)
  pub leaves : Leaves (Some session) (cut_by cut (collected s st (without_leaves did))).state last

-- the next response of a Get was given
pub record IsContinued (st : Standing) (cut : Option ℕ) : Type 0 where
  pub waiting : List (Item CallEnd)
  pub state_is : st.state ≡ Responds waiting
  pub made : IfSome cut (λ made. MayBeMade made st.items (continued st).items)

-- the action is one for a call that stands so
abbrev pub IsAction : Setting → Standing → Action → Type 0
IsAction s st (Handles call did cut) = IsHandled s st call did cut
IsAction s st (Collects id did cut) = IsCollected s st did cut
IsAction s st (Continues id cut) = IsContinued st cut

-- each action is right behind those before it
unfoldable pub AreActions : Setting → List Action → Type 0
AreActions s [] = Unit {0}
AreActions s (a ∷ earlier) = IsAction s (standing s earlier (stream_of a)) a × AreActions s earlier

-- ---- what clients did and the entries of all actions, in order

unfoldable pub calls_in : List Action → List (Call Method CallEnd)
calls_in [] = []
calls_in (a ∷ earlier) = calls_in earlier ++ calls_of a

unfoldable pub events_in : List Action → List Event
events_in [] = []
events_in (a ∷ earlier) = events_in earlier ++ events_of a
