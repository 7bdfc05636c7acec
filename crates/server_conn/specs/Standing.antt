-- How a served connection stands for an account of it, between its turns and within one.
use Rattle.std.specs.Prelude.{◌≡◌, ◌⊎◌, ℕ, ◌^◌, ◌-◌, Bool, true, false, min, List, ◌∷◌, ◌++◌, Option, Some, None}
use Rattle.rig_io.specs.Link.{Piece}
use Rattle.h2_exchange.specs.Sending.{IsPrefix}
use Rattle.grpc_stream.specs.CallTrace.{CallTrace}
use Rattle.table_model.specs.Event.{Event}
use Rattle.call_answers.specs.declared.orders.Setting.{Setting}
use Rattle.call_orders.specs.Calls.{Action}
use Rattle.call_orders.specs.Actions.{events_in}
use Rattle.call_orders.specs.Orders.{AllLeave, staying}
use Rattle.session_engine.specs.Laws.{AreOpen}
use Rattle.session_engine.specs.Queries.{OpenCallsView, call_on, session_in}
use Rattle.server_turns.specs.declared.outcome.Outcome.{Outcome}
use Rattle.server_turns.specs.declared.outcome.Outcome.TheVariants as over
use Rattle.server_turns.specs.Past.{Past, awaits_from}
use Rattle.server_turns.specs.Turning.{is_spent}
use Rattle.server_turns.specs.Serving.{Account, EndsWhole, NoneOpen, Serves, refused_in}
use Rattle.server_account.specs.Agreeing.{Agrees, IsSettled, account_of, none_left}
use Rattle.server_conn.specs.declared.conn.Cause.{Cause}
use Rattle.server_conn.specs.declared.conn.Cause.TheVariants.{Ends, Spent}

-- the calls that were ended for want of memory are counted, up to the last value of the counter
abbrev pub AreCounted : Setting → List Action → ℕ → Type 0
AreCounted s actions refused = refused ≡ min (refused_in s actions) (2 ^ 64 - 1)

module _ {K : Type 0} (uses : K → CallTrace → Type 0) (output : K → List ℕ) where
  -- The calls were used so, have not refused, and agree with these actions: all that was told of the clients was handled, and all that
  -- they are owed so far was taken.
  pub record Works (s : Setting) (calls : K) (open_calls : OpenCallsView) (refused : ℕ) (t : CallTrace) (actions : List Action)
      (pieces : List Piece) (own : List Event) : Type 0 where
    pub used : uses calls t
    pub alive : t.connection_trace.refusal ≡ None
    pub agrees : Agrees s t (output calls) open_calls actions pieces own none_left
    pub count : AreCounted s actions refused

  -- Between two turns.
  pub record Goes (s : Setting) (calls : K) (open_calls : OpenCallsView) (refused : ℕ) (is_ended : Bool) (past : Past) (a : Account) : Type 0 where
    pub trace : CallTrace
    pub works : Works s calls open_calls refused trace a.actions past.pieces past.own
    pub account : a ≡ account_of trace (output calls) a.rest a.actions
    pub settled : IsSettled trace a.rest
    pub ended : is_ended ≡ past.is_ended
    pub whole : past.is_ended ≡ true → EndsWhole s past a × NoneOpen s past a
    pub serves : Serves s past a None

-- No session awaits results, or has a client that has ended its side.
abbrev pub NoneWaits : OpenCallsView → List Event → Type 0
NoneWaits open_calls own = (id session : ℕ) (is_finished : Bool) → session_in (call_on open_calls id) ≡ Some (session, is_finished) →
    (is_finished ≡ false) × (awaits_from false session own ≡ false)

-- ---- over

-- A connection that is over keeps its outcome, and the promise that held then.
pub record IsOver (s : Setting) (past : Past) (a : Account) (refused : ℕ) (outcome : Outcome) : Type 0 where
  pub serves : Serves s past a (Some outcome)
  pub count : AreCounted s a.actions refused

module _ {K : Type 0} (uses : K → CallTrace → Type 0) (output : K → List ℕ) where
  -- A connection stands so for an account: it goes on, or is over with the outcome that it keeps.
  abbrev pub StandsAs : Setting → K → OpenCallsView → ℕ → Bool → Bool → Option Outcome → Past → Account → Option Outcome → Type 0
  StandsAs s calls open_calls refused is_ended may_wait kept past a None =
      Goes uses output s calls open_calls refused is_ended past a × (kept ≡ None) × (may_wait ≡ false → NoneWaits open_calls past.own)
  StandsAs s calls open_calls refused is_ended may_wait kept past a (Some outcome) = IsOver s past a refused outcome × (kept ≡ Some outcome)

-- A connection keeps the promise however it stands.
abbrev pub serves_as : {K : Type 0} (uses : K → CallTrace → Type 0) (output : K → List ℕ) (s : Setting) (calls : K) (open_calls : OpenCallsView)
    (refused : ℕ) (is_ended may_wait : Bool) (kept : Option Outcome) (past : Past) (a : Account) (outcome : Option Outcome) →
    StandsAs uses output s calls open_calls refused is_ended may_wait kept past a outcome → Serves s past a outcome
serves_as uses output s calls open_calls refused is_ended may_wait kept past a None h = h.0.serves
serves_as uses output s calls open_calls refused is_ended may_wait kept past a (Some outcome) h = h.0.serves

-- ---- how it ends

abbrev pub past_of : List Piece → List Event → Bool → Past
past_of pieces own is_ended = record { pieces = pieces; own = own; is_ended = is_ended }

-- An account goes on from this trace: no frame and no header block is taken back.
pub record GrowsTo (t : CallTrace) (a : Account) : Type 0 where
  pub limits : a.limits ≡ t.connection_trace.limits
  pub heads : IsPrefix t.connection_trace.heads a.heads
  pub frames : IsPrefix t.connection_trace.frames a.frames

-- With this output the promise is kept so, by an account that goes on from this trace.
pub record KeptBy (s : Setting) (t : CallTrace) (output : List ℕ) (refused : ℕ) (past : Past) (outcome : Outcome) : Type 0 where
  pub account : Account
  pub grows : GrowsTo t account
  pub output_is : account.output ≡ output
  pub over : IsOver s past account refused outcome

-- The connection may end so: the promise is kept whatever Leaves of the sessions that stayed come behind its entries, whether all of
-- them were made or a call for one was Spent.
pub record MayEnd (s : Setting) (t : CallTrace) (output : List ℕ) (open_calls : OpenCallsView) (refused : ℕ) (past : Past) (outcome : Outcome) : Type 0 where
  pub unspent : is_spent (Some outcome) ≡ false
  pub actions : List Action
  pub open_now : AreOpen s open_calls actions
  pub did : past.own ≡ events_in actions
  pub leaves : (last : List Event) → AllLeave (staying past.own) last → KeptBy s t output refused (past_of past.pieces (past.own ++ last) past.is_ended) outcome
  pub spent : (last behind : List Event) (e : Event) → AllLeave (staying past.own) (last ++ e ∷ behind) →
      KeptBy s t output refused (past_of past.pieces (past.own ++ last) past.is_ended) over.Spent

-- Why a turn is the last.
abbrev pub EndsBy : Setting → CallTrace → List ℕ → OpenCallsView → ℕ → Past → Cause → Type 0
EndsBy s t output open_calls refused past (Ends outcome) = MayEnd s t output open_calls refused past outcome
EndsBy s t output open_calls refused past Spent = KeptBy s t output refused past over.Spent

-- a call under the lock was Spent
abbrev pub is_spent_by : Cause → Bool
is_spent_by (Ends outcome) = false
is_spent_by Spent = true
