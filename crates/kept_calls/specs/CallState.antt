-- What contracts see of a call.
use Rattle.std.specs.Prelude.{ℕ, ◌==◌, Bool, true, false, map, List, [], ◌∷◌, ◌++◌, Option, None}
use Rattle.std.specs.List.{find}
use Rattle.grpc_framing.specs.CutterState.{CutterState}
use Rattle.grpc_framing.specs.Framing.{item}
use Rattle.grpc_framing.specs.NextMessage.{fed}
use Rattle.hpack_tables.specs.declared.field.Field.{Field}
use Rattle.kept_calls.specs.declared.call.Call.{Call}
use Rattle.kept_calls.specs.declared.call.Ending.{Ending}
use Rattle.kept_calls.specs.declared.call.Ending.TheVariants as end
use Rattle.kept_calls.specs.declared.call.Receiving.{Receiving}
use Rattle.kept_calls.specs.declared.call.Receiving.TheVariants.{Closed}

pub record CallState : Type 0 where
  pub stream : ℕ
  pub receiving : Receiving
  pub cutter : CutterState
  -- the bytes of messages that no DATA holds yet
  pub unsent : List ℕ
  -- a message was taken
  pub has_message : Bool
  -- a head was sent
  pub has_head : Bool
  pub ending : Ending
  -- the last header block of this side, until it is sent
  pub fields : List Field

abbrev pub state_of : Call → CallState
state_of c = record {
  stream = c.stream;
  receiving = c.receiving;
  cutter = c.cutter;
  unsent = c.unsent.items;
  has_message = c.has_message;
  has_head = c.has_head;
  ending = c.ending;
  fields = c.fields;
}

abbrev pub states : List Call → List CallState
states calls = map state_of calls

-- its end was taken
abbrev pub ended : Ending → Bool
ended end.Open = false
ended other = true

-- its end was sent
abbrev pub is_sent : Ending → Bool
is_sent end.Sent = true
is_sent other = false

abbrev pub fresh_cutter : CutterState
fresh_cutter = record { limit = 4194304; held = []; refusal = None }

abbrev pub began : ℕ → Receiving → Bool → CallState
began stream receiving has_head = record {
  stream = stream;
  receiving = receiving;
  cutter = fresh_cutter;
  unsent = [];
  has_message = false;
  has_head = has_head;
  ending = end.Open;
  fields = [];
}

abbrev pub with_message : List ℕ → CallState → CallState
with_message message c = record c { unsent = c.unsent ++ item message; has_message = true }

abbrev pub closed_by : Ending → List Field → CallState → CallState
closed_by ending fields c = record c { ending = ending; fields = fields }

abbrev pub stopped : CallState → CallState
stopped c = record c { receiving = Closed }

abbrev pub close_unless : Bool → Ending → List Field → CallState → CallState
close_unless true ending fields c = c
close_unless false ending fields c = closed_by ending fields c

abbrev pub refused_by : Ending → List Field → CallState → CallState
refused_by ending fields c = close_unless (ended c.ending) ending fields (stopped c)

abbrev pub with_piece : List ℕ → CallState → CallState
with_piece piece c = record c { cutter = fed c.cutter piece }

abbrev pub with_unsent : List ℕ → CallState → CallState
with_unsent bytes c = record c { unsent = bytes }

-- the call on a stream
abbrev pub call_on : ℕ → List CallState → Option CallState
call_on id calls = find (λ c. c.stream == id) calls
