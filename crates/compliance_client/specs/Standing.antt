-- How a client stands for what was done with it.
use Rattle.std.specs.Prelude.{◌≡◌, map, List, Option, Some}
use Rattle.rig_io.specs.Link.{Piece}
use Rattle.schema_numbers.specs.Numbers.{Numbers}
use Rattle.h2_exchange.specs.declared.role.Role.TheVariants.{Client}
use Rattle.h2_exchange.specs.Order.{received_bytes, sent_bytes}
use Rattle.h2_exchange.specs.Sending.{IsPrefix}
use Rattle.grpc_stream.specs.CallTrace.{CallTrace, Answered}
use Rattle.line_verdicts.specs.declared.tally.Tally.{Tally}
use Rattle.compliance_client.specs.declared.over.ClientOver.{ClientOver}
use Rattle.compliance_client.specs.declared.over.ClientOver.TheVariants as over
use Rattle.compliance_client.specs.Deeds.{CallView, Deed, calls_in, tally_in}
use Rattle.compliance_client.specs.Asks.{AreOwn, begun_in, heard_in, resets_in, taken_in}

-- What was done with a client: what its calls were used for; the lines, answers and judgements, the latest first; and the pieces of its link.
pub record Past : Type 0 where
  pub trace : CallTrace
  pub deeds : List Deed
  pub pieces : List Piece

module _ {K : Type 0} (uses : K → CallTrace → Type 0) (n : Numbers) where
  -- The calls of a client under this numbering were used so: all that they told was heard, and what the lines ask was taken.
  pub record Works (calls : K) (kept : List CallView) (tally : Tally) (past : Past) : Type 0 where
    pub used : uses calls past.trace
    pub role : past.trace.connection_trace.role ≡ Client
    pub numbers : past.trace.numbers ≡ n
    pub kept_are : kept ≡ calls_in n past.deeds
    pub tally_is : tally ≡ tally_in n past.deeds
    pub told : past.trace.reported ≡ map Answered (heard_in past.deeds)
    pub taken : past.trace.taken ≡ taken_in n past.deeds
    pub begun : past.trace.begun ≡ begun_in n past.deeds
    pub resets : past.trace.resets ≡ resets_in n past.deeds
    pub own : AreOwn n past.deeds
    pub fed : past.trace.connection_trace.fed ≡ received_bytes past.pieces
    pub dropped : past.trace.connection_trace.dropped ≡ sent_bytes past.pieces

  -- There was no memory: maybe not all of what the last line asks was taken, or of what the link gave was fed.
  pub record Starves (calls : K) (past : Past) : Type 0 where
    pub used : uses calls past.trace
    pub role : past.trace.connection_trace.role ≡ Client
    pub numbers : past.trace.numbers ≡ n
    pub taken : IsPrefix past.trace.taken (taken_in n past.deeds)
    pub begun : past.trace.begun ≡ begun_in n past.deeds
    pub resets : past.trace.resets ≡ resets_in n past.deeds
    pub own : AreOwn n past.deeds
    pub fed : IsPrefix past.trace.connection_trace.fed (received_bytes past.pieces)
    pub dropped : past.trace.connection_trace.dropped ≡ sent_bytes past.pieces

  -- A client stands so for its past, by whether and how it is over.
  abbrev pub StandsAs : Option ClientOver → K → List CallView → Tally → Past → Type 0
  StandsAs (Some over.NoMemory) calls kept tally past = Starves calls past
  StandsAs other calls kept tally past = Works calls kept tally past
