-- A client that stands for what was done with it stands for more behind a line that is sent.
use Rattle.std.proofs.Common.{◌⊎◌, ◌≡◌, inl, inr, ℕ, Bool, true, false, List, [], ◌∷◌, Option, Some, None, Result, Ok, Err, refl, sym, ap, subst, ◌∙◌, append-nil}
use Rattle.schema_numbers.specs.Numbers.{Numbers}
use Rattle.h2_exchange.specs.declared.fault.SendFault.{SendFault}
use Rattle.h2_exchange.specs.declared.fault.SendFault.TheVariants.{NotOpen, IdsSpent, NoMemory}
use Rattle.grpc_stream.specs.CallTrace.{CallTrace}
use Rattle.script_lang.specs.declared.line.Line.{Line}
use Rattle.line_verdicts.specs.declared.tally.Tally.{Tally}
use Rattle.compliance_client.specs.declared.over.ClientOver.{ClientOver}
use Rattle.compliance_client.specs.declared.over.ClientOver.TheVariants as over
use Rattle.compliance_client.specs.Deeds.{CallView}
use Rattle.compliance_client.specs.Sends.{SendsLine}
use Rattle.compliance_client.specs.Standing.{Past, StandsAs, Starves, Works}
use Rattle.compliance_client.specs.Turns.{is_starved}

module _ {K : Type 0} (uses : K → CallTrace → Type 0) (n : Numbers) where
  pub works_of : (why : Option ClientOver) (calls : K) (kept : List CallView) (tally : Tally) (past : Past) → is_starved why ≡ false →
      StandsAs uses n why calls kept tally past → Works uses n calls kept tally past
  works_of None calls kept tally past e h = h
  works_of (Some over.ReadFault) calls kept tally past e h = h
  works_of (Some over.WriteFault) calls kept tally past e h = h
  works_of (Some over.Ended) calls kept tally past e h = h
  works_of (Some (over.Protocol why place)) calls kept tally past e h = h
  works_of (Some (over.Calm cause)) calls kept tally past e h = h
  works_of (Some over.NoMemory) calls kept tally past e h = absurd cc

  starves_of : (calls : K) (kept : List CallView) (tally : Tally) (past : Past) → Works uses n calls kept tally past → Starves uses n calls past
  starves_of calls kept tally past h = record {
    used = h.used;
    role = h.role;
    numbers = h.numbers;
    taken = ([], sym h.taken ∙ sym (append-nil past.trace.taken));
    begun = h.begun;
    resets = h.resets;
    own = h.own;
    fed = ([], sym h.fed ∙ sym (append-nil past.trace.connection_trace.fed));
    dropped = h.dropped;
  }

  works_stand : (why : Option ClientOver) (calls : K) (kept : List CallView) (tally : Tally) (past : Past) → Works uses n calls kept tally past →
      StandsAs uses n why calls kept tally past
  works_stand None calls kept tally past h = h
  works_stand (Some over.ReadFault) calls kept tally past h = h
  works_stand (Some over.WriteFault) calls kept tally past h = h
  works_stand (Some over.Ended) calls kept tally past h = h
  works_stand (Some (over.Protocol why place)) calls kept tally past h = h
  works_stand (Some (over.Calm cause)) calls kept tally past h = h
  works_stand (Some over.NoMemory) calls kept tally past h = starves_of calls kept tally past h

  starved_stand : (why : Option ClientOver) (calls : K) (kept : List CallView) (tally : Tally) (past : Past) → is_starved why ≡ true →
      Starves uses n calls past → StandsAs uses n why calls kept tally past
  starved_stand None calls kept tally past e h = absurd cc
  starved_stand (Some over.ReadFault) calls kept tally past e h = absurd cc
  starved_stand (Some over.WriteFault) calls kept tally past e h = absurd cc
  starved_stand (Some over.Ended) calls kept tally past e h = absurd cc
  starved_stand (Some (over.Protocol why place)) calls kept tally past e h = absurd cc
  starved_stand (Some (over.Calm cause)) calls kept tally past e h = absurd cc
  starved_stand (Some over.NoMemory) calls kept tally past e h = h

  pub sent_stands : (line : Line) (calls : K) (kept : List CallView) (tally : Tally) (why : Option ClientOver) (past : Past)
      (result : Result (Unit {0}) SendFault) → SendsLine uses n line calls kept tally (is_starved why) past result →
      (later : Past) × StandsAs uses n why calls kept tally later
  sent_stands line calls kept tally why past (Ok x) (id, u, h) = (_, works_stand why calls kept tally _ h)
  sent_stands line calls kept tally why past (Err NotOpen) h = (past, works_stand why calls kept tally past h)
  sent_stands line calls kept tally why past (Err IdsSpent) h = (past, works_stand why calls kept tally past h)
  sent_stands line calls kept tally why past (Err NoMemory) (inl h) = (past, works_stand why calls kept tally past h)
  sent_stands line calls kept tally why past (Err NoMemory) (inr (e, id, u, h)) = (_, starved_stand why calls kept tally _ e h)
