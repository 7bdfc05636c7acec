-- How a client goes on by a line that is judged.
use Rattle.std.proofs.Common.{◌≡◌, ◌∷◌, List, Option, Some, None, ap, ◌∙◌}
use Rattle.schema_numbers.specs.Numbers.{Numbers}
use Rattle.grpc_stream.specs.CallTrace.{CallTrace}
use Rattle.script_lang.specs.declared.line.Line.{Line}
use Rattle.line_verdicts.specs.declared.tally.Tally.{Tally}
use Rattle.compliance_client.specs.declared.over.ClientOver.{ClientOver}
use Rattle.compliance_client.specs.declared.over.ClientOver.TheVariants as over
use Rattle.compliance_client.specs.Deeds.{CallView, Judges, call_name, change_first, is_named, judges}
use Rattle.compliance_client.specs.Standing.{Past, StandsAs, Works}

module _ {K : Type 0} (uses : K → CallTrace → Type 0) (n : Numbers) where
  abbrev pub judged_past : Line → Past → Past
  judged_past line past = record { trace = past.trace; deeds = Judges line ∷ past.deeds; pieces = past.pieces }

  works_judged : (calls : K) (kept now : List CallView) (tally : Tally) (past : Past) (line : Line) → now ≡ change_first (is_named (call_name line)) (judges line) kept →
      Works uses n calls kept tally past → Works uses n calls now tally (judged_past line past)
  works_judged calls kept now tally past line same h = record {
    used = h.used;
    role = h.role;
    numbers = h.numbers;
    kept_are = same ∙ ap (change_first (is_named (call_name line)) (judges line)) h.kept_are;
    tally_is = h.tally_is;
    told = h.told;
    taken = h.taken;
    begun = h.begun;
    resets = h.resets;
    own = h.own;
    fed = h.fed;
    dropped = h.dropped;
  }

  pub stands_judged : (why : Option ClientOver) (calls : K) (kept now : List CallView) (tally : Tally) (past : Past) (line : Line) →
      now ≡ change_first (is_named (call_name line)) (judges line) kept → StandsAs uses n why calls kept tally past →
      StandsAs uses n why calls now tally (judged_past line past)
  stands_judged None calls kept now tally past line same h = works_judged calls kept now tally past line same h
  stands_judged (Some over.ReadFault) calls kept now tally past line same h = works_judged calls kept now tally past line same h
  stands_judged (Some over.WriteFault) calls kept now tally past line same h = works_judged calls kept now tally past line same h
  stands_judged (Some over.Ended) calls kept now tally past line same h = works_judged calls kept now tally past line same h
  stands_judged (Some (over.Protocol why place)) calls kept now tally past line same h = works_judged calls kept now tally past line same h
  stands_judged (Some (over.Calm cause)) calls kept now tally past line same h = works_judged calls kept now tally past line same h
  stands_judged (Some over.NoMemory) calls kept now tally past line same h = record {
    used = h.used;
    role = h.role;
    numbers = h.numbers;
    taken = h.taken;
    begun = h.begun;
    resets = h.resets;
    own = h.own;
    fed = h.fed;
    dropped = h.dropped;
  }
