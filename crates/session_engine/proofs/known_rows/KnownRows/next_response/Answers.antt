use Rattle.session_engine.proofs.Giving.{known_rest}
use Rattle.session_engine.proofs.known_rows.KnownRows.next_response.Goals as goal

pub invariant_of-self-then-len-gt-LONGEST_MESSAGE : goal.invariant_of-self-then-len-gt-LONGEST_MESSAGE
invariant_of-self-then-len-gt-LONGEST_MESSAGE c = known_rest c.self.inside.instances c.self.inside.rows c.next_response.new.self c.in_ok-bytes.ensures.rest c.self.invariant

pub invariant_of-self-2 : goal.invariant_of-self-2
invariant_of-self-2 c = known_rest c.self.inside.instances c.self.inside.rows c.next_response.new.self c.in_ok-bytes.ensures.rest c.self.invariant
