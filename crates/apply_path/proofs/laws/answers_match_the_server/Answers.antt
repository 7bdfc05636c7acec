use Rattle.apply_path.proofs.Rows.{answers_in_a_row, whole_answers, ending_is, done_are}
use Rattle.apply_path.proofs.laws.answers_match_the_server.Goals as goal

pub returns-clause-answers : goal.returns-clause-answers
returns-clause-answers c = answers_in_a_row

pub returns-clause-whole : goal.returns-clause-whole
returns-clause-whole c = whole_answers

pub returns-clause-ends : goal.returns-clause-ends
returns-clause-ends c = ending_is

pub returns-clause-done : goal.returns-clause-done
returns-clause-done c = done_are
