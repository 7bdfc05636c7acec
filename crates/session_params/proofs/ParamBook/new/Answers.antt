use Rattle.table_model.specs.Sessions.{live}
use Rattle.session_params.specs.Book.{session_records_of}
use Rattle.session_params.proofs.ParamBook.new.Goals as goal

pub returns-clause-stands : goal.returns-clause-stands
unfolding session_records_of live
returns-clause-stands c = c.new.ensures.items
