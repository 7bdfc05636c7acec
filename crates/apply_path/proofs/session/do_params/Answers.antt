use Rattle.apply_path.proofs.session.do_params.Goals as goal

pub returns-in-Some : goal.returns-in-Some
returns-in-Some c = rw c.in-Some.is c.do_command.ensures
