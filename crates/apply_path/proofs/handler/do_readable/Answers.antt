use Rattle.apply_path.proofs.handler.do_readable.Goals as goal

pub returns-clause-done : goal.returns-clause-done
returns-clause-done g c = λ past said stood takes counted. rw (← c.swap.ensures.x_after, c.swap-2.ensures.y_after) (c.do_message-handled.ensures past said stood takes counted)
