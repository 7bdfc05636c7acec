use Rattle.call_tests.proofs.carried.begin.Goals as goal

pub returns-in-Ok : goal.returns-in-Ok
returns-in-Ok g c = let k = c.in-Ok.ensures.ok c.requires.0 c.requires.1 in (_, k.2, c.requires.2)

pub returns-in-Err : goal.returns-in-Err
returns-in-Err g c = (c.requires.0, c.in-Err.ensures.err c.requires.0 c.requires.1, c.requires.2)
