use Rattle.std.proofs.Common.{sym}
use Rattle.gribi_serve.proofs.Goes.{pass_moved, sound_moved}
use Rattle.gribi_serve.proofs.serve.serve_connections.Goals as goal

pub serve_table-requires-clause-suits : goal.serve_table-requires-clause-suits
serve_table-requires-clause-suits g c κs within = record {
  takes_new = λ p is sound none. (pass_moved c.args.lock.now g.N.Naming.lock c.requires.lock p is, sound_moved c.args.lock.now g.N.Naming.lock c.requires.lock p sound, none);
  gives_back = λ p is. pass_moved g.N.Naming.lock c.args.lock.now (sym c.requires.lock) p is;
}
