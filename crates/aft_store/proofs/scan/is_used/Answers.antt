use Rattle.std.proofs.Common.{sym, ap}
use Rattle.aft_store.proofs.Unreferred.{is_referable, never_used}
use Rattle.aft_store.proofs.scan.is_used.Goals as goal

pub returns-in-V4 : goal.returns-in-V4
returns-in-V4 c = sym (never_used c.args.key.now (ap is_referable c.in-V4.is) c.args.store.now.entries)

pub returns-in-V6 : goal.returns-in-V6
returns-in-V6 c = sym (never_used c.args.key.now (ap is_referable c.in-V6.is) c.args.store.now.entries)

pub returns-in-Label : goal.returns-in-Label
returns-in-Label c = sym (never_used c.args.key.now (ap is_referable c.in-Label.is) c.args.store.now.entries)
