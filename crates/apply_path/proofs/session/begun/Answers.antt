use Rattle.std.proofs.Common.{sym, ◌∙◌, arith}
use Rattle.apply_path.proofs.Steps.{begins}
use Rattle.apply_path.proofs.session.begun.Goals as goal

pub returns : goal.returns
returns c = record {
  stood = begins _ c.in_ok-core.core c.act-reply.new.self c.act-reply.result c.in_ok-core.ensures.stands c.in_ok-core.ensures.config c.act-reply.ensures.stands c.act-reply.ensures.config (sym c.is_out_of_memory-failed.ensures ∙ c.if-failed.false);
  few = omega (arith, c.act-reply.ensures.count, c.in_ok-core.ensures.count);
}
