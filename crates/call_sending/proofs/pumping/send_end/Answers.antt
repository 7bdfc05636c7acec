use Rattle.std.proofs.Common.{refl, sym, subst}
use Rattle.kept_calls.specs.CallState.{state_of}
use Rattle.kept_calls.specs.declared.call.Ending.{Ending}
use Rattle.kept_calls.specs.declared.call.Ending.TheVariants as end
use Rattle.call_sending.specs.Pumping.{Closes}
use Rattle.call_sending.proofs.Turning.{closing}
use Rattle.call_sending.proofs.pumping.send_end.Goals as goal

pub returns-in-Open-clause-turns : goal.returns-in-Open-clause-turns
returns-in-Open-clause-turns g c = λ k h. (k, h, subst (λ (e : Ending). Closes e k (state_of c.args.call.now) (state_of c.args.call.now) k) (sym c.in-Open.is) (refl, refl))

pub returns-in-Sent-clause-turns : goal.returns-in-Sent-clause-turns
returns-in-Sent-clause-turns g c = λ k h. (k, h, subst (λ (e : Ending). Closes e k (state_of c.args.call.now) (state_of c.args.call.now) k) (sym c.in-Sent.is) (refl, refl))

pub returns-in-Block-clause-turns : goal.returns-in-Block-clause-turns
returns-in-Block-clause-turns g c = λ k h. closing g.C.HttpConnection.stands _ c.send_block.result k _ _ c.args.call.now.ending end.Block c.in-Block.is (c.send_block.ensures.turns k h)

pub returns-in-Trailers-clause-turns : goal.returns-in-Trailers-clause-turns
returns-in-Trailers-clause-turns g c = λ k h. closing g.C.HttpConnection.stands _ c.send_trailers.result k _ _ c.args.call.now.ending end.Trailers c.in-Trailers.is (c.send_trailers.ensures.turns k h)

pub returns-in-HalfClose-clause-turns : goal.returns-in-HalfClose-clause-turns
returns-in-HalfClose-clause-turns g c = λ k h. closing g.C.HttpConnection.stands _ c.half_close.result k _ _ c.args.call.now.ending end.HalfClose c.in-HalfClose.is (c.half_close.ensures.turns k h)
