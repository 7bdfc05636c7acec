use Rattle.call_tests.proofs.carried.serve.Goals as goal

pub end-requires : goal.end-requires
end-requires g c = c.short_trailers_fit.ensures c.args.n.now c.good.result c.good.ensures
