use Rattle.grpc_heads.proofs.Fitting.{short_trailers_fit}
use Rattle.grpc_heads.proofs.laws.short_trailers_fit.Goals as goal

pub returns : goal.returns
returns c = short_trailers_fit
