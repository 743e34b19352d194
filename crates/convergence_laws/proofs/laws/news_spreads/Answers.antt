use Rattle.convergence_laws.proofs.ConvergenceNewsLaws.{news_at_ends}
use Rattle.convergence_laws.proofs.laws.news_spreads.Goals as goal

pub returns : goal.returns
returns c = news_at_ends
