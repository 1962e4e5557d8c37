use Rattle.dn_parse.proofs.Final.{final}
use Rattle.dn_parse.proofs.laws.stop_is_final.Goals as goal

pub returns : goal.returns
returns c = λ p front t r r'. ((final front t r r' p).refusal, (final front t r r' p).nesting)
