use Rattle.philox.proofs.draws.Held.{round_masked_lem}
use Rattle.philox.proofs.draws.round.Goals as goal

pub returns : goal.returns
returns c = round_masked_lem _ _ _
