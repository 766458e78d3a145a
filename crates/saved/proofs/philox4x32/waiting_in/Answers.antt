use Rattle.base.proofs.Arrays.{from_fn}
use Rattle.saved.proofs.philox4x32.Form.{waiting_read}
use Rattle.std.proofs.Common.{◌∙◌, rules}
use Rattle.saved.proofs.philox4x32.waiting_in.Goals as goal

pub returns : goal.returns
returns c = from_fn _ _ (λ q i y l k. (search rules, search rules)) c.from_fn.ensures.items ∙ waiting_read _
