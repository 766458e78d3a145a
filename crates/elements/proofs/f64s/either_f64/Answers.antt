use Rattle.base.proofs.Table.{tabled_end}
use Rattle.base.proofs.Zip.{table-map}
use Rattle.floats.specs.units.Unit.{unit_of}
use borrow.Author.Rules.{rules}
use lib.Ieee.{binary64}
use mathlib.Core.Path.{◌∙◌}
use Rattle.elements.proofs.f64s.either_f64.Goals as goal

pub returns : goal.returns
returns c =
    let a = c.args in
    tabled_end c.loop-i.invariant c.loop-i-test.false ∙ table-map (unit_of binary64 a.nonzero) 0 8 a.w (search rules)
