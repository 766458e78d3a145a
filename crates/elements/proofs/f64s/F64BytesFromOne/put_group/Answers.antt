use Rattle.base.proofs.Bytes.{flat_map}
use Rattle.base.specs.Bytes.{le_bytes, flat}
use Rattle.base.specs.Stored.{stored}
use Rattle.floats.specs.units.Unit.{unit_of}
use lib.Ieee.{binary64, to_bits}
use mathlib.Core.List.{map}
use mathlib.Core.Path.{ap, ◌∙◌}
use Rattle.elements.proofs.f64s.F64BytesFromOne.put_group.Goals as goal

pub returns : goal.returns
returns c =
    let a = c.args in
    c.put_words.ensures
    ∙ ap (stored _ _) (ap (flat (le_bytes 8)) (c.bits_f64.ensures ∙ ap (map (to_bits binary64)) c.either_f64.ensures)
    ∙ flat_map (le_bytes 8) (to_bits binary64) (map (unit_of binary64 a.self.nonzero) a.w))
