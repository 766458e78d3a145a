use mathlib.Core.List.{List}
use lib.Ieee.{Float}
use mathlib.Core.List.{◌++◌}
use mathlib.Core.Path.{ap, ◌∙◌}
use Rattle.base.specs.Bytes.{flat}
use Rattle.base.specs.Stored.{stored}
use Rattle.fills.specs.FillBytes.{bytes_of}
use Rattle.fills.specs.Kinds.{normal_f32s}
use Rattle.math.specs.Lanes.{halves_of}
use Rattle.math.specs.declared.cos_sin.CosSin.{CosSin}
use Rattle.elements.proofs.f32s.Halves.{halves_bytes}
use Rattle.normals.proofs.normal_f32s.put_bytes.Goals as goal

pub returns : goal.returns
unfolding halves_of
returns c =
    let r = c.normals_f32-z.result in
    halves_bytes _ _ r.cos r.sin c.bits_f32.ensures c.bits_f32-2.ensures c.put_halves.ensures
    ∙ ap (stored _ _) (ap (λ (x : CosSin (List Float)). flat (bytes_of normal_f32s) (x.cos ++ x.sin)) c.normals_f32-z.ensures)
