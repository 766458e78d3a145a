use Rattle.base.proofs.Zip.{map-append}
use Rattle.base.specs.Bytes.{flat}
use Rattle.base.specs.Stored.{stored}
use Rattle.fills.specs.FillBytes.{bytes_of}
use Rattle.fills.specs.Kinds.{f32s, lows, highs}
use Rattle.floats.specs.units.Unit.{unit}
use Rattle.elements.proofs.f32s.Halves.{halves_bytes}
use lib.Ieee.{binary32, to_bits}
use mathlib.Core.List.{map}
use mathlib.Core.Path.{sym, ap, ◌∙◌}
use Rattle.elements.proofs.f32s.F32BytesFromOne.put_group.Goals as goal

pub returns : goal.returns
returns c =
    let w = c.args.w in
    halves_bytes _ _ (map (unit binary32) (lows w)) (map (unit binary32) (highs w))
    (c.bits_f32-lo.ensures ∙ ap (map (to_bits binary32)) (c.units_f32.ensures ∙ ap (map (unit binary32)) c.lows.ensures))
    (c.bits_f32-hi.ensures ∙ ap (map (to_bits binary32)) (c.units_f32-2.ensures ∙ ap (map (unit binary32)) c.highs.ensures))
    c.put_halves.ensures
    ∙ ap (stored _ _) (ap (flat (bytes_of f32s)) (sym (map-append (unit binary32) (lows w) (highs w))))
