use mathlib.Core.List.{List}
use mathlib.Core.Path.{ap, ◌∙◌}
use Prim.Native.Nat.{ℕ}
use Rattle.base.proofs.Arrays.{mapped}
use Rattle.base.specs.Bytes.{le_bytes}
use Rattle.slices.proofs.bytes.Flats.{two_mapped}
use Rattle.std.proofs.Common.{rules}
use Rattle.std.specs.List.{flat_map}
use Rattle.slices.proofs.bytes.bytes_of_halves.Goals as goal

pub returns : goal.returns
returns c =
    c.copy_from_slice.ensures.after ∙ c.as_flattened-2.ensures.value
    ∙ ap (flat_map (λ (x : List ℕ). x)) c.as_flattened.ensures.value
    ∙ two_mapped (le_bytes 4) c.args.lo c.args.hi
    (mapped (le_bytes 4) 0 c.map.ensures.items (search rules) (λ p q x y k. search rules))
    (mapped (le_bytes 4) 0 c.map-2.ensures.items (search rules) (λ p q x y k. search rules))
