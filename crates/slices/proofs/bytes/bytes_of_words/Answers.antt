use mathlib.Core.Path.{ap, ◌∙◌}
use Rattle.base.proofs.Arrays.{mapped}
use Rattle.base.specs.Bytes.{le_bytes}
use Rattle.slices.proofs.bytes.Flats.{flat_mapped}
use Rattle.std.proofs.Common.{rules}
use Rattle.std.specs.List.{flat_map}
use mathlib.Core.List.{List}
use Prim.Native.Nat.{ℕ}
use Rattle.slices.proofs.bytes.bytes_of_words.Goals as goal

pub returns : goal.returns
returns c =
    c.copy_from_slice.ensures.after ∙ c.as_flattened.ensures.value
    ∙ ap (flat_map (λ (x : List ℕ). x)) (mapped (le_bytes 8) 0 c.map.ensures.items (search rules) (λ p q x y k. search rules))
    ∙ flat_mapped (le_bytes 8) c.args.v
