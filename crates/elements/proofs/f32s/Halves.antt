-- The patterns of the two halves of a group of floats, stored as bytes, are the bytes of its floats. Assumes nothing.
use mathlib.Core.List.{List, ◌++◌, map}
use mathlib.Core.Path.{◌≡◌, sym, ap, ◌∙◌}
use Prim.Native.Nat.{ℕ}
use lib.Ieee.{Float, binary32, to_bits}
use Rattle.base.specs.Bytes.{le_bytes, flat}
use Rattle.base.specs.Stored.{stored}
use Rattle.base.proofs.Bytes.{flat_map}
use Rattle.base.proofs.Zip.{map-append}

pub halves_bytes : (l : List ℕ) (at : ℕ) (c s : List Float) {lo hi out : List ℕ} → lo ≡ map (to_bits binary32) c → hi ≡ map (to_bits binary32) s
    → out ≡ stored l at (flat (le_bytes 4) (lo ++ hi)) → out ≡ stored l at (flat (λ x. le_bytes 4 (to_bits binary32 x)) (c ++ s))
halves_bytes l at c s p q e =
    e
    ∙ (λ i. stored l at (flat (le_bytes 4) (p i ++ q i)))
    ∙ ap (stored l at) (ap (flat (le_bytes 4)) (sym (map-append (to_bits binary32) c s)) ∙ flat_map (le_bytes 4) (to_bits binary32) (c ++ s))
