-- Eight bytes of a list as one word. Assumes nothing.
use mathlib.Core.Path.{◌≡◌, refl}
use mathlib.Core.List.{List}
use Prim.Native.Nat.{ℕ, suc, ◌+◌, ◌*◌, ◌<◌, ◌≤◌}
use native.Mathlib.Omega.{arith}
use lib.ListN.{length, get_or, take, drop}
use lib.Seq.{drop-cons}
use Rattle.base.specs.Bytes.{le_nat}

byte_first : (s : List ℕ) (at next k : ℕ) → at < length s → suc at ≡ next
    → le_nat (take (suc k) (drop at s)) ≡ get_or s at 0 + 256 * le_nat (take k (drop next s))
byte_first s at next k h e = rw (drop-cons s at 0 h, e) refl

pub load-eight : (s : List ℕ) (at : ℕ) → at + 8 ≤ length s
    → le_nat (take 8 (drop at s))
    ≡ get_or s at 0 + 256 * (get_or s (at + 1) 0 + 256 * (get_or s (at + 2) 0 + 256 * (get_or s (at + 3) 0
    + 256 * (get_or s (at + 4) 0 + 256 * (get_or s (at + 5) 0 + 256 * (get_or s (at + 6) 0 + 256 * get_or s (at + 7) 0))))))
load-eight s at h =
    let b0 = byte_first s at (at + 1) 7 (omega arith) (omega arith) in
    let b1 = byte_first s (at + 1) (at + 2) 6 (omega arith) (omega arith) in
    let b2 = byte_first s (at + 2) (at + 3) 5 (omega arith) (omega arith) in
    let b3 = byte_first s (at + 3) (at + 4) 4 (omega arith) (omega arith) in
    let b4 = byte_first s (at + 4) (at + 5) 3 (omega arith) (omega arith) in
    let b5 = byte_first s (at + 5) (at + 6) 2 (omega arith) (omega arith) in
    let b6 = byte_first s (at + 6) (at + 7) 1 (omega arith) (omega arith) in
    let b7 = byte_first s (at + 7) (at + 8) 0 (omega arith) (omega arith) in
    omega arith
