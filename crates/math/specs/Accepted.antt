-- A call is accepted exactly when no lane breaks its rule, in both formats. Proved in proofs/Accepted.antt, `Accepts` as `accepts`.
use Rattle.std.specs.Prelude.{◌≡◌, ℕ, ◌<◌, Bool, T, List, length, slice_index_or, Float}
use Rattle.std.specs.Float.{Format, nan}
use Rattle.floats.specs.patterns.Domains.{positive_normal, in_reach, has_root, is_u1, is_u2}
use Rattle.math.specs.Calls.{ln_call, sincos_turns_call, sqrt_call, box_muller_call}

abbrev pub EachLane : (Float → Bool) → List Float → Type 0
EachLane p x = (i : ℕ) → i < length x → T (p (slice_index_or x i nan))

-- the one holds exactly when the other does
abbrev pub Iff : Type 0 → Type 0 → Type 0
Iff P Q = (P → Q) × (Q → P)

pub record Accepts (f : Format) : Type 0 where
  pub ln : (x : List Float) → Iff ((ln_call f x).refusal ≡ 0) (EachLane (positive_normal f) x)
  pub sincos_turns : (t : List Float) → Iff ((sincos_turns_call f t).refusal ≡ 0) (EachLane (in_reach f) t)
  pub sqrt : (x : List Float) → Iff ((sqrt_call f x).refusal ≡ 0) (EachLane (has_root f) x)
  pub box_muller : (u1 u2 : List Float) → Iff ((box_muller_call f u1 u2).refusal ≡ 0) (EachLane (is_u1 f) u1 × EachLane is_u2 u2)
