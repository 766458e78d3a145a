-- Whether draws go past the last one, by the tests that the code makes.
use mathlib.Core.Bool.{true, false, not}
use mathlib.Core.Path.{◌≡◌, sym, ap, ◌∙◌}
use Prim.Native.Nat.{ℕ, ◌+◌, ◌-◌, ◌≤◌, ◌<◌}
use native.Mathlib.Decide.{dec_lt}
use native.Mathlib.Omega.{arith}
use lib.Dec.{leb, ltb}
use borrow.Author.Tests.{lt-leb, le-leb, lt-ltb, le-ltb}

-- first + draws is more than last + 1, without sums that may not fit
module _ (first draws last : ℕ) where
  is-past : last + 1 < first + draws → not (leb (first + draws) (last + 1)) ≡ true
  is-past h = ap not (lt-leb _ _ h)

  is_not : first + draws ≤ last + 1 → not (leb (first + draws) (last + 1)) ≡ false
  is_not h = ap not (le-leb _ _ h)

  pub past-none : draws ≡ 0 → last < first → ltb last (first - 1) ≡ not (leb (first + draws) (last + 1))
  past-none z h =
      elim (dec_lt last (first - 1)) [
        | yes l ↦ lt-ltb _ _ l ∙ sym (is-past (omega arith))
        | no l ↦ le-ltb last (first - 1) (omega arith) ∙ sym (is_not (omega arith))
      ]

  pub past-some : (draws ≡ 0 → ⊥) → last < first → true ≡ not (leb (first + draws) (last + 1))
  past-some z h = sym (is-past (omega arith))

  pub not_past : draws ≡ 0 → first ≤ last → false ≡ not (leb (first + draws) (last + 1))
  not_past z h = sym (is_not (omega arith))

  pub past_end : (draws ≡ 0 → ⊥) → first ≤ last → ltb (last - first) (draws - 1) ≡ not (leb (first + draws) (last + 1))
  past_end z h =
      elim (dec_lt (last - first) (draws - 1)) [
        | yes l ↦ lt-ltb _ _ l ∙ sym (is-past (omega arith))
        | no l ↦ le-ltb (last - first) (draws - 1) (omega arith) ∙ sym (is_not (omega arith))
      ]
