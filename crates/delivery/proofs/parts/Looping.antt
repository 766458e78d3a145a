-- A loop that calls `next_part` until nothing is left, with buffers that are large enough: it ends, and what is left was reached by its
-- calls.
use Rattle.std.proofs.Common.{◌≡◌, ℕ, ◌<◌, ◌≤◌, List, [], ◌∷◌, length, sym, refl, ap, subst, arith}
use Rattle.base.specs.Lists.{none, then}
use Rattle.fills.specs.Kinds.{kinds}
use Rattle.delivery.specs.parts.Delivery.{NextPart}
use Rattle.delivery.specs.parts.Claims.{Call, Step, Reached}
use Rattle.delivery.specs.declared.parts.Delivery.{Delivery}
use Rattle.delivery.specs.declared.parts.Part.{Part}

pub record Looping (d : Delivery) (values out : List ℕ) (rest : Delivery) : Type 0 where
  pub kind : (1 ≤ rest.kind) × (rest.kind ≤ length kinds)
  pub enough : (128 ≤ length values) × (400 ≤ length out)
  pub reached : Reached d rest

pub looping_none : {d : Delivery} {values out : List ℕ}
    → (1 ≤ d.kind) × (d.kind ≤ length kinds) × (128 ≤ length values) × (400 ≤ length out) → Looping d values out d
looping_none {d} h = record { kind = (h.0, h.1); enough = (h.2, h.3); reached = record { calls = []; run = none; end = refl } }

module _ {d rest : Delivery} {values values' out out' : List ℕ} {part : Part} (L : Looping d values out rest)
    (P : NextPart rest values values' out out' part.bytes part.rest) where
  abbrev call : Call
  call = record { values = values; values' = values'; out = out; out' = out'; part = part }

  pub looping_less : 0 < rest.left → part.rest.left < rest.left
  looping_less h = P.lessens (P.some L.kind.0 L.kind.1 L.enough.0 L.enough.1 h)

  pub looping_more : Looping d values' out' part.rest
  looping_more =
      let R = L.reached in
      let k : part.rest.kind ≡ rest.kind = ap (λ (x : Delivery). x.kind) P.remains in
      record {
        kind = subst (λ (n : ℕ). (1 ≤ n) × (n ≤ length kinds)) (sym k) L.kind;
        enough = omega (arith, P.same, L.enough);
        reached = record { calls = call ∷ R.calls; run = then R.run (subst (λ (x : Delivery). Step x call) R.end P); end = refl };
      }
