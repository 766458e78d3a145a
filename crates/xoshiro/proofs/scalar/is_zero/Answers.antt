use Rattle.std.proofs.Common.{◌≡◌, ℕ, Bool, true, false, ◌&&◌, List, [], ◌∷◌, length, get_or, refl, sym, ap, ◌∙◌, rules}
use lib.Dec.{eqb}
use lib.Pointwise.{pointwise}
use Rattle.base.proofs.Quad.{list_four}
use Rattle.xoshiro_steps.specs.Xoshiro256pp.{all_zero}
use Rattle.xoshiro.proofs.scalar.is_zero.Goals as goal

joined : (a b c d : Bool) → a && (b && (c && (d && true))) ≡ a && b && c && d
joined false b c d = refl
joined true false c d = refl
joined true true false d = refl
joined true true true false = refl
joined true true true true = refl

pub returns : goal.returns
unfolding all_zero
returns c =
    let s = c.args.s in
    let long : length s ≡ 4 = search rules in
    let zero = λ (i : ℕ). eqb (get_or s i 0) 0 in
    c.eq.ensures ∙ ap (λ (l : List ℕ). pointwise eqb l (0 ∷ 0 ∷ 0 ∷ 0 ∷ [])) (sym (list_four 0 s long)) ∙ joined (zero 0) (zero 1) (zero 2) (zero 3)
