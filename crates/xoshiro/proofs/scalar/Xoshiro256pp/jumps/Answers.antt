use Rattle.std.proofs.Common.{◌≡◌, ℕ, length, sym, ap, ◌∙◌, rules}
use Rattle.xoshiro.specs.scalar.Calls.{jumps_made}
use Rattle.xoshiro.proofs.scalar.Jumping.{jumps-none}
use Rattle.xoshiro.proofs.scalar.Leaping.{jumps_by}
use Rattle.xoshiro.proofs.scalar.Xoshiro256pp.jumps.Goals as goal

pub returns-then-n-eq0 : goal.returns-then-n-eq0
returns-then-n-eq0 c =
    let g = c.args.self in
    let long : length g.s ≡ 4 = search rules in
    jumps-none g long ∙ ap (λ (n : ℕ). jumps_made n g) (sym c.if-n-eq0.true)

pub returns : goal.returns
returns c =
    let a = c.args in
    jumps_by a.n a.self c.leaps.ensures.words (c.leaps.ensures.by_index 128 c.jumps-by_jumps.ensures)
