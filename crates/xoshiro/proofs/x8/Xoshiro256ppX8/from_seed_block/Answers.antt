use Rattle.std.proofs.Common.{◌≡◌, ℕ, ◌+◌, ◌-◌, length, replicate, refl, ap, ◌∙◌, zero-lt-suc, arith}
use Rattle.base.proofs.Table.{tabled_none, tabled_more, tabled_end}
use Rattle.xoshiro.specs.scalar.Calls.{jumps_made}
use Rattle.xoshiro.specs.declared.scalar.Xoshiro256pp.{Xoshiro256pp}
use Rattle.xoshiro.proofs.scalar.Jumping.{jumps-none, jumps_more}
use Rattle.xoshiro.proofs.x8.Lanes.{placed_by}
use Rattle.xoshiro.proofs.x8.Xoshiro256ppX8.from_seed_block.Goals as goal

pub loop-i-init : goal.loop-i-init
loop-i-init c =
    let at = c.jumps-at.result in
    let start = jumps-none at (ap (λ (g : Xoshiro256pp). length g.s) c.jumps-at.ensures) in
    (omega arith, start, tabled_more {out = replicate 8 at} (tabled_none refl) (zero-lt-suc 7) start)

pub loop-i-preserved : goal.loop-i-preserved
loop-i-preserved c =
    let loop = c.loop-i in
    let next : loop.i - 1 + 1 ≡ loop.i = omega (arith, loop.invariant.0) in
    let back : loop.i ≡ loop.i + 1 - 1 = omega arith in
    let on = jumps_more _ c.jumps-at.result loop.invariant.1 c.jump.ensures ∙ ap (λ (k : ℕ). jumps_made k c.jumps-at.result) next in
    (omega arith, on ∙ ap (λ (k : ℕ). jumps_made k c.jumps-at.result) back, tabled_more loop.invariant.2 (omega arith) on)

pub returns : goal.returns
returns c =
    let at = c.jumps-at.ensures ∙ ap (jumps_made c.wrapping_mul-jumps.result) c.from_seed.ensures in
    placed_by c.args.seed c.args.block c.wrapping_mul-jumps.ensures at (tabled_end c.loop-i.invariant.2 (omega arith)) c.of_lanes-rng.ensures
