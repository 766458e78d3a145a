use Rattle.std.proofs.Common.{sym, ap, ◌∙◌}
use Rattle.xoshiro.specs.scalar.Seeded.{seeded, kept}
use Rattle.xoshiro.specs.scalar.Calls.{generator}
use Rattle.xoshiro.proofs.scalar.Seeding.{drawn-words, kept-zero, kept_other}
use Rattle.xoshiro.proofs.scalar.Xoshiro256pp.from_seed.Goals as goal

pub returns-then-is_zero : goal.returns-then-is_zero
unfolding seeded
returns-then-is_zero c =
    let e = drawn-words c.new.ensures c.next_u64-m0.ensures c.next_u64-m1.ensures c.next_u64-m2.ensures c.next_u64-m3.ensures in
    ap generator (kept-zero _ (sym c.is_zero.ensures ∙ c.if-is_zero.true) ∙ ap kept e)

pub returns-else-is_zero : goal.returns-else-is_zero
unfolding seeded
returns-else-is_zero c =
    let e = drawn-words c.new.ensures c.next_u64-m0.ensures c.next_u64-m1.ensures c.next_u64-m2.ensures c.next_u64-m3.ensures in
    ap generator (kept_other _ (sym c.is_zero.ensures ∙ c.if-is_zero.false) ∙ ap kept e)
