use Rattle.std.proofs.Common.{◌+◌, ◌%◌, ◌^◌, get_or}
use Rattle.base.proofs.Quad.{Columns}
use Rattle.philox.specs.block.Philox.{block}
use Rattle.philox.proofs.block.eight_blocks.Given as goal

abbrev pub invariant-loop-i : goal.invariant-loop-i
invariant-loop-i l = Columns (λ j. block (get_or l.key 0 0) (get_or l.key 1 0) l.stream ((l.n + j) % 2 ^ 64)) l.w0 l.w1 l.w2 l.w3 l.i
