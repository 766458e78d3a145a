-- The lists of a host's calls are lists of calls of the C functions that ship: what a caller learns from a function's own contract is its
-- call's step in a list, and the function asks nothing. The draws left and the label of the next draw, of which the lists tell after every
-- call, are what the functions that answer them promise.
use Rattle.std.specs.Prelude.{◌≡◌, ◌^◌, ◌<◌}
use contract.Lifetimes.{Lfts}
use borrow.Fn.Kinds.{Dens}
use Rattle.girderpeach.specs.Philox as philox-calls
use Rattle.girderpeach.specs.Xoshiro as xoshiro-calls
use Rattle.girderpeach.proofs.gp_philox_draws_left.Reads as philox-left-reads
use Rattle.girderpeach.proofs.gp_philox_fill.Reads as philox-fill-reads
use Rattle.girderpeach.proofs.gp_philox_label.Reads as philox-label-reads
use Rattle.girderpeach.proofs.gp_philox_new.Reads as philox-new-reads
use Rattle.girderpeach.proofs.gp_philox_seek.Kinds as philox-seek-kinds
use Rattle.girderpeach.proofs.gp_philox_seek.Reads as philox-seek-reads
use Rattle.girderpeach.proofs.gp_philox_skip.Reads as philox-skip-reads
use Rattle.girderpeach.proofs.gp_xoshiro_fill.Reads as xoshiro-fill-reads
use Rattle.girderpeach.proofs.gp_xoshiro_jump_blocks.Reads as xoshiro-jump-reads
use Rattle.girderpeach.proofs.gp_xoshiro_new.Reads as xoshiro-new-reads
use Rattle.girderpeach.proofs.gp_xoshiro_skip.Reads as xoshiro-skip-reads
use Rattle.history.specs.Says.{Says}
use Rattle.history.specs.host.Philox as philox
use Rattle.history.specs.host.Xoshiro as xoshiro

pub record HostShips : Type 1 where
  -- the constructors
  pub xoshiro_new : Says xoshiro-new-reads.Asked xoshiro-new-reads.Learnt
      (λ κs a r e. xoshiro-calls.New a.0 a.1.0 a.1.1.0.now a.1.1.1.0.now r e.1.1.0.now e.1.1.1.0.now)
  pub philox_new : Says philox-new-reads.Asked philox-new-reads.Learnt
      (λ κs a r e. philox-calls.New a.0 a.1.0 a.1.1.0.now r e.1.1.0.now)
  -- the fills
  pub xoshiro_fill : Says xoshiro-fill-reads.Asked xoshiro-fill-reads.Learnt
      (λ κs a r e. xoshiro.Step a.0.now (xoshiro.fill a.1.0 a.1.1.0.now e.1.1.0.now r e.0.now))
  pub philox_fill : Says philox-fill-reads.Asked philox-fill-reads.Learnt
      (λ κs a r e. philox.Step a.0.now (philox.fill a.1.0 a.1.1.0.now e.1.1.0.now r e.0.now))
  -- a move, and a seek, whose argument is a u64
  pub xoshiro_jump_blocks : Says xoshiro-jump-reads.Asked xoshiro-jump-reads.Learnt
      (λ κs a r e. xoshiro.Step a.0.now (xoshiro.move a.1.0 a.1.1.0.now e.1.1.0.now r e.0.now))
  pub philox_seek : (κs : Lfts 1) (a : Dens κs philox-seek-kinds.ps) (r : _) (e : _) (u64 : a.1.0 < 2 ^ 64)
      → (philox-seek-reads.Asked κs a ≡ Unit {0})
      × (philox-seek-reads.Learnt κs a r e ≡ philox.Step a.0.now (philox.seek a.1.0 u64 r e.0.now))
  -- the skips
  pub xoshiro_skip : Says xoshiro-skip-reads.Asked xoshiro-skip-reads.Learnt
      (λ κs a r e. xoshiro.Step a.0.now (xoshiro.skip a.1.0 r e.0.now))
  pub philox_skip : Says philox-skip-reads.Asked philox-skip-reads.Learnt
      (λ κs a r e. philox.Step a.0.now (philox.skip a.1.0 r e.0.now))
  -- the draws left: no step
  pub philox_draws_left : Says philox-left-reads.Asked philox-left-reads.Learnt (λ κs a r e. r ≡ philox-calls.draws_left a.0.now)
  -- the label of the next draw
  pub philox_label : Says philox-label-reads.Asked philox-label-reads.Learnt
      (λ κs a r e. philox-calls.Labelled a.0.now a.1.0.now r e.1.0.now)
