-- The lists are lists of calls of the functions that ship: for each constructor from a seed, and each public function that moves a Philox
-- generator or draws from it, what a caller learns from its own contract is its call's step in a list, and it asks nothing. The draws left
-- and the label of the next draw, of which the lists tell after every call, are what the functions that answer them promise.
use Rattle.std.specs.Prelude.{◌≡◌, ◌-◌, ◌^◌, ◌<◌, min, length}
use contract.Lifetimes.{Lfts}
use borrow.Fn.Kinds.{Dens}
use Rattle.fills.specs.Kinds.{u64s, u32s, f32s, f64s, normal_f32s, normal_f64s, open01_f32s, open01_f64s}
use Rattle.philox.specs.draws.Draws.{draws_at_once}
use Rattle.philox.specs.x8.Machine.{fresh, label_of, left_of}
use Rattle.philox.proofs.draws.draw.Reads as draw-reads
use Rattle.philox.proofs.draws.draw_many.Reads as draw-many-reads
use Rattle.philox.proofs.x8.Philox4x32X8.blocks.Reads as blocks-reads
use Rattle.philox.proofs.x8.Philox4x32X8.draws_left.Reads as draws-left-reads
use Rattle.philox.proofs.x8.Philox4x32X8.from_seed.Reads as from-seed-reads
use Rattle.philox.proofs.x8.Philox4x32X8.label.Reads as label-reads
use Rattle.philox.proofs.x8.Philox4x32X8.new.Reads as new-reads
use Rattle.philox.proofs.x8.Philox4x32X8.next_u64x8.Reads as next-u64x8-reads
use Rattle.philox.proofs.x8.Philox4x32X8.seek.Kinds as seek-kinds
use Rattle.philox.proofs.x8.Philox4x32X8.seek.Reads as seek-reads
use Rattle.philox.proofs.x8.Philox4x32X8.skip.Reads as skip-reads
use Rattle.philox_fills.specs.Labelled.{answered}
use Rattle.philox_fills.proofs.bytes.fill_bytes.Reads as fill-bytes-reads
use Rattle.philox_fills.proofs.fill_words.fill_buffer.Reads as fill-buffer-reads
use Rattle.philox_fills.proofs.fill_words.fill_u64.Reads as fill-u64-reads
use Rattle.philox_fills.proofs.typed.fill_u32.Reads as fill-u32-reads
use Rattle.philox_fills.proofs.typed.fill_f32.Reads as fill-f32-reads
use Rattle.philox_fills.proofs.typed.fill_f64.Reads as fill-f64-reads
use Rattle.philox_fills.proofs.typed.fill_normal_f32.Reads as fill-normal-f32-reads
use Rattle.philox_fills.proofs.typed.fill_normal_f64.Reads as fill-normal-f64-reads
use Rattle.philox_fills.proofs.typed.fill_open01_f32.Reads as fill-open01-f32-reads
use Rattle.philox_fills.proofs.typed.fill_open01_f64.Reads as fill-open01-f64-reads
use Rattle.history.specs.Says.{Says}
use Rattle.history.specs.philox4x32.Calls.{draw, group, seek, fill, bytes, many, skip, Step}

pub record PhiloxShips : Type 1 where
  -- the constructors: any stream of a seed, and stream 0 of it
  pub new : Says new-reads.Asked new-reads.Learnt (λ κs a r e. r ≡ fresh a.0 a.1.0)
  pub from_seed : Says from-seed-reads.Asked from-seed-reads.Learnt (λ κs a r e. r ≡ fresh a.0 0)
  -- a draw, and the same made as fills make it; a group call; a seek, whose argument is a u64
  pub next_u64x8 : Says next-u64x8-reads.Asked next-u64x8-reads.Learnt (λ κs a r e. Step a.0 (draw r))
  pub draws_draw : Says draw-reads.Asked draw-reads.Learnt (λ κs a r e. Step a.0 (draw r))
  pub blocks : Says blocks-reads.Asked blocks-reads.Learnt (λ κs a r e. Step a.0 (group r))
  pub seeks : (κs : Lfts 0) (a : Dens κs seek-kinds.ps) (r : _) (e : _) (u64 : a.1.0 < 2 ^ 64)
      → (seek-reads.Asked κs a ≡ Unit {0}) × (seek-reads.Learnt κs a r e ≡ Step a.0 (seek a.1.0 u64 r))
  -- n draws
  pub skips : Says skip-reads.Asked skip-reads.Learnt (λ κs a r e. Step a.0 (skip a.1.0 r))
  -- the draws left: no step
  pub draws_left : Says draws-left-reads.Asked draws-left-reads.Learnt (λ κs a r e. r ≡ left_of a.0)
  -- the label of the next draw: no step
  pub label : Says label-reads.Asked label-reads.Learnt (λ κs a r e. r ≡ label_of a.0)
  -- the fills
  pub fill_u64 : Says fill-u64-reads.Asked fill-u64-reads.Learnt (λ κs a r e. Step a.0 (fill u64s a.1.0.now e.1.0.now r))
  pub fill_u32 : Says fill-u32-reads.Asked fill-u32-reads.Learnt (λ κs a r e. Step a.0 (fill u32s a.1.0.now e.1.0.now r))
  pub fill_f32 : Says fill-f32-reads.Asked fill-f32-reads.Learnt (λ κs a r e. Step a.0 (fill f32s a.1.0.now e.1.0.now r))
  pub fill_f64 : Says fill-f64-reads.Asked fill-f64-reads.Learnt (λ κs a r e. Step a.0 (fill f64s a.1.0.now e.1.0.now r))
  pub fill_normal_f32 : Says fill-normal-f32-reads.Asked fill-normal-f32-reads.Learnt
      (λ κs a r e. Step a.0 (fill normal_f32s a.1.0.now e.1.0.now r))
  pub fill_normal_f64 : Says fill-normal-f64-reads.Asked fill-normal-f64-reads.Learnt
      (λ κs a r e. Step a.0 (fill normal_f64s a.1.0.now e.1.0.now r))
  pub fill_open01_f32 : Says fill-open01-f32-reads.Asked fill-open01-f32-reads.Learnt
      (λ κs a r e. Step a.0 (fill open01_f32s a.1.0.now e.1.0.now r))
  pub fill_open01_f64 : Says fill-open01-f64-reads.Asked fill-open01-f64-reads.Learnt
      (λ κs a r e. Step a.0 (fill open01_f64s a.1.0.now e.1.0.now r))
  pub fill_bytes : Says fill-bytes-reads.Asked fill-bytes-reads.Learnt
      (λ κs a r e. Step a.0 (bytes a.1.0 a.1.1.0.now e.1.1.0.now (answered a.0 r)))
  -- many draws at once: the one that waits, or as many whole groups as there is room for
  pub draw_many : Says draw-many-reads.Asked draw-many-reads.Learnt
      (λ κs a r e.
      let m = draws_at_once a.0 (length a.1.0.now - a.1.1.0) in
      Step a.0 (many a.1.1.0 m a.1.0.now e.1.0.now r.draws r.label r.rng))
  -- m draws, at most 16, into a buffer
  pub fill_buffer : Says fill-buffer-reads.Asked fill-buffer-reads.Learnt
      (λ κs a r e. Step a.0 (many 0 (min 16 a.1.1.0) a.1.0.now e.1.0.now r.draws r.label r.rng))
