-- The lists are lists of calls of the functions that ship: for each constructor, and each public function that moves an eight-lane
-- generator or draws from it, what a caller learns from its own contract is its call's step in a list, and it asks nothing.
use Rattle.std.specs.Prelude.{◌≡◌, ◌/◌, min, length}
use Rattle.base.specs.Refusal.{answer_of, refusal_in}
use Rattle.fills.specs.Kinds.{u64s, u32s, f32s, f64s, normal_f32s, normal_f64s, open01_f32s, open01_f64s}
use Rattle.saved.specs.fields.Fields.{size_of}
use Rattle.saved.specs.fields.Saved.{Saved}
use Rattle.saved.specs.xoshiro256pp.Form.{layout, form_of, loaded}
use Rattle.saved.proofs.xoshiro256pp.load.Reads as load-reads
use Rattle.saved.proofs.xoshiro256pp.save.Reads as save-reads
use Rattle.xoshiro.specs.x8.Calls.{placed, blank8, from_lanes}
use Rattle.xoshiro.proofs.draws.draw_many.Reads as draw-many-reads
use Rattle.xoshiro.proofs.x8.Xoshiro256ppX8.from_lanes.Reads as from-lanes-reads
use Rattle.xoshiro.proofs.x8.Xoshiro256ppX8.from_seed.Reads as from-seed-reads
use Rattle.xoshiro.proofs.x8.Xoshiro256ppX8.from_seed_block.Reads as from-seed-block-reads
use Rattle.xoshiro.proofs.x8.Xoshiro256ppX8.jump_blocks.Reads as jump-blocks-reads
use Rattle.xoshiro.proofs.x8.Xoshiro256ppX8.next_u64x8.Reads as next-u64x8-reads
use Rattle.xoshiro.proofs.x8.Xoshiro256ppX8.skip.Reads as skip-reads
use Rattle.xoshiro_fills.specs.Answered.{answered}
use Rattle.xoshiro_fills.proofs.bytes.fill_bytes.Reads as fill-bytes-reads
use Rattle.xoshiro_fills.proofs.fill_words.fill_buffer.Reads as fill-buffer-reads
use Rattle.xoshiro_fills.proofs.fill_words.fill_u64.Reads as fill-u64-reads
use Rattle.xoshiro_fills.proofs.typed.fill_u32.Reads as fill-u32-reads
use Rattle.xoshiro_fills.proofs.typed.fill_f32.Reads as fill-f32-reads
use Rattle.xoshiro_fills.proofs.typed.fill_f64.Reads as fill-f64-reads
use Rattle.xoshiro_fills.proofs.typed.fill_normal_f32.Reads as fill-normal-f32-reads
use Rattle.xoshiro_fills.proofs.typed.fill_normal_f64.Reads as fill-normal-f64-reads
use Rattle.xoshiro_fills.proofs.typed.fill_open01_f32.Reads as fill-open01-f32-reads
use Rattle.xoshiro_fills.proofs.typed.fill_open01_f64.Reads as fill-open01-f64-reads
use Rattle.history.specs.Says.{Says}
use Rattle.history.specs.xoshiro256pp.Calls.{draw, fill, bytes, move, many, skip, Step}

pub record XoshiroShips : Type 1 where
  -- the constructors: block 0 of a seed, any block of it, eight lanes, and a form
  pub from_seed : Says from-seed-reads.Asked from-seed-reads.Learnt (λ κs a r e. r ≡ placed a.0 0)
  pub from_seed_block : Says from-seed-block-reads.Asked from-seed-block-reads.Learnt (λ κs a r e. r ≡ placed a.0 a.1.0)
  pub from_lanes : Says from-lanes-reads.Asked from-lanes-reads.Learnt (λ κs a r e. answer_of blank8 r ≡ from_lanes a.0)
  pub load : Says load-reads.Asked load-reads.Learnt (λ κs a r e. answer_of blank8 r ≡ loaded a.0.now)
  -- the form of a generator: no step
  pub save : Says save-reads.Asked save-reads.Learnt (λ κs a r e. Saved (size_of layout) (form_of a.0) a.1.0.now e.1.0.now (refusal_in r))
  -- a draw, n draws, and a block move
  pub next_u64x8 : Says next-u64x8-reads.Asked next-u64x8-reads.Learnt (λ κs a r e. Step a.0 (draw r))
  pub skips : Says skip-reads.Asked skip-reads.Learnt (λ κs a r e. Step a.0 (skip a.1.0 r))
  pub jump_blocks : Says jump-blocks-reads.Asked jump-blocks-reads.Learnt (λ κs a r e. Step a.0 (move a.1.0 r))
  -- the fills
  pub fill_u64 : Says fill-u64-reads.Asked fill-u64-reads.Learnt (λ κs a r e. Step a.0 (fill u64s a.1.0.now e.1.0.now r))
  pub fill_u32 : Says fill-u32-reads.Asked fill-u32-reads.Learnt (λ κs a r e. Step a.0 (fill u32s a.1.0.now e.1.0.now r))
  pub fill_f32 : Says fill-f32-reads.Asked fill-f32-reads.Learnt (λ κs a r e. Step a.0 (fill f32s a.1.0.now e.1.0.now r))
  pub fill_f64 : Says fill-f64-reads.Asked fill-f64-reads.Learnt (λ κs a r e. Step a.0 (fill f64s a.1.0.now e.1.0.now r))
  pub fill_normal_f32 : Says fill-normal-f32-reads.Asked fill-normal-f32-reads.Learnt
      (λ κs a r e. Step a.0 (fill normal_f32s a.1.0.now e.1.0.now r))
  pub fill_normal_f64 : Says fill-normal-f64-reads.Asked fill-normal-f64-reads.Learnt
      (λ κs a r e. Step a.0 (fill normal_f64s a.1.0.now e.1.0.now r))
  pub fill_open01_f32 : Says fill-open01-f32-reads.Asked fill-open01-f32-reads.Learnt
      (λ κs a r e. Step a.0 (fill open01_f32s a.1.0.now e.1.0.now r))
  pub fill_open01_f64 : Says fill-open01-f64-reads.Asked fill-open01-f64-reads.Learnt
      (λ κs a r e. Step a.0 (fill open01_f64s a.1.0.now e.1.0.now r))
  pub fill_bytes : Says fill-bytes-reads.Asked fill-bytes-reads.Learnt
      (λ κs a r e. Step a.0 (bytes a.1.0 a.1.1.0.now e.1.1.0.now (answered a.0 r)))
  -- many draws at once: as many as are asked for, or as there is room for
  pub draw_many : Says draw-many-reads.Asked draw-many-reads.Learnt
      (λ κs a r e. let m = min (length a.1.0.now / 8) a.1.1.0 in Step a.0 (many 0 m a.1.0.now e.1.0.now m r))
  -- m draws, at most 16, into a buffer
  pub fill_buffer : Says fill-buffer-reads.Asked fill-buffer-reads.Learnt
      (λ κs a r e. Step a.0 (many 0 (min 16 a.1.1.0) a.1.0.now e.1.0.now r.draws r.rng))
