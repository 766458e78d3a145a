-- The calls on the form of an eight-lane generator.
use Rattle.std.specs.Prelude.{List, ◌≡◌, ℕ, ℤ}
use Rattle.base.specs.Refused.{unless}
use Rattle.saved.specs.fields.Fields.{size_of}
use Rattle.saved.specs.fields.Saved.{length_refusal}
use Rattle.saved.specs.xoshiro256pp.Form.{layout, form_of, loaded}
use Rattle.xoshiro.specs.x8.Calls.{engine, placed, moved_blocks}
use Rattle.xoshiro.specs.declared.x8.Xoshiro256ppX8.{Xoshiro256ppX8}
use Rattle.girderpeach.specs.Host.{first_of, Called, Forms, HostFill, HostSkip}

-- in a fill, what is refused of the form (1, 3) comes before what is refused of the kind (4) and of the length (5)
abbrev pub forms : Forms Xoshiro256ppX8
forms =
    record {
      engine = engine;
      refusal = λ s. (loaded s).refusal;
      refusal_by = λ s r. first_of (loaded s).refusal r;
      read = λ s. (loaded s).value;
      form = form_of;
    }

-- gp_xoshiro_fill
abbrev pub Filled : List ℕ → ℕ → List ℕ → ℤ → List ℕ → List ℕ → Type 0
Filled = HostFill forms

-- gp_xoshiro_new: only the length can be refused. A refused call leaves the number as it was
pub record New (seed block : ℕ) (form : List ℕ) (jumps : ℕ) (answer : ℤ) (form' : List ℕ) (jumps' : ℕ) : Type 0 where
  pub called : Called (length_refusal (size_of layout) form) 0 (form_of (placed seed block).rng) form form' answer
  pub counts : jumps' ≡ unless (length_refusal (size_of layout) form) (placed seed block).jumps jumps

-- gp_xoshiro_jump_blocks
pub record JumpedBlocks (n : ℕ) (form : List ℕ) (jumps : ℕ) (answer : ℤ) (form' : List ℕ) (jumps' : ℕ) : Type 0 where
  pub called : Called (loaded form).refusal 0 (form_of (moved_blocks n (loaded form).value).rng) form form' answer
  pub counts : jumps' ≡ unless (loaded form).refusal (moved_blocks n (loaded form).value).jumps jumps

-- gp_xoshiro_skip
abbrev pub Skipped : ℕ → List ℕ → ℤ → List ℕ → Type 0
Skipped = HostSkip forms
