-- What the fills of a list of calls left in their slices, place by place and byte by byte, as the scope document's table says it of the
-- words of their draws, W 0 first, whatever the engine.
use Rattle.std.specs.Prelude.{List, ◌≡◌, ℕ, ◌+◌, ◌*◌, ◌/◌, ◌%◌, ◌^◌, ◌<◌, length, get_or}
use Rattle.std.specs.Float.{binary32, binary64}
use Rattle.std.specs.Float.Ieee.{to_bits}
use Rattle.fills.specs.Fill.{Kind}
use Rattle.fills.specs.Kinds.{u64s, u32s, f32s, f64s, normal_f32s, normal_f64s, open01_f32s, open01_f64s}
use Rattle.fills.specs.Claims.{Eights, u64_at, u32_at, f32_at, f64_at, normal_f32_at, normal_f64_at, open01_f32_at, open01_f64_at}
use Rattle.fills.specs.Handed.{RightFill, RightBytes}

-- place k of a typed fill holds element k of the row
abbrev pub PlacesOf : (ℕ → List ℕ) → {A : Type 0} → ((ℕ → List ℕ) → ℕ → A) → Kind A → Type 0
PlacesOf W {A} says K =
    (before after : List A) (draws : ℕ) → RightFill W K before after draws
    → (k : ℕ) → k < length before → get_or after k K.blank ≡ says W k

-- of an accepted byte fill of a number, byte i of element k, the lowest first, stands at k * width + i
abbrev pub BytesOf : (G : Type 0) → (ℕ → List ℕ) → {A : Type 0} → ((ℕ → List ℕ) → ℕ → A) → (A → ℕ) → ℕ → ℕ → Type 0
BytesOf G W says bits number width =
    (before after : List ℕ) (g : G) (refusal draws : ℕ) (g' : G) → RightBytes W number before after g refusal draws g'
    → refusal ≡ 0 → (k i : ℕ) → k < length before / width → i < width
    → get_or after (k * width + i) 0 ≡ bits (says W k) / 256 ^ i % 256

-- of an engine with generators of type G
pub record Rows (G : Type 0) (W : ℕ → List ℕ) : Type 0 where
  -- each draw has eight words
  pub eight : Eights W
  pub u64 : PlacesOf W u64_at u64s
  pub u32 : PlacesOf W u32_at u32s
  pub f32 : PlacesOf W f32_at f32s
  pub f64 : PlacesOf W f64_at f64s
  pub normal_f32 : PlacesOf W normal_f32_at normal_f32s
  pub normal_f64 : PlacesOf W normal_f64_at normal_f64s
  pub open01_f32 : PlacesOf W open01_f32_at open01_f32s
  pub open01_f64 : PlacesOf W open01_f64_at open01_f64s
  pub bytes1 : BytesOf G W u64_at (λ x. x) 1 8
  pub bytes2 : BytesOf G W u32_at (λ x. x) 2 4
  pub bytes3 : BytesOf G W f32_at (to_bits binary32) 3 4
  pub bytes4 : BytesOf G W f64_at (to_bits binary64) 4 8
  pub bytes5 : BytesOf G W normal_f32_at (to_bits binary32) 5 4
  pub bytes6 : BytesOf G W normal_f64_at (to_bits binary64) 6 8
  pub bytes7 : BytesOf G W open01_f32_at (to_bits binary32) 7 4
  pub bytes8 : BytesOf G W open01_f64_at (to_bits binary64) 8 8
