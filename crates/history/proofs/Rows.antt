-- What fills left, row by row: the claims of `fills`, of any words of which each draw has eight. Assumes nothing.
use mathlib.Core.List.{List}
use Prim.Native.Nat.{ℕ}
use lib.Ieee.{binary32, binary64, to_bits}
use lib.ListN.{length}
use Rattle.fills.specs.Fill.{Kind}
use Rattle.fills.specs.Claims.{Eights, Places, BytePlaces, u64_at, u32_at, f32_at, f64_at, normal_f32_at, normal_f64_at, open01_f32_at, open01_f64_at}
use Rattle.fills.proofs.Theorems.{places-of-rows, bytes-of-rows}
use Rattle.history.specs.Rows.{PlacesOf, BytesOf, Rows}

module _ {W : ℕ → List ℕ} (e : Eights W) where
  places : {A : Type 0} {says : (ℕ → List ℕ) → ℕ → A} {K : Kind A} → Places says K → PlacesOf W says K
  places p before after draws h k b = p W e (length before) after h.writes k b

  bytes-places : {G A : Type 0} (says : (ℕ → List ℕ) → ℕ → A) (bits : A → ℕ) {number width : ℕ}
      → BytePlaces says bits number width → BytesOf G W says bits number width
  bytes-places says bits p before after g refusal draws g' h z k i b c = p W e (length before) after (h.writes z) k i b c

  pub rows : {G : Type 0} → Rows G W
  rows =
      record {
        eight = e;
        u64 = places places-of-rows.u64;
        u32 = places places-of-rows.u32;
        f32 = places places-of-rows.f32;
        f64 = places places-of-rows.f64;
        normal_f32 = places places-of-rows.normal_f32;
        normal_f64 = places places-of-rows.normal_f64;
        open01_f32 = places places-of-rows.open01_f32;
        open01_f64 = places places-of-rows.open01_f64;
        bytes1 = bytes-places u64_at (λ x. x) bytes-of-rows.bytes1;
        bytes2 = bytes-places u32_at (λ x. x) bytes-of-rows.bytes2;
        bytes3 = bytes-places f32_at (to_bits binary32) bytes-of-rows.bytes3;
        bytes4 = bytes-places f64_at (to_bits binary64) bytes-of-rows.bytes4;
        bytes5 = bytes-places normal_f32_at (to_bits binary32) bytes-of-rows.bytes5;
        bytes6 = bytes-places normal_f64_at (to_bits binary64) bytes-of-rows.bytes6;
        bytes7 = bytes-places open01_f32_at (to_bits binary32) bytes-of-rows.bytes7;
        bytes8 = bytes-places open01_f64_at (to_bits binary64) bytes-of-rows.bytes8;
      }
