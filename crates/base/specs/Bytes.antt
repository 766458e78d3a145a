-- Numbers as little-endian bytes.
use Rattle.std.specs.Prelude.{List, [], ◌∷◌, ◌++◌, ℕ, zero, suc, ◌+◌, ◌*◌, ◌/◌, ◌%◌}

-- the n low bytes of x, the lowest first
abbrev pub le_bytes : ℕ → ℕ → List ℕ
le_bytes zero x = []
le_bytes (suc n) x = x % 256 ∷ le_bytes n (x / 256)

-- the number that bytes stand for, the lowest byte first
abbrev pub le_nat : List ℕ → ℕ
le_nat [] = 0
le_nat (b ∷ bs) = b + 256 * le_nat bs

-- the bytes of each element, one element after another
unfoldable pub flat : {A : Type 0} → (A → List ℕ) → List A → List ℕ
flat f [] = []
flat f (x ∷ xs) = f x ++ flat f xs
