-- Bytes that stand one after another: those of eight elements as one list, and a number whose high bytes are missing. Assumes nothing.
use mathlib.Core.Path.{◌≡◌, refl, sym, ap, ◌∙◌}
use mathlib.Core.List.{List, [], ◌∷◌, ◌++◌, map, map-append, append-nil}
use Prim.Native.Nat.{ℕ, zero, suc, ◌+◌, ◌*◌, ◌<◌}
use native.Mathlib.Omega.{arith}
use lib.ListN.{length, get_or, take, drop}
use lib.Seq.{take_all, drop-cons}
use Rattle.std.proofs.lemmas.List.{drop_all}
use Rattle.std.specs.Int.{from_le_bytes, w64}
use Rattle.std.specs.List.{flat_map}
use Rattle.base.specs.Bytes.{le_nat, flat}
use Rattle.base.specs.Stored.{stored}
use Rattle.base.proofs.Stored.{stored-first, length-stored}

-- the arrays of a `map`, as one list
pub flat_mapped : {A : Type 0} (f : A → List ℕ) (xs : List A) → flat_map (λ (x : List ℕ). x) (map f xs) ≡ flat f xs
unfolding flat
flat_mapped f [] = refl
flat_mapped f (x ∷ xs) = ap (λ (l : List ℕ). f x ++ l) (flat_mapped f xs)

pub two_mapped : {A : Type 0} (f : A → List ℕ) (xs ys : List A) {m n : List (List ℕ)} → m ≡ map f xs → n ≡ map f ys
    → flat_map (λ (x : List ℕ). x) (m ++ (n ++ [])) ≡ flat f (xs ++ ys)
two_mapped f xs ys p q =
    (λ i. flat_map (λ (x : List ℕ). x) (p i ++ append-nil (q i) i))
    ∙ ap (flat_map (λ (x : List ℕ). x)) (sym (map-append f xs ys))
    ∙ flat_mapped f (xs ++ ys)

-- zeros at the end don't count
more_zeros : (xs zs : List ℕ) → le_nat zs ≡ 0 → le_nat (xs ++ zs) ≡ le_nat xs
more_zeros [] zs e = e
more_zeros (x ∷ xs) zs e = ap (λ (k : ℕ). x + 256 * k) (more_zeros xs zs e)

fewer_zeros : (k : ℕ) (zs : List ℕ) → le_nat zs ≡ 0 → le_nat (drop k zs) ≡ 0
fewer_zeros zero zs e = e
fewer_zeros (suc k) [] e = refl
fewer_zeros (suc k) (z ∷ zs) e = fewer_zeros k zs (omega arith)

-- std's number of eight bytes is this library's
byte_first : (l : List ℕ) (k j : ℕ) → k < length l → suc k ≡ j → le_nat (drop k l) ≡ get_or l k 0 + 256 * le_nat (drop j l)
byte_first l k j h e = ap le_nat (drop-cons l k 0 h ∙ ap (λ (i : ℕ). get_or l k 0 ∷ drop i l) e)

eight : (l : List ℕ) → length l ≡ 8 → from_le_bytes w64 l ≡ le_nat l
eight l e =
    let b0 = byte_first l 0 1 (omega arith) refl in
    let b1 = byte_first l 1 2 (omega arith) refl in
    let b2 = byte_first l 2 3 (omega arith) refl in
    let b3 = byte_first l 3 4 (omega arith) refl in
    let b4 = byte_first l 4 5 (omega arith) refl in
    let b5 = byte_first l 5 6 (omega arith) refl in
    let b6 = byte_first l 6 7 (omega arith) refl in
    let b7 = byte_first l 7 8 (omega arith) refl in
    omega (arith, ap le_nat (drop_all 8 l (omega arith)))

-- the first bytes of a word, over zeros
pub few_of_eight : (zs xs m : List ℕ) → length zs ≡ 8 → le_nat zs ≡ 0 → length xs < 8 → m ≡ stored zs 0 xs → from_le_bytes w64 m ≡ le_nat (take 8 xs)
few_of_eight zs xs m n e h s =
    eight m (ap length s ∙ length-stored zs 0 xs ∙ n)
    ∙ ap le_nat (s ∙ stored-first zs xs (omega arith))
    ∙ more_zeros xs (drop (length xs) zs) (fewer_zeros (length xs) zs e)
    ∙ ap le_nat (sym (take_all 8 xs (omega arith)))
