-- A number's decimal digits in ASCII, the most significant first, as C's printf("%u") writes them.
use Rattle.std.specs.Prelude.{ℕ, zero, suc, ◌+◌, ◌/◌, ◌%◌, true, false, List, [], ◌∷◌, ◌++◌, nat_lt}

-- the digits of n, where k bounds how many more may stand in front of the last one
unfoldable pub decimal_on : ℕ → ℕ → List ℕ
decimal_on zero n = (48 + n) ∷ []
decimal_on (suc k) n = elim (nat_lt n 10) [ true ↦ (48 + n) ∷ [] | false ↦ decimal_on k (n / 10) ++ ((48 + n % 10) ∷ []) ]

-- the digits of n with no zero in front: a number n has fewer than n digits after its first, or none
unfoldable pub decimal : ℕ → List ℕ
unfolding decimal_on
decimal n = decimal_on n n

-- the last k digits of n in a base, with zeros in front where n has fewer; `digit` says which byte stands for each
unfoldable pub last_digits : (base : ℕ) → (ℕ → ℕ) → (k n : ℕ) → List ℕ
last_digits base digit zero n = []
last_digits base digit (suc k) n = last_digits base digit k (n / base) ++ (digit (n % base) ∷ [])

-- the last k decimal digits of n
abbrev pub padded : (k n : ℕ) → List ℕ
padded k n = last_digits 10 (λ d. 48 + d) k n
