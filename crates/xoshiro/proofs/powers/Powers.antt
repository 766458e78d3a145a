-- A table whose words are those of the certified powers takes a state as far as they do. Assumes nothing.
use Rattle.std.proofs.Common.{ℕ, ◌+◌, ◌≤◌, Bool, T, List, arith}
use Rattle.base.specs.Every.{every}
use Rattle.base.specs.Table.{table}
use Rattle.base.proofs.Every.{every-table}
use Rattle.xoshiro_steps.proofs.Distance.{is_power, power-is}
use Rattle.xoshiro.specs.powers.Powers.{entry_of, Powers}

-- computed: entry j has the words of the polynomial of 2 ^ (e + j) steps
abbrev pub are_powers : ℕ → List ℕ → Bool
are_powers e entries = every (λ j. is_power (e + j) (entry_of entries j)) (table 64 (λ j. j))

pub powers_by : (e : ℕ) → e ≤ 128 → (entries : List ℕ) → T (are_powers e entries) → Powers e entries
unfolding Powers
powers_by e h entries t j l s w =
    power-is (e + j) (omega arith) (entry_of entries j) (every-table (λ i. is_power (e + i) (entry_of entries i)) 64 (λ i. i) t j l) s w
