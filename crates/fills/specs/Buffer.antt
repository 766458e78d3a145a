-- Words drawn ahead into a buffer of 16 draws, and the groups made of them: how the fills work, no part of what they promise.
use Rattle.std.specs.Prelude.{Bool, List, ℕ, zero, suc, ◌+◌, ◌*◌, ◌/◌, min, Float}
use Rattle.std.specs.Float.{binary64}
use Rattle.base.specs.Engine.{draw_of}
use Rattle.base.specs.Bytes.{flat}
use Rattle.base.specs.Stored.{stored}
use Rattle.floats.specs.units.Unit.{unit_of}
use Rattle.fills.specs.Fill.{Kind, round_up}
use Rattle.fills.specs.Kinds.{u64s, floats_of}
use Rattle.fills.specs.FillBytes.{bytes_of}

-- the groups that n places begin, at most as many as a buffer has draws for
abbrev pub groups_ahead : {A : Type 0} → Kind A → ℕ → ℕ
groups_ahead K n = min (round_up n K.places) (16 / K.draws)

-- and their draws
abbrev pub draws_ahead : {A : Type 0} → Kind A → ℕ → ℕ
draws_ahead K n = K.draws * groups_ahead K n

-- l with the first q groups of a buffer's draws stored from at on, as far as l has places
unfoldable pub stored_groups : {A : Type 0} → Kind A → List ℕ → List A → ℕ → ℕ → List A
stored_groups K b l at zero = l
stored_groups K b l at (suc j) = stored (stored_groups K b l at j) (at + j * K.places) (K.group (λ m. draw_of b (K.draws * j + m)))

-- kind 8, or kind 4, whose groups are made alike
abbrev pub either_f64s : Bool → Kind Float
either_f64s nonzero = floats_of binary64 (unit_of binary64 nonzero) u64s

-- the kind whose elements are the bytes of another's
abbrev pub bytes_kind : {A : Type 0} → Kind A → Kind ℕ
bytes_kind K = record { places = K.places * K.width; draws = K.draws; group = λ W. flat (bytes_of K) (K.group W); width = 1; bits = λ x. x; blank = 0 }
