-- The claims of specs/host. Assumes nothing.
use mathlib.Core.Path.{refl}
use Rattle.history.specs.host.Philox as philox
use Rattle.history.specs.host.Shipped.{HostShips}
use Rattle.history.specs.host.Xoshiro as xoshiro
use Rattle.history.proofs.host.PhiloxLists as philox-lists
use Rattle.history.proofs.host.XoshiroLists as xoshiro-lists

pub xoshiro_adds_up : xoshiro.HostAddsUp
xoshiro_adds_up = xoshiro-lists.host_adds_up

pub philox_adds_up : philox.HostAddsUp
philox_adds_up = philox-lists.host_adds_up

-- ---- each contract is its step, word for word
pub host_ships : HostShips
host_ships =
    record {
      xoshiro_new = λ κs a r e. (refl, refl);
      philox_new = λ κs a r e. (refl, refl);
      xoshiro_fill = λ κs a r e. (refl, refl);
      philox_fill = λ κs a r e. (refl, refl);
      xoshiro_jump_blocks = λ κs a r e. (refl, refl);
      philox_seek = λ κs a r e u64. (refl, refl);
      xoshiro_skip = λ κs a r e. (refl, refl);
      philox_skip = λ κs a r e. (refl, refl);
      philox_draws_left = λ κs a r e. (refl, refl);
      philox_label = λ κs a r e. (refl, refl);
    }
