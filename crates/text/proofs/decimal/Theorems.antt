-- The claims of specs/decimal/Claims.antt. Assumes nothing.
use Rattle.text.specs.decimal.Claims.{ReadWritten, NumberSound}
use Rattle.text.proofs.decimal.Written as written
use Rattle.text.proofs.decimal.Sound as sound

pub read_written : ReadWritten
read_written = written.read_written

pub number_sound : NumberSound
number_sound = sound.number_sound
