-- The claims of specs/hexfloat/Claims.antt. Assumes nothing.
use Rattle.std.proofs.Common.{◌∙◌}
use lib.Ieee.{binary32, binary64, of_bits}
use lib.Ieee.Bits.{of_bits-to_bits, to_bits-lt, of_bits-fits}
use lib.Ieee.Fits.{fits_widens}
use Rattle.text.specs.hexfloat.Text.{widened}
use Rattle.text.specs.hexfloat.Claims.{Denotes, DenotesSingle, AtMost24}
use Rattle.text.proofs.hexfloat.Laws.{text_few}
use Rattle.text.proofs.hexfloat.Denotes as denoting

pub denotes : Denotes
denotes = denoting.denotes

pub denotes_single : DenotesSingle
unfolding widened
denotes_single b h =
    let x = of_bits binary32 b in
    let f = fits_widens x (of_bits-fits binary32 b) in
    denotes _ (to_bits-lt binary64 x f) ∙ of_bits-to_bits binary64 x f

pub at_most_24 : AtMost24
at_most_24 = text_few
