-- The claims of specs/source/Claims.antt. Assumes nothing.
use Rattle.std.proofs.Common.{refl}
use Rattle.delivery.specs.source.Claims.{XoshiroDraws, PhiloxDraws, AtItsPlace, OneWordEach}
use Rattle.delivery.proofs.source.Engines.{drawn_1, drawn_2}
use Rattle.delivery.proofs.source.Places.{at_place, one_each}

pub xoshiro-draws : XoshiroDraws
xoshiro-draws seed block m = drawn_1 refl seed block m

pub philox-draws : PhiloxDraws
philox-draws engine seed block m h = drawn_2 h seed block m

pub at_its_place : AtItsPlace
at_its_place engine seed block i j h = at_place engine seed block i j h

pub one_word_each : OneWordEach
one_word_each engine b c i k j l = one_each engine b c i k j l
