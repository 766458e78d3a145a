use Rattle.saved.proofs.xoshiro256pp.Form.{lane_read}
use Rattle.std.proofs.Common.{refl}
use Rattle.saved.proofs.xoshiro256pp.lane_in.Goals as goal

pub returns : goal.returns
returns c = lane_read _ _ c.requires refl c.word_at-s0.ensures c.word_at-s1.ensures c.word_at-s2.ensures c.word_at-s3.ensures
