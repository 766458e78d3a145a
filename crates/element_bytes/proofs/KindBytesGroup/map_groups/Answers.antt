use mathlib.Core.Path.{ap}
use Rattle.fills.specs.Kinds.{kind_at}
use Rattle.fills.specs.Numbers.{number_of}
use Rattle.element_bytes.proofs.Numbers.{mapped_by}
use Rattle.element_bytes.proofs.KindBytesGroup.map_groups.Goals as goal

pub returns-in-U64 : goal.returns-in-U64
unfolding kind_at
returns-in-U64 c = mapped_by _ _ _ _ 1 (ap number_of c.in-U64.is) c.map_groups.ensures

pub returns-in-U32 : goal.returns-in-U32
unfolding kind_at
returns-in-U32 c = mapped_by _ _ _ _ 2 (ap number_of c.in-U32.is) c.map_groups-in-U32.ensures

pub returns-in-F32 : goal.returns-in-F32
unfolding kind_at
returns-in-F32 c = mapped_by _ _ _ _ 3 (ap number_of c.in-F32.is) c.map_groups-in-F32.ensures

pub returns-in-F64 : goal.returns-in-F64
unfolding kind_at
returns-in-F64 c = mapped_by _ _ _ _ 4 (ap number_of c.in-F64.is) c.map_groups-in-F64.ensures

pub returns-in-NormalF32 : goal.returns-in-NormalF32
unfolding kind_at
returns-in-NormalF32 c = mapped_by _ _ _ _ 5 (ap number_of c.in-NormalF32.is) c.map_groups-in-NormalF32.ensures

pub returns-in-NormalF64 : goal.returns-in-NormalF64
unfolding kind_at
returns-in-NormalF64 c = mapped_by _ _ _ _ 6 (ap number_of c.in-NormalF64.is) c.map_groups-in-NormalF64.ensures

pub returns-in-Open01F32 : goal.returns-in-Open01F32
unfolding kind_at
returns-in-Open01F32 c = mapped_by _ _ _ _ 7 (ap number_of c.in-Open01F32.is) c.map_groups-in-Open01F32.ensures

pub returns-in-Open01F64 : goal.returns-in-Open01F64
unfolding kind_at
returns-in-Open01F64 c = mapped_by _ _ _ _ 8 (ap number_of c.in-Open01F64.is) c.map_groups-in-Open01F64.ensures
