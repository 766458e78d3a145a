use mathlib.Core.Path.{sym, ap, ◌∙◌}
use Rattle.fills.specs.Kinds.{kind_at}
use Rattle.fills.specs.Numbers.{number_of}
use Rattle.element_bytes.proofs.Numbers.{grouped_by}
use Rattle.element_bytes.proofs.put_group.Goals as goal

pub returns-in-U64 : goal.returns-in-U64
unfolding kind_at
returns-in-U64 c = grouped_by c.args.kind _ _ _ 1 (sym (ap number_of c.in-U64.is) ∙ c.kind_of.ensures) c.put_group.ensures

pub returns-in-U32 : goal.returns-in-U32
unfolding kind_at
returns-in-U32 c = grouped_by c.args.kind _ _ _ 2 (sym (ap number_of c.in-U32.is) ∙ c.kind_of.ensures) c.put_group-in-U32.ensures

pub returns-in-F32 : goal.returns-in-F32
unfolding kind_at
returns-in-F32 c = grouped_by c.args.kind _ _ _ 3 (sym (ap number_of c.in-F32.is) ∙ c.kind_of.ensures) c.put_group-in-F32.ensures

pub returns-in-F64 : goal.returns-in-F64
unfolding kind_at
returns-in-F64 c = grouped_by c.args.kind _ _ _ 4 (sym (ap number_of c.in-F64.is) ∙ c.kind_of.ensures) c.put_group-in-F64.ensures

pub returns-in-NormalF32 : goal.returns-in-NormalF32
unfolding kind_at
returns-in-NormalF32 c = grouped_by c.args.kind _ _ _ 5 (sym (ap number_of c.in-NormalF32.is) ∙ c.kind_of.ensures) c.put_group-in-NormalF32.ensures

pub returns-in-NormalF64 : goal.returns-in-NormalF64
unfolding kind_at
returns-in-NormalF64 c = grouped_by c.args.kind _ _ _ 6 (sym (ap number_of c.in-NormalF64.is) ∙ c.kind_of.ensures) c.put_pair.ensures

pub returns-in-Open01F32 : goal.returns-in-Open01F32
unfolding kind_at
returns-in-Open01F32 c = grouped_by c.args.kind _ _ _ 7 (sym (ap number_of c.in-Open01F32.is) ∙ c.kind_of.ensures) c.put_group-in-Open01F32.ensures

pub returns-in-Open01F64 : goal.returns-in-Open01F64
unfolding kind_at
returns-in-Open01F64 c = grouped_by c.args.kind _ _ _ 8 (sym (ap number_of c.in-Open01F64.is) ∙ c.kind_of.ensures) c.put_group-in-Open01F64.ensures
