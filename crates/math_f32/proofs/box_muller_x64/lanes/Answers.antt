use Rattle.math_f32.proofs.box_muller_x64.Whole.{radii, cosines, sines}
use Rattle.math_f32.proofs.box_muller_x64.lanes.Goals as goal

pub returns-clause-radii : goal.returns-clause-radii
returns-clause-radii c = radii c.args.u.now c.args.s.now c.told-u c.told-s c.logs.ensures c.roots.ensures

pub returns-clause-cosines : goal.returns-clause-cosines
returns-clause-cosines c = cosines c.args.u.now c.args.s.now c.told-u c.told-s c.logs.ensures c.roots.ensures c.turns.ensures.cosines

pub returns-clause-sines : goal.returns-clause-sines
returns-clause-sines c = sines c.args.u.now c.args.s.now c.told-u c.told-s c.logs.ensures c.roots.ensures c.turns.ensures.sines
