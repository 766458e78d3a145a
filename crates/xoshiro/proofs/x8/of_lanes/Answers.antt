use Rattle.std.proofs.Common.{rules, get_or}
use Rattle.base.specs.Quad.{rows_of}
use Rattle.base.proofs.Maps.{mapped_by}
use Rattle.xoshiro.specs.declared.scalar.Xoshiro256pp.{Xoshiro256pp}
use Rattle.xoshiro.specs.x8.Calls.{of_lanes, no_lane}
use Rattle.xoshiro.proofs.x8.of_lanes.Goals as goal

pub returns : goal.returns
unfolding of_lanes rows_of
returns c =
    let lanes = c.args.lanes in
    let s0 = mapped_by _ (λ (g : Xoshiro256pp). get_or g.s 0 0) no_lane lanes (λ q x y k. (search rules, search rules)) c.map.ensures.items in
    let s1 = mapped_by _ (λ (g : Xoshiro256pp). get_or g.s 1 0) no_lane lanes (λ q x y k. (search rules, search rules)) c.map-2.ensures.items in
    let s2 = mapped_by _ (λ (g : Xoshiro256pp). get_or g.s 2 0) no_lane lanes (λ q x y k. (search rules, search rules)) c.map-3.ensures.items in
    let s3 = mapped_by _ (λ (g : Xoshiro256pp). get_or g.s 3 0) no_lane lanes (λ q x y k. (search rules, search rules)) c.map-4.ensures.items in
    λ i. record { s0 = s0 i; s1 = s1 i; s2 = s2 i; s3 = s3 i }
