-- The claims of specs/xoshiro256pp. Assumes nothing.
use mathlib.Core.List.{List, [], ◌∷◌}
use mathlib.Core.Path.{◌≡◌, refl, sym, ap, ◌∙◌, subst}
use Prim.Native.Nat.{ℕ, ◌+◌}
use native.Mathlib.Nat.{add-zero}
use native.Mathlib.Omega.{arith}
use Rattle.base.specs.Iterate.{iterate}
use Rattle.base.proofs.Iterate.{iterate_keeps}
use Rattle.base.proofs.Lists.{along}
use Rattle.base.proofs.Table.{length-table}
use Rattle.fills.specs.Claims.{Eights}
use Rattle.fills.proofs.Handed.{right_fill, right_bytes, draws-made, draws-reported}
use Rattle.saved.specs.xoshiro256pp.Claims.{Restored}
use Rattle.saved.proofs.xoshiro256pp.Sound.{Sound, sound_placed, sound_lanes, sound_loaded, sound_next, sound_moved}
use Rattle.saved.proofs.xoshiro256pp.Theorems.{load_saved}
use Rattle.xoshiro_steps.specs.Xoshiro256pp.{State}
use Rattle.xoshiro.specs.scalar.Seeded.{seeded}
use Rattle.xoshiro.specs.x8.Calls.{drawn, next_of, block_jumps, placed, moved_blocks}
use Rattle.xoshiro.specs.declared.x8.Placed.{Placed}
use Rattle.xoshiro.specs.declared.x8.Xoshiro256ppX8.{Xoshiro256ppX8}
use Rattle.xoshiro.proofs.x8.Theorems.{lanes_start}
use Rattle.xoshiro.proofs.scalar.Theorems.{seed_distance}
use Rattle.history.specs.xoshiro256pp.Calls.{Call, draw, fill, bytes, move, many, skip, Step, rng_of, rng_after, Run}
use Rattle.history.specs.xoshiro256pp.History.{draws_reported, jumps_reported, draws_counted, jumps_counted, D}
use Rattle.history.specs.xoshiro256pp.History.{J, words_at, Right, History, DrawsAddUp, Restores, RowsInLists}
use Rattle.history.specs.xoshiro256pp.Shipped.{XoshiroShips}
use Rattle.history.proofs.Draws.{right_draws}
use Rattle.history.proofs.Rows.{rows}
use Rattle.history.proofs.xoshiro256pp.Lanes.{At, at_same, at-draws, at-move, words-at}

-- one call: it reports what is counted, what it handed out is right, and the lanes stand where they should
record One (s : State) (d j : ℕ) (g : Xoshiro256ppX8) (c : Call) : Type 0 where
  draws : draws_reported c ≡ draws_counted c
  jumps : jumps_reported c ≡ jumps_counted c
  right : Right s d j g c
  at : At s (d + draws_counted c) (j + jumps_counted c) (rng_of c)

one : {s : State} {d j : ℕ} {g : Xoshiro256ppX8} → At s d j g → (c : Call) → Step g c → One s d j g c
unfolding drawn moved_blocks iterate
one {j = j} a (draw r) h =
    record {
      draws = refl;
      jumps = refl;
      right = ap (λ x. x.words) h ∙ words-at a;
      at = at_same (at-draws 1 a) refl (sym (add-zero j)) (ap (λ x. x.rng) h);
    }
one {d = d} {j = j} a (fill K before after r) h =
    record {
      draws = h.count;
      jumps = refl;
      right = right_fill _ (λ m. words-at (at-draws m a)) h;
      at = at_same (at-draws r.draws a) (ap (λ (n : ℕ). d + n) h.count) (sym (add-zero j)) h.state;
    }
one {d = d} {j = j} a (bytes k before after r) h =
    record {
      draws = draws-reported h ∙ draws-made h;
      jumps = refl;
      right = right_bytes h _ (λ m. words-at (at-draws m a));
      at = at_same (at-draws r.value.draws a) (ap (λ (n : ℕ). d + n) (draws-made h)) (sym (add-zero j)) h.state;
    }
one {d = d} a (move n r) h =
    record {
      draws = refl;
      jumps = ap (λ x. x.jumps) h;
      right = ap (λ x. x.jumps) h;
      at = at_same (at-move n a) (sym (add-zero d)) refl (ap (λ x. x.rng) h);
    }
one {j = j} a (many at m before after draws rng) h =
    record {
      draws = h.count;
      jumps = refl;
      right = right_draws _ (λ i. words-at (at-draws i a)) h;
      at = at_same (at-draws m a) refl (sym (add-zero j)) h.state;
    }
one {j = j} a (skip n rng) h = record { draws = refl; jumps = refl; right = tt; at = at_same (at-draws n a) refl (sym (add-zero j)) h }

pub draws_add_up : DrawsAddUp
unfolding placed iterate
draws_add_up seed b p calls e r = along r (History seed b p) begun more
  where
    begun : History seed b p []
    begun =
        let a : At (seeded seed) 0 (block_jumps b) (placed seed b).rng = record { lane = lanes_start seed b } in
        let at : At (seeded seed) 0 (J b []) p.rng = at_same a refl (omega arith) (ap (λ (x : Placed). x.rng) e) in
        record {
          draws = refl;
          jumps_total = omega (arith, ap (λ (x : Placed). x.jumps) e);
          lanes = at.lane;
          distance = λ i l. at.lane i l ∙ seed_distance seed (J b [] + i) 0;
          outputs = tt;
        }

    more : (c : Call) (calls : List Call) → History seed b p calls → Step (rng_after p.rng calls) c → History seed b p (c ∷ calls)
    more c calls w h =
        let o = one (record { lane = w.lanes }) c h in
        let at : At (seeded seed) (D (c ∷ calls)) (J b (c ∷ calls)) (rng_of c) = at_same o.at refl (omega arith) refl in
        record {
          draws = omega (arith, w.draws, o.draws);
          jumps_total = omega (arith, w.jumps_total, o.jumps);
          lanes = at.lane;
          distance = λ i l. at.lane i l ∙ seed_distance seed (J b (c ∷ calls) + i) (D (c ∷ calls));
          outputs = (o.right, w.outputs);
        }

-- ---- saved and loaded
sound_call : {g : Xoshiro256ppX8} → Sound g → (c : Call) → Step g c → Sound (rng_of c)
unfolding drawn
sound_call {g} s (draw r) h = subst Sound (sym (ap (λ x. x.rng) h)) (sound_next g s)
sound_call {g} s (fill K before after r) h = subst Sound (sym h.state) (iterate_keeps Sound next_of sound_next r.draws g s)
sound_call {g} s (bytes k before after r) h = subst Sound (sym h.state) (iterate_keeps Sound next_of sound_next r.value.draws g s)
sound_call {g} s (move n r) h = subst Sound (sym (ap (λ x. x.rng) h)) (sound_moved n g s)
sound_call {g} s (many at m before after draws rng) h = subst Sound (sym h.state) (iterate_keeps Sound next_of sound_next m g s)
sound_call {g} s (skip n rng) h = subst Sound (sym h) (iterate_keeps Sound next_of sound_next n g s)

after_calls : {g : Xoshiro256ppX8} → Sound g → (calls : List Call) → Run g calls → Restored (rng_after g calls)
after_calls {g} s calls r =
    let k : Sound (rng_after g calls) = along r (λ calls. Sound (rng_after g calls)) s (λ c calls w h. sound_call w c h) in
    load_saved (rng_after g calls) k.words k.nonzero

pub restores : Restores
restores =
    record {
      from_block = λ seed b. after_calls (sound_placed seed b);
      from_lanes = λ lanes e w ok. after_calls (sound_lanes lanes e w ok);
      from_form = λ form b ok. after_calls (sound_loaded form b ok);
    }

-- ---- each contract is its step, word for word
pub xoshiro_ships : XoshiroShips
xoshiro_ships =
    record {
      from_seed = λ κs a r e. (refl, refl);
      from_seed_block = λ κs a r e. (refl, refl);
      from_lanes = λ κs a r e. (refl, refl);
      load = λ κs a r e. (refl, refl);
      save = λ κs a r e. (refl, refl);
      next_u64x8 = λ κs a r e. (refl, refl);
      skips = λ κs a r e. (refl, refl);
      jump_blocks = λ κs a r e. (refl, refl);
      fill_u64 = λ κs a r e. (refl, refl);
      fill_u32 = λ κs a r e. (refl, refl);
      fill_f32 = λ κs a r e. (refl, refl);
      fill_f64 = λ κs a r e. (refl, refl);
      fill_normal_f32 = λ κs a r e. (refl, refl);
      fill_normal_f64 = λ κs a r e. (refl, refl);
      fill_open01_f32 = λ κs a r e. (refl, refl);
      fill_open01_f64 = λ κs a r e. (refl, refl);
      fill_bytes = λ κs a r e. (refl, refl);
      draw_many = λ κs a r e. (refl, refl);
      fill_buffer = λ κs a r e. (refl, refl);
    }

-- ---- the rows of the table, of the fills in a list
eight : (s : State) (d j : ℕ) → Eights (λ m. words_at s (d + m) j)
unfolding words_at
eight s d j m = length-table 8 _

pub rows_in_lists : RowsInLists
rows_in_lists s d j = rows (eight s d j)
