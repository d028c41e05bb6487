use Rattle.std.proofs.Common.{Some}
use mathlib.Core.Path.{refl}
use Prim.Native.Nat.{◌-◌, ◌<◌, ◌≤◌}
use native.Mathlib.Omega.{arith}
use Rattle.merger_rules.proofs.Snaps.{snap_one, snap_far, snap_behind, snapped_half, snapped_ge, snapped_le}
use Rattle.merger_rules.proofs.snapping.Goals as goal

pub returns : goal.returns
returns c = record {
  near = λ l o h k. (snapped_ge (Some l) o, snapped_half l o h);
  close = λ l o h k. let w : o - l < 192 = omega arith in snap_one l o h w;
  far = λ l o h. let k : l < o = omega arith in let w : 6144 ≤ o - l = omega arith in snap_far l o k w;
  behind = snap_behind;
  first = λ o. refl;
  any = λ last o. (snapped_ge last o, snapped_le last o);
}
