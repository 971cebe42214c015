use Rattle.std.proofs.Common.{◌<◌, length, get_or, sym, ap, subst, length-set, arith}
use borrow.Author.Rules.{rules}
use Rattle.std.specs.Slice.Iter.{iter_rest}
use Rattle.std.specs.Iterator.Adapters.{zip_first, zip_second}
use Rattle.descent.proofs.Moved.{spread_first, inside_left, rising_left}
use Rattle.descent.proofs.rows.spread_out.Goals as goal

pub bounds-to-position : goal.bounds-to-position
bounds-to-position g c =
    let before = iter_rest (zip_first c.loop-position.position-iterator) in
    (inside_left before (iter_rest (zip_first c.next.new.self)) c.in-Some.position.now (length c.loop-position.to) c.in-Some.ensures.steps.0 c.loop-position.invariant.1).0

pub offset_bounds-to-position : goal.offset_bounds-to-position
offset_bounds-to-position g c =
    let before = iter_rest (zip_first c.loop-position.position-iterator) in
    let inside = inside_left before (iter_rest (zip_first c.next.new.self)) c.in-Some.position.now (length c.loop-position.to) c.in-Some.ensures.steps.0 c.loop-position.invariant.1 in
    search rules

pub loop-position-preserved : goal.loop-position-preserved
loop-position-preserved g c =
    let inv = c.loop-position.invariant in
    let p = c.in-Some.position.now in
    let x = c.in-Some.x.now in
    let before = iter_rest (zip_first c.loop-position.position-iterator) in
    let left = iter_rest (zip_first c.next.new.self) in
    let row = iter_rest (zip_second c.loop-position.position-iterator) in
    let rest = iter_rest (zip_second c.next.new.self) in
    let step = c.in-Some.ensures.steps in
    let to = c.loop-position.to in
    let inside = inside_left before left p (length to) step.0 inv.1 in (
      omega (arith, ap length step.0, ap length step.1, inv.0),
      λ j h. subst (λ n. get_or left j 0 < n) (sym (length-set to p x)) (inside.1 j h),
      rising_left before left p step.0 inv.2,
      λ zs s. inv.3 zs (spread_first before left row rest p x to zs step.0 step.1 inside.0 inv.2 s),
    )
