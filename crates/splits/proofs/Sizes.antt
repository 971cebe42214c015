-- A row of a few elements fits in memory where an element does.
use Rattle.std.proofs.Common.{ℕ, ◌+◌, ◌-◌, ◌*◌, ◌%◌, ◌^◌, ◌<◌, ◌≤◌, sym, subst, mod-lt, mul-le-mul, arith}
use Prim.Native.Nat.{max}
use mir.Syntax.{Width, w8, w16, w32, w64, w128, Ty}
use mir.Val.{bytes}
use prog.Memory.{size, align, up}
use prog.Align.{align_w, align-bytes, align_pos}

bytes_le : (w : Width) → bytes w ≤ 16
bytes_le w8 = omega arith
bytes_le w16 = omega arith
bytes_le w32 = omega arith
bytes_le w64 = omega arith
bytes_le w128 = omega arith

align_le : (t : Ty) → align t ≤ 16
align_le t = subst (λ x. x ≤ 16) (sym (align-bytes t)) (bytes_le (align_w t))

up_le : (k e : ℕ) → 0 < k → k ≤ 16 → up k e ≤ e + 16
up_le k e p h = let m : (k - e % k) % k < k = mod-lt (k - e % k) p in omega arith

-- n items of the type t, and a length
pub row_fits : (t : Ty) (n : ℕ) → n ≤ 9 → size t < 2 ^ 32 → up (max (align t) 8) (up 8 (up (align t) 0 + n * size t) + 8) < 2 ^ 63
row_fits t n few small =
    let a = align t in
    let slots = up a 0 + n * size t in
    let one = up_le a 0 (align_pos t) (align_le t) in
    let two = up_le 8 slots (omega arith) (omega arith) in
    let h : a ≤ 16 = align_le t in
    let three = up_le (max a 8) (up 8 slots + 8) (omega arith) (omega arith) in
    let all : n * size t ≤ 9 * size t = mul-le-mul few (omega arith) in
    omega arith
