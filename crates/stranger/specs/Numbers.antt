-- Numbers below q as images, and their sums.
use Rattle.std.specs.Prelude.{◌≡◌, ℕ, suc, ◌+◌, ◌*◌, ◌%◌, ◌<◌, true, T, ◌==◌, nat_lt}
use Rattle.std.proofs.Common.{sym, ap, ◌∙◌, arith, ltb→lt, lt→ltb, eqb→eq}
use Rattle.std.proofs.Math.Nat.{add-mod-mod, zero-mod, add-mul-mod_self_left}
use Rattle.std.specs.Float.Ieee.Fits.{and_i, and_l, and_r}
use Rattle.kinds.specs.declared.image.Image.{Image}
use Rattle.stranger.specs.Multiples.{written, is_written}

module _ (q : ℕ) where
  pub below : (x : Image) → T (is_written q x) → x.0.0 < q
  below x h = ltb→lt x.0.0 q (and_l (nat_lt x.0.0 q) _ h)

  pub written_in : (a : ℕ) → a < q → T (is_written q (written a))
  written_in a h = and_i (nat_lt a q) true (lt→ltb a q h) tt

  pub same : (x : Image) → T (is_written q x) → written x.0.0 ≡ x
  same x h =
      let r = and_r (nat_lt x.0.0 q) _ h in
      let s = and_r (x.0.1 == 0) _ r in
      let b = sym (eqb→eq x.0.1 0 (and_l (x.0.1 == 0) _ r)) in
      let c = sym (eqb→eq x.1.0 0 (and_l (x.1.0 == 0) _ s)) in
      let d = sym (eqb→eq x.1.1 0 (and_r (x.1.0 == 0) _ s)) in
      λ t. record { 0 = (x.0.0, b t); 1 = (c t, d t) }

  -- one more summand
  pub one_more : (n x : ℕ) → (x + n * x % q) % q ≡ suc n * x % q
  one_more n x = add-mod-mod x (n * x) q ∙ ap (λ k. k % q) (let e : x + n * x ≡ suc n * x = omega arith in e)

  pub whole : (x : ℕ) → q * x % q ≡ 0
  whole x = ap (λ k. k % q) (let e : q * x ≡ 0 + q * x = omega arith in e) ∙ add-mul-mod_self_left 0 q x ∙ zero-mod q
