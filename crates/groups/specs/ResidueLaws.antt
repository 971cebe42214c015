-- The residues modulo p, and those whose q-th power is 1.
use Rattle.std.specs.Prelude.{◌≡◌, ℕ, zero, suc, ◌*◌, ◌%◌, ◌^◌, ◌<◌, ◌&&◌, T, ◌==◌, nat_lt, refl}
use Rattle.std.proofs.Common.{sym, ap, subst, ◌∙◌, mul_assoc, mul_comm, one-mul, mul-zero, mod-lt, mod-eq_of_lt, pow-suc, not-suc-le-zero, arith, ltb→lt, lt→ltb, eqb→eq, eqb-true}
use Rattle.std.proofs.Math.Nat.{pow-zero, pow-succ'}
use Rattle.std.proofs.lemmas.Option.{cond_some}
use Rattle.std.specs.Float.Ieee.Fits.{and_i, and_l, and_r}
use Rattle.fields.specs.Residual.{mod_mul_mod, mul_mod_mod}
use Rattle.groups.specs.Monoids.{MonoidLaws, power}
use Rattle.groups.specs.Groups.{GroupLaws}
use Rattle.groups.specs.Ambients.{AmbientLaws, Torsion}
use Rattle.groups.specs.PrimeLaws.{group_monoid, group_laws}
use Rattle.groups.specs.Residues.{residue, residues_modulo, residue_element, residue_elements, residue_model, residue_refusal, residues}
use Rattle.groups.specs.declared.residue.Residue.{Residue}
use Rattle.groups.specs.Passing.{Quiet}

pub residues_laws : (p : ℕ) → 1 < p → MonoidLaws (residues_modulo p)
residues_laws p wide = record {
  one_in = λ _ _. lt→ltb 1 p wide;
  times_in = λ x y _ _. lt→ltb (x.0 * y.0 % p) p (mod-lt (x.0 * y.0) (omega arith));
  assoc = λ x y z _ _ _. ap residue (mod_mul_mod (x.0 * y.0) z.0 p ∙ ap (λ n. n % p) (mul_assoc x.0 y.0 z.0) ∙ sym (mul_mod_mod x.0 (y.0 * z.0) p));
  comm = λ x y _ _. ap (λ n. residue (n % p)) (mul_comm x.0 y.0);
  one_left = λ x h. ap residue (ap (λ n. n % p) (one-mul x.0) ∙ mod-eq_of_lt (ltb→lt x.0 p h));
}

-- powers of residues are powers of numbers, modulo p
pub residue_power : (p : ℕ) → 1 < p → (x : Residue) (k : ℕ) → power (residues_modulo p) x k ≡ residue (x.0 ^ k % p)
unfolding power
residue_power p wide x zero = ap residue (sym (ap (λ n. n % p) (pow-zero x.0) ∙ mod-eq_of_lt wide))
residue_power p wide x (suc k) =
    ap (λ (r : Residue). residue (x.0 * r.0 % p)) (residue_power p wide x k)
    ∙ ap residue (mul_mod_mod x.0 (x.0 ^ k) p ∙ ap (λ n. n % p) (sym (pow-succ' x.0 k)))

zero_power : (k : ℕ) → 0 < k → 0 ^ k ≡ 0
zero_power zero h = absurd (not-suc-le-zero h)
zero_power (suc k) h = pow-suc 0 k ∙ mul-zero (0 ^ k)

module _ (q p : ℕ) (some : 0 < q) (wide : 1 < p) where
  -- a number whose power is 1 is not 0
  above_zero : (y : ℕ) → y ^ q % p ≡ 1 → 0 < y
  above_zero zero e =
      let z : 0 ^ q % p ≡ 0 = ap (λ n. n % p) (zero_power q some) ∙ mod-eq_of_lt (omega arith) in
      absurd (let w : ◌≡◌ {A = ℕ} 0 1 = sym z ∙ e in omega arith)
  above_zero (suc y) e = omega arith

  pub residue_torsion : Torsion (residues_modulo p) q (λ x. residue_element q p x.0)
  residue_torsion = record {
    inside = λ x h. and_l (nat_lt x.0 p) (x.0 ^ q % p == 1) (and_r (nat_lt 0 x.0) (nat_lt x.0 p && x.0 ^ q % p == 1) h);
    turns = λ x h.
        residue_power p wide x q
        ∙ ap residue (eqb→eq (x.0 ^ q % p) 1 (and_r (nat_lt x.0 p) (x.0 ^ q % p == 1) (and_r (nat_lt 0 x.0) (nat_lt x.0 p && x.0 ^ q % p == 1) h)));
    back = λ x h e.
        let one : x.0 ^ q % p ≡ 1 = ap (λ (r : Residue). r.0) (sym (residue_power p wide x q) ∙ e) in
        and_i (nat_lt 0 x.0) (nat_lt x.0 p && x.0 ^ q % p == 1) (lt→ltb 0 x.0 (above_zero x.0 one))
        (and_i (nat_lt x.0 p) (x.0 ^ q % p == 1) h (subst (λ n. T (n == 1)) (sym one) tt));
  }

pub residues_cut : AmbientLaws residues
residues_cut = record {
  multiplies = residues_laws;
  turns = residue_torsion;
  neutral = λ _. tt;
  only = λ _ x h. ap residue (eqb→eq x.0 1 h);
  reads_words = λ _. refl;
  reads_in = λ w x e.
      let found = cond_some (w.1 == 0) (residue w.0) x e in
      ap (λ (r : Residue). (r.0, 0)) (sym found.1) ∙ ap (λ n. (w.0, n)) (sym (eqb-true w.1 0 found.0));
}

module _ (q p : ℕ) (g h : Residue) (t : Quiet (residue_refusal q p g h)) where
  pub residue_monoid : MonoidLaws (residue_elements q p)
  residue_monoid = group_monoid residues_cut q p g h t

  pub residue_laws : GroupLaws (residue_elements q p) (residue_model q p g h)
  residue_laws = group_laws residues_cut q p g h t
