use Rattle.std.proofs.Common.{◌≡◌, ◌*◌, ◌%◌, ◌<◌, sym, ap, ◌∙◌, subst, mod-lt, mul_comm, pos_of_ne-zero, zero-mul, arith, ltb→lt, lt→ltb}
use native.Mathlib.Nat.{mod_self}
use Rattle.fields.specs.Scalars.{scalar}
use Rattle.fields.specs.Residual.{mod_mul_mod}
use Rattle.fields.proofs.Euclid.{Coprime, Factor, coprime_start, coprime_step, coprime_end, factor_step, factor_end}
use Rattle.fields.proofs.scalars.ScalarsField.quotient.Goals as goal

pub loop-newer-init : goal.loop-newer-init
loop-newer-init c =
    let s = c.args.self.now in
    let q = s.q in
    let d = c.args.divisor.0 in
    let a = c.args.dividend.0 in
    let pos : 0 < q = omega (arith, s.low) in
    let is-q = c.new.ensures in
    let is-0 = c.new-2.ensures in
    let small = ltb→lt d q c.requires.1.0 in
    let some = pos_of_ne-zero (λ e. c.requires.1.1 (ap scalar e)) in (
      subst (λ x. x < q) (sym is-0) pos,
      ltb→lt a q c.requires.0,
      subst (λ x. 0 < x) (sym is-q) pos,
      subst (λ x. Coprime x d) (sym is-q) (coprime_start q d s.prime some small),
      ap (λ x. x * d % q) is-0 ∙ ap (λ x. x % q) (zero-mul d) ∙ sym (ap (λ x. x * a % q) is-q ∙ sym (mod_mul_mod q a q) ∙ ap (λ x. x * a % q) (mod_self q) ∙ ap (λ x. x % q) (zero-mul a)),
      ap (λ x. x % q) (mul_comm a d),
    )

pub loop-newer-preserved : goal.loop-newer-preserved
loop-newer-preserved c =
    let s = c.args.self.now in
    let q = s.q in
    let d = c.args.divisor.0 in
    let a = c.args.dividend.0 in
    let pos : 0 < q = omega (arith, s.low) in
    let inv = c.loop-newer.invariant in
    let older = c.loop-newer.older in
    let newer = c.loop-newer.newer in
    let step = c.euclid_step-next.ensures in
    let some : 0 < newer.0.0 = omega (arith, c.loop-newer-test.true, c.value.ensures) in (
      inv.1,
      subst (λ x. x < q) (sym step.factor) (mod-lt _ pos),
      some,
      subst (λ x. Coprime newer.0.0 x) (sym step.remainder) (coprime_step older.0.0 newer.0.0 inv.3),
      inv.5,
      subst (λ x. Factor q d a x c.euclid_step-next.result.1.0) (sym step.remainder)
          (subst (λ x. Factor q d a (older.0.0 % newer.0.0) x) (sym step.factor)
          (factor_step q d a older.0.0 older.1.0 newer.0.0 newer.1.0 pos inv.4 inv.5)),
    )

pub returns : goal.returns
returns c =
    let s = c.args.self.now in
    let q = s.q in
    let inv = c.loop-newer.invariant in
    let older = c.loop-newer.older in
    let done : c.loop-newer.newer.0.0 ≡ 0 = omega (arith, c.loop-newer-test.false, c.value.ensures) in
    let one = coprime_end older.0.0 inv.2 (subst (λ x. Coprime older.0.0 x) done inv.3) in
    record {
      member = lt→ltb older.1.0 q inv.0;
      divides = ap scalar (factor_end q c.args.divisor.0 c.args.dividend.0 older.0.0 older.1.0 (ltb→lt _ q c.requires.0) one inv.4);
    }
