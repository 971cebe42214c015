-- The three kinds over a group keep the laws of a kind.
use Rattle.std.specs.Prelude.{◌≡◌, ℕ, zero, suc, ◌<◌, Bool, true, false, cond, ◌&&◌, T, Some, None, Option, ◌==◌, refl}
use Rattle.std.proofs.Common.{sym, ap, ap₂, subst, ◌∙◌, arith, eqb→eq, lit≤}
use Rattle.std.specs.Float.Ieee.Fits.{and_i, and_l, and_r}
use Rattle.std.proofs.lemmas.Bool.{cond-false, ne_eqb}
use Rattle.fields.specs.Modular.{sum_mod}
use Rattle.groups.specs.Monoids.{MonoidModel, MonoidLaws, power}
use Rattle.groups.specs.Groups.{GroupModel, GroupLaws}
use Rattle.groups.specs.Powers.{power_in}
use Rattle.groups.proofs.Exponents.{power_sum}
use Rattle.groups.specs.Torsion.{exchange}
use Rattle.kinds.specs.Kinds.{Kind, no_kind, KindLaws, Lawful}
use Rattle.kinds.specs.Coded.{alone}
use Rattle.kinds.specs.GroupKinds.{one_element, paired, two_elements, pairs, form_kind, form_set}
use Rattle.kinds.specs.declared.form.Form.{Form}
use Rattle.kinds.specs.declared.form.Form.TheVariants.{Single, Twin, Mixed}
use Rattle.kinds.specs.CodedLaws.{CodingLaws, coded_laws}

pairs_power : {E : Type 0} (m : MonoidModel E) (x : E × E) (k : ℕ) → power (pairs m) x k ≡ (power m x.0 k, power m x.1 k)
unfolding power
pairs_power m x zero = refl
pairs_power m x (suc k) = ap ((pairs m).times x) (pairs_power m x k)

module _ {E : Type 0} {m : MonoidModel E} {g : GroupModel E} (laws : MonoidLaws m) (group : GroupLaws m g) where
  one : T (m.member m.one)
  one = laws.one_in g.base_g group.g_in

  pos : 0 < g.order
  pos = omega (arith, group.low)

  -- read only where the last two words are zeros
  guarded : (b : Bool) (o : Option E) (x : E) → cond b o None ≡ Some x → T b × (o ≡ Some x)
  guarded true o x e = (tt, e)
  guarded false o x e = cc

  pub one_element_laws : CodingLaws m (one_element g)
  one_element_laws = record {
    reads = λ x h. group.reads_words x h;
    inside = λ i x e. (group.reads_in i.0 x (guarded (i.1.0 == 0 && i.1.1 == 0) (g.reads i.0) x e).1).0;
    writes = λ i x e.
        let b = guarded (i.1.0 == 0 && i.1.1 == 0) (g.reads i.0) x e in
        let first : g.words x ≡ i.0 = (group.reads_in i.0 x b.1).1 in
        let second : ◌≡◌ {A = ℕ × ℕ} (0, 0) i.1 =
        ap₂ (λ (u v : ℕ). (u, v)) (sym (eqb→eq i.1.0 0 (and_l (i.1.0 == 0) (i.1.1 == 0) b.0))) (sym (eqb→eq i.1.1 0 (and_r (i.1.0 == 0) (i.1.1 == 0) b.0))) in
        λ t. record { 0 = first t; 1 = second t };
  }

  parts : (a b : Option E) (x : E × E) → paired a b ≡ Some x → (a ≡ Some x.0) × (b ≡ Some x.1)
  parts None b x e = cc
  parts (Some u) None x e = cc
  parts (Some u) (Some v) x e = (cc, cc)

  -- both parts of a pair are elements
  fst : (x : E × E) → T ((pairs m).member x) → T (m.member x.0)
  fst x h = and_l (m.member x.0) (m.member x.1) h

  snd : (x : E × E) → T ((pairs m).member x) → T (m.member x.1)
  snd x h = and_r (m.member x.0) (m.member x.1) h

  pub pairs_laws : MonoidLaws (pairs m)
  pairs_laws = record {
    one_in = λ _ _. and_i (m.member m.one) (m.member m.one) one one;
    times_in = λ x y hx hy. and_i _ _ (laws.times_in x.0 y.0 (fst x hx) (fst y hy)) (laws.times_in x.1 y.1 (snd x hx) (snd y hy));
    assoc = λ x y z hx hy hz. ap₂ (λ (u v : E). (u, v)) (laws.assoc x.0 y.0 z.0 (fst x hx) (fst y hy) (fst z hz)) (laws.assoc x.1 y.1 z.1 (snd x hx) (snd y hy) (snd z hz));
    comm = λ x y hx hy. ap₂ (λ (u v : E). (u, v)) (laws.comm x.0 y.0 (fst x hx) (fst y hy)) (laws.comm x.1 y.1 (snd x hx) (snd y hy));
    one_left = λ x hx. ap₂ (λ (u v : E). (u, v)) (laws.one_left x.0 (fst x hx)) (laws.one_left x.1 (snd x hx));
  }

  pub two_elements_laws : CodingLaws (pairs m) (two_elements g)
  two_elements_laws = record {
    reads = λ x h. ap₂ paired (group.reads_words x.0 (fst x h)) (group.reads_words x.1 (snd x h));
    inside = λ i x e.
        let p = parts (g.reads i.0) (g.reads i.1) x e in
        and_i (m.member x.0) (m.member x.1) (group.reads_in i.0 x.0 p.0).0 (group.reads_in i.1 x.1 p.1).0;
    writes = λ i x e.
        let p = parts (g.reads i.0) (g.reads i.1) x e in
        let first = (group.reads_in i.0 x.0 p.0).1 in
        let second = (group.reads_in i.1 x.1 p.1).1 in
        λ t. record { 0 = first t; 1 = second t };
  }

  -- powers of a base are elements, and exponents add modulo the order
  g_power_in : (k : ℕ) → T (m.member (power m g.base_g k))
  g_power_in k = power_in laws g.base_g k group.g_in

  h_power_in : (k : ℕ) → T (m.member (power m g.base_h k))
  h_power_in k = power_in laws g.base_h k group.h_in

  g_sum : (a b : ℕ) → power m g.base_g (sum_mod g.order a b) ≡ m.times (power m g.base_g a) (power m g.base_g b)
  g_sum a b = power_sum laws g.order g.base_g group.g_in (group.ordered g.base_g group.g_in) a b

  h_sum : (a b : ℕ) → power m g.base_h (sum_mod g.order a b) ≡ m.times (power m g.base_h a) (power m g.base_h b)
  h_sum a b = power_sum laws g.order g.base_h group.h_in (group.ordered g.base_h group.h_in) a b

  pairs_turn : (x : E × E) → T ((pairs m).member x) → power (pairs m) x g.order ≡ (m.one, m.one)
  pairs_turn x h =
      pairs_power m x g.order
      ∙ ap₂ (λ (u v : E). (u, v)) (group.ordered x.0 (fst x h)) (group.ordered x.1 (snd x h))

  form_laws : (f : Form) → KindLaws g.order (form_kind m g f)
  form_laws Single =
      coded_laws laws one_element_laws g.order 1 (λ w. power m g.base_g w.0.0) one pos (lit≤ tt) (lit≤ tt) group.ordered
      (record { inside = λ w _. g_power_in w.0.0; adds = λ v w _ _. g_sum v.0.0 w.0.0 })
  form_laws Twin =
      coded_laws pairs_laws two_elements_laws g.order 1 (λ w. (power m g.base_g w.0.0, power m g.base_h w.0.0))
      (and_i (m.member m.one) (m.member m.one) one one) pos (lit≤ tt) (lit≤ tt) pairs_turn
      (record {
        inside = λ w _. and_i _ _ (g_power_in w.0.0) (h_power_in w.0.0);
        adds = λ v w _ _. ap₂ (λ (x y : E). (x, y)) (g_sum v.0.0 w.0.0) (h_sum v.0.0 w.0.0);
      })
  form_laws Mixed =
      coded_laws laws one_element_laws g.order 2 (λ w. m.times (power m g.base_g w.0.0) (power m g.base_h w.1.0)) one pos (lit≤ tt) (lit≤ tt)
      group.ordered
      (record {
        inside = λ w _. laws.times_in _ _ (g_power_in w.0.0) (h_power_in w.1.0);
        adds = λ v w _ _.
            ap₂ m.times (g_sum v.0.0 w.0.0) (h_sum v.1.0 w.1.0)
            ∙ exchange laws (power m g.base_g v.0.0) (power m g.base_g w.0.0) (power m g.base_h v.1.0) (power m g.base_h w.1.0)
            (g_power_in v.0.0) (g_power_in w.0.0) (h_power_in v.1.0) (h_power_in w.1.0);
      })

  alone_lawful : (k : Kind) → KindLaws g.order k → Lawful (alone g.order k)
  alone_lawful k l = record {
    prime = group.prime;
    low = group.low;
    high = group.high;
    few = lit≤ tt;
    each = λ n low high. let one : 1 ≡ n = omega arith in subst (λ i. KindLaws g.order (cond (i == 1) k no_kind)) one l;
    none = refl;
    others = λ n h. cond-false (n == 1) k no_kind (ne_eqb n 1 (λ e. omega arith));
  }

  pub form_lawful : (f : Form) → Lawful (form_set m g f)
  form_lawful f = alone_lawful (form_kind m g f) (form_laws f)
