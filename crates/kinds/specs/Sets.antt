-- What a lawful set says of every kind number.
use Rattle.std.specs.Prelude.{◌≡◌, ℕ, zero, suc, ◌<◌, ◌≤◌, false, ◌⊎◌, refl}
use Rattle.std.proofs.Common.{sym, subst, inl, inr, ⊎_elim, arith}
use Rattle.std.proofs.Math.Decide.{dec_le}
use Rattle.std.proofs.lemmas.Bool.{and_left}
use Rattle.groups.specs.Monoids.{MonoidLaws, power}
use Rattle.kinds.specs.Kinds.{zeros, Kind, no_kind, images, KindModel, KindLaws, Lawful}
use Rattle.kinds.specs.declared.image.Image.{Image}

-- each number has a kind that keeps its laws, or no kind
pub kind_or_none : (m : KindModel) → Lawful m → (n : ℕ) → KindLaws m.q (m.kind n) ⊎ (m.kind n ≡ no_kind)
kind_or_none m l zero = inr l.none
kind_or_none m l (suc n) = go (dec_le (suc n) m.count)
  where
    go : Dec (suc n ≤ m.count) → KindLaws m.q (m.kind (suc n)) ⊎ (m.kind (suc n) ≡ no_kind)
    go (yes h) = inl (l.each (suc n) (omega arith) h)
    go (no h) = inr (l.others (suc n) (omega arith))

-- what holds of each lawful kind, and of no kind, holds at each number
pub at_each : (m : KindModel) → Lawful m → (P : Kind → Type 0) → ((k : Kind) → KindLaws m.q k → P k) → P no_kind → (n : ℕ) → P (m.kind n)
at_each m l P some none n = ⊎_elim (some (m.kind n)) (λ e. subst P (sym e) none) (kind_or_none m l n)

none_monoid : MonoidLaws (images no_kind)
none_monoid = record {
  one_in = λ x h. absurd h;
  times_in = λ x y h _. absurd h;
  assoc = λ x y z h _ _. absurd h;
  comm = λ x y h _. absurd h;
  one_left = λ x h. absurd h;
}

pub images_laws : (m : KindModel) → Lawful m → (n : ℕ) → MonoidLaws (images (m.kind n))
images_laws m l n = at_each m l (λ k. MonoidLaws (images k)) (λ k laws. laws.monoid) none_monoid n

no_product : (m : KindModel) → Lawful m → (n : ℕ) (x y : Image) → (m.kind n).is_image x ≡ false → (m.kind n).product x y ≡ zeros
no_product m l n x y h =
    at_each m l (λ k. k.is_image x ≡ false → k.product x y ≡ zeros) (λ k laws e. laws.no_product x y (and_left (k.is_image x) (k.is_image y) e)) (λ e. refl) n h

pub power_outside : (m : KindModel) → Lawful m → (n : ℕ) (x : Image) (e : ℕ) → (m.kind n).is_image x ≡ false → 0 < e → zeros ≡ power (images (m.kind n)) x e
unfolding power
power_outside m l n x zero h p = absurd (omega arith)
power_outside m l n x (suc e) h p = sym (no_product m l n x (power (images (m.kind n)) x e) h)
