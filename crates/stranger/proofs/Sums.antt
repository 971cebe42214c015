-- Sums of keys at any kind number of a lawful set.
use Rattle.std.proofs.Common.{◌≡◌, ℕ, false, T, ltb}
use lib.Ieee.Fits.{and_r}
use Rattle.kinds.specs.Kinds.{Key, is_key, add_keys, KindModel, Lawful}
use Rattle.kinds.specs.Sets.{at_each}

pub sum_image : (m : KindModel) → Lawful m → (n : ℕ) (v w : Key) → T (is_key m.q (m.kind n).width v) → T (is_key m.q (m.kind n).width w)
    → (m.kind n).image (add_keys m.q v w) ≡ (m.kind n).product ((m.kind n).image v) ((m.kind n).image w)
sum_image m l n v w =
    at_each m l
    (λ k. T (is_key m.q k.width v) → T (is_key m.q k.width w) → k.image (add_keys m.q v w) ≡ k.product (k.image v) (k.image w))
    (λ k laws. laws.adds v w)
    (λ h _. absurd (and_r (ltb v.0.0 m.q) false h))
    n
