-- The equation of satisfied entries, and that it has one solution.
use Rattle.std.proofs.Common.{◌≡◌, ℕ, zero, suc, ◌+◌, ◌<◌, ◌≤◌, Bool, T, leb, List, length, get_or, Option, sym, refl, ap, ◌∙◌, arith}
use mathlib.Core.Option.{Option as Found, some, none}
use lib.Dec.{eqb_refl}
use lib.Ieee.Fits.{and_i}
use lib.ListN.{get_elem?}
use Rattle.kinds.specs.Kinds.{KindModel, Key}
use Rattle.kinds.specs.declared.image.Image.{Image}
use Rattle.releases.specs.Entries.{Entry, leaf, gate, WellFormed}
use Rattle.releases.specs.Keys.{same_image, key, holds, satisfied_within, satisfied}
use Rattle.releases.specs.Theorems.{Marks, SatisfiedOnly}
use Rattle.releases.proofs.Order.{from_end, count_same}

pub image_refl : (x : Image) → T (same_image x x)
image_refl x = and_i _ _ (eqb_refl x.0.0) (and_i _ _ (eqb_refl x.0.1) (and_i _ _ (eqb_refl x.1.0) (eqb_refl x.1.1)))

module _ (m : KindModel) (rule : List Entry) (wf : WellFormed rule) (keys : List (Option Key)) where
  -- an entry's mark hangs on its children's alone
  holds_same : (f g : ℕ → Bool) (i : ℕ) → ((c : ℕ) → i < c → c < length rule → f c ≡ g c)
      → holds m (get_elem? rule i) (key rule keys i) f ≡ holds m (get_elem? rule i) (key rule keys i) g
  holds_same f g i h = go (get_elem? rule i) refl
    where
      go : (e : Found Entry) → get_elem? rule i ≡ e → holds m e (key rule keys i) f ≡ holds m e (key rule keys i) g
      go none e = refl
      go (some (leaf kind s)) e = refl
      go (some (gate k cs)) e = ap (leb k) (count_same f g cs (λ j l. let w = wf.later i k cs e j l in h (get_or cs j 0) w.0 w.1))

  settled : (d d' i : ℕ) → length rule ≤ i + d → length rule ≤ i + d' → i < length rule → satisfied_within m rule keys d i ≡ satisfied_within m rule keys d' i
  settled zero d' i h h' l = absurd (omega arith)
  settled (suc d) zero i h h' l = absurd (omega arith)
  settled (suc d) (suc d') i h h' l =
      holds_same (satisfied_within m rule keys d) (satisfied_within m rule keys d') i (λ c a b. settled d d' c (omega arith) (omega arith) b)

  pub satisfied_marks : Marks m rule keys (satisfied m rule keys)
  unfolding satisfied
  satisfied_marks i l = settled (length rule) (suc (length rule)) i (omega arith) (omega arith) l

  pub marks_satisfied : (marked : ℕ → Bool) → Marks m rule keys marked → (i : ℕ) → i < length rule → marked i ≡ satisfied m rule keys i
  marks_satisfied marked h =
      from_end (length rule) (λ i. marked i ≡ satisfied m rule keys i)
      (λ i l ih. h i l ∙ holds_same marked (satisfied m rule keys) i ih ∙ sym (satisfied_marks i l))

pub satisfied_only : SatisfiedOnly
satisfied_only m rule wf keys = (satisfied_marks m rule wf keys, marks_satisfied m rule wf keys)
