-- What the checks of the calls have shown where nothing is told, and that nothing is told where it holds.
use Rattle.std.proofs.Common.{◌≡◌, ℕ, ◌+◌, ◌*◌, ◌<◌, ltb, ◌⊎◌, List, length, Some, None, Option, sym, refl, subst, inl, inr, arith, lt→ltb}
use lib.Ieee.Fits.{and_i, and_l, and_r}
use Rattle.refusals.specs.declared.Refusal.{Refusal}
use Rattle.fields.specs.declared.scalar.Scalar.{Scalar}
use Rattle.kinds.specs.Kinds.{KindModel, Key}
use Rattle.kinds.specs.declared.image.Image.{Image}
use Rattle.releases.specs.Entries.{Entry, leaf, gate, LeafAt, to_leaf, number, leaves}
use Rattle.releases.specs.Transcripts.{response, parsed, Acceptable}
use Rattle.releases.specs.Keys.{key}
use Rattle.releases.specs.Making.{Tape}
use Rattle.releases.specs.Theorems.{Fit}
use Rattle.releases.specs.Calls.{IfHeld, Keyed, Taped, Accepted, Written}
use Rattle.releases.proofs.Places.{inside}
use Rattle.releases.proofs.Laid.{before_small}
use Rattle.releases.proofs.Spelling.{shaped_parsed}

abbrev is_Some : {A : Type 0} → Option A → Type 0
is_Some None = ⊥
is_Some (Some x) = Unit {0}

pub not_Some : {A P : Type 0} {x : A} → Some x ≡ None → P
not_Some e = absurd (subst is_Some e tt)

-- a check that told nothing has passed
pub passed : {A B : Type 0} {why : Refusal} → A ⊎ (B × (◌≡◌ {A = Option Refusal} None (Some why))) → A
passed (inl a) = a
passed (inr q) = not_Some (sym q.1)

pub all_passed : {A : Type 0} {n : ℕ} {P : ℕ → Type 0} {why : ℕ → Refusal}
    → A ⊎ ((i : ℕ) × (i < n) × ((j : ℕ) → j < i → P j) × (¬ P i) × (◌≡◌ {A = Option Refusal} None (Some (why i)))) → A
all_passed (inl a) = a
all_passed (inr q) = not_Some (sym q.4)

if_held : (P : Key → Type 0) (o : Option Key) → ((x : Key) → o ≡ Some x → P x) → IfHeld P o
if_held P None f = tt
if_held P (Some x) f = f x refl

module _ (m : KindModel) (rule : List Entry) (next : Option Refusal → Type 0) where
  pub keyed_passed : (keys : List (Option Key)) → Keyed m rule keys next None → Fit m rule keys × next None
  keyed_passed keys c =
      let a = passed c in
      let b = all_passed a.1 in
      let d = all_passed b.1 in
      let e = passed d.1 in (
        record {
          opening = record {
            long = a.0;
            each = λ i kind s h x held.
                let l = inside rule i (leaf kind s) h in
                (subst (IfHeld _) held (b.0 i l kind s h), subst (IfHeld (λ x. (m.kind kind).image x ≡ s)) held (d.0 i l kind s h));
          };
          satisfying = e.0;
        },
        e.1,
      )

  pub keyed_clear : (keys : List (Option Key)) → Fit m rule keys → next None → Keyed m rule keys next None
  keyed_clear keys f n =
      inl (
        f.opening.long,
        inl (
          (λ i l kind s h. if_held _ (key rule keys i) (λ x e. (f.opening.each i kind s h x e).0)),
          inl (
            (λ i l kind s h. if_held (λ x. (m.kind kind).image x ≡ s) (key rule keys i) (λ x e. (f.opening.each i kind s h x e).1)),
            inl (f.satisfying, n),
          ),
        ),
      )

  pub taped_passed : (tape : List Scalar) → Taped m rule tape next None → Tape m rule tape × next None
  taped_passed tape c =
      let a = passed c in
      let b = all_passed a.1 in
      (record { long = a.0; scalars = b.0 }, b.1)

  pub taped_clear : (tape : List Scalar) → Tape m rule tape → next None → Taped m rule tape next None
  taped_clear tape t n = inl (t.long, inl (t.scalars, n))

  leaf_number : (i kind : ℕ) (s : Image) → LeafAt rule i kind s → number rule i < leaves rule
  leaf_number i kind s h = let b = before_small to_leaf rule i (leaf kind s) h in omega arith

  pub accepted_passed : (ws : List ℕ) → Accepted m rule ws next None → Written m rule (Acceptable m rule) ws × next None
  accepted_passed ws c =
      let a = passed c in
      let b = all_passed a.1 in
      let d = all_passed b.1 in
      let e = all_passed d.1 in
      let N = length rule in
      let L = leaves rule in (
        (
          a.0,
          record {
            shaped = shaped_parsed rule ws a.0;
            scalars = λ i l. (b.0 i (omega arith)).scalars l;
            commitments = λ i kind s h. let n = leaf_number i kind s h in (b.0 (N + 4 * number rule i) (omega arith)).images i kind s h refl;
            responses = λ i kind s h.
                let n = leaf_number i kind s h in
                and_i _ _ ((b.0 (N + 4 * L + 2 * number rule i) (omega arith)).firsts i kind s h refl)
                (and_r (ltb 0 m.q) _ ((b.0 (N + 4 * L + 2 * number rule i + 1) (omega arith)).seconds i kind s h refl));
            balanced = λ i k cs h. d.0 i (inside rule i (gate k cs) h) k cs h;
            equations = λ i kind s h. e.0 i (inside rule i (leaf kind s) h) kind s h;
          },
        ),
        e.1,
      )

  pub accepted_clear : 0 < m.q → (ws : List ℕ) → Written m rule (Acceptable m rule) ws → next None → Accepted m rule ws next None
  accepted_clear pos ws w n =
      let t = parsed rule ws in
      let ok = w.1 in
      inl (
        w.0,
        inl (
          (λ x l. record {
            scalars = λ h. ok.scalars x h;
            images = λ i kind s h e. ok.commitments i kind s h;
            firsts = λ i kind s h e. and_l (ltb (response rule t i).0.0 m.q) _ (ok.responses i kind s h);
            seconds = λ i kind s h e. and_i _ _ (lt→ltb 0 m.q pos) (and_r (ltb (response rule t i).0.0 m.q) _ (ok.responses i kind s h));
          }),
          inl ((λ i l k cs h. ok.balanced i k cs h), inl ((λ i l kind s h. ok.equations i kind s h), n)),
        ),
      )
