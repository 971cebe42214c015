-- The words of a transcript fit where its challenges, its commitments and its responses do; told is the first word that does not.
use Rattle.std.proofs.Common.{◌≡◌, ℕ, ◌+◌, ◌*◌, ◌<◌, Bool, true, false, cond, T, ltb, List, length, Some, Option, sym, refl, ap, ◌∙◌, subst, inl, inr, arith, ltb→lt, lt→ltb}
use native.Mathlib.Decide.{dec_lt}
use lib.Ieee.Fits.{and_i, and_l, and_r}
use Rattle.refusals.specs.declared.Refusal.{Refusal}
use Rattle.refusals.specs.declared.Refusal.TheVariants.{UnfitWord}
use Rattle.fields.specs.Scalars.{scalar}
use Rattle.kinds.specs.Kinds.{KindModel}
use Rattle.kinds.specs.declared.image.Image.{Image}
use Rattle.releases.specs.Entries.{Entry, leaf, LeafAt, number, leaves}
use Rattle.releases.specs.Transcripts.{Transcript, challenge, commitment, response, is_scalar, IsKey, IsImage}
use Rattle.releases.specs.Calls.{AtLeaf, Fits, word_count}
use Rattle.releases.specs.Checks.{Clear}
use Rattle.releases.proofs.Places.{inside}
use Rattle.releases.proofs.Laid.{number_small}
use Rattle.releases.proofs.Checking.{not_Some}
use Rattle.checking.specs.Checkings.{ScalarsChecked, ImagesChecked, KeysChecked, WordsChecked}
use Rattle.checking.proofs.Steps.{leaf_fails, earlier, same_place}

module _ (m : KindModel) (rule : List Entry) (t : Transcript) (long : length t.challenges ≡ length rule) where
  abbrev N : ℕ
  N = length rule

  abbrev L : ℕ
  L = leaves rule

  pub challenges_told : (why : Refusal) → ScalarsChecked m t.challenges (Some why) → WordsChecked m rule t Clear (Some why)
  challenges_told why (inl a) = not_Some a.1
  challenges_told why (inr f) =
      let l : f.0 < N = omega (arith, f.1) in
      inr (
        f.0,
        omega arith,
        (λ x h. record {
          scalars = λ _. f.2 x h;
          images = λ i kind s at e. absurd (omega arith);
          firsts = λ i kind s at e. absurd (omega arith);
          seconds = λ i kind s at e. absurd (omega arith);
        }),
        (λ fits. f.3 (fits.scalars l)),
        f.4,
      )

  abbrev IsImageAt : ℕ → ℕ → Image → Type 0
  IsImageAt i kind s = IsImage m kind (commitment rule t i)

  abbrev IsKeyAt : ℕ → ℕ → Image → Type 0
  IsKeyAt i kind s = IsKey m kind (response rule t i)

  module _ (scalars : (i : ℕ) → i < N → T (is_scalar m (challenge t i))) where
    pub commitments_told : (why : Refusal) → ImagesChecked m rule t.commitments (Some why) → WordsChecked m rule t Clear (Some why)
    commitments_told why (inl a) = not_Some a.1
    commitments_told why (inr f) =
        let i = f.0 in
        let at = leaf_fails rule IsImageAt i f.3 in
        let small = number_small rule i at.0 at.1 at.2 in
        inr (
          N + 4 * number rule i,
          omega arith,
          (λ x h. record {
            scalars = λ l. scalars x l;
            images = λ j kind s here e. f.2 j (earlier rule i j (omega arith)) kind s here;
            firsts = λ j kind s here e. absurd (omega arith);
            seconds = λ j kind s here e. absurd (omega arith);
          }),
          (λ fits. f.3 (λ kind s here. fits.images i kind s here refl)),
          f.4,
        )

    module _ (images : (i : ℕ) → i < N → AtLeaf rule IsImageAt i) where
      abbrev first : ℕ → Bool
      first i = is_scalar m (response rule t i).0

      -- the second scalar, where the whole is a key
      second_fits : (i kind : ℕ) → IsKey m kind (response rule t i) → IsKey m kind (scalar 0, (response rule t i).1)
      second_fits i kind k =
          let x = (response rule t i).0.0 in
          let below = ltb→lt x m.q (and_l (ltb x m.q) _ k) in
          and_i _ _ (lt→ltb 0 m.q (omega arith)) (and_r (ltb x m.q) _ k)

      whole_fits : (i kind : ℕ) → T (first i) → IsKey m kind (scalar 0, (response rule t i).1) → IsKey m kind (response rule t i)
      whole_fits i kind a b = and_i _ _ a (and_r (ltb 0 m.q) _ b)

      -- where the responses of the leaves before entry i are keys, the words up to it fit
      fits_before : (i x : ℕ) → ((j : ℕ) → j < i → AtLeaf rule IsKeyAt j) → x < N + 4 * L + 2 * number rule i → Fits m rule t x
      fits_before i x passed h = record {
        scalars = λ l. scalars x l;
        images = λ j kind s here e. images j (inside rule j (leaf kind s) here) kind s here;
        firsts = λ j kind s here e. and_l (first j) _ (passed j (earlier rule i j (omega arith)) kind s here);
        seconds = λ j kind s here e. second_fits j kind (passed j (earlier rule i j (omega arith)) kind s here);
      }

      pub responses_told : (o : Option Refusal) → KeysChecked m rule t.responses o → WordsChecked m rule t Clear o
      responses_told o (inl a) = inl ((λ x h. all x), a.1)
        where
          all : (x : ℕ) → Fits m rule t x
          all x = record {
            scalars = λ l. scalars x l;
            images = λ j kind s here e. images j (inside rule j (leaf kind s) here) kind s here;
            firsts = λ j kind s here e. and_l (first j) _ (a.0 j (inside rule j (leaf kind s) here) kind s here);
            seconds = λ j kind s here e. second_fits j kind (a.0 j (inside rule j (leaf kind s) here) kind s here);
          }
      responses_told o (inr f) = go (first f.0) refl
        where
          go : (b : Bool) → first f.0 ≡ b → WordsChecked m rule t Clear o
          go true e =
              let at = leaf_fails rule IsKeyAt f.0 f.3 in
              let small = number_small rule f.0 at.0 at.1 at.2 in
              inr (
                N + 4 * L + 2 * number rule f.0 + 1,
                omega arith,
                (λ x h. up_to x h (dec_lt x (N + 4 * L + 2 * number rule f.0))),
                (λ fits. f.3 (λ kind s here. whole_fits f.0 kind is (fits.seconds f.0 kind s here refl))),
                f.4 ∙ ap (λ b. Some (UnfitWord (N + 4 * L + 2 * number rule f.0 + cond b 1 0))) e,
              )
            where
              is : T (first f.0)
              is = subst T (sym e) tt

              up_to : (x : ℕ) → x < N + 4 * L + 2 * number rule f.0 + 1 → Dec (x < N + 4 * L + 2 * number rule f.0) → Fits m rule t x
              up_to x h (yes l) = fits_before f.0 x f.2 l
              up_to x h (no n) =
                  let at = leaf_fails rule IsKeyAt f.0 f.3 in
                  record {
                    scalars = λ l. scalars x l;
                    images = λ j kind s here e. images j (inside rule j (leaf kind s) here) kind s here;
                    firsts = λ j kind s here e. subst (λ k. T (first k)) (sym (same_place rule f.0 at.0 at.1 at.2 j kind s here (omega arith))) is;
                    seconds = λ j kind s here e. absurd (omega arith);
                  }
          go false e =
              let at = leaf_fails rule IsKeyAt f.0 f.3 in
              let small = number_small rule f.0 at.0 at.1 at.2 in
              inr (
                N + 4 * L + 2 * number rule f.0,
                omega arith,
                (λ x h. fits_before f.0 x f.2 h),
                (λ fits. subst T e (fits.firsts f.0 at.0 at.1 at.2 refl)),
                f.4 ∙ ap (λ b. Some (UnfitWord (N + 4 * L + 2 * number rule f.0 + cond b 1 0))) e ∙ ap (λ x. Some (UnfitWord x)) (omega arith),
              )

-- what holds of the parts of a transcript whose words fit
module _ (m : KindModel) (rule : List Entry) (t : Transcript) (fits : (x : ℕ) → x < word_count rule → Fits m rule t x) where
  pub scalars_fit : (i : ℕ) → i < length rule → T (is_scalar m (challenge t i))
  scalars_fit i l = (fits i (omega arith)).scalars l

  pub images_fit : (i kind : ℕ) (s : Image) → LeafAt rule i kind s → IsImage m kind (commitment rule t i)
  images_fit i kind s h = let n = number_small rule i kind s h in (fits (length rule + 4 * number rule i) (omega arith)).images i kind s h refl

  pub keys_fit : (i kind : ℕ) (s : Image) → LeafAt rule i kind s → IsKey m kind (response rule t i)
  keys_fit i kind s h =
      let n = number_small rule i kind s h in
      and_i _ _ ((fits (length rule + 4 * leaves rule + 2 * number rule i) (omega arith)).firsts i kind s h refl)
      (and_r (ltb 0 m.q) _ ((fits (length rule + 4 * leaves rule + 2 * number rule i + 1) (omega arith)).seconds i kind s h refl))
