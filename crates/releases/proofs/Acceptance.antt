-- What is made is acceptable.
use Rattle.std.proofs.Common.{◌≡◌, ℕ, ◌<◌, Bool, T, List, map, length, Option, sym, ap, ◌∙◌, subst, arith}
use lib.ListN.{length-map}
use Rattle.fields.specs.Fields.{FieldLaws}
use Rattle.fields.specs.Scalars.{scalar, scalars_model}
use Rattle.fields.specs.declared.scalar.Scalar.{Scalar}
use Rattle.fields.specs.ScalarLaws.{scalar_laws}
use Rattle.kinds.specs.Kinds.{KindModel, Key, KindLaws}
use Rattle.kinds.specs.declared.image.Image.{Image}
use Rattle.releases.specs.Entries.{Entry, leaf, LeafAt}
use Rattle.releases.specs.Transcripts.{Transcript, challenge, commitment, response, is_scalar, IsKey, IsImage, raised, Acceptable}
use Rattle.releases.specs.Keys.{key}
use Rattle.releases.specs.Making.{Tape, drawn, held, Made}
use Rattle.releases.specs.Theorems.{Setting}
use Rattle.releases.proofs.Places.{either, inside, get_d_map}
use Rattle.releases.proofs.Descend.{by_parent}
use Rattle.releases.proofs.Leaf.{fitting_in, simulate_leaf, answer_leaf, add_in, scale_in}
use Rattle.releases.proofs.Gate.{child_in}
use Rattle.releases.proofs.Given.{Sound, drawn_key}

module _ (m : KindModel) (rule : List Entry) (st : Setting m rule) (real : ℕ → Bool) (keys : List (Option Key)) (sound : Sound m rule keys real)
    (tape : List Scalar) (is-tape : Tape m rule tape) (c : Scalar) (small : T (is_scalar m c)) (t : Transcript) (made : Made m rule real keys tape c t) where
  scalars : FieldLaws (scalars_model m.q)
  scalars = scalar_laws m.q st.lawful.prime st.lawful.low

  challenges : (i : ℕ) → i < length rule → T (is_scalar m (challenge t i))
  challenges =
      by_parent rule st.formed (λ i. T (is_scalar m (challenge t i))) (subst (λ u. T (is_scalar m u)) (sym made.root) small)
      (λ p k cs h _ j l. let fit = st.formed.fits p k cs h in
      let long = length-map cs (challenge t) in
      subst (λ u. T (is_scalar m u)) (get_d_map (challenge t) cs j (scalar 0) l)
      (child_in scalars k (challenge t p) (map (challenge t) cs) (omega arith) (made.balanced p k cs h) j (omega arith)))

  module _ (i kind : ℕ) (s : Image) (h : LeafAt rule i kind s) where
    law : KindLaws m.q (m.kind kind)
    law = let known = (st.stated i kind s h).0 in st.lawful.each kind known.0 known.1

    is_s : IsImage m kind s
    is_s = (st.stated i kind s h).1

    d : Key
    d = drawn m rule tape i kind

    d_key : IsKey m kind d
    unfolding d
    d_key = drawn_key m rule tape is-tape st.lawful i kind s h (st.stated i kind s h).0

    commitment_in : IsImage m kind (commitment rule t i)
    unfolding d
    commitment_in =
        either (real i)
        (λ r. subst (IsImage m kind) (sym (made.answered i kind s h r).1) (law.image_in d d_key))
        (λ r. subst (IsImage m kind) (sym (made.simulated i kind s h r).1)
        (fitting_in m.q st.lawful.prime st.lawful.low (m.kind kind) law s is_s d d_key (challenge t i)))

    response_in : IsKey m kind (response rule t i)
    unfolding d
    response_in =
        either (real i)
        (λ r. subst (IsKey m kind) (sym (made.answered i kind s h r).0)
        (add_in m.q st.lawful.prime st.lawful.low (m.kind kind) law d _ d_key
        (scale_in m.q st.lawful.prime st.lawful.low (m.kind kind) law (challenge t i) _ (sound.opened i kind s h r).0)))
        (λ r. subst (IsKey m kind) (sym (made.simulated i kind s h r).0) d_key)

    equation : (m.kind kind).image (response rule t i) ≡ (m.kind kind).product (commitment rule t i) (raised m kind s (challenge t i).0)
    unfolding d
    equation =
        either (real i)
        (λ r. let o = sound.opened i kind s h r in
        ap (m.kind kind).image (made.answered i kind s h r).0
        ∙ answer_leaf m.q st.lawful.prime st.lawful.low (m.kind kind) law s is_s (held (key rule keys i)) d o.0 d_key o.1 (challenge t i)
        ∙ ap (λ a. (m.kind kind).product a (raised m kind s (challenge t i).0)) (sym (made.answered i kind s h r).1))
        (λ r. ap (m.kind kind).image (made.simulated i kind s h r).0
        ∙ simulate_leaf m.q st.lawful.prime st.lawful.low (m.kind kind) law s is_s d d_key (challenge t i) (challenges i (inside rule i (leaf kind s) h))
        ∙ ap (λ a. (m.kind kind).product a (raised m kind s (challenge t i).0)) (sym (made.simulated i kind s h r).1))

  pub made_acceptable : Acceptable m rule t
  made_acceptable = record {
    shaped = made.shaped;
    scalars = challenges;
    commitments = commitment_in;
    responses = response_in;
    balanced = made.balanced;
    equations = equation;
  }
