-- Two acceptable transcripts with equal commitments and different challenges give keys that open their leaves and satisfy the rule.
use Rattle.std.proofs.Common.{◌≡◌, ℕ, ◌<◌, T, List, length, get_or, Some, None, Option, sym, refl, ap, ◌∙◌, subst, arith, le→leb}
use mathlib.Core.Option.{Option as Found, some, none}
use lib.ListN.{get_elem?}
use Rattle.fields.specs.Fields.{FieldLaws}
use Rattle.fields.specs.Scalars.{scalars_model}
use Rattle.fields.specs.ScalarLaws.{scalar_laws}
use Rattle.kinds.specs.Kinds.{KindModel, Key, zeros}
use Rattle.kinds.specs.declared.image.Image.{Image}
use Rattle.releases.specs.Entries.{Entry, leaf, gate, LeafAt, count, number}
use Rattle.releases.specs.Transcripts.{Transcript, challenge, commitment, response, IsKey, raised, Acceptable}
use Rattle.releases.specs.Keys.{same_image, key, opens, holds, satisfied}
use Rattle.releases.specs.Forks.{Quotient, Forked}
use Rattle.releases.specs.Theorems.{Setting, Fit, ForksSatisfy}
use Rattle.releases.proofs.Places.{none_some, found, inside}
use Rattle.releases.proofs.Order.{from_end}
use Rattle.releases.proofs.Satisfy.{satisfied_marks, image_refl}
use Rattle.releases.proofs.Leaf.{fork_leaf}
use Rattle.releases.proofs.Gate.{reaches}
use Rattle.releases.proofs.Quotients.{one_fork}

abbrev is_Some : {A : Type 0} → Option A → Type 0
is_Some None = ⊥
is_Some (Some x) = Unit {0}

abbrev value_or : {A : Type 0} → A → Option A → A
value_or d None = d
value_or d (Some x) = x

module _ (m : KindModel) (rule : List Entry) (st : Setting m rule)
    (t t' : Transcript) (ok : Acceptable m rule t) (ok' : Acceptable m rule t') (equal : t.commitments ≡ t'.commitments) where
  scalars : FieldLaws (scalars_model m.q)
  scalars = scalar_laws m.q st.lawful.prime st.lawful.low

  module _ (keys : List (Option Key)) (forked : Forked m.q rule t t' keys) where
    -- the quotient at a leaf whose challenges differ
    quotient_opens : (i kind : ℕ) (s : Image) → LeafAt rule i kind s → ¬ (challenge t i ≡ challenge t' i) → (x : Key)
        → Quotient m.q (challenge t i) (challenge t' i) (response rule t i) (response rule t' i) x → IsKey m kind x × ((m.kind kind).image x ≡ s)
    quotient_opens i kind s h ne x o =
        let known = st.stated i kind s h in
        let l = inside rule i (leaf kind s) h in
        fork_leaf m.q st.lawful.prime st.lawful.low (m.kind kind) (st.lawful.each kind known.0.0 known.0.1) s known.1
        (commitment rule t i) (ok.commitments i kind s h) (challenge t i) (challenge t' i) (ok.scalars i l) (ok'.scalars i l) ne
        (response rule t i) (response rule t' i) x (ok.responses i kind s h) (ok'.responses i kind s h)
        (ok.equations i kind s h)
        (ok'.equations i kind s h ∙ ap (λ cs. (m.kind kind).product (get_or cs (number rule i) zeros) (raised m kind s (challenge t' i).0)) (sym equal)) o

    opened : (i kind : ℕ) (s : Image) → LeafAt rule i kind s → (x : Key) → key rule keys i ≡ Some x → IsKey m kind x × ((m.kind kind).image x ≡ s)
    opened i kind s h x e = go (scalars.same? (challenge t i) (challenge t' i))
      where
        go : Dec (challenge t i ≡ challenge t' i) → IsKey m kind x × ((m.kind kind).image x ≡ s)
        go (yes f) = absurd (subst is_Some (sym (sym (forked.absent i kind s h f) ∙ e)) tt)
        go (no ne) =
            let o = forked.present i kind s h ne in
            subst (λ y. IsKey m kind y × ((m.kind kind).image y ≡ s)) (ap (value_or x) (sym o.1 ∙ e)) (quotient_opens i kind s h ne o.0 o.2)

    -- from the last entry to the first: an entry whose challenges differ is satisfied
    reached : (i : ℕ) → i < length rule → ¬ (challenge t i ≡ challenge t' i) → T (satisfied m rule keys i)
    reached =
        from_end (length rule) (λ i. ¬ (challenge t i ≡ challenge t' i) → T (satisfied m rule keys i))
        (λ i l ih ne. subst T (sym (satisfied_marks m rule st.formed keys i l)) (go i l ih ne (get_elem? rule i) refl))
      where
        go : (i : ℕ) → i < length rule → ((c : ℕ) → i < c → c < length rule → ¬ (challenge t c ≡ challenge t' c) → T (satisfied m rule keys c))
            → ¬ (challenge t i ≡ challenge t' i)
            → (e : Found Entry) → get_elem? rule i ≡ e → T (holds m e (key rule keys i) (satisfied m rule keys))
        go i l ih ne none e = none_some (found rule i l).0 (sym e ∙ (found rule i l).1)
        go i l ih ne (some (leaf kind s)) e =
            let o = forked.present i kind s e ne in
            subst (λ x. T (opens m kind s x)) (sym o.1)
            (subst (λ w. T (same_image w s)) (sym (quotient_opens i kind s e ne o.0 o.2).1) (image_refl s))
        go i l ih ne (some (gate k cs)) e =
            let fit = st.formed.fits i k cs e in
            le→leb k (count (satisfied m rule keys) cs)
            (reaches scalars k (challenge t i) (challenge t' i) (challenge t) (challenge t') cs (satisfied m rule keys)
            fit.0 fit.1 ne (ok.balanced i k cs e) (ok'.balanced i k cs e)
            (λ j h. let w = st.formed.later i k cs e j h in ih (get_or cs j 0) w.0 w.1))

    fit : ¬ (challenge t 0 ≡ challenge t' 0) → Fit m rule keys
    fit ne = record { opening = record { long = forked.long; each = opened }; satisfying = reached 0 st.formed.some_entry ne }

pub forks_satisfy : ForksSatisfy
forks_satisfy m rule st t t' ok ok' equal ne =
    let low = st.lawful.low in (
      one_fork m.q (omega arith) (scalar_laws m.q st.lawful.prime st.lawful.low) rule t t' ok.scalars ok'.scalars,
      λ keys f. fit m rule st t t' ok ok' equal keys f ne,
    )
