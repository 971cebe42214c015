-- The quotient of responses by challenges: there is one, and a fork writes it exactly where the challenges differ.
use Rattle.std.proofs.Common.{◌≡◌, ℕ, ◌+◌, ◌-◌, ◌%◌, ◌<◌, T, ltb, List, length, Some, None, Option, sym, refl, ap, ◌∙◌, ap₂, mod-lt, ltb→lt, lt→ltb}
use Rattle.fields.specs.Fields.{FieldLaws, minus}
use Rattle.fields.specs.Scalars.{scalar, scalars_model}
use Rattle.fields.specs.declared.scalar.Scalar.{Scalar}
use Rattle.kinds.specs.Kinds.{Key}
use Rattle.kinds.specs.declared.image.Image.{Image}
use Rattle.rules.specs.Tables.{Only}
use Rattle.releases.specs.Entries.{Entry, leaf, LeafAt, laid}
use Rattle.releases.specs.Transcripts.{Transcript, challenge, response}
use Rattle.releases.specs.Keys.{key, scale_key}
use Rattle.releases.specs.Forks.{Quotient, Forked}
use Rattle.releases.proofs.Places.{inside}
use Rattle.releases.proofs.Laid.{at_leaf, at_leaf_length, at_leaf_is, leaf_by_leaf}
use Rattle.releases.proofs.Arithmetic.{minus_apart, quotient, cancel_times}

module _ (q : ℕ) (pos : 0 < q) (laws : FieldLaws (scalars_model q)) where
  abbrev In : Scalar → Type 0
  In x = T (ltb x.0 q)

  difference_in : (a b : Scalar) → In (minus (scalars_model q) a b)
  difference_in a b = lt→ltb ((a.0 + (q - b.0) % q) % q) q (mod-lt (a.0 + (q - b.0) % q) pos)

  divided : (c c' : Scalar) → ¬ (minus (scalars_model q) c c' ≡ scalar 0) → (r r' : Key) → (x : Key) × Quotient q c c' r r' x
  divided c c' ne r r' =
      let d = minus (scalars_model q) c c' in
      let a = quotient laws d (minus (scalars_model q) r.0 r'.0) (difference_in c c') (difference_in r.0 r'.0) ne in
      let b = quotient laws d (minus (scalars_model q) r.1 r'.1) (difference_in c c') (difference_in r.1 r'.1) ne in (
        (a.0, b.0),
        record { first = ltb→lt a.0.0 q a.1; second = ltb→lt b.0.0 q b.1; product = ap₂ (λ x y. (x, y)) a.2 b.2 },
      )

  pub one_quotient : (c c' : Scalar) → In c → In c' → ¬ (c ≡ c') → (r r' x y : Key) → Quotient q c c' r r' x → Quotient q c c' r r' y → x ≡ y
  one_quotient c c' hc hc' ne r r' x y a b =
      let d = minus (scalars_model q) c c' in
      let away = minus_apart laws c c' hc hc' ne in
      let same : scale_key q d x ≡ scale_key q d y = a.product ∙ sym b.product in
      ap₂ (λ u v. (u, v))
      (cancel_times laws d x.0 y.0 (difference_in c c') (lt→ltb x.0.0 q a.first) (lt→ltb y.0.0 q b.first) away (ap (λ (w : Key). w.0) same))
      (cancel_times laws d x.1 y.1 (difference_in c c') (lt→ltb x.1.0 q a.second) (lt→ltb y.1.0 q b.second) away (ap (λ (w : Key). w.1) same))

  module _ (rule : List Entry) (t t' : Transcript)
      (scalars : (i : ℕ) → i < length rule → In (challenge t i)) (scalars' : (i : ℕ) → i < length rule → In (challenge t' i)) where
    abbrev Level : ℕ → Type 0
    Level i = minus (scalars_model q) (challenge t i) (challenge t' i) ≡ scalar 0

    by_test : (i : ℕ) → Dec (Level i) → Option Key
    by_test i (yes _) = None
    by_test i (no ne) = Some (divided (challenge t i) (challenge t' i) ne (response rule t i) (response rule t' i)).0

    fork_at : ℕ → Option Key
    fork_at i = by_test i (laws.same? (minus (scalars_model q) (challenge t i) (challenge t' i)) (scalar 0))

    none_at : (i : ℕ) → i < length rule → challenge t i ≡ challenge t' i → fork_at i ≡ None
    unfolding fork_at by_test
    none_at i l e = go (laws.same? (minus (scalars_model q) (challenge t i) (challenge t' i)) (scalar 0))
      where
        go : (d : Dec (Level i)) → by_test i d ≡ None
        go (yes _) = refl
        go (no ne) = absurd (ne (ap (λ c. minus (scalars_model q) c (challenge t' i)) e ∙ laws.plus_negative (challenge t' i) (scalars' i l)))

    some_at : (i : ℕ) → i < length rule → ¬ (challenge t i ≡ challenge t' i)
        → (x : Key) × (fork_at i ≡ Some x) × Quotient q (challenge t i) (challenge t' i) (response rule t i) (response rule t' i) x
    unfolding fork_at by_test
    some_at i l ne = go (laws.same? (minus (scalars_model q) (challenge t i) (challenge t' i)) (scalar 0))
      where
        go : (d : Dec (Level i)) → (x : Key) × (by_test i d ≡ Some x) × Quotient q (challenge t i) (challenge t' i) (response rule t i) (response rule t' i) x
        go (yes z) = absurd (minus_apart laws (challenge t i) (challenge t' i) (scalars i l) (scalars' i l) ne z)
        go (no away) = let o = divided (challenge t i) (challenge t' i) away (response rule t i) (response rule t' i) in (o.0, refl, o.1)

    keys : List (Option Key)
    keys = laid (at_leaf fork_at) rule

    key_is : (i kind : ℕ) (s : Image) → LeafAt rule i kind s → key rule keys i ≡ fork_at i
    unfolding keys
    key_is i kind s h = at_leaf_is fork_at rule None i kind s h

    forked : Forked q rule t t' keys
    forked = record {
      long = unfold keys in at_leaf_length fork_at rule;
      absent = λ i kind s h e. key_is i kind s h ∙ none_at i (inside rule i (leaf kind s) h) e;
      present = λ i kind s h ne. let o = some_at i (inside rule i (leaf kind s) h) ne in (o.0, key_is i kind s h ∙ o.1, o.2);
    }

    same_keys : (a b : List (Option Key)) → Forked q rule t t' a → Forked q rule t t' b → a ≡ b
    same_keys a b f g = leaf_by_leaf rule None a b f.long g.long (λ i kind s h. at i kind s h (laws.same? (challenge t i) (challenge t' i)))
      where
        at : (i kind : ℕ) (s : Image) → LeafAt rule i kind s → Dec (challenge t i ≡ challenge t' i) → key rule a i ≡ key rule b i
        at i kind s h (yes e) = f.absent i kind s h e ∙ sym (g.absent i kind s h e)
        at i kind s h (no ne) =
            let x = f.present i kind s h ne in
            let y = g.present i kind s h ne in
            let l = inside rule i (leaf kind s) h in
            x.1 ∙ ap Some (one_quotient (challenge t i) (challenge t' i) (scalars i l) (scalars' i l) ne (response rule t i) (response rule t' i) x.0 y.0 x.2 y.2) ∙ sym y.1

    pub one_fork : Only (Forked q rule t t')
    one_fork = (keys, forked, λ a f. same_keys a keys f forked)
