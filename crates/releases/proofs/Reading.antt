-- The tape read back off a transcript: it makes the transcript, and no other does.
use Rattle.std.proofs.Common.{◌≡◌, ℕ, zero, suc, ◌-◌, ◌<◌, ◌≤◌, Bool, cond, not, T, List, [], ◌∷◌, map, length, get_or, take, Option, sym, refl, ap, ◌∙◌, subst, arith, lt→ltb, length-take-le, ext_get_or}
use mathlib.Core.Option.{some}
use lib.ListN.{get_elem?, length-map}
use Rattle.fields.specs.Scalars.{scalar}
use Rattle.fields.specs.declared.scalar.Scalar.{Scalar}
use Rattle.fields.specs.ScalarLaws.{scalar_laws}
use Rattle.polynomials.proofs.Roots.{All}
use Rattle.kinds.specs.Kinds.{KindModel, Key, add_keys, KindLaws}
use Rattle.kinds.specs.declared.image.Image.{Image}
use Rattle.rules.specs.Tables.{Only}
use Rattle.splits.specs.Marks.{marked}
use Rattle.splits.proofs.Picked.{length_marked, all_at, all_from, all_marked}
use Rattle.releases.specs.Entries.{Entry, leaf, gate, LeafAt, laid}
use Rattle.releases.specs.Transcripts.{Transcript, challenge, commitment, response, is_scalar, IsKey, raised, Acceptable}
use Rattle.releases.specs.Keys.{key, sub_keys, scale_key}
use Rattle.releases.specs.Making.{share_size, Tape, share, drawn, given, held, Made}
use Rattle.releases.specs.Theorems.{Setting}
use Rattle.releases.proofs.Places.{either, inside, is_true, is_false, get_d_map}
use Rattle.releases.proofs.Laid.{Sized, laid_length, laid_share, laid_all, shares_same}
use Rattle.releases.proofs.KeyLaws.{Fits, key_fits, key_forth}
use Rattle.releases.proofs.Leaf.{only_fitting, nonce_back, nonce_image, sub_in, scale_in}
use Rattle.releases.proofs.Given.{Sound, marking, drawn_key, tape_share_long}

-- the scalars of a key of width n, and the key of these
abbrev scalars_of : ℕ → Key → List Scalar
scalars_of n x = take n (x.0 ∷ x.1 ∷ [])

abbrev key_of : List Scalar → Key
key_of s = (get_or s 0 (scalar 0), get_or s 1 (scalar 0))

key_of_scalars : (n : ℕ) → 1 ≤ n → n ≤ 2 → (x : Key) → (n ≡ 1 → x.1.0 ≡ 0) → key_of (scalars_of n x) ≡ x
key_of_scalars zero l h x w = absurd (omega arith)
key_of_scalars (suc zero) l h x w = ap (λ b. (x.0, scalar b)) (sym (w refl))
key_of_scalars (suc (suc zero)) l h x w = refl
key_of_scalars (suc (suc (suc n))) l h x w = absurd (omega arith)

same_scalars : (n : ℕ) → n ≤ 2 → (a b : List Scalar) → length a ≡ n → length b ≡ n → key_of a ≡ key_of b → a ≡ b
same_scalars n high a b la lb e = ext_get_or (scalar 0) a b (la ∙ sym lb) at
  where
    at : (j : ℕ) → j < length a → get_or a j (scalar 0) ≡ get_or b j (scalar 0)
    at zero l = ap (λ (y : Key). y.0) e
    at (suc zero) l = ap (λ (y : Key). y.1) e
    at (suc (suc j)) l = absurd (omega arith)

scalars_all : (P : Scalar → Type 0) (n : ℕ) → n ≤ 2 → (x : Key) → P x.0 → P x.1 → All P (scalars_of n x)
scalars_all P zero h x a b = tt
scalars_all P (suc zero) h x a b = (a, tt)
scalars_all P (suc (suc zero)) h x a b = (a, (b, tt))
scalars_all P (suc (suc (suc n))) h x a b = absurd (omega arith)

module _ (m : KindModel) (rule : List Entry) (st : Setting m rule) (real : ℕ → Bool) (keys : List (Option Key)) (sound : Sound m rule keys real) (t : Transcript) where
  pos : 0 < m.q
  pos = let low = st.lawful.low in omega arith

  laws_at : (i kind : ℕ) (s : Image) → LeafAt rule i kind s → KindLaws m.q (m.kind kind)
  laws_at i kind s h = let known = (st.stated i kind s h).0 in st.lawful.each kind known.0 known.1

  scaled : ℕ → Key
  scaled i = scale_key m.q (challenge t i) (held (key rule keys i))

  leaf_share : ℕ → Key
  leaf_share i = cond (real i) (sub_keys m.q (response rule t i) (scaled i)) (response rule t i)

  leaf_real : (i : ℕ) → T (real i) → leaf_share i ≡ sub_keys m.q (response rule t i) (scaled i)
  unfolding leaf_share
  leaf_real i r = ap (λ b. cond b (sub_keys m.q (response rule t i) (scaled i)) (response rule t i)) (is_true (real i) r)

  leaf_simulated : (i : ℕ) → T (not (real i)) → leaf_share i ≡ response rule t i
  unfolding leaf_share
  leaf_simulated i r = ap (λ b. cond b (sub_keys m.q (response rule t i) (scaled i)) (response rule t i)) (is_false (real i) r)

  read : ℕ → Entry → List Scalar
  read i (leaf kind s) = scalars_of (m.kind kind).width (leaf_share i)
  read i (gate k cs) = marked (given real i k cs) (map (challenge t) cs)

  read_sized : Sized (share_size m) rule read
  unfolding read
  read_sized i (leaf kind s) h = length-take-le (m.kind kind).width ((leaf_share i).0 ∷ (leaf_share i).1 ∷ []) (laws_at i kind s h).width_high
  read_sized i (gate k cs) h =
      let g = marking st.formed sound i k cs h in
      let long = g.long in
      let lacks = g.lacks in
      let same = length-map cs (challenge t) in
      let n = length_marked (given real i k cs) (map (challenge t) cs) (omega arith) in
      omega arith

  tape : List Scalar
  tape = laid read rule

  share_read : (i : ℕ) (e : Entry) → get_elem? rule i ≡ some e → share m rule tape i (share_size m e) ≡ read i e
  unfolding tape
  share_read i e h = laid_share (share_size m) read rule read_sized i e h

  scaled_key : (i kind : ℕ) (s : Image) → LeafAt rule i kind s → T (real i) → IsKey m kind (scaled i)
  unfolding scaled
  scaled_key i kind s h r =
      scale_in m.q st.lawful.prime st.lawful.low (m.kind kind) (laws_at i kind s h) (challenge t i) (held (key rule keys i)) (sound.opened i kind s h r).0

  key_at : (i kind : ℕ) (s : Image) → LeafAt rule i kind s → (x : Key) → IsKey m kind x → Fits m.q (m.kind kind).width x
  key_at i kind s h x = key_fits m.q (m.kind kind).width pos (laws_at i kind s h).width_low (laws_at i kind s h).width_high x

  module _ (ok : Acceptable m rule t) where
    leaf_key : (i kind : ℕ) (s : Image) → LeafAt rule i kind s → IsKey m kind (leaf_share i)
    leaf_key i kind s h =
        either (real i)
        (λ r. subst (IsKey m kind) (sym (leaf_real i r))
        (sub_in m.q st.lawful.prime st.lawful.low (m.kind kind) (laws_at i kind s h) (response rule t i) (scaled i) (ok.responses i kind s h) (scaled_key i kind s h r)))
        (λ r. subst (IsKey m kind) (sym (leaf_simulated i r)) (ok.responses i kind s h))

    read_in : (i : ℕ) (e : Entry) → get_elem? rule i ≡ some e → All (λ x. T (is_scalar m x)) (read i e)
    unfolding read
    read_in i (leaf kind s) h =
        let f = key_at i kind s h (leaf_share i) (leaf_key i kind s h) in
        scalars_all (λ x. T (is_scalar m x)) (m.kind kind).width (laws_at i kind s h).width_high (leaf_share i)
        (lt→ltb (leaf_share i).0.0 m.q f.first) (lt→ltb (leaf_share i).1.0 m.q f.second)
    read_in i (gate k cs) h =
        all_marked (λ x. T (is_scalar m x)) (given real i k cs) (map (challenge t) cs)
        (all_from (λ x. T (is_scalar m x)) (map (challenge t) cs) (scalar 0) (λ j l.
        let l' : j < length cs = subst (λ n. j < n) (length-map cs (challenge t)) l in
        subst (λ x. T (is_scalar m x)) (sym (get_d_map (challenge t) cs j (scalar 0) l')) (ok.scalars (get_or cs j 0) (st.formed.later i k cs h j l').1)))

    read_tape : Tape m rule tape
    unfolding tape
    read_tape = record {
      long = laid_length (share_size m) read rule read_sized;
      scalars = λ x l. all_at (λ x. T (is_scalar m x)) (laid read rule) (scalar 0) (laid_all (share_size m) (λ x. T (is_scalar m x)) read rule read_in) x l;
    }

    drawn_read : (i kind : ℕ) (s : Image) → LeafAt rule i kind s → drawn m rule tape i kind ≡ leaf_share i
    unfolding read
    drawn_read i kind s h =
        let law = laws_at i kind s h in
        ap key_of (share_read i (leaf kind s) h)
        ∙ key_of_scalars (m.kind kind).width law.width_low law.width_high (leaf_share i) (key_at i kind s h (leaf_share i) (leaf_key i kind s h)).narrow

    read_made : Made m rule real keys tape (challenge t 0) t
    unfolding read scaled
    read_made = record {
      shaped = ok.shaped;
      root = refl;
      balanced = ok.balanced;
      shared = λ i k cs h. sym (share_read i (gate k cs) h);
      simulated = λ i kind s h r.
          let e : drawn m rule tape i kind ≡ response rule t i = drawn_read i kind s h ∙ leaf_simulated i r in (
            sym e,
            only_fitting m.q st.lawful.prime st.lawful.low (m.kind kind) (laws_at i kind s h) s (st.stated i kind s h).1 (response rule t i) (ok.responses i kind s h)
                (challenge t i) (ok.scalars i (inside rule i (leaf kind s) h)) (commitment rule t i) (ok.commitments i kind s h) (ok.equations i kind s h)
                ∙ ap (λ y. (m.kind kind).product ((m.kind kind).image y) (raised m kind s (m.q - (challenge t i).0))) (sym e),
          );
      answered = λ i kind s h r.
          let o = sound.opened i kind s h r in
          let e : drawn m rule tape i kind ≡ sub_keys m.q (response rule t i) (scaled i) = drawn_read i kind s h ∙ leaf_real i r in (
            nonce_back m.q st.lawful.prime st.lawful.low (m.kind kind) (laws_at i kind s h) s (st.stated i kind s h).1 (held (key rule keys i)) o.0 (challenge t i)
                (response rule t i) (ok.responses i kind s h)
                ∙ ap (λ y. add_keys m.q y (scaled i)) (sym e),
            nonce_image m.q st.lawful.prime st.lawful.low (m.kind kind) (laws_at i kind s h) s (st.stated i kind s h).1 (held (key rule keys i)) o.0 o.1 (challenge t i)
                (response rule t i) (ok.responses i kind s h) (commitment rule t i) (ok.commitments i kind s h) (ok.equations i kind s h)
                ∙ ap (m.kind kind).image (sym e),
          );
    }

  -- two tapes that make one transcript are the same
  same_tape : (c : Scalar) (a b : List Scalar) → Tape m rule a → Tape m rule b → Made m rule real keys a c t → Made m rule real keys b c t → a ≡ b
  unfolding scaled
  same_tape c a b ta tb ma mb = shares_same (share_size m) rule a b ta.long tb.long go
    where
      drawn_real : (x : List Scalar) → Tape m rule x → Made m rule real keys x c t → (i kind : ℕ) (s : Image) → LeafAt rule i kind s → T (real i)
          → drawn m rule x i kind ≡ sub_keys m.q (response rule t i) (scaled i)
      drawn_real x tx mx i kind s h r =
          let law = laws_at i kind s h in
          let d = drawn m rule x i kind in
          sym (key_forth m.q (m.kind kind).width pos law.width_low law.width_high (scalar_laws m.q st.lawful.prime st.lawful.low) d (scaled i)
          (key_at i kind s h d (drawn_key m rule x tx st.lawful i kind s h (st.stated i kind s h).0)) (key_at i kind s h (scaled i) (scaled_key i kind s h r)))
          ∙ ap (λ y. sub_keys m.q y (scaled i)) (sym (mx.answered i kind s h r).0)

      go : (i : ℕ) (e : Entry) → get_elem? rule i ≡ some e → share m rule a i (share_size m e) ≡ share m rule b i (share_size m e)
      go i (leaf kind s) h =
          same_scalars (m.kind kind).width (laws_at i kind s h).width_high (share m rule a i (m.kind kind).width) (share m rule b i (m.kind kind).width)
          (tape_share_long m rule a ta i (leaf kind s) h) (tape_share_long m rule b tb i (leaf kind s) h)
          (either (real i) (λ r. drawn_real a ta ma i kind s h r ∙ sym (drawn_real b tb mb i kind s h r)) (λ r. sym (ma.simulated i kind s h r).0 ∙ (mb.simulated i kind s h r).0))
      go i (gate k cs) h = sym (ma.shared i k cs h) ∙ mb.shared i k cs h

  -- every acceptable transcript has exactly one tape
  pub one_tape : Acceptable m rule t → Only (λ x. Tape m rule x × Made m rule real keys x (challenge t 0) t)
  one_tape ok = (tape, (read_tape ok, read_made ok), λ x p. same_tape (challenge t 0) x tape p.0 (read_tape ok) p.1 (read_made ok))
