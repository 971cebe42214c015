-- What is made is determined: the transcript by the challenge, and the commitments before it.
use Rattle.std.proofs.Common.{◌≡◌, ℕ, ◌-◌, ◌<◌, Bool, false, not, T, List, map, length, get_or, Option, sym, ap, ◌∙◌, subst, arith, T_not, ext_get_or}
use lib.ListN.{length-map}
use Rattle.fields.specs.Fields.{FieldLaws}
use Rattle.fields.specs.Scalars.{scalar, scalars_model}
use Rattle.fields.specs.declared.scalar.Scalar.{Scalar}
use Rattle.fields.specs.ScalarLaws.{scalar_laws}
use Rattle.kinds.specs.Kinds.{KindModel, Key, zeros, add_keys, Lawful}
use Rattle.kinds.specs.declared.image.Image.{Image}
use Rattle.splits.specs.Gates.{Balanced}
use Rattle.splits.specs.Marks.{marked}
use Rattle.releases.specs.Entries.{Entry, leaf, GateAt, WellFormed}
use Rattle.releases.specs.Transcripts.{Transcript, challenge, raised}
use Rattle.releases.specs.Keys.{key, scale_key}
use Rattle.releases.specs.Making.{drawn, given, held, Made, Begun}
use Rattle.releases.proofs.Places.{either, inside, get_d_map}
use Rattle.releases.proofs.Laid.{leaf_by_leaf}
use Rattle.releases.proofs.Gate.{same_children, marked_agree}
use Rattle.releases.proofs.Given.{Sound, marking, given_real}
use Rattle.releases.proofs.Descend.{by_parent}

module _ (m : KindModel) (law : Lawful m) (rule : List Entry) (wf : WellFormed rule) (real : ℕ → Bool) (keys : List (Option Key)) (sound : Sound m rule keys real)
    (tape : List Scalar) where
  scalars : FieldLaws (scalars_model m.q)
  scalars = scalar_laws m.q law.prime law.low

  -- the own challenge and the given children's determine a gate
  gate_same : (ch ch' : ℕ → Scalar) (p k : ℕ) (cs : List ℕ) → GateAt rule p k cs → ch p ≡ ch' p
      → Balanced (scalars_model m.q) k (ch p) (map ch cs) → Balanced (scalars_model m.q) k (ch' p) (map ch' cs)
      → marked (given real p k cs) (map ch cs) ≡ marked (given real p k cs) (map ch' cs)
      → (j : ℕ) → j < length cs → ch (get_or cs j 0) ≡ ch' (get_or cs j 0)
  gate_same ch ch' p k cs h own b b' agree j l =
      let g = marking wf sound p k cs h in
      let fit = wf.fits p k cs h in
      let long = g.long in
      let same : map ch cs ≡ map ch' cs =
      same_children scalars (ch p) (given real p k cs) (omega arith) (map ch cs) (map ch' cs) (length-map cs ch ∙ sym long) (length-map cs ch' ∙ sym long)
      (subst (λ n. Balanced (scalars_model m.q) n (ch p) (map ch cs)) (sym g.lacks) b)
      (subst (λ n. Balanced (scalars_model m.q) n (ch p) (map ch' cs)) (sym g.lacks) (subst (λ o. Balanced (scalars_model m.q) k o (map ch' cs)) (sym own) b'))
      agree in
      sym (get_d_map ch cs j (scalar 0) l) ∙ ap (λ ds. get_or ds j (scalar 0)) same ∙ get_d_map ch' cs j (scalar 0) l

  -- a real gate's share gives its simulated children
  given_same : (ch ch' : ℕ → Scalar) (p k : ℕ) (cs : List ℕ) → T (real p)
      → marked (given real p k cs) (map ch cs) ≡ marked (given real p k cs) (map ch' cs)
      → (j : ℕ) → j < length cs → T (not (real (get_or cs j 0))) → ch (get_or cs j 0) ≡ ch' (get_or cs j 0)
  given_same ch ch' p k cs r agree j l n =
      let marks = map (λ c. not (real c)) cs in
      let e = given_real wf sound p k cs r in
      let long = length-map cs (λ c. not (real c)) in
      let a = marked_agree (scalars_model m.q) marks (map ch cs) (map ch' cs) (long ∙ sym (length-map cs ch)) (long ∙ sym (length-map cs ch'))
      (subst (λ bs. marked bs (map ch cs) ≡ marked bs (map ch' cs)) e agree) in
      sym (get_d_map ch cs j (scalar 0) l)
      ∙ a j (omega arith) (subst T (sym (get_d_map (λ c. not (real c)) cs j false l)) n)
      ∙ get_d_map ch' cs j (scalar 0) l

  -- before the challenge: simulated entries' challenges, and all commitments
  begun_challenges : T (real 0) → (ch ch' : ℕ → Scalar) (a a' : List Image) → Begun m rule real tape ch a → Begun m rule real tape ch' a'
      → (i : ℕ) → i < length rule → T (not (real i)) → ch i ≡ ch' i
  begun_challenges r0 ch ch' a a' b b' =
      by_parent rule wf (λ i. T (not (real i)) → ch i ≡ ch' i) (λ n. absurd (T_not (real 0) n r0))
      (λ p k cs h ih j l n.
      let agree = b.shared p k cs h ∙ sym (b'.shared p k cs h) in
      either (real p)
      (λ r. given_same ch ch' p k cs r agree j l n)
      (λ r. gate_same ch ch' p k cs h (ih r) (b.balanced p k cs h r) (b'.balanced p k cs h r) agree j l))

  pub begun_same : T (real 0) → (ch ch' : ℕ → Scalar) (a a' : List Image) → Begun m rule real tape ch a → Begun m rule real tape ch' a' → a ≡ a'
  begun_same r0 ch ch' a a' b b' =
      leaf_by_leaf rule zeros a a' b.long b'.long (λ i kind s h.
      either (real i) (λ r. b.answered i kind s h r ∙ sym (b'.answered i kind s h r))
      (λ r. b.simulated i kind s h r
      ∙ ap (λ (c : Scalar). (m.kind kind).product ((m.kind kind).image (drawn m rule tape i kind)) (raised m kind s (m.q - c.0)))
      (begun_challenges r0 ch ch' a a' b b' i (inside rule i (leaf kind s) h) r)
      ∙ sym (b'.simulated i kind s h r)))

  pub made_begun : (c : Scalar) (t : Transcript) → Made m rule real keys tape c t → Begun m rule real tape (challenge t) t.commitments
  made_begun c t made = record {
    long = made.shaped.commitments;
    balanced = λ i k cs h _. made.balanced i k cs h;
    shared = made.shared;
    simulated = λ i kind s h r. (made.simulated i kind s h r).1;
    answered = λ i kind s h r. (made.answered i kind s h r).1;
  }

  made_challenges : (c : Scalar) (t t' : Transcript) → Made m rule real keys tape c t → Made m rule real keys tape c t' → (i : ℕ) → i < length rule → challenge t i ≡ challenge t' i
  made_challenges c t t' a b =
      by_parent rule wf (λ i. challenge t i ≡ challenge t' i) (a.root ∙ sym b.root)
      (λ p k cs h e j l. gate_same (challenge t) (challenge t') p k cs h e (a.balanced p k cs h) (b.balanced p k cs h) (a.shared p k cs h ∙ sym (b.shared p k cs h)) j l)

  pub made_same : (c : Scalar) (t t' : Transcript) → Made m rule real keys tape c t → Made m rule real keys tape c t' → t ≡ t'
  made_same c t t' a b =
      λ i. record { challenges = chs i; commitments = coms i; responses = resps i }
    where
      same : (i : ℕ) → i < length rule → challenge t i ≡ challenge t' i
      same = made_challenges c t t' a b

      chs : t.challenges ≡ t'.challenges
      chs =
          ext_get_or (scalar 0) t.challenges t'.challenges (a.shaped.challenges ∙ sym b.shaped.challenges)
          (λ i l. same i (subst (λ n. i < n) a.shaped.challenges l))

      coms : t.commitments ≡ t'.commitments
      coms =
          leaf_by_leaf rule zeros t.commitments t'.commitments a.shaped.commitments b.shaped.commitments (λ i kind s h.
          either (real i) (λ r. (a.answered i kind s h r).1 ∙ sym (b.answered i kind s h r).1)
          (λ r. (a.simulated i kind s h r).1
          ∙ ap (λ (c : Scalar). (m.kind kind).product ((m.kind kind).image (drawn m rule tape i kind)) (raised m kind s (m.q - c.0))) (same i (inside rule i (leaf kind s) h))
          ∙ sym (b.simulated i kind s h r).1))

      resps : t.responses ≡ t'.responses
      resps =
          leaf_by_leaf rule (scalar 0, scalar 0) t.responses t'.responses a.shaped.responses b.shaped.responses (λ i kind s h.
          either (real i)
          (λ r. (a.answered i kind s h r).0
          ∙ ap (λ c. add_keys m.q (drawn m rule tape i kind) (scale_key m.q c (held (key rule keys i)))) (same i (inside rule i (leaf kind s) h))
          ∙ sym (b.answered i kind s h r).0)
          (λ r. (a.simulated i kind s h r).0 ∙ sym (b.simulated i kind s h r).0))
