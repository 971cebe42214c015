-- Every tape and challenge make a transcript: challenges go down from gate to child.
use Rattle.std.proofs.Common.{◌≡◌, ℕ, ◌-◌, ◌%◌, ◌<◌, Bool, cond, T, List, [], map, length, get_or, Option, sym, refl, ap, ◌∙◌, subst, mod-lt, mod-eq_of_lt, arith, ltb→lt, lt→ltb, ext_get_or}
use mathlib.Core.Option.{Option as Found, some, none}
use lib.ListN.{get_elem?, length-map}
use Rattle.fields.specs.Fields.{FieldLaws}
use Rattle.fields.specs.Scalars.{scalar, scalars_model}
use Rattle.fields.specs.declared.scalar.Scalar.{Scalar}
use Rattle.fields.specs.ScalarLaws.{scalar_laws}
use Rattle.kinds.specs.Kinds.{KindModel, Key, zeros, add_keys, Lawful}
use Rattle.kinds.specs.declared.image.Image.{Image}
use Rattle.rules.specs.Tables.{Only}
use Rattle.splits.specs.Gates.{Balanced}
use Rattle.splits.specs.Marks.{marked}
use Rattle.releases.specs.Entries.{Entry, leaf, gate, LeafAt, GateAt, WellFormed, laid}
use Rattle.releases.specs.Transcripts.{Transcript, challenge, commitment, response, is_scalar, raised}
use Rattle.releases.specs.Keys.{key, scale_key}
use Rattle.releases.specs.Making.{Tape, share, drawn, given, held, Made}
use Rattle.releases.proofs.Places.{inside, is_true, is_false, get_d_map, run, length_run, getD_run}
use Rattle.releases.proofs.Laid.{at_leaf, at_leaf_length, at_leaf_is}
use Rattle.releases.proofs.Gate.{complete, child_in}
use Rattle.releases.proofs.Given.{Sound, marking, tape_share_long, share_in}
use Rattle.releases.proofs.Descend.{by_parent, descend, descend_root, descend_child}
use Rattle.releases.proofs.Determined.{made_same}

module _ (m : KindModel) (law : Lawful m) (rule : List Entry) (wf : WellFormed rule) (real : ℕ → Bool) (keys : List (Option Key)) (sound : Sound m rule keys real)
    (tape : List Scalar) (is-tape : Tape m rule tape) (c : Scalar) (small : T (is_scalar m c)) where
  scalars : FieldLaws (scalars_model m.q)
  scalars = scalar_laws m.q law.prime law.low

  -- the children of a gate, from its own challenge and its share
  abbrev Filled : ℕ → Scalar → List Scalar → Found Entry → Type 0
  Filled p own ds none = Unit {0}
  Filled p own ds (some (leaf kind s)) = Unit {0}
  Filled p own ds (some (gate k cs)) =
      (length ds ≡ length cs) × Balanced (scalars_model m.q) k own ds × (marked (given real p k cs) ds ≡ share m rule tape p (length cs - k))

  reduced : Scalar → Scalar
  reduced x = scalar (x.0 % m.q)

  reduced_in : (x : Scalar) → T (is_scalar m (reduced x))
  unfolding reduced
  reduced_in x = let low = law.low in lt→ltb (x.0 % m.q) m.q (mod-lt x.0 (omega arith))

  reduced_same : (x : Scalar) → T (is_scalar m x) → reduced x ≡ x
  unfolding reduced
  reduced_same x h = ap scalar (mod-eq_of_lt (ltb→lt x.0 m.q h))

  fill : (p : ℕ) (own : Scalar) (e : Found Entry) → get_elem? rule p ≡ e → (ds : List Scalar) × (T (is_scalar m own) → Filled p own ds e)
  fill p own none h = ([], λ _. tt)
  fill p own (some (leaf kind s)) h = ([], λ _. tt)
  fill p own (some (gate k cs)) h =
      let g = marking wf sound p k cs h in
      let long = g.long in
      let lacks = g.lacks in
      let fit = wf.fits p k cs h in
      let s = share m rule tape p (length cs - k) in
      let s-long : length s ≡ length cs - k = tape_share_long m rule tape is-tape p (gate k cs) h in
      let r = complete scalars (reduced own) (given real p k cs) s (omega arith) (reduced_in own) (share_in m rule tape is-tape p (gate k cs) h) (omega arith) in (
        r.0,
        λ l. (
          r.1 ∙ long,
          subst (λ o. Balanced (scalars_model m.q) k o r.0) (reduced_same own l) (subst (λ n. Balanced (scalars_model m.q) n (reduced own) r.0) lacks r.2),
          r.3,
        ),
      )

  next : ℕ → Scalar → List Scalar
  next p own = (fill p own (get_elem? rule p) refl).0

  next_filled : (p k : ℕ) (cs : List ℕ) → GateAt rule p k cs → (own : Scalar) → T (is_scalar m own) → Filled p own (next p own) (some (gate k cs))
  unfolding next
  next_filled p k cs h own l = subst (Filled p own (next p own)) h ((fill p own (get_elem? rule p) refl).1 l)

  -- the challenges
  final : ℕ → Scalar
  final = descend rule wf c (λ p own j. get_or (next p own) j (scalar 0))

  final_root : final 0 ≡ c
  unfolding final
  final_root = descend_root rule wf c (λ p own j. get_or (next p own) j (scalar 0))

  final_child : (p k : ℕ) (cs : List ℕ) → GateAt rule p k cs → (j : ℕ) → j < length cs → final (get_or cs j 0) ≡ get_or (next p (final p)) j (scalar 0)
  unfolding final
  final_child = descend_child rule wf c (λ p own j. get_or (next p own) j (scalar 0))

  final_in : (i : ℕ) → i < length rule → T (is_scalar m (final i))
  final_in =
      by_parent rule wf (λ i. T (is_scalar m (final i))) (subst (λ u. T (is_scalar m u)) (sym final_root) small)
      (λ p k cs h own j l.
      let f = next_filled p k cs h (final p) own in
      let fit = wf.fits p k cs h in
      let long = f.0 in
      subst (λ u. T (is_scalar m u)) (sym (final_child p k cs h j l)) (child_in scalars k (final p) (next p (final p)) (omega arith) f.1 j (omega arith)))

  commit_at : Found Entry → ℕ → Image
  commit_at none i = zeros
  commit_at (some (gate k cs)) i = zeros
  commit_at (some (leaf kind s)) i =
      cond (real i) ((m.kind kind).image (drawn m rule tape i kind))
      ((m.kind kind).product ((m.kind kind).image (drawn m rule tape i kind)) (raised m kind s (m.q - (final i).0)))

  answer_at : Found Entry → ℕ → Key
  answer_at none i = (scalar 0, scalar 0)
  answer_at (some (gate k cs)) i = (scalar 0, scalar 0)
  answer_at (some (leaf kind s)) i =
      cond (real i) (add_keys m.q (drawn m rule tape i kind) (scale_key m.q (final i) (held (key rule keys i)))) (drawn m rule tape i kind)

  t : Transcript
  t = record {
    challenges = run final (length rule);
    commitments = laid (at_leaf (λ i. commit_at (get_elem? rule i) i)) rule;
    responses = laid (at_leaf (λ i. answer_at (get_elem? rule i) i)) rule;
  }

  t_challenge : (i : ℕ) → i < length rule → challenge t i ≡ final i
  unfolding t
  t_challenge i l = getD_run final (length rule) i (scalar 0) l

  t_commitment : (i kind : ℕ) (s : Image) → LeafAt rule i kind s → commitment rule t i ≡ commit_at (some (leaf kind s)) i
  unfolding t
  t_commitment i kind s h = at_leaf_is (λ i. commit_at (get_elem? rule i) i) rule zeros i kind s h ∙ ap (λ e. commit_at e i) h

  t_response : (i kind : ℕ) (s : Image) → LeafAt rule i kind s → response rule t i ≡ answer_at (some (leaf kind s)) i
  unfolding t
  t_response i kind s h = at_leaf_is (λ i. answer_at (get_elem? rule i) i) rule (scalar 0, scalar 0) i kind s h ∙ ap (λ e. answer_at e i) h

  t_children : (p k : ℕ) (cs : List ℕ) → GateAt rule p k cs → map (challenge t) cs ≡ next p (final p)
  t_children p k cs h =
      let f = next_filled p k cs h (final p) (final_in p (inside rule p (gate k cs) h)) in
      ext_get_or (scalar 0) (map (challenge t) cs) (next p (final p)) (length-map cs (challenge t) ∙ sym f.0) (λ j l.
      let l' : j < length cs = subst (λ n. j < n) (length-map cs (challenge t)) l in
      get_d_map (challenge t) cs j (scalar 0) l' ∙ t_challenge (get_or cs j 0) (wf.later p k cs h j l').1 ∙ final_child p k cs h j l')

  existing : Made m rule real keys tape c t
  unfolding commit_at answer_at
  existing = record {
    shaped = unfold t in record {
      challenges = length_run final (length rule);
      commitments = at_leaf_length (λ i. commit_at (get_elem? rule i) i) rule;
      responses = at_leaf_length (λ i. answer_at (get_elem? rule i) i) rule;
    };
    root = t_challenge 0 wf.some_entry ∙ final_root;
    balanced = λ p k cs h.
        let l = inside rule p (gate k cs) h in
        subst (λ o. Balanced (scalars_model m.q) k o (map (challenge t) cs)) (sym (t_challenge p l))
        (subst (λ ds. Balanced (scalars_model m.q) k (final p) ds) (sym (t_children p k cs h)) (next_filled p k cs h (final p) (final_in p l)).1);
    shared = λ p k cs h. ap (marked (given real p k cs)) (t_children p k cs h) ∙ (next_filled p k cs h (final p) (final_in p (inside rule p (gate k cs) h))).2;
    simulated = λ i kind s h r. (
      t_response i kind s h
          ∙ ap (λ b. cond b (add_keys m.q (drawn m rule tape i kind) (scale_key m.q (final i) (held (key rule keys i)))) (drawn m rule tape i kind)) (is_false (real i) r),
      t_commitment i kind s h
          ∙ ap (λ b. cond b ((m.kind kind).image (drawn m rule tape i kind)) ((m.kind kind).product ((m.kind kind).image (drawn m rule tape i kind)) (raised m kind s (m.q - (final i).0)))) (is_false (real i) r)
          ∙ ap (λ (u : Scalar). (m.kind kind).product ((m.kind kind).image (drawn m rule tape i kind)) (raised m kind s (m.q - u.0))) (sym (t_challenge i (inside rule i (leaf kind s) h))),
    );
    answered = λ i kind s h r. (
      t_response i kind s h
          ∙ ap (λ b. cond b (add_keys m.q (drawn m rule tape i kind) (scale_key m.q (final i) (held (key rule keys i)))) (drawn m rule tape i kind)) (is_true (real i) r)
          ∙ ap (λ u. add_keys m.q (drawn m rule tape i kind) (scale_key m.q u (held (key rule keys i)))) (sym (t_challenge i (inside rule i (leaf kind s) h))),
      t_commitment i kind s h
          ∙ ap (λ b. cond b ((m.kind kind).image (drawn m rule tape i kind)) ((m.kind kind).product ((m.kind kind).image (drawn m rule tape i kind)) (raised m kind s (m.q - (final i).0)))) (is_true (real i) r),
    );
  }

  -- exactly one transcript
  pub one_transcript : Only (Made m rule real keys tape c)
  one_transcript = (t, existing, λ t' made. made_same m law rule wf real keys sound tape c t' t made existing)
