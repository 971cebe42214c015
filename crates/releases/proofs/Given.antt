-- What making needs of the real entries, the children that a share gives, and a leaf's share as a key.
use Rattle.std.proofs.Common.{◌≡◌, ℕ, zero, suc, ◌-◌, ◌<◌, Bool, true, false, cond, not, T, List, [], ◌∷◌, map, length, get_or, drop, Option, sym, refl, ap, ◌∙◌, subst, arith, ltb→lt, length-drop}
use mathlib.Core.Option.{some}
use native.Mathlib.Decide.{dec_le}
use lib.ListN.{get_elem?, length-map}
use Rattle.std.proofs.lemmas.List.{get_or_past}
use Rattle.fields.specs.Scalars.{scalar, scalars_model}
use Rattle.fields.specs.declared.scalar.Scalar.{Scalar}
use Rattle.polynomials.specs.Polynomials.{Members}
use Rattle.polynomials.proofs.Steps.{members_take, members_drop}
use Rattle.kinds.specs.Kinds.{KindModel, Key, Lawful}
use Rattle.kinds.specs.declared.image.Image.{Image}
use Rattle.splits.specs.Marks.{missing}
use Rattle.releases.specs.Entries.{Entry, leaf, LeafAt, GateAt, WellFormed, Known, count, before}
use Rattle.releases.specs.Transcripts.{IsKey}
use Rattle.releases.specs.Keys.{key}
use Rattle.releases.specs.Making.{share_size, Tape, share, drawn, first_marks, given, held}
use Rattle.releases.proofs.Places.{is_true, is_false, either}
use Rattle.releases.proofs.Laid.{before_small, share_long}
use Rattle.releases.proofs.KeyLaws.{fits_key}

-- real children are as many as their gate asks for or none, and the keys of real leaves open them
pub record Sound (m : KindModel) (rule : List Entry) (keys : List (Option Key)) (real : ℕ → Bool) : Type 0 where
  pub some_children : (p k : ℕ) (children : List ℕ) → GateAt rule p k children → T (real p) → count real children ≡ k
  pub opened : (i kind : ℕ) (s : Image) → LeafAt rule i kind s → T (real i) → IsKey m kind (held (key rule keys i)) × ((m.kind kind).image (held (key rule keys i)) ≡ s)

missing_real : (real : ℕ → Bool) (cs : List ℕ) → missing (map (λ c. not (real c)) cs) ≡ count real cs
missing_real real [] = refl
missing_real real (c ∷ cs) = go (real c) (missing_real real cs)
  where
    go : (b : Bool) → missing (map (λ c. not (real c)) cs) ≡ count real cs
        → cond (not b) (missing (map (λ c. not (real c)) cs)) (suc (missing (map (λ c. not (real c)) cs))) ≡ cond b (suc (count real cs)) (count real cs)
    go true e = ap suc e
    go false e = e

pub first_long : (d : ℕ) (cs : List ℕ) → length (first_marks d cs) ≡ length cs
first_long d [] = refl
first_long zero (c ∷ cs) = ap suc (first_long zero cs)
first_long (suc d) (c ∷ cs) = ap suc (first_long d cs)

pub missing_first : (d : ℕ) (cs : List ℕ) → missing (first_marks d cs) ≡ length cs - d
missing_first d [] = omega arith
missing_first zero (c ∷ cs) = let r = missing_first zero cs in omega arith
missing_first (suc d) (c ∷ cs) = let r = missing_first d cs in omega arith

-- as many marks as children, k of them missing
pub record Marking (k : ℕ) (cs : List ℕ) (marks : List Bool) : Type 0 where
  pub long : length marks ≡ length cs
  pub lacks : missing marks ≡ k

module _ {m : KindModel} {rule : List Entry} {keys : List (Option Key)} {real : ℕ → Bool} (wf : WellFormed rule) (sound : Sound m rule keys real) where
  pub given_real : (p k : ℕ) (cs : List ℕ) → T (real p) → given real p k cs ≡ map (λ c. not (real c)) cs
  given_real p k cs t = ap (λ b. cond b (map (λ c. not (real c)) cs) (first_marks (length cs - k) cs)) (is_true (real p) t)

  given_simulated : (p k : ℕ) (cs : List ℕ) → T (not (real p)) → given real p k cs ≡ first_marks (length cs - k) cs
  given_simulated p k cs t = ap (λ b. cond b (map (λ c. not (real c)) cs) (first_marks (length cs - k) cs)) (is_false (real p) t)

  pub marking : (p k : ℕ) (cs : List ℕ) → GateAt rule p k cs → Marking k cs (given real p k cs)
  marking p k cs h =
      either (real p)
      (λ t. subst (Marking k cs) (sym (given_real p k cs t)) (record {
        long = length-map cs (λ c. not (real c));
        lacks = missing_real real cs ∙ sound.some_children p k cs h t;
      }))
      (λ t. let fit = wf.fits p k cs h in subst (Marking k cs) (sym (given_simulated p k cs t)) (record {
        long = first_long (length cs - k) cs;
        lacks = missing_first (length cs - k) cs ∙ (omega arith);
      }))

module _ (m : KindModel) (rule : List Entry) (tape : List Scalar) (is-tape : Tape m rule tape) where
  pub tape_share_long : (i : ℕ) (e : Entry) → get_elem? rule i ≡ some e → length (share m rule tape i (share_size m e)) ≡ share_size m e
  tape_share_long i e h = share_long (share_size m) rule tape is-tape.long i e h

  pub share_in : (i : ℕ) (e : Entry) → get_elem? rule i ≡ some e → Members (scalars_model m.q) (share m rule tape i (share_size m e))
  share_in i e h =
      let b = before_small (share_size m) rule i e h in
      let w = is-tape.long in
      let at = before (share_size m) rule i in
      members_take (scalars_model m.q) (drop at tape) (share_size m e) (omega (arith, length-drop at tape)) (members_drop (scalars_model m.q) tape at is-tape.scalars)

  scalar_at : 0 < m.q → (xs : List Scalar) → Members (scalars_model m.q) xs → (j : ℕ) → (get_or xs j (scalar 0)).0 < m.q
  scalar_at pos xs h j = go (dec_le (suc j) (length xs))
    where
      go : Dec (j < length xs) → (get_or xs j (scalar 0)).0 < m.q
      go (yes l) = ltb→lt (get_or xs j (scalar 0)).0 m.q (h j l)
      go (no l) = subst (λ (x : Scalar). x.0 < m.q) (sym (get_or_past xs j (scalar 0) (omega arith))) pos

  -- a leaf's share is a key
  pub drawn_key : Lawful m → (i kind : ℕ) (s : Image) → LeafAt rule i kind s → Known m kind → IsKey m kind (drawn m rule tape i kind)
  drawn_key law i kind s h known =
      let l = law.each kind known.0 known.1 in
      let low = law.low in
      let pos : 0 < m.q = omega arith in
      let xs = share m rule tape i (m.kind kind).width in
      let xs-in = share_in i (leaf kind s) h in
      let long = tape_share_long i (leaf kind s) h in
      fits_key m.q (m.kind kind).width pos l.width_low l.width_high (drawn m rule tape i kind) (record {
        first = scalar_at pos xs xs-in 0;
        second = scalar_at pos xs xs-in 1;
        narrow = λ one. ap (λ (x : Scalar). x.0) (get_or_past xs 1 (scalar 0) (omega arith));
      })
