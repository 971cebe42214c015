-- Every check of the calls can be decided.
use Rattle.std.proofs.Common.{◌≡◌, ℕ, zero, suc, ◌+◌, ◌-◌, ◌*◌, ◌<◌, Bool, true, false, T, List, map, length, get_or, Some, None, Option, sym, refl, ap, ◌∙◌, subst, arith}
use mathlib.Core.Option.{Option as Found, some, none}
use native.Mathlib.Decide.{dec_le, dec_lt, ℕ_discrete}
use lib.ListN.{get_elem?, length-map}
use Rattle.fields.specs.Fields.{FieldLaws}
use Rattle.fields.specs.Scalars.{scalar, scalars_model}
use Rattle.fields.specs.ScalarLaws.{scalar_laws}
use Rattle.polynomials.specs.Polynomials.{Members}
use Rattle.kinds.specs.Kinds.{KindModel, Key}
use Rattle.kinds.specs.declared.image.Image.{Image}
use Rattle.splits.specs.Gates.{Balanced}
use Rattle.splits.specs.Marks.{missing}
use Rattle.releases.specs.Entries.{Entry, leaf, gate, LeafAt, GateAt, number, leaves}
use Rattle.releases.specs.Transcripts.{Transcript, challenge, commitment, response, is_scalar, IsKey, IsImage}
use Rattle.releases.specs.Making.{first_marks}
use Rattle.releases.specs.Theorems.{Setting}
use Rattle.releases.specs.Calls.{IsSlot, Filled, IfHeld, AtLeaf, AtGate, Fits}
use Rattle.releases.proofs.Places.{inside}
use Rattle.releases.proofs.Gate.{balanced?, own_in, child_in}
use Rattle.releases.proofs.Given.{first_long, missing_first}

pub T? : (b : Bool) → Dec (T b)
T? true = yes tt
T? false = no (λ t. t)

pub not? : {P : Type 0} → Dec P → Dec (¬ P)
not? (yes p) = no (λ n. n p)
not? (no n) = yes n

both? : {P Q : Type 0} → Dec P → Dec Q → Dec (P × Q)
both? (yes p) (yes q) = yes (p, q)
both? (yes p) (no n) = no (λ x. n x.1)
both? (no n) d = no (λ x. n x.0)

if? : {P Q : Type 0} → Dec P → Dec Q → Dec (P → Q)
if? (yes p) (yes q) = yes (λ _. q)
if? (yes p) (no n) = no (λ f. n (f p))
if? (no n) d = yes (λ p. absurd (n p))

-- below a bound
all? : (n : ℕ) (P : ℕ → Type 0) → ((i : ℕ) → Dec (P i)) → Dec ((i : ℕ) → i < n → P i)
all? zero P d = yes (λ i l. absurd (omega arith))
all? (suc n) P d = go (all? n P d) (d n)
  where
    at : ((i : ℕ) → i < n → P i) → P n → (i : ℕ) → i < suc n → Dec (i < n) → P i
    at a p i l (yes k) = a i k
    at a p i l (no k) = let e : n ≡ i = omega arith in subst P e p

    go : Dec ((i : ℕ) → i < n → P i) → Dec (P n) → Dec ((i : ℕ) → i < suc n → P i)
    go (yes a) (yes p) = yes (λ i l. at a p i l (dec_lt i n))
    go (yes a) (no q) = no (λ f. q (f n (omega arith)))
    go (no q) d = no (λ f. q (λ i l. f i (omega arith)))

pub image? : (x y : Image) → Dec (x ≡ y)
image? x y = go (ℕ_discrete x.0.0 y.0.0) (ℕ_discrete x.0.1 y.0.1) (ℕ_discrete x.1.0 y.1.0) (ℕ_discrete x.1.1 y.1.1)
  where
    go : Dec (x.0.0 ≡ y.0.0) → Dec (x.0.1 ≡ y.0.1) → Dec (x.1.0 ≡ y.1.0) → Dec (x.1.1 ≡ y.1.1) → Dec (x ≡ y)
    go (yes a) (yes b) (yes c) (yes d) = yes (λ i. record { 0 = (a i, b i); 1 = (c i, d i) })
    go (no n) b c d = no (λ e. n (ap (λ (z : Image). z.0.0) e))
    go (yes a) (no n) c d = no (λ e. n (ap (λ (z : Image). z.0.1) e))
    go (yes a) (yes b) (no n) d = no (λ e. n (ap (λ (z : Image). z.1.0) e))
    go (yes a) (yes b) (yes c) (no n) = no (λ e. n (ap (λ (z : Image). z.1.1) e))

pub slot? : (s : ℕ) → Dec (IsSlot s)
slot? s = both? (dec_le 1 s) (dec_le s 8)

pub filled? : (o : Option (List ℕ)) → Dec (Filled o)
filled? None = no (λ x. x)
filled? (Some ws) = yes tt

pub held? : (P : Key → Type 0) (o : Option Key) → ((x : Key) → Dec (P x)) → Dec (IfHeld P o)
held? P None d = yes tt
held? P (Some x) d = d x

-- what is asked at a leaf and at a gate, as a property of what stands at a position
abbrev pub LeafCase : (ℕ → Image → Type 0) → Found Entry → Type 0
LeafCase P none = Unit {0}
LeafCase P (some (leaf kind s)) = P kind s
LeafCase P (some (gate k cs)) = Unit {0}

abbrev pub GateCase : (ℕ → List ℕ → Type 0) → Found Entry → Type 0
GateCase P none = Unit {0}
GateCase P (some (leaf kind s)) = Unit {0}
GateCase P (some (gate k cs)) = P k cs

module _ (m : KindModel) (rule : List Entry) where
  pub leaf? : (P : ℕ → ℕ → Image → Type 0) (i : ℕ) → ((kind : ℕ) (s : Image) → Dec (P i kind s)) → Dec (AtLeaf rule P i)
  leaf? P i d = go (case (get_elem? rule i))
    where
      case : (e : Found Entry) → Dec (LeafCase (P i) e)
      case none = yes tt
      case (some (leaf kind s)) = d kind s
      case (some (gate k cs)) = yes tt

      go : Dec (LeafCase (P i) (get_elem? rule i)) → Dec (AtLeaf rule P i)
      go (yes p) = yes (λ kind s h. subst (LeafCase (P i)) h p)
      go (no n) = no (λ f. n (back (get_elem? rule i) (λ kind s h. f kind s h)))
        where
          back : (e : Found Entry) → ((kind : ℕ) (s : Image) → e ≡ some (leaf kind s) → P i kind s) → LeafCase (P i) e
          back none f = tt
          back (some (leaf kind s)) f = f kind s refl
          back (some (gate k cs)) f = tt

  pub gate? : (P : ℕ → ℕ → List ℕ → Type 0) (i : ℕ) → ((k : ℕ) (cs : List ℕ) → GateAt rule i k cs → Dec (P i k cs)) → Dec (AtGate rule P i)
  gate? P i d = go (case (get_elem? rule i) (λ k cs h. d k cs h))
    where
      case : (e : Found Entry) → ((k : ℕ) (cs : List ℕ) → e ≡ some (gate k cs) → Dec (P i k cs)) → Dec (GateCase (P i) e)
      case none f = yes tt
      case (some (leaf kind s)) f = yes tt
      case (some (gate k cs)) f = f k cs refl

      back : (e : Found Entry) → ((k : ℕ) (cs : List ℕ) → e ≡ some (gate k cs) → P i k cs) → GateCase (P i) e
      back none f = tt
      back (some (leaf kind s)) f = tt
      back (some (gate k cs)) f = f k cs refl

      go : Dec (GateCase (P i) (get_elem? rule i)) → Dec (AtGate rule P i)
      go (yes p) = yes (λ k cs h. subst (GateCase (P i)) h p)
      go (no n) = no (λ f. n (back (get_elem? rule i) (λ k cs h. f k cs h)))

  -- what is asked of all leaves
  leaves? : (P : ℕ → ℕ → Image → Type 0) → ((i kind : ℕ) (s : Image) → Dec (P i kind s)) → Dec ((i kind : ℕ) (s : Image) → LeafAt rule i kind s → P i kind s)
  leaves? P d = go (all? (length rule) (AtLeaf rule P) (λ i. leaf? P i (d i)))
    where
      go : Dec ((i : ℕ) → i < length rule → AtLeaf rule P i) → Dec ((i kind : ℕ) (s : Image) → LeafAt rule i kind s → P i kind s)
      go (yes a) = yes (λ i kind s h. a i (inside rule i (leaf kind s) h) kind s h)
      go (no n) = no (λ f. n (λ i l kind s h. f i kind s h))

  pub fits? : (t : Transcript) (x : ℕ) → Dec (Fits m rule t x)
  fits? t x =
      go (if? (dec_lt x (length rule)) (T? (is_scalar m (challenge t x))))
      (leaves? (λ i kind s. x ≡ length rule + 4 * number rule i → IsImage m kind (commitment rule t i)) (λ i kind s. if? (ℕ_discrete x _) (T? _)))
      (leaves? (λ i kind s. x ≡ length rule + 4 * leaves rule + 2 * number rule i → T (is_scalar m (response rule t i).0)) (λ i kind s. if? (ℕ_discrete x _) (T? _)))
      (leaves? (λ i kind s. x ≡ length rule + 4 * leaves rule + 2 * number rule i + 1 → IsKey m kind (scalar 0, (response rule t i).1)) (λ i kind s. if? (ℕ_discrete x _) (T? _)))
    where
      go : Dec (x < length rule → T (is_scalar m (challenge t x)))
          → Dec ((i kind : ℕ) (s : Image) → LeafAt rule i kind s → x ≡ length rule + 4 * number rule i → IsImage m kind (commitment rule t i))
          → Dec ((i kind : ℕ) (s : Image) → LeafAt rule i kind s → x ≡ length rule + 4 * leaves rule + 2 * number rule i → T (is_scalar m (response rule t i).0))
          → Dec ((i kind : ℕ) (s : Image) → LeafAt rule i kind s → x ≡ length rule + 4 * leaves rule + 2 * number rule i + 1 → IsKey m kind (scalar 0, (response rule t i).1))
          → Dec (Fits m rule t x)
      go (yes a) (yes b) (yes c) (yes d) = yes (record { scalars = a; images = b; firsts = c; seconds = d })
      go (no n) b c d = no (λ f. n f.scalars)
      go (yes a) (no n) c d = no (λ f. n f.images)
      go (yes a) (yes b) (no n) d = no (λ f. n f.firsts)
      go (yes a) (yes b) (yes c) (no n) = no (λ f. n f.seconds)

  module _ (st : Setting m rule) (t : Transcript) where
    scalars : FieldLaws (scalars_model m.q)
    scalars = scalar_laws m.q st.lawful.prime st.lawful.low

    pub gate_balanced? : (i k : ℕ) (cs : List ℕ) → GateAt rule i k cs → Dec (Balanced (scalars_model m.q) k (challenge t i) (map (challenge t) cs))
    gate_balanced? i k cs h =
        let ds = map (challenge t) cs in
        go (T? (is_scalar m (challenge t i))) (all? (length ds) (λ j. T (is_scalar m (get_or ds j (scalar 0)))) (λ j. T? (is_scalar m (get_or ds j (scalar 0)))))
      where
        go : Dec (T (is_scalar m (challenge t i))) → Dec (Members (scalars_model m.q) (map (challenge t) cs)) → Dec (Balanced (scalars_model m.q) k (challenge t i) (map (challenge t) cs))
        go (no n) d = no (λ b. n (own_in scalars k (challenge t i) (map (challenge t) cs) b))
        go (yes a) (no n) =
            let fit = st.formed.fits i k cs h in
            let long = length-map cs (challenge t) in
            no (λ b. n (child_in scalars k (challenge t i) (map (challenge t) cs) (omega arith) b))
        go (yes a) (yes d) =
            let fit = st.formed.fits i k cs h in
            let long = length-map cs (challenge t) in
            let marks = first_marks (length cs - k) cs in
            let marks-long = first_long (length cs - k) cs in
            let lacks : missing marks ≡ k = missing_first (length cs - k) cs ∙ (omega arith) in
            subst (λ n. Dec (Balanced (scalars_model m.q) n (challenge t i) (map (challenge t) cs))) lacks
            (balanced? scalars (challenge t i) marks (map (challenge t) cs) (marks-long ∙ sym long) (omega arith) a d)
