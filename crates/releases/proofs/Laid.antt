-- Lists with a share for each entry of a table.
use Rattle.std.proofs.Common.{◌≡◌, ℕ, zero, suc, ◌+◌, ◌<◌, ◌≤◌, List, [], ◌∷◌, ◌++◌, length, get_or, take, drop, sym, refl, ap, ◌∙◌, ap₂, add-zero, arith, length-append, length-drop, take-append-drop, length-take-le, drop-drop, take_at, drop_at}
use mathlib.Core.Option.{some}
use lib.ListN.{get_elem?}
use Rattle.std.proofs.lemmas.List.{get_or-take, get_or-drop}
use Rattle.polynomials.proofs.Roots.{All}
use Rattle.releases.specs.Entries.{Entry, leaf, gate, LeafAt, laid, before, total, to_leaf, number, leaves}
use Rattle.releases.proofs.Places.{none_some, some_inj}

all_append : {A : Type 0} (P : A → Type 0) (xs ys : List A) → All P xs → All P ys → All P (xs ++ ys)
all_append P [] ys a b = b
all_append P (x ∷ xs) ys a b = (a.0, all_append P xs ys a.1 b)

nothing : {A : Type 0} (xs : List A) → length xs ≡ 0 → xs ≡ []
nothing [] e = refl
nothing (x ∷ xs) e = absurd (omega arith)

module _ (size : Entry → ℕ) where
  -- what f gives for an entry is as long as its share
  abbrev pub Sized : {A : Type 0} → List Entry → (ℕ → Entry → List A) → Type 0
  Sized rule f = (i : ℕ) (e : Entry) → get_elem? rule i ≡ some e → length (f i e) ≡ size e

  pub laid_length : {A : Type 0} (f : ℕ → Entry → List A) (rule : List Entry) → Sized rule f → length (laid f rule) ≡ total size rule
  laid_length f [] s = refl
  laid_length f (e ∷ es) s =
      length-append (f zero e) (laid (λ i. f (suc i)) es) ∙ ap₂ ◌+◌ (s zero e refl) (laid_length (λ i. f (suc i)) es (λ i. s (suc i)))

  pub laid_share : {A : Type 0} (f : ℕ → Entry → List A) (rule : List Entry) → Sized rule f → (i : ℕ) (e : Entry) → get_elem? rule i ≡ some e
      → take (size e) (drop (before size rule i) (laid f rule)) ≡ f i e
  laid_share f [] s i e h = none_some e h
  laid_share f (e' ∷ es) s zero e h =
      let same : e' ≡ e = some_inj e' e h in
      take_at (f zero e') (laid (λ i. f (suc i)) es) (size e) (s zero e' refl ∙ ap size same) ∙ ap (f zero) same
  laid_share f (e' ∷ es) s (suc i) e h =
      let rest = laid (λ i. f (suc i)) es in
      ap (take (size e))
      (sym (drop-drop (before size es i) (size e') (f zero e' ++ rest)) ∙ ap (drop (before size es i)) (drop_at (f zero e') rest (size e') (s zero e' refl)))
      ∙ laid_share (λ i. f (suc i)) es (λ i. s (suc i)) i e h

  pub laid_all : {A : Type 0} (P : A → Type 0) (f : ℕ → Entry → List A) (rule : List Entry)
      → ((i : ℕ) (e : Entry) → get_elem? rule i ≡ some e → All P (f i e)) → All P (laid f rule)
  laid_all P f [] h = tt
  laid_all P f (e ∷ es) h = all_append P (f zero e) (laid (λ i. f (suc i)) es) (h zero e refl) (laid_all P (λ i. f (suc i)) es (λ i e' g. h (suc i) e' g))

  -- lists that agree share by share are the same
  pub shares_same : {A : Type 0} (rule : List Entry) (xs ys : List A) → length xs ≡ total size rule → length ys ≡ total size rule
      → ((i : ℕ) (e : Entry) → get_elem? rule i ≡ some e → take (size e) (drop (before size rule i) xs) ≡ take (size e) (drop (before size rule i) ys)) → xs ≡ ys
  shares_same [] xs ys lx ly h = nothing xs lx ∙ sym (nothing ys ly)
  shares_same (e ∷ es) xs ys lx ly h =
      let n = size e in
      sym (take-append-drop n xs)
      ∙ ap₂ ◌++◌ (h zero e refl)
      (shares_same es (drop n xs) (drop n ys) (length-drop n xs ∙ (omega arith)) (length-drop n ys ∙ (omega arith))
      (λ i e' g. ap (take (size e')) (drop-drop (before size es i) n xs) ∙ h (suc i) e' g ∙ ap (take (size e')) (sym (drop-drop (before size es i) n ys))))
      ∙ take-append-drop n ys

  pub before_small : (rule : List Entry) (i : ℕ) (e : Entry) → get_elem? rule i ≡ some e → before size rule i + size e ≤ total size rule
  before_small [] i e h = none_some e h
  before_small (e' ∷ es) zero e h = let same : size e ≡ size e' = ap size (sym (some_inj e' e h)) in omega arith
  before_small (e' ∷ es) (suc i) e h = let r = before_small es i e h in omega arith

  pub share_long : {A : Type 0} (rule : List Entry) (xs : List A) → length xs ≡ total size rule → (i : ℕ) (e : Entry) → get_elem? rule i ≡ some e
      → length (take (size e) (drop (before size rule i) xs)) ≡ size e
  share_long rule xs l i e h =
      let b = before_small rule i e h in
      length-take-le (size e) (drop (before size rule i) xs) (omega (arith, length-drop (before size rule i) xs))

-- lists with one thing to a leaf
abbrev pub at_leaf : {A : Type 0} → (ℕ → A) → ℕ → Entry → List A
at_leaf f i (leaf kind s) = f i ∷ []
at_leaf f i (gate k children) = []

one_sized : {A : Type 0} (f : ℕ → A) (rule : List Entry) → Sized to_leaf rule (at_leaf f)
one_sized f rule i (leaf kind s) h = refl
one_sized f rule i (gate k children) h = refl

module _ {A : Type 0} where
  pub leaf_share : (xs : List A) (n : ℕ) (d : A) → get_or xs n d ≡ get_or (take 1 (drop n xs)) 0 d
  leaf_share xs n d = ap (λ k. get_or xs k d) (sym (add-zero n)) ∙ sym (get_or-take 1 (drop n xs) 0 d (omega arith) ∙ get_or-drop n xs 0 d)

  pub at_leaf_length : (f : ℕ → A) (rule : List Entry) → length (laid (at_leaf f) rule) ≡ leaves rule
  at_leaf_length f rule = laid_length to_leaf (at_leaf f) rule (one_sized f rule)

  pub at_leaf_is : (f : ℕ → A) (rule : List Entry) (d : A) (i kind : ℕ) (s : _) → LeafAt rule i kind s → get_or (laid (at_leaf f) rule) (number rule i) d ≡ f i
  at_leaf_is f rule d i kind s h =
      leaf_share (laid (at_leaf f) rule) (number rule i) d ∙ ap (λ u. get_or u 0 d) (laid_share to_leaf (at_leaf f) rule (one_sized f rule) i (leaf kind s) h)

  -- lists with one thing to a leaf that agree at every leaf are the same
  pub leaf_by_leaf : (rule : List Entry) (d : A) (xs ys : List A) → length xs ≡ leaves rule → length ys ≡ leaves rule
      → ((i kind : ℕ) (s : _) → LeafAt rule i kind s → get_or xs (number rule i) d ≡ get_or ys (number rule i) d) → xs ≡ ys
  leaf_by_leaf rule d xs ys lx ly f = shares_same to_leaf rule xs ys lx ly go
    where
      single : (u v : List A) → length u ≡ 1 → length v ≡ 1 → get_or u 0 d ≡ get_or v 0 d → u ≡ v
      single [] v lu lv e = absurd (omega arith)
      single (a ∷ b ∷ u) v lu lv e = absurd (omega arith)
      single (a ∷ []) [] lu lv e = absurd (omega arith)
      single (a ∷ []) (b ∷ c ∷ v) lu lv e = absurd (omega arith)
      single (a ∷ []) (b ∷ []) lu lv e = ap (λ x. x ∷ []) e

      none_left : (u v : List A) → take 0 u ≡ take 0 v
      none_left u v = refl

      go : (i : ℕ) (e : Entry) → get_elem? rule i ≡ some e → take (to_leaf e) (drop (number rule i) xs) ≡ take (to_leaf e) (drop (number rule i) ys)
      go i (leaf kind s) h =
          single (take 1 (drop (number rule i) xs)) (take 1 (drop (number rule i) ys)) (share_long to_leaf rule xs lx i (leaf kind s) h) (share_long to_leaf rule ys ly i (leaf kind s) h)
          (sym (leaf_share xs (number rule i) d) ∙ f i kind s h ∙ leaf_share ys (number rule i) d)
      go i (gate k children) h = none_left (drop (number rule i) xs) (drop (number rule i) ys)

-- one entry more
module _ (size : Entry → ℕ) where
  pub before_none : (rule : List Entry) → before size rule 0 ≡ 0
  before_none [] = refl
  before_none (e ∷ es) = refl

  pub before_more : (rule : List Entry) (i : ℕ) (e : Entry) → get_elem? rule i ≡ some e → before size rule (i + 1) ≡ before size rule i + size e
  before_more [] i e h = none_some e h
  before_more (x ∷ es) zero e h = let s : size x ≡ size e = ap size (some_inj x e h) in ap (λ n. size x + n) (before_none es) ∙ (omega arith)
  before_more (x ∷ es) (suc i) e h =
      let n : suc i + 1 ≡ suc (i + 1) = omega arith in
      let r = before_more es i e h in
      ap (before size (x ∷ es)) n ∙ ap (λ k. size x + k) r ∙ (omega arith)

  pub before_all : (rule : List Entry) (i : ℕ) → length rule ≤ i → before size rule i ≡ total size rule
  before_all [] i h = refl
  before_all (e ∷ es) zero h = absurd (omega arith)
  before_all (e ∷ es) (suc i) h = ap (λ n. size e + n) (before_all es i (omega arith))

  pub before_rises : (rule : List Entry) (i j : ℕ) → i ≤ j → before size rule i ≤ before size rule j
  before_rises [] i j h = omega arith
  before_rises (e ∷ es) zero j h = omega arith
  before_rises (e ∷ es) (suc i) zero h = absurd (omega arith)
  before_rises (e ∷ es) (suc i) (suc j) h = let r = before_rises es i j (omega arith) in omega arith

-- the leaves are numbered in their order
pub leaf_before : (rule : List Entry) (i kind : ℕ) (s : _) → LeafAt rule i kind s → (j : ℕ) → i < j → number rule i < number rule j
leaf_before rule i kind s h j l =
    let more = before_more to_leaf rule i (leaf kind s) h in
    let rises = before_rises to_leaf rule (i + 1) j (omega arith) in
    omega arith

pub number_small : (rule : List Entry) (i kind : ℕ) (s : _) → LeafAt rule i kind s → number rule i < leaves rule
number_small rule i kind s h = let b = before_small to_leaf rule i (leaf kind s) h in omega arith
