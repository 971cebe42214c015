-- The rows of a rule keep to their bounds: children stand after their gate and rise, and the leaves are the keys.
use Rattle.std.proofs.Common.{◌≡◌, ℕ, zero, suc, ◌+◌, ◌<◌, ◌≤◌, ◌⊎◌, List, [], ◌∷◌, ◌++◌, length, get_or, refl, ◌∙◌, subst, ap₂, inl, inr, arith}
use mathlib.Core.Option.{some}
use lib.ListN.{get_elem?}
use Rattle.rules.specs.Grammar.{Rule, Rules, key, gate, none, more, count, text, keys, keys_of, Formed, FormedAll}
use Rattle.rules.specs.Tables.{Row, leaf, node, size, size_of, rows, rows_of, starts, leaves}
use Rattle.rules.proofs.Rows.{starts_length, rows_length, size_some}

-- what stands at a place of two lists
pub at_left : (xs ys : List Row) (i : ℕ) (e : Row) → get_elem? xs i ≡ some e → get_elem? (xs ++ ys) i ≡ some e
at_left [] ys i e h = let z : ◌≡◌ {A = ℕ} 0 1 = cc in absurd (omega arith)
at_left (x ∷ xs) ys zero e h = h
at_left (x ∷ xs) ys (suc i) e h = at_left xs ys i e h

pub at_right : (xs ys : List Row) (i : ℕ) (e : Row) → get_elem? ys i ≡ some e → get_elem? (xs ++ ys) (length xs + i) ≡ some e
at_right [] ys i e h = let z : i ≡ 0 + i = omega arith in subst (λ n. get_elem? ys n ≡ some e) z h
at_right (x ∷ xs) ys i e h = let z : suc (length xs + i) ≡ suc (length xs) + i = omega arith in subst (λ n. get_elem? (x ∷ (xs ++ ys)) n ≡ some e) z (at_right xs ys i e h)

abbrev pub EitherSide : List Row → List Row → ℕ → Row → Type 0
EitherSide xs ys i e = (get_elem? xs i ≡ some e) ⊎ ((j : ℕ) × (i ≡ length xs + j) × (get_elem? ys j ≡ some e))

pub side : (xs ys : List Row) (i : ℕ) (e : Row) → get_elem? (xs ++ ys) i ≡ some e → EitherSide xs ys i e
side [] ys i e h = let z : i ≡ 0 + i = omega arith in inr (i, z, h)
side (x ∷ xs) ys zero e h = inl h
side (x ∷ xs) ys (suc i) e h = shift (side xs ys i e h)
  where
    shift : EitherSide xs ys i e → EitherSide (x ∷ xs) ys (suc i) e
    shift (inl g) = inl g
    shift (inr (j, q, g)) = let z : suc i ≡ suc (length xs) + j = omega arith in inr (j, z, g)

pub held : (xs : List Row) (i : ℕ) (e : Row) → get_elem? xs i ≡ some e → i < length xs
held [] i e h = let z : ◌≡◌ {A = ℕ} 0 1 = cc in absurd (omega arith)
held (x ∷ xs) zero e h = omega arith
held (x ∷ xs) (suc i) e h = omega (arith, held xs i e h)

-- the first rows of a gate's items
pub starts_in : (rs : Rules) (p j : ℕ) → j < count rs → (p ≤ get_or (starts rs p) j 0) × (get_or (starts rs p) j 0 < p + size_of rs)
starts_in none p j l = absurd (omega arith)
starts_in (more r rs) p zero l = (omega arith, omega (arith, size_some r))
starts_in (more r rs) p (suc j) l = let w = starts_in rs (p + size r) j (omega arith) in (omega (arith, w), omega (arith, w))

starts_rise : (rs : Rules) (p i j : ℕ) → i < j → j < count rs → get_or (starts rs p) i 0 < get_or (starts rs p) j 0
starts_rise none p i j l m = absurd (omega arith)
starts_rise (more r rs) p zero zero l m = absurd (omega arith)
starts_rise (more r rs) p zero (suc j) l m = omega (arith, starts_in rs (p + size r) j (omega arith), size_some r)
starts_rise (more r rs) p (suc i) zero l m = absurd (omega arith)
starts_rise (more r rs) p (suc i) (suc j) l m = starts_rise rs (p + size r) i j (omega arith) (omega arith)

-- a row at a position, of rows that end before another
pub record GateGood (p end k : ℕ) (cs : List ℕ) : Type 0 where
  pub fits : (1 ≤ k) × (k ≤ length cs) × (2 ≤ length cs) × (length cs ≤ 8)
  pub later : (j : ℕ) → j < length cs → (p < get_or cs j 0) × (get_or cs j 0 < end)
  pub rising : (i j : ℕ) → i < j → j < length cs → get_or cs i 0 < get_or cs j 0

abbrev pub Good : ℕ → ℕ → Row → Type 0
Good p end (leaf n b) = (1 ≤ n) × (n ≤ 255)
Good p end (node k cs) = GateGood p end k cs

moved : (e : Row) (p q end more-end : ℕ) → p ≡ q → end ≤ more-end → Good p end e → Good q more-end e
moved (leaf n b) p q end more-end s l g = g
moved (node k cs) p q end more-end s l g = record { fits = g.fits; later = λ j m. let w = g.later j m in (omega (arith, w), omega (arith, w)); rising = g.rising }

gate_good : (k : ℕ) (rs : Rules) (p : ℕ) → 1 ≤ k → k ≤ count rs → 2 ≤ count rs → count rs ≤ 8 → GateGood p (p + suc (size_of rs)) k (starts rs (p + 1))
gate_good k rs p a b c d =
    let n = starts_length rs (p + 1) in
    record {
      fits = (a, omega arith, omega arith, omega arith);
      later = λ j m. let w = starts_in rs (p + 1) j (omega arith) in (omega (arith, w), omega (arith, w));
      rising = λ i j l m. starts_rise rs (p + 1) i j l (omega arith);
    }

mutual
  pub each : (r : Rule) (p b : ℕ) → Formed r → (q : ℕ) (e : Row) → get_elem? (rows r p b) q ≡ some e → Good (p + q) (p + size r) e
  each (key n) p b f zero e h = let s : leaf n b ≡ e = cc in subst (Good (p + 0) (p + 1)) s f
  each (key n) p b f (suc q) e h = let z : ◌≡◌ {A = ℕ} 0 1 = cc in absurd (omega arith)
  each (gate k rs) p b f zero e h =
      let s : node k (starts rs (p + 1)) ≡ e = cc in
      let g : GateGood p (p + suc (size_of rs)) k (starts rs (p + 1)) = gate_good k rs p f.0 f.1 f.2 f.3 in
      moved e p (p + 0) (p + suc (size_of rs)) (p + suc (size_of rs)) (omega arith) (omega arith) (subst (Good p (p + suc (size_of rs))) s g)
  each (gate k rs) p b f (suc q) e h = moved e (p + 1 + q) (p + suc q) (p + 1 + size_of rs) (p + suc (size_of rs)) (omega arith) (omega arith) (each_of rs (p + 1) (b + 4) f.4 q e h)

  pub each_of : (rs : Rules) (p b : ℕ) → FormedAll rs → (q : ℕ) (e : Row) → get_elem? (rows_of rs p b) q ≡ some e → Good (p + q) (p + size_of rs) e
  each_of none p b f q e h = let z : ◌≡◌ {A = ℕ} 0 1 = cc in absurd (omega arith)
  each_of (more r rs) p b f q e h = by (side (rows r p b) (rows_of rs (p + size r) (b + length (text r) + 1)) q e h) (each r p b f.0 q e) (λ j. each_of rs (p + size r) (b + length (text r) + 1) f.1 j e)
    where
      by : EitherSide (rows r p b) (rows_of rs (p + size r) (b + length (text r) + 1)) q e → (get_elem? (rows r p b) q ≡ some e → Good (p + q) (p + size r) e) → ((j : ℕ) → get_elem? (rows_of rs (p + size r) (b + length (text r) + 1)) j ≡ some e → Good (p + size r + j) (p + size r + size_of rs) e) → Good (p + q) (p + (size r + size_of rs)) e
      by (inl g) one others = moved e (p + q) (p + q) (p + size r) (p + (size r + size_of rs)) refl (omega arith) (one g)
      by (inr (j, s, g)) one others = moved e (p + size r + j) (p + q) (p + size r + size_of rs) (p + (size r + size_of rs)) (omega (arith, rows_length r p b)) (omega arith) (others j g)

-- the leaves are the keys
leaves_append : (xs ys : List Row) → leaves (xs ++ ys) ≡ leaves xs + leaves ys
leaves_append [] ys = omega arith
leaves_append (leaf n b ∷ xs) ys = omega (arith, leaves_append xs ys)
leaves_append (node k cs ∷ xs) ys = leaves_append xs ys

mutual
  pub leaves_keys : (r : Rule) (p b : ℕ) → leaves (rows r p b) ≡ keys r
  leaves_keys (key n) p b = refl
  leaves_keys (gate k rs) p b = leaves_keys_of rs (p + 1) (b + 4)

  leaves_keys_of : (rs : Rules) (p b : ℕ) → leaves (rows_of rs p b) ≡ keys_of rs
  leaves_keys_of none p b = refl
  leaves_keys_of (more r rs) p b = leaves_append (rows r p b) (rows_of rs (p + size r) (b + length (text r) + 1)) ∙ ap₂ ◌+◌ (leaves_keys r p b) (leaves_keys_of rs (p + size r) (b + length (text r) + 1))
