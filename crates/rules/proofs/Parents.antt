-- Every row of a rule but the first is one child of one gate.
use Rattle.std.proofs.Common.{◌≡◌, ℕ, zero, suc, ◌+◌, ◌<◌, ◌≤◌, ◌⊎◌, List, ◌∷◌, ◌++◌, length, get_or, sym, refl, ap, ◌∙◌, ap₂, inl, inr, arith}
use native.Mathlib.Decide.{dec_lt, ℕ_discrete}
use Rattle.rules.specs.Grammar.{Rule, Rules, key, gate, none, more, count, text, Formed, FormedAll, Legal}
use Rattle.rules.specs.Tables.{Row, leaf, node, size, size_of, rows, rows_of, starts, table, Child, Only, WellFormed}
use Rattle.rules.proofs.Rows.{starts_length, rows_length, size_some}
use Rattle.rules.proofs.Form.{at_left, at_right, EitherSide, side, starts_in, each, each_of, leaves_keys}
use Rattle.rules.proofs.Tables.{table_short}

-- children of two lists of rows
child_left : (xs ys : List Row) (c q j : ℕ) → Child xs c q j → Child (xs ++ ys) c q j
child_left xs ys c q j (k, cs, h, l, e) = (k, cs, at_left xs ys q (node k cs) h, l, e)

child_right : (xs ys : List Row) (c q j : ℕ) → Child ys c q j → Child (xs ++ ys) c (length xs + q) j
child_right xs ys c q j (k, cs, h, l, e) = (k, cs, at_right xs ys q (node k cs) h, l, e)

abbrev ChildSide : List Row → List Row → ℕ → ℕ → ℕ → Type 0
ChildSide xs ys c q j = Child xs c q j ⊎ ((i : ℕ) × (q ≡ length xs + i) × Child ys c i j)

child_side : (xs ys : List Row) (c q j : ℕ) → Child (xs ++ ys) c q j → ChildSide xs ys c q j
child_side xs ys c q j (k, cs, h, l, e) = by (side xs ys q (node k cs) h)
  where
    by : EitherSide xs ys q (node k cs) → ChildSide xs ys c q j
    by (inl g) = inl (k, cs, g, l, e)
    by (inr (i, s, g)) = inr (i, s, (k, cs, g, l, e))

child_in : (r : Rule) (p b : ℕ) → Formed r → (c q j : ℕ) → Child (rows r p b) c q j → (p < c) × (c < p + size r)
child_in r p b f c q j (k, cs, h, l, e) = let w = (each r p b f q (node k cs) h).later j l in (omega (arith, w), omega (arith, w))

child_in_of : (rs : Rules) (p b : ℕ) → FormedAll rs → (c q j : ℕ) → Child (rows_of rs p b) c q j → (p < c) × (c < p + size_of rs)
child_in_of rs p b f c q j (k, cs, h, l, e) = let w = (each_of rs p b f q (node k cs) h).later j l in (omega (arith, w), omega (arith, w))

-- where a row of a gate's items has its parent: it begins an item, or a gate among the items holds it
abbrev BeginsAt : Rules → ℕ → ℕ → ℕ → Type 0
BeginsAt rs p c j = (j < count rs) × (get_or (starts rs p) j 0 ≡ c)

pub record FirstRow (rs : Rules) (p b c : ℕ) : Type 0 where
  pub one : Only {A = ℕ} (BeginsAt rs p c)
  pub unheld : (q j : ℕ) → Child (rows_of rs p b) c q j → ⊥

pub record InnerRow (rs : Rules) (p b c : ℕ) : Type 0 where
  pub one : Only {A = ℕ × ℕ} (λ at. Child (rows_of rs p b) c at.0 at.1)
  pub inner : (j : ℕ) → BeginsAt rs p c j → ⊥

abbrev Parent : Rule → ℕ → ℕ → ℕ → Type 0
Parent r p b c = Only {A = ℕ × ℕ} (λ at. Child (rows r p b) c at.0 at.1)

-- the gate itself, above its items
module _ (k : ℕ) (rs : Rules) (p b c : ℕ) where
  at_top : (j : ℕ) → Child (node k (starts rs (p + 1)) ∷ rows_of rs (p + 1) (b + 4)) c 0 j → BeginsAt rs (p + 1) c j
  at_top j (m, cs, h, l, e) =
      let s : starts rs (p + 1) ≡ cs = cc in
      (omega (arith, ap length s, starts_length rs (p + 1)), ap (λ (xs : List ℕ). get_or xs j 0) s ∙ e)

  below_gate : FirstRow rs (p + 1) (b + 4) c ⊎ InnerRow rs (p + 1) (b + 4) c → Parent (gate k rs) p b c
  below_gate (inl f) = ((0, f.one.0), (k, starts rs (p + 1), refl, omega (arith, f.one.1, starts_length rs (p + 1)), f.one.1.1), only)
    where
      only : (at : ℕ × ℕ) → Child (rows (gate k rs) p b) c at.0 at.1 → ◌≡◌ {A = ℕ × ℕ} at (0, f.one.0)
      only (zero, j) h = ap (λ n. (0, n)) (f.one.2 j (at_top j h))
      only (suc q, j) h = absurd (f.unheld q j h)
  below_gate (inr g) = ((suc g.one.0.0, g.one.0.1), g.one.1, only)
    where
      only : (at : ℕ × ℕ) → Child (rows (gate k rs) p b) c at.0 at.1 → ◌≡◌ {A = ℕ × ℕ} at (suc g.one.0.0, g.one.0.1)
      only (zero, j) h = absurd (g.inner j (at_top j h))
      only (suc q, j) h = ap (λ (w : ℕ × ℕ). (suc w.0, w.1)) (g.one.2 (q, j) h)

-- an item before the others
module _ (r : Rule) (rs : Rules) (p b : ℕ) (f : Formed r) (fs : FormedAll rs) (c : ℕ) where
  abbrev p' : ℕ
  p' = p + size r

  abbrev b' : ℕ
  b' = b + length (text r) + 1

  both : (q j : ℕ) → Child (rows_of (more r rs) p b) c q j → ChildSide (rows r p b) (rows_of rs p' b') c q j
  both q j h = child_side (rows r p b) (rows_of rs p' b') c q j h

  it_begins : c ≡ p → FirstRow (more r rs) p b c
  it_begins e = record { one = (0, (omega arith, sym e), only); unheld = λ q j h. no_child q j (both q j h) }
    where
      only : (j : ℕ) → BeginsAt (more r rs) p c j → j ≡ 0
      only zero h = refl
      only (suc j) h = absurd (omega (arith, h, size_some r, starts_in rs (p + size r) j (omega (arith, h))))

      no_child : (q j : ℕ) → ChildSide (rows r p b) (rows_of rs (p + size r) (b + length (text r) + 1)) c q j → ⊥
      no_child q j (inl h) = omega (arith, child_in r p b f c q j h)
      no_child q j (inr (i, s, h)) = omega (arith, child_in_of rs (p + size r) (b + length (text r) + 1) fs c i j h)

  inside_it : p < c → c < p + size r → Parent r p b c → InnerRow (more r rs) p b c
  inside_it lo hi one = record { one = (one.0, child_left (rows r p b) (rows_of rs p' b') c one.0.0 one.0.1 one.1, λ at h. only at (both at.0 at.1 h)); inner = inner }
    where
      only : (at : ℕ × ℕ) → ChildSide (rows r p b) (rows_of rs (p + size r) (b + length (text r) + 1)) c at.0 at.1 → at ≡ one.0
      only at (inl h) = one.2 at h
      only at (inr (i, s, h)) = absurd (omega (arith, child_in_of rs (p + size r) (b + length (text r) + 1) fs c i at.1 h))

      inner : (j : ℕ) → BeginsAt (more r rs) p c j → ⊥
      inner zero h = omega (arith, h)
      inner (suc j) h = omega (arith, h, starts_in rs (p + size r) j (omega (arith, h)))

  beyond_it : p + size r ≤ c → FirstRow rs p' b' c ⊎ InnerRow rs p' b' c → FirstRow (more r rs) p b c ⊎ InnerRow (more r rs) p b c
  beyond_it lo (inl g) = inl (record { one = (suc g.one.0, (omega (arith, g.one.1), g.one.1.1), only); unheld = λ q j h. no_child q j (both q j h) })
    where
      only : (j : ℕ) → BeginsAt (more r rs) p c j → j ≡ suc g.one.0
      only zero h = absurd (omega (arith, h, size_some r))
      only (suc j) h = ap suc (g.one.2 j (omega (arith, h), h.1))

      no_child : (q j : ℕ) → ChildSide (rows r p b) (rows_of rs (p + size r) (b + length (text r) + 1)) c q j → ⊥
      no_child q j (inl h) = omega (arith, child_in r p b f c q j h)
      no_child q j (inr (i, s, h)) = g.unheld i j h
  beyond_it lo (inr g) = inr (record { one = ((length (rows r p b) + g.one.0.0, g.one.0.1), child_right (rows r p b) (rows_of rs p' b') c g.one.0.0 g.one.0.1 g.one.1, λ at h. only at (both at.0 at.1 h)); inner = inner })
    where
      only : (at : ℕ × ℕ) → ChildSide (rows r p b) (rows_of rs (p + size r) (b + length (text r) + 1)) c at.0 at.1 → ◌≡◌ {A = ℕ × ℕ} at (length (rows r p b) + g.one.0.0, g.one.0.1)
      only at (inl h) = absurd (omega (arith, child_in r p b f c at.0 at.1 h))
      only at (inr (i, s, h)) = let e = g.one.2 (i, at.1) h in ap₂ (λ (x y : ℕ). (x, y)) (s ∙ ap (λ (w : ℕ × ℕ). length (rows r p b) + w.0) e) (ap (λ (w : ℕ × ℕ). w.1) e)

      inner : (j : ℕ) → BeginsAt (more r rs) p c j → ⊥
      inner zero h = omega (arith, h, size_some r)
      inner (suc j) h = g.inner j (omega (arith, h), h.1)

mutual
  parent : (r : Rule) (p b : ℕ) → Formed r → (c : ℕ) → p < c → c < p + size r → Parent r p b c
  parent (key n) p b f c lo hi = absurd (omega arith)
  parent (gate k rs) p b f c lo hi = below_gate k rs p b c (parent_of rs (p + 1) (b + 4) f.4 c (omega arith) (omega arith))

  parent_of : (rs : Rules) (p b : ℕ) → FormedAll rs → (c : ℕ) → p ≤ c → c < p + size_of rs → FirstRow rs p b c ⊎ InnerRow rs p b c
  parent_of none p b f c lo hi = absurd (omega arith)
  parent_of (more r rs) p b f c lo hi = elim (ℕ_discrete c p) [
    | yes e ↦ inl (it_begins r rs p b f.0 f.1 c e)
    | no n ↦ elim (dec_lt c (p + size r)) [
      | yes l ↦ inr (inside_it r rs p b f.0 f.1 c (omega arith) l (parent r p b f.0 c (omega arith) l))
      | no m ↦ beyond_it r rs p b f.0 f.1 c (omega arith) (parent_of rs (p + size r) (b + length (text r) + 1) f.1 c (omega arith) (omega arith))
    ]
  ]

-- the table of a legal rule is well formed
pub well_formed : (r : Rule) → Legal r → WellFormed (table r)
well_formed r g =
    let n = rows_length r 0 0 in
    let f = g.formed in
    record {
      some_row = omega (arith, size_some r);
      few_rows = table_short r g;
      few_leaves = omega (arith, g.few, leaves_keys r 0 0);
      numbered = λ i v b h. each r 0 0 f i (leaf v b) h;
      fits = λ p k cs h. (each r 0 0 f p (node k cs) h).fits;
      later = λ p k cs h j l. let w = (each r 0 0 f p (node k cs) h).later j l in (omega (arith, w), omega (arith, w));
      rising = λ p k cs h. (each r 0 0 f p (node k cs) h).rising;
      parent = λ i lo hi. parent r 0 0 f i lo (omega arith);
    }
