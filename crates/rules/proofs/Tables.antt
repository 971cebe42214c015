-- Tables: one for each rule, and short.
use Rattle.std.proofs.Common.{◌≡◌, ℕ, ◌+◌, ◌*◌, ◌≤◌, List, [], ◌∷◌, ◌++◌, length, sym, refl, ap, ◌∙◌, ap₂, append_assoc, arith}
use Rattle.std.proofs.lemmas.List.{append-nil}
use Rattle.rules.specs.Grammar.{Rule, Rules, key, gate, none, more, count, text, keys, keys_of, Formed, FormedAll, Legal}
use Rattle.rules.specs.Tables.{size, size_of, rows, rows_of, starts, table, Row, leaf, node}
use Rattle.rules.proofs.Rows.{rows_length}

mutual
  same_rule : (r q : Rule) (p x : ℕ) (a b : List Row) → rows r p x ++ a ≡ rows q p x ++ b → (r ≡ q) × (a ≡ b)
  same_rule (key n) q p x a b e = key_of n q p x a b e
    where
      key_of : (n : ℕ) (q : Rule) (p x : ℕ) (a b : List Row) → leaf n x ∷ a ≡ rows q p x ++ b → (key n ≡ q) × (a ≡ b)
      key_of n (key m) p x a b e = let z : n ≡ m = cc in (ap key z, cc)
      key_of n (gate m qs) p x a b e = let z : ◌≡◌ {A = ℕ} 0 1 = cc in absurd (omega arith)
  same_rule (gate k rs) q p x a b e = gate_of k rs q p x a b (same_rules rs) e
    where
      gate_of : (k : ℕ) (rs : Rules) (q : Rule) (p x : ℕ) (a b : List Row) → ((qs : Rules) (p x : ℕ) (a b : List Row) → starts rs p ≡ starts qs p → rows_of rs p x ++ a ≡ rows_of qs p x ++ b → (rs ≡ qs) × (a ≡ b)) → node k (starts rs (p + 1)) ∷ (rows_of rs (p + 1) (x + 4) ++ a) ≡ rows q p x ++ b → (gate k rs ≡ q) × (a ≡ b)
      gate_of k rs (key m) p x a b h e = let z : ◌≡◌ {A = ℕ} 0 1 = cc in absurd (omega arith)
      gate_of k rs (gate m qs) p x a b h e =
          let u : k ≡ m = cc in
          let y : starts rs (p + 1) ≡ starts qs (p + 1) = cc in
          let z : rows_of rs (p + 1) (x + 4) ++ a ≡ rows_of qs (p + 1) (x + 4) ++ b = cc in
          let w = h qs (p + 1) (x + 4) a b y z in
          (ap₂ gate u w.0, w.1)

  same_rules : (rs qs : Rules) (p x : ℕ) (a b : List Row) → starts rs p ≡ starts qs p → rows_of rs p x ++ a ≡ rows_of qs p x ++ b → (rs ≡ qs) × (a ≡ b)
  same_rules none qs p x a b s e = none_of qs p x a b s e
    where
      none_of : (qs : Rules) (p x : ℕ) (a b : List Row) → [] ≡ starts qs p → a ≡ rows_of qs p x ++ b → (none ≡ qs) × (a ≡ b)
      none_of none p x a b s e = (refl, e)
      none_of (more q qs) p x a b s e = let z : ◌≡◌ {A = ℕ} 0 1 = cc in absurd (omega arith)
  same_rules (more r rs) qs p x a b s e = more_of r rs qs p x a b (same_rule r) (same_rules rs) s e
    where
      more_of : (r : Rule) (rs qs : Rules) (p x : ℕ) (a b : List Row) → ((q : Rule) (p x : ℕ) (a b : List Row) → rows r p x ++ a ≡ rows q p x ++ b → (r ≡ q) × (a ≡ b)) → ((qs : Rules) (p x : ℕ) (a b : List Row) → starts rs p ≡ starts qs p → rows_of rs p x ++ a ≡ rows_of qs p x ++ b → (rs ≡ qs) × (a ≡ b)) → p ∷ starts rs (p + size r) ≡ starts qs p → (rows r p x ++ rows_of rs (p + size r) (x + length (text r) + 1)) ++ a ≡ rows_of qs p x ++ b → (more r rs ≡ qs) × (a ≡ b)
      more_of r rs none p x a b f g s e = let z : ◌≡◌ {A = ℕ} 0 1 = cc in absurd (omega arith)
      more_of r rs (more q qs) p x a b f g s e =
          let rest = rows_of rs (p + size r) (x + length (text r) + 1) in
          let rest' = rows_of qs (p + size q) (x + length (text q) + 1) in
          let m = f q p x (rest ++ a) (rest' ++ b) (sym (append_assoc (rows r p x) rest a) ∙ e ∙ append_assoc (rows q p x) rest' b) in
          let t : starts rs (p + size r) ≡ starts qs (p + size q) = cc in
          let w = g qs (p + size r) (x + length (text r) + 1) a b (t ∙ ap (λ y. starts qs (p + size y)) (sym m.0)) (m.1 ∙ ap (λ y. rows_of qs (p + size y) (x + length (text y) + 1) ++ b) (sym m.0)) in
          (ap₂ more m.0 w.0, w.1)

-- no two rules have one table
pub table_injective : (r q : Rule) → table r ≡ table q → r ≡ q
table_injective r q e = (same_rule r q 0 0 [] [] (append-nil (rows r 0 0) ∙ e ∙ sym (append-nil (rows q 0 0)))).0

mutual
  few : (r : Rule) → Formed r → size r + 1 ≤ 2 * keys r
  few (key n) f = omega arith
  few (gate k rs) f = omega (arith, few_of rs f.4, f.2)

  few_of : (rs : Rules) → FormedAll rs → size_of rs + count rs ≤ 2 * keys_of rs
  few_of none f = omega arith
  few_of (more r rs) f = omega (arith, few r f.0, few_of rs f.1)

pub table_short : (r : Rule) → Legal r → length (table r) ≤ 31
table_short r g = omega (arith, few r g.formed, g.few, rows_length r 0 0)
