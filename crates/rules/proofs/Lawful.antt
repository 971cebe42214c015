-- Entries are lawful in one way, so what the invariant of a table says can be taken at its word.
use Rattle.std.proofs.Common.{◌≡◌, ℕ, sym, refl, ◌∙◌, ap₂, arith}
use native.Mathlib.Decide.{ℕ_discrete}
use native.Mathlib.Bridge.{le_prop}
use mathlib.Core.HLevel.{hedberg, is_prop→PathP}
use mathlib.Core.List.{List-discrete}
use mathlib.Core.Logic.{∥∥₁_elim}
use Rattle.rules.specs.declared.entry.Entries.{Entries}
use Rattle.rules.specs.Grammar.{Rule, Rules, key, gate, none, more, keys, Formed, FormedAll, Legal}
use Rattle.rules.specs.Tables.{Row, leaf, node, table}
use Rattle.rules.specs.Views.{listing, Lawful}
use Rattle.rules.proofs.Tables.{table_injective}

row_discrete : (x y : Row) → Dec (x ≡ y)
row_discrete (leaf n b) (leaf m c) = elim (ℕ_discrete n m) [
  | yes e ↦ elim (ℕ_discrete b c) [ yes f ↦ yes (ap₂ leaf e f) | no h ↦ no (λ q. h cc) ]
  | no h ↦ no (λ q. h cc)
]
row_discrete (leaf n b) (node k cs) = no (λ q. let z : ◌≡◌ {A = ℕ} 0 1 = cc in omega arith)
row_discrete (node k cs) (leaf n b) = no (λ q. let z : ◌≡◌ {A = ℕ} 0 1 = cc in omega arith)
row_discrete (node k cs) (node l ds) = elim (ℕ_discrete k l) [
  | yes e ↦ elim (List-discrete ℕ_discrete cs ds) [ yes f ↦ yes (ap₂ node e f) | no h ↦ no (λ q. h cc) ]
  | no h ↦ no (λ q. h cc)
]

mutual
  formed_prop : (r : Rule) → IsProp (Formed r)
  formed_prop (key n) p q = λ i. (le_prop p.0 q.0 i, le_prop p.1 q.1 i)
  formed_prop (gate k rs) p q = λ i. (le_prop p.0 q.0 i, le_prop p.1 q.1 i, le_prop p.2 q.2 i, le_prop p.3 q.3 i, formed_all_prop rs p.4 q.4 i)

  formed_all_prop : (rs : Rules) → IsProp (FormedAll rs)
  formed_all_prop none p q = refl
  formed_all_prop (more r rs) p q = λ i. (formed_prop r p.0 q.0 i, formed_all_prop rs p.1 q.1 i)

legal_prop : (r : Rule) → IsProp (Legal r)
legal_prop r p q = λ i. record {
  formed = formed_prop r p.formed q.formed i;
  deep = le_prop p.deep q.deep i;
  few = le_prop p.few q.few i;
  short = le_prop p.short q.short i;
}

lawful_prop : (t : Entries) → IsProp (Lawful t)
lawful_prop t p q =
    let e : p.rule ≡ q.rule = table_injective p.rule q.rule (sym p.listed ∙ q.listed) in
    λ i. record {
      rule = e i;
      legal = is_prop→PathP (λ j. Legal (e j)) (λ j. legal_prop (e j)) p.legal q.legal i;
      listed = is_prop→PathP (λ j. listing t ≡ table (e j)) (λ j. hedberg (List-discrete row_discrete) (listing t) (table (e j))) p.listed q.listed i;
      counted = is_prop→PathP (λ j. t.keys ≡ keys (e j)) (λ j. hedberg ℕ_discrete t.keys (keys (e j))) p.counted q.counted i;
    }

pub lawful : (t : Entries) → ∥ Lawful t ∥₁ → Lawful t
lawful t h = ∥∥₁_elim h (lawful_prop t) (λ x. x)
