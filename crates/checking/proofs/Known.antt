-- What is known of a rule over the set of leaf kinds that it was built for.
use Rattle.std.proofs.Common.{ℕ, ◌<◌, ◌≤◌, List, length, get_or, arith}
use mathlib.Core.Logic.{∥∥₁_elim}
use Rattle.std.proofs.Props.{props}
use Rattle.kinds.specs.Kinds.{KindModel, Key}
use Rattle.kinds.specs.declared.image.Image.{Image}
use Rattle.releases.specs.Entries.{Entry, LeafAt, GateAt}
use Rattle.releases.specs.Transcripts.{IsKey, IsImage}
use Rattle.releases.specs.Theorems.{Setting}
use Rattle.releases.proofs.KeyLaws.{key_fits}

module _ (m : KindModel) (rule : List Entry) (known : ∥ Setting m rule ∥₁) where
  pub gate_fits : (p k : ℕ) (cs : List ℕ) → GateAt rule p k cs → (k ≤ length cs) × (length cs ≤ 8)
  gate_fits p k cs at = ∥∥₁_elim known (hlevel props) (λ s. s.formed.fits p k cs at)

  pub children_inside : (p k : ℕ) (cs : List ℕ) → GateAt rule p k cs → (j : ℕ) → j < length cs → get_or cs j 0 < length rule
  children_inside p k cs at j l = ∥∥₁_elim known (hlevel props) (λ s. (s.formed.later p k cs at j l).1)

  pub statement_fits : (i kind : ℕ) (s : Image) → LeafAt rule i kind s → IsImage m kind s
  statement_fits i kind x at = ∥∥₁_elim known (hlevel props) (λ s. (s.stated i kind x at).1)

  pub key_below : (i kind : ℕ) (s : Image) → LeafAt rule i kind s → (x : Key) → IsKey m kind x → (x.0.0 < m.q) × (x.1.0 < m.q)
  key_below i kind x at k is =
      ∥∥₁_elim known (hlevel props) (λ s.
      let kinds = (s.stated i kind x at).0 in
      let laws = s.lawful.each kind kinds.0 kinds.1 in
      let fits = key_fits m.q (m.kind kind).width (omega (arith, s.lawful.low)) laws.width_low laws.width_high k is in
      (fits.first, fits.second))
