-- Building: a rule's text is read, then its ring, then they are paired.
--   Built m text ring es     the text is legal, the ring is whole, every key of the rule stands in it; es are the rule's entries with their lines
--   Unbuilt m text ring x    x is the first refusal: of the text, else of the ring, else of the pairing
use Rattle.std.specs.Prelude.{◌≡◌, ℕ, ◌⊎◌, List, Some, None}
use Rattle.refusals.specs.declared.Refusal.{Refusal}
use Rattle.refusals.specs.Checks.{or_else}
use Rattle.kinds.specs.Kinds.{KindModel}
use Rattle.rules.specs.Tables.{Row}
use Rattle.rules.specs.Texts.{Means, Faulty}
use Rattle.rings.specs.Rings.{ring_refusal, ring_lines}
use Rattle.rings.specs.Pairings.{pair_refusal, paired}
use Rattle.releases.specs.Entries.{Entry, entries}

pub record Built (m : KindModel) (text ring : List ℕ) (es : List Entry) : Type 0 where
  pub rows : List Row
  pub means : Means text rows
  pub whole : ring_refusal m ring ≡ None
  pub known : pair_refusal rows (ring_lines ring) ≡ None
  pub listed : es ≡ entries rows (paired rows (ring_lines ring))

abbrev pub Unbuilt : KindModel → List ℕ → List ℕ → Refusal → Type 0
Unbuilt m text ring x =
    Faulty text x ⊎ ((rows : List Row) × Means text rows × (or_else (ring_refusal m ring) (pair_refusal rows (ring_lines ring)) ≡ Some x))
