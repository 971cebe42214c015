-- The entries of a well-formed table are well formed, and those of a ring that was read are stated.
use Rattle.std.proofs.Common.{◌≡◌, ℕ, zero, suc, ◌+◌, ◌<◌, ◌≤◌, Bool, true, false, cond, T, eqb, ltb, List, [], ◌∷◌, length, get_or, Some, None, Option, sym, refl, ap, subst, arith}
use mathlib.Core.Option.{Option as Found, some, none}
use native.Mathlib.Decide.{dec_le}
use lib.ListN.{get_elem?}
use Rattle.refusals.specs.declared.Refusal.{Refusal}
use Rattle.refusals.specs.declared.Refusal.TheVariants.{NotInRing, NotRising, NoImage, RingLength}
use Rattle.refusals.specs.Checks.{unless, or_else, first}
use Rattle.kinds.specs.Kinds.{KindModel, Kind, Lawful}
use Rattle.kinds.specs.declared.image.Image.{Image}
use Rattle.rules.specs.Tables.{Row, leaf as key_row, node as gate_row, GateAt as GateRow, WellFormed as FormedRows}
use Rattle.rings.specs.Rings.{whole, ring_lines, line_refusal, lines_refusal}
use Rattle.rings.specs.Pairings.{line_of, missing_at, with_line, pair_refusal, paired}
use Rattle.rings.specs.declared.line.Line.{Line}
use Rattle.polynomials.proofs.Roots.{All}
use Rattle.releases.specs.Entries.{Entry, leaf, gate, entries, GateAt, WellFormed, Known, Stated}
use Rattle.releases.specs.Theorems.{ReadingSets}
use Rattle.releases.proofs.Places.{none_some}

entries_length : (rows : List Row) (lines : List Line) → length (entries rows lines) ≡ length rows
entries_length [] lines = refl
entries_length (key_row n b ∷ rows) [] = ap suc (entries_length rows [])
entries_length (key_row n b ∷ rows) (l ∷ lines) = ap suc (entries_length rows lines)
entries_length (gate_row k cs ∷ rows) lines = ap suc (entries_length rows lines)

-- gates stand where they stood
abbrev row_of : Found Entry → Found Row
row_of none = none
row_of (some (leaf kind s)) = none
row_of (some (gate k cs)) = some (gate_row k cs)

abbrev entry_of : Found Row → Found Entry
entry_of none = none
entry_of (some (key_row n b)) = none
entry_of (some (gate_row k cs)) = some (gate k cs)

gate_row_at : (rows : List Row) (lines : List Line) (p k : ℕ) (cs : List ℕ) → GateAt (entries rows lines) p k cs → GateRow rows p k cs
gate_row_at [] lines p k cs h = none_some (gate k cs) h
gate_row_at (key_row n b ∷ rows) [] zero k cs h = none_some (gate_row k cs) (ap row_of h)
gate_row_at (key_row n b ∷ rows) (l ∷ lines) zero k cs h = none_some (gate_row k cs) (ap row_of h)
gate_row_at (gate_row k' cs' ∷ rows) lines zero k cs h = ap row_of h
gate_row_at (key_row n b ∷ rows) [] (suc p) k cs h = gate_row_at rows [] p k cs h
gate_row_at (key_row n b ∷ rows) (l ∷ lines) (suc p) k cs h = gate_row_at rows lines p k cs h
gate_row_at (gate_row k' cs' ∷ rows) lines (suc p) k cs h = gate_row_at rows lines p k cs h

gate_entry_at : (rows : List Row) (lines : List Line) (p k : ℕ) (cs : List ℕ) → GateRow rows p k cs → GateAt (entries rows lines) p k cs
gate_entry_at [] lines p k cs h = none_some (gate_row k cs) h
gate_entry_at (key_row n b ∷ rows) lines zero k cs h = none_some (gate k cs) (ap entry_of h)
gate_entry_at (gate_row k' cs' ∷ rows) lines zero k cs h = ap entry_of h
gate_entry_at (key_row n b ∷ rows) [] (suc p) k cs h = gate_entry_at rows [] p k cs h
gate_entry_at (key_row n b ∷ rows) (l ∷ lines) (suc p) k cs h = gate_entry_at rows lines p k cs h
gate_entry_at (gate_row k' cs' ∷ rows) lines (suc p) k cs h = gate_entry_at rows lines p k cs h

pub entries_formed : (rows : List Row) (lines : List Line) → FormedRows rows → WellFormed (entries rows lines)
entries_formed rows lines wf = record {
  some_entry = subst (λ n. 0 < n) (sym long) wf.some_row;
  fits = λ p k cs h. let f = wf.fits p k cs (gate_row_at rows lines p k cs h) in (f.1, f.3);
  later = λ p k cs h j l.
      let w = wf.later p k cs (gate_row_at rows lines p k cs h) j l in
      (w.0, subst (λ n. get_or cs j 0 < n) (sym long) w.1);
  parent = λ i a b.
      let o = wf.parent i a (subst (λ n. i < n) long b) in
      let c = o.1 in (
        o.0,
        (c.0, c.1, gate_entry_at rows lines o.0.0 c.0 c.1 c.2, c.3, c.4),
        λ at d. o.2 at (d.0, d.1, gate_row_at rows lines at.0 d.0 d.1 d.2, d.3, d.4),
      );
}
  where
    long : length (entries rows lines) ≡ length rows
    long = entries_length rows lines

-- checks that tell nothing
abbrev Told : Option Refusal → Type 0
Told None = ⊥
Told (Some why) = Unit {0}

told : {P : Type 0} (why : Refusal) → Some why ≡ None → P
told why e = absurd (subst Told e tt)

or_none : (a b : Option Refusal) → or_else a b ≡ None → (a ≡ None) × (b ≡ None)
or_none None b e = (refl, e)
or_none (Some why) b e = told why e

unless_none : (b : Bool) (why : Refusal) → unless b why ≡ None → T b
unless_none true why e = tt
unless_none false why e = told why e

module _ (m : KindModel) where
  abbrev Imaged : Line → Type 0
  Imaged l = T ((m.kind l.kind).is_image l.image)

  -- every line of a ring that is not refused has an image of its kind
  lines_imaged : (ls : List Line) (last i : ℕ) → lines_refusal m last i ls ≡ None → All Imaged ls
  lines_imaged [] last i e = tt
  lines_imaged (l ∷ ls) last i e =
      let o = or_none (line_refusal m last i l) (lines_refusal m l.number (i + 1) ls) e in
      let f = or_none (unless (ltb last l.number) (NotRising i)) (first (unless ((m.kind l.kind).is_image l.image) (NoImage i) ∷ [])) o.0 in
      let g = or_none (unless ((m.kind l.kind).is_image l.image) (NoImage i)) None f.1 in
      (unless_none ((m.kind l.kind).is_image l.image) (NoImage i) g.0, lines_imaged ls l.number (i + 1) o.1)

  abbrev FoundImaged : Option Line → Type 0
  FoundImaged None = Unit {0}
  FoundImaged (Some l) = Imaged l

  line_imaged : (ls : List Line) (n : ℕ) → All Imaged ls → FoundImaged (line_of ls n)
  line_imaged [] n a = tt
  line_imaged (l ∷ ls) n a = go (eqb l.number n) (line_imaged ls n a.1)
    where
      go : (b : Bool) → FoundImaged (line_of ls n) → FoundImaged (cond b (Some l) (line_of ls n))
      go true r = a.0
      go false r = r

  abbrev EntryImaged : Found Entry → Type 0
  EntryImaged none = Unit {0}
  EntryImaged (some (leaf kind s)) = T ((m.kind kind).is_image s)
  EntryImaged (some (gate k cs)) = Unit {0}

  imaged : (rows : List Row) (ls : List Line) → All Imaged ls → pair_refusal rows ls ≡ None → (i : ℕ) → EntryImaged (get_elem? (entries rows (paired rows ls)) i)
  imaged [] ls a e i = tt
  imaged (gate_row k cs ∷ rows) ls a e zero = tt
  imaged (gate_row k cs ∷ rows) ls a e (suc i) = imaged rows ls a e i
  imaged (key_row n b ∷ rows) ls a e i = go (line_of ls n) (line_imaged ls n a) e (imaged rows ls a) i
    where
      go : (o : Option Line) → FoundImaged o → missing_at o b (pair_refusal rows ls) ≡ None
          → (pair_refusal rows ls ≡ None → (i : ℕ) → EntryImaged (get_elem? (entries rows (paired rows ls)) i))
          → (i : ℕ) → EntryImaged (get_elem? (entries (key_row n b ∷ rows) (with_line o (paired rows ls))) i)
      go None h e rest i = told (NotInRing b) e
      go (Some l) h e rest zero = h
      go (Some l) h e rest (suc i) = rest e i

  -- only known kinds have images
  known : Lawful m → (kind : ℕ) (s : Image) → T ((m.kind kind).is_image s) → Known m kind
  known law zero s h = absurd (subst (λ (k : Kind). T (k.is_image s)) law.none h)
  known law (suc n) s h = go (dec_le (suc n) m.count)
    where
      go : Dec (suc n ≤ m.count) → Known m (suc n)
      go (yes l) = (omega arith, l)
      go (no l) = absurd (subst (λ (k : Kind). T (k.is_image s)) (law.others (suc n) (omega arith)) h)

  pub entries_stated : Lawful m → (rows : List Row) (ls : List Line) → All Imaged ls → pair_refusal rows ls ≡ None → Stated m (entries rows (paired rows ls))
  entries_stated law rows ls a e i kind s h =
      let x : T ((m.kind kind).is_image s) = subst EntryImaged h (imaged rows ls a e i) in
      (known law kind s x, x)

pub reading_sets : ReadingSets
reading_sets m law rows wf ring e p =
    let o = or_none (unless (whole ring) RingLength) (lines_refusal m 0 0 (ring_lines ring)) e in
    record {
      lawful = law;
      formed = entries_formed rows (paired rows (ring_lines ring)) wf;
      stated = entries_stated m law rows (ring_lines ring) (lines_imaged m (ring_lines ring) 0 0 o.1) p;
    }
