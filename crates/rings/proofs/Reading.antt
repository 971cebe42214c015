-- Reading line by line: a ring's lines are those of its chunks of 18 bytes.
use Rattle.std.proofs.Common.{◌≡◌, ℕ, zero, suc, ◌+◌, ◌/◌, ◌%◌, ◌<◌, ◌≤◌, ◌&&◌, eqb, leb, List, [], ◌∷◌, length, get_or, map, take, drop, Some, None, sym, refl, ap, ap₂, ◌∙◌, arith, slice_index, get_or-take}
use Rattle.std.proofs.lemmas.Bool.{le-leb, eq-eqb, and_from}
use Rattle.std.proofs.lemmas.List.{drop_more, drop_all, drop-drop, get_or-drop}
use Rattle.std.specs.Simd.{first_chunks}
use Rattle.refusals.specs.declared.Refusal.{Refusal}
use Rattle.refusals.specs.declared.Refusal.TheVariants.{RingLength}
use Rattle.refusals.specs.Checks.{unless, or_else}
use Rattle.kinds.specs.Kinds.{KindModel}
use Rattle.rings.specs.Rings.{word_at, line_at, lines_from, line_refusal, lines_refusal, ring_lines, ring_refusal}
use Rattle.rings.specs.declared.line.Line.{Line}

-- a chunk has the bytes, words and line that stand where it begins
module _ (s : List ℕ) (i : ℕ) where
  byte_of : (k at : ℕ) → k < 18 → at ≡ i + k → slice_index (take 18 (drop i s)) k ≡ slice_index s at
  byte_of k at h e = get_or-take 18 (drop i s) k 0 h ∙ get_or-drop i s k 0 ∙ ap (slice_index s) (sym e)

  word_of : (k at : ℕ) → k + 3 < 18 → at ≡ i + k → word_at (take 18 (drop i s)) k ≡ word_at s at
  word_of k at h e = rw (byte_of k at (omega arith) e, byte_of (k + 1) (at + 1) (omega arith) (omega arith), byte_of (k + 2) (at + 2) (omega arith) (omega arith), byte_of (k + 3) (at + 3) (omega arith) (omega arith))

  line_of_chunk : line_at (take 18 (drop i s)) 0 ≡ line_at s i
  line_of_chunk = rw (byte_of 0 i (omega arith) (omega arith), byte_of (0 + 1) (i + 1) (omega arith) (omega arith), word_of (0 + 2) (i + 2) (omega arith) (omega arith), word_of (0 + 6) (i + 6) (omega arith) (omega arith), word_of (0 + 10) (i + 10) (omega arith) (omega arith), word_of (0 + 14) (i + 14) (omega arith) (omega arith))

abbrev pub lines_of : List (List ℕ) → List Line
lines_of chunks = map (λ c. line_at c 0) chunks

lines_of_chunks : (s : List ℕ) (i n : ℕ) → lines_of (first_chunks 18 n (drop i s)) ≡ lines_from s i n
lines_of_chunks s i zero = refl
lines_of_chunks s i (suc n) = ap₂ (λ l ls. l ∷ ls) (line_of_chunk s i) (ap (λ rest. lines_of (first_chunks 18 n rest)) (drop-drop 18 i s) ∙ lines_of_chunks s (i + 18) n)

-- a ring of whole lines is refused by its lines alone
is_whole : (m : KindModel) (s : List ℕ) → 18 ≤ length s → length s ≤ 288 → length s % 18 ≡ 0 → ring_refusal m s ≡ lines_refusal m 0 0 (ring_lines s)
is_whole m s low high even =
    ap (λ b. or_else (unless b RingLength) (lines_refusal m 0 0 (ring_lines s)))
    (and_from (leb 18 (length s)) (leb (length s) 288 && eqb (length s % 18) 0) (le-leb 18 (length s) low)
    (and_from (leb (length s) 288) (eqb (length s % 18) 0) (le-leb (length s) 288 high) (eq-eqb (length s % 18) 0 even)))

module _ (s : List ℕ) (chunks : List (List ℕ)) (front : chunks ≡ first_chunks 18 (length s / 18) s) where
  pub all_lines : lines_of chunks ≡ ring_lines s
  all_lines = ap lines_of front ∙ lines_of_chunks s 0 (length s / 18)

  -- all but i lines passed
  module _ (m : KindModel) (rest : ℕ) (many : length chunks ≡ length s / 18) (back : rest ≡ length s % 18) (none : rest < 1) (some : length chunks ≡ 0 → ⊥) (few : length chunks ≤ 16)
      (last i : ℕ) (passed : lines_refusal m 0 0 (lines_of chunks) ≡ lines_refusal m last i (lines_of (drop i chunks))) where
    so_far : ring_refusal m s ≡ lines_refusal m last i (lines_of (drop i chunks))
    so_far = is_whole m s (omega (arith, some)) (omega arith) (omega arith) ∙ ap (lines_refusal m 0 0) (sym all_lines) ∙ passed

    pub all_passed : length chunks ≤ i → None ≡ ring_refusal m s
    all_passed h = sym (so_far ∙ ap (λ cs. lines_refusal m last i (lines_of cs)) (drop_all i chunks h))

    pub one_refused : i < length chunks → (why : Refusal) → Some why ≡ line_refusal m last i (line_at (get_or chunks i []) 0) → Some why ≡ ring_refusal m s
    one_refused h why e =
        let line = line_at (get_or chunks i []) 0 in
        let rest = lines_of (drop (i + 1) chunks) in
        sym (so_far ∙ ap (λ cs. lines_refusal m last i (lines_of cs)) (drop_more chunks i [] h) ∙ ap (λ o. or_else o (lines_refusal m line.number (i + 1) rest)) (sym e))
