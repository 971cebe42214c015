-- What one write changes in a row, and what stays.
use mathlib.Core.Path.{◌≡◌, refl, sym, ap, ap₂, subst, ◌∙◌}
use mathlib.Core.List.{List, [], ◌∷◌, ◌++◌, map}
use Rattle.std.proofs.lemmas.List.{get_or_append_left, length-append}
use mathlib.Core.Option.{some}
use Prim.Native.Nat.{ℕ, zero, suc, ◌+◌, ◌-◌, ◌<◌, ◌≤◌}
use native.Mathlib.Omega.{arith}
use lib.ListN.{length, get_or, set, take, drop, get_elem?, length-drop}
use lib.Seq.{get_or-set_same, get_or-set_other, get_or-take, get_or-drop, length-take-le, take_all}
use Rattle.descent.specs.Rows.{SpreadOut}

pub taken : {E : Type 0} (xs : List E) (i : ℕ) (e d : E) → get_elem? xs i ≡ some e → (i < length xs) × (get_or xs i d ≡ e)
taken [] i e d h = absurd (let z : ◌≡◌ {A = ℕ} 0 1 = cc in let w = z in omega arith)
taken (x ∷ xs) zero e d h = (omega arith, cc)
taken (x ∷ xs) (suc i) e d h = let t = taken xs i e d h in (omega (arith, t.0), t.1)

abbrev pub Rising : List ℕ → Type 0
Rising cs = (i j : ℕ) → i < j → j < length cs → get_or cs i 0 < get_or cs j 0

-- one entry is put at its place, and what is left is spread out after it
pub spread_first : {E : Type 0} (cs left : List ℕ) (row rest : List E) (c : ℕ) (x : E) (xs zs : List E) → cs ≡ c ∷ left → row ≡ x ∷ rest → c < length xs → Rising cs
    → SpreadOut left rest (set xs c x) zs → SpreadOut cs row xs zs
spread_first {E} cs left row rest c x xs zs ec er room rising s =
    subst (λ u. SpreadOut u row xs zs) (sym ec) (subst (λ u. SpreadOut (c ∷ left) u xs zs) (sym er) record {
      placed = placed;
      kept = λ p d none. s.kept p d (λ j l e. none (suc j) (omega arith) e) ∙ get_or-set_other xs c p x d (λ e. none 0 (omega arith) (sym e));
    })
  where
    apart : (j : ℕ) → j < length left → get_or left j 0 ≡ c → ⊥
    apart j l e = let r : c < get_or left j 0 = subst Rising ec rising 0 (suc j) (omega arith) (omega arith) in omega arith

    placed : (j : ℕ) (d : E) → j < suc (length left) → get_or zs (get_or (c ∷ left) j 0) d ≡ get_or (x ∷ rest) j d
    placed zero d l = s.kept c d apart ∙ get_or-set_same xs c x d room
    placed (suc j) d l = s.placed j d (omega arith)

pub inside_left : (cs left : List ℕ) (c n : ℕ) → cs ≡ c ∷ left → ((j : ℕ) → j < length cs → get_or cs j 0 < n) → (c < n) × ((j : ℕ) → j < length left → get_or left j 0 < n)
inside_left cs left c n e inside =
    let all = subst (λ u. (j : ℕ) → j < length u → get_or u j 0 < n) e inside in
    (all 0 (omega arith), λ j h. all (suc j) (omega arith))

pub rising_left : (cs left : List ℕ) (c : ℕ) → cs ≡ c ∷ left → Rising cs → Rising left
rising_left cs left c e rising i j l h = subst Rising e rising (suc i) (suc j) (omega arith) (omega arith)

-- a row whose first n entries were copied from another
pub copied_long : {E : Type 0} (copied ss row : List E) (n : ℕ) → copied ≡ take n ss → n ≤ length ss → n ≤ length row → length (copied ++ drop n row) ≡ length row
copied_long copied ss row n e fits room = omega (arith, ap length e, length-take-le n ss fits, length-append copied (drop n row), length-drop n row)

pub copied_at : {E : Type 0} (copied ss rest : List E) (n j : ℕ) (d : E) → copied ≡ take n ss → n ≤ length ss → j < n → get_or (copied ++ rest) j d ≡ get_or ss j d
copied_at copied ss rest n j d e fits h = get_or_append_left copied rest d j (omega (arith, ap length e, length-take-le n ss fits)) ∙ ap (λ u. get_or u j d) e ∙ get_or-take n ss j d h

-- the entries at some positions, where they are those of a row
pub same_row : {E : Type 0} (z : E) (ys : List E) (cs : List ℕ) (row : List E) → length row ≡ length cs
    → ((j : ℕ) → j < length cs → get_or ys (get_or cs j 0) z ≡ get_or row j z) → map (λ c. get_or ys c z) cs ≡ row
same_row z ys [] [] l h = refl
same_row z ys [] (x ∷ row) l h = absurd (omega arith)
same_row z ys (c ∷ cs) [] l h = absurd (omega arith)
same_row z ys (c ∷ cs) (x ∷ row) l h = ap₂ ◌∷◌ (h zero (omega arith)) (same_row z ys cs row (omega arith) (λ j k. h (suc j) (omega arith)))

-- the first of eight equal entries
pub eight_length : {E : Type 0} (n : ℕ) (x : E) → n ≤ 8 → length (take n (x ∷ x ∷ x ∷ x ∷ x ∷ x ∷ x ∷ x ∷ [])) ≡ n
eight_length n x h = length-take-le n (x ∷ x ∷ x ∷ x ∷ x ∷ x ∷ x ∷ x ∷ []) h

-- a part that goes to the end
pub to_end : {E : Type 0} (xs : List E) (n : ℕ) → take (length xs - n) (drop n xs) ≡ drop n xs
to_end xs n = take_all (length xs - n) (drop n xs) (simp length-drop (omega arith))

pub part_members : {E : Type 0} (P : E → Type 0) (z : E) (xs : List E) (n : ℕ) → n ≤ length xs → ((i : ℕ) → i < length xs → P (get_or xs i z))
    → (i : ℕ) → i < length (take (length xs - n) (drop n xs)) → P (get_or (take (length xs - n) (drop n xs)) i z)
part_members P z xs n fits inside i h =
    let short : i < length xs - n = subst (λ k. i < k) (ap length (to_end xs n) ∙ length-drop n xs) h in
    subst P (sym (ap (λ ys. get_or ys i z) (to_end xs n) ∙ get_or-drop n xs i z)) (inside (n + i) (omega arith))
