-- What the account reads is a legal rule, and the text is that rule's.
use Rattle.std.proofs.Common.{◌≡◌, ℕ, suc, ◌+◌, ◌-◌, ◌*◌, ◌<◌, ◌≤◌, max, Bool, true, false, List, [], ◌∷◌, ◌++◌, length, Ok, Err, Result, sym, refl, ap, ◌∙◌, subst, ap₂, inl, inr, append_assoc, arith}
use native.Mathlib.Decide.{dec_lt, ℕ_discrete}
use Rattle.std.proofs.lemmas.List.{append-nil}
use Rattle.refusals.specs.declared.Refusal.{Refusal}
use Rattle.refusals.specs.declared.Refusal.TheVariants.{TextLength, Unexpected}
use Rattle.rules.specs.declared.head.Head.{Head}
use Rattle.rules.specs.declared.head.Head.TheVariants.{All, Any, Of}
use Rattle.rules.specs.Grammar.{Rule, Rules, key, gate, none, more, count, text, marked, decimal, keys, keys_of, depth, depth_of, Formed, FormedAll, Legal}
use Rattle.rules.specs.Faults.{item, second, word, number, digits, after, Open, opened, State, state, step, finish, run, follow, onward, digit, fits, threshold, scan, ◌then◌}
use Rattle.rules.specs.ReaderSteps.{Proper, from}
use Rattle.rules.proofs.Steps.{spelling, run_ok, run_err, run_end, word_ok, word_err, item_a, second_l, second_n, second_err, item_of, item_number, outside_lo, outside_hi}
use Rattle.rules.proofs.Decimal.{decimal_one, decimal_more, step_first, step_zero, step_none, step_digit, step_large, step_past}
use Rattle.rules.proofs.Items.{key_ok, key_deep, key_many, deep_a, deep_digit, step_unexpected, close_ok, close_err, wants, opens as opens_so, count_push, comma_ok, comma_full, bracket, other, scan_from, scan_length}

abbrev next_mark : Rules → ℕ → ℕ
next_mark none m = m
next_mark (more r rs) m = 44

-- the text of an open gate's items so far, up to the next one
abbrev before : Rules → List ℕ
before rs = marked rs 40 ++ next_mark rs 40 ∷ []

abbrev opens : List Open → List ℕ
opens [] = []
opens (opened h rs ∷ gs) = opens gs ++ (spelling h ++ before rs)

abbrev keys_in : List Open → ℕ
keys_in [] = 0
keys_in (opened h rs ∷ gs) = keys_of rs + keys_in gs

abbrev Goods : List Open → Type 0
Goods [] = Unit {0}
Goods (opened h rs ∷ gs) = Proper h × FormedAll rs × (count rs ≤ 7) × (suc (length gs) + depth_of rs ≤ 8) × Goods gs

-- the text so far
abbrev Read : State → List ℕ → Type 0
Read (state gs k item) s = (s ≡ opens gs) × Goods gs × (k ≡ keys_in gs) × (k ≤ 16)
Read (state gs k second) s = (s ≡ opens gs ++ 97 ∷ []) × Goods gs × (k ≡ keys_in gs) × (k ≤ 16) × (length gs < 8)
Read (state gs k (word c cs h)) s = (s ++ c ∷ cs ≡ opens gs ++ (spelling h ++ 40 ∷ [])) × Goods gs × (k ≡ keys_in gs) × (k ≤ 16) × (length gs < 8) × Proper h
Read (state gs k number) s = (s ≡ opens gs ++ 75 ∷ []) × Goods gs × (k ≡ keys_in gs + 1) × (k ≤ 16) × (length gs < 8)
Read (state gs k (digits f v)) s = (s ≡ opens gs ++ 75 ∷ decimal v) × Goods gs × (k ≡ keys_in gs + 1) × (k ≤ 16) × (length gs < 8) × (1 ≤ v) × (v ≤ 255)
Read (state gs k (after r)) s = (s ≡ opens gs ++ text r) × Goods gs × (k ≡ keys_in gs + keys r) × (k ≤ 16) × Formed r × (length gs + depth r ≤ 8)

only : (r : Result State Refusal) (x y : State) → r ≡ Ok x → r ≡ Ok y → x ≡ y
only r x y p q = cc

never : {A : Type 0} (r : Result State Refusal) (x : Refusal) (y : State) → r ≡ Err x → r ≡ Ok y → A
never r x y p q = let z : ◌≡◌ {A = ℕ} 0 1 = cc in absurd (omega arith)

module _ (at b : ℕ) (s : List ℕ) (st' : State) where
  to : (st x : State) → step st at b ≡ Ok st' → step st at b ≡ Ok x → Read x (s ++ b ∷ []) → Read st' (s ++ b ∷ [])
  to st x e p g = subst (λ z. Read z (s ++ b ∷ [])) (only (step st at b) x st' p e) g

  at_item : (gs : List Open) (k : ℕ) → Read (state gs k item) s → step (state gs k item) at b ≡ Ok st' → Read st' (s ++ b ∷ [])
  at_item gs k g e =
      let st : State = state gs k item in
      elim (ℕ_discrete b 75) [
        | yes q ↦ elim (dec_lt (length gs) 8) [
          | yes l ↦ elim (dec_lt k 16) [
            | yes m ↦ to st (state gs (k + 1) number) e (ap (step st at) q ∙ key_ok gs k at l m) (ap₂ (λ (x : List ℕ) y. x ++ y ∷ []) g.0 q, g.1, omega (arith, g.2), omega arith, l)
            | no m ↦ never (step st at b) _ st' (ap (step st at) q ∙ key_many gs k at l (omega arith)) e
          ]
          | no l ↦ never (step st at b) _ st' (ap (step st at) q ∙ key_deep gs k at (omega arith)) e
        ]
        | no q ↦ elim (ℕ_discrete b 97) [
          | yes p ↦ elim (dec_lt (length gs) 8) [
            | yes l ↦ to st (state gs k second) e (ap (step st at) p ∙ item_a gs k at l) (ap₂ (λ (x : List ℕ) y. x ++ y ∷ []) g.0 p, g.1, g.2, g.3, l)
            | no l ↦ never (step st at b) _ st' (ap (step st at) p ∙ deep_a gs k at (omega arith)) e
          ]
          | no p ↦ elim (dec_lt b 48) [
            | yes l ↦ never (step st at b) _ st' (step_unexpected gs k at b q p (outside_lo 48 57 b l)) e
            | no l ↦ elim (dec_lt 57 b) [
              | yes m ↦ never (step st at b) _ st' (step_unexpected gs k at b q p (outside_hi 48 57 b (omega arith) m)) e
              | no m ↦ elim (dec_lt (length gs) 8) [
                | no n ↦ never (step st at b) _ st' (deep_digit gs k at b (omega arith) (omega arith) (omega arith)) e
                | yes n ↦ elim (dec_lt b 50) [
                  | yes u ↦ never (step st at b) _ st' (item_number gs k at b n (omega arith) (omega arith) (outside_lo 50 55 b u)) e
                  | no u ↦ elim (dec_lt 55 b) [
                    | yes v ↦ never (step st at b) _ st' (item_number gs k at b n (omega arith) (omega arith) (outside_hi 50 55 b (omega arith) v)) e
                    | no v ↦
                        (let same : b ≡ 48 + (b - 48) = omega arith in
                        to st (state gs k (word 111 (102 ∷ 40 ∷ []) (Of (b - 48)))) e (item_of gs k at b n (omega arith) (omega arith))
                        (append_assoc s (b ∷ []) (111 ∷ 102 ∷ 40 ∷ []) ∙ ap₂ (λ (x : List ℕ) y. x ++ y ∷ 111 ∷ 102 ∷ 40 ∷ []) g.0 same, g.1, g.2, g.3, n, (omega arith, omega arith)))
                  ]
                ]
              ]
            ]
          ]
        ]
      ]

  at_second : (gs : List Open) (k : ℕ) → Read (state gs k second) s → step (state gs k second) at b ≡ Ok st' → Read st' (s ++ b ∷ [])
  at_second gs k g e =
      let st : State = state gs k second in
      elim (ℕ_discrete b 108) [
        | yes q ↦ to st (state gs k (word 108 (40 ∷ []) All)) e (ap (step st at) q ∙ second_l gs k at)
            (append_assoc s (b ∷ []) (108 ∷ 40 ∷ []) ∙ ap₂ (λ (x : List ℕ) y. x ++ y ∷ 108 ∷ 40 ∷ []) g.0 q ∙ append_assoc (opens gs) (97 ∷ []) (108 ∷ 108 ∷ 40 ∷ []), g.1, g.2, g.3, g.4, tt)
        | no q ↦ elim (ℕ_discrete b 110) [
          | yes p ↦ to st (state gs k (word 121 (40 ∷ []) Any)) e (ap (step st at) p ∙ second_n gs k at)
              (append_assoc s (b ∷ []) (121 ∷ 40 ∷ []) ∙ ap₂ (λ (x : List ℕ) y. x ++ y ∷ 121 ∷ 40 ∷ []) g.0 p ∙ append_assoc (opens gs) (97 ∷ []) (110 ∷ 121 ∷ 40 ∷ []), g.1, g.2, g.3, g.4, tt)
          | no p ↦ never (step st at b) _ st' (second_err gs k at b q p) e
        ]
      ]

  on_word : (cs : List ℕ) (gs : List Open) (k c : ℕ) (h : Head) → Read (state gs k (word c cs h)) s → b ≡ c → Read (onward gs k cs h) (s ++ b ∷ [])
  on_word [] gs k c h g q = (ap (λ y. s ++ y ∷ []) q ∙ g.0, (g.5, tt, omega arith, omega (arith, g.4), g.1), omega (arith, g.2), g.3)
  on_word (d ∷ cs) gs k c h g q = (append_assoc s (b ∷ []) (d ∷ cs) ∙ ap (λ y. s ++ y ∷ d ∷ cs) q ∙ g.0, g.1, g.2, g.3, g.4, g.5)

  at_word : (gs : List Open) (k c : ℕ) (cs : List ℕ) (h : Head) → Read (state gs k (word c cs h)) s → step (state gs k (word c cs h)) at b ≡ Ok st' → Read st' (s ++ b ∷ [])
  at_word gs k c cs h g e =
      let st : State = state gs k (word c cs h) in
      elim (ℕ_discrete b c) [
        | yes q ↦ to st (onward gs k cs h) e (ap (step st at) q ∙ word_ok gs k c cs h at) (on_word cs gs k c h g q)
        | no q ↦ never (step st at b) _ st' (word_err gs k c cs h at b q) e
      ]

  at_number : (gs : List Open) (k : ℕ) → Read (state gs k number) s → step (state gs k number) at b ≡ Ok st' → Read st' (s ++ b ∷ [])
  at_number gs k g e =
      let st : State = state gs k number in
      elim (dec_lt b 48) [
        | yes l ↦ never (step st at b) _ st' (step_none gs k at b (outside_lo 48 57 b l)) e
        | no l ↦ elim (dec_lt 57 b) [
          | yes m ↦ never (step st at b) _ st' (step_none gs k at b (outside_hi 48 57 b (omega arith) m)) e
          | no m ↦ elim (ℕ_discrete b 48) [
            | yes q ↦ never (step st at b) _ st' (ap (step st at) q ∙ step_zero gs k at) e
            | no q ↦
                (let same : 48 + (b - 48) ≡ b = omega arith in
                to st (state gs k (digits at (b - 48))) e (step_first gs k at b (omega arith) (omega arith))
                (ap (λ (x : List ℕ). x ++ b ∷ []) g.0 ∙ append_assoc (opens gs) (75 ∷ []) (b ∷ []) ∙ sym (ap (λ (x : List ℕ). opens gs ++ 75 ∷ x) (decimal_one (b - 48) (omega arith) ∙ ap (λ n. n ∷ []) same)), g.1, g.2, g.3, g.4, omega arith, omega arith))
          ]
        ]
      ]

-- one item more in an open gate
next_44 : (rs : Rules) → next_mark rs 44 ≡ 44
next_44 none = refl
next_44 (more r rs) = refl

marked_push : (rs : Rules) (r : Rule) (m : ℕ) → marked (rs then more r none) m ≡ (marked rs m ++ next_mark rs m ∷ []) ++ text r
marked_push none r m = ap (λ (x : List ℕ). m ∷ x) (append-nil (text r))
marked_push (more q rs) r m = ap (λ (x : List ℕ). m ∷ (text q ++ x)) (marked_push rs r 44 ∙ ap (λ n. (marked rs 44 ++ n ∷ []) ++ text r) (next_44 rs)) ∙ ap (λ (x : List ℕ). m ∷ x) (sym (append_assoc (text q) (marked rs 44 ++ 44 ∷ []) (text r)) ∙ ap (λ (x : List ℕ). x ++ text r) (sym (append_assoc (text q) (marked rs 44) (44 ∷ []))))

next_push : (rs : Rules) (r : Rule) (m : ℕ) → next_mark (rs then more r none) m ≡ 44
next_push none r m = refl
next_push (more q rs) r m = refl

formed_push : (rs : Rules) (r : Rule) → FormedAll rs → Formed r → FormedAll (rs then more r none)
formed_push none r f g = (g, tt)
formed_push (more q rs) r f g = (f.0, formed_push rs r f.1 g)

depth_push : (rs : Rules) (r : Rule) → depth_of (rs then more r none) ≡ max (depth_of rs) (depth r)
depth_push none r = omega arith
depth_push (more q rs) r = omega (arith, depth_push rs r)

keys_push : (rs : Rules) (r : Rule) → keys_of (rs then more r none) ≡ keys_of rs + keys r
keys_push none r = omega arith
keys_push (more q rs) r = omega (arith, keys_push rs r)

module _ (at b : ℕ) (s : List ℕ) (st' : State) where
  outermost : (k : ℕ) (r : Rule) → step (state [] k (after r)) at b ≡ Err (Unexpected at)
  unfolding step follow
  outermost k r = refl

  after_in : (h : Head) (rs : Rules) (gs : List Open) (k : ℕ) (r : Rule) → Read (state (opened h rs ∷ gs) k (after r)) s → step (state (opened h rs ∷ gs) k (after r)) at b ≡ Ok st' → Read st' (s ++ b ∷ [])
  after_in h rs gs k r g e =
      let st : State = state (opened h rs ∷ gs) k (after r) in
      let all_of : Rules = rs then more r none in
      let goods = g.1 in
      let n = count_push rs r in
      let formed = formed_push rs r goods.1 g.4 in
      let deep = depth_push rs r in
      let few = keys_push rs r in
      let so : s ≡ opens gs ++ (spelling h ++ marked all_of 40) = g.0 ∙ append_assoc (opens gs) (spelling h ++ before rs) (text r) ∙ ap (λ (x : List ℕ). opens gs ++ x) (append_assoc (spelling h) (before rs) (text r) ∙ ap (λ (x : List ℕ). spelling h ++ x) (sym (marked_push rs r 40))) in
      elim (ℕ_discrete b 44) [
        | yes q ↦ elim (dec_lt (count rs) 7) [
          | yes l ↦ to at b s st' st (state (opened h all_of ∷ gs) k item) e (ap (step st at) q ∙ comma_ok gs k h rs r at l) (
            ap₂ (λ (x : List ℕ) y. x ++ y ∷ []) so (q ∙ sym (next_push rs r 40)) ∙ append_assoc (opens gs) (spelling h ++ marked all_of 40) (next_mark all_of 40 ∷ []) ∙ ap (λ (x : List ℕ). opens gs ++ x) (append_assoc (spelling h) (marked all_of 40) (next_mark all_of 40 ∷ [])),
            (goods.0, formed, omega arith, omega (arith, goods.3, g.5), goods.4),
            omega (arith, g.2),
            g.3,
          )
          | no l ↦ never (step st at b) _ st' (ap (step st at) q ∙ comma_full gs k h rs r at (omega arith)) e
        ]
        | no q ↦ elim (ℕ_discrete b 41) [
          | yes p ↦ closing (fits h (count all_of)) refl p
          | no p ↦ never (step st at b) _ st' (other gs k h rs r at b q p) e
        ]
      ]
    where
      closing : (t : Bool) → fits h (count (rs then more r none)) ≡ t → b ≡ 41 → Read st' (s ++ b ∷ [])
      closing false f p = never (step (state (opened h rs ∷ gs) k (after r)) at b) _ st' (ap (step (state (opened h rs ∷ gs) k (after r)) at) p ∙ bracket gs k h rs r at ∙ close_err h (rs then more r none) gs k at f) e
      closing true f p =
          let st : State = state (opened h rs ∷ gs) k (after r) in
          let all_of : Rules = rs then more r none in
          let goods = g.1 in
          let n = count_push rs r in
          let m : ℕ = threshold h (count all_of) in
          let w = wants h (count all_of) goods.0 (omega (arith, goods.2)) f in
          let so : s ≡ opens gs ++ (spelling h ++ marked all_of 40) = g.0 ∙ append_assoc (opens gs) (spelling h ++ before rs) (text r) ∙ ap (λ (x : List ℕ). opens gs ++ x) (append_assoc (spelling h) (before rs) (text r) ∙ ap (λ (x : List ℕ). spelling h ++ x) (sym (marked_push rs r 40))) in
          to at b s st' st (state gs k (after (gate m all_of))) e (ap (step st at) p ∙ bracket gs k h rs r at ∙ close_ok h all_of gs k at f) (
            ap₂ (λ (x : List ℕ) y. x ++ y ∷ []) so p ∙ append_assoc (opens gs) (spelling h ++ marked all_of 40) (41 ∷ []) ∙ ap (λ (x : List ℕ). opens gs ++ x) (append_assoc (spelling h) (marked all_of 40) (41 ∷ []) ∙ ap (λ (x : List ℕ). x ++ (marked all_of 40 ++ 41 ∷ [])) (sym (opens_so h (count all_of) goods.0 f))),
            goods.4,
            omega (arith, g.2, keys_push rs r),
            g.3,
            (w.0, w.1, w.2, omega (arith, goods.2), formed_push rs r goods.1 g.4),
            omega (arith, goods.3, g.5, depth_push rs r),
          )

  at_after : (gs : List Open) (k : ℕ) (r : Rule) → Read (state gs k (after r)) s → step (state gs k (after r)) at b ≡ Ok st' → Read st' (s ++ b ∷ [])
  at_after [] k r g e = never (step (state [] k (after r)) at b) _ st' (outermost k r) e
  at_after (opened h rs ∷ gs) k r g e = after_in h rs gs k r g e

  at_digits : (gs : List Open) (k f v : ℕ) → Read (state gs k (digits f v)) s → step (state gs k (digits f v)) at b ≡ Ok st' → Read st' (s ++ b ∷ [])
  at_digits gs k f v g e =
      let st : State = state gs k (digits f v) in
      let through : digit b ≡ false → Read st' (s ++ b ∷ []) = λ out. at_after gs k (key v) (g.0, g.1, g.2, g.3, (g.5, g.6), omega (arith, g.4)) (sym (step_past gs k f v at b out) ∙ e) in
      elim (dec_lt b 48) [
        | yes l ↦ through (outside_lo 48 57 b l)
        | no l ↦ elim (dec_lt 57 b) [
          | yes m ↦ through (outside_hi 48 57 b (omega arith) m)
          | no m ↦ elim (dec_lt 255 (v * 10 + (b - 48))) [
            | yes p ↦ never (step st at b) _ st' (step_large gs k f v at b (omega arith) (omega arith) p) e
            | no p ↦
                (let same : 48 + (b - 48) ≡ b = omega arith in
                to at b s st' st (state gs k (digits f (v * 10 + (b - 48)))) e (step_digit gs k f v at b (omega arith) (omega arith) (omega arith))
                (ap (λ (x : List ℕ). x ++ b ∷ []) g.0 ∙ append_assoc (opens gs) (75 ∷ decimal v) (b ∷ []) ∙ sym (ap (λ (x : List ℕ). opens gs ++ 75 ∷ x) (decimal_more v (b - 48) g.5 (omega arith) (omega arith) ∙ ap (λ n. decimal v ++ n ∷ []) same)), g.1, g.2, g.3, g.4, omega (arith, g.5), omega arith))
          ]
        ]
      ]

  advance : (st : State) → Read st s → step st at b ≡ Ok st' → Read st' (s ++ b ∷ [])
  advance (state gs k item) g e = at_item at b s st' gs k g e
  advance (state gs k second) g e = at_second at b s st' gs k g e
  advance (state gs k (word c cs h)) g e = at_word at b s st' gs k c cs h g e
  advance (state gs k number) g e = at_number at b s st' gs k g e
  advance (state gs k (digits f v)) g e = at_digits gs k f v g e
  advance (state gs k (after r)) g e = at_after gs k r g e

-- the rule of a whole text
abbrev Told : Rule → List ℕ → Type 0
Told r s = (text r ≡ s) × Formed r × (depth r ≤ 8) × (keys r ≤ 16)

wrong : {A : Type 0} (x : Refusal) (y : Rule) → ◌≡◌ {A = Result Rule Refusal} (Err x) (Ok y) → A
wrong x y p = let z : ◌≡◌ {A = ℕ} 0 1 = cc in absurd (omega arith)

finished : (st : State) (at : ℕ) (s : List ℕ) (r : Rule) → Read st s → finish st at ≡ Ok r → Told r s
unfolding finish
finished (state (g ∷ gs) k n) at s r h e = wrong (Unexpected at) r e
finished (state [] k item) at s r h e = wrong (Unexpected at) r e
finished (state [] k second) at s r h e = wrong (Unexpected at) r e
finished (state [] k (word c cs d)) at s r h e = wrong (Unexpected at) r e
finished (state [] k number) at s r h e = wrong (Unexpected at) r e
finished (state [] k (digits f v)) at s r h e =
    let q : key v ≡ r = cc in
    subst (λ x. Told x s) q (sym h.0, (h.5, h.6), omega arith, omega arith)
finished (state [] k (after x)) at s r h e =
    let q : x ≡ r = cc in
    subst (λ y. Told y s) q (sym h.0, h.4, omega (arith, h.5), omega (arith, h.2, h.3))

told : (bs : List ℕ) (st : State) (at : ℕ) (s : List ℕ) (r : Rule) → Read st s → run st at bs ≡ Ok r → Told r (s ++ bs)
told [] st at s r h e = subst (Told r) (sym (append-nil s)) (finished st at s r h (sym (run_end st at [] refl) ∙ e))
told (b ∷ bs) st at s r h e = by (step st at b) refl (told bs)
  where
    by : (x : Result State Refusal) → step st at b ≡ x → ((st : State) (at : ℕ) (s : List ℕ) (r : Rule) → Read st s → run st at bs ≡ Ok r → Told r (s ++ bs)) → Told r (s ++ b ∷ bs)
    by (Ok st') q ih = subst (Told r) (append_assoc s (b ∷ []) bs) (ih st' (at + 1) (s ++ b ∷ []) r (advance at b s st' st h q) (sym (run_ok st st' at b bs q) ∙ e))
    by (Err x) q ih = wrong x r (sym (run_err st x at b bs q) ∙ e)

pub scanned : (s : List ℕ) (r : Rule) → scan s ≡ Ok r → Legal r × (text r ≡ s)
unfolding from
scanned s r e = elim (ℕ_discrete (length s) 0) [
  | yes q ↦ wrong TextLength r (sym (scan_length s (inl q)) ∙ e)
  | no q ↦ elim (dec_lt 240 (length s)) [
    | yes l ↦ wrong TextLength r (sym (scan_length s (inr l)) ∙ e)
    | no l ↦
        (let w : Told r s = told s (state [] 0 item) 0 [] r (refl, tt, refl, omega arith) (sym (scan_from s (omega arith) (omega arith)) ∙ e) in
        (record { formed = w.1; deep = w.2; few = w.3; short = omega (arith, ap length w.0) }, w.0))
  ]
]
