-- The account of a legal rule's text is the rule.
use Rattle.std.proofs.Common.{◌≡◌, ℕ, suc, ◌+◌, ◌-◌, ◌*◌, ◌/◌, ◌%◌, ◌<◌, ◌≤◌, true, false, List, [], ◌∷◌, ◌++◌, length, Ok, Result, sym, refl, ap, ◌∙◌, subst, ap₂, append_assoc, arith, le-ltb, lt-ltb, eq-eqb, ne_eqb, le-leb}
use native.Mathlib.Decide.{dec_lt, ℕ_discrete}
use Rattle.std.proofs.lemmas.List.{append-nil}
use Rattle.refusals.specs.declared.Refusal.{Refusal}
use Rattle.rules.specs.declared.head.Head.{Head}
use Rattle.rules.specs.declared.head.Head.TheVariants.{All, Any, Of}
use Rattle.rules.specs.Grammar.{Rule, Rules, key, gate, none, more, count, text, marked, opening, decimal, keys, keys_of, depth, depth_of, Formed, FormedAll, Legal}
use Rattle.rules.specs.Faults.{item, second, word, number, digits, after, Open, opened, State, state, step, finish, run, close, digit, fits, threshold, scan, ◌then◌}
use Rattle.rules.specs.ReaderSteps.{Proper, from}
use Rattle.rules.proofs.Steps.{spelling, run_ok, run_end, run_cons, go, word_ok, item_a, second_l, second_n, item_of}
use Rattle.rules.proofs.Decimal.{step_first, step_digit, step_past, finish_past}
use Rattle.rules.proofs.Items.{key_ok, close_ok, then_push, count_push, comma_ok, bracket, scan_from}

-- the account comes from the one to the other
Reaches : State → ℕ → List ℕ → State → List ℕ → Type 0
Reaches st at bs st' rest = (at' : ℕ) × (run st at bs ≡ run st' at' rest)

via : (st st' : State) (at b : ℕ) (bs rest : List ℕ) (end : State) → step st at b ≡ Ok st' → Reaches st' (at + 1) bs end rest → Reaches st at (b ∷ bs) end rest
unfolding Reaches
via st st' at b bs rest end e r = (r.0, run_ok st st' at b bs e ∙ r.1)

arrived : (st : State) (at : ℕ) (bs : List ℕ) → Reaches st at bs st bs
unfolding Reaches
arrived st at bs = (at, refl)

chain : (st mid end : State) (at : ℕ) (bs cs rest : List ℕ) → Reaches st at bs mid cs → ((at' : ℕ) → Reaches mid at' cs end rest) → Reaches st at bs end rest
unfolding Reaches
chain st mid end at bs cs rest p q = ((q p.0).0, p.1 ∙ (q p.0).1)

-- no digit comes next
abbrev NoDigit : List ℕ → Type 0
NoDigit [] = Unit {0}
NoDigit (b ∷ bs) = digit b ≡ false

past : (gs : List Open) (k f v at : ℕ) (rest : List ℕ) → NoDigit rest → run (state gs k (digits f v)) at rest ≡ run (state gs k (after (key v))) at rest
past gs k f v at [] n = run_end (state gs k (digits f v)) at [] refl ∙ finish_past gs k f v at ∙ sym (run_end (state gs k (after (key v))) at [] refl)
past gs k f v at (b ∷ bs) n = run_cons (state gs k (digits f v)) at b bs ∙ ap (go (at + 1) bs) (step_past gs k f v at b n) ∙ sym (run_cons (state gs k (after (key v))) at b bs)

ended : (gs : List Open) (k f u v at : ℕ) (rest : List ℕ) → u ≡ v → NoDigit rest → Reaches (state gs k (digits f u)) at rest (state gs k (after (key v))) rest
unfolding Reaches
ended gs k f u v at rest e n = (at, ap (λ m. run (state gs k (digits f m)) at rest) e ∙ past gs k f v at rest n)

run_number : (gs : List Open) (k v at : ℕ) (rest : List ℕ) → 1 ≤ v → v ≤ 255 → NoDigit rest → Reaches (state gs k number) at (decimal v ++ rest) (state gs k (after (key v))) rest
unfolding decimal
run_number gs k v at rest lo hi n =
    let end : State = state gs k (after (key v)) in
    elim (dec_lt v 10) [
      | yes p ↦
          rw (lt-ltb v 10 p)
          (via (state gs k number) (state gs k (digits at (48 + v - 48))) at (48 + v) rest rest end (step_first gs k at (48 + v) (omega arith) (omega arith))
          (ended gs k at (48 + v - 48) v (at + 1) rest (omega arith) n))
      | no p ↦ elim (dec_lt v 100) [
        | yes q ↦
            (let a : ℕ = 48 + v / 10 in
            let b : ℕ = 48 + v % 10 in
            rw (le-ltb v 10 (omega arith), lt-ltb v 100 q)
            (via (state gs k number) (state gs k (digits at (a - 48))) at a (b ∷ rest) rest end (step_first gs k at a (omega arith) (omega arith))
            (via (state gs k (digits at (a - 48))) (state gs k (digits at ((a - 48) * 10 + (b - 48)))) (at + 1) b rest rest end (step_digit gs k at (a - 48) (at + 1) b (omega arith) (omega arith) (omega arith))
            (ended gs k at ((a - 48) * 10 + (b - 48)) v (at + 1 + 1) rest (omega arith) n))))
        | no q ↦
            (let a : ℕ = 48 + v / 100 in
            let b : ℕ = 48 + v / 10 % 10 in
            let d : ℕ = 48 + v % 10 in
            let ab : ℕ = (a - 48) * 10 + (b - 48) in
            rw (le-ltb v 10 (omega arith), le-ltb v 100 (omega arith))
            (via (state gs k number) (state gs k (digits at (a - 48))) at a (b ∷ d ∷ rest) rest end (step_first gs k at a (omega arith) (omega arith))
            (via (state gs k (digits at (a - 48))) (state gs k (digits at ab)) (at + 1) b (d ∷ rest) rest end (step_digit gs k at (a - 48) (at + 1) b (omega arith) (omega arith) (omega arith))
            (via (state gs k (digits at ab)) (state gs k (digits at (ab * 10 + (d - 48)))) (at + 1 + 1) d rest rest end (step_digit gs k at ab (at + 1 + 1) d (omega arith) (omega arith) (omega arith))
            (ended gs k at (ab * 10 + (d - 48)) v (at + 1 + 1 + 1) rest (omega arith) n)))))
      ]
    ]

-- a gate's head up to its bracket
run_head : (h : Head) (gs : List Open) (k at : ℕ) (bs : List ℕ) → Proper h → length gs < 8 → Reaches (state gs k item) at (spelling h ++ bs) (state gs k (word 40 [] h)) bs
run_head All gs k at bs p l =
    via (state gs k item) (state gs k second) at 97 (108 ∷ 108 ∷ bs) bs (state gs k (word 40 [] All)) (item_a gs k at l)
    (via (state gs k second) (state gs k (word 108 (40 ∷ []) All)) (at + 1) 108 (108 ∷ bs) bs (state gs k (word 40 [] All)) (second_l gs k (at + 1))
    (via (state gs k (word 108 (40 ∷ []) All)) (state gs k (word 40 [] All)) (at + 1 + 1) 108 bs bs (state gs k (word 40 [] All)) (word_ok gs k 108 (40 ∷ []) All (at + 1 + 1))
    (arrived (state gs k (word 40 [] All)) (at + 1 + 1 + 1) bs)))
run_head Any gs k at bs p l =
    via (state gs k item) (state gs k second) at 97 (110 ∷ 121 ∷ bs) bs (state gs k (word 40 [] Any)) (item_a gs k at l)
    (via (state gs k second) (state gs k (word 121 (40 ∷ []) Any)) (at + 1) 110 (121 ∷ bs) bs (state gs k (word 40 [] Any)) (second_n gs k (at + 1))
    (via (state gs k (word 121 (40 ∷ []) Any)) (state gs k (word 40 [] Any)) (at + 1 + 1) 121 bs bs (state gs k (word 40 [] Any)) (word_ok gs k 121 (40 ∷ []) Any (at + 1 + 1))
    (arrived (state gs k (word 40 [] Any)) (at + 1 + 1 + 1) bs)))
run_head (Of n) gs k at bs p l =
    let same : 48 + n - 48 ≡ n = omega arith in
    via (state gs k item) (state gs k (word 111 (102 ∷ 40 ∷ []) (Of n))) at (48 + n) (111 ∷ 102 ∷ bs) bs (state gs k (word 40 [] (Of n))) (item_of gs k at (48 + n) l (omega arith) (omega arith) ∙ ap (λ m. Ok (state gs k (word 111 (102 ∷ 40 ∷ []) (Of m)))) same)
    (via (state gs k (word 111 (102 ∷ 40 ∷ []) (Of n))) (state gs k (word 102 (40 ∷ []) (Of n))) (at + 1) 111 (102 ∷ bs) bs (state gs k (word 40 [] (Of n))) (word_ok gs k 111 (102 ∷ 40 ∷ []) (Of n) (at + 1))
    (via (state gs k (word 102 (40 ∷ []) (Of n))) (state gs k (word 40 [] (Of n))) (at + 1 + 1) 102 bs bs (state gs k (word 40 [] (Of n))) (word_ok gs k 102 (40 ∷ []) (Of n) (at + 1 + 1))
    (arrived (state gs k (word 40 [] (Of n))) (at + 1 + 1 + 1) bs)))

-- the head that a gate is written with
headed : (k n : ℕ) → 1 ≤ k → k ≤ n → 2 ≤ n → n ≤ 8 → (h : Head) × (opening k n ≡ spelling h) × (threshold h n ≡ k) × (fits h n ≡ true) × Proper h
unfolding opening
headed k n lo hi two eight = elim (ℕ_discrete k 1) [
  | yes e ↦ (Any, rw (eq-eqb k 1 e), sym e, le-leb 2 n two, tt)
  | no p ↦ elim (ℕ_discrete k n) [
    | yes e ↦ (All, rw (ne_eqb k 1 p, eq-eqb k n e), sym e, le-leb 2 n two, tt)
    | no q ↦ (Of k, rw (ne_eqb k 1 p, ne_eqb k n q), refl, lt-ltb k n (omega arith), (omega arith, omega arith))
  ]
]

marked_no_digit : (rs : Rules) (rest : List ℕ) → NoDigit (marked rs 44 ++ 41 ∷ rest)
marked_no_digit none rest = refl
marked_no_digit (more r rs) rest = refl

-- a gate closes
closes : (h : Head) (rs : Rules) (gs : List Open) (k at : ℕ) (rest : List ℕ) (st : State) → step st at 41 ≡ close h rs gs k at → fits h (count rs) ≡ true → Reaches st at (41 ∷ rest) (state gs k (after (gate (threshold h (count rs)) rs))) rest
unfolding Reaches
closes h rs gs k at rest st e f = (at + 1, run_ok st (state gs k (after (gate (threshold h (count rs)) rs))) at 41 rest (e ∙ close_ok h rs gs k at f))

mutual
  runs : (r : Rule) (gs : List Open) (k at : ℕ) (rest : List ℕ) → Formed r → length gs + depth r ≤ 8 → k + keys r ≤ 16 → NoDigit rest → Reaches (state gs k item) at (text r ++ rest) (state gs (k + keys r) (after r)) rest
  runs (key v) gs k at rest f d l n =
      via (state gs k item) (state gs (k + 1) number) at 75 (decimal v ++ rest) rest (state gs (k + 1) (after (key v))) (key_ok gs k at (omega arith) (omega arith))
      (run_number gs (k + 1) v (at + 1) rest f.0 f.1 n)
  runs (gate m rs) gs k at rest f d l n =
      let hd = headed m (count rs) f.0 f.1 f.2 f.3 in
      let end : State = state gs (k + keys_of rs) (after (gate m rs)) in
      let inner : List ℕ = marked rs 40 ++ 41 ∷ rest in
      let spelt : text (gate m rs) ++ rest ≡ spelling hd.0 ++ inner = append_assoc (opening m (count rs)) (marked rs 40 ++ 41 ∷ []) rest ∙ ap₂ ◌++◌ hd.1 (append_assoc (marked rs 40) (41 ∷ []) rest) in
      let same : state gs (k + keys_of rs) (after (gate (threshold hd.0 (count rs)) rs)) ≡ end = ap (λ t. state gs (k + keys_of rs) (after (gate t rs))) hd.2 in
      subst (λ bs. Reaches (state gs k item) at bs end rest) (sym spelt)
      (subst (λ st. Reaches (state gs k item) at (spelling hd.0 ++ inner) st rest) same
      (chain (state gs k item) (state gs k (word 40 [] hd.0)) (state gs (k + keys_of rs) (after (gate (threshold hd.0 (count rs)) rs))) at (spelling hd.0 ++ inner) inner rest
      (run_head hd.0 gs k at inner hd.4 (omega arith))
      (λ at'. runs_first rs gs hd.0 k at' rest f.4 (omega arith) (omega arith) (omega arith) f.3 hd.3)))

  runs_first : (rs : Rules) (gs : List Open) (h : Head) (k at : ℕ) (rest : List ℕ) → FormedAll rs → suc (length gs) + depth_of rs ≤ 8 → k + keys_of rs ≤ 16 → 0 < count rs → count rs ≤ 8 → fits h (count rs) ≡ true → Reaches (state gs k (word 40 [] h)) at (marked rs 40 ++ 41 ∷ rest) (state gs (k + keys_of rs) (after (gate (threshold h (count rs)) rs))) rest
  runs_first none gs h k at rest f d l p c e = absurd (omega arith)
  runs_first (more r rs) gs h k at rest f d l p c e =
      let others : List ℕ = marked rs 44 ++ 41 ∷ rest in
      let end : State = state gs (k + (keys r + keys_of rs)) (after (gate (threshold h (suc (count rs))) (more r rs))) in
      let sum : (k + keys r) + keys_of rs ≡ k + (keys r + keys_of rs) = omega arith in
      via (state gs k (word 40 [] h)) (state (opened h none ∷ gs) k item) at 40 ((text r ++ marked rs 44) ++ 41 ∷ rest) rest end (word_ok gs k 40 [] h at)
      (subst (λ bs. Reaches (state (opened h none ∷ gs) k item) (at + 1) bs end rest) (sym (append_assoc (text r) (marked rs 44) (41 ∷ rest)))
      (chain (state (opened h none ∷ gs) k item) (state (opened h none ∷ gs) (k + keys r) (after r)) end (at + 1) (text r ++ others) others rest
      (runs r (opened h none ∷ gs) k (at + 1) others f.0 (omega arith) (omega arith) (marked_no_digit rs rest))
      (λ at'. subst (λ m. Reaches (state (opened h none ∷ gs) (k + keys r) (after r)) at' others (state gs m (after (gate (threshold h (suc (count rs))) (more r rs)))) rest) sum
      (runs_others rs gs h none r (k + keys r) at' rest f.1 (omega arith) (omega arith) (omega arith) e))))

  runs_others : (rs : Rules) (gs : List Open) (h : Head) (sofar : Rules) (r0 : Rule) (k at : ℕ) (rest : List ℕ) → FormedAll rs → suc (length gs) + depth_of rs ≤ 8 → k + keys_of rs ≤ 16 → count sofar + count rs ≤ 7 → fits h (count (sofar then more r0 rs)) ≡ true → Reaches (state (opened h sofar ∷ gs) k (after r0)) at (marked rs 44 ++ 41 ∷ rest) (state gs (k + keys_of rs) (after (gate (threshold h (count (sofar then more r0 rs))) (sofar then more r0 rs)))) rest
  runs_others none gs h sofar r0 k at rest f d l c e =
      let sum : k ≡ k + 0 = omega arith in
      subst (λ m. Reaches (state (opened h sofar ∷ gs) k (after r0)) at (41 ∷ rest) (state gs m (after (gate (threshold h (count (sofar then more r0 none))) (sofar then more r0 none)))) rest) sum
      (closes h (sofar then more r0 none) gs k at rest (state (opened h sofar ∷ gs) k (after r0)) (bracket gs k h sofar r0 at) e)
  runs_others (more r rs) gs h sofar r0 k at rest f d l c e =
      let so : Rules = sofar then more r0 none in
      let others : List ℕ = marked rs 44 ++ 41 ∷ rest in
      let whole : Rules = sofar then more r0 (more r rs) in
      let end : State = state gs (k + (keys r + keys_of rs)) (after (gate (threshold h (count whole)) whole)) in
      let sum : (k + keys r) + keys_of rs ≡ k + (keys r + keys_of rs) = omega arith in
      let same : so then more r rs ≡ whole = then_push sofar r0 (more r rs) in
      let pushed : count so ≡ suc (count sofar) = count_push sofar r0 in
      via (state (opened h sofar ∷ gs) k (after r0)) (state (opened h so ∷ gs) k item) at 44 ((text r ++ marked rs 44) ++ 41 ∷ rest) rest end (comma_ok gs k h sofar r0 at (omega arith))
      (subst (λ bs. Reaches (state (opened h so ∷ gs) k item) (at + 1) bs end rest) (sym (append_assoc (text r) (marked rs 44) (41 ∷ rest)))
      (chain (state (opened h so ∷ gs) k item) (state (opened h so ∷ gs) (k + keys r) (after r)) end (at + 1) (text r ++ others) others rest
      (runs r (opened h so ∷ gs) k (at + 1) others f.0 (omega arith) (omega arith) (marked_no_digit rs rest))
      (λ at'. subst (λ (w : ℕ × Rules). Reaches (state (opened h so ∷ gs) (k + keys r) (after r)) at' others (state gs w.0 (after (gate (threshold h (count w.1)) w.1))) rest) (λ i. (sum i, same i))
      (runs_others rs gs h so r (k + keys r) at' rest f.1 (omega arith) (omega arith) (omega arith) (ap (λ w. fits h (count w)) same ∙ e)))))

finish_whole : (k : ℕ) (r : Rule) (at : ℕ) → finish (state [] k (after r)) at ≡ Ok r
unfolding finish
finish_whole k r at = refl

text_some : (r : Rule) → Formed r → 0 < length (text r)
unfolding opening
text_some (key v) f = omega arith
text_some (gate k rs) f = elim (ℕ_discrete k 1) [
  | yes e ↦ rw (eq-eqb k 1 e) (omega arith)
  | no p ↦ elim (ℕ_discrete k (count rs)) [
    | yes e ↦ rw (ne_eqb k 1 p, eq-eqb k (count rs) e) (omega arith)
    | no q ↦ rw (ne_eqb k 1 p, ne_eqb k (count rs) q) (omega arith)
  ]
]

-- every legal rule's text is read as that rule
pub scan_text : (r : Rule) → Legal r → scan (text r) ≡ Ok r
unfolding from Reaches
scan_text r g =
    let w : Reaches (state [] 0 item) 0 (text r ++ []) (state [] (0 + keys r) (after r)) [] = runs r [] 0 0 [] g.formed (omega (arith, g.deep)) (omega (arith, g.few)) tt in
    scan_from (text r) (text_some r g.formed) g.short ∙ ap (run (state [] 0 item) 0) (sym (append-nil (text r))) ∙ w.1 ∙ run_end (state [] (0 + keys r) (after r)) w.0 [] refl ∙ finish_whole (0 + keys r) r w.0

-- so each legal rule has one text, and each text one legal rule
pub text_injective : (r q : Rule) → Legal r → Legal q → text r ≡ text q → r ≡ q
text_injective r q g h e = let z : ◌≡◌ {A = Result Rule Refusal} (Ok r) (Ok q) = sym (scan_text r g) ∙ ap scan e ∙ scan_text q h in cc
