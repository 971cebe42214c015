-- Items, gates and whole texts.
use Rattle.std.proofs.Common.{◌≡◌, ℕ, suc, ◌+◌, ◌-◌, ◌<◌, ◌≤◌, Bool, true, false, ◌||◌, eqb, ◌⊎◌, List, [], ◌∷◌, ◌++◌, length, get_or, drop, set, Ok, Err, Result, Some, slice_get, sym, refl, ap, ◌∙◌, ap₂, inl, inr, append_assoc, arith, lit<, ltb-true, le-ltb, lt-ltb, eq-eqb, ne_eqb, le-leb, leb-true}
use native.Mathlib.Decide.{ℕ_discrete}
use borrow.Author.Tests.{lt-leb}
use Rattle.std.proofs.lemmas.Option.{get_or_from_slice_get}
use Rattle.std.proofs.lemmas.List.{drop_more, append-nil, length-append, length-set, set_at}
use Rattle.refusals.specs.declared.Refusal.{Refusal}
use Rattle.refusals.specs.declared.Refusal.TheVariants.{TextLength, Unexpected, TooDeep, TooManyKeys, TooManyItems, TooFewItems}
use Rattle.rules.specs.declared.entry.Entries.{Entries}
use Rattle.rules.specs.declared.head.Head.{Head}
use Rattle.rules.specs.declared.head.Head.TheVariants.{All, Any, Of}
use Rattle.rules.specs.Grammar.{Rule, Rules, key, gate, none, more, count, text, marked, opening}
use Rattle.rules.specs.Tables.{size, rows, rows_of, starts, Row, leaf, node}
use Rattle.rules.specs.Views.{listing}
use Rattle.rules.specs.Faults.{item, number, after, Open, opened, State, state, step, finish, run, follow, close, digit, fits, threshold, scan, ◌then◌}
use Rattle.rules.specs.ReaderSteps.{from, onto, Numbered, Unnumbered, Headed, Begins, Proper, Item, Refused, Items, ItemsRefused}
use Rattle.rules.proofs.Rows.{gate_length}
use Rattle.rules.proofs.Steps.{moves, stops, fails, unfinished, run_cons, go, inside, stands, spelling}

or_true : (b : Bool) → (b || true) ≡ true
or_true true = refl
or_true false = refl

pub key_deep : (gs : List Open) (k at : ℕ) → 8 ≤ length gs → step (state gs k item) at 75 ≡ Err (TooDeep at)
unfolding step
key_deep gs k at h = rw (le-leb 8 (length gs) h)

pub key_many : (gs : List Open) (k at : ℕ) → length gs < 8 → 16 ≤ k → step (state gs k item) at 75 ≡ Err (TooManyKeys at)
unfolding step
key_many gs k at l h = rw (lt-leb 8 (length gs) l, le-leb 16 k h)

pub key_ok : (gs : List Open) (k at : ℕ) → length gs < 8 → k < 16 → step (state gs k item) at 75 ≡ Ok (state gs (k + 1) number)
unfolding step
key_ok gs k at h l = rw (lt-leb 8 (length gs) h, lt-leb 16 k l)

pub leaf_deep : (s : List ℕ) (at depth k : ℕ) → slice_get s at ≡ Some 75 → depth ≡ 0 → Refused s at depth k (TooDeep at)
leaf_deep s at depth k e z gs l = stops s (state gs k item) at e (key_deep gs k at (omega arith))

pub leaf_many : (s : List ℕ) (at depth k : ℕ) → slice_get s at ≡ Some 75 → 0 < depth → k ≡ 16 → Refused s at depth k (TooManyKeys at)
leaf_many s at depth k e d z gs l = stops s (state gs k item) at e (key_many gs k at (omega arith) (omega arith))

pub leaf_number : (s : List ℕ) (at depth k : ℕ) {x : Refusal} → slice_get s at ≡ Some 75 → 0 < depth → k < 16 → Unnumbered s (at + 1) x → Refused s at depth k x
leaf_number s at depth k e d l u gs g = moves s (state gs k item) at e (key_ok gs k at (omega arith) l) ∙ u gs (k + 1)

pub leaf_read : (s : List ℕ) (at depth : ℕ) (t t' : Entries) (v end : ℕ) → slice_get s at ≡ Some 75 → 0 < depth → t.keys < 16 → Numbered s (at + 1) v end → t'.keys ≡ t.keys + 1 → listing t' ≡ listing t ++ leaf v at ∷ [] → Item s at depth t t' end
leaf_read s at depth t t' v end e d l n ks h =
    let len : length (listing t') ≡ length (listing t) + 1 = ap length h ∙ length-append (listing t) (leaf v at ∷ []) in record {
      rule = key v;
      few = omega arith;
      grown = omega arith;
      sized = len;
      counted = ks;
      ends = omega (arith, n.ends);
      listed = h;
      account = λ gs g. moves s (state gs t.keys item) at e (key_ok gs t.keys at (omega arith) l) ∙ n.account gs (t.keys + 1) ∙ ap (λ k. from s (state gs k (after (key v))) end) (sym ks);
    }

-- no item begins so
pub step_unexpected : (gs : List Open) (k at b : ℕ) → (b ≡ 75 → ⊥) → (b ≡ 97 → ⊥) → digit b ≡ false → step (state gs k item) at b ≡ Err (Unexpected at)
unfolding step
step_unexpected gs k at b n m o = rw (ne_eqb b 75 n, ne_eqb b 97 m, o)

pub item_unexpected : (s : List ℕ) (at depth k : ℕ) → (get_or s at 0 ≡ 75 → ⊥) → (get_or s at 0 ≡ 97 → ⊥) → digit (get_or s at 0) ≡ false → Refused s at depth k (Unexpected at)
item_unexpected s at depth k n m o gs g = fails s (state gs k item) at (step_unexpected gs k at (get_or s at 0) n m o) (unfinished gs k item at tt)

pub deep_a : (gs : List Open) (k at : ℕ) → 8 ≤ length gs → step (state gs k item) at 97 ≡ Err (TooDeep at)
unfolding step
deep_a gs k at h = rw (le-leb 8 (length gs) h)

pub deep_digit : (gs : List Open) (k at b : ℕ) → 48 ≤ b → b ≤ 57 → 8 ≤ length gs → step (state gs k item) at b ≡ Err (TooDeep at)
unfolding step
deep_digit gs k at b lo hi h = rw (ne_eqb b 75 (λ e. omega arith), ne_eqb b 97 (λ e. omega arith), le-leb 48 b lo, le-leb b 57 hi, le-leb 8 (length gs) h)

pub gate_deep : (s : List ℕ) (at depth k : ℕ) → Begins (get_or s at 0) → depth ≡ 0 → Refused s at depth k (TooDeep at)
gate_deep s at depth k bg z gs g = elim (ℕ_discrete (get_or s at 0) 97) [
  | yes e ↦ stops s (state gs k item) at (stands s at 97 e (lit< tt)) (deep_a gs k at (omega arith))
  | no n ↦ (let q = bg n in stops s (state gs k item) at (stands s at (get_or s at 0) refl (omega (arith, q))) (deep_digit gs k at (get_or s at 0) q.0 q.1 (omega arith)))
]

-- a byte in the text
pub from_step : (s : List ℕ) (st : State) (at : ℕ) → at < length s → from s st at ≡ onto s (step st at (get_or s at 0)) (at + 1)
unfolding from
from_step s st at p = ap (run st at) (drop_more s at 0 p) ∙ run_cons st at (get_or s at 0) (drop (at + 1) s) ∙ by (step st at (get_or s at 0))
  where
    by : (r : Result State Refusal) → go (at + 1) (drop (at + 1) s) r ≡ onto s r (at + 1)
    by (Ok st') = refl
    by (Err x) = refl

-- the end of a gate
pub close_ok : (h : Head) (rs : Rules) (gs : List Open) (k at : ℕ) → fits h (count rs) ≡ true → close h rs gs k at ≡ Ok (state gs k (after (gate (threshold h (count rs)) rs)))
unfolding close
close_ok h rs gs k at e = rw e

pub close_err : (h : Head) (rs : Rules) (gs : List Open) (k at : ℕ) → fits h (count rs) ≡ false → close h rs gs k at ≡ Err (TooFewItems at)
unfolding close
close_err h rs gs k at e = rw e

-- what closes is well formed
pub wants : (h : Head) (n : ℕ) → Proper h → n ≤ 8 → fits h n ≡ true → (1 ≤ threshold h n) × (threshold h n ≤ n) × (2 ≤ n)
wants All n p m e = let q = leb-true 2 n e in (omega arith, omega arith, omega arith)
wants Any n p m e = let q = leb-true 2 n e in (omega arith, omega arith, omega arith)
wants (Of k) n p m e = let q = ltb-true k n e in (omega arith, omega arith, omega arith)

pub opens : (h : Head) (n : ℕ) → Proper h → fits h n ≡ true → opening (threshold h n) n ≡ spelling h
unfolding opening
opens All n p e = let q = leb-true 2 n e in rw (ne_eqb n 1 (λ z. omega arith), eq-eqb n n refl)
opens Any n p e = refl
opens (Of k) n p e = let q = ltb-true k n e in rw (ne_eqb k 1 (λ z. omega arith), ne_eqb k n (λ z. omega arith))

module _ (s : List ℕ) (at depth : ℕ) (t t1 t2 : Entries) (c1 : List ℕ) (h : Head) (inner last : ℕ)
    (d : 0 < depth) (hd : Headed s at h inner) (few : length c1 ≤ 8) (same : t1.keys ≡ t.keys)
    (its : Items s inner (depth - 1) [] c1 t1 t2 last) where
  to_close : (gs : List Open) → length gs + depth ≡ 8 → from s (state gs t.keys item) at ≡ onto s (close h (more its.one its.others) gs t2.keys last) (last + 1)
  to_close gs g = hd.account gs t.keys (omega arith) ∙ ap (λ k. from s (state (opened h none ∷ gs) k item) inner) (sym same) ∙ its.account gs h none refl (omega arith)

  number_of : count (more its.one its.others) ≡ length c1
  number_of = omega (arith, its.many)

  pub gate_unclosed : fits h (length c1) ≡ false → Refused s at depth t.keys (TooFewItems last)
  gate_unclosed e gs g = to_close gs g ∙ ap (λ r. onto s r (last + 1)) (close_err h (more its.one its.others) gs t2.keys last (ap (fits h) number_of ∙ e))

  pub gate_closed : (t3 : Entries) (blank : Row) → fits h (length c1) ≡ true → t3.keys ≡ t2.keys → listing t1 ≡ listing t ++ blank ∷ [] → listing t3 ≡ set (listing t2) (length (listing t)) (node (threshold h (length c1)) c1) → Item s at depth t t3 (last + 1)
  gate_closed t3 blank e keys3 pushed put =
      let len : length (listing t1) ≡ length (listing t) + 1 = ap length pushed ∙ length-append (listing t) (blank ∷ []) in
      let len3 : length (listing t3) ≡ length (listing t2) = ap length put ∙ length-set (listing t2) (length (listing t)) (node (threshold h (length c1)) c1) in
      let rs : Rules = more its.one its.others in
      let n = number_of in
      let f : fits h (count rs) ≡ true = ap (fits h) n ∙ e in
      let w = wants h (count rs) hd.proper (omega (arith, few, n)) f in
      let k : ℕ = threshold h (count rs) in
      let row : node (threshold h (length c1)) c1 ≡ node k (starts rs (length (listing t) + 1)) = ap₂ node (ap (threshold h) (sym n)) (its.holds ∙ ap (starts rs) len) in
      let grows : listing t2 ≡ listing t ++ blank ∷ rows_of rs (length (listing t) + 1) (at + 4) = its.listed ∙ ap₂ ◌++◌ pushed (ap₂ (rows_of rs) len hd.ends) ∙ append_assoc (listing t) (blank ∷ []) (rows_of rs (length (listing t) + 1) (at + 4)) in
      record {
        rule = gate k rs;
        few = omega (arith, its.few);
        grown = omega (arith, its.grown, w);
        sized = omega (arith, its.sized);
        counted = omega (arith, its.counted);
        ends = omega (arith, its.ends, hd.ends, gate_length k rs);
        listed = put ∙ ap₂ (λ (xs : List Row) (y : Row). set xs (length (listing t)) y) grows row ∙ set_at (listing t) blank (rows_of rs (length (listing t) + 1) (at + 4)) (node k (starts rs (length (listing t) + 1))) (length (listing t)) refl;
        account = λ gs g. to_close gs g ∙ ap (λ r. onto s r (last + 1)) (close_ok h rs gs t2.keys last f) ∙ ap (λ m. from s (state gs m (after (gate k rs))) (last + 1)) (sym keys3);
      }

-- items after items
pub then_push : (sofar : Rules) (r : Rule) (rs : Rules) → (sofar then more r none) then rs ≡ sofar then more r rs
then_push none r rs = refl
then_push (more q sofar) r rs = ap (more q) (then_push sofar r rs)

pub count_push : (sofar : Rules) (r : Rule) → count (sofar then more r none) ≡ suc (count sofar)
count_push none r = refl
count_push (more q sofar) r = ap suc (count_push sofar r)

pub comma_ok : (gs : List Open) (k : ℕ) (h : Head) (sofar : Rules) (r : Rule) (at : ℕ) → count sofar < 7 → step (state (opened h sofar ∷ gs) k (after r)) at 44 ≡ Ok (state (opened h (sofar then more r none) ∷ gs) k item)
unfolding step follow
comma_ok gs k h sofar r at l = rw (lt-leb 7 (count sofar) l)

pub comma_full : (gs : List Open) (k : ℕ) (h : Head) (sofar : Rules) (r : Rule) (at : ℕ) → 7 ≤ count sofar → step (state (opened h sofar ∷ gs) k (after r)) at 44 ≡ Err (TooManyItems at)
unfolding step follow
comma_full gs k h sofar r at l = rw (le-leb 7 (count sofar) l)

pub bracket : (gs : List Open) (k : ℕ) (h : Head) (sofar : Rules) (r : Rule) (at : ℕ) → step (state (opened h sofar ∷ gs) k (after r)) at 41 ≡ close h (sofar then more r none) gs k at
unfolding step follow
bracket gs k h sofar r at = refl

pub other : (gs : List Open) (k : ℕ) (h : Head) (sofar : Rules) (r : Rule) (at b : ℕ) → (b ≡ 44 → ⊥) → (b ≡ 41 → ⊥) → step (state (opened h sofar ∷ gs) k (after r)) at b ≡ Err (Unexpected at)
unfolding step follow
other gs k h sofar r at b n m = rw (ne_eqb b 44 n, ne_eqb b 41 m)

still_open : (gs : List Open) (k : ℕ) (g : Open) (r : Rule) (at : ℕ) → finish (state (g ∷ gs) k (after r)) at ≡ Err (Unexpected at)
unfolding finish
still_open gs k g r at = refl

-- what comes of a gate's items from here on, comes of them from their start on
pub record Going (s : List ℕ) (start depth : ℕ) (t0 : Entries) (at : ℕ) (c : List ℕ) (t : Entries) : Type 0 where
  pub read : (c' : List ℕ) (t' : Entries) (end : ℕ) → Items s at depth c c' t t' end → Items s start depth [] c' t0 t' end
  pub refused : (x : Refusal) → ItemsRefused s at depth (length c) t.keys x → ItemsRefused s start depth 0 t0.keys x

pub items_refused : (s : List ℕ) (at depth n k : ℕ) (x : Refusal) → Refused s at depth k x → ItemsRefused s at depth n k x
items_refused s at depth n k x r gs h sofar e g = r (opened h sofar ∷ gs) g

module _ (s : List ℕ) (at depth : ℕ) (c c1 : List ℕ) (t t1 : Entries) (next : ℕ) (it : Item s at depth t t1 next)
    (held : c1 ≡ c ++ length (listing t) ∷ []) where
  longer : length c1 ≡ length c + 1
  longer = ap length held ∙ length-append c (length (listing t) ∷ [])

  pub items_full : slice_get s next ≡ Some 44 → length c1 ≡ 8 → ItemsRefused s at depth (length c) t.keys (TooManyItems next)
  items_full e f gs h sofar n g = it.account (opened h sofar ∷ gs) g ∙ stops s (state (opened h sofar ∷ gs) t1.keys (after it.rule)) next e (comma_full gs t1.keys h sofar it.rule next (omega (arith, longer)))

  pub items_other : (get_or s next 0 ≡ 44 → ⊥) → (get_or s next 0 ≡ 41 → ⊥) → ItemsRefused s at depth (length c) t.keys (Unexpected next)
  items_other n m gs h sofar e g = it.account (opened h sofar ∷ gs) g ∙ fails s (state (opened h sofar ∷ gs) t1.keys (after it.rule)) next (other gs t1.keys h sofar it.rule next (get_or s next 0) n m) (still_open gs t1.keys (opened h sofar) it.rule next)

  pub items_last : slice_get s next ≡ Some 41 → Items s at depth c c1 t t1 next
  items_last e = record {
    one = it.rule;
    others = none;
    few = it.few;
    grown = it.grown;
    sized = omega (arith, it.sized);
    counted = omega (arith, it.counted);
    many = longer;
    inside = inside s next 41 e;
    ends = omega (arith, it.ends, length-append (text it.rule) []);
    holds = held;
    listed = it.listed ∙ ap (λ (xs : List Row). listing t ++ xs) (sym (append-nil (rows it.rule (length (listing t)) at)));
    account = λ gs h sofar n g. it.account (opened h sofar ∷ gs) g ∙ from_step s (state (opened h sofar ∷ gs) t1.keys (after it.rule)) next (inside s next 41 e) ∙ ap (λ b. onto s (step (state (opened h sofar ∷ gs) t1.keys (after it.rule)) next b) (next + 1)) (get_or_from_slice_get s next 41 0 e) ∙ ap (λ r. onto s r (next + 1)) (bracket gs t1.keys h sofar it.rule next);
  }

  module _ (e : slice_get s next ≡ Some 44) (less : length c1 < 8) where
    to_next : (gs : List Open) (h : Head) (sofar : Rules) → count sofar ≡ length c → suc (length gs) + depth ≡ 8 → from s (state (opened h sofar ∷ gs) t.keys item) at ≡ from s (state (opened h (sofar then more it.rule none) ∷ gs) t1.keys item) (next + 1)
    to_next gs h sofar n g = it.account (opened h sofar ∷ gs) g ∙ moves s (state (opened h sofar ∷ gs) t1.keys (after it.rule)) next e (comma_ok gs t1.keys h sofar it.rule next (omega (arith, longer)))

    counts : (sofar : Rules) → count sofar ≡ length c → count (sofar then more it.rule none) ≡ length c1
    counts sofar n = omega (arith, longer, count_push sofar it.rule)

    more_refused : {x : Refusal} → ItemsRefused s (next + 1) depth (length c1) t1.keys x → ItemsRefused s at depth (length c) t.keys x
    more_refused r gs h sofar n g = to_next gs h sofar n g ∙ r gs h (sofar then more it.rule none) (counts sofar n) g

    more_read : (c2 : List ℕ) (t2 : Entries) (end : ℕ) → Items s (next + 1) depth c1 c2 t1 t2 end → Items s at depth c c2 t t2 end
    more_read c2 t2 end j =
        let rs : Rules = more j.one j.others in
        record {
          one = it.rule;
          others = rs;
          few = j.few;
          grown = omega (arith, it.grown, j.grown);
          sized = omega (arith, it.sized, j.sized);
          counted = omega (arith, it.counted, j.counted);
          many = omega (arith, longer, j.many);
          inside = j.inside;
          ends = omega (arith, it.ends, j.ends, length-append (text it.rule) (marked rs 44));
          holds = j.holds ∙ ap₂ ◌++◌ held (ap (starts rs) it.sized) ∙ append_assoc (c) (length (listing t) ∷ []) (starts rs (length (listing t) + size it.rule));
          listed = j.listed ∙ ap₂ ◌++◌ it.listed (ap₂ (rows_of rs) it.sized (ap (λ n. n + 1) it.ends)) ∙ append_assoc (listing t) (rows it.rule (length (listing t)) at) (rows_of rs (length (listing t) + size it.rule) (at + length (text it.rule) + 1));
          account = λ gs h sofar n g. to_next gs h sofar n g ∙ j.account gs h (sofar then more it.rule none) (counts sofar n) g ∙ ap (λ (xs : Rules). onto s (close h xs gs t2.keys end) (end + 1)) (then_push sofar it.rule rs);
        }

    pub going_on : (start : ℕ) (t0 : Entries) → Going s start depth t0 at c t → Going s start depth t0 (next + 1) c1 t1
    going_on start t0 g = record { read = λ c2 t2 end j. g.read c2 t2 end (more_read c2 t2 end j); refused = λ x r. g.refused x (more_refused r) }

-- whole texts
pub scan_length : (s : List ℕ) → (length s ≡ 0) ⊎ (240 < length s) → scan s ≡ Err TextLength
unfolding scan
scan_length s (inl e) = rw (eq-eqb (length s) 0 e)
scan_length s (inr l) = rw (lt-ltb 240 (length s) l, or_true (eqb (length s) 0))

pub scan_from : (s : List ℕ) → 0 < length s → length s ≤ 240 → scan s ≡ from s (state [] 0 item) 0
unfolding scan from
scan_from s lo hi = rw (ne_eqb (length s) 0 (λ e. omega arith), le-ltb 240 (length s) hi)
