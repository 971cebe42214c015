-- Whole texts: what was read means its table, what is refused means none, and what was written means the table again.
use Rattle.std.proofs.Common.{◌≡◌, ℕ, ◌+◌, ◌<◌, ◌≤◌, ◌⊎◌, List, [], ◌++◌, length, get_or, Ok, Err, Result, sym, refl, ap, ◌∙◌, ap₂, inr, arith, MatchResult}
use Rattle.refusals.specs.declared.Refusal.{Refusal}
use Rattle.refusals.specs.declared.Refusal.TheVariants.{Unexpected, TextLength}
use Rattle.rules.specs.declared.entry.Entries.{Entries}
use Rattle.rules.specs.declared.table.Table.{Table}
use Rattle.rules.specs.Grammar.{Rule, text, Legal}
use Rattle.rules.specs.Tables.{Row, rows, table, WellFormed}
use Rattle.rules.specs.Faults.{item, after, state, step, finish, follow, scan}
use Rattle.rules.specs.Views.{listing, Lawful}
use Rattle.rules.specs.Texts.{rows_in, Means, Read, Faulty, Written, Unfit, UnfitCopy}
use Rattle.rules.specs.ReaderSteps.{from, onto, Item, Refused}
use Rattle.rules.proofs.Steps.{ends}
use Rattle.rules.proofs.Complete.{scan_text, text_injective}
use Rattle.rules.proofs.Sound.{scanned}
use Rattle.rules.proofs.Items.{scan_from, scan_length, from_step}
use Rattle.rules.proofs.Tables.{table_injective}
use Rattle.rules.proofs.Parents.{well_formed}
use Rattle.rules.proofs.Lawful.{lawful}

-- a text means one table, and a table has one text
pub one_table : (s : List ℕ) (es ds : List Row) → Means s es → Means s ds → ds ≡ es
one_table s es ds m n = sym n.listed ∙ ap table (text_injective n.rule m.rule n.legal m.legal (n.spelt ∙ sym m.spelt)) ∙ m.listed

pub one_text : (s z : List ℕ) (es : List Row) → Means s es → Means z es → z ≡ s
one_text s z es m n = sym n.spelt ∙ ap text (table_injective n.rule m.rule (n.listed ∙ sym m.listed)) ∙ m.spelt

faulty : (s : List ℕ) (x : Refusal) → scan s ≡ Err x → Faulty s x
faulty s x e = record {
  meaningless = λ es m. let z : ◌≡◌ {A = Result Rule Refusal} (Ok m.rule) (Err x) = sym (scan_text m.rule m.legal) ∙ ap scan m.spelt ∙ e in let w : ◌≡◌ {A = ℕ} 0 1 = cc in omega arith;
  first = e;
}

module _ (s : List ℕ) (lo : 0 < length s) (hi : length s ≤ 240) (t : Entries) (keyless : t.keys ≡ 0) where
  pub read_refused : {x : Refusal} → Refused s 0 8 t.keys x → Faulty s x
  read_refused r = faulty s _ (scan_from s lo hi ∙ ap (λ k. from s (state [] k item) 0) (sym keyless) ∙ r [] refl)

  module _ (t1 : Entries) (end : ℕ) (it : Item s 0 8 t t1 end) where
    to_end : scan s ≡ from s (state [] t1.keys (after it.rule)) end
    to_end = scan_from s lo hi ∙ ap (λ k. from s (state [] k item) 0) (sym keyless) ∙ it.account [] refl

    trailing : (b : ℕ) → step (state [] t1.keys (after it.rule)) end b ≡ Err (Unexpected end)
    unfolding step follow
    trailing b = refl

    ending : finish (state [] t1.keys (after it.rule)) end ≡ Ok it.rule
    unfolding finish
    ending = refl

    pub read_trailing : end < length s → Faulty s (Unexpected end)
    read_trailing l = faulty s _ (to_end ∙ from_step s (state [] t1.keys (after it.rule)) end l ∙ ap (λ r. onto s r (end + 1)) (trailing (get_or s end 0)))

    module _ (l : length s ≤ end) (blank : listing t ≡ []) where
      told : Legal it.rule × (text it.rule ≡ s)
      told = scanned s it.rule (to_end ∙ ends s (state [] t1.keys (after it.rule)) end l ∙ ending)

      listed : listing t1 ≡ table it.rule
      listed = it.listed ∙ ap₂ ◌++◌ blank (ap (λ p. rows it.rule p 0) (ap length blank))

      pub read_lawful : Lawful t1
      read_lawful = record { rule = it.rule; legal = told.0; listed = listed; counted = omega (arith, it.counted) }

      pub read_whole : Read s (listing t1)
      read_whole =
          let means : Means s (listing t1) = record { rule = it.rule; legal = told.0; spelt = told.1; listed = sym listed } in
          record {
            means = means;
            only = λ ds n. one_table s (listing t1) ds means n;
            well_formed = rw listed (well_formed it.rule told.0);
          }

pub read_length : (s : List ℕ) → (length s ≡ 0) ⊎ (240 < length s) → Faulty s TextLength
read_length s h = faulty s TextLength (scan_length s h)

-- every table is well formed
pub table_well_formed : (t : Table) → WellFormed (rows_in t)
table_well_formed t = let w = lawful t.entries t.lawful in rw w.listed (well_formed w.rule w.legal)

-- what was written
pub write_whole : (t : Entries) (w : Lawful t) (out : List ℕ) → out ≡ text w.rule → Written (listing t) out
write_whole t w out e =
    let means : Means out (listing t) = record { rule = w.rule; legal = w.legal; spelt = sym e; listed = sym w.listed } in
    record { means = means; only = λ z n. one_text out z (listing t) means n }

-- reading and writing undo each other
pub read_again : (es : List Row) (out : List ℕ) → Written es out → (P : Refusal → Type 0) (r : Result Table Refusal) → MatchResult r (λ t. Read out (rows_in t)) (λ x. Faulty out x) → MatchResult r (λ t. rows_in t ≡ es) P
read_again es out w P (Ok t) h = sym (h.only es w.means)
read_again es out w P (Err x) h = absurd (h.meaningless es w.means)

pub write_again : (s : List ℕ) (es : List Row) → Read s es → {A : Type 0} (out out' : List ℕ) (r : Result A Refusal) → MatchResult r (λ _. Written es out') (λ x. Unfit es out out' x) → MatchResult r (λ _. out' ≡ s) (λ x. UnfitCopy s out out' x)
write_again s es d out out' (Ok u) w = sym (w.only s d.means)
write_again s es d out out' (Err x) w = record { kept = w.kept; why = inr (w.refusal, w.other_length s d.means) }
