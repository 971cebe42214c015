-- Lists of calls at one bench: what they file, and what holds after any of them.
--   Event                     a call with its reply
--   Run m rule b events b'    calls made in order at a bench b, which they leave as b'
--   Filed events slot ws      an obeyed file stored the words in the slot, and no later obeyed remove named it
--   Vacant events slot        nothing is filed in the slot
--   Stands m rule events b    forks of filed transcripts are obeyed, and their keys open their leaves and satisfy the rule;
--                             what was answered or simulated can be filed, word for word, into any slot left empty
--   AlwaysStands              this holds after every list of calls at a new bench
--   RepliesOnce               after every list of calls, every call has exactly one reply and leaves exactly one bench
--   SimulatedOnce             at a new bench, exactly one tape simulates the words of an acceptable transcript
--   AnsweredOnce              and exactly one commits and answers them, for keys that open their leaves and satisfy the rule
use Rattle.std.specs.Prelude.{◌≡◌, ℕ, ◌*◌, ◌<◌, List, [], ◌∷◌, Some, Option}
use Rattle.std.proofs.Math.Option.{some}
use Rattle.std.proofs.Math.ListN.{get_elem?}
use Rattle.kinds.specs.Kinds.{KindModel, Key}
use Rattle.rules.specs.Tables.{Only}
use Rattle.releases.specs.Entries.{Entry, leaves}
use Rattle.releases.specs.Transcripts.{challenge, parsed, Acceptable}
use Rattle.releases.specs.Theorems.{Setting, Fit}
use Rattle.releases.specs.Calls.{Bench, fresh, Call, commit, answer, simulate, file, remove, fork, Reply, committed, wrote, gave, done, IsSlot, with_slot, word_count, Written, Step}

abbrev pub Event : Type 0
Event = Call × Reply

abbrev pub Run : KindModel → List Entry → Bench → List Event → Bench → Type 0
Run m rule b [] b' = b' ≡ b
Run m rule b (e ∷ es) b' = (mid : Bench) × Step m rule b e.0 e.1 mid × Run m rule mid es b'

abbrev pub Filed : List Event → ℕ → List ℕ → Type 0
Filed events slot ws =
    (x : ℕ) × (get_elem? events x ≡ some (file slot ws, done)) × ((y : ℕ) → x < y → ¬ (get_elem? events y ≡ some (remove slot, done)))

abbrev pub Vacant : List Event → ℕ → Type 0
Vacant events slot = (ws : List ℕ) → ¬ Filed events slot ws

pub record Stands (m : KindModel) (rule : List Entry) (events : List Event) (b : Bench) : Type 0 where
  pub forks : (i j : ℕ) (ws ws' : List ℕ) → Filed events i ws → Filed events j ws'
      → (parsed rule ws).commitments ≡ (parsed rule ws').commitments → ¬ (challenge (parsed rule ws) 0 ≡ challenge (parsed rule ws') 0)
      → (keys : List (Option Key)) × Step m rule b (fork i j (leaves rule)) (gave keys) b × Fit m rule keys
  pub files : (x : ℕ) (c : Call) (ws : List ℕ) → get_elem? events x ≡ some (c, wrote ws) → (slot : ℕ) → IsSlot slot → Vacant events slot
      → Step m rule b (file slot ws) done (with_slot b slot (Some ws))

abbrev pub AlwaysStands : Type 0
AlwaysStands =
    (m : KindModel) (rule : List Entry) → Setting m rule → (events : List Event) (b : Bench) → Run m rule fresh events b → Stands m rule events b

abbrev pub RepliesOnce : Type 0
RepliesOnce =
    (m : KindModel) (rule : List Entry) → Setting m rule → (events : List Event) (b : Bench) → Run m rule fresh events b
    → (c : Call) → Only {A = Reply × Bench} (λ p. Step m rule b c p.0 p.1)

abbrev pub SimulatedOnce : Type 0
SimulatedOnce =
    (m : KindModel) (rule : List Entry) → Setting m rule → (ws : List ℕ) → Written m rule (Acceptable m rule) ws
    → Only (λ tape. (b : Bench) × Run m rule fresh ((simulate (challenge (parsed rule ws) 0) tape (word_count rule), wrote ws) ∷ []) b)

abbrev pub AnsweredOnce : Type 0
AnsweredOnce =
    (m : KindModel) (rule : List Entry) → Setting m rule → (keys : List (Option Key)) → Fit m rule keys → (ws : List ℕ) → Written m rule (Acceptable m rule) ws
    → Only (λ tape. (b : Bench) × Run m rule fresh
    ((commit keys tape (4 * leaves rule), committed 1 (parsed rule ws).commitments) ∷ (answer 1 (challenge (parsed rule ws) 0) (word_count rule), wrote ws) ∷ []) b)
