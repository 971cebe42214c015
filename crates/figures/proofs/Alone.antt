-- No call has a second reply.
use Rattle.std.proofs.Common.{List, [], ◌∷◌, ◌++◌, sym, refl, ◌∙◌, subst}
use Rattle.releases.specs.Calls.{Bench, fresh, Step}
use Rattle.releases.specs.Runs.{Event, Run}
use Rattle.releases.proofs.Replying.{replies_once}
use Rattle.figures.specs.Setting.{kinds, rule}
use Rattle.figures.specs.Figures.{OnlyRun}
use Rattle.figures.proofs.Entered.{setting}

one_more : (b : Bench) (es : List Event) (mid : Bench) → Run kinds rule b es mid → (e : Event) (b' : Bench) → Step kinds rule mid e.0 e.1 b'
    → Run kinds rule b (es ++ e ∷ []) b'
one_more b [] mid r e b' s = (b', subst (λ x. Step kinds rule x e.0 e.1 b') r s, refl)
one_more b (x ∷ es) mid r e b' s = (r.0, r.1, one_more r.0 es mid r.2 e b' s)

-- after the calls that were made before
only_run : (before : List Event) (b : Bench) → Run kinds rule fresh before b → (es : List Event) (b' : Bench) → Run kinds rule b es b' → OnlyRun b es b'
only_run before b past [] b' r = r
only_run before b past (e ∷ es) b' r =
    let one = replies_once kinds rule setting before b past e.0 in (
      r.0,
      (r.1, λ p s. one.2 p s ∙ sym (one.2 (e.1, r.0) r.1)),
      only_run (before ++ e ∷ []) r.0 (one_more fresh before b past e r.0 r.1) es b' r.2,
    )

pub alone : (es : List Event) (b : Bench) → Run kinds rule fresh es b → OnlyRun fresh es b
alone es b r = only_run [] fresh refl es b r
