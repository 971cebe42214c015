-- A group that was made, refused or asked.
use Rattle.std.proofs.Common.{◌≡◌, ℕ, Some, Option, Result, sym, ap, ◌∙◌}
use Rattle.groups.specs.declared.residue.Residue as numbers
use Rattle.groups.specs.Ambients.{AmbientModel, group_elements, group_model}
use Rattle.groups.specs.Residues.{residue, residues}
use Rattle.groups.specs.Circles.{Pair, circle}
use Rattle.words.specs.declared.fault.Fault.{Fault}
use Rattle.words.specs.declared.kind.Kind.{Kind}
use Rattle.words.specs.declared.kind.Kind.TheVariants.{Residue, Circle}
use Rattle.words.specs.declared.unanswered.Unanswered.{Unanswered}
use Rattle.script_kinds.specs.KindReplies.{Parts}
use Rattle.script.specs.declared.questions.Question.{Question}
use Rattle.script.specs.declared.group_commands.GroupReply.{GroupReply}
use Rattle.script.specs.Questions.{answer_to}
use Rattle.script.specs.Sessions.{Model, group_made, residue_kept, circle_kept, with_residue, with_circle, paired, asked_of}

module _ (m : Model) (q p : ℕ) (r : Result GroupReply Unanswered) where
  pub residue_stands : (k : Option (Parts numbers.Residue)) (v w : ℕ) (g h : numbers.Residue) → g.0 ≡ v → h.0 ≡ w
      → (r, k) ≡ group_made residues Residue m.residue_group q p g h → residue_kept m (r, k) ≡ with_residue m q p v w
  residue_stands k v w g h eg eh e =
      let kept = λ (x y : ℕ). residue_kept m (group_made residues Residue m.residue_group q p (residue x) (residue y)) in
      ap (residue_kept m) e ∙ ap (λ x. kept x h.0) eg ∙ ap (kept v) eh

  pub circle_stands : (k : Option (Parts Pair)) (v w : ℕ × ℕ) (g h : Pair) → g ≡ paired v → h ≡ paired w
      → (r, k) ≡ group_made circle Circle m.circle_group q p g h → circle_kept m (r, k) ≡ with_circle m q p v w
  circle_stands k v w g h eg eh e =
      let kept = λ (x y : Pair). circle_kept m (group_made circle Circle m.circle_group q p x y) in
      ap (circle_kept m) e ∙ ap (λ x. kept x h) eg ∙ ap (kept (paired v)) eh

pub group_asked : {E : Type 0} (a : AmbientModel E) (kind : Kind) (question : Question) (o : Option (Parts E)) (s : Parts E) (r : Result GroupReply Fault) → o ≡ Some s
    → r ≡ answer_to (group_elements a s.0 s.1) (group_model a s.0 s.1 s.2 s.3) kind question → r ≡ asked_of a kind o question
group_asked a kind question o s r es e = e ∙ sym (ap (λ o. asked_of a kind o question) es)
