use Rattle.std.proofs.Common.{◌≡◌, ℕ, ◌<◌, T, ltb, List, map, length, get_or, sym, ap, ◌∙◌, subst, arith}
use Rattle.std.proofs.lemmas.List.{length-map, take_all}
use Rattle.fields.specs.Scalars.{scalar, scalars_model}
use Rattle.fields.specs.declared.scalar.Scalar.{Scalar}
use Rattle.rules.specs.Views.{children_of}
use Rattle.splits.specs.Gates.{Balanced}
use Rattle.releases.proofs.Places.{get_d_map}
use Rattle.checking.proofs.gates.gate_balances.Goals as goal

pub balances-requires-clause-elements : goal.balances-requires-clause-elements
balances-requires-clause-elements c =
    let cs = children_of c.args.children.now in
    let q = c.args.field.now.q in
    let at : ℕ → Scalar = λ p. get_or c.args.challenges.now p (scalar 0) in
    let listed = ap length c.as_slice-position-items.ensures in
    let all : c.deref.result.now ≡ map at cs = c.deref.ensures ∙ c.loop-position.invariant ∙ ap (map at) (take_all c.loop-position.position-index cs (omega arith)) in
    let long = ap length all ∙ length-map cs at in (
      c.requires.elements.0,
      λ i h.
          let l : i < length cs = omega arith in
          subst (λ (x : Scalar). T (ltb x.0 q)) (sym (ap (λ xs. get_or xs i (scalar 0)) all ∙ get_d_map at cs i (scalar 0) l))
          (c.requires.elements.1 (get_or cs i 0) (c.requires.inside i l)),
    )

pub returns : goal.returns
returns c =
    let cs = children_of c.args.children.now in
    let at : ℕ → Scalar = λ p. get_or c.args.challenges.now p (scalar 0) in
    let listed = ap length c.as_slice-position-items.ensures in
    let all : c.deref.result.now ≡ map at cs = c.deref.ensures ∙ c.loop-position.invariant ∙ ap (map at) (take_all c.loop-position.position-index cs (omega arith)) in
    let gate : List Scalar → Type 0 = Balanced (scalars_model c.args.field.now.q) c.args.threshold c.args.own in
    subst (λ xs. (T c.balances.result → gate xs) × (gate xs → T c.balances.result)) all c.balances.ensures
