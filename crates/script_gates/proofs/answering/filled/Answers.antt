use Rattle.std.proofs.Common.{◌≡◌, length, is_some, sym, ap, ◌∙◌, subst, rules}
use Rattle.std.specs.Option.{unwrap_or}
use Rattle.std.proofs.lemmas.List.{length-map}
use Rattle.bounded.specs.Rows.{items}
use Rattle.fields.specs.Scalars.{scalar, scalars_model}
use Rattle.splits.specs.Gates.{Balanced, Agree}
use Rattle.splits.specs.Marks.{missing}
use Rattle.script_gates.specs.declared.gate.Gate.{Gate}
use Rattle.script_gates.specs.GateReplies.{marks_of, numbers_of, Filled}
use Rattle.script_gates.proofs.Filling.{filled_by}
use Rattle.script_gates.proofs.answering.filled.Goals as goal

as_many : (g : Gate) → length (marks_of g) ≡ length (numbers_of g)
as_many g = length-map (items g.children) is_some ∙ sym (length-map (items g.children) (λ n. unwrap_or n 0))

pub split_children-requires-clause-sizes : goal.split_children-requires-clause-sizes
split_children-requires-clause-sizes c =
    let marks : c.deref.result.now ≡ marks_of c.args.gate.now = c.deref.ensures ∙ c.map-known.ensures is_some (λ x y h. search rules) in
    ap length marks ∙ as_many c.args.gate.now ∙ sym c.in_ok-own.ensures.2.0

pub returns : goal.returns
returns c =
    let q = c.args.scalars.now.q in
    let g = c.args.gate.now in
    let m = scalars_model q in
    let ds = items c.split_children.result in
    let taken = items c.in_ok-own.taken in
    let marks : c.deref.result.now ≡ marks_of g = c.deref.ensures ∙ c.map-known.ensures is_some (λ x y h. search rules) in
    subst (λ x. Filled q x (marks_of g) (numbers_of g) ds) c.in_ok-own.ensures.0
    (filled_by q c.in_ok-own.own (marks_of g) (numbers_of g) taken ds c.in_ok-own.ensures.2 (as_many g) c.split_children.ensures.long
    (subst (λ ms. Balanced m (missing ms) c.in_ok-own.own ds) marks c.split_children.ensures.balanced)
    (subst (λ ms. Agree m ms ds taken) marks c.split_children.ensures.kept))
