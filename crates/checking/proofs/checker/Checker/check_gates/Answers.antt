use Rattle.std.proofs.Common.{ℕ, List, map, get_or, sym, refl, ◌∙◌, subst, arith, below_more}
use Rattle.fields.specs.Scalars.{scalar, scalars_model}
use Rattle.fields.specs.declared.scalar.Scalar.{Scalar}
use Rattle.rules.specs.Views.{children_of}
use Rattle.splits.specs.Gates.{Balanced}
use Rattle.settings.specs.Rules.{rule_in}
use Rattle.settings.proofs.Listing.{node_stands}
use Rattle.checking.proofs.Known.{gate_fits, children_inside}
use Rattle.checking.proofs.Steps.{each_clear, each_told, leaf_entry, gate_entry, at_gate, no_gate}
use Rattle.checking.proofs.checker.Checker.check_gates.Goals as goal
use Rattle.checking.proofs.checker.Checker.check_gates.Goals.{in-Gate+else-not-gate_balances, in_default}

pub gate_balances-requires-clause-sizes : goal.gate_balances-requires-clause-sizes
gate_balances-requires-clause-sizes g c =
    let rule = rule_in c.args.self.now.rule.now in
    let i = c.loop-i.i in
    let k = c.in-Gate.threshold in
    let cs = c.in-Gate.children in
    let at = gate_entry rule i k cs c.node-item.result (node_stands _ rule c.nodes-node-items.ensures.are i _ c.loop-i-test.true c.node-item.is) c.in-Gate.is in
    gate_fits (g.S.LeafKinds.meaning c.args.self.now.set.now) rule c.args.self.now.setting i k (children_of cs) at

pub gate_balances-requires-clause-inside : goal.gate_balances-requires-clause-inside
gate_balances-requires-clause-inside g c = λ j h.
    let rule = rule_in c.args.self.now.rule.now in
    let i = c.loop-i.i in
    let k = c.in-Gate.threshold in
    let cs = c.in-Gate.children in
    let at = gate_entry rule i k cs c.node-item.result (node_stands _ rule c.nodes-node-items.ensures.are i _ c.loop-i-test.true c.node-item.is) c.in-Gate.is in
    omega (arith, c.requires.long, children_inside (g.S.LeafKinds.meaning c.args.self.now.set.now) rule c.args.self.now.setting i k (children_of cs) at j h)

pub loop-i-preserved : goal.loop-i-preserved
loop-i-preserved g c =
    let q = (g.S.LeafKinds.meaning c.args.self.now.set.now).q in
    let rule = rule_in c.args.self.now.rule.now in
    let i = c.loop-i.i in
    let ch : ℕ → Scalar = λ i. get_or c.args.challenges.now i (scalar 0) in
    let P : ℕ → ℕ → List ℕ → Type 0 = λ i n children. Balanced (scalars_model q) n (ch i) (map ch children) in
    elim c.match-node.branch [
      | in-Gate+else-not-gate_balances w ↦
          let k = w.in-Gate.threshold in
          let cs = w.in-Gate.children in
          let at = gate_entry rule i k cs c.node-item.result (node_stands _ rule c.nodes-node-items.ensures.are i _ c.loop-i-test.true c.node-item.is) w.in-Gate.is in
          below_more _ _ c.loop-i.invariant
          (at_gate rule P i k (children_of cs) at
          (subst (λ q. Balanced (scalars_model q) k (ch i) (map ch (children_of cs))) (c.known-field.ensures ∙ c.order.ensures) (w.if-not-gate_balances.ensures.0 tt)))
      | in_default w ↦
          let kind = w.in_default.field-0 in
          let s = w.in_default.field-1 in
          let at = leaf_entry rule i kind s c.node-item.result (node_stands _ rule c.nodes-node-items.ensures.are i _ c.loop-i-test.true c.node-item.is) w.in_default.is in
          below_more _ _ c.loop-i.invariant (no_gate rule P i kind s at)
    ]

pub returns-then-not-gate_balances : goal.returns-then-not-gate_balances
returns-then-not-gate_balances g c =
    let rule = rule_in c.args.self.now.rule.now in
    let i = c.loop-i.i in
    let k = c.in-Gate.threshold in
    let cs = c.in-Gate.children in
    let ch : ℕ → Scalar = λ i. get_or c.args.challenges.now i (scalar 0) in
    let at = gate_entry rule i k cs c.node-item.result (node_stands _ rule c.nodes-node-items.ensures.are i _ c.loop-i-test.true c.node-item.is) c.in-Gate.is in
    each_told i _ (omega arith) c.loop-i.invariant
    (λ f. c.if-not-gate_balances.ensures.1
    (subst (λ q. Balanced (scalars_model q) k (ch i) (map ch (children_of cs))) (sym (c.known-field.ensures ∙ c.order.ensures)) (f k (children_of cs) at)))
    refl

pub returns : goal.returns
returns g c = each_clear c.loop-i.i (omega arith) c.loop-i.invariant
