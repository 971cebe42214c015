use Rattle.std.proofs.Common.{◌≡◌, ◌+◌, List, [], ◌∷◌, ◌++◌, length, drop, sym, ap, ◌∙◌, subst, arith, append_assoc, append-nil, length-append, get_or}
use Rattle.std.proofs.lemmas.List.{length-map, drop_all}
use Rattle.bounded.specs.Rows.{items}
use Rattle.releases.specs.Entries.{Entry, number}
use Rattle.settings.specs.declared.node.Leaf.{Leaf}
use Rattle.settings.specs.Nodes.{entry_of}
use Rattle.settings.specs.Rules.{rule_in}
use Rattle.settings.specs.Leaves.{leaves_from}
use Rattle.settings.proofs.Leaves.{length-leaves_from, next_leaf, next_gate, leaf_listed}
use Rattle.settings.proofs.rule.Rule.leaves.Goals as goal
use Rattle.settings.proofs.rule.Rule.leaves.Goals.{in-Leaf, in_default}

pub push-requires : goal.push-requires
push-requires c =
    let rule = rule_in c.args.self.now in
    let i = c.loop-entry.entry in
    let x : Leaf = record { entry = i; kind = c.in-Leaf.kind; statement = c.in-Leaf.statement } in
    let step = subst (λ (r : List Entry). leaves_from i (drop i r) ≡ x ∷ leaves_from (i + 1) (drop (i + 1) r)) c.nodes-node-items.ensures.are
    (next_leaf c.nodes-node-items.result.now i c.node-item.result c.loop-entry-test.true c.node-item.is c.in-Leaf.kind c.in-Leaf.statement c.in-Leaf.is) in
    let all = ap length c.loop-entry.invariant in
    let long = length-leaves_from 0 rule in
    let rest = ap length step in
    let parts = length-append (items c.loop-entry.leaves) (leaves_from i (drop i rule)) in
    (omega arith, omega (arith, all, long, rest, parts, c.args.self.now.counted, c.args.self.now.few))

pub loop-entry-preserved : goal.loop-entry-preserved
loop-entry-preserved c =
    let rule = rule_in c.args.self.now in
    let nodes = c.nodes-node-items.result.now in
    let n = c.node-item.result in
    let i = c.loop-entry.entry in
    let here = c.loop-entry-test.true in
    let rest = leaves_from (i + 1) (drop (i + 1) rule) in
    elim c.match-node.branch [
      | in-Leaf w ↦
          let x : Leaf = record { entry = i; kind = w.in-Leaf.kind; statement = w.in-Leaf.statement } in
          let step = subst (λ (r : List Entry). leaves_from i (drop i r) ≡ x ∷ leaves_from (i + 1) (drop (i + 1) r)) c.nodes-node-items.ensures.are
          (next_leaf nodes i n here c.node-item.is w.in-Leaf.kind w.in-Leaf.statement w.in-Leaf.is) in
          ap (λ r. items r ++ rest) w.leaves-is ∙ ap (λ xs. xs ++ rest) w.push.ensures
          ∙ append_assoc (items c.loop-entry.leaves) (x ∷ []) rest ∙ ap (λ xs. items c.loop-entry.leaves ++ xs) (sym step) ∙ c.loop-entry.invariant
      | in_default w ↦
          let step = subst (λ (r : List Entry). leaves_from i (drop i r) ≡ leaves_from (i + 1) (drop (i + 1) r)) c.nodes-node-items.ensures.are
          (next_gate nodes i n here c.node-item.is w.in_default.field-0 w.in_default.field-1 w.in_default.is) in
          ap (λ r. items r ++ rest) w.leaves-is ∙ ap (λ xs. items c.loop-entry.leaves ++ xs) (sym step) ∙ c.loop-entry.invariant
    ]

pub returns-clause-count : goal.returns-clause-count
returns-clause-count c =
    let rule = rule_in c.args.self.now in
    let i = c.loop-entry.entry in
    let same = ap length c.nodes-node-items.ensures.are in
    let all = ap length c.loop-entry.invariant in
    let long = length-leaves_from 0 rule in
    let past = length-map c.nodes-node-items.result.now entry_of in
    let none = ap (λ r. length (leaves_from i r)) (drop_all i rule (omega arith)) in
    let parts = length-append (items c.loop-entry.leaves) (leaves_from i (drop i rule)) in
    omega arith

pub returns-clause-stand : goal.returns-clause-stand
returns-clause-stand c j kind s d h =
    let rule = rule_in c.args.self.now in
    let i = c.loop-entry.entry in
    let same = ap length c.nodes-node-items.ensures.are in
    let past = length-map c.nodes-node-items.result.now entry_of in
    let none = ap (leaves_from i) (drop_all i rule (omega arith)) in
    let are = sym (append-nil (items c.loop-entry.leaves)) ∙ ap (λ xs. items c.loop-entry.leaves ++ xs) (sym none) ∙ c.loop-entry.invariant in
    ap (λ xs. get_or xs (number rule j) d) are ∙ leaf_listed rule j kind s d h
