use Rattle.std.proofs.Common.{ℕ, ◌<◌, length, get_or, None, Option, sym, ap, ◌∙◌, subst, arith, length-set}
use Rattle.fields.specs.Scalars.{scalar}
use Rattle.kinds.specs.Kinds.{Key}
use Rattle.releases.specs.Transcripts.{IsKey}
use Rattle.settings.specs.declared.node.Leaf.{Leaf}
use Rattle.settings.specs.Rules.{rule_in}
use Rattle.settings.proofs.Listing.{rule_short}
use Rattle.checking.specs.Checkings.{ForkedKey}
use Rattle.checking.proofs.Known.{key_below}
use Rattle.checking.proofs.Rows.{filled}
use Rattle.checking.proofs.Leaves.{blank, leaf_stands, leaf_number, leaf_inside, leaf_asked}
use Rattle.checking.proofs.checker.Checker.fork_keys.Goals as goal

pub offset_bounds-transcript-at : goal.offset_bounds-transcript-at
offset_bounds-transcript-at g c =
    let l = leaf_inside (rule_in c.args.self.now.rule.now) _ (c.deref-leaf-items.ensures ∙ c.leaves-leaves.ensures.are) c.loop-number.number c.loop-number-test.true in
    omega (arith, l, rule_short c.args.self.now.rule.now)

pub bounds-transcript-at : goal.bounds-transcript-at
bounds-transcript-at g c =
    let l = leaf_inside (rule_in c.args.self.now.rule.now) _ (c.deref-leaf-items.ensures ∙ c.leaves-leaves.ensures.are) c.loop-number.number c.loop-number-test.true in
    omega (arith, l, c.requires.long)

pub offset_bounds-other-at : goal.offset_bounds-other-at
offset_bounds-other-at g c =
    let l = leaf_inside (rule_in c.args.self.now.rule.now) _ (c.deref-leaf-items.ensures ∙ c.leaves-leaves.ensures.are) c.loop-number.number c.loop-number-test.true in
    omega (arith, l, rule_short c.args.self.now.rule.now)

pub bounds-other-at : goal.bounds-other-at
bounds-other-at g c =
    let l = leaf_inside (rule_in c.args.self.now.rule.now) _ (c.deref-leaf-items.ensures ∙ c.leaves-leaves.ensures.are) c.loop-number.number c.loop-number-test.true in
    omega (arith, l, c.requires.long)

pub fork_key-requires-clause-responses : goal.fork_key-requires-clause-responses
fork_key-requires-clause-responses g c =
    let m = g.S.LeafKinds.meaning c.args.self.now.set.now in
    let rule = rule_in c.args.self.now.rule.now in
    let j = c.loop-number.number in
    let is = c.deref-leaf-items.ensures ∙ c.leaves-leaves.ensures.are in
    let x = get_or c.deref-leaf-items.result.now j blank in
    let at = leaf_stands rule _ is j c.loop-number-test.true in
    let here = leaf_number rule _ is j c.loop-number-test.true in
    let order = sym (c.known-field.ensures ∙ c.order.ensures) in
    let keys = c.requires.answers x.entry x.kind x.statement at in
    let first = key_below m rule c.args.self.now.setting x.entry x.kind x.statement at _
    (subst (λ n. IsKey m x.kind (get_or c.args.transcript.now.responses.now n (scalar 0, scalar 0))) here keys.0) in
    let second = key_below m rule c.args.self.now.setting x.entry x.kind x.statement at _
    (subst (λ n. IsKey m x.kind (get_or c.args.other.now.responses.now n (scalar 0, scalar 0))) here keys.1) in
    let below : (x : ℕ) → x < m.q → x < c.known-field.result.q = λ x h. subst (λ q. x < q) order h in
    (below _ first.0, (below _ first.1, (below _ second.0, below _ second.1)))

pub loop-number-preserved : goal.loop-number-preserved
loop-number-preserved g c =
    let q = (g.S.LeafKinds.meaning c.args.self.now.set.now).q in
    let t = c.args.transcript.now in
    let o = c.args.other.now in
    let ls = c.deref-leaf-items.result.now in
    let j = c.loop-number.number in
    let forked : ℕ → Option Key → Type 0 =
    λ n key. ForkedKey q (get_or t.challenges.now (get_or ls n blank).entry (scalar 0)) (get_or o.challenges.now (get_or ls n blank).entry (scalar 0))
    (get_or t.responses.now n (scalar 0, scalar 0)) (get_or o.responses.now n (scalar 0, scalar 0)) key in
    let made : forked j c.fork_key.result =
    subst (λ q. ForkedKey q (get_or t.challenges.now (get_or ls j blank).entry (scalar 0)) (get_or o.challenges.now (get_or ls j blank).entry (scalar 0))
    (get_or t.responses.now j (scalar 0, scalar 0)) (get_or o.responses.now j (scalar 0, scalar 0)) c.fork_key.result) (c.known-field.ensures ∙ c.order.ensures) c.fork_key.ensures in
    let listed = ap length c.deref-leaf-items.ensures in
    let room : j < length c.loop-number.keys = omega (arith, c.loop-number.invariant.0, c.requires.responses, c.leaves-leaves.ensures.count) in (
      length-set c.loop-number.keys j c.fork_key.result ∙ c.loop-number.invariant.0,
      filled forked None c.loop-number.keys j c.fork_key.result room made c.loop-number.invariant.1,
    )

pub returns : goal.returns
returns g c =
    let q = (g.S.LeafKinds.meaning c.args.self.now.set.now).q in
    let forked : Leaf → ℕ → Type 0 =
    λ x n. ForkedKey q (get_or c.args.transcript.now.challenges.now x.entry (scalar 0)) (get_or c.args.other.now.challenges.now x.entry (scalar 0))
    (get_or c.args.transcript.now.responses.now n (scalar 0, scalar 0)) (get_or c.args.other.now.responses.now n (scalar 0, scalar 0)) (get_or c.loop-number.keys n None) in
    let all = leaf_asked (rule_in c.args.self.now.rule.now) forked _ (c.deref-leaf-items.ensures ∙ c.leaves-leaves.ensures.are) c.loop-number.number
    c.loop-number-test.false c.loop-number.invariant.1 in
    record {
      long = c.loop-number.invariant.0 ∙ c.requires.responses.1.1;
      absent = λ i kind s h. (all i kind s h).absent;
      present = λ i kind s h. (all i kind s h).present;
    }
