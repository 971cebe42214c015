-- Writing, byte by byte and item by item.
use Rattle.std.proofs.Common.{map, ◌≡◌, ℕ, ◌+◌, ◌-◌, ◌<◌, ◌≤◌, List, [], ◌∷◌, ◌++◌, length, get_or, drop, sym, ap, ◌∙◌, subst, append_assoc, arith, ne_eqb}
use Rattle.std.proofs.lemmas.List.{drop_more, drop-drop, drop_at, append-nil, length-append, length-drop, length-map, get_or-map}
use Rattle.bounded.specs.declared.row.Row.{Row as Bounded}
use Rattle.rules.specs.declared.entry.Entry.{Entry}
use Rattle.rules.specs.declared.entry.Entry.TheVariants.{Leaf, Gate}
use Rattle.rules.specs.Grammar.{Rule, Rules, key, gate, none, more, count, text, marked, opening, decimal, depth as depth_below, Formed, Legal}
use Rattle.rules.specs.Tables.{size, rows, rows_of, starts, table, Row, leaf, node}
use Rattle.rules.specs.Views.{children_of, row_of}
use Rattle.rules.specs.WriterSteps.{mark_at, Spellable, Spelt, ItemsSpellable, ItemsSpelt, CanSpell, CanSpellItems}
use Rattle.rules.proofs.Rows.{starts_length, rows_length, size_some, opening_length, marked_length, gate_length, within}

depth_some : (r : Rule) → 1 ≤ depth_below r
depth_some (key n) = omega arith
depth_some (gate k rs) = omega arith

-- what stands at a position
row_at : (entries : List Entry) (position : ℕ) (e : Entry) → position < length entries → e ≡ get_or entries position e → drop position (map row_of entries) ≡ row_of e ∷ drop (position + 1) (map row_of entries)
row_at entries position e l h =
    drop_more (map row_of entries) position (row_of e) (omega (arith, length-map entries row_of))
    ∙ ap (λ y. y ∷ drop (position + 1) (map row_of entries)) (get_or-map row_of entries position e (row_of e) l ∙ ap row_of (sym h))

by_leaf : (r : Rule) (p x n b : ℕ) (beyond rest : List Row) → rows r p x ++ beyond ≡ leaf n b ∷ rest → r ≡ key n
by_leaf (key v) p x n b beyond rest e = let q : v ≡ n = cc in ap key q
by_leaf (gate k rs) p x n b beyond rest e = let z : ◌≡◌ {A = ℕ} 0 1 = cc in absurd (omega arith)

record Gated (r : Rule) (p x k : ℕ) (ps : List ℕ) (beyond rest : List Row) : Type 0 where
  rules : Rules
  is : r ≡ gate k rules
  at : starts rules (p + 1) ≡ ps
  after : rest ≡ rows_of rules (p + 1) (x + 4) ++ beyond

by_gate : (r : Rule) (p x k : ℕ) (ps : List ℕ) (beyond rest : List Row) → rows r p x ++ beyond ≡ node k ps ∷ rest → Gated r p x k ps beyond rest
by_gate (key v) p x k ps beyond rest e = let z : ◌≡◌ {A = ℕ} 0 1 = cc in absurd (omega arith)
by_gate (gate m rs) p x k ps beyond rest e =
    let a : m ≡ k = cc in
    let b : starts rs (p + 1) ≡ ps = cc in
    let d : rest ≡ rows_of rs (p + 1) (x + 4) ++ beyond = cc in
    record { rules = rs; is = ap (λ n. gate n rs) a; at = b; after = d }

-- an item
module _ (entries : List Entry) (position depth : ℕ) (xs : List ℕ) where
  pub inside : (r : Rule) → Spellable (map row_of entries) position depth xs r → (position < length entries) × (0 < depth)
  inside r g =
      let n = size_some r in
      let a = rows_length r position g.byte in
      let b = length-append (rows r position g.byte) g.beyond in
      let c = length-drop position (map row_of entries) in
      let d = ap length g.stands in
      let e = length-map entries row_of in
      (omega arith, omega (arith, depth_some r, g.deep))

  module _ (n b : ℕ) (d : Entry) (e : d ≡ Leaf n b) (i : d ≡ get_or entries position d) where
    leaf_is : (r : Rule) → Spellable (map row_of entries) position depth xs r → r ≡ key n
    unfolding row_of
    leaf_is r g = by_leaf r position g.byte n b g.beyond (drop (position + 1) (map row_of entries)) (sym g.stands ∙ row_at entries position d (inside r g).0 i ∙ ap (λ y. row_of y ∷ drop (position + 1) (map row_of entries)) e)

    pub leaf_room : (r : Rule) → Spellable (map row_of entries) position depth xs r → length xs + length (75 ∷ decimal n) ≤ 240
    leaf_room r g = omega (arith, g.room, ap (λ q. length (text q)) (leaf_is r g))

    pub a_leaf : (ys zs : List ℕ) → ys ≡ xs ++ 75 ∷ [] → zs ≡ ys ++ decimal n → Spelt (map row_of entries) position depth xs zs
    a_leaf ys zs f h r g = h ∙ ap (λ (z : List ℕ). z ++ decimal n) f ∙ append_assoc xs (75 ∷ []) (decimal n) ∙ ap (λ q. xs ++ text q) (sym (leaf_is r g))

  module _ (k : ℕ) (c : Bounded ℕ 8) (d : Entry) (e : d ≡ Gate k c) (i : d ≡ get_or entries position d) where
    gate_is : (r : Rule) (g : Spellable (map row_of entries) position depth xs r) → Gated r position g.byte k (children_of c) g.beyond (drop (position + 1) (map row_of entries))
    unfolding row_of
    gate_is r g = by_gate r position g.byte k (children_of c) g.beyond (drop (position + 1) (map row_of entries)) (sym g.stands ∙ row_at entries position d (inside r g).0 i ∙ ap (λ y. row_of y ∷ drop (position + 1) (map row_of entries)) e)

    record Opens (rs : Rules) : Type 0 where
      most : k ≤ length (children_of c)
      many : length (children_of c) ≡ count rs
      three : length (opening k (length (children_of c))) ≡ 3
      room : length xs + (length (marked rs 40) + 4) ≤ 240

    opens : (r : Rule) (g : Spellable (map row_of entries) position depth xs r) → Opens (gate_is r g).rules
    opens r g =
        let w = gate_is r g in
        let rs = w.rules in
        let formed : Formed (gate k rs) = subst Formed w.is g.formed in
        let many : length (children_of c) ≡ count rs = sym (ap length w.at) ∙ starts_length rs (position + 1) in
        record {
          most = omega (arith, formed.1);
          many = many;
          three = opening_length k (length (children_of c));
          room = omega (arith, g.room, ap (λ q. length (text q)) w.is, gate_length k rs, marked_length rs 40 44);
        }

    pub opening_fits : (r : Rule) → Spellable (map row_of entries) position depth xs r → (k ≤ length (children_of c)) × (length (children_of c) ≤ 8) × (length xs + 3 ≤ 240)
    opening_fits r g = let o = opens r g in (o.most, within c, omega (arith, o.room))

    module _ (ys : List ℕ) (f : ys ≡ xs ++ opening k (length (children_of c))) where
      items_so : (r : Rule) (g : Spellable (map row_of entries) position depth xs r) → ItemsSpellable (map row_of entries) (children_of c) 40 (depth - 1) ys (gate_is r g).rules
      items_so r g =
          let w = gate_is r g in
          let rs = w.rules in
          let o = opens r g in
          let formed : Formed (gate k rs) = subst Formed w.is g.formed in
          record {
            formed = formed.4;
            deep = omega (arith, g.deep, ap depth_below w.is);
            position = position + 1;
            byte = g.byte + 4;
            beyond = g.beyond;
            listed = sym w.at;
            stand = w.after;
            room = omega (arith, o.room, o.three, ap length f, length-append xs (opening k (length (children_of c))));
          }

      pub items_fit : (r : Rule) → Spellable (map row_of entries) position depth xs r → CanSpellItems (map row_of entries) (children_of c) 40 (depth - 1) ys
      items_fit r g = ((gate_is r g).rules, items_so r g)

      module _ (zs : List ℕ) (h : ItemsSpelt (map row_of entries) (children_of c) 40 (depth - 1) ys zs) where
        so_far : (r : Rule) (g : Spellable (map row_of entries) position depth xs r) → zs ≡ (xs ++ opening k (length (children_of c))) ++ marked (gate_is r g).rules 40
        so_far r g = h (gate_is r g).rules (items_so r g) ∙ ap (λ (z : List ℕ). z ++ marked (gate_is r g).rules 40) f

        pub closing_fits : (r : Rule) → Spellable (map row_of entries) position depth xs r → length zs < 240
        closing_fits r g =
            let o = opens r g in
            let m = marked (gate_is r g).rules 40 in
            omega (arith, o.room, o.three, ap length (so_far r g), length-append (xs ++ opening k (length (children_of c))) m, length-append xs (opening k (length (children_of c))))

        pub a_gate : (end : List ℕ) → end ≡ zs ++ 41 ∷ [] → Spelt (map row_of entries) position depth xs end
        a_gate end j r g =
            let w = gate_is r g in
            let rs = w.rules in
            let o = opens r g in
            j ∙ ap (λ (z : List ℕ). z ++ 41 ∷ []) (so_far r g)
            ∙ append_assoc (xs ++ opening k (length (children_of c))) (marked rs 40) (41 ∷ [])
            ∙ append_assoc xs (opening k (length (children_of c))) (marked rs 40 ++ 41 ∷ [])
            ∙ ap (λ n. xs ++ (opening k n ++ (marked rs 40 ++ 41 ∷ []))) o.many
            ∙ ap (λ q. xs ++ text q) (sym w.is)

pub mark_later : (i : ℕ) → mark_at (i + 1) ≡ 44
mark_later i = rw (ne_eqb (i + 1) 0 (λ e. omega arith))

-- items
module _ (es : List Row) (depth : ℕ) where
  pub no_items : (left : List ℕ) (mark : ℕ) (xs : List ℕ) → left ≡ [] → ItemsSpelt es left mark depth xs xs
  no_items left mark xs are none g = sym (append-nil xs)
  no_items left mark xs are (more r rs) g = let e = g.listed in absurd (let z : ◌≡◌ {A = ℕ} 0 1 = cc in omega arith)

  -- of what is left, the next one, which stands at p, after its mark
  module _ (all : List ℕ) (p : ℕ) (left : List ℕ) (are : all ≡ p ∷ left) (mark : ℕ) (xs : List ℕ) where
    pub mark_fits : CanSpellItems es all mark depth xs → length xs < 240
    mark_fits (none, g) = let e = g.listed in absurd (let z : ◌≡◌ {A = ℕ} 0 1 = cc in omega arith)
    mark_fits (more r rs, g) = omega (arith, g.room)

    module _ (ys : List ℕ) (f : ys ≡ xs ++ mark ∷ []) where
      longer : length ys ≡ length xs + 1
      longer = ap length f ∙ length-append xs (mark ∷ [])

      standing : (r : Rule) (rs : Rules) (g : ItemsSpellable es all mark depth xs (more r rs)) → drop g.position es ≡ rows r g.position g.byte ++ (rows_of rs (g.position + size r) (g.byte + length (text r) + 1) ++ g.beyond)
      standing r rs g = g.stand ∙ append_assoc (rows r g.position g.byte) (rows_of rs (g.position + size r) (g.byte + length (text r) + 1)) g.beyond

      first_at : (r : Rule) (rs : Rules) (g : ItemsSpellable es all mark depth xs (more r rs)) → g.position ≡ p
      first_at r rs g = let e = g.listed in cc

      first : (r : Rule) (rs : Rules) → ItemsSpellable es all mark depth xs (more r rs) → Spellable es p depth ys r
      first r rs g =
          subst (λ at. Spellable es at depth ys r) (first_at r rs g)
          (record {
            formed = g.formed.0;
            deep = omega (arith, g.deep);
            byte = g.byte;
            beyond = rows_of rs (g.position + size r) (g.byte + length (text r) + 1) ++ g.beyond;
            stands = standing r rs g;
            room = omega (arith, g.room, longer, length-append (text r) (marked rs 44));
          })

      pub one_fits : CanSpellItems es all mark depth xs → CanSpell es p depth ys
      one_fits (none, g) = let e = g.listed in absurd (let z : ◌≡◌ {A = ℕ} 0 1 = cc in omega arith)
      one_fits (more r rs, g) = (r, first r rs g)

      module _ (zs : List ℕ) (h : Spelt es p depth ys zs) where
        others : (r : Rule) (rs : Rules) → ItemsSpellable es all mark depth xs (more r rs) → ItemsSpellable es left 44 depth zs rs
        others r rs g =
            let at = g.position in
            let e = g.listed in
            let next = g.byte + length (text r) + 1 in
            record {
              formed = g.formed.1;
              deep = omega (arith, g.deep);
              position = at + size r;
              byte = next;
              beyond = g.beyond;
              listed = cc;
              stand = sym (drop-drop (size r) at es) ∙ ap (drop (size r)) (standing r rs g) ∙ drop_at (rows r at g.byte) (rows_of rs (at + size r) next ++ g.beyond) (size r) (rows_length r at g.byte);
              room = omega (arith, g.room, longer, length-append (text r) (marked rs 44), ap length (h r (first r rs g)), length-append ys (text r));
            }

        pub others_fit : CanSpellItems es all mark depth xs → CanSpellItems es left 44 depth zs
        others_fit (none, g) = let e = g.listed in absurd (let z : ◌≡◌ {A = ℕ} 0 1 = cc in omega arith)
        others_fit (more r rs, g) = (rs, others r rs g)

        pub more_items : (end : List ℕ) → ItemsSpelt es left 44 depth zs end → ItemsSpelt es all mark depth xs end
        more_items end j none g = let e = g.listed in absurd (let z : ◌≡◌ {A = ℕ} 0 1 = cc in omega arith)
        more_items end j (more r rs) g =
            j rs (others r rs g) ∙ ap (λ (z : List ℕ). z ++ marked rs 44) (h r (first r rs g) ∙ ap (λ (z : List ℕ). z ++ text r) f)
            ∙ append_assoc (xs ++ mark ∷ []) (text r) (marked rs 44)
            ∙ append_assoc xs (mark ∷ []) (text r ++ marked rs 44)

-- a whole table
pub whole : (es : List Row) (xs : List ℕ) → xs ≡ [] → (r : Rule) → Legal r → es ≡ table r → Spellable es 0 8 xs r
whole es xs e r g s = record { formed = g.formed; deep = g.deep; byte = 0; beyond = []; stands = s ∙ sym (append-nil (rows r 0 0)); room = omega (arith, ap length e, g.short) }
