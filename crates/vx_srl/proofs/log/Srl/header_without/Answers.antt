-- `header_without`: clauses is and of_ring.
use Rattle.std.proofs.Common.{◌≡◌, ◌<◌, ◌≤◌, ◌+◌, ◌-◌, length, take, ap, refl, ◌∙◌, ℕ, arith, length-take}
use Rattle.vx_srl.specs.Views.{Log, head_number, place_after}
use Rattle.vx_srl.proofs.LogLists.{floor_behind, low_some, numbers_of_ring, place_behind, place_below, place_low, place_of_all, run_few}
use Rattle.vx_srl.proofs.Saving.{without_is}
use Rattle.vx_srl.proofs.log.Srl.header_without.Goals as goal
use Rattle.vx_srl.proofs.log.Srl.header_without.Goals.{then-gone-len, else-gone-len}

held_few : (n s low to count held : ℕ) → 0 < low → n ≡ to + 1 - low → to ≤ low + held - 1 → held ≤ s → s ≤ count → (n ≤ s) × (n ≤ count)
held_few n s low to count held some n_is to_low held_low s_low = (omega (arith, some, n_is, to_low, held_low), omega (arith, some, n_is, to_low, held_low, s_low))

few : (c : goal.After-index-2) → (c.args.to + 1 - c.self.inside.header.low ≤ c.self.inside.sealed) × (c.args.to + 1 - c.self.inside.header.low ≤ length c.self.inside.records.items)
few c =
    let ks = c.self.inside.records.items in
    let low = c.self.inside.header.low in
    held_few (c.args.to + 1 - low) c.self.inside.sealed low c.args.to (length ks) (length (take c.self.inside.sealed ks)) (low_some c.self.inside.ring c.self.inside.header c.self.invariant.ordered.of_ring) refl
    (omega (arith, c.requires.held, ap head_number c.self.view_is)) (omega (arith, length-take c.self.inside.sealed ks)) c.self.invariant.few

place_is : (c : goal.After-index-2) → c.if-gone-len.place ≡ place_after c.self.inside.ring c.self.inside.header.place (take (c.args.to + 1 - c.self.inside.header.low) (take c.self.inside.sealed c.self.inside.records.items))
place_is c =
    let ks = c.self.inside.records.items in
    let n = c.args.to + 1 - c.self.inside.header.low in
    elim c.if-gone-len.branch [
      | then-gone-len w ↦ w.place-is ∙ c.self.invariant.end_is ∙ place_of_all c.self.inside.ring c.self.inside.header.place n c.self.inside.sealed ks (few c).0 (omega (arith, w.if-gone-len.true, c.len.ensures))
      | else-gone-len w ↦ w.place-is ∙ place_behind c.self.inside.ring c.self.inside.header.place n c.self.inside.sealed ks w.index.result.now (few c).0 (omega (arith, (few c).1, w.if-gone-len.false, c.len.ensures)) c.self.invariant.ordered.placed w.index.ensures
    ]

pub returns-clause-is : goal.returns-clause-is
returns-clause-is c =
    let ks = c.self.inside.records.items in
    let n = c.args.to + 1 - c.self.inside.header.low in
    let low = low_some c.self.inside.ring c.self.inside.header c.self.invariant.ordered.of_ring in
    without_is _ _ c.args.to c.copy.result _ _ c.self.view_is c.copy.ensures
    (floor_behind c.self.inside.header.floor n c.self.inside.sealed ks c.index-2.result.now (omega (arith, c.requires.low, ap (λ (x : Log). x.header.low) c.self.view_is)) (few c).0 (few c).1 c.index-2.ensures)
    (place_is c)

pub returns-clause-of_ring : goal.returns-clause-of_ring
returns-clause-of_ring c =
    let ring_is : c.self.inside.ring ≡ c.args.self.now.ring = ap (λ (x : Log). x.ring) c.self.view_is in
    let below = place_below c.self.inside.ring c.self.inside.header.place (take (c.args.to + 1 - c.self.inside.header.low) (take c.self.inside.sealed c.self.inside.records.items)) (place_low c.self.inside.ring c.self.inside.header c.self.invariant.ordered.of_ring) in
    numbers_of_ring c.if-gone-len.place c.args.self.now.ring (c.args.to + 1) c.self.inside.header.run (c.self.inside.header.stamp + 1)
    (omega (arith, below, place_is c, ring_is)) (omega arith) (omega (arith, run_few c.self.inside.ring c.self.inside.header c.self.invariant.ordered.of_ring))
