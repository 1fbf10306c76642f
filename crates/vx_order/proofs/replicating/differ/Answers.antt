-- `differ`: its result; what stays true in its loop over `i`.
use Rattle.std.proofs.Common.{◌≡◌, ◌+◌, ◌-◌, ℕ, List, length, take, drop, subst, true, false}
use Rattle.std.specs.List.{list_any}
use Rattle.std.specs.Str.{bytes_eq}
use Rattle.vx_order.proofs.NameLemmas.{name_differs, name_again, names_end}
use Rattle.vx_order.proofs.replicating.differ.Goals as goal

pub returns-then-is_among : goal.returns-then-is_among
returns-then-is_among c =
    let P : List ℕ → Type 0 = λ name. true ≡ list_any (bytes_eq name) (take (length c.args.names.now - (c.loop-i.i + 1)) (drop (c.loop-i.i + 1) c.args.names.now)) in
    name_again c.args.names.now c.loop-i.i _ c.loop-i-test.true (subst P c.index-names-i.is c.if-is_among.ensures) c.loop-i.invariant

pub loop-i-preserved : goal.loop-i-preserved
loop-i-preserved c =
    let P : List ℕ → Type 0 = λ name. false ≡ list_any (bytes_eq name) (take (length c.args.names.now - (c.loop-i.i + 1)) (drop (c.loop-i.i + 1) c.args.names.now)) in
    name_differs c.args.names.now c.loop-i.i _ c.loop-i-test.true (subst P c.index-names-i.is c.if-is_among.ensures) c.loop-i.invariant

pub returns : goal.returns
returns c = names_end c.args.names.now c.loop-i.i c.loop-i-test.false c.loop-i.invariant
