-- `keep`: what `push_back_reserved` asks; the invariant of what it hands on.
use Rattle.std.proofs.Common.{◌≤◌, ◌<◌, ◌≡◌, sym, subst, length, deque_capacity, arith}
use Rattle.vx_srl.specs.Views.{Log, blocks_needed, free_of, next_of, most_number, record_next}
use Rattle.vx_srl.proofs.StageKept.{room_kept, kept_with}
use Rattle.vx_srl.proofs.log.Srl.keep.Goals as goal

pub push_back_reserved-requires : goal.push_back_reserved-requires
push_back_reserved-requires c =
    let less : length c.self.inside.records.items < deque_capacity c.self.inside.records =
    room_kept c.self.inside.unit _ _ _ _ _ _ _ c.self.invariant c.args.bytes.now c.requires.blocks (subst (λ (x : Log). blocks_needed c.args.bytes.now ≤ free_of x) (sym c.self.view_is) c.requires.room) in
    omega (arith, c.self.inside.records.ok)

pub invariant_of-self : goal.invariant_of-self
invariant_of-self c =
    kept_with c.self.inside.unit _ _ _ _ _ _ _ c.self.invariant c.args.bytes.now c.requires.blocks (subst (λ (x : Log). blocks_needed c.args.bytes.now ≤ free_of x) (sym c.self.view_is) c.requires.room)
    c.args.vol c.args.block (subst (λ (x : Log). next_of x ≤ most_number) (sym c.self.view_is) c.requires.number)
    _ _ _ (subst (λ (x : Log). c.args.head ≡ (record_next x c.args.vol c.args.block c.args.bytes.now).head) (sym c.self.view_is) c.requires.front)
    c.push_back_reserved.ensures.items c.push_back_reserved.ensures.capacity
