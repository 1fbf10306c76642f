-- One disk set more gives its rack back.
use Rattle.std.proofs.Common.{◌≡◌, ◌∙◌, ◌++◌, ◌∷◌, ◌<◌, [], length, length-append, ap, arith, rules, vec_len}
use Rattle.std.specs.Vec.{vec_capacity}
use Rattle.vx_yard.specs.Racks.{rack_in}
use Rattle.vx_yard.proofs.IntoRacks.{given_all, given_back, given_first, rack_few}
use Rattle.vx_yard.proofs.racks.take_racks.Goals as goal

pub loop-disk_set-init : goal.loop-disk_set-init
loop-disk_set-init g c = λ none room. record {
  room = (let empty : length c.args.racks.items ≡ 0 = ap (λ rs. length rs) none in omega (arith, room, empty, c.args.racks.ok, c.reverse.ensures.len));
  whole = given_first c.args.racks.items c.args.disk_sets.items c.reverse.new.self.items none c.reverse.ensures.items;
}

pub loop-disk_set-preserved : goal.loop-disk_set-preserved
loop-disk_set-preserved g c = λ none room.
    let was = c.loop-disk_set.invariant none room in
    let front : c.loop-disk_set.disk_sets.items ≡ c.pop.new.self.items ++ c.in-Some.disk_set ∷ [] = search rules in
    let long = ap (λ es. length es) front in
    let many = length-append c.pop.new.self.items (c.in-Some.disk_set ∷ []) in
    let low : vec_len c.loop-disk_set.racks < vec_capacity c.loop-disk_set.racks = omega (arith, was.room, long, many, c.loop-disk_set.disk_sets.ok) in
    let is = c.give_back.ensures.items low in
    record {
      room = omega (
        arith,
        was.room,
        long,
        many,
        c.loop-disk_set.disk_sets.ok,
        c.pop.new.self.ok,
        c.loop-disk_set.racks.ok,
        c.give_back.new.racks.ok,
        ap (λ rs. length rs) is,
        length-append c.loop-disk_set.racks.items (rack_in c.in-Some.disk_set),
        rack_few c.in-Some.disk_set,
        c.give_back.ensures.room,
      );
      whole = given_back c.loop-disk_set.racks.items c.give_back.new.racks.items c.loop-disk_set.disk_sets.items c.pop.new.self.items c.in-Some.disk_set front is ∙ was.whole;
    }

pub returns : goal.returns
returns g c = λ none room.
    let done : c.loop-disk_set.disk_sets.items ≡ [] = search rules in
    given_all c.loop-disk_set.racks.items c.loop-disk_set.disk_sets.items c.args.disk_sets.items done (c.loop-disk_set.invariant none room).whole
