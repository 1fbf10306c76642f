-- `put_racks`: one rack more has its disk set.
use Rattle.std.proofs.Common.{◌≡◌, ◌∙◌, ◌++◌, ◌∷◌, ◌<◌, [], length, length-append, ap, arith, rules, vec_len}
use Rattle.std.specs.Vec.{vec_capacity}
use Rattle.vx_diskset.specs.declared.disk_set.DiskSet.TheVariants.{Bare}
use Rattle.vx_yard.proofs.IntoRacks.{put_all, put_more, put_first}
use Rattle.vx_yard.proofs.racks.put_racks.Goals as goal

pub loop-rack-init : goal.loop-rack-init
loop-rack-init g c = record {
  racks = omega (arith, c.reverse.ensures.capacity);
  filled = λ none room. record {
    room = (let empty : length c.args.disk_sets.items ≡ 0 = ap (λ es. length es) none in omega (arith, room, empty, c.args.disk_sets.ok, c.reverse.ensures.len));
    whole = put_first (λ r. Bare r) c.args.disk_sets.items c.args.racks.items c.reverse.new.self.items none c.reverse.ensures.items;
  };
}

pub loop-rack-preserved : goal.loop-rack-preserved
loop-rack-preserved g c =
    record {
      racks = omega (arith, c.loop-rack.invariant.racks, c.pop.ensures.capacity);
      filled = λ none room.
          let was = c.loop-rack.invariant.filled none room in
          let front : c.loop-rack.racks.items ≡ c.pop.new.self.items ++ c.in-Some.rack ∷ [] = search rules in
          let long = ap (λ rs. length rs) front in
          let many = length-append c.pop.new.self.items (c.in-Some.rack ∷ []) in
          let low : vec_len c.loop-rack.disk_sets < vec_capacity c.loop-rack.disk_sets = omega (arith, was.room, long, many, c.loop-rack.racks.ok) in
          let is = c.put_rack.ensures.items low in
          record {
            room = omega (
              arith,
              was.room,
              long,
              many,
              c.loop-rack.racks.ok,
              c.pop.new.self.ok,
              c.loop-rack.disk_sets.ok,
              c.put_rack.new.disk_sets.ok,
              ap (λ es. length es) is,
              length-append c.loop-rack.disk_sets.items (Bare c.in-Some.rack ∷ []),
              c.put_rack.ensures.room,
            );
            whole = put_more (λ r. Bare r) c.loop-rack.disk_sets.items c.put_rack.new.disk_sets.items c.loop-rack.racks.items c.pop.new.self.items c.in-Some.rack front is ∙ was.whole;
          };
    }

pub returns-clause-disk_sets : goal.returns-clause-disk_sets
returns-clause-disk_sets g c = λ none room.
    let done : c.loop-rack.racks.items ≡ [] = search rules in
    put_all (λ r. Bare r) c.loop-rack.disk_sets.items c.loop-rack.racks.items c.args.racks.items done (c.loop-rack.invariant.filled none room).whole
