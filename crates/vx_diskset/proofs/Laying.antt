-- How a site lies on its disks, past calls that leave their number and sizes alone, and of a raw set as it is made.
use Rattle.std.proofs.Common.{◌≡◌, ◌∙◌, ℕ, zero, suc, ◌+◌, ◌-◌, ◌*◌, ◌<◌, ◌≤◌, true, List, [], ◌++◌, length, take, ap, sym, subst, refl, arith}
use Rattle.std.specs.Fmt.{decimal}
use Rattle.std.specs.Prelude.{None, Option, Some, slice_get, slice_index, codes}
use Rattle.std.proofs.Math.Seq.{take-suc}
use Rattle.std.proofs.lemmas.Bool.Decides.{nat_tests}
use Rattle.std.proofs.lemmas.Option.{slice_get_within}
use Rattle.vx_disk.specs.Maps.{maps_of}
use Rattle.vx_model.specs.Content.{Content}
use Rattle.vx_model.specs.Sizes.{map_blocks, ring_of}
use Rattle.vx_model.specs.declared.limits.TheConstants.{LINK_PLACES, MOST_DISKS}
use Rattle.vx_model.specs.declared.units.Units.{Units}
use Rattle.vx_history.specs.Steps.{raw_volumes, raw_content}
use Rattle.vx_events.specs.GroupViews.{config_of}
use Rattle.vx_events.specs.RvgNotes.{inside_of}
use Rattle.vx_history.specs.Groups.{GroupNode}
use Rattle.vx_history.specs.World.{Node, Volume}
use Rattle.vx_disk.specs.Moves.{Blocks, Says, Moves}
use Rattle.vx_disk.specs.Shelf.{Meaning}
use Rattle.vx_rvg.specs.Contents.{HasSizes}
use Rattle.vx_rvg.specs.Views.{unit_of}
use Rattle.std.proofs.lemmas.Nat.{mul-le}
use Rattle.std.proofs.lemmas.List.Sums.{sum_by-cons, sum_by_push}
use Rattle.vx_events.specs.Facts.{values_from}
use Rattle.vx_events.proofs.Values.{length-values_from, slice_index-values_from, values_from-push}
use Rattle.vx_diskset.specs.Layouts.{CanBeRaw, IsLaid, IsRaw, LiesBy, LiesOn, LiesRaw, config_units, maps_room, raw_units, units_by, units_of}

-- ---- past a call

pub laid_as : (u : Units) (ring : ℕ) (volumes : List Volume) (sizes : ℕ → ℕ) (m new : Meaning) → ((k : ℕ) → new.size k ≡ m.size k) → IsLaid u ring volumes sizes m → IsLaid u ring volumes sizes new
laid_as u ring volumes sizes m new size laid = record {
  large = omega (arith, laid.large, size u.srl);
  ring_is = laid.ring_is ∙ ap ring_of (sym (size u.srl));
  some = laid.some;
  few = laid.few;
  count = laid.count;
  named = laid.named;
  each = λ v there. laid.each v there ∙ sym (size (unit_of u.vols v));
  none = laid.none;
}

-- what both say of the units
laid_by : (o : Option GroupNode) (n : Node) (sizes : ℕ → ℕ) (m : Meaning) → LiesBy o n.disks n.blocks n.ring n.volumes sizes m → IsLaid (units_by o n.disks) n.ring n.volumes sizes m
laid_by None n sizes m lies = lies.laid
laid_by (Some note) n sizes m lies = lies.laid

pub laid_in : (n : Node) (m : Meaning) → LiesOn n m → IsLaid (units_of n) n.ring n.volumes n.base.size m
laid_in n m lies = laid_by n.group n n.base.size m lies

-- over a group its volumes are there
there_by : (o : Option GroupNode) (n : Node) (sizes : ℕ → ℕ) (m : Meaning) → (o ≡ None → ⊥) → LiesBy o n.disks n.blocks n.ring n.volumes sizes m → (k : ℕ) → inside_of (units_by o n.disks) k ≡ true → k < m.units
there_by None n sizes m over lies k is = absurd (over refl)
there_by (Some note) n sizes m over lies k is = lies.there k is

pub over_there : (n : Node) (m : Meaning) → (n.group ≡ None → ⊥) → LiesOn n m → (k : ℕ) → inside_of (units_of n) k ≡ true → k < m.units
over_there n m over lies = there_by n.group n n.base.size m over lies

-- of a site that is over no group
pub units_raw : (n : Node) → n.group ≡ None → units_of n ≡ raw_units n.disks
units_raw n none = ap (λ (o : Option GroupNode). units_by o n.disks) none

pub raw_as : (disks blocks ring : ℕ) (volumes : List Volume) (sizes : ℕ → ℕ) (m new : Meaning) → new.units ≡ m.units → ((k : ℕ) → new.size k ≡ m.size k) → IsRaw disks blocks ring volumes sizes m → IsRaw disks blocks ring volumes sizes new
raw_as disks blocks ring volumes sizes m new units size lies = record {
  units = units ∙ lies.units;
  size = λ u there. size u ∙ lies.size u there;
  can = lies.can;
  few = lies.few;
  laid = laid_as (raw_units disks) ring volumes sizes m new size lies.laid;
}

pub raw_in : (n : Node) (m : Meaning) → n.group ≡ None → LiesOn n m → LiesRaw n m
raw_in n m none lies = subst (λ (o : Option GroupNode). LiesBy o n.disks n.blocks n.ring n.volumes n.base.size m) none lies

pub raw_on : (n : Node) (m : Meaning) → n.group ≡ None → LiesRaw n m → LiesOn n m
raw_on n m none lies = subst (λ (o : Option GroupNode). LiesBy o n.disks n.blocks n.ring n.volumes n.base.size m) (sym none) lies

lies_by : (o : Option GroupNode) (n : Node) (sizes : ℕ → ℕ) (m new : Meaning) → new.units ≡ m.units → ((k : ℕ) → new.size k ≡ m.size k) → LiesBy o n.disks n.blocks n.ring n.volumes sizes m → LiesBy o n.disks n.blocks n.ring n.volumes sizes new
lies_by None n sizes m new units size lies = raw_as n.disks n.blocks n.ring n.volumes sizes m new units size lies
lies_by (Some note) n sizes m new units size lies = record {
  laid = laid_as (config_units (config_of note.config)) n.ring n.volumes sizes m new size lies.laid;
  there = λ k is. (let low = lies.there k is in omega (arith, low, units));
}

pub lies_as : (n : Node) (m new : Meaning) → new.units ≡ m.units → ((k : ℕ) → new.size k ≡ m.size k) → LiesOn n m → LiesOn n new
lies_as n m new units size lies = lies_by n.group n n.base.size m new units size lies

pub lies_moved : (n : Node) (mine : Blocks) (P : Says) (m new : Meaning) → Moves mine P m new → LiesOn n m → LiesOn n new
lies_moved n mine P m new moves lies = lies_as n m new moves.units moves.size lies

-- with another content of the same sizes
pub laid_sized : (u : Units) (ring : ℕ) (volumes : List Volume) (was sizes : ℕ → ℕ) (m : Meaning) → ((v : ℕ) → sizes v ≡ was v) → IsLaid u ring volumes was m → IsLaid u ring volumes sizes m
laid_sized u ring volumes was sizes m same laid = record {
  large = laid.large;
  ring_is = laid.ring_is;
  some = laid.some;
  few = laid.few;
  count = laid.count;
  named = λ v x at. same v ∙ laid.named v x at;
  each = λ v there. same v ∙ laid.each v there;
  none = λ v past. same v ∙ laid.none v past;
}

sized_by : (o : Option GroupNode) (n : Node) (was sizes : ℕ → ℕ) (m : Meaning) → ((v : ℕ) → sizes v ≡ was v) → LiesBy o n.disks n.blocks n.ring n.volumes was m → LiesBy o n.disks n.blocks n.ring n.volumes sizes m
sized_by None n was sizes m same lies = record { units = lies.units; size = lies.size; can = lies.can; few = lies.few; laid = laid_sized (raw_units n.disks) n.ring n.volumes was sizes m same lies.laid }
sized_by (Some note) n was sizes m same lies = record { laid = laid_sized (config_units (config_of note.config)) n.ring n.volumes was sizes m same lies.laid; there = lies.there }

pub lies_sized : (n : Node) (sizes : ℕ → ℕ) (m : Meaning) → ((v : ℕ) → sizes v ≡ n.base.size v) → LiesOn n m → LiesBy n.group n.disks n.blocks n.ring n.volumes sizes m
lies_sized n sizes m same lies = sized_by n.group n n.base.size sizes m same lies

-- of a raw set
pub raw_sized : (n : Node) (sizes : ℕ → ℕ) (m : Meaning) → n.group ≡ None → ((v : ℕ) → sizes v ≡ n.base.size v) → LiesOn n m → IsRaw n.disks n.blocks n.ring n.volumes sizes m
raw_sized n sizes m none same lies = subst (λ (o : Option GroupNode). LiesBy o n.disks n.blocks n.ring n.volumes sizes m) none (lies_sized n sizes m same lies)

-- the content has the sizes of its units
pub sizes_of : (u : Units) (ring : ℕ) (volumes : List Volume) (c : Content) (m : Meaning) → IsLaid u ring volumes c.size m → HasSizes u.vols c m
sizes_of u ring volumes c m laid = record {
  each = λ v there. laid.each v (omega (arith, there, laid.count));
  none = λ v past. laid.none v (omega (arith, past, laid.count));
}

-- ---- the maps of a raw set

-- so many disks of the same size
maps_from : (k n blocks : ℕ) (m : Meaning) → ((i : ℕ) → i < n → m.size (k + i) ≡ blocks) → maps_of (values_from (λ j. j) k n) m ≡ n * map_blocks blocks
maps_from k zero blocks m same = let none : maps_of [] m ≡ 0 = refl in omega (arith, none)
maps_from k (suc n) blocks m same =
    let front = sum_by-cons (λ (u : ℕ). map_blocks (m.size u)) k (values_from (λ j. j) (k + 1) n) in
    let here : map_blocks (m.size k) ≡ map_blocks blocks = ap (λ (s : ℕ). map_blocks s) (ap m.size (omega arith) ∙ same 0 (omega arith)) in
    let rest = maps_from (k + 1) n blocks m (λ i low. ap m.size (omega arith) ∙ same (suc i) (omega (arith, low))) in
    omega (arith, front, here, rest)

-- one disk more
pub maps_more : (n : ℕ) (m : Meaning) → maps_of (values_from (λ j. j) 1 (suc n)) m ≡ maps_of (values_from (λ j. j) 1 n) m + map_blocks (m.size (1 + n))
maps_more n m =
    ap (λ (us : List ℕ). maps_of us m) (values_from-push (λ j. j) 1 n) ∙ sum_by_push (λ (u : ℕ). map_blocks (m.size u)) (values_from (λ j. j) 1 n) (1 + n)

-- disks of one size that can be a raw set have room for its maps
pub maps_fit : (disks blocks : ℕ) (m : Meaning) → CanBeRaw disks blocks → ((u : ℕ) → u < disks → m.size u ≡ blocks) → LINK_PLACES * maps_of (raw_units disks).vols m ≤ m.size (raw_units disks).maps
maps_fit disks blocks m can size =
    let all = maps_from 1 (disks - 2) blocks m (λ i low. size (1 + i) (omega (arith, low))) in
    let last = size (disks - 1) (omega (arith, can.some)) in
    omega (arith, all, last, can.maps)

-- one volume more
pub maps_next : (m : Meaning) (vols : List ℕ) (k : ℕ) → k < length vols → maps_of (take (k + 1) vols) m ≡ maps_of (take k vols) m + map_blocks (m.size (slice_index vols k))
maps_next m vols k low =
    let next : k + 1 ≡ suc k = omega arith in
    ap (λ (n : ℕ). maps_of (take n vols) m) next ∙ ap (λ (xs : List ℕ). maps_of xs m) (take-suc vols k 0 low) ∙ sum_by_push (λ (u : ℕ). map_blocks (m.size u)) (take k vols) (slice_index vols k)

-- and those maps are no more than those of the most volumes
pub maps_few : (disks blocks : ℕ) (m : Meaning) → CanBeRaw disks blocks → disks ≤ MOST_DISKS → ((u : ℕ) → u < disks → m.size u ≡ blocks) → LINK_PLACES * maps_of (raw_units disks).vols m ≤ maps_room blocks
maps_few disks blocks m can few size =
    let all = maps_from 1 (disks - 2) blocks m (λ i low. size (1 + i) (omega (arith, low))) in
    let most = mul-le (disks - 2) (map_blocks blocks) 6 (map_blocks blocks) (omega (arith, few)) (omega arith) in
    omega (arith, all, most)

-- ---- a raw set as it is made

pub length-raw_volumes : (k n blocks : ℕ) → length (raw_volumes k n blocks) ≡ n
length-raw_volumes k zero blocks = refl
length-raw_volumes k (suc n) blocks = ap suc (length-raw_volumes (k + 1) n blocks)

pub raw_volumes-whole : (k n blocks v : ℕ) (x : Volume) → slice_get (raw_volumes k n blocks) v ≡ Some x → x.blocks ≡ blocks
raw_volumes-whole k zero blocks v x e = absurd (cc)
raw_volumes-whole k (suc n) blocks zero x e = ap (λ (y : Volume). y.blocks) (let is : x ≡ record { name = codes "d" ++ decimal k; blocks = blocks } = cc in is)
raw_volumes-whole k (suc n) blocks (suc v) x e = raw_volumes-whole (k + 1) n blocks v x e

pub raw_size : (disks blocks v : ℕ) → v < disks - 2 → (raw_content disks blocks).size v ≡ blocks
raw_size disks blocks v h = grind (arith, nat_tests)

pub raw_none : (disks blocks v : ℕ) → disks - 2 ≤ v → (raw_content disks blocks).size v ≡ 0
raw_none disks blocks v h = grind (arith, nat_tests)

-- so many disks of so many blocks hold it
pub raw_lies : (disks blocks : ℕ) (m : Meaning) → CanBeRaw disks blocks → disks ≤ 8 → 8 ≤ blocks → m.units ≡ disks → ((u : ℕ) → u < disks → m.size u ≡ blocks)
    → IsRaw disks blocks (ring_of blocks) (raw_volumes 1 (disks - 2) blocks) (raw_content disks blocks).size m
raw_lies disks blocks m can few large units size = record {
  units = units;
  size = size;
  can = can;
  few = few;
  laid = record {
    large = omega (arith, large, first);
    ring_is = ap ring_of (sym first);
    some = omega (arith, many, can.some);
    few = omega (arith, few, many);
    count = length-values_from (λ (j : ℕ). j) 1 (disks - 2) ∙ sym many;
    named = λ v x at.
        let inside : v < disks - 2 = omega (arith, slice_get_within (raw_volumes 1 (disks - 2) blocks) v x at, many) in
        raw_size disks blocks v inside ∙ sym (raw_volumes-whole 1 (disks - 2) blocks v x at);
    each = λ v there.
        let inside : v < disks - 2 = omega (arith, there, many) in
        raw_size disks blocks v inside ∙ sym (ap m.size (slice_index-values_from 1 (disks - 2) v inside) ∙ size (1 + v) (omega (arith, inside, can.some)));
    none = λ v past. raw_none disks blocks v (omega (arith, past, many));
  };
}
  where
    first : m.size 0 ≡ blocks
    first = size 0 (omega (arith, can.some))

    many : length (raw_volumes 1 (disks - 2) blocks) ≡ disks - 2
    many = length-raw_volumes 1 (disks - 2) blocks
