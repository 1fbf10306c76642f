-- The steps in which a replicated volume group is made, one behind the other.
use Rattle.std.proofs.Common.{IsFalse, ◌≡◌, ◌∙◌, ◌⊎◌, inl, inr, ⊎_elim, ℕ, ◌-◌, ◌*◌, ◌<◌, ◌≤◌, Bool, true, false, not, List, [], ◌∷◌, length, IsTrue, ap, arith, refl, subst, sym}
use Rattle.std.specs.Prelude.{◌&&◌, if◌then◌else◌, Contains, Err, IfErr, IfOk, Ok, None, Option, Result, Some, nat_le, nat_lt, sum_by}
use Rattle.std.specs.List.{list_all}
use Rattle.std.proofs.lemmas.Bool.{cases_lt}
use Rattle.vx_config.specs.Checks.{blocks_of, is_group, other_than, pairwise}
use Rattle.vx_config.specs.Table.{greatest}
use Rattle.vx_config.specs.declared.entry.VolumeEntry.{VolumeEntry}
use Rattle.vx_disk.specs.Causes.{DeviceCause, refusal_of}
use Rattle.vx_disk.specs.Racks.{IsRack}
use Rattle.vx_disk.specs.Shelf.{Goes, Meaning, Nothing}
use Rattle.vx_disk.specs.declared.shelf.Shelf.{Ghosts}
use Rattle.vx_disk.specs.declared.shelf.ShelfError.{ShelfError}
use Rattle.vx_disk.specs.declared.shelf.ShelfError.TheVariants.{Down as ShelfDown, Fault}
use Rattle.vx_disk.proofs.Causing.{Rose_before}
use Rattle.vx_group.specs.Dets.{DetStops, margin}
use Rattle.vx_group.specs.Rvgs.{set_rvg_refusal}
use Rattle.vx_group.specs.declared.group_core.GroupCore.{GroupCore}
use Rattle.vx_group.proofs.HoldLemmas.{wide_shape}
use Rattle.vx_ground.specs.Accounts.{GroundState, ground_state}
use Rattle.vx_ground.specs.Lifted.{laid_volumes}
use Rattle.vx_ground.specs.Named.{NamesGroup, named_state}
use Rattle.vx_ground.specs.Rewrites.{OneRests}
use Rattle.vx_ground.proofs.AccountLemmas.{ground_both}
use Rattle.vx_ground.proofs.NamingLemmas.{ground_named, named_ground, unnamed_ground}
use Rattle.vx_grouped.specs.GroupSites.{laid_below, laid_disks}
use Rattle.vx_grouped.specs.declared.group_site.GroupSite.TheVariants.{Up}
use Rattle.vx_grouped.specs.declared.group_site.GroupSite.{GroupSite}
use Rattle.vx_grouped.specs.declared.laid.Laid.{Laid}
use Rattle.vx_model.specs.Content.{Content}
use Rattle.vx_model.specs.Sizes.{map_blocks, ring_of}
use Rattle.vx_model.specs.declared.errors.Stop.{Stop}
use Rattle.vx_model.specs.declared.errors.Stop.TheVariants.{No as Refused, OutOfMemory}
use Rattle.vx_model.specs.declared.limits.TheConstants.{LEAST_BLOCKS, LINK_PLACES, MOST_DATA_VOLUMES}
use Rattle.vx_model.specs.declared.no.Counted.TheVariants.{Number as Numbers}
use Rattle.vx_model.specs.declared.no.No.{No}
use Rattle.vx_model.specs.declared.no.No.TheVariants.{Device, Down as IsOff, Limit, Size}
use Rattle.vx_model.specs.declared.state.State.{State}
use Rattle.vx_model.specs.declared.units.Units.{Units}
use Rattle.vx_rvg.specs.Contents.{HasSizes}
use Rattle.vx_rvg.specs.Groups.{MakeCause, new_core}
use Rattle.vx_rvg.specs.Holdings.{nothing_logged}
use Rattle.vx_rvg.specs.Stands.{HoldsContent, Stands}
use Rattle.vx_rvg.specs.Views.{Core, UnitsPlaced, unit_of}
use Rattle.vx_rvg.proofs.ReadStands.{rest_stands}
use Rattle.vx_untold.specs.Shades.{shade_rack}
use Rattle.vx_watched.specs.Since.{CalledSince}
use Rattle.vx_watched.specs.Traces.{TellsLess}
use Rattle.vx_diskset.specs.MakeSteps.{GroupWent, LogAlone, LoggedOn, MadeOn, LineStops, NamedOn, RefusedOn, StaysWith}
use Rattle.vx_diskset.specs.Works.{OnlyLog}
use Rattle.vx_diskset.proofs.OverMaking.{since_both}
use Rattle.vx_diskset.proofs.Rewriting.{is_among, place_among}

none_there : {A : Type 0} {x : A} → None ≡ Some x → ⊥
none_there e = cc

-- ---- which blocks have other values

pub alone_as : (u : Units) (m m' : Meaning) → Goes m.leaves m m' → LogAlone u m m'
alone_as u m m' goes = record { units = goes.units; size = goes.size; tells = goes.tells; leaves = λ v b x left. inl (⊎_elim (λ was. was) (λ was. was) (goes.leaves v b x left)) }

pub alone_none : (u : Units) (m m' : Meaning) → Goes Nothing m m' → LogAlone u m m'
alone_none u m m' goes = record { units = goes.units; size = goes.size; tells = goes.tells; leaves = λ v b x left. inl (⊎_elim (λ was. was) (λ none. absurd none) (goes.leaves v b x left)) }

pub alone_log : (u : Units) (m m' : Meaning) → OnlyLog u m m' → LogAlone u m m'
alone_log u m m' moves = record { units = moves.units; size = moves.size; tells = moves.tells; leaves = λ v b x left. moves.leaves v b x left }

pub alone_then : (u : Units) (m0 m1 m2 : Meaning) → LogAlone u m0 m1 → LogAlone u m1 m2 → LogAlone u m0 m2
alone_then u m0 m1 m2 one two = record {
  units = two.units ∙ one.units;
  size = λ v. two.size v ∙ one.size v;
  tells = two.tells ∙ one.tells;
  leaves = λ v b x left. ⊎_elim (λ was. one.leaves v b x was) (λ mine. inr mine) (two.leaves v b x left);
}

-- ---- why the line stops

-- a device call that failed in a later step failed in the line
pub stops_behind : (m0 m1 m2 : Meaning) → ((d : ℕ) → m0.disk_faults d ≤ m1.disk_faults d) → (why : Stop) → LineStops m1 m2 why → LineStops m0 m2 why
stops_behind m0 m1 m2 more (Refused (Device disk)) it = Rose_before (m0.disk_faults disk) (m1.disk_faults disk) (m2.disk_faults disk) (more disk) it
stops_behind m0 m1 m2 more (Refused IsOff) it = it
stops_behind m0 m1 m2 more (Refused (Limit what most)) it = it
stops_behind m0 m1 m2 more OutOfMemory it = it
stops_behind m0 m1 m2 more (Refused other) it = absurd it

-- a device call that failed
stops_device : (m m' : Meaning) (why : No) → DeviceCause m m' why → LineStops m m' (Refused why)
stops_device m m' (Device disk) it = it
stops_device m m' IsOff it = it
stops_device m m' other it = absurd it

pub stops_rewrite : (m m' : Meaning) (e : ShelfError) → DeviceCause m m' (refusal_of e) → LineStops m m' (Refused (refusal_of e))
stops_rewrite m m' (Fault disk) it = it
stops_rewrite m m' ShelfDown it = it

pub stops_log : (m m' : Meaning) (why : Stop) → MakeCause m m' why → LineStops m m' why
stops_log m m' (Refused why) it = stops_device m m' why it
stops_log m m' OutOfMemory it = tt

stops_commit : (m m' : Meaning) (why : Stop) → DetStops {T = Unit {0}} m m' (Err why) → LineStops m m' why
stops_commit m m' (Refused why) it = stops_device m m' why it
stops_commit m m' OutOfMemory it = absurd it

err_same : (a b : Stop) → ◌≡◌ {A = Result (Unit {0}) Stop} (Err a) (Err b) → a ≡ b
err_same a b is = cc

limit_same : (w : No) → Some (Limit Numbers greatest) ≡ Some w → Limit Numbers greatest ≡ w
limit_same w is = cc

-- where the volumes may be named a test refuses for want of serials alone
refused_late : (late : Bool) (may : Bool) (w : No) → may ≡ true → (if late then Some (Limit Numbers greatest) else (if not may then Some Size else None)) ≡ Some w → Limit Numbers greatest ≡ w
refused_late true may w is some = limit_same w some
refused_late false true w is some = absurd (let clash : None ≡ Some w = some in cc)
refused_late false false w is some = absurd (let clash : false ≡ true = is in cc)

stops_test : (m m' : Meaning) (why : Stop) (w : No) → why ≡ Refused w → Limit Numbers greatest ≡ w → LineStops m m' why
stops_test m m' why w is same = subst (λ (s : Stop). LineStops m m' s) (sym (is ∙ ap (λ (x : No). Refused x) (sym same))) (refl, refl)

pub stops_name : (u : Units) (c : GroupCore) (m : Meaning) (d : GroupCore) (m' : Meaning) (why : Stop) → is_group c.inner.config.volumes u ≡ true → NamesGroup u c m d m' (Err why) → (o : Option No) → set_rvg_refusal c.inner.config u ≡ o → LineStops m m' why
stops_name u c m d m' why may it None is = stops_commit m m' why (it.cause is)
stops_name u c m d m' why may it (Some w) is =
    stops_test m m' why w (err_same why (Refused w) (it.refused w is).0) (refused_late (nat_lt (greatest - margin) c.inner.config.serial) (is_group c.inner.config.volumes u) w may is)

-- ---- whether volumes may be named

-- by how many volumes there are and how large each is
abbrev group_by : ℕ → (ℕ → ℕ) → Units → Bool
group_by n f u =
    nat_le 1 (length u.vols) && nat_le (length u.vols) MOST_DATA_VOLUMES
    && list_all (λ k. nat_lt k n) (u.srl ∷ (u.maps ∷ u.vols))
    && pairwise other_than (u.srl ∷ (u.maps ∷ u.vols))
    && nat_le LEAST_BLOCKS (f u.srl)
    && nat_le (LINK_PLACES * sum_by (λ k. map_blocks (f k)) u.vols) (f u.maps)

pub may_same : (vs us : List VolumeEntry) (u : Units) → length us ≡ length vs → blocks_of us ≡ blocks_of vs → is_group vs u ≡ true → is_group us u ≡ true
may_same vs us u count blocks may = ap (λ (k : ℕ). group_by k (blocks_of us) u) count ∙ ap (λ (f : ℕ → ℕ). group_by (length vs) f u) blocks ∙ may

module _ {R : Type 0} {g : Ghosts R} where
  -- behind calls that change neither how many volumes there are nor how large they are
  pub may_then : (u : Units) (l k : Laid R g) → (laid_volumes k).units ≡ (laid_volumes l).units → ((v : ℕ) → (laid_volumes k).size v ≡ (laid_volumes l).size v) → is_group l.core.inner.config.volumes u ≡ true
      → is_group k.core.inner.config.volumes u ≡ true
  may_then u l k units size may =
      let blocks : blocks_of k.core.inner.config.volumes ≡ blocks_of l.core.inner.config.volumes = λ t. λ v. (sym ((wide_shape k.core).blocks v) ∙ size v ∙ (wide_shape l.core).blocks v) t in
      may_same l.core.inner.config.volumes k.core.inner.config.volumes u (sym (wide_shape k.core).volumes ∙ units ∙ (wide_shape l.core).volumes) blocks may

  -- ---- accounts

  pub went_then : (first : GroundState) (l m k : Laid R g) → GroupWent first l m → GroupWent (ground_state m.core) m k → GroupWent first l k
  went_then first l m k one two = record {
    ground = ground_both first (ground_state m.core) (ground_state k.core) (laid_disks l) (laid_disks m) (laid_disks k) one.ground two.ground;
    since = since_both (laid_disks l) (laid_disks m) (laid_disks k) one.since two.since;
    told = λ told. one.told (two.told told);
  }

  went_named : (u : Units) (l m k : Laid R g) → GroupWent (ground_state l.core) l m → GroupWent (named_state u (ground_state m.core)) m k → GroupWent (named_state u (ground_state l.core)) l k
  went_named u l m k one two = record {
    ground = ground_both (named_state u (ground_state l.core)) (named_state u (ground_state m.core)) (ground_state k.core) (laid_disks l) (laid_disks m) (laid_disks k)
        (ground_named u (ground_state l.core) (ground_state m.core) (laid_disks l) (laid_disks m) one.ground) two.ground;
    since = since_both (laid_disks l) (laid_disks m) (laid_disks k) one.since two.since;
    told = λ told. one.told (two.told told);
  }

  -- ---- the line

  module _ (rackful : (s : R) → IsRack (g.meaning s)) (u : Units) (l k : Laid R g) (r : Result (Unit {0}) Stop) (names : NamesGroup u l.core (laid_disks l) k.core (laid_disks k) r)
      (since : CalledSince (laid_disks l) (laid_disks k)) (told : TellsLess (laid_below l) (laid_below k)) where
    first : (d : ℕ) → (laid_disks l).disk_faults d ≡ (laid_disks l).faults d
    first = (shade_rack g.meaning rackful l.shelf).counts

    last : (d : ℕ) → (laid_disks k).disk_faults d ≡ (laid_disks k).faults d
    last = (shade_rack g.meaning rackful k.shelf).counts

    -- the commit was done
    pub named_on : (x : Unit {0}) → r ≡ Ok x → IsFalse (laid_disks k).down → NamedOn u l (Up k)
    named_on x is up = record {
      last = k;
      is = refl;
      went = record { ground = named_ground u l.core k.core (laid_disks l) (laid_disks k) first last r x is names; since = since; told = told };
      goes = names.goes;
      up = up;
    }

    -- or refused
    pub refused_name : (why : Stop) → r ≡ Err why → is_group l.core.inner.config.volumes u ≡ true → (below : GroupSite R g) (stop : Stop) → StaysWith k why below stop → RefusedOn u l below stop
    refused_name why is may below stop stays = record {
      last = k;
      why = why;
      went = record { ground = unnamed_ground u l.core k.core (laid_disks l) (laid_disks k) first last r why is names; since = since; told = told };
      alone = alone_none u (laid_volumes l) (laid_volumes k) names.goes;
      stops = stops_name u l.core (laid_disks l) k.core (laid_disks k) why may (subst (λ (y : Result (Unit {0}) Stop). NamesGroup u l.core (laid_disks l) k.core (laid_disks k) y) is names) (set_rvg_refusal l.core.inner.config u) refl;
      stays = stays;
    }

  -- the log could not be begun
  pub refused_log : (u : Units) (l k : Laid R g) (why : Stop) (below : GroupSite R g) (stop : Stop) → GroupWent (ground_state l.core) l k → OnlyLog u (laid_volumes l) (laid_volumes k) → MakeCause (laid_volumes l) (laid_volumes k) why → StaysWith k why below stop
      → RefusedOn u l below stop
  refused_log u l k why below stop went moves cause stays = record {
    last = k;
    why = why;
    went = went;
    alone = alone_log u (laid_volumes l) (laid_volumes k) moves;
    stops = stops_log (laid_disks l) (laid_disks k) why (as_disks why cause);
    stays = stays;
  }
    where
      as_disks : (s : Stop) → MakeCause (laid_volumes l) (laid_volumes k) s → MakeCause (laid_disks l) (laid_disks k) s
      as_disks (Refused (Device disk)) it = it
      as_disks (Refused IsOff) it = it
      as_disks (Refused other) it = absurd it
      as_disks OutOfMemory it = tt

  -- nor the volumes be written
  pub refused_rewrite : (u : Units) (l k : Laid R g) (e : ShelfError) (below : GroupSite R g) (stop : Stop) → GroupWent (ground_state l.core) l k → Goes (laid_volumes l).leaves (laid_volumes l) (laid_volumes k)
      → DeviceCause (laid_volumes l) (laid_volumes k) (refusal_of e) → StaysWith k (Refused (refusal_of e)) below stop → RefusedOn u l below stop
  refused_rewrite u l k e below stop went goes cause stays = record {
    last = k;
    why = Refused (refusal_of e);
    went = went;
    alone = alone_as u (laid_volumes l) (laid_volumes k) goes;
    stops = stops_rewrite (laid_disks l) (laid_disks k) e (as_disks e cause);
    stays = stays;
  }
    where
      as_disks : (x : ShelfError) → DeviceCause (laid_volumes l) (laid_volumes k) (refusal_of x) → DeviceCause (laid_disks l) (laid_disks k) (refusal_of x)
      as_disks (Fault disk) it = it
      as_disks ShelfDown it = it

  -- it stopped in a later step
  pub refused_behind : (u : Units) (l m : Laid R g) (below : GroupSite R g) (stop : Stop) → GroupWent (ground_state l.core) l m → LogAlone u (laid_volumes l) (laid_volumes m) → RefusedOn u m below stop → RefusedOn u l below stop
  refused_behind u l m below stop went alone it = record {
    last = it.last;
    why = it.why;
    went = went_then (ground_state l.core) l m it.last went it.went;
    alone = alone_then u (laid_volumes l) (laid_volumes m) (laid_volumes it.last) alone it.alone;
    stops = stops_behind (laid_disks l) (laid_disks m) (laid_disks it.last) went.since.counts it.why it.stops;
    stays = it.stays;
  }

  -- the log was begun, and then it was named
  pub logged_named : (u : Units) (state : State) (l m : Laid R g) (below : GroupSite R g) (core k : Core) → GroupWent (ground_state l.core) l m → OnlyLog u (laid_volumes l) (laid_volumes m)
      → core ≡ new_core u state (ring_of ((laid_volumes l).size u.srl)) core.maps → (IsTrue (laid_volumes l).tells → (c : Content) (maps : List (List ℕ)) → HoldsContent u c maps (laid_volumes l) → Stands core (nothing_logged c maps) (laid_volumes m))
      → (k ≡ core) × NamedOn u m below → LoggedOn u state l below k
  logged_named u state l m below core k went moves is stands (same, it) = subst (λ (x : Core). LoggedOn u state l below x) (sym same) (record {
    last = it.last;
    is = it.is;
    went = went_named u l m it.last went it.went;
    alone = alone_then u (laid_volumes l) (laid_volumes m) (laid_volumes it.last) (alone_log u (laid_volumes l) (laid_volumes m) moves) (alone_none u (laid_volumes m) (laid_volumes it.last) it.goes);
    up = it.up;
    core_is = is;
    stands = λ told c holds. rest_stands core (laid_volumes m) (laid_volumes it.last) it.goes it.up (nothing_logged c []) (stands told c [] holds);
  })

  -- the data volumes were written as they read, and then the log was begun
  module _ (u : Units) (state : State) (l m : Laid R g) (below : GroupSite R g) (core : Core) (went : GroupWent (ground_state l.core) l m) (goes : Goes (laid_volumes l).leaves (laid_volumes l) (laid_volumes m))
      (ones : (v : ℕ) → Contains u.vols v → OneRests v (laid_volumes m)) (placed : UnitsPlaced u (laid_volumes m)) (it : LoggedOn u state m below core) where
    -- what a crash leaves of them it might leave then
    left_then : (v b : ℕ) (x : List ℕ) → (v ≡ u.srl → ⊥) → (laid_volumes it.last).leaves v b x → (laid_volumes m).leaves v b x
    left_then v b x aside left = ⊎_elim (λ was. was) (λ mine. absurd (aside mine)) (it.alone.leaves v b x left)

    off_log : (v : ℕ) → Contains u.vols v → v ≡ u.srl → ⊥
    off_log v among same = placed.apart among.0 among.1 (place_among u.vols v among ∙ same)

    one_last : (v : ℕ) → Contains u.vols v → OneRests v (laid_volumes it.last)
    one_last v among = record {
      one = λ b x y low here there. (ones v among).one b x y (let same = it.alone.size v in omega (arith, low, same)) (left_then v b x (off_log v among) here) (left_then v b y (off_log v among) there);
    }

    module _ (c : Content) (sizes : HasSizes u.vols c (laid_volumes it.last)) (chosen : (v b : ℕ) → b < c.size v → (laid_volumes it.last).leaves (unit_of u.vols v) b (c.block v b)) where
      -- a volume with a block is one of them
      there : (v b : ℕ) → b < c.size v → v < length u.vols
      there v b low = ⊎_elim (λ is. is) (λ high. absurd (let none = sizes.none v high in omega (arith, low, none))) (cases_lt v (length u.vols))

      size_then : (v : ℕ) → v < length u.vols → c.size v ≡ (laid_volumes m).size (unit_of u.vols v)
      size_then v low = sizes.each v low ∙ it.alone.size (unit_of u.vols v)

      holds_then : HoldsContent u c [] (laid_volumes m)
      holds_then = record {
        sizes = record { each = size_then; none = sizes.none };
        blocks = λ v b low.
            let at : v < length u.vols = there v b low in
            let among : Contains u.vols (unit_of u.vols v) = is_among u.vols v at in
            record {
              only = λ y left. (ones (unit_of u.vols v) among).one b y (c.block v b) (let same = size_then v at in omega (arith, low, same)) left (left_then (unit_of u.vols v) b (c.block v b) (off_log (unit_of u.vols v) among) (chosen v b low));
            };
        maps_are = record { size = omega arith; each = λ b bytes none. absurd (none_there none) };
      }

    pub made_logged : MadeOn u state l below core
    made_logged = record {
      last = it.last;
      is = it.is;
      went = went_named u l m it.last went it.went;
      alone = alone_then u (laid_volumes l) (laid_volumes m) (laid_volumes it.last) (alone_as u (laid_volumes l) (laid_volumes m) goes) it.alone;
      up = it.up;
      core_is = it.core_is ∙ ap (λ (k : ℕ). new_core u state (ring_of k) core.maps) (goes.size u.srl);
      one = one_last;
      stands = λ told c sizes chosen. it.stands (sym it.alone.tells ∙ told) c (holds_then c sizes chosen);
    }

  -- ---- the steps by their answers

  pub refused_rewritten : (u : Units) (l k : Laid R g) (e : ShelfError) (w : No) (below : GroupSite R g) (stop : Stop) → w ≡ refusal_of e → GroupWent (ground_state l.core) l k → Goes (laid_volumes l).leaves (laid_volumes l) (laid_volumes k)
      → DeviceCause (laid_volumes l) (laid_volumes k) (refusal_of e) → StaysWith k (Refused w) below stop → RefusedOn u l below stop
  refused_rewritten u l k e w below stop is went goes cause stays = refused_rewrite u l k e below stop went goes cause (subst (λ (x : No). StaysWith k (Refused x) below stop) is stays)

  pub refused_after : (u : Units) (l m : Laid R g) (below : GroupSite R g) (r : Result Core Stop) → GroupWent (ground_state l.core) l m → LogAlone u (laid_volumes l) (laid_volumes m) → IfErr r (λ stop. RefusedOn u m below stop)
      → IfErr r (λ stop. RefusedOn u l below stop)
  refused_after u l m below (Ok k) went alone it = tt
  refused_after u l m below (Err stop) went alone it = refused_behind u l m below stop went alone it

  pub logged_after : (u : Units) (state : State) (l m : Laid R g) (below : GroupSite R g) (core : Core) (r : Result Core Stop) → GroupWent (ground_state l.core) l m → OnlyLog u (laid_volumes l) (laid_volumes m)
      → core ≡ new_core u state (ring_of ((laid_volumes l).size u.srl)) core.maps → (IsTrue (laid_volumes l).tells → (c : Content) (maps : List (List ℕ)) → HoldsContent u c maps (laid_volumes l) → Stands core (nothing_logged c maps) (laid_volumes m))
      → IfOk r (λ k. (k ≡ core) × NamedOn u m below) → IfOk r (λ k. LoggedOn u state l below k)
  logged_after u state l m below core (Ok k) went moves is stands it = logged_named u state l m below core k went moves is stands it
  logged_after u state l m below core (Err stop) went moves is stands it = tt

  pub made_after : (u : Units) (state : State) (l m : Laid R g) (below : GroupSite R g) (r : Result Core Stop) → GroupWent (ground_state l.core) l m → Goes (laid_volumes l).leaves (laid_volumes l) (laid_volumes m)
      → ((v : ℕ) → Contains u.vols v → OneRests v (laid_volumes m)) → UnitsPlaced u (laid_volumes m) → IfOk r (λ k. LoggedOn u state m below k) → IfOk r (λ k. MadeOn u state l below k)
  made_after u state l m below (Ok k) went goes ones placed it = made_logged u state l m below k went goes ones placed it
  made_after u state l m below (Err stop) went goes ones placed it = tt
