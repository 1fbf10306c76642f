-- What stands after calls that change no contents, and of a raw set as it is made.
use Rattle.std.proofs.Common.{inl, ◌≡◌, ◌∙◌, ◌+◌, ◌-◌, ◌*◌, ◌<◌, ◌≤◌, ℕ, zero, suc, List, [], length, ap, ⊎_elim, sym, subst, refl, arith, IsTrue}
use Rattle.std.specs.Prelude.{IsFalse, Option, Some, None, slice_get, replicate}
use Rattle.std.proofs.lemmas.List.{length-replicate}
use Rattle.vx_disk.specs.Maps.{maps_of}
use Rattle.vx_diskset.specs.Holds.{KeptBeside}
use Rattle.vx_disk.specs.Causes.{WithDisks, OnDisks}
use Rattle.vx_disk.specs.Disks.{Disks, Untouched}
use Rattle.std.proofs.lemmas.Bool.{cases_lt}
use Rattle.vx_history.specs.World.{Node, Fuse, NoFuse, FuseSet, FuseLit}
use Rattle.vx_model.specs.Content.{Content, zero_block}
use Rattle.vx_history.specs.Steps.{raw_set, raw_content}
use Rattle.vx_model.specs.Sizes.{ring_of}
use Rattle.std.proofs.lemmas.List.Elements.{All-nil}
use Rattle.vx_srlfmt.specs.Headers.{CanSpellState, CanSpellLink}
use Rattle.vx_model.specs.States.{first_state}
use Rattle.vx_model.specs.declared.units.Units.{Units}
use Rattle.vx_model.specs.declared.state.State.{State}
use Rattle.vx_disk.specs.Shelf.{Meaning, Image, Lawful, Goes, Nothing, Keeps}
use Rattle.vx_disk.specs.Moves.{Moves, Run, Anything}
use Rattle.vx_disk.proofs.Moving.{kept_beside}
use Rattle.vx_rvg.specs.Views.{Core, UnitsPlaced, unit_of, last_of}
use Rattle.vx_model.specs.declared.limits.TheConstants.{LINK_PLACES}
use Rattle.vx_rvg.specs.Groups.{new_core, MakeCause}
use Rattle.vx_srl.specs.Views.{widths}
use Rattle.vx_disk.specs.Counts.{Rose}
use Rattle.vx_disk.specs.declared.shelf.Shelf.{Ghosts}
use Rattle.vx_model.specs.declared.errors.Stop.{Stop}
use Rattle.vx_model.specs.declared.errors.Stop.TheVariants.{No as Refused, OutOfMemory}
use Rattle.vx_model.specs.declared.no.No.TheVariants.{Device, Down}
use Rattle.vx_diskset.specs.declared.disk_set.DiskSet.{DiskSet}
use Rattle.vx_diskset.specs.declared.disk_set.DiskSet.TheVariants.{Spoiled}
use Rattle.vx_diskset.specs.DiskSets.{MadeIs}
use Rattle.std.specs.Prelude.{Err}
use Rattle.vx_rvg.specs.Holdings.{nothing_logged}
use Rattle.vx_rvg.specs.Stands.{HoldsContent, Stands}
use Rattle.vx_rvg.proofs.ReadStands.{rest_stands}
use Rattle.vx_diskset.proofs.CrashGroup.{site_sizes}
use Rattle.vx_diskset.specs.Lasts.{StandsHolding}
use Rattle.vx_diskset.proofs.BesideLemmas.{may_same, never_besides}
use Rattle.vx_diskset.proofs.LastWrites.{stands_with, still_with}
use Rattle.vx_diskset.proofs.NeedLemmas.{none_of, takes_none}
use Rattle.vx_diskset.proofs.StaysUp.{never_both, told_now, fitted_moved, stays_up, writes_found}
use Rattle.vx_diskset.specs.Holds.{site_alone, state_with}
use Rattle.vx_diskset.specs.Layouts.{raw_units, CanBeRaw, units_of}
use Rattle.vx_diskset.proofs.Laying.{laid_in, lies_as, raw_lies, raw_none, raw_on, raw_size, units_raw}
use Rattle.vx_diskset.specs.Fuses.{FuseOn, LetsOn}
use Rattle.vx_diskset.specs.Stands.{IsFitted, IsBareAt, bare_with, IsUpAt, faults_at}
use Rattle.vx_events.proofs.Places.{never_some, some_same}
use Rattle.vx_events.proofs.Values.{length-values_from, slice_index-values_from}

pub keeps_still : (m new : Meaning) (u b : ℕ) (x : List ℕ) → Goes Nothing m new → Keeps m u b x → Keeps new u b x
keeps_still m new u b x goes keeps = record { only = λ v left. ⊎_elim (λ was. keeps.only v was) (λ none. absurd none) (goes.leaves u b v left) }

pub fitted_still : (disks blocks : ℕ) (m new : Meaning) → Goes Nothing m new → new.down ≡ m.down → IsFitted disks blocks m → IsFitted disks blocks new
fitted_still disks blocks m new goes down fitted = record {
  units = goes.units ∙ fitted.units;
  size = λ u there. goes.size u ∙ fitted.size u there;
  up = down ∙ fitted.up;
}

lets_still : (calls : ℕ) (old new : Option Disks) (P : Disks → Disks → Type 0) → ((o n : Disks) → P o n → n.fuse ≡ o.fuse) → WithDisks old new P → LetsOn calls old → LetsOn calls new
lets_still calls None None P same with lets = tt
lets_still calls None (Some n) P same with lets = absurd with
lets_still calls (Some o) None P same with lets = absurd with
lets_still calls (Some o) (Some n) P same with lets = (lets.0, same o n with ∙ lets.1)

-- a fuse that no call touched
pub fuse_still : (f : Fuse) (m new : Meaning) (P : Disks → Disks → Type 0) → ((o n : Disks) → P o n → n.fuse ≡ o.fuse) → new.armed ≡ m.armed → WithDisks m.disks new.disks P → FuseOn f m → FuseOn f new
fuse_still NoFuse m new P same armed with has = armed ∙ has
fuse_still (FuseSet calls) m new P same armed with has = lets_still calls m.disks new.disks P same with has
fuse_still (FuseLit most) m new P same armed with has = tt

-- behind a call that only reads
pub fuse_untouched : (f : Fuse) (m new : Meaning) → OnDisks m.disks new.disks Untouched → (IsFalse m.armed → IsFalse new.armed) → FuseOn f m → FuseOn f new
fuse_untouched NoFuse m new disks unarmed has = unarmed has
fuse_untouched (FuseSet calls) m new disks unarmed has = lets_still calls m.disks new.disks (λ o n. Untouched o n × ((u : ℕ) → n.failing u ≡ o.failing u)) (λ o n is. is.0.fuse) disks has
fuse_untouched (FuseLit most) m new disks unarmed has = tt

pub bare_still : (n : Node) (m new : Meaning) → Goes Nothing m new → new.down ≡ m.down → new.armed ≡ m.armed → IsBareAt n m → IsBareAt n new
bare_still n m new goes down armed bare = record {
  is = bare.is;
  fitted = fitted_still n.disks n.blocks m new goes down bare.fitted;
  unarmed = armed ∙ bare.unarmed;
  few = bare.few;
  some = bare.some;
  blank = λ u b some last below. keeps_still m new u b _ goes (bare.blank u b some last below);
}

-- a site that is up stays so over calls that change no contents
pub up_still : {beside : KeptBeside} (n : Node) (c : Core) (m new : Meaning) → Goes Nothing m new → ((i : Image) → new.now i → m.now i) → new.down ≡ m.down → FuseOn n.fuse new → IsUpAt beside n c m → IsUpAt beside n c new
up_still n c m new goes now down fuse up =
    let still : IsFalse new.down = down ∙ up.up in
    record {
      state = up.state;
      up = still;
      fuse = fuse;
      lies = lies_as n m new goes.units goes.size up.lies;
      units = up.units;
      ring = up.ring;
      low = up.low;
      found = up.found;
      kept = up.kept;
      linked = λ told. up.linked (sym goes.tells ∙ told);
      session = up.session;
      begun = λ told. up.begun (sym goes.tells ∙ told);
      stamp = λ told none. up.stamp (sym goes.tells ∙ told) none;
      fresh = λ origin told none first room. up.fresh origin (sym goes.tells ∙ told) none first room;
      first = up.first;
      head = up.head;
      halted = up.halted;
      logged = up.logged;
      durable = up.durable;
      takes = up.takes;
      content = λ none told. still_with c n.log n.base m new (rest_stands c m new goes still) (up.content none (sym goes.tells ∙ told));
      left = λ i is. up.left i (now i is);
      sure = up.sure;
      may = λ k is. may_same k m new goes.units goes.size goes.tells (up.may k is);
    }

-- the volumes of a group are those of its site
pub up_volumes : {beside : KeptBeside} (n : Node) (c : Core) (m : Meaning) → IsUpAt beside n c m → length c.units.vols ≡ length n.volumes
up_volumes n c m up = ap (λ (u : Units). length u.vols) up.units ∙ (laid_in n m up.lies).count

-- what was done to disk 0 alone leaves a bare site bare
pub bare_moved : (n : Node) (count : ℕ) (m new : Meaning) → Moves (Run 0 0 count) Anything m new → IsBareAt n m → IsBareAt n new
bare_moved n count m new moves bare = record {
  is = bare.is;
  fitted = fitted_moved n.disks n.blocks (Run 0 0 count) Anything m new moves bare.fitted (stays_up (Run 0 0 count) Anything m new moves bare.unarmed bare.fitted.up);
  unarmed = moves.unarmed bare.unarmed;
  few = bare.few;
  some = bare.some;
  blank = λ u b some last below. kept_beside (Run 0 0 count) Anything m new moves u b (λ mine. omega (arith, mine.there, some)) zero_block (bare.blank u b some last below);
}

-- the units of a raw set are there, and none is another
pub placed_raw : (disks : ℕ) (m : Meaning) → disks ≡ m.units → 3 ≤ disks → LINK_PLACES * maps_of (raw_units disks).vols m ≤ m.size (raw_units disks).maps → UnitsPlaced (raw_units disks) m
placed_raw disks m is some maps = record {
  maps_fit = maps;
  log_exists = omega arith;
  maps_exist = omega (arith, is, some);
  maps_apart = λ same. omega (arith, same, some);
  maps_aside = λ v there e. let at = unit_at v there in omega (arith, at, e, there, length-values_from (λ (j : ℕ). j) 1 (disks - 2));
  exist = λ v there. let at = unit_at v there in omega (arith, at, length-values_from (λ (j : ℕ). j) 1 (disks - 2), there, is);
  apart = λ v there e. let at = unit_at v there in omega (arith, at, e);
  distinct = λ v w v_there w_there e. let at = unit_at v v_there in let at' = unit_at w w_there in omega (arith, at, at', e);
}
  where
    unit_at : (v : ℕ) → v < length (raw_units disks).vols → unit_of (raw_units disks).vols v ≡ 1 + v
    unit_at v there = slice_index-values_from 1 (disks - 2) v (omega (arith, there, length-values_from (λ (j : ℕ). j) 1 (disks - 2)))

-- the table can spell it
pub first_spells : (site : ℕ) (s : State) → s ≡ first_state site → CanSpellState s
first_spells site s is = subst (λ (t : State). CanSpellState t) (sym is) (record {
  generation = omega arith;
  top = omega arith;
  role = tt;
  replay = omega arith;
  end = omega arith;
  parent = omega arith;
  fork = omega arith;
  few = omega arith;
  links = All-nil CanSpellLink;
})

-- what the header of the log of a raw set keeps
raw_state : (site : ℕ) (n : Node) → n ≡ bare_with n → first_state site ≡ state_with (raw_set site n) []
raw_state site n is = sym (ap (λ (k : Node). state_with (raw_set site k) []) is)

-- a block of zeros in a row of them
one_of_all : (n b : ℕ) (bytes : List ℕ) → slice_get (replicate n zero_block) b ≡ Some bytes → (b < n) × (zero_block ≡ bytes)
one_of_all zero b bytes is = absurd (never_some is)
one_of_all (suc n) zero bytes is = (omega arith, some_same is)
one_of_all (suc n) (suc b) bytes is = let more = one_of_all n b bytes is in (omega (arith, more.0), more.1)

-- the volumes and the maps of a bare site hold zeros
raw_holds : (n : Node) (m : Meaning) → IsBareAt n m → 3 ≤ n.disks → HoldsContent (raw_units n.disks) (raw_content n.disks n.blocks) (replicate n.blocks zero_block) m
raw_holds n m bare some = record {
  sizes = site_sizes n.disks n.blocks (raw_content n.disks n.blocks) m some bare.fitted.size (raw_size n.disks n.blocks) (raw_none n.disks n.blocks);
  blocks = λ v b below. ⊎_elim
      (λ in_set. subst (λ (u : ℕ). Keeps m u b zero_block) (sym (slice_index-values_from 1 (n.disks - 2) v in_set))
      (bare.blank (1 + v) b (omega arith) (omega (arith, in_set, some)) (omega (arith, below, raw_size n.disks n.blocks v in_set))))
      (λ past. absurd (omega (arith, below, raw_none n.disks n.blocks v past)))
      (cases_lt v (n.disks - 2));
  maps_are = record {
    size = (let long = length-replicate {A = List ℕ} n.blocks zero_block in let same = bare.fitted.size (n.disks - 1) (omega (arith, some)) in omega (arith, long, same));
    each = λ b bytes there.
        let one = one_of_all n.blocks b bytes there in
        subst (λ (v : List ℕ). Keeps m (n.disks - 1) b v) one.1 (bare.blank (n.disks - 1) b (omega (arith, some)) (omega (arith, some)) one.0);
  };
}

-- a raw set as it is made
pub raw_stands : (site : ℕ) (n : Node) (c : Core) (m new : Meaning) → Lawful new → c.log.unit ≡ c.units.srl → IsBareAt n m → CanBeRaw n.disks n.blocks → c ≡ new_core (raw_units n.disks) (first_state site) (ring_of (m.size 0)) c.maps
    → Moves (Run 0 0 (ring_of (m.size 0) + 2)) Anything m new → (IsTrue m.tells → (k : Content) (maps : List (List ℕ)) → HoldsContent (raw_units n.disks) k maps m → Stands c (nothing_logged k maps) new) → IsUpAt site_alone (raw_set site n) c new
raw_stands site n c m new lawful unit_is bare can is moves stands = record {
  state = refl;
  up = stays_up (Run 0 0 (ring_of (m.size 0) + 2)) Anything m new moves bare.unarmed bare.fitted.up;
  fuse = subst (λ (k : Node). FuseOn k.fuse new) (sym bare.is) (moves.unarmed bare.unarmed);
  lies = raw_on (raw_set site n) new (ap (λ (k : Node). k.group) bare.is) (raw_lies n.disks n.blocks new can bare.few bare.some (moves.units ∙ bare.fitted.units) (λ u there. moves.size u ∙ bare.fitted.size u there));
  units = units_here;
  ring = ring_here;
  low = ap (λ (k : Node). k.low) bare.is;
  found = [];
  kept = kept_here;
  linked = λ told. refl;
  session = ap (λ (k : Core). k.log.header.incarnation) is;
  begun = λ told. omega arith;
  stamp = λ told none. omega (arith, ap (λ (k : Core). k.log.header.stamp) is);
  fresh = λ origin told none one room. record { place = ap (λ (k : Core). k.log.header.place) is; widths_are = ap (λ (k : Core). widths k.log.held) is };
  first = omega (arith, ap (λ (k : Core). k.log.header.low) is);
  head = head_here;
  halted = ap (λ (k : Core). k.halted) is;
  logged = omega arith;
  durable = λ _. omega arith;
  takes = λ _. takes_none c.log (ap (λ (k : Core). k.log.held) is);
  content = λ _ told. content told;
  sure = λ none. refl;
  may = never_besides None new refl;
  left = λ i now.
      let told = told_now new i lawful now in
      inl (writes_found (raw_set site n) c i units_here ring_here kept_here (ap (λ (k : Core). k.log.header.incarnation) is)
      (omega (arith, ap (λ (k : Core). k.log.header.stamp) is)) refl (stands_with c [] (raw_content n.disks n.blocks) new i unit_is lawful (content told) now));
}
  where
    units_here : c.units ≡ units_of (raw_set site n)
    units_here = ap (λ (k : Core). k.units) is ∙ sym (units_raw (raw_set site n) (ap (λ (k : Node). k.group) bare.is))

    ring_here : c.log.ring ≡ ring_of n.blocks
    ring_here = ap (λ (k : Core). k.log.ring) is ∙ ap ring_of (bare.fitted.size 0 (omega (arith, can.some)))

    kept_here : c.log.header.state ≡ state_with (raw_set site n) []
    kept_here = ap (λ (k : Core). k.log.header.state) is ∙ raw_state site n bare.is

    head_here : last_of c ≡ 0
    head_here = ap (λ (k : Core). last_of k) is

    content : IsTrue new.tells → StandsHolding c [] (raw_content n.disks n.blocks) new
    content told = record {
      held = nothing_logged (raw_content n.disks n.blocks) (replicate n.blocks zero_block);
      has = record { some = omega arith; last = refl; writes = refl; content = refl; whole = λ room. (refl, refl) };
      needs = none_of c.log.header.state.links 0 (ap (λ (k : Core). k.log.header.state.links) is);
      stands = stands (sym moves.tells ∙ told) (raw_content n.disks n.blocks) (replicate n.blocks zero_block) (raw_holds n m bare can.some);
    }

-- the same with the units as they were made
pub made_stands : (site d : ℕ) (n : Node) (c : Core) (units : Units) (state : State) (m new : Meaning) → units ≡ raw_units d → state ≡ first_state site → d ≡ m.units → Lawful new → c.log.unit ≡ c.units.srl
    → IsBareAt n m → CanBeRaw n.disks n.blocks → c ≡ new_core units state (ring_of (m.size units.srl)) c.maps → Moves (Run units.srl 0 (ring_of (m.size units.srl) + 2)) Anything m new
    → (IsTrue m.tells → (k : Content) (maps : List (List ℕ)) → HoldsContent units k maps m → Stands c (nothing_logged k maps) new) → IsUpAt site_alone (raw_set site n) c new
made_stands site d n c units state m new units_is state_is d_is lawful unit_is bare can core moves stands =
    let is : units ≡ raw_units n.disks = units_is ∙ ap raw_units (d_is ∙ bare.fitted.units) in
    raw_stands site n c m new lawful unit_is bare can
    (subst (λ (s : State). c ≡ new_core (raw_units n.disks) s (ring_of (m.size 0)) c.maps) state_is (subst (λ (u : Units). c ≡ new_core u state (ring_of (m.size u.srl)) c.maps) is core))
    (subst (λ (u : Units). Moves (Run u.srl 0 (ring_of (m.size u.srl) + 2)) Anything m new) is moves)
    (subst (λ (u : Units). IsTrue m.tells → (k : Content) (maps : List (List ℕ)) → HoldsContent u k maps m → Stands c (nothing_logged k maps) new) is stands)

module _ {R : Type 0} {g : Ghosts R} where
  -- a raw set that was not made
  pub raw_failed : (site d : ℕ) (n : Node) (old : DiskSet R g) (rack back : R) (units : Units) (stop : Stop) → old ≡ Spoiled rack → units ≡ raw_units d → IsBareAt n (g.meaning rack)
      → (8 ≤ (g.meaning rack).size units.srl → MakeCause (g.meaning rack) (g.meaning back) stop) → CanBeRaw n.disks n.blocks
      → Moves (Run units.srl 0 (ring_of ((g.meaning rack).size units.srl) + 2)) Anything (g.meaning rack) (g.meaning back) → MadeIs site n old (Spoiled back) (Err stop)
  raw_failed site d n old rack back units stop is units_is bare cause can moves = why stop (cause large)
    where
      srl : units.srl ≡ 0
      srl = ap (λ (u : Units). u.srl) units_is

      large : 8 ≤ (g.meaning rack).size units.srl
      large = omega (arith, ap (g.meaning rack).size srl, bare.fitted.size 0 (omega (arith, can.some)), bare.some)

      stays : IsBareAt n (g.meaning back)
      stays = bare_moved n (ring_of ((g.meaning rack).size 0) + 2) (g.meaning rack) (g.meaning back)
          (subst (λ (u : ℕ). Moves (Run u 0 (ring_of ((g.meaning rack).size u) + 2)) Anything (g.meaning rack) (g.meaning back)) srl moves) bare

      why : (s : Stop) → MakeCause (g.meaning rack) (g.meaning back) s → MadeIs site n old (Spoiled back) (Err s)
      why (Refused (Device disk)) h = ((λ beside. stays), subst (λ (e : DiskSet R g). Rose (faults_at e disk) ((g.meaning back).disk_faults disk)) (sym is) h)
      why (Refused Down) h = absurd (never_both (g.meaning back).down h stays.fitted.up)
      why (Refused other) h = absurd h
      why OutOfMemory h = λ beside. stays
