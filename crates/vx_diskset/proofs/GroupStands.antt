-- The disks of a site with a group of disks: by which parts of its node they stand, and what such a site is not.
use Rattle.std.proofs.Common.{◌≡◌, ◌⊎◌, inl, inr, ◌∙◌, ◌<◌, ◌≤◌, ℕ, Bool, true, false, List, [], ap, arith, length, refl, subst, sym}
use Rattle.std.specs.Prelude.{◌&&◌, Option, None, eqb, is_some}
use Rattle.vx_model.specs.declared.limits.TheConstants.{LEAST_BLOCKS, MOST_DISKS}
use Rattle.vx_model.specs.Sites.{is_origin, is_up}
use Rattle.vx_model.specs.declared.site.Role.{Role}
use Rattle.vx_model.specs.declared.site.SiteState.{SiteState}
use Rattle.vx_model.specs.declared.site.SiteState.TheVariants.{Bare as IsBare, Up as IsUp}
use Rattle.vx_disk.specs.Shelf.{Meaning}
use Rattle.vx_disk.specs.declared.shelf.Shelf.{Ghosts}
use Rattle.vx_history.specs.Groups.{GroupNode}
use Rattle.vx_history.specs.Steps.{burned}
use Rattle.vx_history.specs.World.{Fuse as FuseOf, Node, NoFuse, Volume}
use Rattle.vx_grouped.specs.GroupSites.{GroupAway, GroupDown, GroupSiteStands, GroupUp, HasNoRvg, IsMarkedSite, NotesGroup, idle_disks, laid_disks, laid_below, idle_below}
use Rattle.vx_group.specs.declared.group_core.GroupCore.{GroupCore}
use Rattle.vx_grouped.specs.SetFuses.{HasFuse}
use Rattle.vx_grouped.specs.declared.group_site.GroupSite.{GroupSite}
use Rattle.vx_grouped.specs.declared.group_site.GroupSite.TheVariants.{Up, Deported, Down, Marked, Gone}
use Rattle.vx_grouped.proofs.SettleLemmas.{fuse_burned}
use Rattle.vx_grouped.proofs.SiteLemmas.{away_as, lies_as, some_as}
use Rattle.vx_diskset.specs.GroupSets.{noted_cut}
use Rattle.vx_diskset.specs.Holds.{KeptBeside}
use Rattle.vx_events.specs.GroupLines.{is_over_group}
use Rattle.vx_diskset.specs.declared.group_set.CutWrite.{CutWrite}
use Rattle.vx_diskset.specs.Stands.{CutLies, IsGroupSet, SiteStands, bare_with}
use Rattle.vx_diskset.specs.declared.disk_set.DiskSet.{DiskSet}
use Rattle.vx_diskset.specs.declared.disk_set.DiskSet.TheVariants.{OfGroup}
use Rattle.vx_diskset.specs.declared.group_set.GroupSet.{GroupSet}

-- ---- nodes alike in all by which such disks stand

pub record IsLikeGroup (n k : Node) : Type 1 where
  pub state : n.state ≡ k.state
  pub disks : n.disks ≡ k.disks
  pub blocks : n.blocks ≡ k.blocks
  pub group : n.group ≡ k.group
  pub none : HasNoRvg n → HasNoRvg k
  pub fuse : (m : Meaning) → HasFuse n.fuse m → HasFuse k.fuse m
  pub unfused : n.fuse ≡ NoFuse → k.fuse ≡ NoFuse

module _ (n k : Node) (like : IsLikeGroup n k) where
  noted_like : (note : GroupNode) → NotesGroup n note → NotesGroup k note
  noted_like note it = record { is = sym like.group ∙ it.is; none = like.none it.none }

  marked_like : (m : Meaning) → IsMarkedSite n m → IsMarkedSite k m
  marked_like m it = record {
    state = sym like.state ∙ it.state;
    units = it.units ∙ like.disks;
    size = λ u low. it.size u (subst (λ (x : ℕ). u < x) (sym like.disks) low) ∙ like.blocks;
    unfused = like.unfused it.unfused;
    up = it.up;
    unarmed = it.unarmed;
  }

  pub up_like : (note : GroupNode) (told : Bool) (core : GroupCore) (m : Meaning) → GroupUp n note told core m → GroupUp k note told core m
  up_like note told core m it = record {
    lit = it.lit;
    noted = noted_like note it.noted;
    fuse = like.fuse m it.fuse;
    spells = it.spells;
    at = record { state = sym like.state ∙ it.at.state; up = it.at.up; lies = lies_as n k note core m like.disks like.blocks it.at.lies };
  }

  pub away_like : (note : GroupNode) (agreed told : Bool) (m : Meaning) → GroupAway n note agreed told m → GroupAway k note agreed told m
  away_like note agreed told m it = record {
    lit = it.lit;
    agrees = it.agrees;
    noted = noted_like note it.noted;
    up = it.up;
    fuse = like.fuse m it.fuse;
    last = it.last;
    newest = it.newest;
    spells = it.spells;
    away = record {
      state = sym like.state ∙ it.away.state;
      config = it.away.config;
      frames = it.away.frames;
      found = it.away.found;
      some = some_as n k it.newest like.disks like.blocks it.away.some;
      lies = away_as n k note it.last m like.disks like.blocks it.away.lies;
    };
  }

  pub down_like : (note : GroupNode) (agreed told : Bool) (m : Meaning) → GroupDown n note agreed told m → GroupDown k note agreed told m
  down_like note agreed told m it = record {
    lit = it.lit;
    agrees = it.agrees;
    noted = noted_like note it.noted;
    unfused = like.unfused it.unfused;
    stopped = it.stopped;
    last = it.last;
    spells = it.spells;
    away = record {
      state = sym like.state ∙ it.away.state;
      config = it.away.config;
      found = it.away.found;
      runs = it.away.runs;
      some = some_as n k it.last like.disks like.blocks it.away.some;
      lies = away_as n k note it.last m like.disks like.blocks it.away.lies;
    };
  }

  cut_like : (x : CutWrite) → CutLies n x → CutLies k x
  cut_like x it = record { down = sym like.state ∙ it.down; fits = λ note is. it.fits note (like.group ∙ is) }

  module _ {R : Type 0} {g : Ghosts R} where
    stands_like : (s : GroupSite R g) → GroupSiteStands n s → GroupSiteStands k s
    stands_like (Up group) (note, it) = (note, up_like note (laid_below group).tells group.core (laid_disks group) it)
    stands_like (Deported idle) (note, it) = (note, away_like note idle.agreed (idle_below idle).tells (idle_disks idle) it)
    stands_like (Down idle) (note, it) = (note, down_like note idle.agreed (idle_below idle).tells (idle_disks idle) it)
    stands_like (Marked rack) it = marked_like (g.meaning rack) it
    stands_like Gone it = absurd it

    -- also with something else beside the node, as long as that is no doubt and no link
    pub set_like : (beside other : KeptBeside) (s : GroupSet R g) → ((k.state ≡ IsBare → ⊥) → other.doubt ≡ None) → ((k.state ≡ IsBare → ⊥) → other.links ≡ []) → (k.state ≡ IsBare → k ≡ bare_with k) → IsGroupSet beside n s
        → IsGroupSet other k s
    set_like beside other s sure unlinked bare it = record {
      sure = sure;
      unlinked = unlinked;
      stands = stands_like s.site it.stands;
      cut = it.cut ∙ ap (λ (o : Option GroupNode). noted_cut o) like.group;
      lies = λ x is. cut_like x (it.lies x is);
      bare = bare;
      few = subst (λ (x : ℕ). x ≤ MOST_DISKS) like.disks it.few;
      some = subst (λ (x : ℕ). LEAST_BLOCKS ≤ x) like.blocks it.some;
      maps = λ some note is. it.maps (λ state. some (sym like.state ∙ state)) note (like.group ∙ is);
      plain = λ some note is. it.plain (λ state. some (sym like.state ∙ state)) note (like.group ∙ is);
    }

-- what a line that works on a site notes of its fuse
pub burned_like : (n : Node) → IsLikeGroup n (record n { fuse = burned n.fuse })
burned_like n = record {
  state = refl;
  disks = refl;
  blocks = refl;
  group = refl;
  none = λ it. record { role = it.role; volumes = it.volumes; log = it.log; safe = it.safe; running = it.running };
  fuse = λ m it. fuse_burned n.fuse m m (λ unarmed. unarmed) it;
  unfused = λ none. ap (λ (f : FuseOf). burned f) none;
}

failing_like : (n : Node) (failing : ℕ → Bool) → IsLikeGroup n (record n { failing = failing })
failing_like n failing = record {
  state = refl;
  disks = refl;
  blocks = refl;
  group = refl;
  none = λ it. record { role = it.role; volumes = it.volumes; log = it.log; safe = it.safe; running = it.running };
  fuse = λ m it. it;
  unfused = λ none. none;
}

-- a site that notes a group is over one
noted_over : (n : Node) (note : GroupNode) → NotesGroup n note → is_over_group n ≡ true
noted_over n note it =
    ap (λ (o : Option GroupNode). is_some o && eqb (length n.volumes) 0) it.is
    ∙ ap (λ (vs : List Volume). eqb (length vs) 0) it.none.volumes

-- one without a group is not
pub none_apart : (n : Node) → n.group ≡ None → is_over_group n ≡ false
none_apart n none = ap (λ (o : Option GroupNode). is_some o && eqb (length n.volumes) 0) none

module _ {R : Type 0} {g : Ghosts R} where
  pub set_burned : (beside : KeptBeside) (n : Node) (s : GroupSet R g) → IsGroupSet beside n s → IsGroupSet beside (record n { fuse = burned n.fuse }) s
  set_burned beside n s it =
      let k : Node = record n { fuse = burned n.fuse } in
      set_like n k (burned_like n) beside beside s it.sure it.unlinked
      (λ state.
      let is : n ≡ bare_with n = it.bare state in
      let none : n.fuse ≡ NoFuse = ap (λ (x : Node). x.fuse) is in
      let same : n ≡ k = ap (λ (x : FuseOf). let q : Node = record n { fuse = x } in q) (none ∙ sym (ap (λ (x : FuseOf). burned x) none)) in
      subst (λ (x : Node). x ≡ bare_with x) same is) it

  pub set_failing : (beside : KeptBeside) (n : Node) (failing : ℕ → Bool) (s : GroupSet R g) → IsGroupSet beside n s → IsGroupSet beside (record n { failing = failing }) s
  set_failing beside n failing s it =
      set_like n (record n { failing = failing }) (failing_like n failing) beside beside s it.sure it.unlinked
      (λ state. ap (λ (x : Node). let q : Node = record x { failing = failing } in q) (it.bare state)) it

  -- ---- what such a site is

  over_by : (n : Node) (s : GroupSite R g) → GroupSiteStands n s → (n.state ≡ IsBare → ⊥) → is_over_group n ≡ true
  over_by n (Up group) (note, it) some = noted_over n note it.noted
  over_by n (Deported rack) (note, it) some = noted_over n note it.noted
  over_by n (Down rack) (note, it) some = noted_over n note it.noted
  over_by n (Marked rack) it some = absurd (some it.state)
  over_by n Gone it some = absurd it

  -- a site with such disks is over a group, unless it is bare
  pub over_group : (beside : KeptBeside) (n : Node) (s : GroupSet R g) → IsGroupSet beside n s → (n.state ≡ IsBare → ⊥) → is_over_group n ≡ true
  over_group beside n s it some = over_by n s.site it.stands some

  bare_by : (n : Node) (s : GroupSite R g) → GroupSiteStands n s → is_over_group n ≡ false → n.state ≡ IsBare
  bare_by n (Up group) (note, it) apart = absurd (let e : true ≡ false = sym (noted_over n note it.noted) ∙ apart in cc)
  bare_by n (Deported rack) (note, it) apart = absurd (let e : true ≡ false = sym (noted_over n note it.noted) ∙ apart in cc)
  bare_by n (Down rack) (note, it) apart = absurd (let e : true ≡ false = sym (noted_over n note it.noted) ∙ apart in cc)
  bare_by n (Marked rack) it apart = it.state
  bare_by n Gone it apart = absurd it

  pub apart_bare : (beside : KeptBeside) (n : Node) (s : GroupSet R g) → IsGroupSet beside n s → is_over_group n ≡ false → n.state ≡ IsBare
  apart_bare beside n s it apart = bare_by n s.site it.stands apart

  none_by : (n : Node) (s : GroupSite R g) → GroupSiteStands n s → n.state ≡ IsUp → HasNoRvg n
  none_by n (Up group) (note, it) up = it.noted.none
  none_by n (Deported rack) (note, it) up = it.noted.none
  none_by n (Down rack) (note, it) up = it.noted.none
  none_by n (Marked rack) it up = absurd (let e : IsBare ≡ IsUp = sym it.state ∙ up in cc)
  none_by n Gone it up = absurd it

  -- one that is up has no volume of a replicated volume group, and no write
  pub up_has_none : (beside : KeptBeside) (n : Node) (s : GroupSet R g) → IsGroupSet beside n s → n.state ≡ IsUp → HasNoRvg n
  up_has_none beside n s it up = none_by n s.site it.stands up

  -- such disks are those of no site that is up and over no group
  pub never_apart : {A : Type 0} (beside : KeptBeside) (n : Node) (e : DiskSet R g) (s : GroupSet R g) → e ≡ OfGroup s → SiteStands beside n e → n.state ≡ IsUp → is_over_group n ≡ false → A
  never_apart beside n e s is stands up apart =
      let it : IsGroupSet beside n s = subst (λ (x : DiskSet R g). SiteStands beside n x) is stands in
      absurd (let e : IsBare ≡ IsUp = sym (apart_bare beside n s it apart) ∙ up in cc)

  -- nor of one with a volume
  pub never_with_volume : {A : Type 0} (beside : KeptBeside) (n : Node) (e : DiskSet R g) (s : GroupSet R g) (volume : ℕ) → e ≡ OfGroup s → SiteStands beside n e → n.state ≡ IsUp → volume < length n.volumes → A
  never_with_volume beside n e s volume is stands up low =
      let it : IsGroupSet beside n s = subst (λ (x : DiskSet R g). SiteStands beside n x) is stands in
      let has = up_has_none beside n s it up in
      absurd (omega (arith, low, ap (λ (xs : List Volume). length xs) has.volumes))

  -- such a site is not up, or writes arise at it
  off_by : (n : Node) (s : GroupSite R g) → GroupSiteStands n s → (is_up n.state ≡ false) ⊎ (is_origin n.role ≡ true)
  off_by n (Up group) (note, it) = inr (ap (λ (r : Role). is_origin r) it.noted.none.role)
  off_by n (Deported rack) (note, it) = inr (ap (λ (r : Role). is_origin r) it.noted.none.role)
  off_by n (Down rack) (note, it) = inr (ap (λ (r : Role). is_origin r) it.noted.none.role)
  off_by n (Marked rack) it = inl (ap (λ (s : SiteState). is_up s) it.state)
  off_by n Gone it = absurd it

  pub off_or_origin : (beside : KeptBeside) (n : Node) (s : GroupSet R g) → IsGroupSet beside n s → (is_up n.state ≡ false) ⊎ (is_origin n.role ≡ true)
  off_or_origin beside n s it = off_by n s.site it.stands
