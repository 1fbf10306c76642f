-- The calls of a line on the disks of a site with a group: which disks fail, the fuse, a crash.
use Rattle.std.proofs.Common.{◌≡◌, ◌∙◌, ℕ, ap, ◌⊎◌, arith, inl, refl, subst, sym}
use Rattle.std.specs.Prelude.{None, Some}
use Rattle.vx_model.specs.declared.site.SiteState.TheVariants.{Bare as IsBare, Up as IsUp, Down as IsDown, Deported as IsDeported}
use Rattle.vx_disk.specs.Causes.{OnDisks}
use Rattle.vx_disk.specs.Disks.{Crashed, SameBlocks, Untouched}
use Rattle.vx_disk.specs.declared.shelf.Shelf.{Ghosts}
use Rattle.vx_history.specs.Groups.{GroupNode}
use Rattle.vx_history.specs.Steps.{crashed}
use Rattle.vx_history.specs.World.{FuseSet, Node}
use Rattle.vx_grouped.specs.GroupSites.{DownNoted, GroupSiteStands, UpNoted, laid_disks, site_disks, site_below}
use Rattle.vx_grouped.specs.SiteEnds.{CountsAlike, MayCrashSite, StaysAlike}
use Rattle.vx_grouped.specs.declared.group_site.GroupSite.{GroupSite}
use Rattle.vx_grouped.specs.declared.group_site.GroupSite.TheVariants.{Up, Deported, Down, Marked, Gone}
use Rattle.vx_diskset.specs.Asked.{CrashesBy, MayCrash, SetsFuse}
use Rattle.vx_diskset.specs.DiskSets.{CrashedAt, Later}
use Rattle.vx_diskset.specs.Holds.{KeptBeside, itself}
use Rattle.vx_diskset.specs.Stands.{IsGroupSet, SiteStands}
use Rattle.vx_diskset.specs.declared.disk_set.DiskSet.{DiskSet}
use Rattle.vx_diskset.specs.declared.disk_set.DiskSet.TheVariants.{OfGroup}
use Rattle.vx_diskset.specs.declared.group_set.GroupSet.{GroupSet}
use Rattle.vx_diskset.proofs.KeepsFailing.{may_crash, stopped_none}
use Rattle.vx_grouped.specs.SiteMaps.{StaysMapped}
use Rattle.vx_watched.specs.Traces.{TellsLess}

module _ {R : Type 0} {g : Ghosts R} where
  -- disks of which some are made to fail, or no longer
  pub set_alike : (beside : KeptBeside) (n : Node) (e : DiskSet R g) (s : GroupSet R g) (site : GroupSite R g) → e ≡ OfGroup s → StaysAlike s.site site → StaysMapped s.site site → SiteStands beside n e → SiteStands beside n (OfGroup (record s { site = site }))
  set_alike beside n e s site is alike stays stands =
      let it : IsGroupSet beside n s = subst (λ (x : DiskSet R g). SiteStands beside n x) is stands in
      record {
        sure = it.sure;
        unlinked = it.unlinked;
        stands = alike.stands n it.stands;
        cut = it.cut;
        lies = it.lies;
        bare = it.bare;
        few = it.few;
        some = it.some;
        maps = λ some note there. stays note (it.maps some note there);
        plain = λ some note there. it.plain some note there;
      }

  pub set_later : (e : DiskSet R g) (s : GroupSet R g) (site : GroupSite R g) → e ≡ OfGroup s → CountsAlike s.site site → Later e (OfGroup (record s { site = site }))
  set_later e s site is same =
      subst (λ (x : DiskSet R g). Later x (OfGroup (record s { site = site }))) (sym is)
      (record { counts = λ d. omega (arith, same.counts d); told = same.told })

  -- the note of a site whose group is up
  up_by : (n : Node) (s : GroupSite R g) → GroupSiteStands n s → n.state ≡ IsUp → (note : GroupNode) × UpNoted n note s
  up_by n (Up group) stands up = stands
  up_by n (Deported rack) (note, it) up = absurd (let e : IsDeported ≡ IsUp = sym it.away.state ∙ up in cc)
  up_by n (Down rack) (note, it) up = absurd (let e : IsDown ≡ IsUp = sym it.away.state ∙ up in cc)
  up_by n (Marked rack) it up = absurd (let e : IsBare ≡ IsUp = sym it.state ∙ up in cc)
  up_by n Gone it up = absurd it

  pub set_up : (beside : KeptBeside) (n : Node) (e : DiskSet R g) (s : GroupSet R g) → e ≡ OfGroup s → SiteStands beside n e → n.state ≡ IsUp → (note : GroupNode) × UpNoted n note s.site
  set_up beside n e s is stands up =
      let it : IsGroupSet beside n s = subst (λ (x : DiskSet R g). SiteStands beside n x) is stands in
      up_by n s.site it.stands up

  noted_up : (n : Node) (note : GroupNode) (s : GroupSite R g) → UpNoted n note s → GroupSiteStands n s
  noted_up n note (Up group) it = (note, it)
  noted_up n note (Deported rack) it = absurd it
  noted_up n note (Down rack) it = absurd it
  noted_up n note (Marked rack) it = absurd it
  noted_up n note Gone it = absurd it

  noted_down : (n : Node) (note : GroupNode) (s : GroupSite R g) → DownNoted n note s → GroupSiteStands n s
  noted_down n note (Up group) it = absurd it
  noted_down n note (Deported rack) it = absurd it
  noted_down n note (Down rack) it = (note, it)
  noted_down n note (Marked rack) it = absurd it
  noted_down n note Gone it = absurd it

  -- with its fuse set
  pub set_fused : (beside : KeptBeside) (n : Node) (calls : ℕ) (e : DiskSet R g) (s : GroupSet R g) (site : GroupSite R g) → e ≡ OfGroup s
      → ((note : GroupNode) → UpNoted n note s.site → UpNoted (record n { fuse = FuseSet calls }) note site) → StaysMapped s.site site → SiteStands beside n e → n.state ≡ IsUp
      → SiteStands beside (record n { fuse = FuseSet calls }) (OfGroup (record s { site = site }))
  set_fused beside n calls e s site is fused stays stands up =
      let it : IsGroupSet beside n s = subst (λ (x : DiskSet R g). SiteStands beside n x) is stands in
      let noted = up_by n s.site it.stands up in
      record {
        sure = it.sure;
        unlinked = it.unlinked;
        stands = noted_up (record n { fuse = FuseSet calls }) noted.0 site (fused noted.0 noted.1);
        cut = it.cut;
        lies = λ x there. let lies = it.lies x there in record { down = lies.down; fits = lies.fits };
        bare = λ bare. absurd (let e : IsUp ≡ IsBare = sym up ∙ bare in cc);
        few = it.few;
        some = it.some;
        maps = λ some note there. stays note (it.maps some note there);
        plain = λ some note there. it.plain some note there;
      }

  pub set_asked : (beside : KeptBeside) (n : Node) (calls pick : ℕ) (e : DiskSet R g) (s : GroupSet R g) (site : GroupSite R g) → e ≡ OfGroup s
      → ((note : GroupNode) → UpNoted n note s.site → OnDisks (site_disks s.site).disks (site_disks site).disks (λ o n. SameBlocks o n × (n.fuse ≡ Some (calls, pick)))) → SiteStands beside n e → n.state ≡ IsUp
      → SetsFuse calls pick e (OfGroup (record s { site = site }))
  set_asked beside n calls pick e s site is asked stands up =
      let noted = set_up beside n e s is stands up in
      subst (λ (x : DiskSet R g). SetsFuse calls pick x (OfGroup (record s { site = site }))) (sym is) (asked noted.0 noted.1)

  pub set_told : (beside : KeptBeside) (n : Node) (pick : ℕ) (e : DiskSet R g) (s : GroupSet R g) (site : GroupSite R g) → e ≡ OfGroup s
      → ((note : GroupNode) → UpNoted n note s.site → OnDisks (site_disks s.site).disks (site_disks site).disks (Crashed (site_disks s.site).size pick)) → SiteStands beside n e → n.state ≡ IsUp
      → CrashesBy pick e (OfGroup (record s { site = site }))
  set_told beside n pick e s site is asked stands up =
      let noted = set_up beside n e s is stands up in
      subst (λ (x : DiskSet R g). CrashesBy pick x (OfGroup (record s { site = site }))) (sym is) (asked noted.0 noted.1)

  -- behind a crash
  crashed_set : (beside : KeptBeside) (n : Node) (s : GroupSet R g) (site : GroupSite R g) → ((note : GroupNode) → UpNoted n note s.site → DownNoted (crashed n 0) note site) → StaysMapped s.site site → IsGroupSet beside n s → n.state ≡ IsUp
      → CrashedAt beside n (OfGroup (record s { site = site }))
  crashed_set beside n s site down stays it up =
      let noted = up_by n s.site it.stands up in
      let some : n.state ≡ IsBare → ⊥ = λ bare. let e : IsUp ≡ IsBare = sym up ∙ bare in absurd (cc) in
      record {
        kept = itself beside n;
        is = inl refl;
        count = 0;
        least = omega (arith, none_safe n s.site it.stands up);
        most = omega arith;
        stands = record {
          sure = λ other. refl;
          unlinked = λ other. it.unlinked some;
          stands = noted_down (crashed n 0) noted.0 site (down noted.0 noted.1);
          cut = it.cut;
          lies = λ x there. absurd (let e : IsUp ≡ IsDown = sym up ∙ (it.lies x there).down in cc);
          bare = λ bare. absurd (let e : IsDown ≡ IsBare = bare in cc);
          few = it.few;
          some = it.some;
          maps = λ other note there. stays note (it.maps some note there);
          plain = λ other note there. it.plain some note there;
        };
      }
    where
      none_safe : (n : Node) (s : GroupSite R g) → GroupSiteStands n s → n.state ≡ IsUp → n.safe ≡ 0
      none_safe n (Up group) (note, it) up = it.noted.none.safe
      none_safe n (Deported rack) (note, it) up = it.noted.none.safe
      none_safe n (Down rack) (note, it) up = it.noted.none.safe
      none_safe n (Marked rack) it up = absurd (let e : IsBare ≡ IsUp = sym it.state ∙ up in cc)
      none_safe n Gone it up = absurd it

  pub set_crashed : (beside : KeptBeside) (n : Node) (e : DiskSet R g) (s : GroupSet R g) (site : GroupSite R g) → e ≡ OfGroup s → ((note : GroupNode) → UpNoted n note s.site → DownNoted (crashed n 0) note site) → StaysMapped s.site site → SiteStands beside n e → n.state ≡ IsUp
      → CrashedAt beside n (OfGroup (record s { site = site }))
  set_crashed beside n e s site is down stays stands up = crashed_set beside n s site down stays (subst (λ (x : DiskSet R g). SiteStands beside n x) is stands) up

  -- what a crash made of any such disks
  same_site : (pick : ℕ) (s site : GroupSite R g) → site ≡ s
      → OnDisks (site_disks s).disks (site_disks site).disks (λ o n. Crashed (site_disks s).size pick o n ⊎ Untouched o n) × ((u : ℕ) → (site_disks site).size u ≡ (site_disks s).size u)
  same_site pick s site is =
      let none : MayCrash pick (OfGroup (record { site = s; cut = None })) (OfGroup (record { site = s; cut = None })) = stopped_none pick (OfGroup (record { site = s; cut = None })) in
      subst (λ (x : GroupSite R g). OnDisks (site_disks s).disks (site_disks x).disks (λ o n. Crashed (site_disks s).size pick o n ⊎ Untouched o n) × ((u : ℕ) → (site_disks x).size u ≡ (site_disks s).size u)) (sym is)
      (none.told, none.sizes)

  pub may_by : (pick : ℕ) (s site : GroupSite R g) → MayCrashSite pick s site
      → OnDisks (site_disks s).disks (site_disks site).disks (λ o n. Crashed (site_disks s).size pick o n ⊎ Untouched o n) × ((u : ℕ) → (site_disks site).size u ≡ (site_disks s).size u)
  may_by pick (Up group) site it = (may_crash (laid_disks group).size pick (laid_disks group).disks (site_disks site).disks it.1, it.0.size)
  may_by pick other site it = same_site pick other site it

  pub set_stopped : (pick : ℕ) (e : DiskSet R g) (s : GroupSet R g) (site : GroupSite R g) → e ≡ OfGroup s → MayCrashSite pick s.site site → MayCrash pick e (OfGroup (record s { site = site }))
  set_stopped pick e s site is it =
      let may = may_by pick s.site site it in
      subst (λ (x : DiskSet R g). MayCrash pick x (OfGroup (record s { site = site }))) (sym is) (record { told = may.0; sizes = may.1 })

  counts_by : (pick : ℕ) (s site : GroupSite R g) → MayCrashSite pick s site → TellsLess (site_below s) (site_below site) → CountsAlike s site
  counts_by pick (Up group) site it less = record { counts = λ d. it.0.counts.disk_faults d; told = less }
  counts_by pick other site it less = record { counts = λ d. ap (λ (x : GroupSite R g). (site_disks x).disk_faults d) it; told = less }

  pub set_fell : (pick : ℕ) (e : DiskSet R g) (s : GroupSet R g) (site : GroupSite R g) → e ≡ OfGroup s → MayCrashSite pick s.site site → TellsLess (site_below s.site) (site_below site) → Later e (OfGroup (record s { site = site }))
  set_fell pick e s site is it less = set_later e s site is (counts_by pick s.site site it less)
