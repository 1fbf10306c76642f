-- What a line that recovers a site whose group has a replicated volume group leads a yard to: one that is up crashes first.
use Rattle.std.proofs.Common.{◌≡◌, ◌∙◌, ◌⊎◌, ◌<◌, ℕ, Bool, true, false, List, [], length, ap, sym, subst, arith, inl, inr}
use Rattle.std.specs.Prelude.{eqb, is_some, not, ◌&&◌, Option, Some, slice_get, Result, Ok, Err}
use Rattle.vx_model.specs.declared.errors.OutOfMemory.{OutOfMemory}
use Rattle.vx_model.specs.declared.site.SiteState.{SiteState}
use Rattle.vx_model.specs.declared.site.SiteState.TheVariants.{Bare as IsBare, Up as IsUp, Deported as IsAway, Down as IsDown}
use Rattle.vx_disk.specs.declared.shelf.Shelf.{Ghosts}
use Rattle.vx_diskset.specs.Holds.{KeptBeside, beside_of}
use Rattle.vx_diskset.specs.Stands.{OverStands, SiteStands}
use Rattle.vx_diskset.specs.declared.disk_set.DiskSet.{DiskSet}
use Rattle.vx_diskset.specs.declared.over_set.OverSite.{OverSite}
use Rattle.vx_diskset.specs.declared.over_set.OverSite.TheVariants.{Origin as OriginSite, Receiver as ReceiverSite, Deported as OverAway, Down as OverFell, Gone as NoOver}
use Rattle.vx_effects.proofs.Fitting.{fit_happened}
use Rattle.vx_history.specs.Doubts.{Doubted, happened}
use Rattle.vx_history.specs.Groups.{GroupNode}
use Rattle.vx_history.specs.World.{Node, Volume}
use Rattle.vx_history.specs.declared.event.Event.TheVariants.{Crash as CrashAt}
use Rattle.vx_script.specs.declared.line.ScriptLine.{ScriptLine}
use Rattle.vx_script.specs.declared.line.ScriptLine.TheVariants.{Recover}
use Rattle.vx_events.proofs.Parts.{none_done}
use Rattle.vx_events.specs.Doubts.{run_as}
use Rattle.vx_events.specs.Facts.{site_number}
use Rattle.vx_events.specs.LinksFit.{LinksFit}
use Rattle.vx_events.specs.Parts.{StopsInPart}
use Rattle.vx_events.specs.RvgBack.{RvgBack, RvgFinds, fall_first}
use Rattle.vx_events.specs.RvgParts.{RvgShort}
use Rattle.vx_events.specs.RvgViews.{is_over_rvg}
use Rattle.vx_events.specs.declared.said.Said.{Said}
use Rattle.vx_yard.proofs.ChangeSite.{rose_none}
use Rattle.vx_yard.proofs.RecoverLine.{rose_then}
use Rattle.vx_yard.specs.AboveLines.{LeadsAboveIs}
use Rattle.vx_yard.specs.Carries.{Carries}
use Rattle.vx_yard.specs.Standing.{Falls, StandsFor, crash_of}
use Rattle.vx_yard.specs.Stands.{RoseAll}
use Rattle.vx_yard.specs.Yards.{IsTold, count_of}
use Rattle.vx_yard.specs.declared.yard.Yard.{Yard}
use Rattle.vx_above.proofs.OverSites.{OverIs, over_set}
use Rattle.vx_group_lines.specs.RvgRises.{RaisesIs, RestsSo, rests_as, rests_world}
use Rattle.vx_group_lines.proofs.RvgWorlds.{rest_down, rest_up}

-- one that is down is where the line begins
world_down : (d : Doubted) (s : ℕ) → (d.world.nodes s).state ≡ IsDown → rests_world d s 0 false ≡ d
world_down d s down = ap (λ (t : SiteState). run_as false d (fall_first t s 0)) down

world_up : (d : Doubted) (s kept : ℕ) (taken : Bool) → (d.world.nodes s).state ≡ IsUp → rests_world d s kept taken ≡ happened d (CrashAt s kept) taken
world_up d s kept taken up = ap (λ (t : SiteState). run_as taken d (fall_first t s kept)) up

module _ {R : Type 0} {g : Ghosts R} where
  -- a site with a replicated volume group over its group is not bare
  stands_made : (beside : KeptBeside) (n : Node) (s : OverSite R g) → OverStands beside n s → n.state ≡ IsBare → ⊥
  stands_made beside n (OriginSite f) it bare = let e : IsUp ≡ IsBare = sym it.state ∙ bare in absurd (cc)
  stands_made beside n (ReceiverSite f) it bare = let e : IsUp ≡ IsBare = sym it.state ∙ bare in absurd (cc)
  stands_made beside n (OverAway idle) it bare = let e : IsAway ≡ IsBare = sym it.0 ∙ bare in absurd (cc)
  stands_made beside n (OverFell idle) it bare = let e : IsDown ≡ IsBare = sym it.0 ∙ bare in absurd (cc)
  stands_made beside n NoOver it bare = it

  pub made_over : (d : Doubted) (y : Yard R g) (s : ℕ) (e : DiskSet R g) → StandsFor d y → s < d.world.sites → slice_get y.disk_sets.items s ≡ Some e → is_over_rvg (d.world.nodes s) ≡ true → (d.world.nodes s).state ≡ IsBare → ⊥
  made_over d y s e stands below there over bare =
      let stood : SiteStands (beside_of d s) (d.world.nodes s) e = stands.disk_sets.sites s e below there in
      let o : OverIs e = over_set (beside_of d s) (d.world.nodes s) e stood over in
      stands_made (beside_of d s) (d.world.nodes s) o.set.site (subst (λ (x : DiskSet R g). SiteStands (beside_of d s) (d.world.nodes s) x) o.is stood).1 bare

  -- what the import leads to, wherever the site comes to rest
  abbrev pub Rises : Doubted → (s : ℕ) → Yard R g → Yard R g → Result Said OutOfMemory → Type 0
  Rises d s old new result =
      (kept : ℕ) (taken : Bool) (name : List ℕ) → RestsSo d s kept taken → StandsFor (rests_as d s kept taken) old → s < (rests_as d s kept taken).world.sites → is_over_rvg ((rests_as d s kept taken).world.nodes s) ≡ true
      → ((rests_as d s kept taken).world.nodes s).state ≡ IsDown → RaisesIs d (Recover name) s kept taken old new result

  leads_of : (d : Doubted) (name : List ℕ) (s kept : ℕ) (taken : Bool) (old mid new : Yard R g) (result : Result Said OutOfMemory) → site_number d.world name ≡ s → (Carries d old → Carries (rests_as d s kept taken) mid)
      → RoseAll [] (count_of old) (count_of mid) → RaisesIs d (Recover name) s kept taken mid new result → LeadsAboveIs d (Recover name) old new result
  leads_of d name s kept taken old mid new (Ok said) number carried rose r = record {
    next = r.next;
    fails = r.fails;
    works = subst (λ (k : ℕ). RvgBack (IsTold new) d (Recover name) k r.fails said r.next ⊎ RvgFinds (IsTold new) d (Recover name) k r.fails said r.next) (sym number) r.works;
    stands = r.stands;
    carries = λ was. r.carries (carried was);
    rose = rose_then r.fails (count_of old) (count_of mid) (count_of new) rose r.rose;
  }
  leads_of d name s kept taken old mid new (Err e) number carried rose r = record {
    next = r.next;
    part = inr (subst (λ (k : ℕ). RvgShort (IsTold new) d (Recover name) k r.next) (sym number) r.part);
    stands = r.stands;
    carries = λ was. r.carries (carried was);
    rose = rose_then [] (count_of old) (count_of mid) (count_of new) rose r.rose;
  }

  -- of a site that is down
  pub above_down : (d : Doubted) (name : List ℕ) (s : ℕ) (old new : Yard R g) (result : Result Said OutOfMemory) → StandsFor d old → site_number d.world name ≡ s → s < d.world.sites → is_over_rvg (d.world.nodes s) ≡ true
      → (d.world.nodes s).state ≡ IsDown → Rises d s old new result → LeadsAboveIs d (Recover name) old new result
  above_down d name s old new result stands number below over down rises =
      let same : rests_as d s 0 false ≡ d = rest_down d s down in
      let rests : RestsSo d s 0 false = record {
        fits = subst (λ (e : Doubted). LinksFit e) (sym (world_down d s down)) stands.links;
        disks = ap (λ (e : Doubted). (e.world.nodes s).disks) same;
        blocks = ap (λ (e : Doubted). (e.world.nodes s).blocks) same;
        group = ap (λ (e : Doubted). (e.world.nodes s).group) same;
        over = over;
      } in
      leads_of d name s 0 false old old new result number (λ was. subst (λ (e : Doubted). Carries e old) (sym same) was) (rose_none (count_of old) (count_of old) (λ i u. omega arith))
      (rises 0 false name rests (subst (λ (e : Doubted). StandsFor e old) (sym same) stands) (subst (λ (e : Doubted). s < e.world.sites) (sym same) below)
      (ap (λ (e : Doubted). is_over_rvg (e.world.nodes s)) same ∙ over) (ap (λ (e : Doubted). (e.world.nodes s).state) same ∙ down))

  -- and of one that is up
  pub above_up : (d : Doubted) (name : List ℕ) (s : ℕ) (old mid new : Yard R g) (result : Result Said OutOfMemory) → StandsFor d old → site_number d.world name ≡ s → s < d.world.sites → is_over_rvg (d.world.nodes s) ≡ true
      → (d.world.nodes s).state ≡ IsUp → Falls d s old mid → Rises d s mid new result → LeadsAboveIs d (Recover name) old new result
  above_up d name s old mid new result stands number below over up f rises =
      let same : rests_as d s f.count f.taken ≡ crash_of d s f.count f.taken = rest_up d s f.count f.taken up in
      let rests : RestsSo d s f.count f.taken = record {
        fits = subst (λ (e : Doubted). LinksFit e) (sym (world_up d s f.count f.taken up)) (fit_happened d (CrashAt s f.count) f.taken tt stands.links);
        disks = ap (λ (e : Doubted). (e.world.nodes s).disks) same ∙ f.disks;
        blocks = ap (λ (e : Doubted). (e.world.nodes s).blocks) same ∙ f.blocks;
        group = ap (λ (e : Doubted). (e.world.nodes s).group) same ∙ f.group;
        over = over;
      } in
      let over_rest : is_over_rvg ((crash_of d s f.count f.taken).world.nodes s) ≡ true =
      ap (λ (o : Option GroupNode). is_some o && not (eqb (length ((crash_of d s f.count f.taken).world.nodes s).volumes) 0)) f.group
      ∙ ap (λ (vs : List Volume). is_some (d.world.nodes s).group && not (eqb (length vs) 0)) f.volumes ∙ over in
      leads_of d name s f.count f.taken old mid new result number (λ was. subst (λ (e : Doubted). Carries e mid) (sym same) (f.carries was)) f.rose
      (rises f.count f.taken name rests (subst (λ (e : Doubted). StandsFor e mid) (sym same) f.stands) (subst (λ (e : Doubted). s < e.world.sites) (sym same) (omega (arith, below, f.sites)))
      (ap (λ (e : Doubted). is_over_rvg (e.world.nodes s)) same ∙ over_rest) (ap (λ (e : Doubted). (e.world.nodes s).state) same ∙ f.down))

  -- memory ran out before anything was done
  pub unbegun_above : (d : Doubted) (line : ScriptLine) (y : Yard R g) (r : Result Said OutOfMemory) (x : OutOfMemory) → r ≡ Err x → StandsFor d y → LeadsAboveIs d line y y r
  unbegun_above d line y r x is stands =
      subst (λ (q : Result Said OutOfMemory). LeadsAboveIs d line y y q) (sym is) (record {
        next = d;
        part = inl (StopsInPart (none_done d line));
        stands = stands;
        carries = λ was. was;
        rose = rose_none (count_of y) (count_of y) (λ i u. omega arith);
      })
