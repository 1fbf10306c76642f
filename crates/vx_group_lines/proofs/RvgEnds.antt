-- What a line that makes a replicated volume group leads its yard to, by what its call answered.
use Rattle.std.proofs.Common.{◌≡◌, ◌∙◌, ℕ, List, [], ◌∷◌, map, inl, ap, sym, subst, refl}
use Rattle.std.specs.Prelude.{Some, slice_set, Result, Ok, Err}
use Rattle.vx_model.specs.declared.errors.OutOfMemory.{OutOfMemory}
use Rattle.vx_model.specs.declared.errors.Stop.{Stop}
use Rattle.vx_model.specs.declared.errors.Stop.TheVariants.{No as StopsBy, OutOfMemory as MemoryStop}
use Rattle.vx_model.specs.declared.limits.TheConstants.{MOST_NUMBER}
use Rattle.vx_model.specs.declared.no.Counted.{Counted}
use Rattle.vx_model.specs.declared.no.Counted.TheVariants.{Number}
use Rattle.vx_model.specs.declared.no.No.{No}
use Rattle.vx_model.specs.declared.no.No.TheVariants.{Device, Down as IsOff, Limit}
use Rattle.vx_model.specs.declared.units.Units.{Units}
use Rattle.vx_disk.specs.Counts.{Rose}
use Rattle.vx_disk.specs.Shelf.{Meaning}
use Rattle.vx_disk.specs.declared.shelf.Shelf.{Ghosts}
use Rattle.vx_config.specs.Table.{greatest}
use Rattle.vx_config.specs.declared.config.Config.{Config}
use Rattle.vx_history.specs.Doubts.{Doubted}
use Rattle.vx_history.specs.Groups.{GroupNode}
use Rattle.vx_history.specs.Steps.{crashed}
use Rattle.vx_history.specs.Stops.{IsFused}
use Rattle.vx_history.specs.World.{Node}
use Rattle.vx_order.specs.declared.facts.SiteFacts.{SiteFacts}
use Rattle.vx_rvg.specs.Views.{Core}
use Rattle.vx_script.specs.declared.line.ScriptLine.TheVariants.{Rvg}
use Rattle.vx_grouped.specs.GroupSites.{site_config, site_disks, with_note}
use Rattle.vx_grouped.specs.declared.group_site.GroupSite.{GroupSite}
use Rattle.vx_diskset.proofs.GroundNotes.{calm_by}
use Rattle.vx_diskset.specs.Asked.{SameFailing}
use Rattle.vx_diskset.specs.GroupCalls.{AtSite, CalledOn, core_in}
use Rattle.vx_diskset.specs.Makings.{MadeOver, MakesNone, MakesRvgIs, PlainNoted, StaysNone, below_in, note_begun}
use Rattle.vx_diskset.specs.declared.disk_set.DiskSet.{DiskSet}
use Rattle.vx_events.proofs.Parts.{none_done}
use Rattle.vx_events.specs.GroupLines.{plain_number}
use Rattle.vx_events.specs.GroupNotes.{note_at}
use Rattle.vx_events.specs.GroupViews.{noted_table}
use Rattle.vx_events.specs.Parts.{StopsInPart}
use Rattle.vx_events.specs.RvgNotes.{units_named}
use Rattle.vx_events.specs.StepsOver.{fact_of_group}
use Rattle.vx_events.specs.declared.said.Said.{Said}
use Rattle.vx_events.specs.declared.said.Said.TheVariants.{Done, Refused}
use Rattle.vx_yard.proofs.Carrying.{SameLoad}
use Rattle.vx_yard.proofs.Lists.{set_same}
use Rattle.vx_yard.proofs.NamedSite.{unbegun_for}
use Rattle.vx_yard.proofs.OneSite.{Changed}
use Rattle.vx_yard.specs.Gaining.{LeadsRvg, LeadsRvgIs}
use Rattle.vx_yard.specs.Standing.{StandsFor}
use Rattle.vx_yard.specs.Writes.{below_facts}
use Rattle.vx_yard.specs.declared.yard.Yard.{Yard}
use Rattle.vx_group_lines.proofs.GroupEnding.{Midway, lets_on, load_on}
use Rattle.vx_group_lines.proofs.RvgAt.{RvgAt, asks_config}
use Rattle.vx_group_lines.proofs.RvgLeads.{gained_leads}
use Rattle.vx_group_lines.proofs.RvgOff.{fell_leads}
use Rattle.vx_group_lines.proofs.RvgRefused.{fails_leads, lacks_leads, memory_leads}
use Rattle.vx_group_lines.specs.Making.{seen_number, seen_units}
use Rattle.vx_group_lines.specs.Noting.{IsNotedRefusal, made_facts, reply_noted}

-- ---- the units

numbers_are : (note : GroupNode) (names : List (List ℕ)) → map (seen_number (noted_table note)) names ≡ map (plain_number note) names
numbers_are note [] = refl
numbers_are note (name ∷ names) = ap (λ (ns : List ℕ). plain_number note name ∷ ns) (numbers_are note names)

-- by what the tests see of a group they are those that the line names
pub units_are : (note : GroupNode) (srl maps : List ℕ) (volumes : List (List ℕ)) → seen_units (noted_table note) srl maps volumes ≡ units_named note srl maps volumes
units_are note srl maps volumes = ap (λ (ns : List ℕ). let u : Units = record { srl = plain_number note srl; maps = plain_number note maps; vols = ns } in u) (numbers_are note volumes)

-- ---- memory was wanted before anything was done

pub rvg_unbegun : {R : Type 0} {g : Ghosts R} (d : Doubted) (y : Yard R g) (name srl maps : List ℕ) (volumes : List (List ℕ)) (r : Result Said OutOfMemory) (e : OutOfMemory) → r ≡ Err e → StandsFor d y → LeadsRvgIs d name srl maps volumes y y r
rvg_unbegun d y name srl maps volumes r e is stands =
    let stays = unbegun_for d y stands in
    subst (λ (x : Result Said OutOfMemory). LeadsRvgIs d name srl maps volumes y y x) (sym is)
    (record { next = d; part = inl (StopsInPart (none_done d (Rvg name srl maps volumes))); stands = stays.stands; none = λ never. never; carries = stays.carries; rose = stays.rose })

-- ---- the call

module _ {R : Type 0} {g : Ghosts R} (d : Doubted) (old new : Yard R g) (name srl maps : List ℕ) (volumes : List (List ℕ)) (s : ℕ) (before after : DiskSet R g) (stands : StandsFor d old)
    (at : RvgAt d old name srl maps volumes s before) (changed : Changed old new s before after) (failing : SameFailing before after) (since : CalledOn before after) where
  abbrev n : Node
  n = d.world.nodes s

  abbrev note : GroupNode
  note = note_at (d.world.nodes s)

  abbrev units : Units
  units = units_named (note_at (d.world.nodes s)) srl maps volumes

  abbrev config : Config
  config = (asks_config d old name srl maps volumes s before stands at).config

  abbrev was_site : GroupSite R g
  was_site = at.group.set.site

  abbrev now_site : GroupSite R g
  now_site = below_in after at.group.set.site

  abbrev o : Meaning
  o = site_disks was_site

  abbrev e : Meaning
  e = site_disks now_site

  abbrev f : SiteFacts
  f = fact_of_group (d.world.nodes s) (note_at (d.world.nodes s))

  -- what the call made, of a group
  made_of : (r : Result (Unit {0}) Stop) → MadeOver s n note units config before after r → MakesRvgIs s n note units config was_site after now_site r
  made_of r it = subst (λ (x : DiskSet R g). MadeOver s n note units config x after r) at.group.is_set it

  -- ---- done

  done_by : MakesRvgIs s n note units config was_site after now_site (Ok (tt {0}))
      → ((core : Core) (c : Config) → core_in after ≡ Some core → AtSite (λ x. site_config x ≡ Some c) after → new.facts.items ≡ slice_set old.facts.items s (made_facts core c (fact_of_group (d.world.nodes s) (note_at (d.world.nodes s)))))
      → SameLoad old new → LeadsRvg d name srl maps volumes Done old new
  done_by (middle, settled, narrows, one, works, goes, agrees, made, noted) shown load =
      gained_leads d old new name srl maps volumes s before after stands at changed failing since middle settled narrows one works goes (calm_by middle settled o e agrees) made noted shown load

  pub rvg_done : MadeOver s n note units config before after (Ok (tt {0}))
      → ((core : Core) (c : Config) → core_in after ≡ Some core → AtSite (λ x. site_config x ≡ Some c) after → new.facts.items ≡ slice_set old.facts.items s (made_facts core c (fact_of_group (d.world.nodes s) (note_at (d.world.nodes s)))))
      → SameLoad old new → LeadsRvg d name srl maps volumes Done old new
  rvg_done it shown load = done_by (made_of (Ok (tt {0})) it) shown load

  -- ---- refused

  module _ (mid : Yard R g) (half : Midway old mid) (result : Result Said OutOfMemory) where
    facts_same : (x : SiteFacts) → x ≡ fact_of_group (d.world.nodes s) (note_at (d.world.nodes s)) → new.facts.items ≡ slice_set mid.facts.items s x → new.facts.items ≡ old.facts.items
    facts_same x is facts =
        facts ∙ ap (λ (fs : List SiteFacts). slice_set fs s x) half.facts ∙ ap (λ (y : SiteFacts). slice_set old.facts.items s y) is
        ∙ set_same old.facts.items s (fact_of_group (d.world.nodes s) (note_at (d.world.nodes s))) at.group.fact

    device_by : (disk : ℕ) → MakesNone (StaysNone n was_site now_site after) n note units was_site now_site → Rose (o.disk_faults disk) (e.disk_faults disk) → IsNotedRefusal s f (Device disk) mid new result
        → LeadsRvgIs d name srl maps volumes old new result
    device_by disk (middle, next, narrows, works, goes, maps_stand, still) rose r =
        subst (λ (x : Result Said OutOfMemory). LeadsRvgIs d name srl maps volumes old new x) (sym r.said)
        (fails_leads d old new name srl maps volumes s before after stands at changed failing since (facts_same (below_facts (Device disk) f) refl r.facts) (load_on old mid new half r.same r.assemblies) middle next narrows works goes maps_stand
        (calm_by (note_begun units middle) next o e still.0) still.1 disk rose)

    limit_by : (what : Counted) (most : ℕ) → what ≡ Number → most ≡ greatest → MakesNone (StaysNone n was_site now_site after) n note units was_site now_site → IsNotedRefusal s f (Limit what most) mid new result
        → LeadsRvgIs d name srl maps volumes old new result
    limit_by what most counted is (middle, next, narrows, works, goes, maps_stand, still) r =
        let said : result ≡ Ok (Refused (Limit Number MOST_NUMBER)) =
        r.said ∙ ap (λ (x : Counted). let a : Result Said OutOfMemory = Ok (Refused (Limit x most)) in a) counted ∙ ap (λ (x : ℕ). let a : Result Said OutOfMemory = Ok (Refused (Limit Number x)) in a) is in
        subst (λ (x : Result Said OutOfMemory). LeadsRvgIs d name srl maps volumes old new x) (sym said)
        (lacks_leads d old new name srl maps volumes s before after stands at changed failing since (facts_same (below_facts (Limit what most) f) refl r.facts) (load_on old mid new half r.same r.assemblies) middle next narrows works goes maps_stand
        (calm_by (note_begun units middle) next o e still.0) still.1 0)

    off_by : MakesNone (λ begun next. PlainNoted (crashed (with_note next n) 0) next after) n note units was_site now_site → IsFused n.fuse → IsNotedRefusal s f IsOff mid new result → LeadsRvgIs d name srl maps volumes old new result
    off_by (middle, next, narrows, works, goes, maps_stand, noted) fused r =
        subst (λ (x : Result Said OutOfMemory). LeadsRvgIs d name srl maps volumes old new x) (sym r.said)
        (fell_leads d old new name srl maps volumes s before after stands at changed failing since middle next narrows works goes maps_stand noted fused
        (r.facts ∙ ap (λ (fs : List SiteFacts). slice_set fs s (below_facts IsOff f)) half.facts) (lets_on old mid new s half r.same r.assemblies))

    refused_by : (why : No) → MakesRvgIs s n note units config was_site after now_site (Err (StopsBy why)) → IsNotedRefusal s f why mid new result → LeadsRvgIs d name srl maps volumes old new result
    refused_by (Device disk) it r = device_by disk it.0 it.1 r
    refused_by IsOff it r = off_by it.0 it.1 r
    refused_by (Limit what most) (counted, is, made) r = limit_by what most counted is made r
    refused_by other it r = absurd it

    memory_by : MakesNone (StaysNone n was_site now_site after) n note units was_site now_site → new ≡ mid → result ≡ Err (record {}) → LeadsRvgIs d name srl maps volumes old new result
    memory_by (middle, next, narrows, works, goes, maps_stand, still) same is =
        subst (λ (x : Result Said OutOfMemory). LeadsRvgIs d name srl maps volumes old new x) (sym is)
        (memory_leads d old new name srl maps volumes s before after stands at changed failing since (ap (λ (y : Yard R g). y.facts.items) same ∙ half.facts) (subst (λ (y : Yard R g). SameLoad old y) (sym same) half.load) middle next narrows works goes maps_stand
        (calm_by (note_begun units middle) next o e still.0) still.1 0)

    pub rvg_stopped : (stop : Stop) → MadeOver s n note units config before after (Err stop) → reply_noted s (fact_of_group (d.world.nodes s) (note_at (d.world.nodes s))) stop mid new result → LeadsRvgIs d name srl maps volumes old new result
    rvg_stopped (StopsBy why) it r = refused_by why (made_of (Err (StopsBy why)) it) r
    rvg_stopped MemoryStop it r = memory_by (made_of (Err MemoryStop) it) r.0 r.1
