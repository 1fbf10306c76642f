-- Disks that are imported no more, as their logs were stopped: an import of them is refused for want of serials.
use Rattle.std.proofs.Common.{◌≡◌, ◌∙◌, inr, Bool, true, false, not, IsTrue, Option, Some, None, refl, sym, subst}
use Rattle.std.proofs.lemmas.Bool.{false_from_ne_true}
use Rattle.std.specs.Prelude.{Err}
use Rattle.vx_config.specs.Table.{greatest}
use Rattle.vx_disk.specs.Shelf.{Meaning}
use Rattle.vx_disk.specs.declared.shelf.Shelf.{Ghosts}
use Rattle.vx_history.specs.Groups.{GroupNode}
use Rattle.vx_history.specs.Steps.{worked}
use Rattle.vx_history.specs.World.{Node}
use Rattle.vx_loggroup.specs.Opens.{RestTells}
use Rattle.vx_logimport.specs.Rests.{LogsTell}
use Rattle.vx_logimport.specs.declared.rested.Rested.{Rested}
use Rattle.vx_model.specs.declared.errors.Stop.TheVariants.{No as Refused}
use Rattle.vx_model.specs.declared.no.Counted.TheVariants.{Number as Numbers}
use Rattle.vx_model.specs.declared.no.No.TheVariants.{Limit}
use Rattle.vx_untold.specs.Shades.{rack_of, shade_meaning}
use Rattle.vx_untold.specs.Untold.{untold}
use Rattle.vx_untold.specs.declared.shade.Shade.{Shade}
use Rattle.vx_untold.specs.declared.shade.Shade.TheVariants.{Bright, Dark}
use Rattle.vx_watched.proofs.SinceLemmas.{since_none}
use Rattle.vx_grouped.specs.GroupNotes.{note_dimmed}
use Rattle.vx_grouped.specs.GroupSites.{AwayNoted, DownNoted, GroupAway, GroupDown, dimmed_site, idle_below, idle_disks}
use Rattle.vx_grouped.specs.Readies.{ready_of}
use Rattle.vx_grouped.specs.SiteReturns.{KeepsFuse, SiteImports, SiteRecovers}
use Rattle.vx_grouped.specs.declared.group_site.GroupSite.TheVariants.{Deported, Down}
use Rattle.vx_grouped.specs.declared.idle.Idle.{Idle}
use Rattle.vx_grouped.proofs.ImageLemmas.{noted_as}
use Rattle.vx_grouped.proofs.ReadyLemmas.{below_ready, lies_ready, noted_ready, ready_away, ready_down}
use Rattle.vx_grouped.proofs.SettleLemmas.{fuse_burned}
use Rattle.vx_grouped.proofs.SinceReturns.{dark_armed, dark_down}
use Rattle.vx_grouped.proofs.SiteLemmas.{away_dimmed, lit_dimmed, noted_dimmed, some_as}

-- by equal values they tell the same
pub rested_tells : (r s : Rested) (m : Meaning) → Some s ≡ Some r → LogsTell s m → LogsTell r m
rested_tells r s m same it = let is : s ≡ r = cc in subst (λ (x : Rested). LogsTell x m) is it

-- what is told behind a deport
pub rest_tells : (o : Option Rested) (m : Meaning) → RestTells o m → (r : Rested) → o ≡ Some r → LogsTell r m
rest_tells None m it r is = absurd (let clash : None ≡ Some r = is in cc)
rest_tells (Some s) m it r is = rested_tells r s m is it

module _ {R : Type 0} (meaning : R → Meaning) where
  dark_disks : (s : Shade R) → (shade_meaning meaning (Dark (rack_of s))).disks ≡ (shade_meaning meaning s).disks
  dark_disks (Bright r) = refl
  dark_disks (Dark r) = refl

  dark_keeps : (s : Shade R) → (IsTrue (shade_meaning meaning s).down → ⊥) → KeepsFuse (shade_meaning meaning s) (shade_meaning meaning (Dark (rack_of s)))
  dark_keeps s up = record { goes = λ o k was is. ((since_none (shade_meaning meaning s)).told o k was (sym (dark_disks s) ∙ is)).fuse (false_from_ne_true (shade_meaning meaning s).down up) }

  module _ (n : Node) (note : GroupNode) (told : Bool) (s : Shade R) where
    -- disks that crashed, of which nothing is known any more
    dark_down_group : GroupDown n note true told (shade_meaning meaning s) → GroupDown (dimmed_site true note n) (note_dimmed true note) true told (shade_meaning meaning (Dark (rack_of s)))
    dark_down_group it = record {
      noted = noted_dimmed true n note it.noted;
      lit = lit_dimmed note told (shade_meaning meaning (Dark (rack_of s)));
      agrees = λ tight. refl;
      unfused = it.unfused;
      stopped = record { down = dark_down meaning s ∙ it.stopped.down; unarmed = dark_armed meaning s ∙ it.stopped.unarmed };
      last = it.last;
      spells = it.spells;
      away = record {
        state = it.away.state;
        config = it.away.config;
        found = noted_as note (note_dimmed true note) it.last (shade_meaning meaning (Dark (rack_of s))) refl refl (noted_ready meaning false s note it.last it.away.found);
        runs = λ bright. absurd (let clash : true ≡ false = bright in cc);
        some = some_as n (dimmed_site true note n) it.last refl refl it.away.some;
        lies = away_dimmed true n (dimmed_site true note n) note it.last (shade_meaning meaning (Dark (rack_of s))) refl refl (lies_ready meaning false s n note it.last it.away.lies);
      };
    }

    -- and ones that were deported
    dark_away_group : GroupAway n note true told (shade_meaning meaning s) → GroupAway (worked (dimmed_site true note n)) (note_dimmed true note) true told (shade_meaning meaning (Dark (rack_of s)))
    dark_away_group it = record {
      noted = record { is = refl; none = record { role = it.noted.none.role; volumes = it.noted.none.volumes; log = it.noted.none.log; safe = it.noted.none.safe; running = it.noted.none.running } };
      lit = lit_dimmed note told (shade_meaning meaning (Dark (rack_of s)));
      agrees = λ tight. refl;
      up = λ is. it.up (sym (dark_down meaning s) ∙ is);
      fuse = fuse_burned n.fuse (shade_meaning meaning s) (shade_meaning meaning (Dark (rack_of s))) (λ none. dark_armed meaning s ∙ none) it.fuse;
      last = it.last;
      newest = it.newest;
      spells = it.spells;
      away = record {
        state = it.away.state;
        config = it.away.config;
        frames = it.away.frames;
        found = noted_as note (note_dimmed true note) it.newest (shade_meaning meaning (Dark (rack_of s))) refl refl (noted_ready meaning false s note it.newest it.away.found);
        some = some_as n (worked (dimmed_site true note n)) it.newest refl refl it.away.some;
        lies = away_dimmed true n (worked (dimmed_site true note n)) note it.last (shade_meaning meaning (Dark (rack_of s))) refl refl (lies_ready meaning false s n note it.last it.away.lies);
      };
    }

module _ {R : Type 0} {g : Ghosts R} (n : Node) (note : GroupNode) (idle new : Idle R g) (is : new.rack ≡ Dark (rack_of idle.rack)) (agreed : new.agreed ≡ true) where
  abbrev first : Node
  first = dimmed_site (not idle.agreed) note n

  abbrev noted : GroupNode
  noted = note_dimmed (not idle.agreed) note

  never_told : IsTrue (idle_disks new).tells → ⊥
  never_told tells = let clash : false ≡ true = subst (λ (s : Shade R). IsTrue (shade_meaning g.meaning s).tells) is tells in cc

  pub given_down : DownNoted n note (Down idle) → SiteRecovers n note (Down idle) (Down new) (Err (Refused (Limit Numbers greatest)))
  given_down down =
      let dark = dark_down_group g.meaning first noted (idle_below idle).tells (ready_of idle.agreed idle.rack) (ready_down g.meaning n note (idle_below idle).tells idle.agreed idle.rack down) in
      let same = subst (λ (r : R). GroupDown (dimmed_site true noted first) (note_dimmed true noted) true (idle_below idle).tells (untold (g.meaning r))) (below_ready g.meaning idle.agreed idle.rack) dark in (
        subst (λ (b : Bool). GroupDown (dimmed_site true noted first) (note_dimmed true noted) b (idle_below new).tells (idle_disks new)) (sym agreed)
            (subst (λ (s : Shade R). GroupDown (dimmed_site true noted first) (note_dimmed true noted) true (g.meaning (rack_of s)).tells (shade_meaning g.meaning s)) (sym is) same),
        (refl, refl),
        λ tells. absurd (never_told tells),
      )

  pub given_away : AwayNoted n note (Deported idle) → SiteImports n note (Deported idle) (Deported new) (Err (Refused (Limit Numbers greatest)))
  given_away away =
      let ready = ready_away g.meaning n note (idle_below idle).tells idle.agreed idle.rack away in
      let dark = dark_away_group g.meaning first noted (idle_below idle).tells (ready_of idle.agreed idle.rack) ready in
      let same = subst (λ (r : R). GroupAway (worked (dimmed_site true noted first)) (note_dimmed true noted) true (idle_below idle).tells (untold (g.meaning r))) (below_ready g.meaning idle.agreed idle.rack) dark in
      let keeps = subst (λ (r : R). KeepsFuse (shade_meaning g.meaning (ready_of idle.agreed idle.rack)) (untold (g.meaning r))) (below_ready g.meaning idle.agreed idle.rack) (dark_keeps g.meaning (ready_of idle.agreed idle.rack) ready.up) in (
        subst (λ (b : Bool). GroupAway (worked (dimmed_site true noted first)) (note_dimmed true noted) b (idle_below new).tells (idle_disks new)) (sym agreed)
            (subst (λ (s : Shade R). GroupAway (worked (dimmed_site true noted first)) (note_dimmed true noted) true (g.meaning (rack_of s)).tells (shade_meaning g.meaning s)) (sym is) same),
        inr (subst (λ (s : Shade R). KeepsFuse (shade_meaning g.meaning (ready_of idle.agreed idle.rack)) (shade_meaning g.meaning s)) (sym is) keeps),
        (refl, refl),
      )
