-- Disks below a replicated volume group that crash, and what is done to them then.
use Rattle.std.proofs.Common.{◌≡◌, ◌∙◌, ℕ, ◌&&◌, Bool, true, false, refl, subst, sym}
use Rattle.std.specs.Prelude.{Option, Some}
use Rattle.std.proofs.lemmas.Bool.{both_ways}
use Rattle.vx_disk.specs.Causes.{OnDisks}
use Rattle.vx_disk.specs.Disks.{Crashed}
use Rattle.vx_disk.specs.Racks.{Stopped}
use Rattle.vx_disk.specs.declared.shelf.Shelf.{Ghosts}
use Rattle.vx_group.specs.Settles.{LacksCommit}
use Rattle.vx_grouped.specs.Away.{IsAwayAt}
use Rattle.vx_grouped.specs.GroupNotes.{GroupLies, is_sure}
use Rattle.vx_grouped.specs.GroupSites.{idle_below, idle_disks, laid_below, laid_disks}
use Rattle.vx_grouped.specs.SiteMaps.{RestsNot}
use Rattle.vx_grouped.specs.declared.idle.Idle.{Idle}
use Rattle.vx_grouped.specs.declared.laid.Laid.{Laid}
use Rattle.vx_grouped.proofs.ImageLemmas.{sure_kept}
use Rattle.vx_history.specs.Groups.{GroupNode}
use Rattle.vx_history.specs.World.{Node}
use Rattle.vx_logimport.specs.declared.rested.Rested.{Rested}
use Rattle.vx_model.specs.declared.site.SiteState.TheVariants.{Down as IsDown}
use Rattle.vx_untold.specs.Shades.{rack_of, shade_meaning}
use Rattle.vx_untold.specs.declared.shade.Shade.{Shade}
use Rattle.vx_untold.specs.declared.shade.Shade.TheVariants.{Bright, Dark}
use Rattle.vx_watched.specs.Traces.{TellsLess}
use Rattle.vx_diskset.specs.Founded.{LaidFell}
use Rattle.vx_diskset.specs.OverStarts.{FellBack, FellDark, all_latest, is_dark}

-- ---- answers

pub and_true : (b : Bool) → b ≡ (b && true)
and_true true = refl
and_true false = refl

pub and_false : (b : Bool) → false ≡ (b && false)
and_false true = refl
and_false false = refl

pub dark_same : {R : Type 0} (s : Shade R) → is_dark s ≡ true → Dark (rack_of s) ≡ s
dark_same (Bright rack) is = absurd (let clash : false ≡ true = is in cc)
dark_same (Dark rack) is = refl

-- ---- a crash

module _ {R : Type 0} {g : Ghosts R} (pick : ℕ) (laid : Laid R g) (fell : Idle R g) (away : (n : Node) (note : GroupNode) → GroupLies n note laid.core (laid_disks laid) → IsAwayAt (record n { state = IsDown }) note laid.core.inner.config (idle_disks fell))
    (stopped : Stopped (laid_disks laid) (idle_disks fell)) (agreed : fell.agreed ≡ laid.core.inner.agreed) (disks : OnDisks (laid_disks laid).disks (idle_disks fell).disks (Crashed (laid_disks laid).size pick)) (rests : RestsNot fell.rested)
    (lacking : (r : Rested) → fell.rested ≡ Some r → LacksCommit laid.core.inner → ⊥) (told : TellsLess (laid_below laid) (idle_below fell)) where
  -- imports agree
  pub fell_sure : is_sure laid.core ≡ true → LaidFell pick laid fell
  fell_sure sure = record {
    away = away;
    stopped = stopped;
    agreed = agreed ∙ laid.stands.group.stands.trusts.both (sure_kept laid.core.inner.committed laid.core.held sure) ∙ sym sure;
    rests = rests;
    lacking = lacking;
    disks = disks;
    told = told;
  }

  -- they may not
  pub fell_doubted : (idle : Idle R g) → idle.rack ≡ fell.rack → idle.agreed ≡ false → idle.rested ≡ fell.rested → is_sure laid.core ≡ false → LaidFell pick laid idle
  fell_doubted idle rack off rested unsure = record {
    away = λ n note lies. subst (λ (s : Shade R). IsAwayAt (record n { state = IsDown }) note laid.core.inner.config (shade_meaning g.meaning s)) (sym rack) (away n note lies);
    stopped = subst (λ (s : Shade R). Stopped (laid_disks laid) (shade_meaning g.meaning s)) (sym rack) stopped;
    agreed = off ∙ sym unsure;
    rests = subst (λ (o : Option Rested). RestsNot o) (sym rested) rests;
    lacking = λ r is. lacking r (sym rested ∙ is);
    disks = subst (λ (s : Shade R). OnDisks (laid_disks laid).disks (shade_meaning g.meaning s).disks (Crashed (laid_disks laid).size pick)) (sym rack) disks;
    told = subst (λ (s : Shade R). TellsLess (laid_below laid) (g.meaning (rack_of s))) (sym rack) told;
  }

-- ---- behind a start that was refused

module _ {R : Type 0} {g : Ghosts R} (mid : Laid R g) (fell : Idle R g) (it : LaidFell all_latest mid fell) where
  pub back_bright : is_dark fell.rack ≡ false → FellBack mid fell
  back_bright bright = record { fell = fell; is = it; rack = refl; rested = refl; agreed = λ off. refl; void = λ on. absurd (both_ways (is_dark fell.rack) bright on) }

  module _ (idle : Idle R g) (rack : idle.rack ≡ Dark (rack_of fell.rack)) (agreed : idle.agreed ≡ true) (rested : idle.rested ≡ fell.rested) where
    pub back_dark : is_dark fell.rack ≡ true → FellBack mid idle
    back_dark dark = record { fell = fell; is = it; rack = rack ∙ dark_same fell.rack dark; rested = rested; agreed = λ bright. absurd (both_ways (is_dark fell.rack) bright dark); void = λ on. agreed }

  pub back_darkened : (rested : Option Rested) (idle : Idle R g) → idle.rack ≡ Dark (rack_of fell.rack) → idle.agreed ≡ true → idle.rested ≡ rested → FellDark rested mid idle
  back_darkened rested idle rack agreed stays = record { fell = fell; is = it; rack = rack; agreed = agreed; stays = stays }
