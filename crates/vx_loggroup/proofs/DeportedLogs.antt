-- What the disks of a group with logs tell behind a deport, and what a refused one leaves.
use Rattle.std.proofs.Common.{◌≡◌, ◌⊎◌, ◌∙◌, inl, inr, ℕ, ◌<◌, Bool, List, length, refl, sym, arith}
use Rattle.std.specs.Prelude.{Result, Ok, Err, IfErr}
use Rattle.vx_config.specs.declared.config.Config.{Config}
use Rattle.vx_config.specs.declared.entry.VolumeLog.TheVariants.{Drl}
use Rattle.vx_copyfmt.specs.Imports.{Found}
use Rattle.vx_disk.specs.Shelf.{Each, Goes, Image, Meaning, Nothing}
use Rattle.vx_kept.specs.Cleans.{at_serial}
use Rattle.vx_kept.specs.Groups.{found}
use Rattle.vx_kept.specs.Keeping.{SameShape}
use Rattle.vx_kept.specs.PlexActs.{PlexActs}
use Rattle.vx_kept.proofs.Chosen.{active_volumes, alike_shape}
use Rattle.vx_kept.proofs.PlexActing.{wider_Acts}
use Rattle.vx_kept.proofs.StateLemmas.{then_shape}
use Rattle.vx_logs.specs.declared.logs.Logs.{Logs}
use Rattle.vx_model.specs.declared.errors.Stop.{Stop}
use Rattle.vx_group.specs.Calls.{GroupCloses}
use Rattle.vx_group.specs.Deports.{DeportedBy}
use Rattle.vx_group.specs.Holding.{GroupStands, wide}
use Rattle.vx_group.specs.Resumes.{AtRest}
use Rattle.vx_group.specs.Stands.{inner_meaning}
use Rattle.vx_group.specs.declared.group_core.GroupCore.{GroupCore}
use Rattle.vx_group.proofs.HoldLemmas.{narrow_wider}
use Rattle.vx_group.proofs.Standing.{fit_of, sound_of}
use Rattle.vx_grouplogs.specs.On.{VolumeOn}
use Rattle.vx_grouplogs.proofs.OnLemmas.{on_acts, spares_none}
use Rattle.vx_logged.specs.Logged.{LogKept, LogOn}
use Rattle.vx_logged.proofs.StandLemmas.{inner_wide}
use Rattle.vx_logimport.specs.Covers.{DisksCover, DisksTell, LogSettled}
use Rattle.vx_logimport.proofs.ToldLemmas.{covers_of, rest_settled, settled_of}
use Rattle.vx_loggroup.specs.LoggedVolumes.{LoggedStands}
use Rattle.vx_loggroup.proofs.AlikeLemmas.{all_whole}
use Rattle.vx_loggroup.proofs.StayLemmas.{each_idle}

module _ (c : GroupCore) (m new : Meaning) (stands : GroupStands c m) (it : DeportedBy (wide c).config c.inner m new) where
  -- the group behind the flushes, under the serial of the configuration that was committed
  abbrev at : Config
  at = at_serial it.config.serial it.behind.config

  pub at_shape : SameShape at (wide c).config
  at_shape = alike_shape at it.behind.config (wide c).config refl (then_shape it.behind.config c.inner.config (wide c).config it.quiesces.shape (inner_wide c m stands))

  pub at_acts : PlexActs Nothing (wide c).config at m new
  at_acts = record {
    acts = wider_Acts Nothing Nothing _ m new it.quiesces.acts (λ u b x none. none);
    shape = at_shape;
    on = λ w q is. narrow_wider c m stands w q (it.quiesces.on w q (sym (active_volumes at it.behind.config refl w q) ∙ is));
  }

  module _ (v : ℕ) (l : Logs) (lt : v < length (wide c).config.volumes) (on : LogOn c v l m) where
    pub on_at : VolumeOn at v l new
    on_at = on_acts Nothing (wide c).config at (sound_of (wide c) m stands.stands) v l m new (fit_of (wide c) m stands.stands) at_acts (spares_none Nothing (wide c).config v l (λ u b x none. none)) on

    lt_at : v < length at.volumes
    lt_at = let same = at_shape.volumes in omega (arith, lt, same)

    pub deport_covers : DisksCover v new
    deport_covers = record { covers = λ i x each is. covers_of at x v l new lt_at on_at (it.kept.kin i x each is) }

    pub deport_told : LogKept c v l ⊎ AtRest new → DisksTell v new
    deport_told why = record {
      covers = deport_covers.covers;
      settled = λ i x each is. by i x each is why;
    }
      where
        by : (i : Image) (x : Config) → Each new.leaves i → found new i ≡ Found x → LogKept c v l ⊎ AtRest new → LogSettled x v new
        by i x each is (inl kept) = settled_of at x v l new lt_at on_at (it.kept.kin i x each is) (λ trusted none. kept (at_shape.trusted v Drl trusted) none)
        by i x each is (inr rest) = rest_settled x v new rest

module _ (c d : GroupCore) (ls : List Logs) (a : List Bool) (s : Bool) (m new : Meaning) (stands : LoggedStands c ls a s m) where
  pub deport_stands : (r : Result (Unit {0}) Stop) → GroupCloses c d m new r → IfErr r (λ e. Goes Nothing (inner_meaning (wide c) m) (inner_meaning (wide d) new)) → IfErr r (λ e. LoggedStands d ls a s new)
  deport_stands (Ok x) it goes = tt
  deport_stands (Err e) it goes = all_whole c d ls a s m new stands it.stands goes (each_idle _ c d m new stands.group it.quiesces.shape goes it.quiesces.acts)
