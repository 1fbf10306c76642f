-- The disks of a site whose group has a replicated volume group, past changes of its node by which they do not stand.
use Rattle.std.proofs.Common.{◌≡◌, ◌∙◌, ◌≤◌, ap, inl, inr, sym, ℕ, Bool, true, false, length}
use Rattle.std.specs.Prelude.{None}
use Rattle.vx_model.specs.Sites.{is_origin}
use Rattle.vx_model.specs.declared.site.SiteState.TheVariants.{Up as IsUp, Down as IsDown, Deported as IsDeported}
use Rattle.vx_history.specs.Steps.{burned, worked}
use Rattle.vx_history.specs.World.{Fuse as FuseOf, Node}
use Rattle.vx_config.specs.declared.config.Config.{Config}
use Rattle.vx_disk.specs.Shelf.{Meaning}
use Rattle.vx_disk.specs.declared.shelf.Shelf.{Ghosts}
use Rattle.vx_diskset.specs.LaidBlocks.{laid_blockwise}
use Rattle.vx_diskset.specs.Holds.{KeptBeside}
use Rattle.vx_diskset.specs.Stands.{AwayLeft, FellOver, OverStands, RestsOver, idle_ready}
use Rattle.vx_diskset.specs.declared.over_set.OverSite.{OverSite}
use Rattle.vx_diskset.specs.declared.over_set.OverSite.TheVariants.{Origin as OriginSite, Receiver as ReceiverSite, Deported as GroupAway, Down as GroupFell, Gone as NoGroup}
use Rattle.vx_diskset.proofs.FailGroup.{receiver_failing, up_failing}
use Rattle.vx_diskset.proofs.ReachedBack.{receiver_burned}
use Rattle.vx_diskset.proofs.StaysUp.{up_worked}

module _ (beside : KeptBeside) (n : Node) (fuse : FuseOf) (failing : ℕ → Bool) (m : Meaning) where
  abbrev k : Node
  k = record n { fuse = fuse; failing = failing }

  rests_like : (P Q : Config → Type 0) → ((c : Config) → P c → Q c) → RestsOver P beside n m → RestsOver Q beside k m
  rests_like P Q like it = record {
    config = it.config;
    sure = it.sure;
    lies = it.lies;
    there = it.there;
    low = it.low;
    logged = it.logged;
    begun = it.begun;
    left = λ told. like it.config (it.left told);
  }

  left_like : (c : Config) → AwayLeft c beside n m → AwayLeft c beside k m
  left_like c (inl it) = inl (record { extends = it.extends; left = it.left })
  left_like c (inr it) = inr (record { over = record { extends = it.over.extends; found = it.over.found }; settles = it.settles; one = it.one })

  away_like : RestsOver (λ c. AwayLeft c beside n m) beside n m → RestsOver (λ c. AwayLeft c beside k m) beside k m
  away_like = rests_like (λ c. AwayLeft c beside n m) (λ c. AwayLeft c beside k m) left_like

  fell_like : RestsOver (λ c. FellOver c beside n m) beside n m → RestsOver (λ c. FellOver c beside k m) beside k m
  fell_like = rests_like (λ c. FellOver c beside n m) (λ c. FellOver c beside k m) (λ c it. record { extends = it.extends; found = it.found })

module _ {R : Type 0} {g : Ghosts R} where
  -- some writes and flushes may have been made
  pub over_worked : (beside : KeptBeside) (n : Node) (s : OverSite R g) → OverStands beside n s → OverStands beside (worked n) s
  over_worked beside n (OriginSite f) it = up_worked n f.core (laid_blockwise f.laid) it
  over_worked beside n (ReceiverSite f) it = receiver_burned n f.core f.waiting (laid_blockwise f.laid) it
  over_worked beside n (GroupAway idle) it = (it.0, away_like beside n (burned n.fuse) n.failing (idle_ready idle) it.1)
  over_worked beside n (GroupFell idle) it = (it.0, ap (λ (f : FuseOf). burned f) it.1, fell_like beside n (burned n.fuse) n.failing (idle_ready idle) it.2, it.3)
  over_worked beside n NoGroup it = it

  -- other disks are made to fail
  pub over_failing : (beside : KeptBeside) (n : Node) (failing : ℕ → Bool) (s : OverSite R g) → OverStands beside n s → OverStands beside (record n { failing = failing }) s
  over_failing beside n failing (OriginSite f) it = up_failing beside n failing f.core (laid_blockwise f.laid) it
  over_failing beside n failing (ReceiverSite f) it = receiver_failing beside n failing f.core f.waiting (laid_blockwise f.laid) it
  over_failing beside n failing (GroupAway idle) it = (it.0, away_like beside n n.fuse failing (idle_ready idle) it.1)
  over_failing beside n failing (GroupFell idle) it = (it.0, it.1, fell_like beside n n.fuse failing (idle_ready idle) it.2, it.3)
  over_failing beside n failing NoGroup it = it

  -- an origin that is up and runs has no write that is not durable
  pub over_durable : (beside : KeptBeside) (n : Node) (s : OverSite R g) → OverStands beside n s → n.state ≡ IsUp → n.halted ≡ None → is_origin n.role ≡ true → length n.log ≤ n.safe
  over_durable beside n (OriginSite f) it up none origin = it.durable none
  over_durable beside n (ReceiverSite f) it up none origin = absurd (let e : true ≡ false = sym origin ∙ it.role in cc)
  over_durable beside n (GroupAway idle) it up none origin = absurd (let e : IsDeported ≡ IsUp = sym it.0 ∙ up in cc)
  over_durable beside n (GroupFell idle) it up none origin = absurd (let e : IsDown ≡ IsUp = sym it.0 ∙ up in cc)
  over_durable beside n NoGroup it up none origin = absurd it
