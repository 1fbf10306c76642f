-- Logs behind the copies of an import.
use Rattle.std.proofs.Common.{◌≡◌, ◌⊎◌, inl, ⊎_elim, ℕ, ◌/◌, ◌<◌, Bool, true, false, IsTrue, IsFalse, Option, Some, None, List, length, refl, sym, ◌∙◌, subst}
use Rattle.vx_config.specs.Checks.{is_sound}
use Rattle.vx_config.specs.declared.config.Config.{Config}
use Rattle.vx_disk.specs.Moves.{Anything}
use Rattle.vx_disk.specs.Shelf.{Goes, Meaning, Nothing, Or, Values}
use Rattle.vx_drl.specs.Dirty.{Dirty, is_dirty}
use Rattle.vx_layout.specs.Places.{place}
use Rattle.vx_logs.specs.declared.logs.Logs.{Logs}
use Rattle.vx_resync.specs.Picks.{marked_or}
use Rattle.vx_volume.specs.Plexes.{DisksFit, Inside, active}
use Rattle.vx_kept.specs.Cleans.{is_unsure}
use Rattle.vx_kept.specs.Keeping.{Acts}
use Rattle.vx_kept.specs.PlexActs.{PlexActs}
use Rattle.vx_kept.proofs.Lasting.{cases_bool}
use Rattle.vx_kept.proofs.Narrower.{stand_apart}
use Rattle.vx_kept.proofs.PlexActing.{only_PlexActs, wider_Acts}
use Rattle.vx_kept.proofs.Steps.{both_Acts, inside_same, wide_Acts}
use Rattle.vx_group.specs.Attaches.{AnyImage}
use Rattle.vx_group.specs.Mends.{GroupGoesOn, OnMarked, drl_at}
use Rattle.vx_group.specs.Resumes.{IsMended, stopped}
use Rattle.vx_group.specs.declared.inner.Inner.{Inner}
use Rattle.vx_grouplogs.specs.Covering.{AllAlike, OnLogs}
use Rattle.vx_grouplogs.specs.On.{SparesVolume, VolumeOn}
use Rattle.vx_grouplogs.proofs.LogPlaces.{logs_beside}
use Rattle.vx_grouplogs.proofs.OnLemmas.{on_acts}
use Rattle.vx_logimport.specs.Marked.{OnStopped, dirty_logs}

module _ (core d : Inner) (flags : List Bool) (logs : List Logs) (m1 new : Meaning) (sound : is_sound core.config ≡ true) (fit : DisksFit core.config.disks m1) (on : GroupGoesOn core d m1 new) (only : Acts (OnMarked core.config flags logs) AnyImage m1 new) where
  abbrev W : Values
  W = OnMarked core.config flags logs

  acts : PlexActs W core.config d.config m1 new
  acts = record { acts = wider_Acts W W AnyImage m1 new only (λ u b y put. put); shape = on.shape; on = on.on }

  beside : (v u b : ℕ) (y : List ℕ) → W u b y → OnLogs core.config v u b y → ⊥
  beside v u b y put at = logs_beside core.config sound v put.volume put.plex put.number u b y put.inside put.is_on put.at at

  -- a block of a volume that was written is of this one
  here : (v b p : ℕ) (y : List ℕ) → Inside core.config v b → IsTrue (active core.config v p) → (put : W (place core.config v p b).0 (place core.config v p b).1 y) → (v ≡ put.volume) × (b ≡ put.number)
  here v b p y inside is_on put = let one = (stand_apart core.config sound).one v p b put.volume put.plex put.number inside put.inside is_on put.is_on (sym put.at) in (one.0, one.2)

  marked_here : (v b : ℕ) (g : Dirty) (w k : ℕ) → v ≡ w → b ≡ k → drl_at logs v ≡ Some g → IsTrue (marked_or (drl_at logs w) (k / 64)) → is_dirty g (b / 64) ≡ true
  marked_here v b g w k same at is marked =
      subst (λ (o : Option Dirty). IsTrue (marked_or o (b / 64))) is (subst (λ (n : ℕ). IsTrue (marked_or (drl_at logs v) (n / 64))) (sym at) (subst (λ (u : ℕ). IsTrue (marked_or (drl_at logs u) (k / 64))) (sym same) marked))

  spares_read : (v : ℕ) (g : Dirty) → drl_at logs v ≡ Some g → SparesVolume W core.config v (dirty_logs (Some g))
  spares_read v g is = record {
    logs = beside v;
    plexes = λ b p y inside is_on put. record {
      some = λ trusted none. let clash : Some g ≡ None = none in cc;
      held = λ h same.
          let at = here v b p y inside is_on put in
          let one : g ≡ h = cc in
          subst (λ (f : Dirty). is_dirty f (b / 64) ≡ true) one (marked_here v b g put.volume put.number at.0 at.1 is put.marked);
    };
  }

  spares_whole : (v : ℕ) → is_unsure flags v ≡ false → (l : Logs) → SparesVolume W core.config v l
  spares_whole v off l = record {
    logs = beside v;
    plexes = λ b p y inside is_on put.
        let at = here v b p y inside is_on put in
        absurd (let clash : true ≡ false = sym put.stopped ∙ subst (λ (w : ℕ). is_unsure flags w ≡ false) at.0 off in cc);
  }

  -- a volume that was made alike
  pub alike_new : (v source : ℕ) (old : Meaning) → IsMended core.config v source d old new → AllAlike d.config v new
  alike_new v source old was = record {
    one = λ b y z off one two. was.one b y (inside_same d.config core.config on.shape v b one.inside) (inl one) ∙ sym (was.one b z (inside_same d.config core.config on.shape v b two.inside) (inl two));
  }

  by_alike : (v : ℕ) → AllAlike d.config v new → VolumeOn d.config v (dirty_logs None) new
  by_alike v alike = record {
    fits = record { drl = λ g is. absurd (let clash : None ≡ Some g = is in cc); fmr = λ f is. absurd (let clash : None ≡ Some f = is in cc) };
    stands = record { drl = λ g is. absurd (let clash : None ≡ Some g = is in cc); fmr = λ f is. absurd (let clash : None ≡ Some f = is in cc) };
    memory = record { so = λ g is. absurd (let clash : None ≡ Some g = is in cc) };
    disk = λ trusted. record {
      so = λ e b p q y z w is inside on_p on_q left off at_p at_q.
          alike.one b y z refl (record { inside = inside; plex = p; is_on = on_p; value = at_p }) (record { inside = inside; plex = q; is_on = on_q; value = at_q });
    };
  }

  pub on_new : (v : ℕ) → ((o : Option Dirty) → drl_at logs v ≡ o → VolumeOn core.config v (dirty_logs o) m1) → (is_unsure flags v ≡ true → AllAlike d.config v new) → VolumeOn d.config v (dirty_logs (drl_at logs v)) new
  on_new v was alike = by (drl_at logs v) refl
    where
      none_by : drl_at logs v ≡ None → IsTrue (is_unsure flags v) ⊎ IsFalse (is_unsure flags v) → VolumeOn d.config v (dirty_logs None) new
      none_by = λ is split. ⊎_elim (λ mark. by_alike v (alike mark)) (λ off. on_acts W core.config d.config sound v (dirty_logs None) m1 new fit acts (spares_whole v off (dirty_logs None)) (was None is)) split

      by : (o : Option Dirty) → drl_at logs v ≡ o → VolumeOn d.config v (dirty_logs o) new
      by None is = none_by is (cases_bool (is_unsure flags v))
      by (Some g) is = on_acts W core.config d.config sound v (dirty_logs (Some g)) m1 new fit acts (spares_read v g is) (was (Some g) is)

-- what was written behind reads, by the configuration that was found
pub only_stopped : (x c : Config) (flags : List Bool) (logs : List Logs) (old m1 new : Meaning) → ((v : ℕ) → v < length c.volumes → is_unsure flags v ≡ stopped x v) → Goes Nothing old m1 → Acts (OnMarked c flags logs) AnyImage m1 new → Acts (OnStopped x c logs) AnyImage old new
only_stopped x c flags logs old m1 new same goes only =
    wide_Acts (Or Nothing (OnMarked c flags logs)) (OnStopped x c logs) AnyImage old new (both_Acts Nothing (OnMarked c flags logs) Anything AnyImage old m1 new (only_PlexActs Nothing c old m1 goes).acts only (λ i now. tt))
    (λ u k y. ⊎_elim (λ none. absurd none) (λ put. record {
      volume = put.volume;
      plex = put.plex;
      number = put.number;
      unclean = sym (same put.volume put.inside.volume) ∙ put.stopped;
      marked = put.marked;
      inside = put.inside;
      is_on = put.is_on;
      at = put.at;
    }))
