-- A log that is trusted by a commit, beside what stands of the logs of all volumes.
use Rattle.std.proofs.Common.{◌≡◌, ◌∙◌, ℕ, Bool, true, false, List, refl, sym, ap, subst, arith}
use Rattle.vx_config.specs.Changes.{lost}
use Rattle.vx_config.specs.Checks.{is_sound}
use Rattle.vx_config.specs.declared.config.Config.{Config}
use Rattle.vx_config.specs.declared.entry.VolumeLog.{VolumeLog}
use Rattle.vx_config.specs.declared.entry.VolumeLog.TheVariants.{Drl}
use Rattle.vx_disk.specs.Shelf.{Meaning, Nothing}
use Rattle.vx_kept.specs.Groups.{OnSome}
use Rattle.vx_maplog.specs.Logs.{used_or}
use Rattle.vx_kept.specs.LogRuns.{log_trusted}
use Rattle.vx_kept.specs.PlexActs.{PlexActs}
use Rattle.vx_logs.specs.declared.logs.Logs.{Logs}
use Rattle.vx_volume.specs.Plexes.{DisksFit}
use Rattle.vx_group.specs.Holding.{GroupStands, wide}
use Rattle.vx_group.specs.declared.group_core.GroupCore.{GroupCore}
use Rattle.vx_group.proofs.Standing.{fit_of, sound_of}
use Rattle.vx_group.proofs.TrustingLemmas.{trusting_active, trusting_others, trusting_shape}
use Rattle.vx_grouplogs.specs.Covering.{AllAlike}
use Rattle.vx_grouplogs.specs.On.{VolumeOn}
use Rattle.vx_groupmaps.specs.Knowing.{MapsKnow, MapsKnowBy}
use Rattle.vx_groupmaps.specs.Missing.{none_spared}
use Rattle.vx_grouplogs.proofs.KnowActs.{know_idle, know_shape}
use Rattle.vx_grouplogs.proofs.OnLemmas.{on_acts, spares_none}
use Rattle.vx_grouplogs.proofs.SeenLemmas.{KeepsVolume, ShowsNone, alike_covers, on_given, on_seen}
use Rattle.vx_logged.specs.Logged.{EachOn, Known, LogOn, OthersOn}

-- ---- by the configuration that trusts it

module _ (v : ℕ) (log : VolumeLog) (c : Config) (sound : is_sound c ≡ true) (m : Meaning) (fit : DisksFit c.disks m) where
  abbrev told : Config
  told = lost v log false c

  trusted_back : (w : ℕ) → (w ≡ v → ⊥) → log_trusted told w Drl ≡ true → log_trusted c w Drl ≡ true
  unfolding log_trusted
  trusted_back w apart is = sym (ap used_or (trusting_others v log c w Drl (λ same at. apart same))) ∙ is

  -- where it is another log
  map_back : (Drl ≡ log → ⊥) → (w : ℕ) → log_trusted told w Drl ≡ true → log_trusted c w Drl ≡ true
  unfolding log_trusted
  map_back other w is = sym (ap used_or (trusting_others v log c w Drl (λ same at. other at))) ∙ is

  told_keeps : (w : ℕ) → KeepsVolume w c told
  told_keeps w = record {
    inside = λ b is. record { volume = let same = (trusting_shape v log c).volumes in omega (arith, is.volume, same); within = let same = (trusting_shape v log c).blocks w in omega (arith, is.within, same) };
    blocks = sym ((trusting_shape v log c).blocks w);
    logs = λ k. sym ((trusting_shape v log c).logs w k);
    frames = sym ((trusting_shape v log c).frames w);
  }

  some_told : (w b : ℕ) (x : List ℕ) → OnSome told m.leaves w b x → OnSome c m.leaves w b x
  some_told w b x is = record {
    inside = (told_keeps w).inside b is.inside;
    plex = is.plex;
    is_on = sym (trusting_active v log c w is.plex) ∙ is.is_on;
    value = subst (λ (at : ℕ × ℕ). m.leaves at.0 at.1 x) (sym ((trusting_shape v log c).place w is.plex b)) is.value;
  }

  told_shows : (w : ℕ) → ShowsNone w c told m m
  told_shows w = record { logs = λ u b x at left. left; some = some_told w }

  pub told_other : (w : ℕ) (l : Logs) → (w ≡ v → ⊥) → VolumeOn c w l m → VolumeOn told w l m
  told_other w l apart on = on_seen w c told sound l m m fit (told_keeps w) (told_shows w) on (trusted_back w apart)

  -- the maps know what they knew
  pub told_spare : (w : ℕ) (spare : ℕ → ℕ → Bool) (l : Logs) → MapsKnowBy c w spare l m → MapsKnowBy told w spare l m
  told_spare w spare l know = know_shape c told w (told_keeps w).frames (told_keeps w).blocks (λ p b. sym ((trusting_shape v log c).place w p b)) (λ q is. sym (trusting_active v log c w q) ∙ is) (told_keeps w).inside spare l m know

  pub told_know : (w : ℕ) (l : Logs) → MapsKnow c w l m → MapsKnow told w l m
  told_know w l know = told_spare w none_spared l know

  pub told_alike : AllAlike c v m → AllAlike told v m
  told_alike alike = record { one = λ b x y off one two. alike.one b x y refl (some_told v b x one) (some_told v b y two) }

  pub told_here : (l : Logs) → AllAlike c v m → VolumeOn c v l m → VolumeOn told v l m
  told_here l alike on = on_given v c told sound l m m fit (told_keeps v) (told_shows v) on (λ trusted. alike_covers told v m (told_alike alike))

  -- where it is a log of missed regions
  pub told_map : (Drl ≡ log → ⊥) → (w : ℕ) (l : Logs) → VolumeOn c w l m → VolumeOn told w l m
  told_map other w l on = on_seen w c told sound l m m fit (told_keeps w) (told_shows w) on (map_back other w)

-- ---- and behind its commit

module _ (v : ℕ) (log : VolumeLog) (c d : GroupCore) (m m' : Meaning) (stands : GroupStands c m) (acts : PlexActs Nothing (lost v log false (wide c).config) (wide d).config m m') (sound : is_sound (lost v log false (wide c).config) ≡ true) where
  fits_told : DisksFit (lost v log false (wide c).config).disks m
  fits_told = fit_of (wide c) m stands.stands

  behind : (w : ℕ) (l : Logs) → VolumeOn (lost v log false (wide c).config) w l m → LogOn d w l m'
  behind w l on = on_acts Nothing (lost v log false (wide c).config) (wide d).config sound w l m m' fits_told acts (spares_none Nothing (lost v log false (wide c).config) w l (λ u b x none. none)) on

  -- what the maps know, as the plexes lie and take part as they did
  pub trusted_know : (w : ℕ) (l : Logs) → Known c w l m → Known d w l m'
  trusted_know w l know = know_idle (lost v log false (wide c).config) (wide d).config sound w none_spared l m m' acts (told_know v log (wide c).config (sound_of (wide c) m stands.stands) m (fit_of (wide c) m stands.stands) w l know)

  pub trusted_others : OthersOn v c d m m'
  trusted_others = record {
    each = λ w l apart on. behind w l (told_other v log (wide c).config (sound_of (wide c) m stands.stands) m (fit_of (wide c) m stands.stands) w l apart on);
    maps = λ w l apart know. trusted_know w l know;
  }

  pub trusted_here : (l : Logs) → AllAlike (wide c).config v m → LogOn c v l m → LogOn d v l m'
  trusted_here l alike on = behind v l (told_here v log (wide c).config (sound_of (wide c) m stands.stands) m (fit_of (wide c) m stands.stands) l alike on)

  -- a log of missed regions that is trusted
  pub mapped_each : (Drl ≡ log → ⊥) → EachOn c d m m'
  mapped_each other = record {
    each = λ w l on. behind w l (told_map v log (wide c).config (sound_of (wide c) m stands.stands) m (fit_of (wide c) m stands.stands) other w l on);
    maps = λ w spare l know. know_idle (lost v log false (wide c).config) (wide d).config sound w spare l m m' acts (told_spare v log (wide c).config (sound_of (wide c) m stands.stands) m (fit_of (wide c) m stands.stands) w spare l know);
  }
