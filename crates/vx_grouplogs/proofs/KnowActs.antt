-- What the maps of missed regions of a volume know beside calls of a group, and beside calls on logs.
use Rattle.std.proofs.Common.{◌≡◌, ◌∙◌, ℕ, Bool, true, Some, None, List, IsTrue, sym, ap, subst}
use Rattle.vx_config.specs.Checks.{blocks_of as blocks_in, is_sound}
use Rattle.vx_config.specs.declared.config.Config.{Config}
use Rattle.vx_disk.specs.Shelf.{Goes, Meaning, Nothing, Values}
use Rattle.vx_fmr.specs.Missed.{has_missed}
use Rattle.vx_groupmaps.specs.Knowing.{MapsKnowBy}
use Rattle.vx_groupmaps.specs.Missing.{or_spared}
use Rattle.vx_groupmaps.proofs.BetweenLemmas.{goes_reads}
use Rattle.vx_groupmaps.proofs.KnowLemmas.{knows_stay}
use Rattle.vx_kept.specs.Keeping.{frame_at}
use Rattle.vx_kept.specs.PlexActs.{PlexActs}
use Rattle.vx_kept.proofs.Steps.{inside_same}
use Rattle.vx_layout.specs.Places.{HasBlock, place}
use Rattle.vx_logs.specs.declared.logs.Logs.{Logs}
use Rattle.vx_logs.proofs.LogLemmas.{log_off_plex}
use Rattle.vx_volume.specs.Plexes.{Inside, active}
use Rattle.vx_grouplogs.specs.Covering.{OnLogs}
use Rattle.vx_grouplogs.proofs.LogShape.{has_back}

-- a block of a plex is none of the logs
pub logs_off_plex : (c : Config) → is_sound c ≡ true → (v w p k : ℕ) (x : List ℕ) → HasBlock c w p k → OnLogs c v (place c w p k).0 (place c w p k).1 x → ⊥
logs_off_plex c sound v w p k x has on = log_off_plex c sound v on.log on.entry on.is w p k (place c w p k).1 has (ap (λ (y : ℕ). (y, (place c w p k).1)) on.run.there) on.run.first on.run.last

-- where no log of missed regions is in memory
pub know_none : (c : Config) (v : ℕ) (spare : ℕ → ℕ → Bool) (l : Logs) (m : Meaning) → l.fmr ≡ None → MapsKnowBy c v spare l m
know_none c v spare l m none = record { so = λ f is up. absurd (let clash : None ≡ Some f = sym none ∙ is in cc) }

-- the same maps know the same
pub know_same : (c : Config) (v : ℕ) (spare : ℕ → ℕ → Bool) (l k : Logs) (m : Meaning) → k.fmr ≡ l.fmr → MapsKnowBy c v spare l m → MapsKnowBy c v spare k m
know_same c v spare l k m same know = record { so = λ f is up. know.so f (sym same ∙ is) up }

-- calls on logs
pub know_logs : (c : Config) → is_sound c ≡ true → (v : ℕ) (m m' : Meaning) → Goes (OnLogs c v) m m' → (w : ℕ) (spare : ℕ → ℕ → Bool) (l : Logs) → MapsKnowBy c w spare l m → MapsKnowBy c w spare l m'
know_logs c sound v m m' goes w spare l know = record {
  so = λ f is up.
      knows_stay c sound w (OnLogs c v) m m' (goes_reads (OnLogs c v) m m' goes) up (or_spared spare (has_missed f)) (or_spared spare (has_missed f)) (λ p b has inside clear. clear) (λ p b x has on. logs_off_plex c sound v w p b x has on)
      (know.so f is (λ down. up (goes.falls down)));
}

-- calls that write no block of a plex of the volume, and may detach some
pub know_acts : (W : Values) (c d : Config) → is_sound c ≡ true → (v : ℕ) (spare : ℕ → ℕ → Bool) (l : Logs) (m m' : Meaning) → PlexActs W c d m m' → ((p b : ℕ) (x : List ℕ) → HasBlock c v p b → W (place c v p b).0 (place c v p b).1 x → ⊥)
    → MapsKnowBy c v spare l m → MapsKnowBy d v spare l m'
know_acts W c d sound v spare l m m' acts off know = record {
  so = λ f is up.
      let stay = knows_stay c sound v W m m' (record { so = acts.acts.reads; falls = acts.acts.falls }) up (or_spared spare (has_missed f)) (or_spared spare (has_missed f)) (λ p b has inside clear. clear) off (know.so f is (λ down. up (acts.acts.falls down))) in
      record {
        so = λ p q b x y has on inside clear at_p at_q.
            stay.so p q b x y (has_back c d v (acts.shape.frames v) (acts.shape.blocks v) p b has) (acts.on v q on) (inside_same d c acts.shape v b inside) clear
            (subst (λ (s : ℕ × ℕ). m'.reads s.0 s.1 x) (acts.shape.place v p b) at_p) (subst (λ (s : ℕ × ℕ). m'.reads s.0 s.1 y) (acts.shape.place v q b) at_q);
      };
}

pub know_idle : (c d : Config) → is_sound c ≡ true → (v : ℕ) (spare : ℕ → ℕ → Bool) (l : Logs) (m m' : Meaning) → PlexActs Nothing c d m m' → MapsKnowBy c v spare l m → MapsKnowBy d v spare l m'
know_idle c d sound v spare l m m' acts know = know_acts Nothing c d sound v spare l m m' acts (λ p b x has none. none) know

-- a configuration in which the volume lies alike, and no other plex of it is ACTIVE
pub know_shape : (c d : Config) (v : ℕ) → frame_at d v ≡ frame_at c v → blocks_in d.volumes v ≡ blocks_in c.volumes v → ((p b : ℕ) → place d v p b ≡ place c v p b) → ((q : ℕ) → IsTrue (active d v q) → IsTrue (active c v q)) → ((b : ℕ) → Inside d v b → Inside c v b)
    → (spare : ℕ → ℕ → Bool) (l : Logs) (m : Meaning) → MapsKnowBy c v spare l m → MapsKnowBy d v spare l m
know_shape c d v frames blocks places less within spare l m know = record {
  so = λ f is up. record {
    so = λ p q b x y has on inside clear at_p at_q.
        (know.so f is up).so p q b x y (has_back c d v frames blocks p b has) (less q on) (within b inside) clear
        (subst (λ (s : ℕ × ℕ). m.reads s.0 s.1 x) (places p b) at_p) (subst (λ (s : ℕ × ℕ). m.reads s.0 s.1 y) (places q b) at_q);
  };
}
