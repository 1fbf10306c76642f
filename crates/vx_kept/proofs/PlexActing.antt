-- Which blocks of the disks calls write, one after the other.
use Rattle.std.proofs.Common.{inl, inr, ⊎_elim, ℕ, IsTrue, List, sym, ◌∙◌}
use Rattle.vx_disk.specs.Moves.{Anything, Says}
use Rattle.vx_disk.specs.Shelf.{Goes, Meaning, Nothing, Or, Values}
use Rattle.vx_config.specs.declared.config.Config.{Config}
use Rattle.vx_kept.specs.Keeping.{Acts, SameShape}
use Rattle.vx_kept.specs.PlexActs.{PlexActs}
use Rattle.vx_kept.proofs.StateLemmas.{same_shape, then_shape}
use Rattle.vx_kept.proofs.Steps.{both_Acts, same_Acts, wide_Acts}
use Rattle.vx_volume.specs.Plexes.{active}
use Rattle.vx_volume.specs.Volumes.{OnPlexes}

-- more values, and no word of images
pub wider_Acts : (W V : Values) (P : Says) (a b : Meaning) → Acts W P a b → ((u k : ℕ) (x : List ℕ) → W u k x → V u k x) → Acts V Anything a b
wider_Acts W V P a b acts wide = wide_Acts (Or Nothing W) V Anything a b (both_Acts Nothing W Anything P a a b (same_Acts Anything a) acts (λ i now. tt)) (λ u k x. ⊎_elim (λ none. absurd none) (λ put. wide u k x put))

-- calls that write such values anywhere
goes_Acts : (W : Values) (m m' : Meaning) → Goes W m m' → Acts W Anything m m'
goes_Acts W m m' goes = record {
  units = goes.units;
  size = goes.size;
  tells = goes.tells;
  reads = λ u b x le is. goes.reads u b x is;
  leaves = λ u b x le left. goes.leaves u b x left;
  later = goes.later;
  since = λ t i le left. ⊎_elim (λ was. inl was) (λ now. inr ((λ u b far. now u b), tt)) (goes.since t i le left);
  keeps = goes.keeps;
  faults = goes.faults;
  disk_faults = goes.disk_faults;
  falls = goes.falls;
  unarmed = goes.unarmed;
  safe = goes.safe;
}

-- no call
pub none_PlexActs : (W : Values) (c : Config) (m : Meaning) → PlexActs W c c m m
none_PlexActs W c m = record { acts = wider_Acts Nothing W Anything m m (same_Acts Anything m) (λ u b x none. absurd none); shape = same_shape c; on = λ v p is. is }

-- no commit
pub only_PlexActs : (W : Values) (c : Config) (m m' : Meaning) → Goes W m m' → PlexActs W c c m m'
only_PlexActs W c m m' goes = record { acts = goes_Acts W m m' goes; shape = same_shape c; on = λ v p is. is }

-- two in a row
pub both_PlexActs : (V W X : Values) (c d e : Config) (m m1 m2 : Meaning) → PlexActs V c d m m1 → PlexActs W d e m1 m2 → ((u b : ℕ) (x : List ℕ) → V u b x → X u b x) → ((u b : ℕ) (x : List ℕ) → W u b x → X u b x) → PlexActs X c e m m2
both_PlexActs V W X c d e m m1 m2 one two first second = record {
  acts = wide_Acts (Or V W) X Anything m m2 (both_Acts V W Anything Anything m m1 m2 one.acts two.acts (λ i now. tt)) (λ u b x. ⊎_elim (λ put. first u b x put) (λ put. second u b x put));
  shape = then_shape e d c two.shape one.shape;
  on = λ v p is. one.on v p (two.on v p is);
}

-- blocks of plexes that are ACTIVE are such blocks where more of them are
pub on_wider : (c d : Config) (v block n : ℕ) (bytes : List ℕ) → SameShape d c → ((w p : ℕ) → IsTrue (active d w p) → IsTrue (active c w p)) → (u b : ℕ) (x : List ℕ) → OnPlexes d v block n bytes u b x → OnPlexes c v block n bytes u b x
on_wider c d v block n bytes shape on u b x is = record {
  plex = is.plex;
  is_on = on v is.plex is.is_on;
  put = record { number = is.put.number; run = is.put.run; at = sym (shape.place v is.plex is.put.number) ∙ is.put.at; value = is.put.value };
}
