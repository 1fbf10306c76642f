-- What disks tell an import by logs, where a crash leaves less, and of disks that tell nothing.
use Rattle.std.proofs.Common.{◌≡◌, ◌∙◌, ℕ, ◌+◌, ◌/◌, Bool, true, false, List, ap, sym}
use Rattle.vx_config.specs.declared.config.Config.{Config}
use Rattle.vx_copyfmt.specs.Imports.{Found}
use Rattle.vx_disk.specs.Shelf.{Each, Image, Meaning}
use Rattle.vx_groupmaps.specs.Missing.{bit_in_maps}
use Rattle.vx_kept.specs.Groups.{found}
use Rattle.vx_kept.proofs.Low.{found_same}
use Rattle.vx_layout.specs.Places.{place}
use Rattle.vx_logimport.specs.Covers.{DisksTell}
use Rattle.vx_group.specs.Settles.{LivesAgree}
use Rattle.vx_logimport.specs.Rests.{AlikeRests, LogsTell, MapsTell, RestsNone, rests}
use Rattle.vx_logimport.specs.declared.rested.Rested.{Rested}
use Rattle.vx_logimport.proofs.ToldLemmas.{cover_less, tells_less}

-- fewer images and reads tell what all told
module _ (m m' : Meaning) (units : m'.units ≡ m.units) (size : (u : ℕ) → m'.size u ≡ m.size u) (less : (u b : ℕ) (y : List ℕ) → m'.leaves u b y → m.leaves u b y) where
  was_found : (i : Image) (x : Config) → found m' i ≡ Found x → found m i ≡ Found x
  was_found i x is = sym (found_same m m' units size (λ u. true) i) ∙ is

  was_each : (i : Image) → Each m'.leaves i → Each m.leaves i
  was_each i each = λ u b. less u b (i u b) (each u b)

  lives_less : (x : Config) (v : ℕ) → LivesAgree x v m → LivesAgree x v m'
  lives_less x v it = record {
    so = λ p q b y z inside on_p on_q at_p at_q. it.so p q b y z inside on_p on_q (less (place x v p b).0 (place x v p b).1 y at_p) (less (place x v q b).0 (place x v q b).1 z at_q);
  }

  alike_less : (v : ℕ) → AlikeRests v m → AlikeRests v m'
  alike_less v it = record { each = λ i x each at clean. lives_less x v (it.each i x (was_each i each) (was_found i x at) clean) }

  -- behind a crash no map knows what its plex misses
  pub fallen_less : (r s : Rested) → s.alike ≡ r.alike → s.drls ≡ r.drls → ((v : ℕ) → rests s.maps v ≡ false) → LogsTell r m → LogsTell s m'
  fallen_less r s alike drls none tells = record {
    covers = λ v. cover_less v m m' units size less (tells.covers v);
    drl = λ v is. tells_less v m m' units size less (tells.drl v (ap (λ (flags : List Bool). rests flags v) (sym drls) ∙ is));
    alike = λ v is. alike_less v (tells.alike v (ap (λ (flags : List Bool). rests flags v) (sym alike) ∙ is));
    maps = λ v is. absurd (let clash : true ≡ false = sym is ∙ none v in cc);
  }

  module _ (read : (u b : ℕ) (y : List ℕ) → m'.reads u b y → m.reads u b y) where
    pub maps_less : (x : Config) (v : ℕ) → MapsTell x v m → MapsTell x v m'
    maps_less x v it = record {
      so = λ e p q b y z w in_use has on_q inside low left off at_p at_q.
          it.so e p q b y z w in_use has on_q inside low (less e.disk (e.start + bit_in_maps x v p b / 4096) w left) off (read (place x v p b).0 (place x v p b).1 y at_p) (read (place x v q b).0 (place x v q b).1 z at_q);
      one = λ e k y z in_use some low left_y left_z. it.one e k y z in_use some low (less e.disk (e.start + k) y left_y) (less e.disk (e.start + k) z left_z);
    }

    pub less_tells : (r : Rested) → LogsTell r m → LogsTell r m'
    less_tells r tells = record {
      covers = λ v. cover_less v m m' units size less (tells.covers v);
      drl = λ v is. tells_less v m m' units size less (tells.drl v is);
      alike = λ v is. alike_less v (tells.alike v is);
      maps = λ v is. record { each = λ i x each at clean. maps_less x v ((tells.maps v is).each i x (was_each i each) (was_found i x at) clean) };
    }

-- disks of which no image is left
pub untold_tells : (r : Rested) (m : Meaning) → ((i : Image) → Each m.leaves i → ⊥) → LogsTell r m
untold_tells r m none = record {
  covers = λ v. record { covers = λ i x each at. absurd (none i each) };
  drl = λ v is. record { covers = λ i x each at. absurd (none i each); settled = λ i x each at. absurd (none i each) };
  alike = λ v is. record { each = λ i x each at clean. absurd (none i each) };
  maps = λ v is. record { each = λ i x each at clean. absurd (none i each) };
}

-- what dirty region logs tell suffices where nothing is said of a clean stop
pub none_tells : (r : Rested) (m : Meaning) → RestsNone r → ((v : ℕ) → DisksTell v m) → LogsTell r m
none_tells r m none tells = record {
  covers = λ v. record { covers = (tells v).covers };
  drl = λ v is. tells v;
  alike = λ v is. let clash : true ≡ false = sym is ∙ none.alike v in cc;
  maps = λ v is. let clash : true ≡ false = sym is ∙ none.maps v in cc;
}
