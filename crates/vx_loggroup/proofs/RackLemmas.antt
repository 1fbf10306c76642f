-- A group with logs beside the own calls of its rack.
use Rattle.std.proofs.Common.{◌≡◌, ℕ, Bool, List, ◌∙◌}
use Rattle.vx_config.specs.declared.config.Config.{Config}
use Rattle.vx_disk.specs.Racks.{Alike}
use Rattle.vx_disk.specs.Shelf.{Meaning, Values}
use Rattle.vx_grouplogs.specs.Covering.{AllAlike}
use Rattle.vx_grouplogs.specs.On.{VolumeOn}
use Rattle.vx_group.specs.Settles.{ReadsOne}
use Rattle.vx_groupmaps.specs.Knowing.{MapsKnow}
use Rattle.vx_group.specs.Holding.{GroupStands, wide}
use Rattle.vx_group.specs.declared.group_core.GroupCore.{GroupCore}
use Rattle.vx_kept.specs.Groups.{OnSome}
use Rattle.vx_logs.specs.declared.logs.Logs.{Logs}
use Rattle.vx_loggroup.specs.Fresh.{FreshStands}
use Rattle.vx_loggroup.specs.LoggedVolumes.{LoggedStands}

some_of : (c : Config) (old new : Values) (v b : ℕ) (x : List ℕ) → ((u k : ℕ) (y : List ℕ) → new u k y → old u k y) → OnSome c new v b x → OnSome c old v b x
some_of c old new v b x sub is = record { inside = is.inside; plex = is.plex; is_on = is.is_on; value = sub _ _ x is.value }

module _ (c : Config) (v : ℕ) (m m' : Meaning) (alike : Alike m m') where
  alike_one : AllAlike c v m → AllAlike c v m'
  alike_one it = record { one = λ b x y clear one two. it.one b x y clear (some_of c m.leaves m'.leaves v b x alike.contents.leaves one) (some_of c m.leaves m'.leaves v b y alike.contents.leaves two) }

  reads_one : ReadsOne c v m → ReadsOne c v m'
  reads_one it = record { one = λ b x y one two. it.one b x y (some_of c m.reads m'.reads v b x alike.contents.reads one) (some_of c m.reads m'.reads v b y alike.contents.reads two) }

  volume_on : (l : Logs) → VolumeOn c v l m → VolumeOn c v l m'
  volume_on l on = record {
    fits = on.fits;
    stands = record {
      drl = λ d is. record { each = λ k lt. record { only = λ x left. ((on.stands.drl d is).each k lt).only x (alike.contents.leaves _ _ x left) } };
      fmr = λ f is. record { each = λ k lt. record { only = λ x left. ((on.stands.fmr f is).each k lt).only x (alike.contents.leaves _ _ x left) } };
    };
    memory = record {
      so = λ d is. record {
        one = λ b x y clear one two. (on.memory.so d is).one b x y clear (some_of c m.leaves m'.leaves v b x alike.contents.leaves one) (some_of c m.leaves m'.leaves v b y alike.contents.leaves two);
      };
    };
    disk = λ trusted. record {
      so = λ e b p q x y z is inside on_p on_q left clear one two. (on.disk trusted).so e b p q x y z is inside on_p on_q (alike.contents.leaves _ _ z left) clear (alike.contents.leaves _ _ x one) (alike.contents.leaves _ _ y two);
    };
  }

  maps_know : m'.down ≡ m.down → (l : Logs) → MapsKnow c v l m → MapsKnow c v l m'
  maps_know down l know = record {
    so = λ f is up. record {
      so = λ p q b x y has on inside clear one two. (know.so f is (λ fell. up (down ∙ fell))).so p q b x y has on inside clear (alike.contents.reads _ _ x one) (alike.contents.reads _ _ y two);
    };
  }

pub alike_logged : (c : GroupCore) (ls : List Logs) (a : List Bool) (s : Bool) (m m' : Meaning) → Alike m m' → m'.down ≡ m.down → GroupStands c m' → LoggedStands c ls a s m → LoggedStands c ls a s m'
alike_logged c ls a s m m' alike down group stands = record {
  group = group;
  many = stands.many;
  each = λ v l is.
      let was = stands.each v l is in
      record {
        on = λ going. volume_on (wide c).config v m m' alike l (was.on going);
        maps = λ going. maps_know (wide c).config v m m' alike down l (was.maps going);
        alike = λ same up. reads_one (wide c).config v m m' alike (was.alike same (λ fell. up (down ∙ fell)));
      };
}

pub alike_fresh : (c : GroupCore) (f : List Bool) (m m' : Meaning) → Alike m m' → FreshStands c f m → FreshStands c f m'
alike_fresh c f m m' alike fresh = record { each = λ v is. alike_one (wide c).config v m m' alike (fresh.each v is) }
