-- What the maps of missed regions know of the volumes of a group beside calls that show nothing new of them.
use Rattle.std.proofs.Common.{◌≡◌, inl, inr, ℕ, ◌/◌, Bool, true, false, Some, List, IsTrue, subst}
use Rattle.vx_config.specs.Checks.{blocks_of as blocks_in, is_sound}
use Rattle.vx_config.specs.declared.config.Config.{Config}
use Rattle.vx_disk.specs.Shelf.{Goes, Meaning, Nothing, Values}
use Rattle.vx_fmr.specs.Missed.{Missed, has_missed}
use Rattle.vx_group.specs.Holding.{GroupStands, wide}
use Rattle.vx_group.specs.Stands.{inner_meaning}
use Rattle.vx_group.specs.declared.group_core.GroupCore.{GroupCore}
use Rattle.vx_group.proofs.Standing.{sound_of}
use Rattle.vx_groupmaps.specs.Between.{ReadsOr}
use Rattle.vx_groupmaps.specs.Knowing.{MapsKnowBy}
use Rattle.vx_groupmaps.specs.Missing.{or_spared}
use Rattle.vx_groupmaps.proofs.KnowLemmas.{read_old}
use Rattle.vx_grouplogs.proofs.LogShape.{has_back}
use Rattle.vx_kept.specs.Groups.{OnSome}
use Rattle.vx_kept.specs.Keeping.{SameShape, frame_at}
use Rattle.vx_kept.proofs.Steps.{inside_same}
use Rattle.vx_layout.specs.Places.{HasBlock, place}
use Rattle.vx_logs.specs.declared.logs.Logs.{Logs}
use Rattle.vx_logged.specs.Logged.{KnownBy}

-- A volume of which two configurations have the same plexes at the same places, and of which nothing new is read; no block of a plex gets a value in a
-- region that it has not missed.
module _ (W : Values) (c d : Config) (sound : is_sound c ≡ true) (v : ℕ) (frames : frame_at d v ≡ frame_at c v) (blocks : blocks_in d.volumes v ≡ blocks_in c.volumes v) (places : (p b : ℕ) → place d v p b ≡ place c v p b) (m m' : Meaning)
    (reads : ReadsOr W m m') (some : (b : ℕ) (y : List ℕ) → (IsTrue m'.down → ⊥) → OnSome d m'.reads v b y → OnSome c m.reads v b y) where
  pub know_seen : (spare : ℕ → ℕ → Bool) (l : Logs) → ((f : Missed) → l.fmr ≡ Some f → (p b : ℕ) (x : List ℕ) → HasBlock c v p b → or_spared spare (has_missed f) p (b / 64) ≡ false → W (place c v p b).0 (place c v p b).1 x → ⊥) → MapsKnowBy c v spare l m → MapsKnowBy d v spare l m'
  know_seen spare l off know = record {
    so = λ f is up. record {
      so = λ p q b x y has on inside clear at_p at_q.
          let has_c = has_back c d v frames blocks p b has in
          let one = some b y up (record { inside = inside; plex = q; is_on = on; value = at_q }) in
          (know.so f is (λ down. up (reads.falls down))).so p one.plex b x y has_c one.is_on one.inside clear
          (read_old c sound v W m m' reads up p b x has_c (off f is p b x has_c clear) (subst (λ (s : ℕ × ℕ). m'.reads s.0 s.1 x) (places p b) at_p))
          one.value;
    };
  }

-- the same of a group whose volumes show nothing new
module _ (c d : GroupCore) (m m' : Meaning) (shape : SameShape (wide d).config (wide c).config) (goes : Goes Nothing (inner_meaning (wide c) m) (inner_meaning (wide d) m')) where
  -- what a volume reads some plex of it read
  pub some_read : (v b : ℕ) (y : List ℕ) → (IsTrue m'.down → ⊥) → OnSome (wide d).config m'.reads v b y → OnSome (wide c).config m.reads v b y
  some_read v b y up is = elim (goes.reads v b y (inl is)) [
    | inl (inl (inl some)) ↦ some
    | inl (inl (inr out)) ↦ absurd (out.outside (inside_same (wide d).config (wide c).config shape v b is.inside))
    | inl (inr none) ↦ absurd none
    | inr down ↦ absurd (up down)
  ]

pub know_goes : (W : Values) (c d : GroupCore) (m m' : Meaning) → GroupStands c m → SameShape (wide d).config (wide c).config → Goes Nothing (inner_meaning (wide c) m) (inner_meaning (wide d) m') → ReadsOr W m m' → (v : ℕ) (spare : ℕ → ℕ → Bool) (l : Logs)
    → ((f : Missed) → l.fmr ≡ Some f → (p b : ℕ) (x : List ℕ) → HasBlock (wide c).config v p b → or_spared spare (has_missed f) p (b / 64) ≡ false → W (place (wide c).config v p b).0 (place (wide c).config v p b).1 x → ⊥) → KnownBy c v spare l m → KnownBy d v spare l m'
know_goes W c d m m' stands shape goes reads v spare l off know = know_seen W (wide c).config (wide d).config (sound_of (wide c) m stands.stands) v (shape.frames v) (shape.blocks v) (shape.place v) m m' reads (some_read c d m m' shape goes v) spare l off know
