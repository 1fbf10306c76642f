-- What the maps of missed regions know of a volume of a group beside marks, and behind a write.
use Rattle.std.proofs.Common.{◌≡◌, ◌∙◌, ◌⊎◌, inl, inr, ℕ, ◌/◌, Bool, true, false, Some, None, List, IsTrue, length, refl, sym, ap, subst, arith}
use Rattle.std.proofs.lemmas.Bool.{not-false, or_parts}
use Rattle.std.specs.Prelude.{◌&&◌, ◌||◌, not}
use Rattle.vx_bitmap.specs.Bits.{is_among}
use Rattle.vx_config.specs.declared.config.Config.{Config}
use Rattle.vx_disk.specs.Shelf.{Covers, Fits, Meaning, Written, Wrote}
use Rattle.vx_fmr.specs.Missed.{Missed, has_missed}
use Rattle.vx_group.specs.Holding.{GroupStands, wide}
use Rattle.vx_group.specs.Stands.{inner_meaning}
use Rattle.vx_group.specs.declared.group_core.GroupCore.{GroupCore}
use Rattle.vx_group.specs.declared.inner.Inner.{Inner}
use Rattle.vx_group.proofs.HoldLemmas.{wide_none}
use Rattle.vx_group.proofs.Standing.{sound_of}
use Rattle.vx_groupmaps.specs.Knowing.{MapsKnowBy, PlexesKnow, or_off, or_stale}
use Rattle.vx_groupmaps.specs.Missing.{none_spared, or_run}
use Rattle.vx_groupmaps.proofs.BetweenLemmas.{out_of_run}
use Rattle.vx_groupmaps.proofs.KnowLemmas.{know_less, read_old}
use Rattle.vx_groupmaps.proofs.MapPlaces.{stale_off}
use Rattle.vx_grouplogs.proofs.FreshLemmas.{fresh_active}
use Rattle.vx_grouplogs.proofs.LogShape.{has_back}
use Rattle.vx_kept.specs.Groups.{OnSome, OutsideVolumes}
use Rattle.vx_kept.specs.PlexActs.{PlexActs}
use Rattle.vx_kept.proofs.Steps.{inside_same}
use Rattle.vx_layout.specs.Places.{HasBlock, place}
use Rattle.vx_logs.specs.Held.{stale}
use Rattle.vx_logs.specs.Writes.{first_region, last_region}
use Rattle.vx_logs.specs.declared.logs.Logs.{Logs}
use Rattle.vx_volume.specs.Plexes.{InRun, Inside, active}
use Rattle.vx_volume.specs.Volumes.{OnPlexes}
use Rattle.vx_volume.proofs.PlaceLemmas.{has_of}
use Rattle.vx_logged.specs.Logged.{Known, KnownBy, Narrowed, are_off}
use Rattle.vx_logged.proofs.StandLemmas.{put_at}

-- ---- regions of a run that plexes out of use miss

off_stale : (t s a r : Bool) → (t ≡ false → s ≡ true) → (t && a) || r ≡ false → (not s && a) || r ≡ false
off_stale true s true r less clear = absurd (let clash : true ≡ false = clear in cc)
off_stale true true false r less clear = clear
off_stale true false false r less clear = clear
off_stale false true a r less clear = clear
off_stale false false a r less clear = absurd (let clash : false ≡ true = less refl in cc)

pub know_stale : (c d : GroupCore) (v first last : ℕ) (spare : ℕ → ℕ → Bool) (l : Logs) (m : Meaning) → GroupStands d m → Narrowed c d → d.held ≡ None → KnownBy d v (or_off (wide c).config v first last spare) l m
    → MapsKnowBy d.inner.config v (or_stale d.inner.config v first last spare) l m
know_stale c d v first last spare l m stands narrow none know =
    know_less d.inner.config v (or_off (wide c).config v first last spare) (or_stale d.inner.config v first last spare) l m
    (λ p k has clear. off_stale (stale d.inner.config v p) (active (wide c).config v p) (is_among first last (k / 64)) (spare p (k / 64)) (λ off. narrow.on v p (is_on p k has off)) clear)
    (subst (λ (x : Config). MapsKnowBy x v (or_off (wide c).config v first last spare) l m) same know)
  where
    same : (wide d).config ≡ d.inner.config
    same = ap (λ (i : Inner). i.config) (wide_none d none)

    is_on : (p k : ℕ) → HasBlock d.inner.config v p k → stale d.inner.config v p ≡ false → IsTrue (active (wide d).config v p)
    is_on p k has off = fresh_active (wide d).config v p k stands.stands.on (subst (λ (x : Config). HasBlock x v p k) (sym same) has) (subst (λ (x : Config). stale x v p ≡ false) (sym same) off)

pub stale_are_off : (c d : GroupCore) (v : ℕ) → c.held ≡ None → Narrowed c d → (p : ℕ) → stale c.inner.config v p ≡ true → are_off d v p ≡ true
stale_are_off c d v none narrow p is = by (active (wide d).config v p) refl
  where
    same : (wide c).config ≡ c.inner.config
    same = ap (λ (i : Inner). i.config) (wide_none c none)

    by : (b : Bool) → active (wide d).config v p ≡ b → not b ≡ true
    by false on = refl
    by true on = absurd (let clash : true ≡ false = sym (narrow.on v p on) ∙ subst (λ (x : Config). active x v p ≡ false) (sym same) (stale_off c.inner.config v p is) in cc)

pub more_off : (c d : GroupCore) (v : ℕ) → Narrowed c d → (p : ℕ) → are_off c v p ≡ true → are_off d v p ≡ true
more_off c d v narrow p is = by (active (wide d).config v p) refl
  where
    by : (b : Bool) → active (wide d).config v p ≡ b → not b ≡ true
    by false on = refl
    by true on = absurd (let clash : false ≡ true = sym (ap not (narrow.on v p on)) ∙ is in cc)

-- more are spared
pub know_wider : (c : Config) (v first last : ℕ) (spare : ℕ → ℕ → Bool) (l : Logs) (m : Meaning) → MapsKnowBy c v spare l m → MapsKnowBy c v (or_stale c v first last spare) l m
know_wider c v first last spare l m know =
    know_less c v spare (or_stale c v first last spare) l m (λ p k has clear. right (stale c v p && is_among first last (k / 64)) (spare p (k / 64)) clear) know
  where
    right : (a b : Bool) → a || b ≡ false → b ≡ false
    right true b is = absurd (let clash : true ≡ false = is in cc)
    right false b is = is

-- those of a run, of each plex
pub know_run : (core : GroupCore) (v first last : ℕ) (l : Logs) (m : Meaning) → Known core v l m → KnownBy core v (or_run first last none_spared) l m
know_run core v first last l m know = know_less (wide core).config v none_spared (or_run first last none_spared) l m (λ p k has clear. refl) know

-- ---- a write

and_false : (a b : Bool) → (a && b) ≡ false → (a ≡ false) ⊎ (b ≡ false)
and_false true b is = inr is
and_false false b is = inl refl

module _ (c d : GroupCore) (v block : ℕ) (bytes : List ℕ) (m m' : Meaning) (stands : GroupStands c m) (fits : Fits (inner_meaning (wide c) m) v block (length bytes))
    (acts : PlexActs (OnPlexes (wide c).config v block (length bytes / 512) bytes) (wide c).config (wide d).config m m') where
  -- what a plex reads out of the run
  old_read : (IsTrue m'.down → ⊥) → (p b : ℕ) (x : List ℕ) → HasBlock (wide d).config v p b → (InRun block (length bytes / 512) b → ⊥) → m'.reads (place (wide d).config v p b).0 (place (wide d).config v p b).1 x → m.reads (place (wide c).config v p b).0 (place (wide c).config v p b).1 x
  old_read up p b x has out read =
      let has_c = has_back (wide c).config (wide d).config v (acts.shape.frames v) (acts.shape.blocks v) p b has in
      read_old (wide c).config (sound_of (wide c) m stands.stands) v (OnPlexes (wide c).config v block (length bytes / 512) bytes) m m' (record { so = acts.acts.reads; falls = acts.acts.falls }) up p b x has_c
      (λ put. out (put_at c d v block bytes m m' stands fits acts v p b x has_c put).1)
      (subst (λ (s : ℕ × ℕ). m'.reads s.0 s.1 x) (acts.shape.place v p b) read)

  -- plexes that read alike out of some regions go on to do so out of these and the run
  pub plexes_wrote : (missed : ℕ → ℕ → Bool) → (IsTrue m'.down → ⊥) → PlexesKnow (wide c).config v missed m.reads → PlexesKnow (wide d).config v (or_run (first_region block) (last_region block (length bytes / 512)) missed) m'.reads
  plexes_wrote missed up know = record {
    so = λ p q b x y has on inside clear at_p at_q.
        let free = or_parts (is_among (first_region block) (last_region block (length bytes / 512)) (b / 64)) (missed p (b / 64)) clear in
        know.so p q b x y (has_back (wide c).config (wide d).config v (acts.shape.frames v) (acts.shape.blocks v) p b has) (acts.on v q on) (inside_same (wide d).config (wide c).config acts.shape v b inside) free.1
        (old_read up p b x has (out_of_run block (length bytes / 512) b free.0) at_p) (old_read up q b y (has_of (wide d).config v q b on inside) (out_of_run block (length bytes / 512) b free.0) at_q);
  }

module _ (c d : GroupCore) (v block : ℕ) (bytes : List ℕ) (m m' : Meaning) (stands : GroupStands c m) (fits : Fits (inner_meaning (wide c) m) v block (length bytes))
    (acts : PlexActs (OnPlexes (wide c).config v block (length bytes / 512) bytes) (wide c).config (wide d).config m m') (l : Logs) (know : Known c v l m) where
  abbrev n : ℕ
  n = length bytes / 512

  -- out of the run the maps know what they knew
  know_out : (f : Missed) → l.fmr ≡ Some f → (IsTrue m'.down → ⊥) → (p q b : ℕ) (x y : List ℕ) → HasBlock (wide d).config v p b → IsTrue (active (wide d).config v q) → Inside (wide d).config v b → has_missed f p (b / 64) ≡ false → (InRun block n b → ⊥)
      → m'.reads (place (wide d).config v p b).0 (place (wide d).config v p b).1 x → m'.reads (place (wide d).config v q b).0 (place (wide d).config v q b).1 y → x ≡ y
  know_out f is up p q b x y has on inside clear out at_p at_q =
      (know.so f is (λ down. up (acts.acts.falls down))).so p q b x y (has_back (wide c).config (wide d).config v (acts.shape.frames v) (acts.shape.blocks v) p b has) (acts.on v q on) (inside_same (wide d).config (wide c).config acts.shape v b inside) clear
      (old_read c d v block bytes m m' stands fits acts up p b x has out at_p) (old_read c d v block bytes m m' stands fits acts up q b y (has_of (wide d).config v q b on inside) out at_q)

  -- whatever a write did, what any plex misses of it is spared
  pub know_refused : KnownBy d v (or_run (first_region block) (last_region block n) none_spared) l m'
  know_refused = record {
    so = λ f is up. record {
      so = λ p q b x y has on inside clear at_p at_q.
          let one = or_parts (is_among (first_region block) (last_region block n) (b / 64) || false) (has_missed f p (b / 64)) clear in
          let two = or_parts (is_among (first_region block) (last_region block n) (b / 64)) false one.0 in
          know_out f is up p q b x y has on inside one.1 (out_of_run block n b two.0) at_p at_q;
    };
  }

  -- a write that was done: what plexes out of use miss of it is spared
  pub know_wrote : Wrote v block bytes (inner_meaning (wide c) m) (inner_meaning (wide d) m') → KnownBy d v (or_off (wide d).config v (first_region block) (last_region block n) none_spared) l m'
  know_wrote wrote = record {
    so = λ f is up. record {
      so = λ p q b x y has on inside clear at_p at_q.
          let one = or_parts ((not (active (wide d).config v p) && is_among (first_region block) (last_region block n) (b / 64)) || false) (has_missed f p (b / 64)) clear in
          let two = or_parts (not (active (wide d).config v p) && is_among (first_region block) (last_region block n) (b / 64)) false one.0 in
          elim (and_false (not (active (wide d).config v p)) (is_among (first_region block) (last_region block n) (b / 64)) two.0) [
            | inl off ↦ both f is up p q b x y has (not-false (active (wide d).config v p) off) on inside one.1 at_p at_q
            | inr out ↦ know_out f is up p q b x y has on inside one.1 (out_of_run block n b out) at_p at_q
          ];
    };
  }
    where
      both : (f : Missed) → l.fmr ≡ Some f → (IsTrue m'.down → ⊥) → (p q b : ℕ) (x y : List ℕ) → HasBlock (wide d).config v p b → IsTrue (active (wide d).config v p) → IsTrue (active (wide d).config v q) → Inside (wide d).config v b → has_missed f p (b / 64) ≡ false
          → m'.reads (place (wide d).config v p b).0 (place (wide d).config v p b).1 x → m'.reads (place (wide d).config v q b).0 (place (wide d).config v q b).1 y → x ≡ y
      both f is up p q b x y has on_p on_q inside clear at_p at_q =
          by (wrote.each v b x (inl (record { inside = inside; plex = p; is_on = on_p; value = at_p }))) (wrote.each v b y (inl (record { inside = inside; plex = q; is_on = on_q; value = at_q })))
        where
          covered : InRun block n b → Covers v block bytes v b
          covered run = record { there = refl; first = run.first; last = omega (arith, run.first, run.last) }

          by : Written v block bytes v b x ⊎ ((Covers v block bytes v b → ⊥) × (OnSome (wide c).config m.reads v b x ⊎ OutsideVolumes m.tells (wide c).config v b x))
              → Written v block bytes v b y ⊎ ((Covers v block bytes v b → ⊥) × (OnSome (wide c).config m.reads v b y ⊎ OutsideVolumes m.tells (wide c).config v b y)) → x ≡ y
          by (inl put) (inl too) = put.value ∙ sym too.value
          by (inl put) (inr not) = absurd (not.0 put.covers)
          by (inr not) (inl put) = absurd (not.0 put.covers)
          by (inr was) (inr too) = know_out f is up p q b x y has on_q inside clear (λ run. was.0 (covered run)) at_p at_q
