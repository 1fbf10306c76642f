-- A group with logs beside calls that show nothing new of its volumes.
use Rattle.std.proofs.Common.{◌≡◌, ◌∙◌, inl, inr, ℕ, ◌/◌, ◌<◌, Bool, true, false, Option, Some, None, List, IsTrue, length, refl, sym, ap, subst, arith}
use Rattle.std.specs.Prelude.{if◌then◌else◌, is_some, nat_le, slice_get}
use Rattle.std.proofs.lemmas.Bool.{cases_lt, le-leb, leb-true}
use Rattle.std.proofs.lemmas.Option.{slice_get_within}
use Rattle.vx_config.specs.Checks.{blocks_of, is_sound, plexes_of, plexes_or}
use Rattle.vx_config.specs.declared.config.Config.{Config}
use Rattle.vx_config.specs.declared.entry.VolumeEntry.{VolumeEntry}
use Rattle.vx_config.specs.declared.entry.VolumeLog.TheVariants.{Drl}
use Rattle.vx_disk.specs.Moves.{Says}
use Rattle.vx_disk.specs.Shelf.{Goes, Meaning, Nothing}
use Rattle.vx_fmr.specs.Missed.{Missed, has_missed}
use Rattle.vx_kept.specs.Groups.{OnSome}
use Rattle.vx_kept.specs.Keeping.{Acts, SameShape}
use Rattle.vx_kept.proofs.Steps.{inside_same}
use Rattle.vx_layout.specs.Places.{HasBlock, has_plex, place, plex_at, plex_in}
use Rattle.vx_model.specs.Sizes.{regions_of}
use Rattle.vx_layout.proofs.Placing.{sound_apart}
use Rattle.vx_logs.specs.declared.logs.Logs.{Logs}
use Rattle.vx_model.specs.declared.no.No.{No}
use Rattle.vx_logs.proofs.LogLemmas.{log_off_plex}
use Rattle.vx_resync.specs.Picks.{missed_or}
use Rattle.vx_volume.specs.Plexes.{Inside}
use Rattle.vx_volume.proofs.UsesLemmas.{TherePlex}
use Rattle.vx_group.specs.Attaches.{KnowsMissed, OnMissed, att_refusal}
use Rattle.vx_group.specs.Calls.{GroupAttaches}
use Rattle.vx_group.specs.Holding.{GroupStands, wide}
use Rattle.vx_group.specs.Stands.{inner_meaning}
use Rattle.vx_group.specs.declared.group_core.GroupCore.{GroupCore}
use Rattle.vx_group.proofs.HoldLemmas.{narrow_sound, narrow_wider, wide_shape}
use Rattle.vx_group.proofs.MissLemmas.{none_knows}
use Rattle.vx_group.proofs.OpeningLemmas.{may_attach, present}
use Rattle.vx_group.proofs.Standing.{fit_of, sound_of}
use Rattle.vx_groupmaps.specs.Missing.{none_spared, or_spared}
use Rattle.vx_grouplogs.specs.Covering.{OnLogs}
use Rattle.vx_grouplogs.proofs.LogPlaces.{log_public}
use Rattle.vx_grouplogs.proofs.LogShape.{has_back, same_count as same_plexes}
use Rattle.vx_grouplogs.proofs.SeenLemmas.{KeepsVolume, logs_same, on_seen}
use Rattle.vx_logged.specs.Logged.{EachOn, KnownBy, LogOn}
use Rattle.vx_logged.proofs.StandLemmas.{inner_wide, wide_both}
use Rattle.vx_loggroup.specs.LoggedVolumes.{LoggedStands}
use Rattle.vx_loggroup.proofs.AlikeLemmas.{inside_back, many_later, reads_goes}
use Rattle.vx_loggroup.specs.Attaching.{fmr_at, fmr_or, map_there}
use Rattle.vx_loggroup.proofs.KnownLemmas.{know_goes}
use Rattle.vx_loggroup.proofs.SetLemmas.{item_at}

-- ---- what a group shows of a volume

pub keeps_of : (c d : Config) → SameShape d c → (v : ℕ) → KeepsVolume v c d
keeps_of c d shape v = record {
  inside = λ b is. record { volume = let same = shape.volumes in omega (arith, is.volume, same); within = let same = shape.blocks v in omega (arith, is.within, same) };
  blocks = shape.blocks v;
  logs = shape.logs v;
  frames = shape.frames v;
}

module _ (c d : GroupCore) (m m' : Meaning) (goes : Goes Nothing (inner_meaning (wide c) m) (inner_meaning (wide d) m')) where
  pub some_shown : (v b : ℕ) (x : List ℕ) → OnSome (wide d).config m'.leaves v b x → OnSome (wide c).config m.leaves v b x
  some_shown v b x is = elim (goes.leaves v b x (inl is)) [
    | inl (inl some) ↦ some
    | inl (inr out) ↦ absurd (out.outside (inside_back Nothing c d m m' goes v b is.inside))
    | inr none ↦ absurd none
  ]

-- logs stand on where their blocks were left alone
pub each_seen : (c d : GroupCore) (m m' : Meaning) → GroupStands c m → SameShape d.inner.config c.inner.config → Goes Nothing (inner_meaning (wide c) m) (inner_meaning (wide d) m')
    → ((v u b : ℕ) (x : List ℕ) → OnLogs c.inner.config v u b x → m'.leaves u b x → m.leaves u b x) → ((v : ℕ) (spare : ℕ → ℕ → Bool) (l : Logs) → KnownBy c v spare l m → KnownBy d v spare l m') → EachOn c d m m'
each_seen c d m m' stands shape goes logs maps = record {
  each = λ v l on.
      on_seen v (wide c).config (wide d).config (sound_of (wide c) m stands.stands) l m m' (fit_of (wide c) m stands.stands) (keeps_of (wide c).config (wide d).config (wide_both c d m stands shape) v)
      (record {
        logs = λ u b x at left. logs v u b x (logs_same (wide c).config c.inner.config v u b x ((inner_wide c m stands).logs v) at) left;
        some = λ b x is. some_shown c d m m' goes v b x is;
      }) on ((wide_both c d m stands shape).trusted v Drl);
  maps = maps;
}

-- commits alone
pub each_idle : (P : Says) (c d : GroupCore) (m m' : Meaning) → GroupStands c m → SameShape d.inner.config c.inner.config → Goes Nothing (inner_meaning (wide c) m) (inner_meaning (wide d) m') → Acts Nothing P m m' → EachOn c d m m'
each_idle P c d m m' stands shape goes acts =
    each_seen c d m m' stands shape goes left_logs (λ v spare l know. know_goes Nothing c d m m' stands (wide_both c d m stands shape) goes (record { so = acts.reads; falls = acts.falls }) v spare l (λ f is p b x has clear none. none) know)
  where
    left_logs : (v u b : ℕ) (x : List ℕ) → OnLogs c.inner.config v u b x → m'.leaves u b x → m.leaves u b x
    left_logs v u b x at left = elim (acts.leaves u b x (omega (arith, log_public c.inner.config (narrow_sound c m stands) v at.log at.entry at.is, at.run.first)) left) [
      | inl was ↦ was
      | inr none ↦ absurd none
    ]

-- ---- a plex that is attached

not_le : (n p : ℕ) → nat_le n p ≡ false → p < n
not_le n p is = elim (cases_lt p n) [ inl lt ↦ lt | inr le ↦ absurd (let clash : true ≡ false = sym (le-leb n p le) ∙ is in cc) ]

-- the maps in memory, where the plex is there
by_map_in : (ls : List Logs) (c : Config) (s down : Bool) (v p : ℕ) → s ≡ false → down ≡ false → TherePlex c v p → map_there ls c s down v p ≡ fmr_at ls v
by_map_in ls c true down v p going up there = absurd (let clash : true ≡ false = going in cc)
by_map_in ls c false true v p going up there = absurd (let clash : true ≡ false = up in cc)
by_map_in ls c false false v p going up there = by (nat_le (plexes_of c v) p) refl
  where
    by : (b : Bool) → nat_le (plexes_of c v) p ≡ b → (if b then None else fmr_at ls v) ≡ fmr_at ls v
    by false is = refl
    by true is =
        let count : plexes_of c v ≡ length there.volume.plexes = ap plexes_or there.at_v in
        let low = slice_get_within there.volume.plexes p there.plex there.at_p in
        let le = leb-true (plexes_of c v) p is in
        absurd (omega (arith, count, low, le))

has_here : (c : Config) (v p k : ℕ) → TherePlex c v p → Inside c v k → HasBlock c v p k
unfolding has_plex
has_here c v p k there inside = record { plex = ap (λ (o : Option VolumeEntry). is_some (plex_in o p)) there.at_v ∙ ap is_some there.at_p; block = inside.within }

module _ (v p : ℕ) (f : Option Missed) (c d : GroupCore) (m m' : Meaning) (stands : GroupStands c m) (may : att_refusal c.inner.config v p ≡ None) (it : GroupAttaches v p f c d m m') where
  inner_sound : is_sound c.inner.config ≡ true
  inner_sound = narrow_sound c m stands

  there : TherePlex c.inner.config v p
  there = present c.inner.config v p (may_attach c.inner.config v p may)

  -- no block of a log is one of the plex
  off_logs : (w u b : ℕ) (x : List ℕ) → OnLogs c.inner.config w u b x → m'.leaves u b x → m.leaves u b x
  off_logs w u b x at left = elim (it.acts.leaves u b x (omega (arith, log_public c.inner.config inner_sound w at.log at.entry at.is, at.run.first)) left) [
    | inl was ↦ was
    | inr put ↦ absurd (log_off_plex c.inner.config inner_sound w at.log at.entry at.is v p put.put.number b (has_here c.inner.config v p put.put.number there put.put.inside) (put.put.at ∙ ap (λ (y : ℕ). (y, b)) at.run.there) at.run.first at.run.last)
  ]

  -- what is written of a plex is a block of this one in a region that it has missed
  put_missed : (w q b : ℕ) (x : List ℕ) → HasBlock (wide c).config w q b → OnMissed c.inner.config v p f (place (wide c).config w q b).0 (place (wide c).config w q b).1 x → (w ≡ v) × (q ≡ p) × IsTrue (missed_or p f (b / 64))
  put_missed w q b x has put =
      let shape = inner_wide c m stands in
      let at : place c.inner.config w q b ≡ place c.inner.config v p put.put.number = shape.place w q b ∙ sym put.put.at in
      let one = (sound_apart c.inner.config inner_sound).one w q b v p put.put.number (has_back c.inner.config (wide c).config w ((wide_shape c).frames w) ((wide_shape c).blocks w) q b has) (has_here c.inner.config v p put.put.number there put.put.inside) at in
      (one.0, one.1, subst (λ (k : ℕ). IsTrue (missed_or p f (k / 64))) (sym one.2) put.missed)

  -- maps that have the regions that were copied know on
  pub attached_know : (w : ℕ) (spare : ℕ → ℕ → Bool) (l : Logs) → ((g : Missed) → l.fmr ≡ Some g → w ≡ v → (r : ℕ) → or_spared spare (has_missed g) p r ≡ false → missed_or p f r ≡ false) → KnownBy c w spare l m → KnownBy d w spare l m'
  attached_know w spare l less know = know_goes (OnMissed c.inner.config v p f) c d m m' stands (wide_both c d m stands it.shape) it.goes (record { so = it.acts.reads; falls = it.acts.falls }) w spare l
      (λ g is q b x has clear put.
      let hit = put_missed w q b x has put in
      let off = less g is hit.0 (b / 64) (subst (λ (r : ℕ). or_spared spare (has_missed g) r (b / 64) ≡ false) hit.1 clear) in
      let clash : true ≡ false = sym hit.2 ∙ off in cc) know

-- the logs stand behind an attach that went by the map in memory; what the maps of the volume itself know is said apart
pub others_attached : (v p : ℕ) (f : Option Missed) (c d : GroupCore) (m m' : Meaning) → GroupStands c m → att_refusal c.inner.config v p ≡ None → GroupAttaches v p f c d m m' → (w : ℕ) (l : Logs) → LogOn c w l m → LogOn d w l m'
others_attached v p f c d m m' stands may it w l on =
    on_seen w (wide c).config (wide d).config (sound_of (wide c) m stands.stands) l m m' (fit_of (wide c) m stands.stands) (keeps_of (wide c).config (wide d).config (wide_both c d m stands it.shape) w)
    (record {
      logs = λ u b x at left. off_logs v p f c d m m' stands may it w u b x (logs_same (wide c).config c.inner.config w u b x ((inner_wide c m stands).logs w) at) left;
      some = λ b x is. some_shown c d m m' it.goes w b x is;
    }) on ((wide_both c d m stands it.shape).trusted w Drl)

-- whatever the plexes are
pub att_stands : (v p : ℕ) (c d : GroupCore) (ls : List Logs) (a : List Bool) (s : Bool) (m m' : Meaning) → LoggedStands c ls a s m → GroupStands d m' → att_refusal c.inner.config v p ≡ None
    → GroupAttaches v p (map_there ls c.inner.config s m.down v p) c d m m' → LoggedStands d ls a s m'
att_stands v p c d ls a s m m' stands group may it = record {
  group = group;
  many = many_later c d (length ls) it.goes.units stands.many;
  each = λ w l is.
      let was = stands.each w l is in
      record {
        on = λ going. others_attached v p (map_there ls c.inner.config s m.down v p) c d m m' stands.group may it w l (was.on going);
        maps = λ going. record {
          so = λ g at up.
              let mine : (same : w ≡ v) → map_there ls c.inner.config s m.down v p ≡ Some g = λ same. by_map_in ls c.inner.config s m.down v p going (not_down m.down (λ down. up (it.acts.falls down))) (present c.inner.config v p (may_attach c.inner.config v p may)) ∙ (subst (λ (u : ℕ). fmr_at ls u ≡ Some g) same (ap fmr_or is ∙ at)) in
              (attached_know v p (map_there ls c.inner.config s m.down v p) c d m m' stands.group may it w none_spared l
              (λ h other same r clear. subst (λ (o : Option Missed). missed_or p o r ≡ false) (sym (mine same)) (subst (λ (x : Missed). has_missed x p r ≡ false) (one_of l.fmr h g other at) clear)) (was.maps going)).so g at up;
        };
        alike = λ same_at up. reads_goes Nothing c d m m' it.goes w (λ b x none. none) up (was.alike same_at (λ down. up (it.goes.falls down)));
      };
}
  where
    not_down : (b : Bool) → (IsTrue b → ⊥) → b ≡ false
    not_down true up = absurd (up refl)
    not_down false up = refl

    one_of : (o : Option Missed) (h g : Missed) → o ≡ Some h → o ≡ Some g → h ≡ g
    one_of o h g one two = let both : Some h ≡ Some g = sym one ∙ two in cc

-- where nothing changed
same_stands : (c d : GroupCore) (ls : List Logs) (a : List Bool) (s : Bool) (m m' : Meaning) → d ≡ c → m' ≡ m → LoggedStands c ls a s m → LoggedStands d ls a s m'
same_stands c d ls a s m m' core below stands = subst (λ (x : GroupCore). LoggedStands x ls a s m') (sym core) (subst (λ (n : Meaning). LoggedStands c ls a s n) (sym below) stands)

-- an attach, which may be refused before it begins
pub att_any : (v p : ℕ) (c d : GroupCore) (ls : List Logs) (a : List Bool) (s : Bool) (m m' : Meaning) → LoggedStands c ls a s m → GroupStands d m' → GroupAttaches v p (map_there ls c.inner.config s m.down v p) c d m m'
    → ((no : No) → att_refusal c.inner.config v p ≡ Some no → (d ≡ c) × (m' ≡ m)) → LoggedStands d ls a s m'
att_any v p c d ls a s m m' stands group it refused = by (att_refusal c.inner.config v p) refl
  where
    by : (o : Option No) → att_refusal c.inner.config v p ≡ o → LoggedStands d ls a s m'
    by None may = att_stands v p c d ls a s m m' stands group may it
    by (Some why) is = let same = refused why is in same_stands c d ls a s m m' same.0 same.1 stands

-- ---- what an attach goes by

has_count : (c : Config) (v p k : ℕ) → p < plexes_of c v → Inside c v k → HasBlock c v p k
unfolding has_plex
has_count c v p k lt inside = record { plex = by (slice_get c.volumes v) refl; block = inside.within }
  where
    by : (o : Option VolumeEntry) → slice_get c.volumes v ≡ o → is_some (plex_at c v p) ≡ true
    by None at = absurd (let none : plexes_of c v ≡ 0 = ap plexes_or at in omega (arith, lt, none))
    by (Some x) at =
        let count : plexes_of c v ≡ length x.plexes = ap plexes_or at in
        let it = item_at x.plexes p (omega (arith, lt, count)) in
        ap (λ (o : Option VolumeEntry). is_some (plex_in o p)) at ∙ ap is_some it.1

-- the maps in memory know what the plex missed
pub knows_by : (v p : ℕ) (c : GroupCore) (ls : List Logs) (a : List Bool) (s : Bool) (m : Meaning) → LoggedStands c ls a s m → KnowsMissed c.inner.config v p (map_there ls c.inner.config s m.down v p) m
knows_by v p c ls a s m stands = by s m.down (nat_le (plexes_of c.inner.config v) p) (slice_get ls v) refl refl refl refl
  where
    shape : SameShape c.inner.config (wide c).config
    shape = inner_wide c m stands.group

    some : (l : Logs) → slice_get ls v ≡ Some l → s ≡ false → m.down ≡ false → p < plexes_of c.inner.config v → (o : Option Missed) → l.fmr ≡ o → KnowsMissed c.inner.config v p o m
    some l is going up lt None at = none_knows c.inner.config v p m
    some l is going up lt (Some f) at =
        let stand = stands.each v l is in
        let fits = (stand.on going).fits.fmr f at in
        let count = same_plexes (wide c).config c.inner.config v (shape.frames v) (shape.blocks v) in
        record {
          reach = (omega (arith, lt, count, fits.plexes), let regions = fits.regions in let same : regions_of (blocks_of c.inner.config.volumes v) ≡ regions_of (blocks_of (wide c).config.volumes v) = ap regions_of (shape.blocks v) in omega (arith, regions, same));
          each = λ q on. record {
            same = λ k x y inside off at_p at_q.
                let inside_w : Inside (wide c).config v k = inside_same c.inner.config (wide c).config shape v k inside in
                ((stand.maps going).so f at (λ down. let clash : true ≡ false = sym down ∙ up in cc)).so p q k x y (has_count (wide c).config v p k (omega (arith, lt, count)) inside_w) (narrow_wider c m stands.group v q on) inside_w off
                (subst (λ (at : ℕ × ℕ). m.reads at.0 at.1 x) (shape.place v p k) at_p) (subst (λ (at : ℕ × ℕ). m.reads at.0 at.1 y) (shape.place v q k) at_q);
          };
        }

    by : (stop down few : Bool) (o : Option Logs) → s ≡ stop → m.down ≡ down → nat_le (plexes_of c.inner.config v) p ≡ few → slice_get ls v ≡ o
        → KnowsMissed c.inner.config v p (if stop then None else (if down then None else (if few then None else fmr_or o))) m
    by true down few o is up lt at = none_knows c.inner.config v p m
    by false true few o is up lt at = none_knows c.inner.config v p m
    by false false true o is up lt at = none_knows c.inner.config v p m
    by false false false None is up lt at = none_knows c.inner.config v p m
    by false false false (Some l) is up lt at = some l at is up (not_le (plexes_of c.inner.config v) p lt) l.fmr refl
