-- The map of a plex that is attached as it becomes that of another one: what the plexes read then, and what is kept beside it.
use Rattle.std.proofs.Common.{◌≡◌, ◌∙◌, inl, inr, ℕ, ◌+◌, ◌*◌, ◌/◌, ◌<◌, ◌≤◌, Bool, true, false, Option, Some, None, List, IsTrue, length, refl, sym, ap, subst, arith}
use Rattle.std.proofs.Math.ListN.{set}
use Rattle.std.proofs.lemmas.Bool.{cases_eq, eqb-true, or_parts}
use Rattle.std.proofs.lemmas.List.{length-set}
use Rattle.std.proofs.lemmas.Option.{slice_get_within}
use Rattle.std.specs.Prelude.{◌||◌, not, Result, Ok, Err, is_some, slice_get}
use Rattle.vx_config.specs.Checks.{blocks_of as blocks_in, plexes_of}
use Rattle.vx_config.specs.declared.config.Config.{Config}
use Rattle.vx_config.specs.declared.entry.Subdisk.{Subdisk}
use Rattle.vx_config.specs.declared.entry.VolumeLog.{VolumeLog}
use Rattle.vx_config.specs.declared.entry.VolumeLog.TheVariants.{Fmr}
use Rattle.vx_disk.specs.Shelf.{Goes, Lawful, Meaning, Nothing, Or}
use Rattle.vx_disk.proofs.Causing.{Rose_after, Rose_before}
use Rattle.vx_disk.proofs.Runs.{then_nothing}
use Rattle.vx_fmr.specs.Missed.{Missed, has_missed}
use Rattle.vx_group.specs.Attaches.{AnyImage, IsAttached, OnMissed, att_refusal}
use Rattle.vx_group.specs.Calls.{GroupAttaches}
use Rattle.vx_group.specs.Finds.{CoreFinds}
use Rattle.vx_group.specs.Holding.{GroupStands, wide}
use Rattle.vx_group.specs.Regains.{HoldsPlex, Regains}
use Rattle.vx_group.specs.Stands.{inner_meaning}
use Rattle.vx_group.specs.declared.group_core.GroupCore.{GroupCore}
use Rattle.vx_group.proofs.FindingLemmas.{stays_finds, then_finds}
use Rattle.vx_group.proofs.HoldLemmas.{narrow_some, narrow_sound, narrow_wider, wide_shape}
use Rattle.vx_group.proofs.OpeningLemmas.{may_attach}
use Rattle.vx_group.proofs.Standing.{kept_of, sound_of}
use Rattle.vx_grouplogs.specs.Gone.{LogsDrop}
use Rattle.vx_groupmaps.specs.Loading.{on_failed_disk}
use Rattle.vx_groupmaps.specs.Missing.{OnMaps}
use Rattle.vx_kept.specs.Commits.{IsCommitted}
use Rattle.vx_kept.specs.Finds.{FindsFrom, NoConfiguration}
use Rattle.vx_kept.specs.Groups.{OnSome}
use Rattle.vx_kept.specs.Keeping.{Acts}
use Rattle.vx_kept.specs.LogRuns.{log_place}
use Rattle.vx_kept.proofs.PlexActing.{only_PlexActs}
use Rattle.vx_kept.proofs.Steps.{both_Acts, wide_Acts}
use Rattle.vx_copyfmt.specs.Imports.{Found}
use Rattle.vx_layout.specs.Places.{place}
use Rattle.vx_logs.specs.Noting.{this_plex}
use Rattle.vx_logs.specs.declared.logs.Logs.{Logs}
use Rattle.vx_model.specs.declared.errors.Stop.{Stop}
use Rattle.vx_model.specs.declared.errors.Stop.TheVariants.{No as Refused}
use Rattle.vx_model.specs.declared.no.No.{No}
use Rattle.vx_model.specs.Sizes.{map_blocks, regions_of as regions_in}
use Rattle.vx_volume.specs.Plexes.{Inside, active}
use Rattle.vx_volume.proofs.PlaceLemmas.{active_below, active_few, has_of}
use Rattle.vx_logged.specs.Copied.{MapsTake, ReadsRow, TakesRow}
use Rattle.vx_logged.proofs.EmptyLemmas.{maps_alike}
use Rattle.vx_loggroup.specs.Attaching.{LoggedAttaches, MapSource, MapsFollow, MapsHeld, OnAttached, TakesActive, VolumeTakes, fmr_at, fmr_or}
use Rattle.vx_loggroup.specs.Keeping.{LogsKeep, LogsStay, logs_at, logs_or}
use Rattle.vx_loggroup.specs.LoggedVolumes.{LoggedStands}
use Rattle.vx_loggroup.proofs.AlikeLemmas.{inside_back, same_item}
use Rattle.vx_loggroup.proofs.KeepingLemmas.{stays_set}
use Rattle.vx_loggroup.proofs.MirrorLemmas.{active_low}
use Rattle.vx_loggroup.proofs.SetLemmas.{item_at, set_here, set_other}

-- ---- what a plex reads that is attached

-- the item that is there
pub logs_item : (ls : List Logs) (v : ℕ) (l : Logs) → slice_get ls v ≡ Some l → logs_at ls v ≡ l
logs_item ls v l at = ap logs_or at

off_parts : (s t : Bool) → not s || t ≡ false → (s ≡ true) × (t ≡ false)
off_parts true t is = (refl, is)
off_parts false t is = absurd (let clash : true ≡ false = is in cc)

-- Out of the regions that a map has, plexes that are ACTIVE read one value; so they do behind calls that show nothing new, and one that came to be ACTIVE
-- reads it too.
module _ (c d : GroupCore) (ls : List Logs) (a : List Bool) (m m' : Meaning) (lawful : Lawful m) (before : LoggedStands c ls a false m) (after : GroupStands d m') (goes : Goes Nothing (inner_meaning (wide c) m) (inner_meaning (wide d) m')) (v p from : ℕ) where
  shown_back : (IsTrue m'.down → ⊥) → (b : ℕ) (x : List ℕ) → OnSome (wide d).config m'.reads v b x → OnSome (wide c).config m.reads v b x
  shown_back up b x is = elim (goes.reads v b x (inl is)) [
    | inl (inl (inl some)) ↦ some
    | inl (inl (inr out)) ↦ absurd (out.outside (inside_back Nothing c d m m' goes v b is.inside))
    | inl (inr none) ↦ absurd none
    | inr down ↦ absurd (up down)
  ]

  -- a plex reads some value
  some_value : (u b : ℕ) (x : List ℕ) → m.reads u b x → (w k : ℕ) → (y : List ℕ) × m.reads w k y
  some_value u b x read w k = by m.tells refl
    where
      by : (t : Bool) → m.tells ≡ t → (y : List ℕ) × m.reads w k y
      by true told = lawful.some told w k
      by false not = absurd (lawful.none not u b x (lawful.shown u b x read))

  one_value : (f : Missed) (l : Logs) → slice_get ls v ≡ Some l → l.fmr ≡ Some f → (IsTrue m.down → ⊥) → IsTrue (active (wide c).config v from) → (b : ℕ) (x y : List ℕ) → has_missed f from (b / 64) ≡ false → OnSome (wide c).config m.reads v b x
      → OnSome (wide c).config m.reads v b y → x ≡ y
  one_value f l at is up on b x y clear one two =
      let know = ((before.each v l at).maps refl).so f is up in
      let has = has_of (wide c).config v from b on one.inside in
      let z = some_value (place (wide c).config v one.plex b).0 (place (wide c).config v one.plex b).1 x one.value (place (wide c).config v from b).0 (place (wide c).config v from b).1 in
      sym (know.so from one.plex b z.0 x has one.is_on one.inside clear z.1 one.value) ∙ know.so from two.plex b z.0 y has two.is_on two.inside clear z.1 two.value

  pub attached_row : IsTrue (active (wide c).config v from) → IsTrue (active d.inner.config v p) → ReadsRow (wide d).config v p from (logs_at ls v) m'
  attached_row on now = record { so = λ f is up. record { so = λ w q b x y has q_on inside clear at_w at_q. by (slice_get ls v) refl f is up w q b x y q_on inside (off_parts (this_plex p w) (has_missed f from (b / 64)) clear) at_w at_q } }
    where
      by : (o : Option Logs) → slice_get ls v ≡ o → (f : Missed) → (logs_at ls v).fmr ≡ Some f → (IsTrue m'.down → ⊥) → (w q b : ℕ) (x y : List ℕ) → IsTrue (active (wide d).config v q) → Inside (wide d).config v b
          → (this_plex p w ≡ true) × (has_missed f from (b / 64) ≡ false) → m'.reads (place (wide d).config v w b).0 (place (wide d).config v w b).1 x → m'.reads (place (wide d).config v q b).0 (place (wide d).config v q b).1 y → x ≡ y
      by None at f is up w q b x y q_on inside clear at_w at_q = absurd (let clash : None ≡ Some f = sym (ap (λ (o : Option Logs). (logs_or o).fmr) at) ∙ is in cc)
      by (Some l) at f is up w q b x y q_on inside clear at_w at_q =
          let w_on : IsTrue (active (wide d).config v w) = subst (λ (n : ℕ). IsTrue (active (wide d).config v n)) (sym (eqb-true w p clear.0)) (narrow_wider d m' after v p now) in
          one_value f l at (ap (λ (k : Logs). k.fmr) (sym (logs_item ls v l at)) ∙ is) (λ down. up (goes.falls down)) on b x y clear.1
          (shown_back up b x (record { inside = inside; plex = w; is_on = w_on; value = at_w })) (shown_back up b y (record { inside = inside; plex = q; is_on = q_on; value = at_q }))

-- what stands behind an attach, for a copy of a map
pub record Followed (d : GroupCore) (ls : List Logs) (a : List Bool) (m : Meaning) (v p q : ℕ) : Type 0 where
  pub stands : LoggedStands d ls a false m
  pub there : v < length d.inner.config.volumes
  pub low : p < plexes_of (wide d).config v
  pub under : q < plexes_of (wide d).config v
  pub apart : p ≡ q → ⊥
  pub reads : ReadsRow (wide d).config v p q (logs_at ls v) m

pub followed : (c d : GroupCore) (ls : List Logs) (a : List Bool) (s : Bool) (v p q : ℕ) (f : Option Missed) (m m' : Meaning) → Lawful m → LoggedStands c ls a s m → LoggedStands d ls a s m' → MapSource c.inner.config a s v p q → GroupAttaches v p f c d m m'
    → IsTrue (active d.inner.config v p) → Followed d ls a m' v p q
followed c d ls a s v p q f m m' lawful before after source it on = record {
  stands = subst (λ (b : Bool). LoggedStands d ls a b m') source.going after;
  there = active_low d.inner.config v p on;
  low = active_below (wide d).config (sound_of (wide d) m' after.group.stands) v p (narrow_wider d m' after.group v p on);
  under = active_below (wide d).config (sound_of (wide d) m' after.group.stands) v q (narrow_wider d m' after.group v q (it.others v q (λ one same. other (sym same)) ∙ source.on));
  apart = other;
  reads = attached_row c d ls a m m' lawful (subst (λ (b : Bool). LoggedStands c ls a b m) source.going before) after.group it.goes v p q (narrow_wider c m before.group v q source.on) on;
}
  where
    other : p ≡ q → ⊥
    other same = let clash : false ≡ true = sym source.off ∙ ap (active c.inner.config v) same ∙ source.on in cc

-- ---- the logs behind a copy of a map

pub take_set : (v to from : ℕ) (ls : List Logs) (l k : Logs) → slice_get ls v ≡ Some l → k.drl ≡ l.drl → MapsTake to from l k → VolumeTakes v to from ls (set ls v k)
take_set v to from ls l k at same takes = record {
  many = length-set ls v k;
  here = λ x y was now.
      let old : l ≡ x = same_item (slice_get ls v) l x at was in
      subst (λ (z : Logs). MapsTake to from x z) (set_here ls v k y now) (subst (λ (z : Logs). MapsTake to from z k) old takes);
  drl = λ w x y was now. elim (cases_eq w v) [
    | inl is ↦ here_drl w x y is was now
    | inr apart ↦ ap (λ (z : Logs). z.drl) (sym (same_item (slice_get ls w) x y was (sym (set_other ls v k w apart) ∙ now)))
  ];
  others = λ w apart. set_other ls v k w apart;
}
  where
    here_drl : (w : ℕ) (x y : Logs) → w ≡ v → slice_get ls w ≡ Some x → slice_get (set ls v k) w ≡ Some y → y.drl ≡ x.drl
    here_drl w x y is was now =
        let new : k ≡ y = set_here ls v k y (sym (ap (slice_get (set ls v k)) is) ∙ now) in
        let old : l ≡ x = same_item (slice_get ls v) l x at (sym (ap (slice_get ls) is) ∙ was) in
        ap (λ (z : Logs). z.drl) (sym new) ∙ same ∙ ap (λ (z : Logs). z.drl) old

-- nothing changed, where what is said is so of the maps as they are
pub take_same : (v to from : ℕ) (ls : List Logs) → ((l : Logs) → slice_get ls v ≡ Some l → MapsTake to from l l) → VolumeTakes v to from ls ls
take_same v to from ls same = record {
  many = refl;
  here = λ x y was now. subst (λ (z : Logs). MapsTake to from x z) (same_item (slice_get ls v) x y was now) (same x was);
  drl = λ w x y was now. ap (λ (z : Logs). z.drl) (sym (same_item (slice_get ls w) x y was now));
  others = λ w apart. refl;
}

same_map : (l : Logs) (f g : Missed) → l.fmr ≡ Some f → l.fmr ≡ Some g → f ≡ g
same_map l f g one two = let both : Some f ≡ Some g = sym one ∙ two in cc

each_map : (to from : ℕ) (l : Logs) → ((f : Missed) → l.fmr ≡ Some f → TakesRow to from f f) → MapsTake to from l l
each_map to from l row = record { gone = λ none. none; each = λ f g is at. subst (λ (x : Missed). TakesRow to from f x) (same_map l f g is at) (row f is) }

-- a plex has its own map
pub take_own : (v p : ℕ) (ls : List Logs) → VolumeTakes v p p ls ls
take_own v p ls = take_same v p p ls (λ l at. each_map p p l (λ f is. record { shape = record { plexes = refl; stride = refl; regions = refl }; all = λ r low on. on; only = λ r low on. on; others = record { each = λ q r lt low other. refl } }))

-- no map is in memory
pub take_gone : (v to from : ℕ) (ls : List Logs) → fmr_at ls v ≡ None → VolumeTakes v to from ls ls
take_gone v to from ls none = take_same v to from ls (λ l at. record { gone = λ is. is; each = λ f g is was. absurd (let clash : None ≡ Some f = sym none ∙ ap fmr_or at ∙ is in cc) })

-- a volume without a block has no region
pub take_empty : (c : GroupCore) (ls : List Logs) (a : List Bool) (m : Meaning) (v to from : ℕ) → LoggedStands c ls a false m → blocks_in c.inner.config.volumes v ≡ 0 → VolumeTakes v to from ls ls
take_empty c ls a m v to from stands zero = take_same v to from ls (λ l at. each_map to from l (λ f is. row f ((((stands.each v l at).on refl).fits.fmr f is).stride) ((((stands.each v l at).on refl).fits.fmr f is).regions)))
  where
    none : blocks_in (wide c).config.volumes v ≡ 0
    none = (wide_shape c).blocks v ∙ zero

    row : (f : Missed) → f.stride ≡ 4096 * map_blocks (blocks_in (wide c).config.volumes v) → f.regions ≡ regions_in (blocks_in (wide c).config.volumes v) → TakesRow to from f f
    row f stride regions = record {
      shape = record { plexes = refl; stride = refl; regions = refl };
      all = λ r low on. absurd (omega (arith, low, regions, few));
      only = λ r low on. absurd (omega (arith, low, stride, flat));
      others = record { each = λ q r lt low other. refl };
    }
      where
        few : regions_in (blocks_in (wide c).config.volumes v) ≡ 0
        few = ap regions_in none

        flat : map_blocks (blocks_in (wide c).config.volumes v) ≡ 0
        flat = ap map_blocks none

-- which logs stay in use
pub copied_stay : (core : GroupCore) (v : ℕ) (ls : List Logs) (l k : Logs) (m m' : Meaning) → slice_get ls v ≡ Some l → LogsDrop (wide core).config v l k m m' → LogsStay core.inner.config core.inner.config ls (set ls v k) m m'
copied_stay core v ls l k m m' at drops =
    stays_set core.inner.config core.inner.config v ls l k m m' at (λ w log s place. place) (λ u was now. absurd (let clash : false ≡ true = sym was ∙ now in cc)) (record { each = λ w log has told. told })
    (λ log s place has off. drops.gone log s ((wide_shape core).logs v log ∙ place) has off)

-- ---- an attach, and a copy of a map behind it

-- what an attach writes is of what it may write
pub kept_attaches : (leaves : Bool) (v p : ℕ) (f : Option Missed) (c d : GroupCore) (m m' : Meaning) → GroupAttaches v p f c d m m' → LoggedAttaches leaves v p f c d m m'
kept_attaches leaves v p f c d m m' it = record { goes = it.goes; acts = by leaves; shape = it.shape; others = it.others; parts = it.parts; faults = it.faults; unsure = it.unsure }
  where
    by : (b : Bool) → Acts (OnAttached b c.inner.config v p f) AnyImage m m'
    by true = it.acts
    by false = wide_Acts (OnMissed c.inner.config v p f) (Or (OnMissed c.inner.config v p f) (OnMaps c.inner.config v)) AnyImage m m' it.acts (λ u b x put. inl put)

-- the maps of a volume lie where they lay
maps_back : (v p : ℕ) (f : Option Missed) (c d : GroupCore) (m m1 m2 : Meaning) → GroupAttaches v p f c d m m1 → Goes (OnMaps (wide d).config v) m1 m2 → Goes (OnMaps c.inner.config v) m1 m2
maps_back v p f c d m m1 m2 it maps = maps_alike (wide d).config c.inner.config v (λ log. sym ((wide_shape d).logs v log ∙ it.shape.logs v log)) m1 m2 maps

pub copied_attaches : (leaves : Bool) (v p : ℕ) (f : Option Missed) (c d : GroupCore) (m m1 m2 : Meaning) → leaves ≡ false → GroupAttaches v p f c d m m1 → Goes (OnMaps (wide d).config v) m1 m2 → Goes Nothing (inner_meaning (wide d) m1) (inner_meaning (wide d) m2)
    → LoggedAttaches leaves v p f c d m m2
copied_attaches leaves v p f c d m m1 m2 is it maps goes = record {
  goes = then_nothing Nothing (inner_meaning (wide c) m) (inner_meaning (wide d) m1) (inner_meaning (wide d) m2) it.goes goes;
  acts = subst (λ (b : Bool). Acts (OnAttached b c.inner.config v p f) AnyImage m m2) (sym is)
      (both_Acts (OnMissed c.inner.config v p f) (OnMaps c.inner.config v) AnyImage AnyImage m m1 m2 it.acts (only_PlexActs (OnMaps c.inner.config v) c.inner.config m1 m2 (maps_back v p f c d m m1 m2 it maps)).acts (λ i now. tt));
  shape = it.shape;
  others = it.others;
  parts = it.parts;
  faults = it.faults;
  unsure = it.unsure;
}

-- an image has a configuration, and none that none had
pub committed_still : (core : GroupCore) (d : Config) (m m' : Meaning) → GroupStands core m' → FindsFrom NoConfiguration m m' → IsCommitted d m → IsCommitted d m'
committed_still core d m m' stands finds committed = record {
  finds = λ i each.
      let sees = (kept_of (wide core) m' stands.stands).sees i each in
      elim (finds.each i sees.config each sees.found) [
        | inl was ↦ sees.found ∙ (let same : Found sees.config ≡ Found d = sym was.found ∙ committed.finds was.image was.left in same)
        | inr none ↦ absurd none
      ];
}

pub copied_ends : (core : GroupCore) (v p : ℕ) (d : Config) (m m' : Meaning) → GroupStands core m' → FindsFrom NoConfiguration m m' → IsAttached v p d m → IsAttached v p d m'
copied_ends core v p d m m' stands finds ends = record { is_on = ends.is_on; committed = committed_still core d m m' stands finds ends.committed }

pub copied_regains : (c d : Config) (v p : ℕ) (m m1 m2 : Meaning) → ((u : ℕ) → m1.faults u ≤ m2.faults u) → Regains c d v p m m1 → Regains c d v p m m2
copied_regains c d v p m m1 m2 faults it = record { blamed = λ u was now. Rose_after (m.faults u) (m1.faults u) (m2.faults u) (it.blamed u was now) (faults u); others = it.others }

pub copied_holds : {S : Type 0} (meaning : S → Meaning) (c d : Config) (v p : ℕ) (s1 s2 : S) → ((u : ℕ) → (meaning s1).faults u ≤ (meaning s2).faults u) → HoldsPlex meaning c d v p s1 → HoldsPlex meaning c d v p s2
copied_holds meaning c d v p s1 s2 faults it = record {
  moment = it.moment;
  config = it.config;
  volumes = it.volumes;
  now = it.now;
  rises = λ u. (let one = it.rises u in let two = faults u in omega (arith, one, two));
  failing = record {
    count = it.failing.count;
    blocks = it.failing.blocks;
    stays = it.failing.stays;
    blamed = λ u was now. Rose_after ((meaning it.moment).faults u) ((meaning s1).faults u) ((meaning s2).faults u) (it.failing.blamed u was now) (faults u);
  };
}

pub copied_keeps : (c d : GroupCore) (ls ks : List Logs) (m m1 m2 : Meaning) → ((v : ℕ) (log : VolumeLog) (s : Subdisk) → log_place c.inner.config v log ≡ Some s → log_place d.inner.config v log ≡ Some s) → ((u : ℕ) → m.faults u ≤ m1.faults u)
    → ((u : ℕ) → m1.faults u ≤ m2.faults u) → (IsTrue m1.down → IsTrue m2.down) → LogsKeep c d ls ls m m1 → LogsStay d.inner.config d.inner.config ls ks m1 m2 → LogsKeep c d ls ks m m2
copied_keeps c d ls ks m m1 m2 places one two falls first second = record {
  each = λ v log s at uses. elim (first.each v log s at uses) [
    | inl is ↦ elim (second.each v log s (places v log s at) is) [
      | inl now ↦ inl now
      | inr (inl rose) ↦ inr (inl (Rose_before (m.faults s.disk) (m1.faults s.disk) (m2.faults s.disk) (one s.disk) rose))
      | inr (inr down) ↦ inr (inr (inl down))
    ]
    | inr (inl rose) ↦ inr (inl (Rose_after (m.faults s.disk) (m1.faults s.disk) (m2.faults s.disk) rose (two s.disk)))
    | inr (inr (inl down)) ↦ inr (inr (inl (falls down)))
    | inr (inr (inr full)) ↦ inr (inr (inr full))
  ];
}

pub copied_finds : (c d : GroupCore) (m m1 m2 : Meaning) → CoreFinds (wide c) (wide d) m m1 → FindsFrom NoConfiguration m1 m2 → CoreFinds (wide c) (wide d) m m2
copied_finds c d m m1 m2 it less = then_finds (wide c) (wide d) (wide d) m m1 m2 it (stays_finds (wide d) (wide d) m1 m2 refl refl refl less)

-- ---- with maps that are given up before

pub held_follows : (c : Config) (v to : ℕ) (old mid new : List Logs) → MapsHeld c old mid → TakesActive c v to mid new → MapsFollow c v to old new
held_follows c v to old mid new held it = record {
  many = it.takes.many ∙ held.many;
  from = it.from;
  is_on = it.is_on;
  here = λ off l k was now. it.takes.here l k (held.same v off ∙ was) now;
  same = λ w apart off. it.takes.others w apart ∙ held.same w off;
  gone = λ w on. elim (cases_eq w v) [
    | inl is ↦ gone_here w is on
    | inr apart ↦ ap fmr_or (it.takes.others w apart) ∙ held.gone w on
  ];
  drl = λ w l k was now.
      let low = slice_get_within old w l was in
      let middle = item_at mid w (let long = held.many in omega (arith, low, long)) in
      it.takes.drl w middle.0 k middle.1 now ∙ held.drl w l middle.0 was middle.1;
}
  where
    none_at : (l k : Logs) → slice_get mid v ≡ Some l → slice_get new v ≡ Some k → fmr_at mid v ≡ None → fmr_at new v ≡ None
    none_at l k was now none = ap fmr_or now ∙ (it.takes.here l k was now).gone (sym (ap fmr_or was) ∙ none)

    by : (o : Option Logs) → slice_get new v ≡ o → fmr_at mid v ≡ None → fmr_at new v ≡ None
    by None at none = ap fmr_or at
    by (Some k) at none =
        let low = slice_get_within new v k at in
        let middle = item_at mid v (let long = it.takes.many in omega (arith, low, long)) in
        none_at middle.0 k middle.1 at none

    gone_here : (w : ℕ) → w ≡ v → on_failed_disk c w Fmr ≡ true → fmr_at new w ≡ None
    gone_here w is on = ap (fmr_at new) is ∙ by (slice_get new v) refl (held.gone v (sym (ap (λ (x : ℕ). on_failed_disk c x Fmr) is) ∙ on))

-- ---- the first plex that is ACTIVE

-- of those below n none is
abbrev pub NoneBelow : Config → ℕ → ℕ → Type 0
NoneBelow c v n = (q : ℕ) → q < n → active c v q ≡ false

pub first_next : (c : Config) (v n : ℕ) → active c v n ≡ false → NoneBelow c v n → NoneBelow c v (n + 1)
first_next c v n off none = λ q lt. elim (cases_eq q n) [ inl is ↦ ap (active c v) is ∙ off | inr other ↦ none q (omega (arith, lt, other)) ]

pub first_none : (c : Config) (v n : ℕ) → 8 ≤ n → NoneBelow c v n → (q : ℕ) → q < 8 → IsTrue (active c v q) → false ≡ true
first_none c v n all none q lt on = sym (none q (omega (arith, lt, all))) ∙ on

-- ---- which maps an attach leaves

pub or_none : (a b : Bool) → a ≡ false → b ≡ false → a || b ≡ false
or_none true b one two = absurd (let clash : true ≡ false = one in cc)
or_none false b one two = two

-- a map is copied to a plex that was not ACTIVE, where the maps do not stay: some other one was
pub none_off : (c : GroupCore) (m : Meaning) (same stopped : Bool) (v p : ℕ) (o : Option ℕ) → GroupStands c m → o ≡ None → v < length c.inner.config.volumes
    → (v < length c.inner.config.volumes → active c.inner.config v p ≡ false → stopped ≡ false → same ≡ false → (q : ℕ) → q < 8 → IsTrue (active c.inner.config v q) → is_some o ≡ true)
    → active c.inner.config v p ≡ false → same ≡ false → stopped ≡ false → ⊥
none_off c m same stopped v p o stands none there all off one two =
    let some = narrow_some c m stands v there in
    let clash : false ≡ true = sym (ap is_some none) ∙ all there off two one some.plex (active_few c.inner.config (narrow_sound c m stands) v some.plex some.is_on) some.is_on in cc

-- so an attach that is done copies a map, or the plex was ACTIVE
pub none_takes : (c : GroupCore) (m : Meaning) (same stopped : Bool) (v p : ℕ) (ls : List Logs) (o : Option ℕ) → GroupStands c m → o ≡ None → v < length c.inner.config.volumes
    → (v < length c.inner.config.volumes → active c.inner.config v p ≡ false → stopped ≡ false → same ≡ false → (q : ℕ) → q < 8 → IsTrue (active c.inner.config v q) → is_some o ≡ true)
    → same || stopped ≡ false → TakesActive c.inner.config v p ls ls
none_takes c m same stopped v p ls o stands none there all copies = by (active c.inner.config v p) refl
  where
    by : (t : Bool) → active c.inner.config v p ≡ t → TakesActive c.inner.config v p ls ls
    by true on = record { from = p; is_on = on; takes = take_own v p ls }
    by false off = let parts = or_parts same stopped copies in absurd (none_off c m same stopped v p o stands none there all off parts.0 parts.1)

-- one that is done is of a volume that there is
pub attached_low : {T : Type 0} (c : Config) (v p : ℕ) (r : Result T Stop) (x : T) → r ≡ Ok x → ((no : No) → att_refusal c v p ≡ Some no → r ≡ Err (Refused no)) → v < length c.volumes
attached_low c v p r x is refused = by (att_refusal c v p) refl
  where
    by : (o : Option No) → att_refusal c v p ≡ o → v < length c.volumes
    by None may = (may_attach c v p may).volume
    by (Some why) at = absurd (let clash : Ok x ≡ Err (Refused why) = sym is ∙ refused why at in cc)
