-- Logs of missed regions that an import reads.
use Rattle.std.proofs.Common.{◌≡◌, ◌∙◌, ◌⊎◌, inl, inr, ℕ, ◌+◌, ◌*◌, ◌/◌, ◌%◌, ◌<◌, ◌≤◌, Bool, true, false, IsTrue, Option, Some, None, List, length, ⊎_elim, refl, sym, ap, subst, arith}
use Rattle.std.specs.Prelude.{◌-◌, slice_get}
use Rattle.std.proofs.Math.ListN.{set}
use Rattle.std.proofs.lemmas.Bool.{cases_eq}
use Rattle.std.proofs.lemmas.List.{length-set}
use Rattle.std.proofs.lemmas.Option.{same_Some, slice_get_within}
use Rattle.vx_bitmap.specs.Bits.{is_marked}
use Rattle.vx_bitmap.specs.Maps.{MapOn, map_block_count}
use Rattle.vx_bitmap.proofs.Blocks.{by_block}
use Rattle.vx_config.specs.Checks.{blocks_of as blocks_in, is_sound}
use Rattle.vx_config.specs.declared.config.Config.{Config}
use Rattle.vx_config.specs.declared.entry.VolumeLog.TheVariants.{Fmr}
use Rattle.vx_disk.specs.Shelf.{Goes, Lawful, Meaning, Nothing}
use Rattle.vx_disk.proofs.Runs.{none_written}
use Rattle.vx_volume.proofs.ReadRuns.{still}
use Rattle.vx_fmr.specs.Missed.{FmrLoaded, Missed, has_missed, missed_place}
use Rattle.vx_group.specs.declared.group_core.GroupCore.{GroupCore}
use Rattle.vx_group.proofs.MendLemmas.{same_Goes}
use Rattle.vx_groupmaps.specs.Knowing.{MapsKnow, MapsStay, PlexesKnow}
use Rattle.vx_groupmaps.specs.Loading.{TakesMaps}
use Rattle.vx_groupmaps.specs.Missing.{bit_in_maps, none_spared}
use Rattle.vx_groupmaps.proofs.KnowLemmas.{note_same, note_then, plex_below}
use Rattle.vx_groupmaps.proofs.MapPlaces.{bit_low, region_low}
use Rattle.vx_grouplogs.specs.On.{VolumeOn}
use Rattle.vx_grouplogs.proofs.KnowActs.{know_none}
use Rattle.vx_grouplogs.proofs.MapLemmas.{map_low, on_mapped}
use Rattle.vx_kept.specs.Cleans.{is_unsure}
use Rattle.vx_kept.proofs.Narrower.{on_live}
use Rattle.vx_layout.specs.Places.{place}
use Rattle.vx_logimport.specs.Marked.{log_within}
use Rattle.vx_logimport.specs.Rests.{MapsTell, rests}
use Rattle.vx_logimport.specs.declared.rested.Rested.{Rested}
use Rattle.vx_logimport.proofs.RestLemmas.{used_in_use}
use Rattle.vx_logimport.proofs.TellLemmas.{maps_less}
use Rattle.vx_maplog.specs.Logs.{is_used}
use Rattle.vx_logs.specs.Held.{FmrFound, InUse}
use Rattle.vx_logs.specs.declared.logs.Logs.{Logs}
use Rattle.vx_model.specs.Content.{block_of}
use Rattle.vx_volume.specs.Plexes.{DisksFit}
use Rattle.vx_loggroup.specs.LoggedVolumes.{LoggedStands}
use Rattle.vx_loggroup.specs.Taking.{MapWas, MapsMay, MapsShrink, MapsWere, MapsWhy, SameDrls, TakesMap}
use Rattle.vx_loggroup.proofs.HeldMaps.{same_drls}
use Rattle.vx_loggroup.proofs.SetLemmas.{item_at, set_here, set_other}

-- ---- what a log that was read knows

module _ (c : Config) (sound : is_sound c ≡ true) (v : ℕ) (some : 0 < blocks_in c.volumes v) (m m' : Meaning) (law : Lawful m) (fit : DisksFit c.disks m) (goes : Goes Nothing m m') (tells : MapsTell c v m) where
  read_now : (u b : ℕ) (x : List ℕ) → (IsTrue m'.down → ⊥) → m'.reads u b x → m.reads u b x
  read_now u b x up read = elim (goes.reads u b x read) [
    | inl (inl was) ↦ was
    | inl (inr now) ↦ absurd now
    | inr down ↦ absurd (up down)
  ]

  told : (u b : ℕ) (x : List ℕ) → m.leaves u b x → IsTrue m.tells
  told u b x left = by m.tells refl
    where
      by : (t : Bool) → m.tells ≡ t → m.tells ≡ true
      by true is = is
      by false is = absurd (law.none is u b x left)

  module _ (f : Missed) (found : FmrFound c v (Some f) m m') where
    it : FmrLoaded c v f
    it = found.1

    used : InUse c v Fmr it.log.entry
    used = used_in_use c v it.log.entry it.log.is found.0

    bit_is : (p b : ℕ) → bit_in_maps c v p b ≡ missed_place f p (b / 64)
    bit_is p b = ap (λ (n : ℕ). p * n + b / 64) (sym it.stride)

    low : map_block_count f.map ≤ it.log.entry.blocks
    low = map_low c sound v some it.log.entry f m fit it.log.is it

    at_log : (k : ℕ) (z : List ℕ) → m.leaves f.map.unit (f.map.first + k) z → m.leaves it.log.entry.disk (it.log.entry.start + k) z
    at_log k z left = subst (λ (n : ℕ). m.leaves it.log.entry.disk (n + k) z) it.log.run.begins (subst (λ (u : ℕ). m.leaves u (f.map.first + k) z) it.log.run.there left)

    pub taken_on : MapOn f.map m'
    taken_on = found.3 (record {
      each = λ u b y z run left_y left_z.
          let k : ℕ = b - f.map.first in
          let place : b ≡ f.map.first + k = omega (arith, run.first) in
          let here : (x : List ℕ) → m.leaves u b x → m.leaves f.map.unit (f.map.first + k) x = λ x left. subst (λ (n : ℕ). m.leaves f.map.unit n x) place (subst (λ (n : ℕ). m.leaves n b x) run.there left) in
          tells.one it.log.entry k y z used some (let few = low in omega (arith, run.first, run.last, few)) (at_log k y (here y left_y)) (at_log k z (here z left_z));
    })

    pub taken_knows : (IsTrue m'.down → ⊥) → PlexesKnow c v (has_missed f) m'.reads
    taken_knows up = record {
      so = λ p q b x y has on inside clear at_p at_q.
          let k : ℕ = missed_place f p (b / 64) / 4096 in
          let z : List ℕ = block_of f.map.bytes k in
          let read_p = read_now (place c v p b).0 (place c v p b).1 x up at_p in
          let read_q = read_now (place c v q b).0 (place c v q b).1 y up at_q in
          let tell = told (place c v p b).0 (place c v p b).1 x (law.shown (place c v p b).0 (place c v p b).1 x read_p) in
          let plex : p < f.plexes = let lt = plex_below c v p b has in let count = it.plexes in omega (arith, lt, count) in
          let within = bit_low c sound v some f it p (b / 64) plex (region_low c sound v some f it b inside) in
          let first : m.leaves f.map.unit (f.map.first + k) z = law.shown f.map.unit (f.map.first + k) z (found.2.each tell k within) in
          let left : m.leaves it.log.entry.disk (it.log.entry.start + bit_in_maps c v p b / 4096) z = subst (λ (n : ℕ). m.leaves it.log.entry.disk (it.log.entry.start + n / 4096) z) (sym (bit_is p b)) (at_log k z first) in
          let off : is_marked z (missed_place f p (b / 64) % 4096) ≡ false = sym (by_block f.map.bytes (missed_place f p (b / 64))) ∙ clear in
          tells.so it.log.entry p q b x y z used has (on_live c v q on) inside (subst (λ (n : ℕ). n / 4096 < it.log.entry.blocks) (sym (bit_is p b)) (let few = low in omega (arith, within, few)))
          left (subst (λ (n : ℕ). is_marked z (n % 4096) ≡ false) (sym (bit_is p b)) off) read_p read_q;
    }

-- logs without maps
pub none_same : (l : Logs) → l.fmr ≡ None → record { drl = l.drl; fmr = None } ≡ l
none_same l plain = ap (λ (o : Option Missed). record { drl = l.drl; fmr = o }) (sym plain)

-- behind the read the log stands, and knows
module _ (c : Config) (sound : is_sound c ≡ true) (v : ℕ) (some : 0 < blocks_in c.volumes v) (m m' : Meaning) (law : Lawful m) (fit : DisksFit c.disks m) (goes : Goes Nothing m m') (tells : MapsTell c v m) (l : Logs) (on : VolumeOn c v l m) where
  pub none_on : VolumeOn c v (record { drl = l.drl; fmr = None }) m'
  none_on = on_mapped c sound v some m m' fit (none_written _ m m' goes) l None (λ f is. absurd (let clash : None ≡ Some f = is in cc)) (λ f is. absurd (let clash : None ≡ Some f = is in cc)) on

  pub taken_log : (o : Option Missed) (gone : Bool) → TakesMaps c v o gone m m' → VolumeOn c v (record { drl = l.drl; fmr = o }) m'
  taken_log None gone takes = none_on
  taken_log (Some f) true takes = absurd (let clash : Some f ≡ None = takes.0 in cc)
  taken_log (Some f) false takes =
      on_mapped c sound v some m m' fit (none_written _ m m' goes) l (Some f) (λ g is. subst (λ (h : Missed). FmrLoaded c v h) (same_Some f g is) takes.0.1)
      (λ g is. subst (λ (h : Missed). MapOn h.map m') (same_Some f g is) (taken_on c sound v some m m' law fit goes tells f takes.0)) on

  pub taken_known : (o : Option Missed) (gone : Bool) → TakesMaps c v o gone m m' → MapsKnow c v (record { drl = l.drl; fmr = o }) m'
  taken_known None gone takes = know_none c v none_spared (record { drl = l.drl; fmr = None }) m' refl
  taken_known (Some f) true takes = absurd (let clash : Some f ≡ None = takes.0 in cc)
  taken_known (Some f) false takes = record {
    so = λ g is up. subst (λ (h : Missed). PlexesKnow c v (has_missed h) m'.reads) (same_Some f g is) (taken_knows c sound v some m m' law fit goes tells f takes.0 up);
  }

-- what was read is in use
pub taken_used : (c : Config) (v : ℕ) (o : Option Missed) (gone : Bool) (m m' : Meaning) → TakesMaps c v o gone m m' → (o ≡ None → ⊥) → is_used c v Fmr ≡ true
taken_used c v None gone m m' takes some = absurd (some refl)
taken_used c v (Some f) true m m' takes some = absurd (some takes.0)
taken_used c v (Some f) false m m' takes some = takes.0.0

-- what was read is what a crash may leave
pub taken_was : (c : Config) (v : ℕ) (o : Option Missed) (gone : Bool) (m m' : Meaning) → Lawful m → 0 < blocks_in c.volumes v → TakesMaps c v o gone m m' → (f : Missed) → o ≡ Some f → MapWas c v f m
taken_was c v None gone m m' law some takes f at = absurd (let clash : None ≡ Some f = at in cc)
taken_was c v (Some g) true m m' law some takes f at = absurd (let clash : Some g ≡ None = takes.0 in cc)
taken_was c v (Some g) false m m' law some takes f at = subst (λ (h : Missed). MapWas c v h m) (same_Some g f at) (record {
  some = some;
  used = takes.0.0;
  fits = takes.0.1;
  left = λ tell k low. law.shown g.map.unit (g.map.first + k) (block_of g.map.bytes k) (takes.0.2.each tell k low);
})

pub were_set : (c : Config) (v : ℕ) (ls : List Logs) (k : Logs) (m : Meaning) → ((f : Missed) → k.fmr ≡ Some f → MapWas c v f m) → (y : Logs) (f : Missed) → slice_get (set ls v k) v ≡ Some y → y.fmr ≡ Some f → MapWas c v f m
were_set c v ls k m was y f now at = was f (ap (λ (z : Logs). z.fmr) (set_here ls v k y now) ∙ at)

-- ---- one log that was taken up

pub takes_none : (c : Config) (may : Bool) (v : ℕ) (ls : List Logs) → ((l : Logs) → slice_get ls v ≡ Some l → l.fmr ≡ None) → TakesMap c may v ls ls
takes_none c may v ls plain = record {
  here = λ l k was now. let same : Some l ≡ Some k = sym was ∙ now in let one : l ≡ k = cc in ap (λ (x : Logs). x.drl) (sym one);
  others = λ w apart. refl;
  why = λ k now some. absurd (some (plain k now));
}

pub takes_set : (c : Config) (may : Bool) (v : ℕ) (ls : List Logs) (l k : Logs) → slice_get ls v ≡ Some l → k.drl ≡ l.drl → may ≡ true → ((k.fmr ≡ None → ⊥) → is_used c v Fmr ≡ true) → TakesMap c may v ls (set ls v k)
takes_set c may v ls l k is drl may_so used = record {
  here = λ x y was now.
      let old : Some l ≡ Some x = sym is ∙ was in
      let one : l ≡ x = cc in
      let two : k ≡ y = set_here ls v k y now in
      ap (λ (z : Logs). z.drl) (sym two) ∙ drl ∙ ap (λ (z : Logs). z.drl) one;
  others = λ w apart. set_other ls v k w apart;
  why = λ y now some. let same : k ≡ y = set_here ls v k y now in (may_so, used (λ none. some (ap (λ (z : Logs). z.fmr) (sym same) ∙ none)));
}

-- those of the first volumes were taken up, and the others are as they were
pub record TakenSoFar (c : GroupCore) (a : List Bool) (good : ℕ) (st : List Bool) (r : Rested) (ls0 : List Logs) (m0 : Meaning) (n : ℕ) (ls : List Logs) (m : Meaning) : Type 0 where
  pub stands : LoggedStands c ls a false m
  pub goes : Goes Nothing m0 m
  pub drls : SameDrls ls0 ls
  pub rest : (v : ℕ) → n ≤ v → slice_get ls v ≡ slice_get ls0 v
  pub long : length ls ≡ length ls0
  pub why : MapsWhy good c.inner.config st r ls
  pub were : MapsWere c.inner.config ls m0

pub none_taken : (c : GroupCore) (a : List Bool) (good : ℕ) (st : List Bool) (r : Rested) (ls : List Logs) (m : Meaning) → LoggedStands c ls a false m → ((v : ℕ) (l : Logs) → slice_get ls v ≡ Some l → l.fmr ≡ None) → TakenSoFar c a good st r ls m 0 ls m
none_taken c a good st r ls m stands plain = record {
  stands = stands;
  goes = same_Goes m;
  drls = record { each = λ v l k was now. same_drls (slice_get ls v) l k was now };
  rest = λ v le. refl;
  long = refl;
  why = record { each = λ v l is some. absurd (some (plain v l is)) };
  were = record { each = λ v l f is at. absurd (let clash : None ≡ Some f = sym (plain v l is) ∙ at in cc) };
}

module _ (c : GroupCore) (a : List Bool) (good : ℕ) (st : List Bool) (r : Rested) (ls0 : List Logs) (m0 : Meaning) (n : ℕ) (ls : List Logs) (m : Meaning) (was : TakenSoFar c a good st r ls0 m0 n ls m) where
  -- what is asked of the next one
  pub next_tells : MapsTell c.inner.config n m0 → (IsTrue m.down → ⊥) → MapsTell c.inner.config n m
  next_tells tells up =
      maps_less m0 m was.goes.units was.goes.size (λ u b y left. elim (was.goes.leaves u b y left) [ inl old ↦ old | inr none ↦ absurd none ])
      (λ u b y read. elim (was.goes.reads u b y read) [
        | inl (inl old) ↦ old
        | inl (inr none) ↦ absurd none
        | inr down ↦ absurd (up down)
      ]) c.inner.config n tells

  module _ (may : Bool) (clean : may ≡ true → is_unsure st n ≡ false) (maps : may ≡ true → rests r.maps n ≡ true) (within : may ≡ true → log_within good c.inner.config n Fmr ≡ true) where
    why_here : (ls' : List Logs) → TakesMap c.inner.config may n ls ls' → (v : ℕ) (l : Logs) → v ≡ n → slice_get ls' v ≡ Some l → (l.fmr ≡ None → ⊥) → MapsMay good c.inner.config st r v
    why_here ls' takes v l same is some =
        let why = takes.why l (sym (ap (slice_get ls') same) ∙ is) some in
        subst (λ (w : ℕ). MapsMay good c.inner.config st r w) (sym same) (record { clean = clean why.0; maps = maps why.0; within = within why.0; used = why.1 })

    -- a map that was taken up is one of the disks as they were
    were_here : (ls' : List Logs) → ((k : Logs) (f : Missed) → slice_get ls' n ≡ Some k → k.fmr ≡ Some f → MapWas c.inner.config n f m) → (v : ℕ) (l : Logs) (f : Missed) → v ≡ n → slice_get ls' v ≡ Some l → l.fmr ≡ Some f → MapWas c.inner.config v f m0
    were_here ls' taken v l f same is at =
        let now = taken l f (sym (ap (slice_get ls') same) ∙ is) at in
        subst (λ (w : ℕ). MapWas c.inner.config w f m0) (sym same) (record {
          some = now.some;
          used = now.used;
          fits = now.fits;
          left = λ tell k low. ⊎_elim (λ old. old) (λ none. absurd none) (was.goes.leaves f.map.unit (f.map.first + k) (block_of f.map.bytes k) (now.left (was.goes.tells ∙ tell) k low));
        })

    pub one_taken : (ls' : List Logs) (m' : Meaning) → LoggedStands c ls' a false m' → Goes Nothing m m' → TakesMap c.inner.config may n ls ls' → ((k : Logs) (f : Missed) → slice_get ls' n ≡ Some k → k.fmr ≡ Some f → MapWas c.inner.config n f m) → TakenSoFar c a good st r ls0 m0 (n + 1) ls' m'
    one_taken ls' m' stands goes takes taken = record {
      stands = stands;
      goes = still m0 m m' was.goes goes;
      drls = record {
        each = λ v l k old now. elim (cases_eq v n) [
          | inl same ↦ here v l k same old now
          | inr apart ↦ was.drls.each v l k old (sym (takes.others v apart) ∙ now)
        ];
      };
      rest = λ v le. takes.others v (λ same. omega (arith, le, same)) ∙ was.rest v (omega (arith, le));
      long = let many = stands.many in let before = was.stands.many in let long = was.long in omega (arith, many, before, long);
      why = record {
        each = λ v l is some. elim (cases_eq v n) [
          | inl same ↦ why_here ls' takes v l same is some
          | inr apart ↦ was.why.each v l (sym (takes.others v apart) ∙ is) some
        ];
      };
      were = record {
        each = λ v l f is at. elim (cases_eq v n) [
          | inl same ↦ were_here ls' taken v l f same is at
          | inr apart ↦ was.were.each v l f (sym (takes.others v apart) ∙ is) at
        ];
      };
    }
      where
        here : (v : ℕ) (l k : Logs) → v ≡ n → slice_get ls0 v ≡ Some l → slice_get ls' v ≡ Some k → k.drl ≡ l.drl
        here v l k same old now =
            let at_n : slice_get ls0 n ≡ Some l = sym (ap (slice_get ls0) same) ∙ old in
            let now_n : slice_get ls' n ≡ Some k = sym (ap (slice_get ls') same) ∙ now in
            takes.here l k (was.rest n (omega arith) ∙ at_n) now_n

-- ---- logs that are in memory no more

pub shrink_none : (ls : List Logs) → MapsShrink ls ls
shrink_none ls = record {
  many = refl;
  each = λ v l k was now none. ap (λ (x : Logs). x.fmr) (sym (one_log (slice_get ls v) l k was now)) ∙ none;
  stay = λ v l k was now. note_same (λ p. false) 0 0 l k (ap (λ (x : Logs). x.fmr) (sym (one_log (slice_get ls v) l k was now)));
}
  where
    one_log : (o : Option Logs) (l k : Logs) → o ≡ Some l → o ≡ Some k → l ≡ k
    one_log o l k one two = let both : Some l ≡ Some k = sym one ∙ two in cc

pub shrink_set : (v : ℕ) (ls : List Logs) (l k : Logs) → slice_get ls v ≡ Some l → MapsStay l k → MapsShrink ls (set ls v k)
shrink_set v ls l k is stay = record {
  many = length-set ls v k;
  each = λ w x y was now none. (stays w x y was now).gone none;
  stay = stays;
}
  where
    here : (w : ℕ) (x y : Logs) → w ≡ v → slice_get ls w ≡ Some x → slice_get (set ls v k) w ≡ Some y → MapsStay x y
    here w x y same was now =
        let new : k ≡ y = set_here ls v k y (sym (ap (slice_get (set ls v k)) same) ∙ now) in
        let both : Some l ≡ Some x = sym is ∙ sym (ap (slice_get ls) same) ∙ was in
        let old : l ≡ x = cc in
        subst (λ (z : Logs). MapsStay x z) new (subst (λ (z : Logs). MapsStay z k) old stay)

    stays : (w : ℕ) (x y : Logs) → slice_get ls w ≡ Some x → slice_get (set ls v k) w ≡ Some y → MapsStay x y
    stays w x y was now = elim (cases_eq w v) [
      | inl same ↦ here w x y same was now
      | inr apart ↦ (shrink_none ls).stay w x y was (sym (set_other ls v k w apart) ∙ now)
    ]

pub shrink_then : (ls0 ls1 ls2 : List Logs) → MapsShrink ls0 ls1 → MapsShrink ls1 ls2 → MapsShrink ls0 ls2
shrink_then ls0 ls1 ls2 one two = record {
  many = two.many ∙ one.many;
  each = λ v l k was now none.
      let low = slice_get_within ls0 v l was in
      let middle = item_at ls1 v (let long = one.many in omega (arith, low, long)) in
      two.each v middle.0 k middle.1 now (one.each v l middle.0 was middle.1 none);
  stay = λ v l k was now.
      let low = slice_get_within ls0 v l was in
      let middle = item_at ls1 v (let long = one.many in omega (arith, low, long)) in
      note_then (λ p. false) 0 0 l middle.0 k (one.stay v l middle.0 was middle.1) (two.stay v middle.0 k middle.1 now);
}

-- why one is in memory still
pub shrink_why : (good : ℕ) (c : Config) (st : List Bool) (r : Rested) (ls ls' : List Logs) → MapsShrink ls ls' → MapsWhy good c st r ls → MapsWhy good c st r ls'
shrink_why good c st r ls ls' shrink why = record {
  each = λ v k is some.
      let low = slice_get_within ls' v k is in
      let was = item_at ls v (let long = shrink.many in omega (arith, low, long)) in
      why.each v was.0 was.1 (λ none. some (shrink.each v was.0 k was.1 is none));
}
