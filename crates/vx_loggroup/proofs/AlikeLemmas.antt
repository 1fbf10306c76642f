-- Volumes whose plexes read alike, and what is kept of them, beside calls of a group.
use Rattle.std.proofs.Common.{◌≡◌, ◌⊎◌, ◌∙◌, inl, inr, ℕ, ◌<◌, Bool, true, false, IsTrue, Option, Some, List, length, refl, sym, ap, subst, arith}
use Rattle.std.proofs.Math.ListN.{set}
use Rattle.std.proofs.lemmas.List.{length-set}
use Rattle.std.specs.Prelude.{IfErr, OnOk, Result, Ok, Err, slice_get}
use Rattle.vx_config.specs.declared.config.Config.{Config}
use Rattle.vx_disk.specs.Causes.{Cause}
use Rattle.vx_disk.specs.declared.shelf.ShelfError.{ShelfError}
use Rattle.vx_disk.specs.Shelf.{Covers, Goes, Meaning, Nothing, Values, Written, Wrote}
use Rattle.vx_kept.specs.Groups.{OnSome, OutsideVolumes}
use Rattle.vx_volume.specs.Plexes.{Inside}
use Rattle.vx_kept.specs.PlexActs.{PlexActs}
use Rattle.vx_kept.proofs.Lasting.{cases_bool}
use Rattle.vx_kept.proofs.PlexActing.{only_PlexActs}
use Rattle.vx_group.specs.Attaches.{region_count}
use Rattle.vx_group.specs.Holding.{GroupStands, config_by, wide}
use Rattle.vx_group.specs.Stands.{inner_meaning}
use Rattle.vx_group.specs.declared.group_core.GroupCore.{GroupCore}
use Rattle.vx_group.specs.declared.group_core.Held.{Held}
use Rattle.vx_group.proofs.HoldLemmas.{wide_shape}
use Rattle.vx_grouplogs.specs.Marking.{MarksFewer, MarksOnly}
use Rattle.vx_group.specs.Settles.{ReadsOne}
use Rattle.vx_groupmaps.specs.Missing.{none_spared}
use Rattle.vx_logged.specs.Begun.{MapsBut, MapsOff, MapsOfRun}
use Rattle.vx_logged.specs.Holds.{TheseHold}
use Rattle.vx_logged.specs.Logged.{EachOn, Known, LogOn, OthersOn}
use Rattle.vx_logged.proofs.StandLemmas.{each_on, same_fewer, same_only}
use Rattle.vx_logs.specs.declared.logs.Logs.{Logs}
use Rattle.vx_loggroup.specs.LoggedVolumes.{LoggedStands, OthersStand, VolumeStands, is_alike}
use Rattle.vx_loggroup.specs.Marks.{ClearsVolume, EmptyMaps, HoldMaps, MarksVolume, NotesMaps, RunsMaps}
use Rattle.vx_loggroup.proofs.SetLemmas.{set_each, set_here, set_other}

module _ (W : Values) (c d : GroupCore) (m m' : Meaning) (goes : Goes W (inner_meaning (wide c) m) (inner_meaning (wide d) m')) where
  pub inside_back : (v b : ℕ) → Inside (wide d).config v b → Inside (wide c).config v b
  inside_back v b is = record { volume = omega (arith, is.volume, goes.units); within = omega (arith, is.within, goes.size v) }

  -- a volume of which nothing was written reads alike still
  pub reads_goes : (v : ℕ) → ((b : ℕ) (x : List ℕ) → W v b x → ⊥) → (IsTrue m'.down → ⊥) → ReadsOne (wide c).config v m → ReadsOne (wide d).config v m'
  reads_goes v off up reads = record { one = λ b x y one two. reads.one b x y (back b x one) (back b y two) }
    where
      back : (b : ℕ) (x : List ℕ) → OnSome (wide d).config m'.reads v b x → OnSome (wide c).config m.reads v b x
      back b x is = elim (goes.reads v b x (inl is)) [
        | inl (inl (inl some)) ↦ some
        | inl (inl (inr out)) ↦ absurd (out.outside (inside_back v b is.inside))
        | inl (inr put) ↦ absurd (off b x put)
        | inr down ↦ absurd (up down)
      ]

  -- so does one that was written
  pub reads_wrote : (v block : ℕ) (bytes : List ℕ) → Wrote v block bytes (inner_meaning (wide c) m) (inner_meaning (wide d) m') → ReadsOne (wide c).config v m → ReadsOne (wide d).config v m'
  reads_wrote v block bytes wrote reads = record { one = λ b x y one two. by b x y one two (wrote.each v b x (inl one)) (wrote.each v b y (inl two)) }
    where
      some : (b : ℕ) (x : List ℕ) → Inside (wide d).config v b → OnSome (wide c).config m.reads v b x ⊎ OutsideVolumes m.tells (wide c).config v b x → OnSome (wide c).config m.reads v b x
      some b x inside (inl is) = is
      some b x inside (inr out) = absurd (out.outside (inside_back v b inside))

      by : (b : ℕ) (x y : List ℕ) → OnSome (wide d).config m'.reads v b x → OnSome (wide d).config m'.reads v b y
          → Written v block bytes v b x ⊎ ((Covers v block bytes v b → ⊥) × (OnSome (wide c).config m.reads v b x ⊎ OutsideVolumes m.tells (wide c).config v b x))
          → Written v block bytes v b y ⊎ ((Covers v block bytes v b → ⊥) × (OnSome (wide c).config m.reads v b y ⊎ OutsideVolumes m.tells (wide c).config v b y)) → x ≡ y
      by b x y one two (inl put) (inl too) = put.value ∙ sym too.value
      by b x y one two (inl put) (inr not) = absurd (not.0 put.covers)
      by b x y one two (inr not) (inl put) = absurd (not.0 put.covers)
      by b x y one two (inr was) (inr too) = reads.one b x y (some b x one.inside was.1) (some b y two.inside too.1)

-- a call on one volume beside the others
pub others_stand : (W : Values) (v : ℕ) (c : GroupCore) (s : Bool) (d : GroupCore) (t : Bool) (m m' : Meaning) → Goes W (inner_meaning (wide c) m) (inner_meaning (wide d) m') → ((w b : ℕ) (x : List ℕ) → (w ≡ v → ⊥) → W w b x → ⊥)
    → (t ≡ false → s ≡ false) → OthersOn v c d m m' → OthersStand v c s d t m m'
others_stand W v c s d t m m' goes off stays others = record {
  each = λ w l a apart was. record {
    on = λ going. others.each w l apart (was.on (stays going));
    maps = λ going. others.maps w l apart (was.maps (stays going));
    alike = λ is up. reads_goes W c d m m' goes w (λ b x put. off w b x apart put) up (was.alike is (λ down. up (goes.falls down)));
  };
}

-- what goes on now went on before
pub going_back : (s t : Bool) → (s ≡ true → t ≡ true) → t ≡ false → s ≡ false
going_back true t stays off = absurd (let clash : true ≡ false = sym (stays refl) ∙ off in cc)
going_back false t stays off = refl

-- as many logs as volumes
pub many_later : (c d : GroupCore) (n : ℕ) → length (wide d).config.volumes ≡ length (wide c).config.volumes → n ≡ length c.inner.config.volumes → n ≡ length d.inner.config.volumes
many_later c d n units many = let same = (wide_shape c).volumes in let new = (wide_shape d).volumes in omega (arith, units, many, same, new)

-- a call that writes no block of a volume leaves what is kept of each
pub all_whole : (c d : GroupCore) (ls : List Logs) (a : List Bool) (s : Bool) (m m' : Meaning) → LoggedStands c ls a s m → GroupStands d m' → Goes Nothing (inner_meaning (wide c) m) (inner_meaning (wide d) m') → EachOn c d m m' → LoggedStands d ls a s m'
all_whole c d ls a s m m' stands group goes each = record {
  group = group;
  many = many_later c d (length ls) goes.units stands.many;
  each = λ w l is.
      let was = stands.each w l is in
      record {
        on = λ going. each.each w l (was.on going);
        maps = λ going. each.maps w none_spared l (was.maps going);
        alike = λ same_at up. reads_goes Nothing c d m m' goes w (λ b x none. none) up (was.alike same_at (λ down. up (goes.falls down)));
      };
}

-- where the configuration is as it was, and nothing was written below
pub each_below : (c d : GroupCore) (m m' : Meaning) → GroupStands c m → d.inner.config ≡ c.inner.config → d.held ≡ c.held → Goes Nothing m m' → EachOn c d m m'
each_below c d m m' stands config held goes =
    each_on c d m m' stands (subst (λ (x : Config). PlexActs Nothing (wide c).config x m m') (sym same) (only_PlexActs Nothing (wide c).config m m' goes))
  where
    same : (wide d).config ≡ (wide c).config
    same = ap (λ (o : Option Held). config_by o d.inner.config) held ∙ ap (λ (x : Config). config_by c.held x) config

-- ---- one log that is changed

pub index_low : (c : GroupCore) (ls : List Logs) (a : List Bool) (s : Bool) (m : Meaning) (v : ℕ) → LoggedStands c ls a s m → v < length (wide c).config.volumes → v < length ls
index_low c ls a s m v stands lt = let many = stands.many in let same = (wide_shape c).volumes in omega (arith, lt, many, same)

-- a call on one volume, beside what is known of the plexes of the others
pub set_stands : (W : Values) (c d : GroupCore) (ls : List Logs) (a a' : List Bool) (s t : Bool) (v : ℕ) (l : Logs) (m m' : Meaning) → LoggedStands c ls a s m → GroupStands d m' → Goes W (inner_meaning (wide c) m) (inner_meaning (wide d) m')
    → ((w b : ℕ) (x : List ℕ) → (w ≡ v → ⊥) → W w b x → ⊥) → (t ≡ false → s ≡ false) → OthersOn v c d m m' → ((w : ℕ) → (w ≡ v → ⊥) → is_alike a' w ≡ is_alike a w) → VolumeStands d v l (is_alike a' v) t m' → LoggedStands d (set ls v l) a' t m'
set_stands W c d ls a a' s t v l m m' stands group goes off stays others same here = record {
  group = group;
  many = many_later c d (length (set ls v l)) goes.units (length-set ls v l ∙ stands.many);
  each = set_each ls v l (λ w (k : Logs). VolumeStands d w k (is_alike a' w) t m')
      (λ w k apart is. subst (λ (b : Bool). VolumeStands d w k b t m') (sym (same w apart)) ((others_stand W v c s d t m m' goes off stays others).each w k (is_alike a w) apart (stands.each w k is))) here;
}

-- a call that writes no block of a volume, on the volume itself
pub here_stands : (c d : GroupCore) (v : ℕ) (l k : Logs) (a s : Bool) (m m' : Meaning) → VolumeStands c v l a s m → Goes Nothing (inner_meaning (wide c) m) (inner_meaning (wide d) m') → (LogOn c v l m → LogOn d v k m') → (Known c v l m → Known d v k m') → VolumeStands d v k a s m'
here_stands c d v l k a s m m' was goes on maps = record {
  on = λ going. on (was.on going);
  maps = λ going. maps (was.maps going);
  alike = λ is up. reads_goes Nothing c d m m' goes v (λ b x none. none) up (was.alike is (λ down. up (goes.falls down)));
}

-- where logs are stopped less is kept
pub stop_stands : (c : GroupCore) (ls : List Logs) (a : List Bool) (t : Bool) (m : Meaning) → LoggedStands c ls a false m → LoggedStands c ls a t m
stop_stands c ls a t m stands = record {
  group = stands.group;
  many = stands.many;
  each = λ v l is. let was = stands.each v l is in record { on = λ going. was.on refl; maps = λ going. was.maps refl; alike = was.alike };
}

-- ---- the regions that logs have

pub same_item : (o : Option Logs) (l k : Logs) → o ≡ Some l → o ≡ Some k → l ≡ k
same_item o l k one two = let both : Some l ≡ Some k = sym one ∙ two in cc

pub marks_none : (c : Config) (v first last : ℕ) (ls : List Logs) → MarksVolume c v first last ls ls
marks_none c v first last ls = record {
  here = λ l k was now. let same : l ≡ k = same_item (slice_get ls v) l k was now in subst (MarksOnly (region_count c v) first last l) same (same_only (region_count c v) first last l);
  others = λ w apart. refl;
}

pub marks_set : (c : Config) (v first last : ℕ) (ls : List Logs) (l k : Logs) → slice_get ls v ≡ Some l → MarksOnly (region_count c v) first last l k → MarksVolume c v first last ls (set ls v k)
marks_set c v first last ls l k is marks = record {
  here = λ x y was now.
      let old : l ≡ x = same_item (slice_get ls v) l x is was in
      subst (MarksOnly (region_count c v) first last x) (set_here ls v k y now) (subst (λ (z : Logs). MarksOnly (region_count c v) first last z k) old marks);
  others = λ w apart. set_other ls v k w apart;
}

-- which regions of maps are noted then
pub notes_set : (fell those : ℕ → Bool) (v first last : ℕ) (ls : List Logs) (l k : Logs) → slice_get ls v ≡ Some l → MapsBut fell those first last l k → NotesMaps fell those v first last ls (set ls v k)
notes_set fell those v first last ls l k is notes = record {
  here = λ x y f g was now at on.
      let old : l ≡ x = same_item (slice_get ls v) l x is was in
      let new : k ≡ y = set_here ls v k y now in
      notes.each f g (ap (λ (z : Logs). z.fmr) old ∙ at) (ap (λ (z : Logs). z.fmr) new ∙ on);
}

pub runs_set : (these : ℕ → Bool) (v first last : ℕ) (ls : List Logs) (k : Logs) → MapsOfRun these first last k → RunsMaps these v first last (set ls v k)
runs_set these v first last ls k run = record { here = λ y now. subst (λ (z : Logs). MapsOfRun these first last z) (set_here ls v k y now) run }

pub hold_set : (these : ℕ → Bool) (v first last : ℕ) (ls : List Logs) (k : Logs) → TheseHold these first last k → HoldMaps these v first last (set ls v k)
hold_set these v first last ls k held = record { here = λ y now. subst (λ (z : Logs). TheseHold these first last z) (set_here ls v k y now) held }

pub off_set : (these : ℕ → Bool) (v : ℕ) (ls : List Logs) (k : Logs) → MapsOff these k → EmptyMaps these v (set ls v k)
off_set these v ls k off = record { here = λ y now. subst (λ (z : Logs). MapsOff these z) (set_here ls v k y now) off }

pub clears_none : (c : Config) (v : ℕ) (ls : List Logs) → ClearsVolume c v ls ls
clears_none c v ls = record {
  here = λ l k was now. let same : l ≡ k = same_item (slice_get ls v) l k was now in subst (MarksFewer (region_count c v) l) same (same_fewer (region_count c v) l);
  others = λ w apart. refl;
}

pub clears_set : (c : Config) (v : ℕ) (ls : List Logs) (l k : Logs) → slice_get ls v ≡ Some l → MarksFewer (region_count c v) l k → ClearsVolume c v ls (set ls v k)
clears_set c v ls l k is fewer = record {
  here = λ x y was now.
      let old : l ≡ x = same_item (slice_get ls v) l x is was in
      subst (MarksFewer (region_count c v) x) (set_here ls v k y now) (subst (λ (z : Logs). MarksFewer (region_count c v) z k) old fewer);
  others = λ w apart. set_other ls v k w apart;
}

-- what is said where a call began up is said of each that was done
pub done_up : {T P Q : Type 0} (r : Result T ShelfError) (a b : Meaning) (v : ℕ) → Cause a b v r → ((IsTrue a.down → ⊥) → OnOk r P) → (P → Q) → OnOk r Q
done_up (Ok x) a b v cause so to = to (so cause.before)
done_up (Err e) a b v cause so to = tt

-- and of each that was refused, unless the shelf is down
pub left_up : {T P Q : Type 0} (r : Result T ShelfError) (a b : Meaning) → (IsTrue a.down → IsTrue b.down) → ((IsTrue a.down → ⊥) → IfErr r (λ e. IsTrue b.down ⊎ P)) → (P → Q) → IfErr r (λ e. IsTrue b.down ⊎ Q)
left_up (Ok x) a b falls so to = tt
left_up (Err e) a b falls so to = elim (cases_bool a.down) [
  | inl down ↦ inl (falls down)
  | inr not ↦ elim (so (λ down. let clash : false ≡ true = sym not ∙ down in cc)) [ inl down ↦ inl down | inr p ↦ inr (to p) ]
]
