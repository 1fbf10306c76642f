-- A volume that is made in a group, as its site notes it.
use Rattle.std.proofs.Common.{◌≡◌, inl, inr, ℕ, ◌+◌, ◌<◌, ◌≤◌, Bool, true, false, IsTrue, Option, Some, None, List, [], ◌∷◌, ◌++◌, length, refl, ap, sym, ◌∙◌, subst, arith}
use Rattle.std.specs.Prelude.{◌==◌, if◌then◌else◌, Contains, Result, Ok, Err}
use Rattle.std.proofs.lemmas.Bool.{cases_eq, cases_lt, eq-eqb, eqb-true}
use Rattle.std.proofs.lemmas.List.{length-append}
use Rattle.std.proofs.lemmas.Option.{slice_get_past}
use Rattle.vx_model.specs.Content.{zero_block}
use Rattle.vx_model.specs.declared.errors.Stop.{Stop}
use Rattle.vx_model.specs.declared.errors.Stop.TheVariants.{No as Refused, OutOfMemory}
use Rattle.vx_model.specs.declared.no.No.{No}
use Rattle.vx_model.specs.declared.no.No.TheVariants as refusal
use Rattle.vx_disk.specs.Moves.{Nowhere}
use Rattle.vx_disk.specs.Shelf.{Goes, Lawful, Meaning, Nothing, Values}
use Rattle.vx_model.proofs.Lists.{get_end}
use Rattle.vx_disk.proofs.Runs.{then_nothing}
use Rattle.vx_history.specs.Groups.{BlockMay, GroupNode}
use Rattle.vx_history.specs.World.{Node}
use Rattle.vx_config.specs.Checks.{blocks_of, blocks_or_none}
use Rattle.vx_config.specs.declared.config.Config.{Config}
use Rattle.vx_config.specs.declared.entry.VolumeEntry.{VolumeEntry}
use Rattle.vx_layout.specs.declared.shape.Shape.{Shape}
use Rattle.vx_kept.specs.Groups.{OnSome, PlacesApart, group_meaning, seen}
use Rattle.vx_group.specs.Calls.{GroupStays}
use Rattle.vx_group.specs.Creates.{SameUnits}
use Rattle.vx_group.specs.Finds.{GroupFinds}
use Rattle.vx_group.specs.Holding.{GroupStands, config_by, volumes_by, wide}
use Rattle.vx_group.specs.Makes.{MakeEnds, Unmoved, VolumeMade}
use Rattle.vx_group.specs.Stands.{inner_meaning, volume_faults}
use Rattle.vx_group.specs.declared.group_core.GroupCore.{GroupCore}
use Rattle.vx_group.specs.declared.group_core.Held.{Held}
use Rattle.vx_group.specs.declared.inner.Inner.{Inner}
use Rattle.vx_group.proofs.BehindLemmas.{by_same}
use Rattle.vx_group.proofs.HoldLemmas.{wide_none, wide_shape}
use Rattle.vx_group.proofs.MakeLemmas.{volumes_Goes}
use Rattle.vx_group.proofs.Standing.{apart_of_core}
use Rattle.vx_grouped.specs.Added.{VolumeLeaves, note_added}
use Rattle.vx_grouped.specs.GroupNotes.{IsGroupAt, note_called}
use Rattle.vx_grouped.specs.Plain.{HoldsPlain}
use Rattle.vx_grouped.specs.Volumes.{VolumesGo}
use Rattle.vx_grouped.proofs.KeepLemmas.{call_cut, call_none, call_up}
use Rattle.vx_grouped.proofs.ImageLemmas.{called_tight, nexts_of}
use Rattle.vx_grouped.proofs.NoteLemmas.{lies_called}
use Rattle.vx_grouped.proofs.PlainLemmas.{same_holds}
use Rattle.vx_kept.specs.Keeping.{Extends, SameShape}
use Rattle.vx_volume.specs.Plexes.{Inside, active}
use Rattle.vx_kept.proofs.Chosen.{active_volumes, alike_shape, place_volumes}
use Rattle.vx_kept.proofs.StateLemmas.{same_shape}
use Rattle.vx_kept.proofs.Steps.{inside_same}

-- ---- choices by the number of a volume

if_same : {A : Type 0} (v vol : ℕ) (x y : A) → v ≡ vol → (if v == vol then x else y) ≡ x
if_same v vol x y same = ap (λ (t : Bool). if t then x else y) (eq-eqb v vol same)

not_same : (v vol : ℕ) (t : Bool) → (v == vol) ≡ t → (v ≡ vol → ⊥) → t ≡ false
not_same v vol true is apart = absurd (apart (eqb-true v vol is))
not_same v vol false is apart = refl

if_apart : {A : Type 0} (v vol : ℕ) (x y : A) → (v ≡ vol → ⊥) → (if v == vol then x else y) ≡ y
if_apart v vol x y apart = ap (λ (t : Bool). if t then x else y) (not_same v vol (v == vol) refl apart)

-- ---- volumes that are the same read the same

apart_volumes : (c d : Config) → d.volumes ≡ c.volumes → PlacesApart c → PlacesApart d
apart_volumes c d same it = record {
  above = λ v p b in_it on. subst (λ (at : ℕ × ℕ). 512 ≤ at.1) (sym (place_volumes d c same v p b)) (it.above v p b (inside_same d c shape v b in_it) (sym (active_volumes d c same v p) ∙ on));
  one = λ v p b w q e in_v in_w on_v on_w at. it.one v p b w q e (inside_same d c shape v b in_v) (inside_same d c shape w e in_w) (sym (active_volumes d c same v p) ∙ on_v) (sym (active_volumes d c same w q) ∙ on_w)
      (sym (place_volumes d c same v p b) ∙ at ∙ place_volumes d c same w q e);
}
  where
    shape : SameShape d c
    shape = alike_shape d c c same (same_shape c)

-- ---- volumes behind others leave those as they were

extended_inside : (x c : Config) → Extends x c → (v b : ℕ) → v < length c.volumes → Inside x v b → Inside c v b
extended_inside x c ext v b low it = record { volume = low; within = (let less = it.within in let same = ext.blocks v low in omega (arith, less, same)) }

inside_extended : (x c : Config) → Extends x c → (v b : ℕ) → Inside c v b → Inside x v b
inside_extended x c ext v b it = record {
  volume = (let few = ext.volumes in let low = it.volume in omega (arith, few, low));
  within = (let less = it.within in let same = ext.blocks v it.volume in omega (arith, less, same));
}

extended_seen : (told : Bool) (x c : Config) → Extends x c → ((v p : ℕ) → v < length c.volumes → active x v p ≡ active c v p) → (values : Values) (v b : ℕ) (value : List ℕ) → v < length c.volumes → seen told x values v b value
    → seen told c values v b value
extended_seen told x c ext on values v b value low (inl is) = inl (record {
  inside = extended_inside x c ext v b low is.inside;
  plex = is.plex;
  is_on = sym (on v is.plex low) ∙ is.is_on;
  value = subst (λ (at : ℕ × ℕ). values at.0 at.1 value) (ext.place v is.plex b low) is.value;
})
extended_seen told x c ext on values v b value low (inr out) = inr (record { tells = out.tells; outside = λ it. out.outside (inside_extended x c ext v b it); empty = out.empty })

module _ (c d : GroupCore) (m m' : Meaning) (two : GroupStands d m') (lawful : Lawful m') (stays : GroupStays c d m m') where
  module _ (none : d.held ≡ None) where
    abbrev mid : Meaning
    mid = group_meaning c.inner.config (volume_faults d.inner.faults) m'

    mid_goes : Goes Nothing (inner_meaning (wide c) m) mid
    mid_goes = subst (λ (o : Option Held). Goes Nothing (inner_meaning (wide c) m) (group_meaning (config_by o c.inner.config) (volume_faults d.inner.faults) m')) none stays.goes

    low_here : (v : ℕ) → v < length (wide c).config.volumes → v < length c.inner.config.volumes
    low_here v low = let same = (wide_shape c).volumes in omega (arith, low, same)

    by_inner : VolumesGo Nowhere (inner_meaning (wide c) m) (inner_meaning d.inner m')
    by_inner = record {
      units = let same = (wide_shape c).volumes in let few = stays.shape.volumes in omega (arith, same, few);
      size = λ v low. stays.shape.blocks v (low_here v low) ∙ sym ((wide_shape c).blocks v);
      tells = mid_goes.tells;
      reads = λ v b x low is. elim (mid_goes.reads v b x (extended_seen m'.tells d.inner.config c.inner.config stays.shape stays.on m'.reads v b x (low_here v low) is)) [
        | inl (inl was) ↦ inl was
        | inl (inr put) ↦ absurd put
        | inr down ↦ inr (inr down)
      ];
      leaves = λ v b x low is. elim (mid_goes.leaves v b x (extended_seen m'.tells d.inner.config c.inner.config stays.shape stays.on m'.leaves v b x (low_here v low) is)) [ inl was ↦ inl was | inr put ↦ absurd put ];
      falls = mid_goes.falls;
      unarmed = mid_goes.unarmed;
    }

    -- the volumes that stood leave what they left
    pub added_goes : VolumesGo Nowhere (inner_meaning (wide c) m) (inner_meaning (wide d) m')
    added_goes = subst (λ (i : Inner). VolumesGo Nowhere (inner_meaning (wide c) m) (inner_meaning i m')) (sym (wide_none d none)) by_inner

  -- none was made
  pub same_goes : d.inner.config.volumes ≡ c.inner.config.volumes → Goes Nothing (inner_meaning (wide c) m) (inner_meaning (wide d) m')
  same_goes same =
      then_nothing Nothing (inner_meaning (wide c) m) (group_meaning (config_by d.held c.inner.config) (volume_faults d.inner.faults) m') (inner_meaning (wide d) m') stays.goes
      (back_goes same)
    where
      back_goes : d.inner.config.volumes ≡ c.inner.config.volumes → Goes Nothing (group_meaning (config_by d.held c.inner.config) (volume_faults d.inner.faults) m') (inner_meaning (wide d) m')
      back_goes is =
          let alike : volumes_by d.held d.inner.config ≡ volumes_by d.held c.inner.config = by_same d.held c.inner.config d.inner.config is in
          volumes_Goes (config_by d.held c.inner.config) (wide d).config (volume_faults d.inner.faults) m' lawful
          (apart_volumes (wide d).config (config_by d.held c.inner.config) (sym alike) (apart_of_core (wide d) m' two.stands)) alike

  -- one was made
  module _ (name : List ℕ) (want : Shape) (vol : ℕ) (none : d.held ≡ None) (made : VolumeMade name want vol c.inner d.inner m') where
    abbrev old : Config
    old = c.inner.config

    abbrev new : Config
    new = d.inner.config

    long : length new.volumes ≡ length old.volumes + 1
    long = ap length made.volumes ∙ (let it = length-append old.volumes (made.volume ∷ []) in omega (arith, it))

    front : (v : ℕ) → v < length old.volumes → (v ≡ vol → ⊥)
    front v lt at = let number = made.number in omega (arith, lt, at, number)

    size_last : blocks_of new.volumes vol ≡ want.blocks
    size_last = ap (λ (vs : List VolumeEntry). blocks_of vs vol) made.volumes ∙ ap (λ (v : ℕ). blocks_of (old.volumes ++ (made.volume ∷ [])) v) made.number
        ∙ ap blocks_or_none (get_end old.volumes made.volume) ∙ made.is_volume.made.blocks

    size_else : (v : ℕ) → (v ≡ vol → ⊥) → blocks_of new.volumes v ≡ blocks_of old.volumes v
    size_else v apart = elim (cases_lt v (length old.volumes)) [
      | inl lt ↦ stays.shape.blocks v lt
      | inr past ↦ ap blocks_or_none (slice_get_past new.volumes v (let number = made.number in omega (arith, past, long, number, apart))) ∙ sym (ap blocks_or_none (slice_get_past old.volumes v past))
    ]

    module _ (note : GroupNode) (it : HoldsPlain note (inner_meaning (wide c) m)) where
      abbrev added : GroupNode
      added = note_added vol want.blocks note

      added_size : (v : ℕ) → added.bytes.size v ≡ blocks_of new.volumes v
      added_size v = elim (cases_eq v vol) [
        | inl same ↦ if_same v vol want.blocks (note.bytes.size v) same ∙ sym size_last ∙ ap (blocks_of new.volumes) (sym same)
        | inr apart ↦ if_apart v vol want.blocks (note.bytes.size v) apart ∙ it.size v ∙ (wide_shape c).blocks v ∙ sym (size_else v apart)
      ]

      -- of the new volume each block is zeros
      added_last : (v b : ℕ) (x : List ℕ) → v ≡ vol → OnSome new m'.leaves v b x → BlockMay added v b x
      added_last v b x same is =
          let at : OnSome new m'.leaves vol b x = subst (λ (w : ℕ). OnSome new m'.leaves w b x) same is in
          inr (inl (made.begins.each at.plex b x at.is_on at.inside at.value ∙ sym (if_same v vol zero_block (note.bytes.block v b) same)))

      may_else : (v b : ℕ) (x : List ℕ) → (v ≡ vol → ⊥) → BlockMay note v b x → BlockMay added v b x
      may_else v b x apart (inl within) = inl within
      may_else v b x apart (inr (inl is)) = inr (inl (is ∙ sym (if_apart v vol zero_block (note.bytes.block v b) apart)))
      may_else v b x apart (inr (inr among)) = inr (inr (subst (λ (xs : List (List ℕ)). Contains xs x) (sym (if_apart v vol [] (note.others v b) apart)) among))

      -- of the others each is what it was
      added_else : (v b : ℕ) (x : List ℕ) → v < length old.volumes → OnSome new m'.leaves v b x → BlockMay added v b x
      added_else v b x lt is =
          let goes : Goes Nothing (inner_meaning (wide c) m) (group_meaning old (volume_faults d.inner.faults) m')
          = subst (λ (o : Option Held). Goes Nothing (inner_meaning (wide c) m) (group_meaning (config_by o old) (volume_faults d.inner.faults) m')) none stays.goes in
          let within : b < blocks_of old.volumes v = (let less = is.inside.within in let same = stays.shape.blocks v lt in omega (arith, less, same)) in
          let was : OnSome old m'.leaves v b x = record {
            inside = record { volume = lt; within = within };
            plex = is.plex;
            is_on = sym (stays.on v is.plex lt) ∙ is.is_on;
            value = subst (λ (at : ℕ × ℕ). m'.leaves at.0 at.1 x) (stays.shape.place v is.plex b lt) is.value;
          } in
          elim (goes.leaves v b x (inl was)) [
            | inl left ↦ may_else v b x (front v lt)
                (it.has v b x (let count = (wide_shape c).volumes in omega (arith, lt, count)) (let same = (wide_shape c).blocks v in omega (arith, within, same)) left)
            | inr no_put ↦ absurd no_put
          ]

      added_has : (v b : ℕ) (x : List ℕ) → v < length new.volumes → b < blocks_of new.volumes v → seen m'.tells new m'.leaves v b x → BlockMay added v b x
      added_has v b x there within (inl is) = elim (cases_eq v vol) [
        | inl same ↦ added_last v b x same is
        | inr apart ↦ added_else v b x (let number = made.number in omega (arith, there, long, number, apart)) is
      ]
      added_has v b x there within (inr out) = absurd (out.outside (record { volume = there; within = within }))

      pub added_holds : HoldsPlain added (inner_meaning (wide d) m')
      added_holds = subst (λ (i : Inner). HoldsPlain added (inner_meaning i m')) (sym (wide_none d none)) (record { size = added_size; has = added_has })

-- ---- what the call leaves

pub make_not_down : (a b e f h : Bool) (n1 n2 n3 n4 n5 : No) → (n1 ≡ refusal.Down → ⊥) → (n2 ≡ refusal.Down → ⊥) → (n3 ≡ refusal.Down → ⊥) → (n4 ≡ refusal.Down → ⊥) → (n5 ≡ refusal.Down → ⊥)
    → (if a then Some n1 else (if b then Some n2 else (if e then Some n3 else (if f then Some n4 else (if h then Some n5 else None))))) ≡ Some refusal.Down → ⊥
make_not_down true b e f h n1 n2 n3 n4 n5 x1 x2 x3 x4 x5 is = x1 (let same : Some n1 ≡ Some refusal.Down = is in cc)
make_not_down false true e f h n1 n2 n3 n4 n5 x1 x2 x3 x4 x5 is = x2 (let same : Some n2 ≡ Some refusal.Down = is in cc)
make_not_down false false true f h n1 n2 n3 n4 n5 x1 x2 x3 x4 x5 is = x3 (let same : Some n3 ≡ Some refusal.Down = is in cc)
make_not_down false false false true h n1 n2 n3 n4 n5 x1 x2 x3 x4 x5 is = x4 (let same : Some n4 ≡ Some refusal.Down = is in cc)
make_not_down false false false false true n1 n2 n3 n4 n5 x1 x2 x3 x4 x5 is = x5 (let same : Some n5 ≡ Some refusal.Down = is in cc)
make_not_down false false false false false n1 n2 n3 n4 n5 x1 x2 x3 x4 x5 is = let clash : None ≡ Some refusal.Down = is in cc

pub stop_volumes : (name : List ℕ) (want : Shape) (c d : Inner) (m m' : Meaning) (stop : Stop) → MakeEnds name want c d m m' (Err stop) → d.config.volumes ≡ c.config.volumes
stop_volumes name want c d m m' (Refused why) ends = ends.0
stop_volumes name want c d m m' OutOfMemory same = same

-- nor where a test refused it
pub refused_volumes : (name : List ℕ) (want : Shape) (c d : GroupCore) (m m' : Meaning) (stop : Stop) (o : Option No) → (o ≡ None → MakeEnds name want c.inner d.inner m m' (Err stop)) → ((why : No) → o ≡ Some why → d ≡ c)
    → d.inner.config.volumes ≡ c.inner.config.volumes
refused_volumes name want c d m m' stop None ends refused = stop_volumes name want c.inner d.inner m m' stop (ends refl)
refused_volumes name want c d m m' stop (Some why) ends refused = ap (λ (x : GroupCore). x.inner.config.volumes) (refused why refl)

pub err_one : (r : Result ℕ Stop) (x y : Stop) → r ≡ Err x → r ≡ Err y → x ≡ y
err_one r x y one two = cc

-- a volume was made, so no test refused it
pub made_by : (P : Type 0) (r : Result ℕ Stop) (vol : ℕ) (o : Option No) → r ≡ Ok vol → (o ≡ None → P) → ((why : No) → o ≡ Some why → r ≡ Err (Refused why)) → P
made_by P r vol None is ends refused = ends refl
made_by P r vol (Some why) is ends refused = absurd (let clash = refused why refl in cc)

module _ (n : Node) (note : GroupNode) (name : List ℕ) (want : Shape) (c d : GroupCore) (m m' : Meaning) (at : IsGroupAt n note c m) (two : GroupStands d m') (lawful : Lawful m') (units : SameUnits m m') (stays : GroupStays c d m m') (finds : GroupFinds c d m m') where
  abbrev called : GroupNode
  called = note_called (nexts_of c d m m' finds.core) d note

  pub made_leaves : (vol : ℕ) → d.held ≡ None → (IsTrue m'.down → ⊥) → (c.inner.committed ≡ true → d.inner.committed ≡ true) → VolumeMade name want vol c.inner d.inner m' → VolumeLeaves n note want d m' (Ok vol)
  made_leaves vol none up trust made = (
    nexts_of c d m m' finds.core,
    record {
      state = at.state;
      up = up;
      lies = lies_called n note c d m m' at.lies two units.units (λ u low. units.size u) finds.core (note_added vol want.blocks called) refl refl refl
          (added_holds c d m m' two lawful stays name want vol none made called
          (same_holds note (inner_meaning (wide c) m) called.config called.begun called.loose at.lies.holds));
    },
    called_tight note c d m m' at.lies.images finds.core at.lies.committed trust finds.free,
  )

  -- the disks are down behind a refusal
  pub volume_cut : (o : Option No) → (o ≡ None → d.inner.config.volumes ≡ c.inner.config.volumes) → ((why : No) → o ≡ Some why → IsTrue m'.down → ⊥) → IsTrue m'.down → VolumeLeaves n note want d m' (Err (Refused refusal.Down))
  volume_cut None same never down = call_cut n note c d m m' at two units.units units.size (same_goes c d m m' two lawful stays (same refl)) finds.core down
  volume_cut (Some why) same never down = absurd (never why refl down)

  -- they are not
  module _ (up : IsTrue m'.down → ⊥) (same : Type 0) (still : same → IsGroupAt n note d m') where
    by_ends : (stop : Stop) → MakeEnds name want c.inner d.inner m m' (Err stop) → Unmoved {T = ℕ} (Err stop) same → VolumeLeaves n note want d m' (Err stop)
    by_ends (Refused (refusal.Device disk)) ends unmoved =
        call_up n note c d m m' at two units.units units.size (same_goes c d m m' two lawful stays ends.0) finds.core {T = ℕ} (Err (Refused (refusal.Device disk))) up tt tt ends.1
    by_ends (Refused refusal.Down) ends unmoved = absurd (up ends.1)
    by_ends (Refused other) ends unmoved = still unmoved
    by_ends OutOfMemory ends unmoved = still unmoved

    pub volume_up : (stop : Stop) (o : Option No) → (o ≡ None → MakeEnds name want c.inner d.inner m m' (Err stop)) → Unmoved {T = ℕ} (Err stop) same
        → ((why : No) → o ≡ Some why → (stop ≡ Refused why) × IsGroupAt n note d m' × (d.inner.config.volumes ≡ c.inner.config.volumes)) → (o ≡ Some refusal.Down → ⊥) → VolumeLeaves n note want d m' (Err stop)
    volume_up stop None ends unmoved refused never = by_ends stop (ends refl) unmoved
    volume_up stop (Some why) ends unmoved refused never =
        let it = refused why refl in
        subst (λ (x : Stop). VolumeLeaves n note want d m' (Err x)) (sym it.0)
        (call_none n note c d m m' at two units.units units.size (same_goes c d m m' two lawful stays it.2) finds.core ℕ why it.1 (λ down. never (ap Some down)))
