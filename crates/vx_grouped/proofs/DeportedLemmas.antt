-- A group that was deported, as its site notes it.
use Rattle.std.proofs.Common.{◌≡◌, ◌⊎◌, inl, inr, ℕ, ◌<◌, ◌≤◌, Bool, true, false, List, length, refl, sym, ◌∙◌, ap, subst, arith, IsTrue}
use Rattle.std.specs.Prelude.{Err, if◌then◌else◌}
use Rattle.vx_model.specs.declared.errors.Stop.{Stop}
use Rattle.vx_model.specs.declared.errors.Stop.TheVariants.{No as Refused, OutOfMemory}
use Rattle.vx_model.specs.declared.no.Counted.TheVariants.{Number as Numbers}
use Rattle.vx_model.specs.declared.no.No.TheVariants.{Limit}
use Rattle.vx_model.specs.declared.site.SiteState.TheVariants.{Deported as IsDeported}
use Rattle.vx_disk.specs.Shelf.{Each, Goes, Image, Meaning, Nothing}
use Rattle.vx_history.specs.Groups.{GroupNode, BlockMay}
use Rattle.vx_history.specs.World.{Node}
use Rattle.vx_config.specs.declared.config.Config.{Config}
use Rattle.vx_copyfmt.specs.Imports.{Found}
use Rattle.vx_kept.specs.Choice.{live}
use Rattle.vx_kept.specs.Cleans.{at_serial, cleaned}
use Rattle.vx_kept.specs.Groups.{found}
use Rattle.vx_kept.specs.Keeping.{Kin, frame_at}
use Rattle.vx_kept.proofs.Chosen.{active_volumes, extends_shape, extends_volumes, frames_volumes, live_volumes}
use Rattle.vx_kept.proofs.CleanLemmas.{all_clean}
use Rattle.vx_kept.proofs.Narrower.{stand_apart}
use Rattle.vx_kept.proofs.Steps.{inside_back}
use Rattle.vx_layout.specs.Places.{place}
use Rattle.vx_volume.specs.Plexes.{Inside, active}
use Rattle.vx_config.specs.Table.{greatest}
use Rattle.vx_group.specs.Calls.{GroupBack}
use Rattle.vx_group.specs.Deports.{DeportStops, DeportedBy}
use Rattle.vx_group.specs.Dets.{DetStops}
use Rattle.vx_group.specs.Finds.{GroupImages}
use Rattle.vx_group.specs.Holding.{GroupStands, wide}
use Rattle.vx_group.specs.Resumes.{CanImport}
use Rattle.vx_group.specs.Stands.{inner_meaning}
use Rattle.vx_group.specs.declared.group_core.GroupCore.{GroupCore}
use Rattle.vx_group.proofs.HoldLemmas.{narrow_wider, wide_shape}
use Rattle.vx_group.proofs.Standing.{sound_of}
use Rattle.vx_grouped.specs.Away.{IsDeportedAt, note_deported}
use Rattle.vx_grouped.specs.Ends.{CallLeaves}
use Rattle.vx_grouped.specs.GroupNotes.{GroupLies, IsGroupAt, IsGroupCut, note_called}
use Rattle.vx_grouped.proofs.KeepLemmas.{call_cut, call_up}

place_serial : (s : ℕ) (c : Config) (v p b : ℕ) → place (at_serial s c) v p b ≡ place c v p b
unfolding place
place_serial s c v p b = refl

found_one : (x y : Config) → Found x ≡ Found y → x ≡ y
found_one x y is = cc

deported_tight : (kept : Bool) → (if kept then false else true) ≡ false → kept ≡ true
deported_tight true is = refl
deported_tight false is = cc

module _ (n : Node) (note : GroupNode) (c : GroupCore) (m m' : Meaning) (lies : GroupLies n note c m) (stands : GroupStands c m) (it : DeportedBy (wide c).config c.inner m m') where
  kin : (i : Image) (x : Config) → Each m'.leaves i → found m' i ≡ Found x → Kin (at_serial it.config.serial it.behind.config) x
  kin i x each is = it.kept.kin i x each is

  count : length it.behind.config.volumes ≡ length c.inner.config.volumes
  count = it.quiesces.shape.volumes

  -- a block lies where it lay
  lay : (i : Image) (x : Config) → Each m'.leaves i → found m' i ≡ Found x → (v p b : ℕ) → v < length c.inner.config.volumes → place x v p b ≡ place (wide c).config v p b
  lay i x each is v p b low =
      (kin i x each is).shape.place v p b (let same = count in omega (arith, low, same)) ∙ place_serial it.config.serial it.behind.config v p b ∙ it.quiesces.shape.place v p b
      ∙ sym ((wide_shape c).place v p b)

  -- a plex that takes part was ACTIVE
  was_on : (i : Image) (x : Config) → Each m'.leaves i → found m' i ≡ Found x → (v p : ℕ) → v < length c.inner.config.volumes → IsTrue (live x v p) → IsTrue (active (wide c).config v p)
  was_on i x each is v p low on =
      narrow_wider c m stands v p
      (it.quiesces.on v p (sym (active_volumes (at_serial it.config.serial it.behind.config) it.behind.config refl v p) ∙ (kin i x each is).on v p (let same = count in omega (arith, low, same)) on))

  has : (i : Image) (x : Config) → Each m'.leaves i → found m' i ≡ Found x → (v p b : ℕ) → Inside c.inner.config v b → IsTrue (live x v p) → BlockMay note v b (i (place x v p b).0 (place x v p b).1)
  has i x each is v p b inside on =
      let there : Inside (wide c).config v b = inside_back (wide c).config c.inner.config (wide_shape c) v b inside in
      let is_on : IsTrue (active (wide c).config v p) = was_on i x each is v p inside.volume on in
      let above : 512 ≤ (place (wide c).config v p b).1 = (stand_apart (wide c).config (sound_of (wide c) m stands.stands)).above v p b there is_on in
      subst (λ (at : ℕ × ℕ). BlockMay note v b (i at.0 at.1)) (sym (lay i x each is v p b inside.volume))
      (lies.holds.has v b (i (place (wide c).config v p b).0 (place (wide c).config v p b).1) there.volume there.within
      (inl (record {
        inside = there;
        plex = p;
        is_on = is_on;
        value = elim (it.quiesces.acts.leaves (place (wide c).config v p b).0 (place (wide c).config v p b).1 (i (place (wide c).config v p b).0 (place (wide c).config v p b).1) above (each (place (wide c).config v p b).0 (place (wide c).config v p b).1)) [
          | inl was ↦ was
          | inr none ↦ absurd none
        ];
      })))

  -- it has the volumes that it had
  pub newest_frames : (v : ℕ) → frame_at it.config v ≡ frame_at c.inner.config v
  newest_frames v =
      frames_volumes it.config (cleaned it.behind.unsure it.behind.config (length c.inner.config.volumes)) it.volumes v
      ∙ (all_clean it.behind.unsure (length c.inner.config.volumes) it.behind.config).alike.shape.frames v ∙ it.quiesces.shape.frames v

  -- and its plexes take part as those behind the flushes do
  pub newest_lives : (v p : ℕ) → live it.config v p ≡ live it.behind.config v p
  newest_lives v p =
      live_volumes it.config (cleaned it.behind.unsure it.behind.config (length c.inner.config.volumes)) it.volumes v p
      ∙ (all_clean it.behind.unsure (length c.inner.config.volumes) it.behind.config).alike.lives v p

  pub deported_at : (c.inner.committed ≡ true → CanImport m') → IsDeportedAt (record n { state = IsDeported }) (note_deported it.config c.inner note) c.inner.config it.config m'
  deported_at can = record {
    state = refl;
    config = refl;
    frames = newest_frames;
    found = record { each = λ tight i x each is. inl (ap (λ (y : Config). at_serial 0 y) (found_one x it.config (sym is ∙ it.finds i each))) };
    some = record { large = λ more. subst (λ (x : ℕ). 1024 ≤ x) (lies.size 0 more) (stands.stands.large.each 0 (subst (λ (x : ℕ). 0 < x) (sym lies.units) more)); some = it.some };
    lies = record {
      units = it.quiesces.acts.units ∙ lies.units;
      size = λ u low. it.quiesces.acts.size u ∙ lies.size u low;
      can = λ tight. can (deported_tight c.inner.committed tight);
      sizes = λ v. lies.holds.size v ∙ (wide_shape c).blocks v;
      finds = it.kept.finds;
      volumes = λ i x each is. extends_shape x it.behind.config c.inner.config
          (extends_volumes x (at_serial it.config.serial it.behind.config) it.behind.config refl (kin i x each is).shape) it.quiesces.shape;
      has = λ i x each is v p b inside on. elim (has i x each is v p b inside on) [
        | inl same ↦ inl same
        | inr among ↦ inr among
      ];
    };
  }

-- ---- a group that is given back

pub device_stops : {S G : Type 0} (old : Meaning) (meaning : S → Meaning) (shelf : G → S) (g : G) (stop : Stop) → DeportStops old meaning shelf (Err (g, stop)) → DetStops {T = Unit {0}} old (meaning (shelf g)) (Err stop)
device_stops old meaning shelf g (Refused why) it = it
device_stops old meaning shelf g OutOfMemory it = it

module _ (n : Node) (note : GroupNode) (c d : GroupCore) (m m' : Meaning) (at : IsGroupAt n note c m) (back : GroupBack c d m m') (goes : Goes Nothing (inner_meaning (wide c) m) (inner_meaning (wide d) m')) (finds : GroupImages c d m m') where
  pub back_cut : IsTrue m'.down → (nexts : List (List ℕ)) × IsGroupCut n (note_called nexts d note) d m'
  back_cut down = call_cut n note c d m m' at back.stands back.quiesces.acts.units back.quiesces.acts.size goes finds.core down

  -- by whether serials suffice
  pub back_up : (stop : Stop) (full : Type 0) (enough : Type 0) → full ⊎ enough → (IsTrue m'.down → ⊥) → (enough → DetStops {T = Unit {0}} m m' (Err stop)) → (full → (stop ≡ Refused (Limit Numbers greatest)) × IsGroupAt n note d m')
      → CallLeaves {T = Unit {0}} n note d m' (Err stop)
  back_up stop full enough (inr is) up stops same =
      call_up n note c d m m' at back.stands back.quiesces.acts.units back.quiesces.acts.size goes finds.core {T = Unit {0}} (Err stop) up tt tt (stops is)
  back_up stop full enough (inl is) up stops same =
      subst (λ (x : Stop). CallLeaves {T = Unit {0}} n note d m' (Err x)) (sym (same is).0) (same is).1
