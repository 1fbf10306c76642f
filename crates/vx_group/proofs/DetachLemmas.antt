-- A commit that detaches plexes, over the core of a group.
use Rattle.std.proofs.Common.{◌≡◌, inl, inr, ⊎_elim, ℕ, ◌<◌, ◌≤◌, ◌^◌, true, false, IsTrue, List, length, Err, refl, ap, sym, ◌∙◌, subst, arith}
use Rattle.std.proofs.lemmas.Bool.{both_ways, false_from_ne_true}
pub use Rattle.vx_resync.proofs.CauseLemmas.{zero_bit}
use Rattle.vx_disk.specs.Blocks.{bit_at}
use Rattle.vx_disk.specs.Shelf.{Meaning, Nothing}
use Rattle.vx_model.specs.declared.no.Counted.TheVariants.{Number}
use Rattle.vx_model.specs.declared.no.No.{No}
use Rattle.vx_model.specs.declared.no.No.TheVariants as refusal
use Rattle.vx_config.specs.Checks.{blocks_of}
use Rattle.vx_config.specs.Configs.{CanSpell}
use Rattle.vx_config.specs.Table.{greatest}
use Rattle.vx_config.specs.declared.config.Config.{Config}
use Rattle.vx_config.specs.declared.entry.DiskEntry.{DiskEntry}
use Rattle.vx_config.specs.declared.entry.VolumeEntry.{VolumeEntry}
use Rattle.vx_copies.specs.Answers.{good_set}
use Rattle.vx_copies.specs.Bodies.{is_wanted}
use Rattle.vx_copies.specs.Commits.{CommitStops}
use Rattle.vx_copies.specs.Marks.{HasGood, NoneGood}
use Rattle.vx_volume.specs.Plexes.{active}
use Rattle.vx_volume.proofs.PlaceLemmas.{active_few}
use Rattle.vx_kept.specs.Choice.{live}
use Rattle.vx_kept.specs.Commits.{Left, Member, Taken}
use Rattle.vx_kept.specs.Keeping.{Acts, AllOn, Kept, SameShape, Sees}
use Rattle.vx_kept.specs.States.{AreOn, staled}
use Rattle.vx_kept.proofs.Chosen.{active_volumes, alike_shape}
use Rattle.vx_kept.proofs.Narrower.{on_live}
use Rattle.vx_kept.proofs.StateLemmas.{active_left, is_staled, same_shape}
use Rattle.vx_kept.specs.Trusts.{Trusts}
use Rattle.vx_group.specs.Blames.{Blames, BlamesOr, fault_of}
use Rattle.vx_group.specs.Moves.{AreOff, Narrows}
use Rattle.vx_group.specs.Stands.{InnerStands}
use Rattle.vx_group.specs.declared.inner.Inner.{Inner}
use Rattle.vx_group.proofs.Standing.{made, sound_of, still_large}

-- some good disk is none that fails
pub some_good : (disks : List DiskEntry) (good : ℕ) → HasGood disks good → NoneGood disks (length disks) good → ⊥
some_good disks good some none = let failed = none.each some.disk some.below some.member in let clash : false ≡ true = sym some.held ∙ failed in cc

module _ (core e : Inner) (v set : ℕ) (m m' : Meaning) (stands : InnerStands core m) (acts : Acts Nothing (Sees core.config (Member core.good m) m) m m')
    (wanted : is_wanted m'.units m'.size e.config ≡ true) (can : CanSpell e.config) (on : AllOn e.config) (faults : e.faults ≡ core.faults) (unsure : e.unsure ≡ core.unsure) where
  few_same : length e.config.volumes ≡ length core.config.volumes → length e.config.volumes ≤ 32
  few_same same = let few = stands.few in omega (arith, same, few)

  small_same : ((x : ℕ) → blocks_of e.config.volumes x ≡ blocks_of core.config.volumes x) → (x : ℕ) → blocks_of e.config.volumes x < 2 ^ 64
  small_same same x = let small = stands.small x in let at = same x in omega (arith, at, small)

  -- done
  module _ (taken : Taken core.config (staled v set core.config 8) e.config m m') (good : e.good ≡ good_set e.config.disks) where
    active_was : (x q : ℕ) → active e.config x q ≡ active (staled v set core.config 8) x q
    active_was x q = active_volumes e.config (staled v set core.config 8) taken.grown.volumes x q

    shape_was : SameShape e.config core.config
    shape_was = alike_shape e.config (staled v set core.config 8) core.config taken.grown.volumes (is_staled v set 8 core.config).shape

    pub taken_Stands : Trusts e.committed e.agreed (good_set e.config.disks) m' → InnerStands e m'
    taken_Stands trusts = made e m' wanted can (few_same shape_was.volumes) (small_same shape_was.blocks) (still_large m m' acts.units acts.size stands.large) on
        (subst (λ (g : ℕ). NoneGood e.config.disks (length e.config.disks) g → ⊥) (sym good) (some_good e.config.disks (good_set e.config.disks) taken.some))
        (subst (λ (g : ℕ). Kept e.config (Member g m') m') (sym good) taken.kept) (λ is. taken.tidy) (subst (λ (g : ℕ). Trusts e.committed e.agreed g m') (sym good) trusts)

    pub taken_Narrows : Narrows core e m m'
    taken_Narrows = record {
      acts = acts;
      shape = shape_was;
      on = λ x q is. stands.on.each x q ((is_staled v set 8 core.config).lives x q (on_live (staled v set core.config 8) x q (sym (active_was x q) ∙ is)));
      faults = faults;
      unsure = unsure;
    }

    pub taken_off : AreOn core.config v set → AreOff e.config v set
    taken_off those = record {
      each = λ q in_it. false_from_ne_true (active e.config v q) (λ is.
          let lt : q < 8 = active_few core.config (sound_of core m stands) v q (those.each q in_it) in
          both_ways (live (staled v set core.config 8) v q) ((is_staled v set 8 core.config).off q lt in_it) (on_live (staled v set core.config 8) v q (sym (active_was v q) ∙ is)));
    }

    pub taken_others : (x q : ℕ) → (x ≡ v → bit_at set q ≡ true → ⊥) → active e.config x q ≡ active core.config x q
    taken_others x q apart = active_was x q ∙ active_left v set 8 core.config x q (λ same lt. apart same)

  -- refused
  module _ (a : Config) (why : No) (left : Left core.good core.config a e.config m m' why) (good : e.good ≡ core.good) (un : e.unsettled ≡ true) where
    pub left_Stands : Trusts e.committed e.agreed core.good m' → InnerStands e m'
    left_Stands trusts = made e m' wanted can (few_same (ap length left.volumes)) (small_same (λ x. ap (λ (vs : List VolumeEntry). blocks_of vs x) left.volumes)) (still_large m m' acts.units acts.size stands.large) on
        (subst (λ (g : ℕ). NoneGood e.config.disks (length e.config.disks) g → ⊥) (sym good)
        (subst (λ (ds : List DiskEntry). NoneGood ds (length ds) core.good → ⊥) (sym left.disks) stands.some))
        (subst (λ (g : ℕ). Kept e.config (Member g m') m') (sym good) left.kept) (λ is. absurd (let clash : true ≡ false = sym un ∙ is in cc)) (subst (λ (g : ℕ). Trusts e.committed e.agreed g m') (sym good) trusts)

    pub left_others : (x q : ℕ) → (x ≡ v → bit_at set q ≡ true → ⊥) → active e.config x q ≡ active core.config x q
    left_others x q apart = active_volumes e.config core.config left.volumes x q

    pub left_Narrows : Narrows core e m m'
    left_Narrows = record {
      acts = acts;
      shape = alike_shape e.config core.config core.config left.volumes (same_shape core.config);
      on = λ x q is. sym (active_volumes e.config core.config left.volumes x q) ∙ is;
      faults = faults;
      unsure = unsure;
    }

-- ---- why

module _ (good : ℕ) (a : Config) (last : ℕ) (old new : Meaning) (some : NoneGood a.disks (length a.disks) good → ⊥) (up : IsTrue new.down → ⊥) where
  pub stop_blames : (why : No) (device : ℕ) → CommitStops good a last old new why → BlamesOr {T = Unit {0}} device old new (Err (fault_of why device))
  stop_blames (refusal.Device disk) device stops = (⊎_elim (λ rose. inl rose) (λ none. absurd (some none.0)) stops.1, up)
  stop_blames refusal.Down device stops = stops.1
  stop_blames other device stops = (inr refl, up)

  pub stop_sure : (why : No) (device : ℕ) → a.serial < greatest → CommitStops good a last old new why → Blames {T = Unit {0}} old new (Err (fault_of why device))
  stop_sure (refusal.Device disk) device more stops = (⊎_elim (λ rose. rose) (λ none. absurd (some none.0)) stops.1, up)
  stop_sure refusal.Down device more stops = stops.1
  stop_sure (refusal.Limit Number most) device more stops = absurd (let le : greatest ≤ a.serial = stops.0 in omega (arith, le, more))
  stop_sure other device more stops = absurd stops

-- ---- the configuration that is committed

pub staled_some : (c : Config) (v set good : ℕ) → (NoneGood c.disks (length c.disks) good → ⊥) → NoneGood (staled v set c 8).disks (length (staled v set c 8).disks) good → ⊥
staled_some c v set good some = subst (λ (ds : List DiskEntry). NoneGood ds (length ds) good → ⊥) (sym (is_staled v set 8 c).disks) some

pub staled_less : (c : Config) (v set : ℕ) → c.serial < greatest → (staled v set c 8).serial < greatest
staled_less c v set less = let same = (is_staled v set 8 c).serial in omega (arith, same, less)
