-- A deport, over the core of a group.
use Rattle.std.proofs.Common.{◌≡◌, inl, inr, ℕ, ◌<◌, ◌≤◌, true, false, IsTrue, length, Result, Ok, Err, refl, ap, sym, ◌∙◌, arith}
use Rattle.std.proofs.lemmas.Bool.{both_ways, cases_lt, false_from_ne_true}
use Rattle.std.proofs.lemmas.Option.{slice_get_past}
use Rattle.vx_disk.specs.Causes.{DeviceCause, refusal_of}
use Rattle.vx_disk.specs.Shelf.{Meaning, Nothing}
use Rattle.vx_disk.specs.declared.shelf.ShelfError.{ShelfError}
use Rattle.vx_disk.specs.declared.shelf.ShelfError.TheVariants.{Fault, Down}
use Rattle.vx_model.specs.declared.errors.Stop.{Stop}
use Rattle.vx_model.specs.declared.no.No.{No}
use Rattle.vx_config.specs.Configs.{CanSpell}
use Rattle.vx_config.specs.declared.config.Config.{Config}
use Rattle.vx_copies.specs.Answers.{good_set}
use Rattle.vx_copies.specs.Bodies.{is_wanted}
use Rattle.vx_copies.specs.Commits.{HeldGood}
use Rattle.vx_layout.specs.Places.{plex_in}
use Rattle.vx_volume.specs.Plexes.{active, active_or}
use Rattle.vx_volume.proofs.PlaceLemmas.{active_few}
use Rattle.vx_kept.specs.Cleans.{Shown, at_serial, cleaned, is_unsure}
use Rattle.vx_kept.specs.Commits.{Left, Member}
use Rattle.vx_kept.specs.Keeping.{Acts, Sees}
use Rattle.vx_kept.proofs.Chosen.{active_volumes}
use Rattle.vx_kept.proofs.CleanLemmas.{AllClean, all_clean}
use Rattle.vx_kept.proofs.Committed.{take_on}
use Rattle.vx_kept.proofs.Facts.{to_fact}
use Rattle.vx_kept.proofs.Narrower.{on_live}
use Rattle.vx_kept.proofs.StateLemmas.{same_shape}
use Rattle.vx_kept.specs.Trusts.{Trusts}
use Rattle.vx_group.specs.Blames.{Blames, StopsByDevice}
use Rattle.vx_group.specs.Deports.{CleanCommitted, Closes, CommitCloses, CommitMissed, Deported, IsVolumeOf}
use Rattle.vx_group.specs.Moves.{Narrows}
use Rattle.vx_group.specs.Quiesces.{GivenBack, NoVolume, Quiesced, Quiesces}
use Rattle.vx_group.specs.Settled.{SameBut}
use Rattle.vx_group.specs.Stands.{InnerStands}
use Rattle.vx_group.specs.declared.inner.Inner.{Inner}
use Rattle.vx_copies.specs.Commits.{MoreFailed}
use Rattle.vx_group.proofs.FailingLemmas.{failing_from, no_failing, then_failing}
use Rattle.vx_group.proofs.CallLemmas.{blames_later}
use Rattle.vx_group.proofs.DetachLemmas.{left_Narrows, left_Stands}
use Rattle.vx_group.proofs.QuiesceLemmas.{both_parts, both_quiesce, quiet, same_parts}
use Rattle.vx_group.proofs.Standing.{apart_of_core, sound_of}
use Rattle.vx_group.proofs.LoseLemmas.{but_parts}

-- a plex that is ACTIVE is one of a volume
active_there : (c : Config) (v p : ℕ) → IsTrue (active c v p) → v < length c.volumes
unfolding active
active_there c v p is = elim (cases_lt v (length c.volumes)) [
  | inl lt ↦ lt
  | inr le ↦ absurd (both_ways (active c v p) (ap (λ o. active_or (plex_in o p)) (slice_get_past c.volumes v le)) is)
]

-- ---- done

module _ (core : Inner) (d : Config) (m m' : Meaning) (stands : InnerStands core m) (acts : Acts Nothing (Sees core.config (Member core.good m) m) m m')
    (shown : Shown core.config (cleaned core.unsure core.config (length core.config.volumes)) d m m') (trusts : core.committed ≡ true → Trusts true true (good_set d.disks) m') where
  all : AllClean core.unsure (length core.config.volumes) core.config (cleaned core.unsure core.config (length core.config.volumes))
  all = all_clean core.unsure (length core.config.volumes) core.config

  off_in : (v p : ℕ) → is_unsure core.unsure v ≡ false → active d v p ≡ false
  off_in v p sure = false_from_ne_true (active d v p) (λ is_d.
      let a : Config = cleaned core.unsure core.config (length core.config.volumes) in
      let is : IsTrue (active a v p) = sym (active_volumes d a shown.grown.volumes v p) ∙ is_d in
      let is_c : IsTrue (active core.config v p) = stands.on.each v p (sym (all.alike.lives v p) ∙ on_live a v p is) in
      both_ways (active a v p) (all.off v p (active_there core.config v p is_c) sure (active_few core.config (sound_of core m stands) v p is_c)) is)

  pub closed : CleanCommitted core m m'
  closed = record {
    config = d;
    finds = shown.finds;
    reads = shown.reads;
    site = shown.grown.site ∙ all.alike.site;
    rvg = shown.grown.rvg ∙ all.alike.rvg;
    count = shown.grown.disks.count ∙ ap length all.alike.disks;
    later = shown.later;
    volumes = shown.grown.volumes;
    off = off_in;
    failing = failing_from m m' (cleaned core.unsure core.config (length core.config.volumes)).disks core.config.disks d.disks all.alike.disks shown.grown.disks;
    acts = acts;
    kept = to_fact (at_serial d.serial core.config) (HeldGood d m') m' shown.kept;
    trusts = trusts;
    some = shown.some;
  }

-- ---- refused

module _ (core e : Inner) (m m' : Meaning) (stands : InnerStands core m) (acts : Acts Nothing (Sees core.config (Member core.good m) m) m m')
    (wanted : is_wanted m'.units m'.size e.config ≡ true) (can : CanSpell e.config) (faults : e.faults ≡ core.faults) (unsure : e.unsure ≡ core.unsure)
    (a : Config) (why : No) (left : Left core.good core.config a e.config m m' why) (good : e.good ≡ core.good) (un : e.unsettled ≡ true) (trusts : Trusts e.committed e.agreed core.good m') where
  pub given_back : CommitMissed core e m m'
  given_back =
      let on = take_on core.config e.config left.volumes stands.on in
      record {
        stands = left_Stands core e 0 0 m m' stands acts wanted can on faults unsure a why left good un trusts;
        parts = record { site = left.site; rvg = left.rvg; count = ap length left.disks; later = left.later };
        narrows = left_Narrows core e 0 0 m m' stands acts wanted can on faults unsure a why left good un;
        volumes = left.volumes;
        disks = left.disks;
      }

-- ---- behind the flushes

-- a commit, as flushes of no volume
committed_quiet : (c : Inner) (m m' : Meaning) → CleanCommitted c m m' → Quiesces c c NoVolume m m'
committed_quiet c m m' it = quiet c c m m' (record { acts = it.acts; shape = same_shape c.config; on = λ v p is. is; faults = refl; unsure = refl }) refl (no_failing m m' c.config.disks c.config.disks refl) (same_parts c)

-- headers that were written back
pub settled_back : (core mid : Inner) (m m1 : Meaning) → InnerStands mid m1 → Narrows core mid m m1 → SameBut core.config mid.config → MoreFailed m m1 core.config.disks mid.config.disks → GivenBack core mid m m1
settled_back core mid m m1 stands narrows same failing = record { stands = stands; parts = but_parts core.config mid.config same; quiesces = quiet core mid m m1 narrows same.volumes failing (but_parts core.config mid.config same) }

module _ (core mid fl d : Inner) (m m1 m2 last : Meaning) (begun : InnerStands core m) (narrows : Narrows core mid m m1) (same : SameBut core.config mid.config) (failing : MoreFailed m m1 core.config.disks mid.config.disks) (up1 : IsTrue m1.down → ⊥) (flag : mid.committed ≡ core.committed) where
  readied : Quiesces core mid NoVolume m m1
  readied = quiet core mid m m1 narrows same.volumes failing (but_parts core.config mid.config same)

  as_mid : (v : ℕ) → IsVolumeOf core v → IsVolumeOf mid v
  as_mid v lt = let n : length mid.config.volumes ≡ length core.config.volumes = ap length same.volumes in omega (arith, n, lt)

  -- refused before the commit
  pub back_flushed : GivenBack mid fl m1 m2 → GivenBack core fl m m2
  back_flushed it = record {
    stands = it.stands;
    parts = both_parts core mid fl (but_parts core.config mid.config same) it.parts;
    quiesces = both_quiesce core mid fl NoVolume NoVolume NoVolume m m1 m2 (apart_of_core core m begun) readied it.quiesces up1 (λ v none. inl none);
  }

  module _ (flushed : Quiesced mid fl (IsVolumeOf mid) m1 m2) where
    drained : Quiesces core fl (IsVolumeOf core) m m2
    drained = both_quiesce core mid fl NoVolume (IsVolumeOf mid) (IsVolumeOf core) m m1 m2 (apart_of_core core m begun) readied flushed.quiesces up1 (λ v lt. inr (as_mid v lt))

    back_later : CommitMissed fl d m2 last → GivenBack core d m last
    back_later it = record {
      stands = it.stands;
      parts = both_parts core fl d (both_parts core mid fl (but_parts core.config mid.config same) flushed.parts) it.parts;
      quiesces = both_quiesce core fl d (IsVolumeOf core) NoVolume NoVolume m m2 last (apart_of_core core m begun) drained (quiet fl d m2 last it.narrows it.volumes (no_failing m2 last fl.config.disks d.config.disks it.disks) it.parts) flushed.up (λ v none. absurd none);
    }

    deported_later : CleanCommitted fl m2 last → Deported core m last
    deported_later it = record {
      behind = fl;
      quiesces = both_quiesce core fl fl (IsVolumeOf core) NoVolume (IsVolumeOf core) m m2 last (apart_of_core core m begun) drained (committed_quiet fl m2 last it) flushed.up (λ v lt. inl lt);
      config = it.config;
      finds = it.finds;
      reads = it.reads;
      parts = record { site = it.site ∙ flushed.parts.site ∙ same.site; rvg = it.rvg ∙ flushed.parts.rvg ∙ same.rvg; count = it.count ∙ flushed.parts.count ∙ same.count; later = (let one = same.serial in let two = flushed.parts.later in let three = it.later in omega (arith, one, two, three)) };
      volumes = it.volumes ∙ ap (λ (n : ℕ). (cleaned fl.unsure fl.config n).volumes) drained.shape.volumes;
      off = it.off;
      failing = then_failing m m2 last drained.acts.faults it.acts.faults core.config.disks fl.config.disks it.config.disks drained.loses.disks it.failing;
      kept = it.kept;
      trusts = λ is. it.trusts (flushed.trust (flag ∙ is));
      some = it.some;
    }

    pub closes_later : {T E : Type 0} (r : Result T E) → CommitCloses fl d m2 last r → Closes core d m last r
    closes_later (Ok x) it = deported_later it
    closes_later (Err e) it = back_later it

pub stops_later : {T : Type 0} (r : Result T ShelfError) (old mid new : Meaning) → ((d : ℕ) → old.disk_faults d ≤ mid.disk_faults d) → StopsByDevice mid new r → StopsByDevice old new r
stops_later (Ok x) old mid new before up = tt
stops_later (Err (Fault d)) old mid new before why = blames_later {T = Unit {0}} (Err (Fault d)) old mid new before why
stops_later (Err Down) old mid new before down = down

pub blames_stop : (old new : Meaning) (e : ShelfError) → Blames {T = Unit {0}} old new (Err e) → StopsByDevice {T = Unit {0}} old new (Err e)
blames_stop old new (Fault d) why = why
blames_stop old new Down down = down

pub stops_cause : (T : Type 0) (old new : Meaning) (e : ShelfError) → StopsByDevice {T = T} old new (Err e) → DeviceCause old new (refusal_of e)
stops_cause T old new (Fault d) why = why.0
stops_cause T old new Down down = down

-- ---- what is answered for want of serials

pub full_ok : {x : Unit {0}} {why : Stop} → ◌≡◌ {A = Result (Unit {0}) Stop} (Ok x) (Err why) → ⊥
full_ok is = cc

pub full_err : (stop : Stop) {why : Stop} → ◌≡◌ {A = Result (Unit {0}) Stop} (Err stop) (Err why) → stop ≡ why
full_err stop is = cc
