-- All that disks tell behind a deport of a group with logs.
use Rattle.std.proofs.Common.{◌≡◌, ◌∙◌, inl, inr, ℕ, ◌≤◌, Bool, true, false, IsTrue, Option, None, Some, List, length, refl, sym, ap, subst, arith}
use Rattle.std.specs.Prelude.{not}
use Rattle.std.proofs.lemmas.Bool.{cases_lt}
use Rattle.vx_config.specs.declared.config.Config.{Config}
use Rattle.vx_config.specs.declared.entry.LogEntry.{LogEntry}
use Rattle.vx_config.specs.declared.entry.VolumeLog.{VolumeLog}
use Rattle.vx_config.specs.declared.entry.VolumeLog.TheVariants.{Drl, Fmr}
use Rattle.vx_copyfmt.specs.Imports.{Found}
use Rattle.vx_disk.specs.Shelf.{Each, Image, Meaning}
use Rattle.vx_group.specs.Deports.{DeportedBy}
use Rattle.vx_group.specs.Holding.{wide}
use Rattle.vx_group.specs.declared.group_core.GroupCore.{GroupCore}
use Rattle.vx_group.proofs.HoldLemmas.{wide_shape}
use Rattle.vx_kept.specs.Groups.{found}
use Rattle.vx_maplog.specs.Logs.{used_or}
use Rattle.vx_kept.specs.LogRuns.{log_trusted}
use Rattle.vx_logimport.specs.Covers.{DisksCover, DisksTell}
use Rattle.vx_logimport.specs.Rests.{AlikeRests, LogsTell, MapsRest, rests}
use Rattle.vx_logimport.specs.declared.rested.Rested.{Rested}
use Rattle.vx_logs.specs.Held.{InUse}
use Rattle.vx_logs.specs.declared.logs.Logs.{Logs}
use Rattle.vx_loggroup.specs.LoggedVolumes.{LoggedStands, is_alike}
use Rattle.vx_loggroup.specs.Moving.{RestsMaps}
use Rattle.vx_loggroup.specs.Opens.{RestTells}
use Rattle.vx_loggroup.specs.Resting.{AllRest}
use Rattle.vx_loggroup.proofs.DeportedLogs.{deport_covers, deport_told}
use Rattle.vx_loggroup.proofs.NewLemmas.{HasMaps, has_maps}
use Rattle.vx_loggroup.proofs.RestedLogs.{alike_rest, maps_rest}
use Rattle.vx_loggroup.proofs.SetLemmas.{item_at}

trusts : (x : Config) (v : ℕ) (log : VolumeLog) (e : LogEntry) → InUse x v log e → log_trusted x v log ≡ true
unfolding log_trusted
trusts x v log e it = ap used_or it.is ∙ ap not it.kept

-- ---- what is answered

pub some_rested : (r s : Rested) → Some r ≡ Some s → r ≡ s
some_rested r s is = cc

pub no_rested : {A : Type 0} (r : Rested) → None ≡ Some r → A
no_rested r is = absurd (let clash : None ≡ Some r = is in cc)

pub rests_by : (c : Config) (s : Bool) (logs : List Logs) (alike : List Bool) (r : Rested) → s ≡ false → AllRest c logs alike r → RestsMaps c s logs alike r
rests_by c s logs alike r going it = record {
  going = going;
  maps = λ v f is. let now : HasMaps logs v f = has_maps logs v f is in (it.each v now.logs now.at).some f now.has;
  there = λ v l at on. (it.each v l at).has on;
  same = λ v is. ap (λ (flags : List Bool). rests flags v) it.same ∙ is;
  lacks = λ v l at off. (it.each v l at).lacks off;
}

-- ---- what the disks tell

module _ (c : GroupCore) (ls : List Logs) (a : List Bool) (m new : Meaning) (stands : LoggedStands c ls a false m) (it : DeportedBy (wide c).config c.inner m new) (up : IsTrue new.down → ⊥) (r : Rested) (rested : AllRest c.inner.config ls a r) where
  -- of a volume that there is not no image trusts a log
  none_beyond : (v : ℕ) → length c.inner.config.volumes ≤ v → (i : Image) (x : Config) → Each new.leaves i → found new i ≡ Found x → (log : VolumeLog) (e : LogEntry) → InUse x v log e → ⊥
  none_beyond v le i x each is log e in_use =
      let kin = it.kept.kin i x each is in
      let same = it.quiesces.shape.volumes in
      let clash : true ≡ false = sym (trusts x v log e in_use) ∙ kin.shape.beyond v log (omega (arith, le, same)) in cc

  covers_of : (v : ℕ) → DisksCover v new
  covers_of v = elim (cases_lt v (length c.inner.config.volumes)) [
    | inl lt ↦
        let item = item_at ls v (let many = stands.many in omega (arith, lt, many)) in
        let same = (wide_shape c).volumes in
        deport_covers c m new stands.group it v item.0 (omega (arith, lt, same)) ((stands.each v item.0 item.1).on refl)
    | inr le ↦ record {
      covers = λ i x each is. record { so = λ e p q b y z w in_use inside live_p live_q left off at_p at_q. absurd (none_beyond v le i x each is Drl e in_use) };
    }
  ]

  drl_of : (v : ℕ) → rests r.drls v ≡ true → DisksTell v new
  drl_of v may = elim (cases_lt v (length c.inner.config.volumes)) [
    | inl lt ↦
        let item = item_at ls v (let many = stands.many in omega (arith, lt, many)) in
        let same = (wide_shape c).volumes in
        deport_told c m new stands.group it v item.0 (omega (arith, lt, same)) ((stands.each v item.0 item.1).on refl)
        (inl (λ trusted none. (rested.each v item.0 item.1).kept may ((wide_shape c).trusted v Drl trusted) none))
    | inr le ↦ record {
      covers = (covers_of v).covers;
      settled = λ i x each is. record { one = λ e k y z in_use low left_y left_z. absurd (none_beyond v le i x each is Drl e in_use) };
    }
  ]

  alike_of : (v : ℕ) → rests r.alike v ≡ true → AlikeRests v new
  alike_of v is = alike_rest c m new stands.group it up v (λ lt.
      let item = item_at ls v (let many = stands.many in omega (arith, lt, many)) in
      (stands.each v item.0 item.1).alike (ap (λ (flags : List Bool). is_alike flags v) (sym rested.same) ∙ is) (λ down. up (it.quiesces.acts.falls down)))

  maps_of : (v : ℕ) → rests r.maps v ≡ true → MapsRest v new
  maps_of v is = elim (cases_lt v (length c.inner.config.volumes)) [
    | inl lt ↦
        let item = item_at ls v (let many = stands.many in omega (arith, lt, many)) in
        maps_rest c m new stands.group it up item.0 v ((stands.each v item.0 item.1).on refl) ((stands.each v item.0 item.1).maps refl) ((rested.each v item.0 item.1).has is) lt
    | inr le ↦ record {
      each = λ i x each at clean. record {
        so = λ e p q b y z w in_use has on_q inside low left off at_p at_q. absurd (none_beyond v le i x each at Fmr e in_use);
        one = λ e k y z in_use some low left_y left_z. absurd (none_beyond v le i x each at Fmr e in_use);
      };
    }
  ]

  pub rest_tells : LogsTell r new
  rest_tells = record { covers = covers_of; drl = drl_of; alike = alike_of; maps = maps_of }

-- where something is answered
pub tells_by : (c : GroupCore) (ls : List Logs) (a : List Bool) (s : Bool) (m new : Meaning) → LoggedStands c ls a s m → DeportedBy (wide c).config c.inner m new → (IsTrue new.down → ⊥) → (o : Option Rested)
    → ((r : Rested) → o ≡ Some r → (s ≡ false) × AllRest c.inner.config ls a r) → RestTells o new
tells_by c ls a s m new stands it up None why = tt
tells_by c ls a s m new stands it up (Some r) why =
    let so = why r refl in
    rest_tells c ls a m new (subst (λ (t : Bool). LoggedStands c ls a t m) so.0 stands) it up r so.1
