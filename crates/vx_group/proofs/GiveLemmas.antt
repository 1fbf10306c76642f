-- When a write or a flush of a volume gives up.
use Rattle.std.proofs.Common.{◌≡◌, ◌⊎◌, inl, inr, ⊎_elim, ℕ, zero, suc, ◌≤◌, Bool, IsTrue, Result, Ok, Err, IfErr, refl, ap, sym, ◌∙◌}
use Rattle.std.specs.Prelude.{if◌then◌else◌}
use Rattle.vx_disk.specs.Shelf.{Meaning}
use Rattle.vx_disk.specs.declared.shelf.ShelfError.{ShelfError}
use Rattle.vx_disk.specs.declared.shelf.ShelfError.TheVariants.{Fault, Down}
use Rattle.vx_disk.proofs.Causing.{Rose_before}
use Rattle.vx_model.specs.declared.no.No.{No}
use Rattle.vx_model.specs.declared.no.No.TheVariants as refusal
use Rattle.vx_config.specs.declared.config.Config.{Config}
use Rattle.vx_volume.specs.Volumes.{EndsAt, PlexBlamed}
use Rattle.vx_kept.specs.States.{stale_at, staled}
use Rattle.vx_kept.proofs.Chosen.{active_volumes}
use Rattle.vx_group.specs.Blames.{Blames, BlamesOr, fault_of}
use Rattle.vx_group.specs.GivesUp.{EachBlamed, GivesUp, KeepsVolumes, NoCommit}
use Rattle.vx_group.specs.declared.inner.Inner.{Inner}
use Rattle.vx_group.proofs.DetachLemmas.{zero_bit}
use Rattle.vx_group.proofs.UsesLemmas.{uses_volumes}

-- no plex of an empty set is made STALE
pub staled_none : (v set n : ℕ) (c : Config) → set ≡ 0 → staled v set c n ≡ c
staled_none v set zero c is = refl
staled_none v set (suc n) c is = ap (λ (b : Bool). if b then stale_at v n (staled v set c n) else staled v set c n) (zero_bit set n is) ∙ staled_none v set n c is

pub none_changed : (v set : ℕ) (c d : Config) → d.volumes ≡ (staled v set c 8).volumes → set ≡ 0 → d.volumes ≡ c.volumes
none_changed v set c d same is = same ∙ ap (λ (x : Config). x.volumes) (staled_none v set 8 c is)

pub keeps_volumes : (c d : Config) (error : ShelfError) → d.volumes ≡ c.volumes → KeepsVolumes {T = Unit {0}} c d (Err error)
keeps_volumes c d (Fault disk) same = same
keeps_volumes c d Down same = tt

-- behind a refusal the volumes are as they were, or the shelf is down
pub kept_or_down : (b c d : Config) (old new : Meaning) (error : ShelfError) → c.volumes ≡ b.volumes → KeepsVolumes {T = Unit {0}} c d (Err error) → Blames {T = Unit {0}} old new (Err error) → IsTrue new.down ⊎ (d.volumes ≡ b.volumes)
kept_or_down b c d old new (Fault disk) volumes keeps why = inr (keeps ∙ volumes)
kept_or_down b c d old new Down volumes keeps down = inl down

-- ---- why

blamed_before : (c d : Config) (v p : ℕ) (old mid new : Meaning) → d.volumes ≡ c.volumes → ((u : ℕ) → old.faults u ≤ mid.faults u) → PlexBlamed d v p mid new → PlexBlamed c v p old new
blamed_before c d v p old mid new same before blamed = record { disk = blamed.disk; is_its = sym (uses_volumes c d same v p blamed.disk) ∙ blamed.is_its; rose = Rose_before _ _ _ (before blamed.disk) blamed.rose }

pub each_before : (c d : Config) (v : ℕ) (old mid new : Meaning) → d.volumes ≡ c.volumes → ((u : ℕ) → old.faults u ≤ mid.faults u) → EachBlamed d v mid new → EachBlamed c v old new
each_before c d v old mid new same before blamed = record { each = λ p is_on. blamed_before c d v p old mid new same before (blamed.each p (active_volumes d c same v p ∙ is_on)) }

-- the commit that detaches plexes
pub detach_gives : {T : Type 0} (v : ℕ) (c d : Inner) (device : ℕ) (old mid new : Meaning) (r : Result T ShelfError) → KeepsVolumes c.config d.config r → BlamesOr device mid new r → IfErr r (λ e. NoCommit d new) → GivesUp v c d old new r
detach_gives v c d device old mid new (Ok x) keeps blames missed = tt
detach_gives v c d device old mid new (Err (Fault disk)) keeps blames missed = (keeps, inr (⊎_elim (λ un. un) (λ down. absurd (blames.1 down)) missed))
detach_gives v c d device old mid new (Err Down) keeps blames missed = tt

-- the plexes
pub ends_gives : (v : ℕ) (c : Inner) (done : ℕ → Type 0) (old new : Meaning) (why : No) (device : ℕ) → EndsAt c.config v done old new (Err why) → GivesUp {T = Unit {0}} v c c old new (Err (fault_of why device))
ends_gives v c done old new (refusal.Device disk) device failed = (refl, inl (record { each = failed.each }))
ends_gives v c done old new refusal.Down device down = tt
ends_gives v c done old new other device ends = absurd ends

-- the commit before
pub ready_gives : (v : ℕ) (c d : Inner) (error : ShelfError) (old new : Meaning) → d.config.volumes ≡ c.config.volumes → Blames {T = Unit {0}} old new (Err error) → NoCommit d new → GivesUp {T = Unit {0}} v c d old new (Err error)
ready_gives v c d (Fault disk) old new same blames missed = (same, inr (⊎_elim (λ un. un) (λ down. absurd (blames.1 down)) missed))
ready_gives v c d Down old new same blames missed = tt

-- behind it
pub later_gives : (v : ℕ) (c mid d : Inner) (error : ShelfError) (m0 m1 m2 : Meaning) → mid.config.volumes ≡ c.config.volumes → ((u : ℕ) → m0.faults u ≤ m1.faults u) → GivesUp {T = Unit {0}} v mid d m1 m2 (Err error) → GivesUp {T = Unit {0}} v c d m0 m2 (Err error)
later_gives v c mid d (Fault disk) m0 m1 m2 same before gives = (
  gives.0 ∙ same,
  ⊎_elim (λ blamed. inl (each_before c.config mid.config v m0 m1 m2 same before blamed)) (λ un. inr un) gives.1,
)
later_gives v c mid d Down m0 m1 m2 same before gives = tt

-- faults and marks of the core are not looked at
pub same_gives : (v : ℕ) (c d e : Inner) (error : ShelfError) (m0 m1 : Meaning) → e.config ≡ d.config → e.unsettled ≡ d.unsettled → GivesUp {T = Unit {0}} v c d m0 m1 (Err error) → GivesUp {T = Unit {0}} v c e m0 m1 (Err error)
same_gives v c d e (Fault disk) m0 m1 config un gives = (ap (λ (x : Config). x.volumes) config ∙ gives.0, ⊎_elim (λ blamed. inl blamed) (λ was. inr (un ∙ was)) gives.1)
same_gives v c d e Down m0 m1 config un gives = tt
